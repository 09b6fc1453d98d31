-- `column::is_front` meets its contract: the spellings are the definition's, which antt computes. Assumes nothing.
use mathlib.Core.Path.{refl}
use mathlib.Core.Bool.{◌||◌}
use lib.ListN.{take}
use Rattle.nibl.specs.Words.{keywords, commands}
use Rattle.nibl.specs.found.Column.{all_taken, begun_in}
use Rattle.column.proofs.Fronts.{Found, found-then, found-else, front-found, kept-all, others}
use Rattle.column.proofs.is_front.Goals as goal
use Rattle.column.proofs.is_front.Goals.{then-all_taken, else-all_taken, then-begun_in, else-begun_in}

pub returns-then-begun_in-2-clause-answer : goal.returns-then-begun_in-2-clause-answer
returns-then-begun_in-2-clause-answer c =
    let a = c.args in
    let s = take a.n a.text.now in
    let zero : Found a.text.now a.n (all_taken s) c.all_taken.result a.text.now
    = record { same = c.all_taken.ensures.answer; kept = kept-all a.text.now a.n } in
    let one : Found a.text.now a.n (all_taken s || begun_in keywords s) c.if-all_taken.value c.if-all_taken.text
    = elim c.if-all_taken.branch [
      | then-all_taken w ↦ found-then zero keywords w.if-all_taken.true w.value-is w.text-is
      | else-all_taken w ↦ found-else zero keywords w.if-all_taken.false w.value-is w.begun_in.ensures.answer w.text-is w.begun_in.ensures.text
    ] in
    let two : Found a.text.now a.n ((all_taken s || begun_in keywords s) || begun_in commands s) c.if-begun_in.value c.if-begun_in.text
    = elim c.if-begun_in.branch [
      | then-begun_in w ↦ found-then one commands w.if-begun_in.true w.value-is w.text-is
      | else-begun_in w ↦
          let e = w.begun_in-else-begun_in.ensures in
          found-else one commands w.if-begun_in.false w.value-is e.answer w.text-is e.text
    ] in
    front-found (found-then two others c.if-begun_in-2.true refl refl)

pub returns-else-begun_in-2-clause-answer : goal.returns-else-begun_in-2-clause-answer
returns-else-begun_in-2-clause-answer c =
    let a = c.args in
    let s = take a.n a.text.now in
    let zero : Found a.text.now a.n (all_taken s) c.all_taken.result a.text.now
    = record { same = c.all_taken.ensures.answer; kept = kept-all a.text.now a.n } in
    let one : Found a.text.now a.n (all_taken s || begun_in keywords s) c.if-all_taken.value c.if-all_taken.text
    = elim c.if-all_taken.branch [
      | then-all_taken w ↦ found-then zero keywords w.if-all_taken.true w.value-is w.text-is
      | else-all_taken w ↦ found-else zero keywords w.if-all_taken.false w.value-is w.begun_in.ensures.answer w.text-is w.begun_in.ensures.text
    ] in
    let two : Found a.text.now a.n ((all_taken s || begun_in keywords s) || begun_in commands s) c.if-begun_in.value c.if-begun_in.text
    = elim c.if-begun_in.branch [
      | then-begun_in w ↦ found-then one commands w.if-begun_in.true w.value-is w.text-is
      | else-begun_in w ↦
          let e = w.begun_in-else-begun_in.ensures in
          found-else one commands w.if-begun_in.false w.value-is e.answer w.text-is e.text
    ] in
    let e = c.begun_in-else-begun_in-2.ensures in
    front-found (found-else two others c.if-begun_in-2.false refl e.answer refl e.text)
