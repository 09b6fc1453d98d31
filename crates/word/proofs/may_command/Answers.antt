-- `word::may_command` meets its contract: by where the run of spaces ends. Assumes nothing.
use Rattle.std.proofs.Common.{◌-◌, length, sym, ◌∙◌, arith, leb-true, leb-false}
use Rattle.std.proofs.lemmas.Bool.{false≢true}
use Rattle.word.proofs.Firsts.{front-other, front-short, front_at}
use Rattle.word.proofs.may_command.Goals as goal
use Rattle.word.proofs.may_command.Goals.{then-letter_at, else-letter_at}

pub returns-then-text-i-ge-FRONT : goal.returns-then-text-i-ge-FRONT
returns-then-text-i-ge-FRONT c =
    let a = c.args in
    let e = c.space_end-i in
    elim c.if-letter_at.branch [
      | then-letter_at w ↦
          c.is_some.ensures
          ∙ front_at a.text.now a.c.at e.result e.ensures (leb-true 3 (length a.text.now - e.result) (sym w.value-is ∙ c.if-text-i-ge-FRONT.true)) (sym c.letter_at.ensures ∙ w.if-letter_at.true) c.key.ensures
          c.index_of.ensures
      | else-letter_at w ↦ absurd (false≢true (sym w.if-letter_at.false ∙ sym w.value-is ∙ c.if-text-i-ge-FRONT.true))
    ]

pub returns-else-text-i-ge-FRONT : goal.returns-else-text-i-ge-FRONT
returns-else-text-i-ge-FRONT c =
    let a = c.args in
    let e = c.space_end-i in
    elim c.if-letter_at.branch [
      | then-letter_at w ↦
          c.if-text-i-ge-FRONT.false
          ∙ front-short a.text.now a.c.at e.result e.ensures (omega (arith, leb-false 3 (length a.text.now - e.result) (sym w.value-is ∙ c.if-text-i-ge-FRONT.false)))
      | else-letter_at w ↦ c.if-text-i-ge-FRONT.false ∙ front-other a.text.now a.c.at e.result e.ensures (sym c.letter_at.ensures ∙ w.if-letter_at.false)
    ]
