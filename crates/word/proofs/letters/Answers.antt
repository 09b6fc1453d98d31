use Rattle.std.proofs.Common.{◌-◌, drop, sym, ◌∙◌, arith, length-drop, length-take-le}
use Rattle.nibl.specs.Bytes.{is_capital}
use Rattle.word.proofs.Runs.{end-within}
use Rattle.word.proofs.Capitals.{tried-first, tried-on, letters-one, letters-sign, letters-wrong}
use Rattle.word.proofs.letters.Goals as goal
use Rattle.word.proofs.letters.Goals.{else-loop-to-test, then-loop-to-test+in_default+else-to-start-to}

pub returns-then-not-letter_at : goal.returns-then-not-letter_at
returns-then-not-letter_at c =
    let a = c.args in
    letters-one a.commands a.text.now a.from c.requires.0 c.requires.1 (sym c.letter_at.ensures ∙ c.if-not-letter_at.true)

pub loop-to-init : goal.loop-to-init
loop-to-init c =
    let a = c.args in
    tried-first a.commands a.text.now a.from c.requires.0 c.requires.1 c.letters_end-to.ensures

pub slice_bounds-key-end : goal.slice_bounds-key-end
slice_bounds-key-end c =
    omega (arith, c.loop-to.invariant.run, end-within is_capital c.args.text.now c.args.from (omega arith))

pub key-requires : goal.key-requires
key-requires c =
    let a = c.args in
    let t = c.loop-to.invariant in
    omega (arith, t.most, length-take-le (c.loop-to.to - a.from) (drop a.from a.text.now) (omega (arith, t.run, length-drop a.from a.text.now, end-within is_capital a.text.now a.from (omega arith))))

pub returns-in-Some : goal.returns-in-Some
returns-in-Some c =
    let a = c.args in
    letters-sign a.commands a.text.now a.from c.requires.0 c.requires.1 c.loop-to.invariant (omega arith) c.key.ensures c.in-Some.i (sym c.in-Some.is ∙ c.keyword_of.ensures)

pub loop-to-preserved : goal.loop-to-preserved
loop-to-preserved c =
    let a = c.args in
    tried-on a.commands a.text.now a.from c.requires.0 c.requires.1 c.loop-to.invariant (omega arith) c.key.ensures (sym c.in_default.is ∙ c.keyword_of.ensures)

pub returns : goal.returns
returns c =
    let a = c.args in
    let t = c.loop-to.invariant in
    let second = sym c.letter_at.ensures ∙ c.if-not-letter_at.false in
    elim c.loop-to-test.branch [
      | else-loop-to-test w ↦ letters-wrong a.commands a.text.now a.from c.requires.0 c.requires.1 second t (omega arith) c.parting.ensures
      | then-loop-to-test+in_default+else-to-start-to w ↦
          letters-wrong a.commands a.text.now a.from c.requires.0 c.requires.1 second
          (tried-on a.commands a.text.now a.from c.requires.0 c.requires.1 t (omega arith) w.key.ensures (sym w.in_default.is ∙ w.keyword_of.ensures)) (omega arith) c.parting.ensures
    ]
