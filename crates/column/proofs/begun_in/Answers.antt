use mathlib.Core.Path.{sym}
use native.Mathlib.Omega.{arith}
use lib.ListN.{get_or}
use Rattle.column.proofs.Fronts.{spelled_at, trying-hit, trying-on, trying-last}
use Rattle.column.proofs.begun_in.Goals as goal

pub returns-then-begun_by-clause-answer : goal.returns-then-begun_by-clause-answer
returns-then-begun_by-clause-answer c =
    let s = c.spell-to.ensures in
    trying-hit c.loop-key.invariant (omega arith) (spelled_at (get_or c.args.keys.now c.loop-key.key-index 0) s.letters s.room) c.begun_by.ensures.answer (sym c.if-begun_by.true)

pub loop-key-preserved : goal.loop-key-preserved
loop-key-preserved c =
    let s = c.spell-to.ensures in
    let e = c.begun_by.ensures in
    trying-on c.loop-key.invariant (omega arith) (spelled_at (get_or c.args.keys.now c.loop-key.key-index 0) s.letters s.room) e.answer (sym c.if-begun_by.false) e.text e.size

pub returns-clause-answer : goal.returns-clause-answer
returns-clause-answer c = trying-last c.loop-key.invariant (omega arith)
