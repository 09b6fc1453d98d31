use mathlib.Core.Path.{sym}
use native.Mathlib.Omega.{arith}
use Rattle.column.proofs.Fronts.{beginning-hit, beginning-on, beginning-last}
use Rattle.column.proofs.begun_by.Goals as goal

pub returns-then-begun_at-clause-answer : goal.returns-then-begun_at-clause-answer
returns-then-begun_at-clause-answer c = beginning-hit c.loop-i.invariant (omega arith) c.begun_at.ensures.answer (sym c.if-begun_at.true)

pub loop-i-preserved : goal.loop-i-preserved
loop-i-preserved c =
    let e = c.begun_at.ensures in
    beginning-on c.loop-i.invariant (omega arith) e.answer (sym c.if-begun_at.false) e.text e.size

pub returns-clause-answer : goal.returns-clause-answer
returns-clause-answer c = beginning-last c.loop-i.invariant (omega arith)
