use native.Mathlib.Omega.{arith}
use Rattle.column.proofs.Turns.{seek-hit, seek-stop, seek-end, seeking-on}
use Rattle.column.proofs.rules.seek.Goals as goal

pub returns-in-Some : goal.returns-in-Some
returns-in-Some c = seek-hit c.loop-at.invariant (omega arith) c.in-Some.next c.in-Some.ensures

pub returns-then-x-lt-MORE_OF_RELATION : goal.returns-then-x-lt-MORE_OF_RELATION
returns-then-x-lt-MORE_OF_RELATION c = seek-stop c.loop-at.invariant (omega arith) c.in_default.ensures (omega arith)

pub loop-at-preserved : goal.loop-at-preserved
loop-at-preserved c = seeking-on c.loop-at.invariant (omega arith) c.in_default.ensures (omega arith)

pub returns : goal.returns
returns c = seek-end c.loop-at.invariant (omega arith)
