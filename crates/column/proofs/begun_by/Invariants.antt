-- `column::begun_by` meets its contract: from the most of the spelling down. Assumes nothing.
use Rattle.column.proofs.Fronts.{Beginning}
use Rattle.column.proofs.begun_by.Given as goal

abbrev pub invariant-loop-i : goal.invariant-loop-i
invariant-loop-i l = Beginning l.initial.text l.n l.z l.initial.stack l.text l.stack l.i

abbrev pub decreases-loop-i : goal.decreases-loop-i
decreases-loop-i l = l.i
