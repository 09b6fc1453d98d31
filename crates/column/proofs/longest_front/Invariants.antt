-- `column::longest_front` meets its contract: by halves. Assumes nothing.
use Prim.Native.Nat.{◌-◌}
use Rattle.column.proofs.Fronts.{Searching}
use Rattle.column.proofs.longest_front.Given as goal

abbrev pub invariant-loop-lo : goal.invariant-loop-lo
invariant-loop-lo l = Searching l.text l.from l.initial.room l.initial.stack l.room l.stack l.lo l.hi

abbrev pub decreases-loop-lo : goal.decreases-loop-lo
decreases-loop-lo l = l.hi - l.lo
