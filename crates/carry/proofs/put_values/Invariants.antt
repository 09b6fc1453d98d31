-- `put_values` meets its contract: a variable a turn. Assumes nothing.
use Rattle.carry.proofs.Values.{Putting}
use Rattle.carry.proofs.put_values.Given as goal

abbrev pub invariant-loop-i : goal.invariant-loop-i
invariant-loop-i l = Putting l.initial.output l.x-items l.at l.output l.i
