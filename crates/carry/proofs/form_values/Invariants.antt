-- `form_values` meets its contract: a value a turn. Assumes nothing.
use Rattle.carry.proofs.Values.{Taking}
use Rattle.carry.proofs.form_values.Given as goal

abbrev pub invariant-loop-i : goal.invariant-loop-i
invariant-loop-i l = Taking l.form l.x-items l.i
