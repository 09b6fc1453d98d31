-- `sum` is safe: what is left stays below 16,777,213.
use Rattle.std.proofs.Common.{◌<◌}
use Rattle.call_table.proofs.sum.Given as goal

abbrev pub invariant-loop-b : goal.invariant-loop-b
invariant-loop-b l = l.sum < 16777213
