-- `sum_numbers` is safe: what is left stays below 16,777,213.
use Rattle.std.proofs.Common.{◌<◌}
use Rattle.call_table.proofs.sum_numbers.Given as goal

abbrev pub invariant-loop-n : goal.invariant-loop-n
invariant-loop-n l = l.sum < 16777213
