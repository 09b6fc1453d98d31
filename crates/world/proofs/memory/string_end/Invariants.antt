-- `string_end` meets its contract: each byte passed may be read and is one of the string. Assumes nothing.
use mathlib.Core.Path.{◌≡◌}
use Rattle.world.proofs.memory.Strings.{ending}
use Rattle.world.proofs.memory.string_end.Given as goal

abbrev pub invariant-loop-at : goal.invariant-loop-at
invariant-loop-at l = ending l.access l.memory l.at ≡ ending l.access l.memory l.a
