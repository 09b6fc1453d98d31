-- `letter::gather` meets its contract: what the definition gathers is what it would gather from i on, with what the slots hold. Assumes nothing.
use mathlib.Core.Path.{◌≡◌}
use lib.ListN.{length}
use Rattle.letter.proofs.Gathers.{Going}
use Rattle.letter.proofs.gather.Given as goal

abbrev pub invariant-loop-i : goal.invariant-loop-i
invariant-loop-i l = (length l.line ≡ length l.initial.line) × Going l.input l.at l.line l.t l.i
