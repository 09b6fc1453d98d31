-- `move_left` meets its contract: after i turns, i bytes have moved. Assumes nothing.
use mathlib.Core.Path.{◌≡◌}
use lib.ListN.{length}
use Rattle.page.specs.Edits.{moved}
use Rattle.page.proofs.move_left.Given as goal

abbrev pub invariant-loop-i : goal.invariant-loop-i
invariant-loop-i l = (length l.s ≡ length l.initial.s) × (l.s ≡ moved l.initial.s l.from l.to l.i)
