-- `move_right` meets its contract: when i are left, the others have moved. Assumes nothing.
use Prim.Native.Nat.{◌+◌, ◌-◌}
use mathlib.Core.Path.{◌≡◌}
use lib.ListN.{length, drop}
use lib.Seq.{paste}
use Rattle.page.proofs.move_right.Given as goal

abbrev pub invariant-loop-i : goal.invariant-loop-i
invariant-loop-i l = (length l.s ≡ length l.initial.s) × (l.s ≡ paste l.initial.s (l.to + l.i) (drop (l.from + l.i) l.initial.s) (l.n - l.i))
