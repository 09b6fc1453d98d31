-- `word::hex_at` meets its contract: `v` is the low 16 bits of the value of the digits passed. Assumes nothing.
-- none, or some that end here
use Prim.Native.Nat.{◌≤◌, ◌<◌}
use lib.ListN.{length}
use Rattle.word.proofs.Numbers.{Hexed}
use Rattle.word.proofs.hex_at.Given as goal

abbrev pub invariant-loop-i : goal.invariant-loop-i
invariant-loop-i l = (l.from ≤ l.i) × (l.i ≤ length l.text) × (l.v < 65536) × Hexed l.text l.from l.v l.i
