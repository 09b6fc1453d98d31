-- `word::decimal_at` meets its contract: `v` is the value of the digits passed. Assumes nothing.
use Prim.Native.Nat.{◌≤◌}
use lib.ListN.{length}
use Rattle.word.proofs.Numbers.{Counted}
use Rattle.word.proofs.decimal_at.Given as goal

abbrev pub invariant-loop-i : goal.invariant-loop-i
invariant-loop-i l = (l.i ≤ length l.text) × (l.v ≤ 32767) × Counted l.text l.from l.v l.i
