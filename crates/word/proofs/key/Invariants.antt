-- `word::key` meets its contract: `k` is the key of the letters from `i` on, and small enough for one more. Assumes nothing.
use Rattle.std.proofs.Common.{◌-◌, ◌^◌, ◌≤◌, ◌<◌, ◌≡◌, length, drop}
use Rattle.word.specs.Found.{key_of}
use Rattle.word.proofs.key.Given as goal

abbrev pub invariant-loop-i : goal.invariant-loop-i
invariant-loop-i l = (l.i ≤ length l.letters) × (l.k ≡ key_of (drop l.i l.letters)) × (l.k < 256 ^ (length l.letters - l.i))
