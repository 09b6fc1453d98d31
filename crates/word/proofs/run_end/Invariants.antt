-- `word::run_end` meets its contract: the end from `i` on is the end from `from` on. Assumes nothing.
use Rattle.std.proofs.Common.{ℕ, Bool, ◌<◌, ◌≡◌}
use Rattle.word.proofs.Runs.{run_end}
use Rattle.word.proofs.run_end.Given as goal

abbrev pub invariant-loop-i : goal.invariant-loop-i
invariant-loop-i g l =
    (p : ℕ → Bool) → ((b : ℕ) (r : Bool) → b < 256 → goal.F-post g l.passes b r → r ≡ p b) → run_end p l.text l.i ≡ run_end p l.text l.from
