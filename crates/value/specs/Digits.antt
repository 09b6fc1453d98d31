-- A number's digits from the front, and on their way to the output: the words of the theorems on them.
use Rattle.std.specs.Prelude.{◌≡◌, ℕ, zero, suc, ◌+◌, ◌-◌, ◌/◌, ◌%◌, ◌^◌, ◌<◌, ◌≤◌, List, [], ◌∷◌, length}
use Rattle.std.proofs.lemmas.List.Edits.{sets}
use Rattle.nibl.specs.Values.{digits}

-- k digits of n, the front one by its power of ten and those of the rest, zeros kept
abbrev pub by_powers : ℕ → ℕ → List ℕ
by_powers zero n = []
by_powers (suc k) n = (48 + n / 10 ^ k) ∷ by_powers k (n % 10 ^ k)

-- as many of them by powers of ten as there are, and the number is below the next power
pub record FromFront (n : ℕ) (l : List ℕ) : Type 0 where
  pub same : l ≡ by_powers (length l) n
  pub below : n < 10 ^ length l

-- of `count` digits those before `next` are put, and `left` is still to be put, by the others
pub record Putting (before : List ℕ) (count n : ℕ) (rest : List ℕ) (left next : ℕ) : Type 0 where
  pub within : next ≤ count
  pub room : count ≤ length rest
  pub long : length rest ≡ length before
  pub below : left < 10 ^ (count - next)
  pub done : sets rest next (by_powers (count - next) left) ≡ sets before 0 (digits n)
