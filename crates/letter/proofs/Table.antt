-- A rule over a whole table, proved by one test that antt computes, one entry after the other. Assumes nothing.
use mathlib.Core.Path.{◌∙◌, subst, sym}
use mathlib.Core.Bool.{Bool, true, false, ◌&&◌}
use mathlib.Core.List.{List, [], ◌∷◌}
use Prim.Native.Nat.{ℕ, zero, suc, ◌+◌, ◌<◌}
use native.Mathlib.Nat.{add-zero, zero-add, add-suc, suc-add, le_of_suc-le-suc, not-suc-le-zero}
use lib.Dec.{T}
use lib.ListN.{length, get_or}

pub left : (a b : Bool) → T (a && b) → T a
left true b t = tt
left false b t = t

pub right : (a b : Bool) → T (a && b) → T b
right true b t = t
right false b t = absurd t

-- the function f at i, i + 1, ..: n values
abbrev pub values : (ℕ → ℕ) → ℕ → ℕ → List ℕ
values f i zero = []
values f i (suc n) = f i ∷ values f (suc i) n

-- the test q passes at each entry and its place, counted from i
abbrev pub every : (ℕ → ℕ → Bool) → ℕ → List ℕ → Bool
every q i [] = true
every q i (x ∷ xs) = q i x && every q (suc i) xs

from : (q : ℕ → ℕ → Bool) (xs : List ℕ) (i : ℕ) → T (every q i xs) → (k : ℕ) → k < length xs → T (q (i + k) (get_or xs k 0))
from q [] i t k h = absurd (not-suc-le-zero h)
from q (x ∷ xs) i t zero h = subst (λ (m : ℕ). T (q m x)) (sym (add-zero i)) (left (q i x) (every q (suc i) xs) t)
from q (x ∷ xs) i t (suc k) h =
    subst (λ (m : ℕ). T (q m (get_or xs k 0))) (suc-add i k ∙ sym (add-suc i k))
    (from q xs (suc i) (right (q i x) (every q (suc i) xs) t) k (le_of_suc-le-suc h))

pub at : (q : ℕ → ℕ → Bool) (xs : List ℕ) → T (every q 0 xs) → (k : ℕ) → k < length xs → T (q k (get_or xs k 0))
at q xs t k h = subst (λ (m : ℕ). T (q m (get_or xs k 0))) (zero-add k) (from q xs 0 t k h)
