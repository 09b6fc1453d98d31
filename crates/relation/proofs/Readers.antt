-- Readers one after another, and at a sign. Assumes nothing.
use Rattle.std.specs.Prelude.{if◌then◌else◌}
use Prim.Native.Nat.{ℕ}
use Prim.Native.String.{String}
use mathlib.Core.Path.{◌≡◌, refl, ap}
use mathlib.Core.Bool.{Bool, true, false}
use mathlib.Core.List.{List, [], ◌∷◌}
use borrow.Author.Tests.{eq-eqb}
use lib.Dec.{eqb}
use Rattle.nibl.specs.Words.{number}
use Rattle.nibl.specs.found.Read.{Found, nothing, found, Reader, and_then, ◌>>=◌, or_else, a_sign, choose, if_key, key, give, fail}
use Rattle.relation.specs.Makes.{Otherwise, nowhere, another}

module _ {A B : Type 0} (F : Reader A) (k : A → Reader B) (s : List ℕ) where
  pub then_found : {a : A} {t : List ℕ} → F s ≡ found a t → (F >>= k) s ≡ k a t
  unfolding ◌>>=◌
  then_found e = ap (λ f. and_then f k) e

  pub then-nothing : F s ≡ nothing → (F >>= k) s ≡ nothing
  unfolding ◌>>=◌
  then-nothing e = ap (λ f. and_then f k) e

-- what was read is changed, and then the reading goes on
module _ {A B C : Type 0} (F : Reader A) (g : A → B) (k : B → Reader C) (s : List ℕ) where
  changed : (f : Found A) → and_then f (λ a. k (g a)) ≡ and_then (and_then f (λ a. give (g a))) k
  changed nothing = refl
  changed (found a t) = refl

  pub mapped : (F >>= (λ a. k (g a))) s ≡ ((F >>= (λ a. give (g a))) >>= k) s
  unfolding ◌>>=◌
  mapped = changed (F s)

-- at a sign
module _ {A : Type 0} (name : String) (R S : Reader A) (s : List ℕ) where
  pub if-there : {t : List ℕ} → a_sign s ≡ found (number name) t → if_key name R S s ≡ R t
  unfolding if_key
  if-there e = rw e (rw (eq-eqb (number name) (number name) refl))

  otherwise : (f : Found ℕ) → Otherwise (number name) f → or_else f (choose ((number name, R) ∷ []) (λ t. S s)) S s ≡ S s
  otherwise f nowhere = refl
  otherwise f (another e) = rw e

  pub if-other : Otherwise (number name) (a_sign s) → if_key name R S s ≡ S s
  unfolding if_key
  if-other h = otherwise (a_sign s) h

-- a sign must follow what was read, and then the reading goes on
module _ {A B : Type 0} (name : String) (F : Reader A) (k : A → Reader B) (s : List ℕ) where
  by-test : (a : A) (b : Bool) (u : List ℕ) → (if b then k a else fail) u ≡ and_then ((if b then give a else fail) u) k
  by-test a true u = refl
  by-test a false u = refl

  by_sign : (a : A) (f : Found ℕ) (t : List ℕ)
      → or_else f (choose ((number name, k a) ∷ []) fail) fail t ≡ and_then (or_else f (choose ((number name, give a) ∷ []) fail) fail t) k
  by_sign a nothing t = refl
  by_sign a (found n u) t = by-test a (eqb n (number name)) u

  by-found : (f : Found A) → and_then f (λ a. key name (k a)) ≡ and_then (and_then f (λ a. key name (give a))) k
  unfolding if_key
  by-found nothing = refl
  by-found (found a t) = by_sign a (a_sign t) t

  pub keyed : (F >>= (λ a. key name (k a))) s ≡ ((F >>= (λ a. key name (give a))) >>= k) s
  unfolding ◌>>=◌
  keyed = by-found (F s)
