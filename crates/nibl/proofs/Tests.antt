-- Tests, the classes of bytes, and runs of bytes. Assumes nothing.
use Rattle.std.specs.Prelude.{if◌then◌else◌}
use Prim.Native.Nat.{ℕ, ◌≤◌}
use mathlib.Core.Path.{◌≡◌, refl, sym, ap, subst}
use mathlib.Core.Bool.{Bool, true, false, not, ◌&&◌, ◌||◌, false≢true}
use mathlib.Core.List.{List, [], ◌∷◌, ◌++◌}
use mathlib.Core.Option.{Option, some}
use native.Mathlib.Omega.{arith}
use borrow.Author.Tests.{leb-true, le-leb, lt-leb, eqb-true, ne_eqb, not-true}
use lib.Dec.{leb, eqb}
use Rattle.nibl.specs.Bytes.{is_space, is_digit, is_capital, All, none as done, each, starts, front, past, all}
use Rattle.nibl.specs.Words.{pairs, is_symbol, ByteRun}

-- a fact about a choice, from the fact at each branch with what the test gave
module _ {A : Type 0} (P : A → Type 0) where
  pub if-split : (t : Bool) {a b : A} → (t ≡ true → P a) → (t ≡ false → P b) → P (if t then a else b)
  if-split true f g = f refl
  if-split false f g = g refl

pub and_left : (a b : Bool) → (a && b) ≡ true → a ≡ true
and_left true b e = refl
and_left false b e = e

pub and_right : (a b : Bool) → (a && b) ≡ true → b ≡ true
and_right true b e = e
and_right false b e = absurd (false≢true e)

pub or_cases : {P : Type 0} (a b : Bool) → (a || b) ≡ true → (a ≡ true → P) → (b ≡ true → P) → P
or_cases true b e f g = f refl
or_cases false b e f g = g e

-- a byte of a list of bytes has what each byte of the list has
one_of : Bool → List ℕ → ℕ → Bool
one_of t [] b = t
one_of t (k ∷ ks) b = one_of (t || eqb b k) ks b

pub or-true : (a : Bool) → (a || true) ≡ true
or-true true = refl
or-true false = refl

of-those : (p : ℕ → Bool) (b : ℕ) (t : Bool) (ks : List ℕ) → (t ≡ true → p b ≡ true) → all p ks ≡ true → one_of t ks b ≡ true → p b ≡ true
unfolding one_of
of-those p b t [] f a e = f e
of-those p b t (k ∷ ks) f a e =
    of-those p b (t || eqb b k) ks
    (λ h. or_cases t (eqb b k) h f (λ i. subst (λ (x : ℕ). p x ≡ true) (sym (eqb-true b k i)) (and_left (p k) (all p ks) a)))
    (and_right (p k) (all p ks) a) e

abbrev pub symbols : List ℕ
symbols = 40 ∷ 41 ∷ 42 ∷ 43 ∷ 44 ∷ 45 ∷ 47 ∷ 58 ∷ 59 ∷ 60 ∷ 61 ∷ 62 ∷ 64 ∷ []

pub of-symbols : (p : ℕ → Bool) (b : ℕ) → p 36 && all p symbols ≡ true → is_symbol b ≡ true → p b ≡ true
unfolding one_of
of-symbols p b a e =
    of-those p b (eqb b 36) symbols (λ h. subst (λ (x : ℕ). p x ≡ true) (sym (eqb-true b 36 h)) (and_left (p 36) (all p symbols) a))
    (and_right (p 36) (all p symbols) a) e

pub no_symbol : (p : ℕ → Bool) (b : ℕ) → not (p 36) && all (λ x. not (p x)) symbols ≡ true → is_symbol b ≡ true → p b ≡ false
no_symbol p b a e = not-true (p b) (of-symbols (λ x. not (p x)) b a e)

-- what holds of each pair holds of every pair
pub of-pairs : (P : ℕ → ℕ → ℕ → Type 0) (a b k : ℕ) → P 60 61 1 → P 62 61 2 → P 60 62 3 → pairs a b ≡ some k → P a b k
of-pairs P a b k x y z =
    let Q : Option ℕ → Type 0 = λ o. o ≡ some k → P a b k in
    let at : (c d n : ℕ) → P c d n → eqb a c && eqb b d ≡ true → some n ≡ some k → P a b k =
    λ c d n h e i.
    let f = eqb-true a c (and_left (eqb a c) (eqb b d) e) in
    let g = eqb-true b d (and_right (eqb a c) (eqb b d) e) in
    let j : n ≡ k = cc in rw (f, g, ← j) h in
    if-split Q (eqb a 60 && eqb b 61) (at 60 61 1 x) (λ _.
    if-split Q (eqb a 62 && eqb b 61) (at 62 61 2 y) (λ _.
    if-split Q (eqb a 60 && eqb b 62) (at 60 62 3 z) (λ _ e. let n : ◌≡◌ {A = ℕ} 0 1 = cc in absurd (omega arith))))

-- a byte from lo to hi
pub between : (lo hi b : ℕ) → leb lo b && leb b hi ≡ true → (lo ≤ b) × (b ≤ hi)
between lo hi b e = (leb-true lo b (and_left (leb lo b) (leb b hi) e), leb-true b hi (and_right (leb lo b) (leb b hi) e))

-- the classes do not meet
pub capital-other : (b : ℕ) → is_capital b ≡ true → (is_space b ≡ false) × (is_digit b ≡ false)
capital-other b e = let h = between 65 90 b e in (ne_eqb b 32 (omega arith), rw (le-leb 48 b (omega arith), lt-leb b 57 (omega arith)))

pub digit-other : (b : ℕ) → is_digit b ≡ true → (is_space b ≡ false) × (is_capital b ≡ false)
digit-other b e = let h = between 48 57 b e in (ne_eqb b 32 (omega arith), rw (lt-leb 65 b (omega arith)))

-- Runs

pub all_true : {p : ℕ → Bool} {s : List ℕ} → All p s → all p s ≡ true
all_true done = refl
all_true (each {b} {s} e a) = rw e (all_true a)

pub true-all : (p : ℕ → Bool) (s : List ℕ) → all p s ≡ true → All p s
true-all p [] e = done
true-all p (b ∷ s) e = each (and_left (p b) (all p s) e) (true-all p s (and_right (p b) (all p s) e))

pub front-all : (p : ℕ → Bool) (s : List ℕ) → All p (front p s)
front-all p [] = done
front-all p (b ∷ s) = if-split (All p) (p b) (λ e. each e (front-all p s)) (λ _. done)

pub past-stops : (p : ℕ → Bool) (s : List ℕ) → starts p (past p s) ≡ false
past-stops p [] = refl
past-stops p (b ∷ s) = if-split (λ t. starts p t ≡ false) (p b) (λ _. past-stops p s) (λ e. e)

pub front-past : (p : ℕ → Bool) (s : List ℕ) → front p s ++ past p s ≡ s
front-past p [] = refl
front-past p (b ∷ s) = go (p b) refl (front-past p s)
  where
    go : (t : Bool) → p b ≡ t → front p s ++ past p s ≡ s → front p (b ∷ s) ++ past p (b ∷ s) ≡ b ∷ s
    go true e h = rw e (ap (λ (l : List ℕ). b ∷ l) h)
    go false e h = rw e

pub front-run : {p : ℕ → Bool} {ds : List ℕ} → All p ds → (s : List ℕ) → starts p s ≡ false → front p (ds ++ s) ≡ ds
front-run done [] e = refl
front-run done (b ∷ s) e = rw e
front-run (each {b} h a) s e = rw h (ap (λ (l : List ℕ). b ∷ l) (front-run a s e))

pub past-run : {p : ℕ → Bool} {ds : List ℕ} → All p ds → (s : List ℕ) → starts p s ≡ false → past p (ds ++ s) ≡ s
past-run done [] e = refl
past-run done (b ∷ s) e = rw e
past-run (each h a) s e = rw h (past-run a s e)

starts-front : (p : ℕ → Bool) (b : ℕ) (s : List ℕ) → p b ≡ true → starts p (front p (b ∷ s)) ≡ true
starts-front p b s e = rw e e

-- the longest run at the front
pub longest : (p : ℕ → Bool) (b : ℕ) (s : List ℕ) → p b ≡ true → ByteRun p (front p (b ∷ s)) (past p (b ∷ s))
longest p b s e = record { some = starts-front p b s e; each = front-all p (b ∷ s); longest = past-stops p (b ∷ s) }
