-- Tables of spellings, and the longest of them that begins a text. Assumes nothing.
use Rattle.std.specs.Prelude.{if◌then◌else◌}
use Prim.Native.Nat.{ℕ, zero, suc, ◌≤◌, ◌<◌}
use mathlib.Core.Path.{◌≡◌, refl, sym, ap, ◌∙◌, subst}
use mathlib.Core.Bool.{Bool, true, false, not, ◌&&◌, ◌||◌, false≢true}
use mathlib.Core.List.{List, [], ◌∷◌, ◌++◌}
use mathlib.Core.Option.{none, some}
use native.Mathlib.Omega.{arith}
use borrow.Author.Tests.{leb-true, le-leb, lt-leb, eqb-true, eqb-false, eq-eqb}
use lib.Dec.{leb, eqb}
use lib.ListN.{length, take}
use lib.Seq.{length-take-le}
use Rattle.nibl.specs.Bytes.{same, is_capital, All, none as done, each, front, all}
use Rattle.nibl.specs.Words.{index_from, index_in, begins, none_over}
use Rattle.nibl.specs.found.Read.{letters_step}
use Rattle.nibl.proofs.Tests.{if-split, and_left, and_right, or_cases, or-true}

-- Tables

same-spelling : (xs ys : List ℕ) → same xs ys ≡ true → xs ≡ ys
same-spelling [] [] e = refl
same-spelling [] (y ∷ ys) e = absurd (false≢true e)
same-spelling (x ∷ xs) [] e = absurd (false≢true e)
same-spelling (x ∷ xs) (y ∷ ys) e =
    let h = eqb-true x y (and_left (eqb x y) (same xs ys) e) in
    let i = same-spelling xs ys (and_right (eqb x y) (same xs ys) e) in cc

pub of-table : (p : List ℕ → Bool) (n : ℕ) (table : List (List ℕ)) (w : List ℕ) (k : ℕ) → all p table ≡ true → index_from n table w ≡ some k → p w ≡ true
of-table p n [] w k a e = let z : ◌≡◌ {A = ℕ} 0 1 = cc in absurd (omega arith)
of-table p n (v ∷ vs) w k a e = go (same v w) refl (of-table p (suc n) vs w k (and_right (p v) (all p vs) a)) e
  where
    go : (t : Bool) → same v w ≡ t → (index_from (suc n) vs w ≡ some k → p w ≡ true) → (if t then some n else index_from (suc n) vs w) ≡ some k → p w ≡ true
    go true h f i = subst (λ (x : List ℕ). p x ≡ true) (same-spelling v w h) (and_left (p v) (all p vs) a)
    go false h f i = f i

-- its number is its place from there on
pub place-least : (n : ℕ) (table : List (List ℕ)) (w : List ℕ) (k : ℕ) → index_from n table w ≡ some k → n ≤ k
place-least n [] w k e = let z : ◌≡◌ {A = ℕ} 0 1 = cc in absurd (omega arith)
place-least n (v ∷ vs) w k e = go (same v w) (place-least (suc n) vs w k) e
  where
    go : (t : Bool) → (index_from (suc n) vs w ≡ some k → suc n ≤ k) → (if t then some n else index_from (suc n) vs w) ≡ some k → n ≤ k
    go true f h = let i : n ≡ k = cc in omega arith
    go false f h = omega (arith, f h)

pub same_self : (w : List ℕ) → same w w ≡ true
same_self [] = refl
same_self (c ∷ w) = rw (eq-eqb c c refl) (same_self w)

-- The longest keyword that begins a text

pub begins-short : (w s : List ℕ) → begins w s ≡ true → length w ≤ length s
begins-short [] s e = omega arith
begins-short (c ∷ w) [] e = absurd (false≢true e)
begins-short (c ∷ w) (b ∷ s) e = omega (arith, begins-short w s (and_right (eqb c b) (begins w s) e))

pub begins-taken : (w s : List ℕ) → begins w s ≡ true → take (length w) s ≡ w
begins-taken [] s e = refl
begins-taken (c ∷ w) [] e = absurd (false≢true e)
begins-taken (c ∷ w) (b ∷ s) e =
    let h = eqb-true c b (and_left (eqb c b) (begins w s) e) in
    let i = begins-taken w s (and_right (eqb c b) (begins w s) e) in cc

pub taken-begins : (n : ℕ) (s : List ℕ) → begins (take n s) s ≡ true
taken-begins zero s = refl
taken-begins (suc n) [] = refl
taken-begins (suc n) (b ∷ s) = rw (eq-eqb b b refl) (taken-begins n s)

-- a front part of a run is one of the text
pub take-run : (p : ℕ → Bool) (n : ℕ) (s : List ℕ) → n ≤ length (front p s) → take n s ≡ take n (front p s)
take-run p zero s h = refl
take-run p (suc n) [] h = refl
take-run p (suc n) (b ∷ s) h = go (p b) (take-run p n s) h
  where
    go : (t : Bool) → (n ≤ length (front p s) → take n s ≡ take n (front p s)) → suc n ≤ length (if t then b ∷ front p s else [])
        → b ∷ take n s ≡ take (suc n) (if t then b ∷ front p s else [])
    go true ih k = ap (λ (l : List ℕ). b ∷ l) (ih (omega arith))
    go false ih k = absurd (omega arith)

pub all-taken : {p : ℕ → Bool} {s : List ℕ} (n : ℕ) → All p s → All p (take n s)
all-taken zero a = done
all-taken (suc n) done = done
all-taken (suc n) (each e a) = each e (all-taken n a)

pub run_short : (p : ℕ → Bool) (s : List ℕ) → length (front p s) ≤ length s
run_short p [] = omega arith
run_short p (b ∷ s) = if-split (λ (l : List ℕ). length l ≤ suc (length s)) (p b) (λ _. omega (arith, run_short p s)) (λ _. omega arith)

pub first_of : {p : ℕ → Bool} {b : ℕ} {s : List ℕ} → All p (b ∷ s) → p b ≡ true
first_of (each e a) = e

pub rest_of : {p : ℕ → Bool} {b : ℕ} {s : List ℕ} → All p (b ∷ s) → All p s
rest_of (each e a) = a

pub run-least : {p : ℕ → Bool} {w : List ℕ} → All p w → (s : List ℕ) → length w ≤ length (front p (w ++ s))
run-least done s = omega arith
run-least (each e a) s = rw e (omega (arith, run-least a s))

pub run-begins : {p : ℕ → Bool} {w : List ℕ} → All p w → (s : List ℕ) → begins w (front p (w ++ s)) ≡ true
run-begins done s = refl
run-begins (each {b} e a) s = rw e (rw (eq-eqb b b refl) (run-begins a s))

-- a longer spelling that begins the text is none of the table's
pub over-index : (n m : ℕ) (table : List (List ℕ)) (s v : List ℕ) → none_over n table s ≡ true → n < length v → begins v s ≡ true
    → index_from m table v ≡ none
unfolding none_over
over-index n m [] s v o h b = refl
over-index n m (w ∷ ws) s v o h b = go (same w v) refl (over-index n (suc m) ws s v (and_right (leb (length w) n || not (begins w s)) (none_over n ws s) o) h b)
  where
    go : (t : Bool) → same w v ≡ t → index_from (suc m) ws v ≡ none → (if t then some m else index_from (suc m) ws v) ≡ none
    go true e ih =
        let f : (leb (length v) n || not (begins v s)) ≡ true
        = subst (λ (x : List ℕ). (leb (length x) n || not (begins x s)) ≡ true) (same-spelling w v e) (and_left (leb (length w) n || not (begins w s)) (none_over n ws s) o) in
        absurd (false≢true (rw (lt-leb (length v) n h, b) at f))
    go false e ih = ih

-- none is longer than the text
pub over-all : (table : List (List ℕ)) (s : List ℕ) → none_over (length s) table s ≡ true
unfolding none_over
over-all [] s = refl
over-all (w ∷ ws) s = rw (go (begins w s) refl) (over-all ws s)
  where
    go : (t : Bool) → begins w s ≡ t → (leb (length w) (length s) || not (begins w s)) ≡ true
    go true e = rw (le-leb (length w) (length s) (begins-short w s e))
    go false e = rw (e, or-true (leb (length w) (length s)))

-- one length less
pub over-step : (n m : ℕ) (table : List (List ℕ)) (s : List ℕ) → none_over (suc n) table s ≡ true → index_from m table (take (suc n) s) ≡ none
    → none_over n table s ≡ true
unfolding none_over
over-step n m [] s o e = refl
over-step n m (w ∷ ws) s o e = go (same w (take (suc n) s)) refl e (over-step n (suc m) ws s (and_right (leb (length w) (suc n) || not (begins w s)) (none_over (suc n) ws s) o))
  where
    short : same w (take (suc n) s) ≡ false → (t : Bool) → begins w s ≡ t → (leb (length w) n || not (begins w s)) ≡ true
    short h true b =
        let f : (leb (length w) (suc n) || not (begins w s)) ≡ true = and_left (leb (length w) (suc n) || not (begins w s)) (none_over (suc n) ws s) o in
        let g = leb-true (length w) (suc n) (or_cases (leb (length w) (suc n)) (not (begins w s)) f (λ i. i) (λ i. absurd (false≢true (rw b at i)))) in
        let d : length w ≡ suc n → ⊥ = λ i. let z : same w w ≡ false = rw (← i, begins-taken w s b) at h in false≢true (sym z ∙ same_self w) in
        rw (le-leb (length w) n (omega arith))
    short h false b = rw (b, or-true (leb (length w) n))

    go : (t : Bool) → same w (take (suc n) s) ≡ t → (if t then some m else index_from (suc m) ws (take (suc n) s)) ≡ none
        → (index_from (suc m) ws (take (suc n) s) ≡ none → none_over n ws s ≡ true) → (leb (length w) n || not (begins w s)) && none_over n ws s ≡ true
    go true h i ih = let z : ◌≡◌ {A = ℕ} 0 1 = cc in absurd (omega arith)
    go false h i ih = rw (short h (begins w s) refl) (ih i)

-- lengths over which there is no keyword may be left out
pub letters-down : (table : List (List ℕ)) (s : List ℕ) (a n : ℕ) → none_over a table (front is_capital s) ≡ true → 1 ≤ a → a ≤ n
    → n ≤ length (front is_capital s) → letters_step table n s ≡ letters_step table a s
unfolding letters_step
letters-down table s a zero o h l m = absurd (omega arith)
letters-down table s a (suc zero) o h l m = let e : a ≡ 1 = omega arith in rw e
letters-down table s a (suc (suc n)) o h l m = go (eqb a (suc (suc n))) refl (λ k. letters-down table s a (suc n) o h k (omega arith))
  where
    run : List ℕ
    run = front is_capital s

    missed : a < suc (suc n) → index_in table (take (suc (suc n)) s) ≡ none
    missed k =
        rw (take-run is_capital (suc (suc n)) s m)
        (over-index a 128 table run (take (suc (suc n)) run) o (omega (arith, length-take-le (suc (suc n)) run m)) (taken-begins (suc (suc n)) run))

    go : (t : Bool) → eqb a (suc (suc n)) ≡ t → (a ≤ suc n → letters_step table (suc n) s ≡ letters_step table a s)
        → letters_step table (suc (suc n)) s ≡ letters_step table a s
    go true e ih = rw (eqb-true a (suc (suc n)) e)
    go false e ih = let d = eqb-false a (suc (suc n)) e in rw (missed (omega arith)) (ih (omega arith))
