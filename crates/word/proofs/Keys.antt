-- A spelling as one number: how it is made, that it tells spellings apart, and where it stands in a list. Assumes nothing.
use Rattle.std.specs.Prelude.{if◌then◌else◌, cond, Some, None, position, nat_lt, ◌==◌}
use Rattle.std.specs.List.{position_or_len}
use Prim.Native.Nat.{ℕ, suc, ◌+◌, ◌-◌, ◌*◌, ◌^◌, ◌≤◌, ◌<◌}
use mathlib.Core.Path.{◌≡◌, ◌∙◌, refl, ap}
use mathlib.Core.Bool.{Bool, true, false, not, ◌&&◌, ◌||◌}
use mathlib.Core.List.{List, [], ◌∷◌, map}
use native.Mathlib.Nat.{pow-le-pow_right}
use native.Mathlib.Omega.{arith}
use borrow.Author.Tests.{eqb-true, eqb-false, eq-eqb, ne_eqb, leb-true, le-leb}
use lib.Dec.{eqb, leb}
use lib.ListN.{length, drop, get_or}
use Rattle.nibl.specs.Bytes.{same, is_capital, all}
use Rattle.nibl.specs.found.Read.{FrontWord, got, sign_or}
use Rattle.nibl.specs.Words.{sign, index_from, begins, none_over}
use Rattle.nibl.proofs.Keywords.{begins-short}
use Rattle.nibl.proofs.Words.{or-true}
use Rattle.word.specs.Found.{key_of, key_index, spellings_of}
use Rattle.word.proofs.Runs.{and_left, and_right, between, at_byte}

-- one letter more, in front
pub key_more : (text : List ℕ) (i k : ℕ) → i < length text → k ≡ key_of (drop (i + 1) text) → k * 256 + get_or text i 0 ≡ key_of (drop i text)
key_more text i k h e = omega (arith, ap key_of (at_byte text i h))

pub key_fits : (n k : ℕ) → k < 256 ^ n → n ≤ 5 → k < 1099511627776
key_fits n k h l = let g : 256 ^ n ≤ 256 ^ 5 = pow-le-pow_right (omega arith) l in omega arith

pub key-grows : (i to k b : ℕ) → 0 < i → i ≤ to → b < 256 → k < 256 ^ (to - i) → k * 256 + b < 256 ^ (to - (i - 1))
key-grows i to k b z h l f = let e : to - (i - 1) ≡ suc (to - i) = omega arith in rw e (omega arith)

-- Where a key stands in a list of them, in the library's words
abbrev seat : List ℕ → ℕ → ℕ
seat keys k = position_or_len (λ x. x == k) keys

index_is : (n : ℕ) (keys : List ℕ) (k : ℕ) → key_index n keys k ≡ cond (nat_lt (seat keys k) (length keys)) (n + seat keys k) 0
index_is n [] k = refl
index_is n (x ∷ keys) k = go (eqb x k) (index_is (suc n) keys k)
  where
    go : (b : Bool) → key_index (suc n) keys k ≡ cond (nat_lt (seat keys k) (length keys)) (suc n + seat keys k) 0
        → (if b then n else key_index (suc n) keys k) ≡ cond (nat_lt (cond (not b) (1 + seat keys k) 0) (suc (length keys))) (n + cond (not b) (1 + seat keys k) 0) 0
    go true h = grind (arith, h)
    go false h = grind (arith, h)

module _ (n : ℕ) (keys : List ℕ) (k : ℕ) where
  pub key_there : (i : ℕ) → Some i ≡ position (λ x. x == k) keys → (key_index n keys k ≡ n + i) × (i < length keys)
  key_there i e = go (nat_lt (seat keys k) (length keys)) refl e
    where
      go : (b : Bool) → nat_lt (seat keys k) (length keys) ≡ b → Some i ≡ cond b (Some (seat keys k)) None → (key_index n keys k ≡ n + i) × (i < length keys)
      go true f e = let s : i ≡ seat keys k = cc in (grind (arith, index_is n keys k), grind arith)
      go false f e = let z : ◌≡◌ {A = ℕ} 0 1 = cc in absurd (omega arith)

  pub no_key : None ≡ position (λ x. x == k) keys → key_index n keys k ≡ 0
  no_key e = go (nat_lt (seat keys k) (length keys)) refl e
    where
      go : (b : Bool) → nat_lt (seat keys k) (length keys) ≡ b → None ≡ cond b (Some (seat keys k)) None → key_index n keys k ≡ 0
      go true f e = let z : ◌≡◌ {A = ℕ} 0 1 = cc in absurd (omega arith)
      go false f e = index_is n keys k ∙ grind arith

-- Two keys are equal where the spellings are
digit-eq : (x y a b : ℕ) → x < 256 → y < 256 → (t u : Bool) → eqb x y ≡ t → eqb a b ≡ u → eqb (x + 256 * a) (y + 256 * b) ≡ t && u
digit-eq x y a b hx hy true true e f = eq-eqb (x + 256 * a) (y + 256 * b) (omega (arith, eqb-true x y e, eqb-true a b f))
digit-eq x y a b hx hy true false e f = ne_eqb (x + 256 * a) (y + 256 * b) (λ h. eqb-false a b f (omega (arith, eqb-true x y e)))
digit-eq x y a b hx hy false u e f = ne_eqb (x + 256 * a) (y + 256 * b) (λ h. eqb-false x y e (omega arith))

first : (c : ℕ) (w : List ℕ) → all is_capital (c ∷ w) ≡ true → (65 ≤ c) × (c ≤ 90)
first c w h = between 65 90 c (and_left (is_capital c) (all is_capital w) h)

key-eq : (v w : List ℕ) → all is_capital v ≡ true → all is_capital w ≡ true → eqb (key_of v) (key_of w) ≡ same v w
key-eq [] [] hv hw = refl
key-eq [] (y ∷ w) hv hw = let b = first y w hw in ne_eqb 0 (y + 256 * key_of w) (λ h. omega arith)
key-eq (x ∷ v) [] hv hw = let b = first x v hv in ne_eqb (x + 256 * key_of v) 0 (λ h. omega arith)
key-eq (x ∷ v) (y ∷ w) hv hw =
    let b = first x v hv in
    let d = first y w hw in
    digit-eq x y (key_of v) (key_of w) (omega arith) (omega arith) (eqb x y) (same v w) refl (key-eq v w (and_right (is_capital x) (all is_capital v) hv) (and_right (is_capital y) (all is_capital w) hw))

-- A list of short spellings of capitals
abbrev pub short : List (List ℕ) → Bool
short [] = true
short (w ∷ ws) = (all is_capital w && leb (length w) 6) && short ws

pub table-short : (b : Bool) → short (spellings_of b) ≡ true
table-short true = refl
table-short false = refl

-- the sign of a number, or r where it is 0
abbrev pub sign_by : ℕ → List ℕ → FrontWord → FrontWord
sign_by k s r = if eqb k 0 then r else got (sign k) s

-- the index of a spelling is that of its key
module _ (w s : List ℕ) (r : FrontWord) (h : all is_capital w ≡ true) where
  index-step : (n : ℕ) (v : List ℕ) (vs : List (List ℕ)) → 0 < n → eqb (key_of v) (key_of w) ≡ same v w
      → sign_or (index_from (suc n) vs w) s r ≡ sign_by (key_index (suc n) (map key_of vs) (key_of w)) s r → (t : Bool) → same v w ≡ t
      → sign_or (index_from n (v ∷ vs) w) s r ≡ sign_by (key_index n (map key_of (v ∷ vs)) (key_of w)) s r
  index-step n v vs z e ih true f = rw (e, f) (rw (ne_eqb n 0 (λ q. omega arith)) refl)
  index-step n v vs z e ih false f = rw (e, f) ih

  pub index_key : (n : ℕ) (ws : List (List ℕ)) → 0 < n → short ws ≡ true → sign_or (index_from n ws w) s r ≡ sign_by (key_index n (map key_of ws) (key_of w)) s r
  index_key n [] z k = refl
  index_key n (v ∷ vs) z k =
      let here = and_left (all is_capital v && leb (length v) 6) (short vs) k in
      index-step n v vs z (key-eq v w (and_left (all is_capital v) (leb (length v) 6) here) h)
      (index_key (suc n) vs (omega arith) (and_right (all is_capital v && leb (length v) 6) (short vs) k)) (same v w) refl

-- no keyword is longer than its letters, nor than 6
module _ (n : ℕ) (s : List ℕ) (h : (m : ℕ) → m ≤ 6 → m ≤ length s → m ≤ n) where
  over-one : (w : List ℕ) → length w ≤ 6 → (t : Bool) → begins w s ≡ t → (leb (length w) n || not (begins w s)) ≡ true
  over-one w l true e = rw (le-leb (length w) n (h (length w) l (begins-short w s e))) refl
  over-one w l false e = rw (e, or-true (leb (length w) n)) refl

  pub none_over_lem : (ws : List (List ℕ)) → short ws ≡ true → none_over n ws s ≡ true
  unfolding none_over
  none_over_lem [] k = refl
  none_over_lem (w ∷ ws) k =
      let here = and_left (all is_capital w && leb (length w) 6) (short ws) k in
      let l = leb-true (length w) 6 (and_right (all is_capital w) (leb (length w) 6) here) in
      rw (over-one w l (begins w s) refl) (none_over_lem ws (and_right (all is_capital w && leb (length w) 6) (short ws) k))
