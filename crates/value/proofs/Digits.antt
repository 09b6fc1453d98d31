-- Laws of a number's digits, for this crate's proofs and for callers to cite. Assumes nothing.
use Rattle.std.proofs.Common.{◌≡◌, ℕ, zero, suc, ◌+◌, ◌*◌, ◌/◌, ◌%◌, ◌^◌, ◌<◌, ◌≤◌, Bool, true, false, ltb, List, [], ◌∷◌, ◌++◌, length, get_or, sym, refl, ap, ◌∙◌, mod-lt, mod-eq_of_lt, zero-lt-suc, mul_assoc, mul_comm, pow-suc, arith, length-append, ltb-false, ltb-true, le-ltb, lt-ltb, le-leb}
use mathlib.Core.Path.{subst⁻¹}
use native.Mathlib.Nat.{one-le-pow, mod-add-div, add-mul-div_left, add-mul-mod_self_left, div-div-eq-div-mul}
use Rattle.nibl.specs.Bytes.{is_digit, All, none, each, decimal_value}
use Rattle.nibl.specs.Values.{digits_n, digits, printed, magnitude}
use Rattle.value.specs.Digits.{by_powers, FromFront}

-- what holds of a last digit, and of a digit with the others before it, holds of the digits
digits-case : (P : List ℕ → Type 0) (k n : ℕ) (ds : List ℕ) → (n < 10 → P ((48 + n) ∷ ds)) → (9 < n → P (digits_n k (n / 10) ((48 + n % 10) ∷ ds)))
    → P (digits_n (suc k) n ds)
digits-case P k n ds last more = go (ltb n 10) refl
  where
    go : (t : Bool) → ltb n 10 ≡ t → P (elim t [ true ↦ (48 + n) ∷ ds | false ↦ digits_n k (n / 10) ((48 + n % 10) ∷ ds) ])
    go true e = last (ltb-true n 10 e)
    go false e = more (ltb-false n 10 e)

digits_step : (k n : ℕ) (ds : List ℕ) → 9 < n → digits_n (suc k) n ds ≡ digits_n k (n / 10) ((48 + n % 10) ∷ ds)
digits_step k n ds h = rw (le-ltb n 10 h, digits_n)

digits_last : (k n : ℕ) (ds : List ℕ) → n < 10 → digits_n (suc k) n ds ≡ (48 + n) ∷ ds
digits_last k n ds h = rw (lt-ltb n 10 h, digits_n)

-- digits before others are the digits, and the others
pub digits-before : (k n : ℕ) (ds es : List ℕ) → digits_n k n (ds ++ es) ≡ digits_n k n ds ++ es
digits-before zero n ds es = refl
digits-before (suc k) n ds es =
    digits-case (λ l. digits_n (suc k) n (ds ++ es) ≡ l ++ es) k n ds
    (λ h. digits_last k n (ds ++ es) h)
    (λ h. digits_step k n (ds ++ es) h ∙ digits-before k (n / 10) ((48 + n % 10) ∷ ds) es)

-- ---- digits from the front

-- a number parted by ten times p, and by ten
module _ (n p : ℕ) (some : 0 < p) where
  parted : n ≡ n % (p * 10) + 10 * (p * (n / (p * 10)))
  parted =
      sym (mod-add-div n (p * 10))
      ∙ ap (λ m. n % (p * 10) + m) (ap (λ m. m * (n / (p * 10))) (mul_comm p 10) ∙ mul_assoc 10 p (n / (p * 10)))

  part-last : n % (p * 10) % 10 ≡ n % 10
  part-last = sym (ap (λ m. m % 10) parted ∙ add-mul-mod_self_left (n % (p * 10)) 10 (p * (n / (p * 10))))

  tenth : n / 10 ≡ n % (p * 10) / 10 + p * (n / (p * 10))
  tenth = ap (λ m. m / 10) parted ∙ add-mul-div_left (n % (p * 10)) (p * (n / (p * 10))) (omega arith)

  part_low : n % (p * 10) / 10 < p
  part_low = let h : n % (p * 10) < p * 10 = mod-lt n (omega arith) in omega arith

  part-front : n / (p * 10) ≡ n / 10 / p
  part-front = sym (div-div-eq-div-mul n 10 p ∙ ap (λ m. n / m) (mul_comm 10 p))

  part-rest : n % (p * 10) / 10 ≡ n / 10 % p
  part-rest = sym (ap (λ m. m % p) tenth ∙ add-mul-mod_self_left (n % (p * 10) / 10) p (n / (p * 10)) ∙ mod-eq_of_lt part_low)

pub power-some : (k : ℕ) → 0 < 10 ^ k
power-some k = one-le-pow k 10 (zero-lt-suc 9)

-- the last of them is the last digit, and those before it are those of the tenth
by-powers-last : (k n : ℕ) → n < 10 ^ suc k → by_powers (suc k) n ≡ by_powers k (n / 10) ++ ((48 + n % 10) ∷ [])
by-powers-last zero n h = ap (λ d. (48 + d) ∷ []) (omega arith)
by-powers-last (suc k) n h =
    let p : 10 ^ suc k ≡ 10 ^ k * 10 = pow-suc 10 k in
    let z = power-some k in
    rw (by-powers-last k (n % 10 ^ suc k) (mod-lt n (power-some (suc k))), p, part-last n (10 ^ k) z, part-front n (10 ^ k) z, part-rest n (10 ^ k) z)

from_front : (k n : ℕ) → n < 10 ^ k → FromFront n (digits_n k n [])
from_front zero n h = record { same = refl; below = h }
from_front (suc k) n h =
    let p : 10 ^ suc k ≡ 10 ^ k * 10 = pow-suc 10 k in
    digits-case (FromFront n) k n []
    (λ g. record { same = ap (λ d. (48 + d) ∷ []) (omega arith); below = omega arith })
    (λ g.
    subst⁻¹ (FromFront n) (digits-before k (n / 10) [] ((48 + n % 10) ∷ []))
    (more (digits_n k (n / 10) []) (from_front k (n / 10) (omega arith))))
  where
    more : (l : List ℕ) → FromFront (n / 10) l → FromFront n (l ++ ((48 + n % 10) ∷ []))
    more l f =
        let e : length (l ++ ((48 + n % 10) ∷ [])) ≡ suc (length l) = simp length-append (omega arith) in
        let p : 10 ^ suc (length l) ≡ 10 ^ length l * 10 = pow-suc 10 (length l) in
        let b : n < 10 ^ suc (length l) = omega (arith, f.below) in
        record {
          same = rw e (ap (λ r. r ++ ((48 + n % 10) ∷ [])) f.same ∙ sym (by-powers-last (length l) n b));
          below = rw e b;
        }

-- a number's digits are, as many as there are, the front one by its power of ten and the digits of the rest, zeros kept
pub digits-from-front : (n : ℕ) → n < 100000 → FromFront n (digits n)
unfolding digits
digits-from-front n h = from_front 5 n h

-- ---- how many digits there are

grows : (k n : ℕ) (ds : List ℕ) → length ds ≤ length (digits_n k n ds)
grows zero n ds = omega arith
grows (suc k) n ds =
    digits-case (λ l. length ds ≤ length l) k n ds (λ h. omega arith) (λ h. omega (arith, grows k (n / 10) ((48 + n % 10) ∷ ds)))

within : (k n : ℕ) (ds : List ℕ) → length (digits_n k n ds) ≤ k + length ds
within zero n ds = omega arith
within (suc k) n ds =
    digits-case (λ l. length l ≤ suc k + length ds) k n ds (λ h. omega arith) (λ h. omega (arith, within k (n / 10) ((48 + n % 10) ∷ ds)))

pub digits-some : (n : ℕ) → 1 ≤ length (digits n)
unfolding digits
digits-some n = digits-case (λ l. 1 ≤ length l) 4 n [] (λ h. omega arith) (λ h. grows 4 (n / 10) ((48 + n % 10) ∷ []))

pub digits-few : (n : ℕ) → length (digits n) ≤ 5
unfolding digits
digits-few n = within 5 n []

pub one-digit : (n : ℕ) → n < 10 → length (digits n) ≡ 1
unfolding digits
one-digit n h = ap length (digits_last 4 n [] h)

digits-counted : (j k n : ℕ) (ds : List ℕ) → k ≤ j → 10 ^ k ≤ n → n < 10 ^ suc k → length (digits_n (suc j) n ds) ≡ suc k + length ds
digits-counted j zero n ds h low high = ap length (digits_last j n ds high) ∙ omega arith
digits-counted zero (suc k) n ds h low high = absurd (omega arith)
digits-counted (suc j) (suc k) n ds h low high =
    let p : 10 ^ suc k ≡ 10 ^ k * 10 = pow-suc 10 k in
    let q : 10 ^ suc (suc k) ≡ 10 ^ suc k * 10 = pow-suc 10 (suc k) in
    let z = power-some k in
    ap length (digits_step (suc j) n ds (omega arith))
    ∙ digits-counted j k (n / 10) ((48 + n % 10) ∷ ds) (omega arith) (omega arith) (omega arith)
    ∙ omega arith

-- a number that reaches a power of ten, and not the next one, has a digit for it and for each lower one
pub more-digits : (k n : ℕ) → k ≤ 4 → 10 ^ k ≤ n → n < 10 ^ suc k → length (digits n) ≡ suc k
unfolding digits
more-digits k n h low high = digits-counted 4 k n [] h low high ∙ omega arith

-- a sign, one to five digits and a space
pub printed-length : (v : ℕ) → length (printed v) ≡ length (digits (magnitude v)) + 2
unfolding printed
printed-length v = simp length-append (omega arith)

-- ---- what the digits say

pub digits_value : (k n : ℕ) (ds : List ℕ) → n < 10 ^ k → decimal_value 0 (digits_n k n ds) ≡ decimal_value n ds
digits_value zero n ds h = ap (λ v. decimal_value v ds) (omega arith)
digits_value (suc k) n ds h =
    let p : 10 ^ suc k ≡ 10 ^ k * 10 = pow-suc 10 k in
    digits-case (λ l. decimal_value 0 l ≡ decimal_value n ds) k n ds
    (λ g. ap (λ v. decimal_value v ds) (omega arith))
    (λ g. digits_value k (n / 10) ((48 + n % 10) ∷ ds) (omega arith) ∙ ap (λ v. decimal_value v ds) (omega arith))

-- reading a number's digits gives the number
pub value-digits : (n : ℕ) → n < 100000 → decimal_value 0 (digits n) ≡ n
unfolding digits
value-digits n h = digits_value 5 n [] h

digit-byte : (n : ℕ) → n < 10 → is_digit (48 + n) ≡ true
digit-byte n h = rw (le-leb 48 (48 + n) (omega arith), le-leb (48 + n) 57 (omega arith))

digits-all : (k n : ℕ) (ds : List ℕ) → All is_digit ds → All is_digit (digits_n k n ds)
digits-all zero n ds e = e
digits-all (suc k) n ds e =
    digits-case (All is_digit) k n ds (λ h. each (digit-byte n h) e)
    (λ h. digits-all k (n / 10) ((48 + n % 10) ∷ ds) (each (digit-byte (n % 10) (omega arith)) e))

pub digits_are : (n : ℕ) → All is_digit (digits n)
unfolding digits
digits_are n = digits-all 5 n [] none

-- only 0 has a first digit 0
digits-first : (k n : ℕ) (ds : List ℕ) → 0 < n → n < 10 ^ k → 48 < get_or (digits_n k n ds) 0 0
digits-first zero n ds z h = absurd (omega arith)
digits-first (suc k) n ds z h =
    let p : 10 ^ suc k ≡ 10 ^ k * 10 = pow-suc 10 k in
    digits-case (λ l. 48 < get_or l 0 0) k n ds (λ g. omega arith) (λ g. digits-first k (n / 10) ((48 + n % 10) ∷ ds) (omega arith) (omega arith))

pub no-leading-zero : (n : ℕ) → 0 < n → n < 100000 → 48 < get_or (digits n) 0 0
unfolding digits
no-leading-zero n z h = digits-first 5 n [] z h
