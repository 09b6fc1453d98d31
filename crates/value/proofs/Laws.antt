-- Laws of the operators, for this crate's proofs and for callers to cite. Assumes nothing.
use Rattle.std.specs.Prelude.{if◌then◌else◌, Result, Ok, Err}
use Rattle.std.proofs.Common.{◌≡◌, ℕ, ◌+◌, ◌-◌, ◌*◌, ◌^◌, ◌<◌, ◌≤◌, Bool, true, false, not, eqb, ltb, refl, lt_of_le_of_lt, le_of_lt, mul-le-mul_left, mul-lt-mul_of_pos_right, div-le_self, arith, pow_pos, pow-add, ltb-false, ltb-true}
use mathlib.Core.Path.{subst⁻¹}
use native.Mathlib.Nat.{mod-le}
use lib.Bits.{and_le_l, or_lt}
use lib.ListN.{get_or-eq_default}
use Rattle.nibl.specs.declared.stop.Stop.{Stop}
use Rattle.nibl.specs.Tree.{Op, times, divided_by, and_bits, plus, minus, or_bits, equal, less, greater, at_most, at_least, unequal}
use Rattle.nibl.specs.Values.{is, no, bit, less16, mod16, apply, magnitude, is_negative, differ, quotient16, unless_zero}
use Rattle.value.specs.Operators.{value_of}
use Rattle.codes.specs.Operators.{operators, op_of}

-- a product of two numbers of k bits has at most twice as many
pub product-below : (k : ℕ) {a b : ℕ} → a < 2 ^ k → b < 2 ^ k → a * b < 2 ^ (k + k)
product-below k {a} {b} ha hb =
    subst⁻¹ (λ (n : ℕ). a * b < n) (pow-add 2 k k)
    (lt_of_le_of_lt (mul-le-mul_left a (le_of_lt hb)) (mul-lt-mul_of_pos_right ha (pow_pos k)))

magnitude-case : (P : ℕ → Type 0) (a : ℕ) → (a < 32768 → P a) → (32768 ≤ a → P (65536 - a)) → P (magnitude a)
magnitude-case P a up down = go (ltb a 32768) refl
  where
    go : (t : Bool) → ltb a 32768 ≡ t → P (if not t then 65536 - a else a)
    go true e = up (ltb-true a 32768 e)
    go false e = down (ltb-false a 32768 e)

-- only 0 has the magnitude 0
pub magnitude-pos : (b : ℕ) → (b ≡ 0 → ⊥) → b < 65536 → 0 < magnitude b
magnitude-pos b h k = magnitude-case (λ m. 0 < m) b (λ g. omega arith) (λ g. omega arith)

pub magnitude-most : (a : ℕ) → a < 65536 → magnitude a ≤ 32768
magnitude-most a h = magnitude-case (λ m. m ≤ 32768) a (λ g. omega arith) (λ g. omega arith)

pub op_last : (op : ℕ) → 11 ≤ op → op_of op ≡ unequal
unfolding op_of
op_last op h = get_or-eq_default operators unequal h

-- ---- what the operators make of 16 bits has 16 bits

below : {x v : ℕ} → x < 65536 → is x ≡ is v → v < 65536
below {x} {v} h e = let q : x ≡ v = cc in omega arith

choice-below : (t : Bool) (x y : ℕ) → x < 65536 → y < 65536 → (if t then x else y) < 65536
choice-below true x y hx hy = hx
choice-below false x y hx hy = hy

bit_below : (t : Bool) → bit t < 65536
bit_below true = omega arith
bit_below false = omega arith

unless-below : (b q : ℕ) {v : ℕ} → q < 65536 → unless_zero b q ≡ is v → v < 65536
unless-below b q {v} h e = go (eqb b 0) e
  where
    go : (t : Bool) → (if t then no 13 else is q) ≡ is v → v < 65536
    go true e = let z : ◌≡◌ {A = ℕ} 0 1 = cc in omega arith
    go false e = below h e

pub quotient-below : (a b : ℕ) → a < 65536 → quotient16 a b < 65536
quotient-below a b h =
    choice-below (differ (is_negative a) (is_negative b)) _ _ (omega arith)
    (omega (arith, div-le_self (magnitude a) (magnitude b), magnitude-most a h))

pub mod16-below : (a b v : ℕ) → a < 65536 → mod16 a b ≡ is v → v < 65536
unfolding mod16
mod16-below a b v h e = unless-below b _ (omega (arith, mod-le (magnitude a) (magnitude b), magnitude-most a h)) e

pub apply-below : (o : Op) (a b v : ℕ) → a < 65536 → b < 65536 → apply o a b ≡ is v → v < 65536
unfolding apply
apply-below times a b v ha hb e = below (omega arith) e
apply-below divided_by a b v ha hb e = unless-below b _ (quotient-below a b ha) e
apply-below and_bits a b v ha hb e = below (lt_of_le_of_lt (and_le_l a b) ha) e
apply-below plus a b v ha hb e = below (omega arith) e
apply-below minus a b v ha hb e = below (omega arith) e
apply-below or_bits a b v ha hb e = below (or_lt 16 a b ha hb) e
apply-below equal a b v ha hb e = below (bit_below (eqb a b)) e
apply-below less a b v ha hb e = below (bit_below (less16 a b)) e
apply-below greater a b v ha hb e = below (bit_below (less16 b a)) e
apply-below at_most a b v ha hb e = below (bit_below (not (less16 b a))) e
apply-below at_least a b v ha hb e = below (bit_below (not (less16 a b))) e
apply-below unequal a b v ha hb e = below (bit_below (not (eqb a b))) e

-- ---- an answer is determined by what it stands for

pub value_same : (r s : Result ℕ Stop) → value_of r ≡ value_of s → r ≡ s
value_same (Ok v) (Ok w) e = let q : v ≡ w = cc in cc
value_same (Err m) (Err n) e = let q : m.0 ≡ n.0 = cc in λ i. Err (record { 0 = q i })
value_same (Ok v) (Err n) e = let z : ◌≡◌ {A = ℕ} 0 1 = cc in absurd (omega arith)
value_same (Err m) (Ok w) e = let z : ◌≡◌ {A = ℕ} 0 1 = cc in absurd (omega arith)
