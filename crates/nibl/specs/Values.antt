-- Values: 16-bit patterns, 0 to 65,535, read as signed numbers where the order or the sign counts.
use Rattle.std.specs.Prelude.{ℕ, zero, suc, ◌+◌, ◌-◌, ◌*◌, ◌/◌, ◌%◌, Bool, true, false, not, List, [], ◌∷◌, ◌++◌, ltb, eqb, if◌then◌else◌}
use Rattle.std.specs.Int.Bits.{bit_and, bit_or}
use Rattle.nibl.specs.Bytes.{byte}
use Rattle.nibl.specs.Tree.{Op, times, divided_by, and_bits, plus, minus, or_bits, equal, less, greater, at_most, at_least, unequal}

-- what was asked for, or the number of the refusal
pub data Result (A : Type 0) : Type 0 where
  is : A → Result A
  no : ℕ → Result A

abbrev pub Value : Type 0
Value = Result ℕ

-- "sums, differences and products wrap on purpose, keeping the low 16 bits"
abbrev pub add16 : ℕ → ℕ → ℕ
add16 a b = (a + b) % 65536

abbrev pub sub16 : ℕ → ℕ → ℕ
sub16 a b = (a + (65536 - b)) % 65536

abbrev pub mul16 : ℕ → ℕ → ℕ
mul16 a b = a * b % 65536

abbrev pub is_negative : ℕ → Bool
is_negative a = not (ltb a 32768)

abbrev pub magnitude : ℕ → ℕ
magnitude a = if is_negative a then 65536 - a else a

-- the signed order
abbrev pub biased : ℕ → ℕ
biased a = (a + 32768) % 65536

abbrev pub less16 : ℕ → ℕ → Bool
less16 a b = ltb (biased a) (biased b)

-- "Relations are signed and give 1 or 0"
abbrev pub bit : Bool → ℕ
bit true = 1
bit false = 0

abbrev pub differ : Bool → Bool → Bool
differ true b = not b
differ false b = b

-- "Quotients truncate toward zero"
abbrev pub quotient16 : ℕ → ℕ → ℕ
quotient16 a b =
    if differ (is_negative a) (is_negative b) then sub16 0 (magnitude a / magnitude b) else magnitude a / magnitude b

-- "MOD is the remainder's absolute value"
abbrev pub remainder16 : ℕ → ℕ → ℕ
remainder16 a b = magnitude a % magnitude b

abbrev pub unless_zero : ℕ → ℕ → Value
unless_zero b q = if eqb b 0 then no 13 else is q

unfoldable pub mod16 : ℕ → ℕ → Value
mod16 a b = unless_zero b (remainder16 a b)

abbrev pub not16 : ℕ → ℕ
not16 a = 65535 - a

-- what an operator makes of its operands
unfoldable pub apply : Op → ℕ → ℕ → Value
apply times a b = is (mul16 a b)
apply divided_by a b = unless_zero b (quotient16 a b)
apply and_bits a b = is (bit_and a b)
apply plus a b = is (add16 a b)
apply minus a b = is (sub16 a b)
apply or_bits a b = is (bit_or a b)
apply equal a b = is (bit (eqb a b))
apply less a b = is (bit (less16 a b))
apply greater a b = is (bit (less16 b a))
apply at_most a b = is (bit (not (less16 b a)))
apply at_least a b = is (bit (not (less16 a b)))
apply unequal a b = is (bit (not (eqb a b)))

-- the digits of n, without leading zeros, before others; k bounds how many
abbrev pub digits_n : ℕ → ℕ → List ℕ → List ℕ
digits_n zero n ds = ds
digits_n (suc k) n ds = elim (ltb n 10) [ true ↦ (byte "0" + n) ∷ ds | false ↦ digits_n k (n / 10) ((byte "0" + n % 10) ∷ ds) ]

-- a number below 100,000 has at most five
unfoldable pub digits : ℕ → List ℕ
digits n = digits_n 5 n []

-- "A number prints as a space or '-', digits, a space"
unfoldable pub printed : ℕ → List ℕ
printed a = (if is_negative a then byte "-" else byte " ") ∷ (digits (magnitude a) ++ (byte " " ∷ []))
