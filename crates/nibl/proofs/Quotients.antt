-- "Quotients truncate toward zero": the magnitude of a quotient is the quotient of the magnitudes. Assumes nothing.
use Rattle.std.specs.Prelude.{if◌then◌else◌}
use Prim.Native.Nat.{ℕ, ◌-◌, ◌/◌, ◌≤◌, ◌<◌}
use mathlib.Core.Path.{◌≡◌}
use mathlib.Core.Bool.{Bool, true, false}
use native.Mathlib.Nat.{div-le_self, le_trans}
use native.Mathlib.Decide.{dec_lt}
use native.Mathlib.Omega.{arith}
use borrow.Author.Tests.{lt-ltb, le-ltb}
use Rattle.nibl.specs.Values.{quotient16, magnitude, is_negative, differ, sub16}

plus-sized : (a : ℕ) → a < 32768 → magnitude a ≡ a
plus-sized a h = rw (lt-ltb a 32768 h)

minus-sized : (a : ℕ) → 32768 ≤ a → magnitude a ≡ 65536 - a
minus-sized a h = rw (le-ltb a 32768 h)

magnitude-le : (a : ℕ) → a < 65536 → magnitude a ≤ 32768
magnitude-le a h = go (dec_lt a 32768) where
  go : Dec (a < 32768) → magnitude a ≤ 32768
  go (yes l) = omega (arith, plus-sized a l)
  go (no l) = let g : 32768 ≤ a = omega arith in omega (arith, minus-sized a g)

magnitude-same : (q : ℕ) → q ≤ 32768 → magnitude q ≡ q
magnitude-same q h = go (dec_lt q 32768) where
  go : Dec (q < 32768) → magnitude q ≡ q
  go (yes l) = plus-sized q l
  go (no l) = let g : 32768 ≤ q = omega arith in omega (arith, minus-sized q g)

magnitude-negated : (q : ℕ) → q ≤ 32768 → magnitude (sub16 0 q) ≡ q
magnitude-negated q h = go (dec_lt 0 q) where
  go : Dec (0 < q) → magnitude (sub16 0 q) ≡ q
  go (yes l) = let g : 32768 ≤ sub16 0 q = omega arith in omega (arith, minus-sized (sub16 0 q) g)
  go (no l) = let g : sub16 0 q < 32768 = omega arith in omega (arith, plus-sized (sub16 0 q) g)

pub toward_zero : (a b : ℕ) → a < 65536 → magnitude (quotient16 a b) ≡ magnitude a / magnitude b
toward_zero a b h = by (differ (is_negative a) (is_negative b)) where
  q : ℕ
  q = magnitude a / magnitude b

  small : q ≤ 32768
  small = le_trans (div-le_self (magnitude a) (magnitude b)) (magnitude-le a h)

  by : (d : Bool) → magnitude (if d then sub16 0 q else q) ≡ q
  by true = magnitude-negated q small
  by false = magnitude-same q small
