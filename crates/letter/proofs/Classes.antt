-- The class table's rule, and the classes against the byte tests of the definition.
--     table            an entry is the class of its place, and there are no others
--     space, digit ..  a byte has the class exactly when it passes the test
--     text-plain, digit-plain  a text byte, and a digit, is plain: neither dropped nor CR, erase or discard
-- Assumes nothing.
use mathlib.Core.Path.{◌≡◌, ◌∙◌, refl, subst, sym, ap}
use mathlib.Core.Bool.{Bool, true, false, not, ◌&&◌, ◌||◌}
use mathlib.Core.List.{List}
use Prim.Native.Nat.{ℕ, ◌<◌, ◌≤◌}
use native.Mathlib.Omega.{arith}
use lib.Dec.{T, eqb, leb, ltb, eqb→eq, leb→le}
use lib.ListN.{get_or}
use borrow.Author.Tests.{ltb-true, ltb-false, lt-ltb, eqb-true, ne_eqb, le-leb, lt-leb}
use Rattle.nibl.specs.Bytes.{class_of, class_dropped, class_cr, class_erase, class_discard, class_space, class_digit, class_capital, class_quote, class_other, is_space, is_digit, is_capital, is_text}
use Rattle.letter.proofs.Table.{left, right, values, every, at}

-- the table of the code: the two are compared entry by entry where the code's proof cites the rule
abbrev pub classes : List ℕ
classes = values class_of 0 256

rule : ℕ → ℕ → Bool
rule k x = eqb x (class_of k) && leb x 8

pub table : (b : ℕ) → b < 256 → (get_or classes b 0 ≡ class_of b) × (get_or classes b 0 ≤ class_other)
unfolding rule
table b h =
    let t = at rule classes tt b h in
    let e = eqb→eq (get_or classes b 0) (class_of b) (left (eqb (get_or classes b 0) (class_of b)) (leb (get_or classes b 0) 8) t) in
    let r = leb→le (get_or classes b 0) 8 (right (eqb (get_or classes b 0) (class_of b)) (leb (get_or classes b 0) 8) t) in
    (e, r)

-- a number that is no byte counts as other
beyond : (b : ℕ) → 256 ≤ b → class_of b ≡ class_other
beyond b h =
    let far : (n : ℕ) → n < 256 → eqb b n ≡ false = λ n l. ne_eqb b n (λ e. omega arith) in
    simp
    (far 0 (omega arith), far 10 (omega arith), far 13 (omega arith), far 95 (omega arith), far 21 (omega arith), far 32 (omega arith), far 34 (omega arith), le-leb 48 b (omega arith), lt-leb b 57 (omega arith), le-leb 65 b (omega arith), lt-leb b 90 (omega arith))

-- a test of a byte and its class that passes over the table, and beyond it, passes everywhere
module _ (q : ℕ → ℕ → Bool) (t : T (every q 0 classes)) (past : (b : ℕ) → 256 ≤ b → T (q b 8)) where
  by-class : (b : ℕ) → T (q b (class_of b))
  by-class b = go (ltb b 256) refl where
    go : (s : Bool) → ltb b 256 ≡ s → T (q b (class_of b))
    go true e = let h = ltb-true b 256 e in subst (λ (x : ℕ). T (q b x)) (table b h).0 (at q classes t b h)
    go false e = let h = ltb-false b 256 e in subst (λ (x : ℕ). T (q b x)) (sym (beyond b h)) (past b h)

abbrev alike : Bool → Bool → Bool
alike true b = b
alike false b = not b

alike-eq : (a b : Bool) → T (alike a b) → a ≡ b
alike-eq true true t = refl
alike-eq true false t = absurd t
alike-eq false true t = absurd t
alike-eq false false t = refl

alike_refl : (a : Bool) → T (alike a a)
alike_refl true = tt
alike_refl false = tt

-- the class k is that of the bytes which pass p, and of no others
class-is : (k : ℕ) (p : ℕ → Bool) → T (every (λ b x. alike (eqb x k) (p b)) 0 classes) → ((b : ℕ) → 256 ≤ b → p b ≡ eqb 8 k) → (b : ℕ) → eqb (class_of b) k ≡ p b
class-is k p t past b =
    let q : ℕ → ℕ → Bool = λ b x. alike (eqb x k) (p b) in
    alike-eq (eqb (class_of b) k) (p b) (by-class q t (λ b h. rw (past b h) (alike_refl (eqb 8 k))) b)

-- one byte has the class
class-one : (k n : ℕ) → T (every (λ b x. alike (eqb x k) (eqb b n)) 0 classes) → n < 256 → eqb 8 k ≡ false → (b : ℕ) → eqb (class_of b) k ≡ eqb b n
class-one k n t l o = class-is k (λ b. eqb b n) t (λ b h. ne_eqb b n (λ e. omega arith) ∙ sym o)

pub cr : (b : ℕ) → eqb (class_of b) class_cr ≡ eqb b 13
cr = class-one class_cr 13 tt (omega arith) refl

pub erase : (b : ℕ) → eqb (class_of b) class_erase ≡ eqb b 95
erase = class-one class_erase 95 tt (omega arith) refl

pub discard : (b : ℕ) → eqb (class_of b) class_discard ≡ eqb b 21
discard = class-one class_discard 21 tt (omega arith) refl

pub space : (b : ℕ) → eqb (class_of b) class_space ≡ is_space b
space = class-one class_space 32 tt (omega arith) refl

pub quote : (b : ℕ) → eqb (class_of b) class_quote ≡ eqb b 34
quote = class-one class_quote 34 tt (omega arith) refl

pub digit : (b : ℕ) → eqb (class_of b) class_digit ≡ is_digit b
digit = class-is class_digit is_digit tt (λ b h. rw (le-leb 48 b (omega arith), lt-leb b 57 (omega arith)))

pub capital : (b : ℕ) → eqb (class_of b) class_capital ≡ is_capital b
capital = class-is class_capital is_capital tt (λ b h. rw (le-leb 65 b (omega arith), lt-leb b 90 (omega arith)))

pub dropped : (b : ℕ) → eqb (class_of b) class_dropped ≡ (eqb b 0 || eqb b 10)
dropped = class-is class_dropped (λ b. eqb b 0 || eqb b 10) tt (λ b h. rw (ne_eqb b 0 (λ e. omega arith), ne_eqb b 10 (λ e. omega arith)))

-- a byte that gathering keeps as it is
abbrev pub is_plain : ℕ → Bool
is_plain b = ltb 3 (class_of b)

pub text-plain : (b : ℕ) → is_text b ≡ true → is_plain b ≡ true
text-plain b e = go (is_text b) (is_plain b) (by-class (λ b x. not (is_text b) || ltb 3 x) tt (λ b h. either (is_text b)) b) e where
  go : (x y : Bool) → T (not x || y) → x ≡ true → y ≡ true
  go true true t e = refl
  go true false t e = absurd t
  go false y t e = cc

  either : (x : Bool) → T (not x || true)
  either true = tt
  either false = tt

pub digit-plain : (b : ℕ) → is_digit b ≡ true → is_plain b ≡ true
digit-plain b e = let c : class_of b ≡ class_digit = eqb-true (class_of b) class_digit (digit b ∙ e) in lt-ltb 3 (class_of b) (omega arith)

-- no plain byte is 0, 10, 13, 21 or 95: each by `plain-not n refl`
pub plain-not : (n : ℕ) → is_plain n ≡ false → (b : ℕ) → is_plain b ≡ true → not (eqb b n) ≡ true
plain-not n o b p = ap not (ne_eqb b n (λ e. let z : ◌≡◌ {A = ℕ} 0 1 = cc (ap is_plain e) in omega arith))
