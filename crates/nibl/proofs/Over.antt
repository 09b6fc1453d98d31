-- What stands before the rest of a reading: text bytes, with every quote paired. Assumes nothing.
use Prim.Native.Nat.{ℕ, suc, ◌-◌, ◌≤◌, ◌<◌}
use mathlib.Core.Path.{◌≡◌, refl, ap, ◌∙◌}
use mathlib.Core.Bool.{Bool, true, not, ◌&&◌, false≢true}
use mathlib.Core.List.{List, [], ◌∷◌, ◌++◌}
use native.Mathlib.Omega.{arith}
use native.Mathlib.Nat.{sub_self}
use borrow.Author.Tests.{le-leb, eqb-true, ne_eqb}
use lib.ListN.{length, drop, length-append}
use lib.Dec.{leb, eqb}
use Rattle.nibl.specs.Bytes.{is_space, is_digit, is_capital, is_hex_digit, is_text, is_quotable, All, none as done, each}
use Rattle.nibl.specs.Words.{Token, ByteRun, Word, spaced, keyword, letter, decimal_digits, hex_digits, quoted, pair, symbol}
use Rattle.nibl.proofs.Words.{and_left, or_cases, of-symbols, of-pairs, between}

-- `Outside s s'`: s' is the end of s from a place on that stands outside every string, and what stands before is text
pub data Outside : List ℕ → List ℕ → Type 0 where
  here : {s : List ℕ} → Outside s s
  byte : {b : ℕ} {s s' : List ℕ} → is_quotable b ≡ true → Outside s s' → Outside (b ∷ s) s'
  in_quotes : {bs s s' : List ℕ} → All is_quotable bs → Outside s s' → Outside (34 ∷ bs ++ 34 ∷ s) s'

pub outside_trans : {s t u : List ℕ} → Outside s t → Outside t u → Outside s u
outside_trans here q = q
outside_trans (byte e p) q = byte e (outside_trans p q)
outside_trans (in_quotes a p) q = in_quotes a (outside_trans p q)

pub outside-all : {p : ℕ → Bool} → ((b : ℕ) → p b ≡ true → is_quotable b ≡ true) → {ds : List ℕ} → All p ds → (s : List ℕ) → Outside (ds ++ s) s
outside-all f done s = here
outside-all f (each {b} e a) s = byte (f b e) (outside-all f a s)

-- text bytes, the end of a text: `Passed s s'`
pub data Passed : List ℕ → List ℕ → Type 0 where
  here : {s : List ℕ} → Passed s s
  byte : {b : ℕ} {s s' : List ℕ} → is_text b ≡ true → Passed s s' → Passed (b ∷ s) s'

pub passed-trans : {s t u : List ℕ} → Passed s t → Passed t u → Passed s u
passed-trans here q = q
passed-trans (byte e p) q = byte e (passed-trans p q)

passed-all : {p : ℕ → Bool} → ((b : ℕ) → p b ≡ true → is_text b ≡ true) → {ds : List ℕ} → All p ds → (s : List ℕ) → Passed (ds ++ s) s
passed-all f done s = here
passed-all f (each {b} e a) s = byte (f b e) (passed-all f a s)

pub text-passed : {s : List ℕ} → All is_text s → Passed s []
text-passed done = here
text-passed (each e a) = byte e (text-passed a)

pub outside-passed : {s s' : List ℕ} → Outside s s' → Passed s s'
outside-passed here = here
outside-passed (byte {b} e p) = byte (and_left (is_text b) (not (eqb b 34)) e) (outside-passed p)
outside-passed (in_quotes {bs} {s} a p) =
    byte refl (passed-trans (passed-all (λ b. and_left (is_text b) (not (eqb b 34))) a (34 ∷ s)) (byte refl (outside-passed p)))

pub passed-text : {s s' : List ℕ} → Passed s s' → All is_text s' → All is_text s
passed-text here a = a
passed-text (byte e p) a = each e (passed-text p a)

pub passed_length : {s s' : List ℕ} → Passed s s' → length s' ≤ length s
passed_length here = omega arith
passed_length (byte e p) = let h = passed_length p in omega arith

pub outside-length : {s s' : List ℕ} → Outside s s' → length s' ≤ length s
outside-length p = passed_length (outside-passed p)

-- positions are counted from the end: those of the rest are those of the text
pub passed-drop : {s s' : List ℕ} → Passed s s' → (n : ℕ) → n ≤ length s' → drop (length s - n) s ≡ drop (length s' - n) s'
passed-drop here n h = refl
passed-drop (byte {b} {s} e p) n h =
    let l = passed_length p in
    let k : suc (length s) - n ≡ suc (length s - n) = omega arith in
    ap (λ (m : ℕ). drop m (b ∷ s)) k ∙ passed-drop p n h

pub passed-rest : {s s' : List ℕ} → Passed s s' → drop (length s - length s') s ≡ s'
passed-rest {s'} p = passed-drop p (length s') (omega arith) ∙ rw (sub_self (length s'))

-- `Over s s'`: what stands before is not empty
pub record Over (s s' : List ℕ) : Type 0 where
  pub out : Outside s s'
  pub short : length s' < length s

infixl 20 ◌⨾◌
pub ◌⨾◌ : {s t u : List ℕ} → Over s t → Over t u → Over s u
p ⨾ q = record { out = outside_trans p.out q.out; short = omega arith }

ranged : (lo hi b : ℕ) → 48 ≤ lo → hi ≤ 90 → leb lo b && leb b hi ≡ true → is_quotable b ≡ true
ranged lo hi b l h e =
    let r = between lo hi b e in
    rw (le-leb 32 b (omega arith), le-leb b 126 (omega arith), ne_eqb b 95 (omega arith), ne_eqb b 34 (omega arith))

digit-bare : (b : ℕ) → is_digit b ≡ true → is_quotable b ≡ true
digit-bare b = ranged 48 57 b (omega arith) (omega arith)

capital-bare : (b : ℕ) → is_capital b ≡ true → is_quotable b ≡ true
capital-bare b = ranged 65 90 b (omega arith) (omega arith)

hex-bare : (b : ℕ) → is_hex_digit b ≡ true → is_quotable b ≡ true
hex-bare b e = or_cases (is_digit b) (leb 65 b && leb b 70) e (digit-bare b) (ranged 65 70 b (omega arith) (omega arith))

space-bare : (b : ℕ) → is_space b ≡ true → is_quotable b ≡ true
space-bare b e = rw (eqb-true b 32 e)

run-over : {p : ℕ → Bool} {ds s : List ℕ} → ((b : ℕ) → p b ≡ true → is_quotable b ≡ true) → ByteRun p ds s → Over (ds ++ s) s
run-over {ds = []} f r = absurd (false≢true r.some)
run-over {ds = d ∷ ds} {s} f r = record { out = outside-all f r.each s; short = omega (arith, length-append ds s) }

pub word_over : {table : List (List ℕ)} {s s' : List ℕ} {w : Token} → Word table s w s' → Over s s'
word_over (spaced w) = let h = word_over w in record { out = byte refl h.out; short = omega arith }
word_over (keyword {cs} {s} r) = record { out = outside-all capital-bare r.each s; short = omega (arith, length-append cs s) }
word_over (letter r) = run-over capital-bare r
word_over (decimal_digits r l) = run-over digit-bare r
word_over (hex_digits r) = let h = run-over hex-bare r in record { out = byte refl h.out; short = omega arith }
word_over (quoted {bs} {s} a) = record { out = in_quotes a here; short = omega (arith, length-append bs (34 ∷ s)) }
word_over (pair {a} {b} {k} {s} e) =
    of-pairs (λ x y n. Over (x ∷ y ∷ s) s) a b k (record { out = byte refl (byte refl here); short = omega arith })
    (record { out = byte refl (byte refl here); short = omega arith }) (record { out = byte refl (byte refl here); short = omega arith }) e
word_over (symbol {b} e n) = record { out = byte (of-symbols is_quotable b refl e) here; short = omega arith }

-- what follows a word is shorter, and is the end of the text
pub word-short : {table : List (List ℕ)} {s s' : List ℕ} {w : Token} → Word table s w s' → length s' < length s
word-short w = (word_over w).short

pub word-rest : {table : List (List ℕ)} {s s' : List ℕ} {w : Token} → Word table s w s' → drop (length s - length s') s ≡ s'
word-rest w = passed-rest (outside-passed (word_over w).out)
