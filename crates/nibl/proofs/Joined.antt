-- A word stays the word that it is where more text follows that begins with a space or a quote. Assumes nothing.
use Rattle.std.specs.Prelude.{if◌then◌else◌}
use Prim.Native.Nat.{ℕ}
use mathlib.Core.Path.{◌≡◌, refl}
use mathlib.Core.Bool.{Bool, true, false, ◌&&◌}
use mathlib.Core.List.{List, [], ◌∷◌, ◌++◌, append_assoc}
use mathlib.Core.Option.{none, some}
use borrow.Author.Tests.{eqb-true}
use lib.Dec.{eqb}
use Rattle.nibl.specs.Bytes.{is_space, is_digit, is_capital, is_hex_digit, All, none as done, each, starts, front}
use Rattle.nibl.specs.Words.{Token, there, pairs_with, ByteRun, Word, spaced, keyword, letter, decimal_digits, hex_digits, quoted, pair, symbol}

pub data Apart : List ℕ → Type 0 where
  nothing : Apart []
  a_space : {s : List ℕ} → Apart (32 ∷ s)
  a_quote : {s : List ℕ} → Apart (34 ∷ s)

-- a run that ends in the text ends there with more behind it
module _ (p : ℕ → Bool) (s : p 32 ≡ false) (q : p 34 ≡ false) where
  starts-joined : {t : List ℕ} (u : List ℕ) → Apart t → starts p u ≡ false → starts p (u ++ t) ≡ false
  starts-joined [] nothing e = e
  starts-joined [] a_space e = s
  starts-joined [] a_quote e = q
  starts-joined (b ∷ u) a e = e

  front-joined : {t : List ℕ} (u : List ℕ) → Apart t → front p (u ++ t) ≡ front p u
  front-joined [] nothing = refl
  front-joined [] a_space = rw s
  front-joined [] a_quote = rw q
  front-joined {t} (b ∷ u) a = go (p b) refl (front-joined u a)
    where
      go : (x : Bool) → p b ≡ x → front p (u ++ t) ≡ front p u → front p (b ∷ (u ++ t)) ≡ front p (b ∷ u)
      go true e h = rw (e, h)
      go false e h = rw e

  run-joined : {ds u t : List ℕ} → Apart t → ByteRun p ds u → ByteRun p ds (u ++ t)
  run-joined {u} a r = record { some = r.some; each = r.each; longest = starts-joined u a r.longest }

-- nor is a space or a quote the second byte of a pair
no-pair : (x y : Bool) → there (if x && false then some 1 else if y && false then some 2 else if x && false then some 3 else none) ≡ false
no-pair true true = refl
no-pair true false = refl
no-pair false true = refl
no-pair false false = refl

pairs-joined : (b : ℕ) {t : List ℕ} (u : List ℕ) → Apart t → pairs_with b u ≡ false → pairs_with b (u ++ t) ≡ false
pairs-joined b [] nothing e = e
pairs-joined b [] a_space e = no-pair (eqb b 60) (eqb b 62)
pairs-joined b [] a_quote e = no-pair (eqb b 60) (eqb b 62)
pairs-joined b (c ∷ u) a e = e

pub word-joined : {table : List (List ℕ)} {s t u : List ℕ} {w : Token} → Word table s w u → Apart t → Word table (s ++ t) w (u ++ t)
word-joined (spaced w) a = spaced (word-joined w a)
word-joined {table} {t} (keyword {c} {d} {k} {cs} {s} r) a =
    let e : (cs ++ s) ++ t ≡ cs ++ (s ++ t) = append_assoc cs s t in
    rw e (keyword {s = s ++ t} (record {
      each = r.each;
      spelled = r.spelled;
      longest = rw (← e, front-joined is_capital refl refl (c ∷ d ∷ cs ++ s) a) r.longest;
    }))
word-joined (letter r) a = letter (run-joined is_capital refl refl a r)
word-joined {t} (decimal_digits {ds} {s} r l) a = rw (append_assoc ds s t) (decimal_digits (run-joined is_digit refl refl a r) l)
word-joined {t} (hex_digits {ds} {s} r) a = rw (append_assoc ds s t) (hex_digits (run-joined is_hex_digit refl refl a r))
word-joined {t} (quoted {bs} {s} q) a = rw (append_assoc bs (34 ∷ s) t) (quoted q)
word-joined (pair e) a = pair e
word-joined (symbol {b} {s} e n) a = symbol e (pairs-joined b s a n)

-- and where spaces stand before it
pub word-spaced : {table : List (List ℕ)} {p s u : List ℕ} {w : Token} → All is_space p → Word table s w u → Word table (p ++ s) w u
word-spaced done w = w
word-spaced (each {b} e a) w = rw (eqb-true b 32 e) (spaced (word-spaced a w))
