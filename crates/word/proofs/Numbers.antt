-- Constants, a digit at a time. Assumes nothing.
use Prim.Native.Nat.{ℕ, ◌+◌, ◌-◌, ◌*◌, ◌%◌, ◌≤◌, ◌<◌}
use mathlib.Core.Path.{◌≡◌, ◌∙◌, refl, ap, sym}
use mathlib.Core.Bool.{Bool, true, false, ◌&&◌, ◌||◌, false≢true}
use mathlib.Core.List.{List, [], ◌∷◌}
use native.Mathlib.Omega.{arith}
use borrow.Author.Tests.{le-leb, lt-leb}
use lib.Dec.{leb}
use lib.ListN.{length, drop, get_or, length-drop}
use Rattle.nibl.specs.Bytes.{is_digit, is_hex_digit, starts, front, past, decimal_value, hex_value}
use Rattle.nibl.specs.Words.{hex}
use Rattle.nibl.specs.found.Read.{got, hex_step}
use Rattle.nibl.specs.found.GaveUp.{past_largest}
use Rattle.word.specs.declared.Word.TheVariants.{Decimal, Hex, Wrong}
use Rattle.word.specs.Found.{hex_digit, decimal_at, decimal_left, hex_at, AnswerIs}
use Rattle.word.proofs.Runs.{at_byte, between, run_end, run-cons, front-stop, end-go, end-stop, end-past, rest-stop}

-- v is the value of the digits from `from` up to i, none of which passes the largest
pub record Counted (text : List ℕ) (from v i : ℕ) : Type 0 where
  pub value : decimal_value v (front is_digit (drop i text)) ≡ decimal_value 0 (front is_digit (drop from text))
  pub end : run_end is_digit text i ≡ run_end is_digit text from
  pub left : past_largest v (drop i text) ≡ past_largest 0 (drop from text)

decimal-grows : (v : ℕ) (ds : List ℕ) → v ≤ decimal_value v ds
decimal-grows v [] = omega arith
decimal-grows v (d ∷ ds) = omega (arith, decimal-grows (v * 10 + (d - 48)) ds)

-- the next digit passes the largest or does not
largest-go : (v b : ℕ) (s : List ℕ) → is_digit b ≡ true → v * 10 + (b - 48) ≤ 32767 → past_largest v (b ∷ s) ≡ past_largest (v * 10 + (b - 48)) s
unfolding past_largest
largest-go v b s e h = rw (e, past_largest) (rw (le-leb (v * 10 + (b - 48)) 32767 h))

largest-stop : (v b : ℕ) (s : List ℕ) → is_digit b ≡ true → 32767 < v * 10 + (b - 48) → past_largest v (b ∷ s) ≡ b ∷ s
unfolding past_largest
largest-stop v b s e h = rw (e, past_largest) (rw (lt-leb (v * 10 + (b - 48)) 32767 h))

module _ {text : List ℕ} {from v i : ℕ} (c : Counted text from v i) where
  module _ (d : ℕ) (h : i < length text) (e : is_digit (get_or text i 0) ≡ true) (f : d ≡ get_or text i 0 - 48) where
    next : decimal_value (v * 10 + (get_or text i 0 - 48)) (front is_digit (drop (i + 1) text)) ≡ decimal_value 0 (front is_digit (drop from text))
    next = sym (ap (decimal_value v) (run-cons is_digit text i h e)) ∙ c.value

    pub counted-go : v * 10 + d ≤ 32767 → Counted text from (v * 10 + d) (i + 1)
    counted-go k =
        record {
          value = rw f next;
          end = sym (end-go is_digit text i h e) ∙ c.end;
          left = rw f (sym (largest-go v (get_or text i 0) (drop (i + 1) text) e (omega arith)) ∙ ap (past_largest v) (sym (at_byte text i h)) ∙ c.left);
        }

    pub counted-large : 32767 < v * 10 + d → AnswerIs decimal_at decimal_left text from (Wrong (record { at = i }))
    counted-large k =
        let large : 32767 < decimal_value 0 (front is_digit (drop from text))
        = omega (arith, decimal-grows (v * 10 + (get_or text i 0 - 48)) (front is_digit (drop (i + 1) text)), next) in
        let left : past_largest 0 (drop from text) ≡ drop i text
        = sym c.left ∙ ap (past_largest v) (at_byte text i h) ∙ largest-stop v (get_or text i 0) (drop (i + 1) text) e (omega arith) ∙ sym (at_byte text i h) in
        record {
          same = rw (lt-leb (decimal_value 0 (front is_digit (drop from text))) 32767 large) refl;
          inside = tt;
          stopped = rw left (omega (arith, length-drop i text));
        }

  pub counted_stop : from < length text → is_digit (get_or text from 0) ≡ true → i ≤ length text → v ≤ 32767 → starts is_digit (drop i text) ≡ false
      → AnswerIs decimal_at decimal_left text from (Decimal v (record { at = i }))
  counted_stop h d l k f =
      let value : decimal_value 0 (front is_digit (drop from text)) ≡ v = sym c.value ∙ ap (decimal_value v) (front-stop is_digit (drop i text) f) in
      let past = end-past is_digit text from h d in
      let end = end-stop is_digit text i f in
      record { same = rw (value, rest-stop is_digit text from i c.end f, le-leb v 32767 k) refl; inside = (omega (arith, c.end), l, k); stopped = tt }

-- A hex digit's value
or_right : (a b : Bool) → a || b ≡ true → a ≡ false → b ≡ true
or_right true b e f = absurd (false≢true (sym f))
or_right false b e f = e

pub hex-letter : (b : ℕ) → is_hex_digit b ≡ true → is_digit b ≡ false → (65 ≤ b) × (b ≤ 70)
hex-letter b e f = between 65 70 b (or_right (is_digit b) (leb 65 b && leb b 70) e f)

small : (b : ℕ) → is_hex_digit b ≡ true → (t : Bool) → is_digit b ≡ t → hex_digit b ≤ 15
small b e true f = let range = between 48 57 b f in rw f (omega arith)
small b e false f = let range = hex-letter b e f in rw f (omega arith)

pub hex-small : (b : ℕ) → is_hex_digit b ≡ true → hex_digit b ≤ 15
hex-small b e = small b e (is_digit b) refl

-- v is the low 16 bits of the value of the hex digits from `from` up to i
pub record Hexed (text : List ℕ) (from v i : ℕ) : Type 0 where
  pub value : hex_value v (front is_hex_digit (drop i text)) % 65536 ≡ hex_value 0 (front is_hex_digit (drop from text)) % 65536
  pub end : run_end is_hex_digit text i ≡ run_end is_hex_digit text from

-- only the low 16 bits of what came before count
hex-low : (a b : ℕ) (ds : List ℕ) → a % 65536 ≡ b % 65536 → hex_value a ds % 65536 ≡ hex_value b ds % 65536
hex-low a b [] e = e
hex-low a b (d ∷ ds) e = hex-low (a * 16 + hex_digit d) (b * 16 + hex_digit d) ds (omega arith)

hex-some : (ds s : List ℕ) → 0 < length ds → hex_step ds s ≡ got (hex (hex_value 0 ds % 65536)) s
hex-some [] s h = absurd (omega arith)
hex-some (d ∷ ds) s h = refl

module _ {text : List ℕ} {from v i : ℕ} (c : Hexed text from v i) where
  pub hexed-go : (u : ℕ) → i < length text → is_hex_digit (get_or text i 0) ≡ true → u ≡ v % 4096 * 16 + hex_digit (get_or text i 0) → Hexed text from u (i + 1)
  hexed-go u h e f =
      let b = get_or text i 0 in
      let low = hex-low u (v * 16 + hex_digit b) (front is_hex_digit (drop (i + 1) text)) (omega arith) in
      record {
        value = low ∙ sym (ap (λ (l : List ℕ). hex_value v l % 65536) (run-cons is_hex_digit text i h e)) ∙ c.value;
        end = sym (end-go is_hex_digit text i h e) ∙ c.end;
      }

  pub hexed-stop : from < i → i ≤ length text → v < 65536 → starts is_hex_digit (drop i text) ≡ false
      → AnswerIs hex_at length text from (Hex v (record { at = i }))
  hexed-stop h l k f =
      let value : hex_value 0 (front is_hex_digit (drop from text)) % 65536 ≡ v % 65536 = sym c.value ∙ ap (λ (ds : List ℕ). hex_value v ds % 65536) (front-stop is_hex_digit (drop i text) f) in
      let low : hex_value 0 (front is_hex_digit (drop from text)) % 65536 ≡ v = omega arith in
      let end = end-stop is_hex_digit text i f in
      record {
        same = rw (hex-some (front is_hex_digit (drop from text)) (past is_hex_digit (drop from text)) (omega (arith, c.end)), low, rest-stop is_hex_digit text from i c.end f) refl;
        inside = (h, l);
        stopped = tt;
      }

pub hexed-none : (text : List ℕ) (from : ℕ) → from ≤ length text → starts is_hex_digit (drop from text) ≡ false
    → AnswerIs hex_at length text from (Wrong (record { at = from }))
hexed-none text from h f =
    record { same = rw (front-stop is_hex_digit (drop from text) f) refl; inside = tt; stopped = omega (arith, length-drop from text) }
