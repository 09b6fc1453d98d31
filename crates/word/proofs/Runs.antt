-- Runs of bytes along a text: where one ends, what it is and what follows it. Assumes nothing.
use Prim.Native.Nat.{ℕ, zero, suc, ◌+◌, ◌≤◌, ◌<◌}
use mathlib.Core.Path.{◌≡◌, ◌∙◌, refl, ap, sym}
use mathlib.Core.Bool.{Bool, true, false, ◌&&◌}
use mathlib.Core.List.{List, [], ◌∷◌}
use native.Mathlib.Omega.{arith}
use native.Mathlib.Numerals.{add-one}
use borrow.Author.Tests.{eqb-true, eqb-false, leb-true}
use lib.Dec.{eqb, leb}
use lib.ListN.{length, take, drop, get_or, length-drop, drop_of_length-le}
use lib.Seq.{slice, drop-cons, drop-drop, take-nil}
use native.Mathlib.Nat.{zero-add, suc-add}
use Rattle.nibl.specs.Bytes.{starts, front, past, all}

-- two tests agree on the n numbers from lo on, by computation
abbrev alike : Bool → Bool → Bool
alike true b = b
alike false true = false
alike false false = true

alike-eq : (a b : Bool) → alike a b ≡ true → a ≡ b
alike-eq true b e = sym e
alike-eq false true e = e
alike-eq false false e = refl

pub and_left : (a b : Bool) → a && b ≡ true → a ≡ true
and_left true b e = refl
and_left false b e = e

pub and_right : (a b : Bool) → a && b ≡ true → b ≡ true
and_right true b e = e
and_right false true e = refl
and_right false false e = e

abbrev pub agreeing : (ℕ → Bool) → (ℕ → Bool) → ℕ → ℕ → Bool
agreeing p q lo zero = true
agreeing p q lo (suc n) = alike (p lo) (q lo) && agreeing p q (suc lo) n

module _ (p q : ℕ → Bool) where
  agree-step : (n lo b : ℕ) → agreeing p q lo (suc n) ≡ true → (lo < b → p b ≡ q b) → lo ≤ b → (t : Bool) → eqb lo b ≡ t → p b ≡ q b
  agree-step n lo b e ih h true k = rw (← eqb-true lo b k) (alike-eq (p lo) (q lo) (and_left (alike (p lo) (q lo)) (agreeing p q (suc lo) n) e))
  agree-step n lo b e ih h false k = let d = eqb-false lo b k in ih (omega arith)

  pub agree : (n lo b : ℕ) → agreeing p q lo n ≡ true → lo ≤ b → b < lo + n → p b ≡ q b
  agree zero lo b e h k = absurd (omega arith)
  agree (suc n) lo b e h k = agree-step n lo b e (λ l. agree n (suc lo) b (and_right (alike (p lo) (q lo)) (agreeing p q (suc lo) n) e) l (omega arith)) h (eqb lo b) refl

-- a test by two bounds
pub between : (lo hi b : ℕ) → leb lo b && leb b hi ≡ true → (lo ≤ b) × (b ≤ hi)
between lo hi b e = (leb-true lo b (and_left (leb lo b) (leb b hi) e), leb-true b hi (and_right (leb lo b) (leb b hi) e))

pub at_byte : (text : List ℕ) (i : ℕ) → i < length text → drop i text ≡ get_or text i 0 ∷ drop (i + 1) text
at_byte text i h = rw (add-one, drop-cons text i 0 h) refl

module _ (p : ℕ → Bool) where
  pub front-go : (b : ℕ) (s : List ℕ) → p b ≡ true → front p (b ∷ s) ≡ b ∷ front p s
  front-go b s e = rw e refl

  pub past-go : (b : ℕ) (s : List ℕ) → p b ≡ true → past p (b ∷ s) ≡ past p s
  past-go b s e = rw e refl

  pub front-stop : (s : List ℕ) → starts p s ≡ false → front p s ≡ []
  front-stop [] e = refl
  front-stop (b ∷ s) e = rw e refl

  pub past_stop : (s : List ℕ) → starts p s ≡ false → past p s ≡ s
  past_stop [] e = refl
  past_stop (b ∷ s) e = rw e refl

-- Of the longest run at the front of s: what it is, what follows it, and that it stops there
pub record Parted (p : ℕ → Bool) (s : List ℕ) : Type 0 where
  pub run : front p s ≡ take (length (front p s)) s
  pub rest : past p s ≡ drop (length (front p s)) s
  pub short : length (front p s) ≤ length s
  pub stops : starts p (past p s) ≡ false
  pub each : all p (front p s) ≡ true

parted-step : (p : ℕ → Bool) (b : ℕ) (s : List ℕ) → Parted p s → (t : Bool) → p b ≡ t → Parted p (b ∷ s)
parted-step p b s h true e = record { run = rw e (ap (λ (l : List ℕ). b ∷ l) h.run); rest = rw e h.rest; short = rw e (omega arith); stops = rw e h.stops; each = rw e (rw e h.each) }
parted-step p b s h false e = record { run = rw e refl; rest = rw e refl; short = rw e (omega arith); stops = rw (e, past) e; each = rw e refl }

pub parted : (p : ℕ → Bool) (s : List ℕ) → Parted p s
parted p [] = record { run = refl; rest = refl; short = omega arith; stops = refl; each = refl }
parted p (b ∷ s) = parted-step p b s (parted p s) (p b) refl

pub slice_front : (f n : ℕ) (l : List ℕ) → slice f (f + n) l ≡ take n (drop f l)
slice_front zero n l = ap (λ (k : ℕ). take k l) (zero-add n)
slice_front (suc f) n [] = rw (take-nil (suc f + n)) (sym (take-nil n))
slice_front (suc f) n (b ∷ l) = rw suc-add (slice_front f n l)

-- Along a text: where the run that starts at a position ends
abbrev pub run_end : (ℕ → Bool) → List ℕ → ℕ → ℕ
run_end p text from = from + length (front p (drop from text))

module _ (p : ℕ → Bool) (text : List ℕ) where
  pub run_at : (from to : ℕ) → to ≡ run_end p text from → front p (drop from text) ≡ slice from to text
  run_at from to e = rw e ((parted p (drop from text)).run ∙ sym (slice_front from (length (front p (drop from text))) text))

  pub rest_at : (from to : ℕ) → to ≡ run_end p text from → past p (drop from text) ≡ drop to text
  rest_at from to e = rw e ((parted p (drop from text)).rest ∙ drop-drop (length (front p (drop from text))) from text)

  pub end-within : (from : ℕ) → from ≤ length text → run_end p text from ≤ length text
  end-within from h = omega (arith, (parted p (drop from text)).short, length-drop from text)

  pub starts-at : (i : ℕ) → i < length text → starts p (drop i text) ≡ p (get_or text i 0)
  starts-at i h = rw (at_byte text i h) refl

  pub stops_at : (i : ℕ) → i < length text → p (get_or text i 0) ≡ false → starts p (drop i text) ≡ false
  stops_at i h e = starts-at i h ∙ e

  pub stops_end : (i : ℕ) → length text ≤ i → starts p (drop i text) ≡ false
  stops_end i h = rw (drop_of_length-le text h) refl

  pub end-go : (i : ℕ) → i < length text → p (get_or text i 0) ≡ true → run_end p text i ≡ run_end p text (i + 1)
  end-go i h e = rw (at_byte text i h, front-go p (get_or text i 0) (drop (i + 1) text) e) (omega arith)

  pub end-stop : (i : ℕ) → starts p (drop i text) ≡ false → run_end p text i ≡ i
  end-stop i e = rw (front-stop p (drop i text) e) (omega arith)

  -- the run that starts at `from` ends where a later one is known to end with it and to stop; and what follows it
  pub end-here : (from i : ℕ) → run_end p text i ≡ run_end p text from → starts p (drop i text) ≡ false → i ≡ run_end p text from
  end-here from i e f = sym (end-stop i f) ∙ e

  pub rest-stop : (from i : ℕ) → run_end p text i ≡ run_end p text from → starts p (drop i text) ≡ false → past p (drop from text) ≡ drop i text
  rest-stop from i e f = rest_at from i (end-here from i e f)

  -- a byte that passes makes a run
  pub run-cons : (from : ℕ) → from < length text → p (get_or text from 0) ≡ true → front p (drop from text) ≡ get_or text from 0 ∷ front p (drop (from + 1) text)
  run-cons from h e = rw (at_byte text from h) (front-go p (get_or text from 0) (drop (from + 1) text) e)

  pub end-past : (from : ℕ) → from < length text → p (get_or text from 0) ≡ true → from < run_end p text from
  end-past from h e = rw (run-cons from h e) (omega arith)
