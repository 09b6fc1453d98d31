-- Gathering on the way: what is left to gather, and the answer and the slots at the end. Assumes nothing.
use mathlib.Core.Path.{◌≡◌, ◌∙◌, ap}
use mathlib.Core.Bool.{true, false}
use mathlib.Core.List.{List, ◌∷◌, ◌++◌}
use mathlib.Core.Option.{none, some}
use Prim.Native.Nat.{ℕ, suc, ◌+◌, ◌-◌, ◌<◌, ◌≤◌}
use native.Mathlib.Nat.{sub-zero}
use native.Mathlib.Numerals.{add-one}
use native.Mathlib.Omega.{arith}
use lib.ListN.{length, take, drop, get_or, replicate, drop_of_length-le}
use lib.Seq.{length-take-le, drop-cons}
use borrow.Author.Tests.{ne_eqb}
use Rattle.nibl.specs.Bytes.{class_of}
use Rattle.nibl.specs.Typing.{Kept, keep, Gathered, gather_from, gather}
use Rattle.letter.specs.declared.Gathering.TheVariants.{Line, TooLong, NoCr}
use Rattle.letter.specs.declared.Tally.{Tally}
use Rattle.letter.proofs.Keeping.{zeros_behind}
use Rattle.letter.specs.Slots.{answer, padded, held, kept_in}

-- the next byte is a CR, or another one
module _ (lim : ℕ) (k : Kept) (n b : ℕ) (s : List ℕ) where
  pub cr-first : class_of b ≡ 1 → gather_from lim k n (b ∷ s) ≡ some (record { line = k; taken = suc n })
  unfolding gather_from
  cr-first e = rw (e, gather_from)

  pub other-first : (class_of b ≡ 1 → ⊥) → gather_from lim k n (b ∷ s) ≡ gather_from lim (keep lim k b) (suc n) s
  unfolding gather_from
  other-first o = rw (ne_eqb (class_of b) 1 o, gather_from)

-- a line is being gathered from a position of the input: it has come to i, and the slots hold what the tally says
pub record Going (input : List ℕ) (at : ℕ) (slots : List ℕ) (t : Tally) (i : ℕ) : Type 0 where
  pub ahead : at ≤ i
  pub fits : t.count ≤ length slots
  pub left : gather (length slots) (drop at input) ≡ gather_from (length slots) (kept_in slots t) (i - at) (drop i input)

pub going_start : (input : List ℕ) (at : ℕ) (slots : List ℕ) → Going input at slots (record { count = 0; long = false }) at
unfolding gather kept_in
going_start input at slots =
    let z : at - at ≡ 0 = omega arith in
    record { ahead = omega arith; fits = omega arith; left = rw z }

module _ {input : List ℕ} {at : ℕ} {slots : List ℕ} {t : Tally} {i : ℕ} (g : Going input at slots t i) where
  pub going_on : i < length input → (class_of (get_or input i 0) ≡ 1 → ⊥) → (slots' : List ℕ) (t' : Tally) → length slots' ≡ length slots → t'.count ≤ length slots →
      kept_in slots' t' ≡ keep (length slots) (kept_in slots t) (get_or input i 0) → Going input at slots' t' (i + 1)
  going_on h o slots' t' l f e =
      let lim : ℕ = length slots in
      let n : i + 1 - at ≡ suc (i - at) = omega arith in
      let step : gather_from lim (kept_in slots t) (i - at) (drop i input) ≡ gather_from lim (kept_in slots' t') (i + 1 - at) (drop (i + 1) input) =
      rw (n, add-one i, e) (ap (gather_from lim (kept_in slots t) (i - at)) (drop-cons input i 0 h) ∙ other-first lim (kept_in slots t) (i - at) (get_or input i 0) (drop (suc i) input) o) in
      record { ahead = omega arith; fits = omega arith; left = rw l (g.left ∙ step) }

  -- no CR was met
  module _ (h : length input ≤ i) where
    gone : gather (length slots) (drop at input) ≡ none
    unfolding gather_from
    gone = g.left ∙ rw (drop_of_length-le input h)

    pub gone-answer : NoCr ≡ answer at (gather (length slots) (drop at input))
    unfolding answer
    gone-answer = rw gone

    pub gone_held : replicate (length slots) 0 ≡ held (length slots) (gather (length slots) (drop at input))
    unfolding held padded
    gone_held = rw (gone, sub-zero)

  -- a CR is met
  module _ (h : i < length input) (e : class_of (get_or input i 0) ≡ 1) where
    abbrev found : Gathered
    found = record { line = kept_in slots t; taken = suc (i - at) }

    met : gather (length slots) (drop at input) ≡ some found
    met =
        g.left ∙ (ap (gather_from (length slots) (kept_in slots t) (i - at)) (drop-cons input i 0 h) ∙ cr-first (length slots) (kept_in slots t) (i - at) (get_or input i 0) (drop (suc i) input) e)

    next : at + suc (i - at) ≡ i + 1
    next = let a = g.ahead in omega arith

    pub met-long : t.long ≡ true → TooLong (i + 1) ≡ answer at (gather (length slots) (drop at input))
    unfolding answer kept_in
    met-long l = rw (met, l, next)

    pub met-line : t.long ≡ false → Line (i + 1) t.count ≡ answer at (gather (length slots) (drop at input))
    unfolding answer kept_in
    met-line l = rw (met, l, next, length-take-le t.count slots g.fits)

    pub met-held : take t.count slots ++ replicate (length slots - t.count) 0 ≡ held (length slots) (gather (length slots) (drop at input))
    unfolding held padded kept_in
    met-held = rw (met, length-take-le t.count slots g.fits)

-- how gathering goes on, and what is answered and what the slots hold where it ends
pub ruleset gathers = (going_start, going_on, gone-answer, gone_held, met-long, met-line, met-held, zeros_behind)
