-- The page check one record at a time: what a whole record is by its length byte, when it may stand in a good page, and
-- the walk along good records with no bound on the steps to carry.
-- Assumes nothing.
use Rattle.std.specs.Prelude.{Some, None, ◌&&◌}
use Rattle.std.proofs.lemmas.Option.{cond_some, none-some}
use Prim.Native.Nat.{ℕ, zero, suc, ◌+◌, ◌-◌, ◌≤◌, ◌<◌}
use mathlib.Core.Path.{◌≡◌, refl, sym, ap, ◌∙◌}
use mathlib.Core.Bool.{Bool, true, false, not, and-true, and-false}
use mathlib.Core.List.{List}
use native.Mathlib.Omega.{arith}
use lib.ListN.{length, get_or, take, drop, length-drop}
use lib.Seq.{get_or-drop, drop-drop}
use lib.Dec.{leb, eqb}
use borrow.Author.Tests.{leb-true}
use Rattle.nibl.specs.Bytes.{is_digit, starts}
use Rattle.nibl.specs.found.Read.{reading}
use Rattle.nibl.specs.Values.{digits}
use Rattle.nibl.specs.Page.{Stored, is_end, line_at, length_at, text_at, has_reading, is_storable, is_record, good_n}
use Rattle.nibl.specs.found.Form.{Parted, broken, parted, behind, records_in}
use Rattle.page.proofs.Walk.{by_cases}
use Rattle.page.proofs.Program.{record-known, both}
use Rattle.places.specs.Whole.{is_whole_record, whole_size, record_size}
use Rattle.places.specs.Ends.{end_in}

-- a text that a page may hold, its tests in the order of the code
reorder : (a b c : Bool) → (a && (b && c)) ≡ (c && (b && a))
reorder false b c = sym (ap (λ (d : Bool). c && d) (and-false b) ∙ and-false c)
reorder true false c = sym (and-false c)
reorder true true c = sym (and-true c)

pub storable-tests : (lim n : ℕ) (t : List ℕ) → is_storable lim n t ≡ (leb (length t + length (digits n)) lim && (not (starts is_digit t) && has_reading (reading t)))
unfolding is_storable
storable-tests lim n t = reorder (has_reading (reading t)) (not (starts is_digit t)) (leb (length t + length (digits n)) lim)

-- the bytes of the record at a position
module _ (p : List ℕ) (at : ℕ) where
  pub byte-length : length_at (drop at p) ≡ get_or p (at + 2) 0
  byte-length = get_or-drop at p 2 0

  pub text-is : (n : ℕ) → n ≡ length_at (drop at p) → take (at + n - 1 - (at + 3)) (drop (at + 3) p) ≡ text_at (drop at p)
  text-is n h =
      let e : at + n - 1 - (at + 3) ≡ length_at (drop at p) - 4 = omega arith in
      λ i. take (e i) (sym (drop-drop 3 at p) i)

-- a whole record
module _ (q : List ℕ) where
  -- what is known where one was found
  pub record WholeRecord (n : ℕ) : Type 0 where
    pub long : n ≡ length_at q
    pub least : 5 ≤ n
    pub inside : n ≤ length q
    pub whole : is_whole_record q ≡ true

  pub whole-found : (n : ℕ) → whole_size q ≡ Some n → WholeRecord n
  whole-found n h =
      let e = cond_some (is_whole_record q) (length_at q) n h in
      let a = both (leb 5 (length_at q)) _ e.0 in
      let b = both (leb (length_at q) (length q)) _ a.1 in
      let l = leb-true 5 (length_at q) a.0 in
      let m = leb-true (length_at q) (length q) b.0 in
      record { long = sym e.1; least = omega arith; inside = omega arith; whole = e.0 }

-- the tests of a record of a good page, those of a whole record first
regroup : (a b c d e f : Bool) → (a && (b && (c && (d && (e && f))))) ≡ ((c && (d && e)) && (a && (b && f)))
regroup false b c d e f = sym (and-false (c && (d && e)))
regroup true false c d e f = sym (and-false (c && (d && e)))
regroup true true false d e f = refl
regroup true true true false e f = refl
regroup true true true true e f = refl

module _ (lim low : ℕ) (q : List ℕ) where
  pub record-tests : is_record lim low q ≡ (is_whole_record q && (leb low (line_at q) && (leb (line_at q) 32767 && is_storable lim (line_at q) (text_at q))))
  unfolding is_record
  record-tests = regroup (leb low (line_at q)) (leb (line_at q) 32767) (leb 5 (length_at q)) (leb (length_at q) (length q)) (eqb (get_or q (length_at q - 1) 0) 13) (is_storable lim (line_at q) (text_at q))

  -- where one was found, and where none was
  pub record_is : {n : ℕ} → record_size lim low q ≡ Some n → (is_record lim low q ≡ true) × (length_at q ≡ n)
  record_is {n} h = cond_some (is_record lim low q) (length_at q) n h

  pub record_is_not : record_size lim low q ≡ None → is_record lim low q ≡ false
  record_is_not h = by_cases (is_record lim low q) (λ e. absurd (none-some (length_at q) (sym (rw e at h)))) (λ e. e)

-- the walk of the check
module _ (lim : ℕ) where
  -- good from here on
  abbrev pub good_from : ℕ → List ℕ → Bool
  good_from low q = good_n lim (suc (length q)) low q

  -- any bound above the length will do
  enough : (k m low : ℕ) (q : List ℕ) → length q < k → length q < m → good_n lim k low q ≡ good_n lim m low q
  unfolding good_n
  enough zero m low q h j = absurd (omega arith)
  enough (suc k) zero low q h j = absurd (omega arith)
  enough (suc k) (suc m) low q h j =
      by_cases (is_end q) (λ e. rw (e, good_n)) (λ e. by_cases (is_record lim low q)
      (λ f.
      let r = record-known lim low q f in
      let d = length-drop (length_at q) q in
      let five = r.1.1.0 in
      let whole = r.1.1.1.0 in
      rw (e, f, good_n) (enough k m (suc (line_at q)) (drop (length_at q) q) (omega arith) (omega arith)))
      (λ f. rw (e, f, good_n)))

  module _ (low : ℕ) (q : List ℕ) where
    pub good-end : is_end q ≡ true → good_from low q ≡ true
    unfolding good_n
    good-end e = rw (e, good_n)

    pub good_none : is_end q ≡ false → record_size lim low q ≡ None → good_from low q ≡ false
    unfolding good_n
    good_none e z = rw (e, record_is_not lim low q z, good_n)

    -- a record that may stand here: the page is good if it is so from the next one on
    pub record NextRecord (n : ℕ) : Type 0 where
      pub least : 5 ≤ n
      pub inside : n ≤ length q
      pub good : good_from low q ≡ good_from (suc (line_at q)) (drop n q)

    pub good-next : {n : ℕ} → is_end q ≡ false → record_size lim low q ≡ Some n → NextRecord n
    unfolding good_n
    good-next {n} e f =
        let k = record_is lim low q f in
        let r = record-known lim low q k.0 in
        let d = length-drop (length_at q) q in
        let five = r.1.1.0 in
        let whole = r.1.1.1.0 in
        let is : n ≡ length_at q = sym k.1 in
        record {
          least = omega arith;
          inside = omega arith;
          good =
              rw (e, k.0, good_n) (enough (length q) (suc (length (drop (length_at q) q))) (suc (line_at q)) (drop (length_at q) q) (omega arith) (omega arith))
              ∙ ap (λ (m : ℕ). good_from (suc (line_at q)) (drop m q)) (sym is);
        }

-- the walk along so many records
module _ (lim : ℕ) (s : List ℕ) where
  -- where they end does not depend on what stands before
  end-behind : (r : Stored) (p : Parted) → end_in s (behind r p) ≡ end_in s p
  end-behind r broken = refl
  end-behind r (parted rs q) = refl

  module _ (k low at : ℕ) where
    pub end_none : record_size lim low (drop at s) ≡ None → end_in s (records_in lim (suc k) low (drop at s)) ≡ None
    unfolding records_in
    end_none z = rw (record_is_not lim low (drop at s) z, records_in)

    -- a record that may stand here: they end where those behind it do
    pub record FurtherRecord (n : ℕ) : Type 0 where
      pub inside : n ≤ length (drop at s)
      pub end : end_in s (records_in lim (suc k) low (drop at s)) ≡ end_in s (records_in lim k (suc (line_at (drop at s))) (drop (at + n) s))

    pub end-next : {n : ℕ} → record_size lim low (drop at s) ≡ Some n → FurtherRecord n
    unfolding records_in
    end-next {n} f =
        let q : List ℕ = drop at s in
        let j = record_is lim low q f in
        let r = record-known lim low q j.0 in
        let whole = r.1.1.1.0 in
        let is : n ≡ length_at q = sym j.1 in
        let next : drop (length_at q) q ≡ drop (at + n) s = ap (λ (m : ℕ). drop m q) (sym is) ∙ drop-drop n at s in
        record {
          inside = omega arith;
          end = rw (j.0, records_in) (end-behind (record { line = line_at q; text = text_at q }) (records_in lim k (suc (line_at q)) (drop (length_at q) q)) ∙ ap (λ (t : List ℕ). end_in s (records_in lim k (suc (line_at q)) t)) next);
        }

  pub end-here : (low at : ℕ) → at ≤ length s → end_in s (records_in lim 0 low (drop at s)) ≡ Some at
  unfolding records_in
  end-here low at h = let e : length s - length (drop at s) ≡ at = omega (arith, length-drop at s) in ap Some e
