-- A good page, its places and a fitting record by the grammar are what the tests of the calls look for. Assumes nothing.
use Prim.Native.Nat.{ℕ, zero, suc, ◌+◌, ◌-◌, ◌*◌, ◌≤◌, ◌<◌}
use mathlib.Core.Path.{◌≡◌, refl, sym, ap, ◌∙◌}
use mathlib.Core.Bool.{Bool, true, false, false≢true}
use mathlib.Core.List.{List, [], ◌∷◌, ◌++◌}
use mathlib.Core.Logic.{◌⊎◌, inl, inr, ◌↔◌}
use native.Mathlib.Omega.{arith}
use lib.ListN.{length, get_or, take, drop, length-append, length-drop}
use lib.Seq.{take_at, get_or_at, drop-drop}
use lib.Dec.{ltb, eqb}
use borrow.Author.Tests.{eqb-true, eq-eqb, ne_eqb, le-leb, le-ltb, lt-ltb, ltb-true}
use Rattle.nibl.specs.Bytes.{all}
use Rattle.nibl.specs.Tree.{Member}
use Rattle.nibl.specs.Grammar.{Members, last_member, more_members}
use Rattle.nibl.specs.found.Read.{reading}
use Rattle.nibl.specs.Values.{digits}
use Rattle.nibl.specs.Page.{Stored, is_end, line_at, length_at, text_at, is_storable, is_record, good_n, is_good, records_of, size, line_in, line_of, ends_from, ends_of, places_in, places_of, is_among, fits_paused, fits}
use Rattle.nibl.specs.Record.{position, mark}
use Rattle.nibl.specs.declared.Place.{Place}
use Rattle.nibl.specs.declared.ForEntry.{ForEntry}
use Rattle.nibl.specs.declared.Session.{Session}
use Rattle.nibl.proofs.Words.{or_cases}
use Rattle.nibl.proofs.Rules.{W}
use Rattle.nibl.proofs.Statements.{statement-left, left-short}
use Rattle.nibl.proofs.Lines.{reading-sound}
use Rattle.nibl.proofs.Whole.{reading-complete}
use Rattle.page.specs.Standing.{Storable}
use Rattle.page.proofs.Walk.{or_right}
use Rattle.page.proofs.Program.{both, end-bytes}
use Rattle.page.proofs.Stored.{stored-read, stored-text, stored-undigit, stored_short}
use Rattle.page.proofs.Standing.{among-append}
use Rattle.page.proofs.Laid.{Whole, Laid, good-laid}
use Rattle.page.proofs.Laid as laid
use Rattle.record.specs.Fits.{is_saved, is_under_way}
use Rattle.record.specs.Fit.{is_place}
use Rattle.record.proofs.Fitted.{page-tests}
use Rattle.demands.specs.Items.{In, first, further}
use Rattle.demands.specs.Good.{RecordAt, Boundary, start, behind, GoodText, GoodFrom, ends, goes_on, GoodPage, IsPlace, ends_member, PauseFits, nothing_paused, at_start, after_place, Fits}

-- From the test to the grammar: the records of a good page, each where it lies
record-shape : (q : List ℕ) (t rest : List ℕ) → length_at q ≡ length t + 4 → drop 3 q ≡ t ++ (13 ∷ rest)
    → q ≡ get_or q 0 0 ∷ get_or q 1 0 ∷ (length t + 4) ∷ (t ++ (13 ∷ rest))
record-shape [] t rest n e = absurd (omega (arith, ap length e, length-append t (13 ∷ rest)))
record-shape (x ∷ []) t rest n e = absurd (omega (arith, ap length e, length-append t (13 ∷ rest)))
record-shape (x ∷ y ∷ []) t rest n e = absurd (omega (arith, ap length e, length-append t (13 ∷ rest)))
record-shape (x ∷ y ∷ m ∷ s) t rest n e = λ i. x ∷ y ∷ n i ∷ e i

pub whole-record : {lim at : ℕ} {page : List ℕ} {r : Stored} → Whole lim page at r → RecordAt page at r.line r.text
whole-record {at = at} {page = page} {r = r} w =
    record {
      high = get_or (drop at page) 0 0;
      low = get_or (drop at page) 1 0;
      after = drop (at + size r) page;
      bytes = record-shape (drop at page) r.text (drop (at + size r) page) w.long (drop-drop 3 at page ∙ w.text);
      number = sym w.line;
      small = w.storable.number;
    }

pub stored-good : {lim : ℕ} {r : Stored} → Storable lim r → GoodText lim r.line r.text
stored-good {r = r} s =
    let read = stored-read s in
    record {
      members = read.members;
      reads = reading-sound r.text read.members read.reads;
      text = stored-text s;
      undigit = stored-undigit s;
      short = stored_short s;
    }

laid-good : {lim : ℕ} {page : List ℕ} {low at : ℕ} {rs : List Stored} → Laid lim page low at rs → GoodFrom lim page low at
laid-good {page = page} {at = at} (laid.ends e) = ends (record { after = drop 2 (drop at page); bytes = end-bytes (drop at page) e })
laid-good (laid.laid l w p) = goes_on l (whole-record w) (stored-good w.storable) (laid-good p)

-- From the grammar to the test
pub members-long : {s : List ℕ} {ms : List Member} → Members W s ms → 1 ≤ length s
members-long (last_member p a) = omega (arith, left-short (statement-left p))
members-long (more_members p k ms) = omega (arith, left-short (statement-left p))

pub good-storable : {lim n : ℕ} {t : List ℕ} → GoodText lim n t → is_storable lim n t ≡ true
unfolding is_storable
good-storable {lim = lim} {n = n} {t = t} g = rw (reading-complete g.reads, g.undigit, le-leb (length t + length (digits n)) lim g.short)

module _ (h l : ℕ) (t rest : List ℕ) where
  abbrev written : List ℕ
  written = h ∷ l ∷ (length t + 4) ∷ (t ++ (13 ∷ rest))

  written-text : text_at written ≡ t
  written-text = take_at t (13 ∷ rest) (length t + 4 - 4) (omega arith)

  written-cr : get_or written (length t + 4 - 1) 0 ≡ 13
  written-cr = get_or_at (h ∷ l ∷ (length t + 4) ∷ t) 13 rest 0 (length t + 4 - 1) (omega arith)

  pub written-end : h * 256 + l ≤ 32767 → is_end written ≡ false
  written-end s = rw (ne_eqb h 255 (λ e. omega arith))

  written-record : (lim low : ℕ) → low ≤ h * 256 + l → h * 256 + l ≤ 32767 → GoodText lim (h * 256 + l) t → is_record lim low written ≡ true
  unfolding is_record
  written-record lim low a s g =
      let long = members-long g.reads in
      let whole : length written ≡ suc (suc (suc (length t + suc (length rest)))) = ap (λ (n : ℕ). suc (suc (suc n))) (length-append t (13 ∷ rest)) in
      rw (
        le-leb low (h * 256 + l) a,
        le-leb (h * 256 + l) 32767 s,
        le-leb 5 (length t + 4) (omega arith),
        le-leb (length t + 4) (length written) (omega arith),
        written-cr,
        written-text,
      ) (good-storable g)

module _ (lim : ℕ) (page : List ℕ) where
  good-tests : (k : ℕ) {low at : ℕ} → length (drop at page) < k → GoodFrom lim page low at → good_n lim k low (drop at page) ≡ true
  unfolding good_n
  good-tests zero h g = absurd (omega arith)
  good-tests (suc k) {low = low} h (ends m) = ap (good_n lim (suc k) low) m.bytes
  good-tests (suc k) {low = low} {at = at} h (goes_on {n = n} {t = t} a r g more) =
      let q : List ℕ = written r.high r.low t r.after in
      let e = written-end r.high r.low t r.after (omega arith) in
      let is = written-record r.high r.low t r.after lim low (rw r.number at a) (rw r.number at r.small) (rw r.number at g) in
      let next : drop (length t + 4) q ≡ drop (at + (length t + 4)) page = ap (drop (length t + 4)) (sym r.bytes) ∙ drop-drop (length t + 4) at page in
      let short : length (drop (at + (length t + 4)) page) < k =
      omega (arith, ap length r.bytes, length-append t (13 ∷ r.after), length-drop at page, length-drop (at + (length t + 4)) page) in
      ap (good_n lim (suc k) low) r.bytes ∙ rw (e, is, good_n, ← r.number, next) (good-tests k short more)

  good-is : GoodPage lim page → is_good lim page ≡ true
  unfolding is_good
  good-is g = good-tests (suc (length page)) (omega arith) g

  pub good-exact : lim ≤ 251 → (is_good lim page ≡ true) ↔ GoodPage lim page
  good-exact short = (λ g. laid-good (good-laid lim page short g), good-is)

-- Places: what stands at a record boundary of a good page is one of its records
record_same : {lim at n : ℕ} {page t : List ℕ} {r : Stored} → Whole lim page at r → RecordAt page at n t → (n ≡ r.line) × (t ≡ r.text)
record_same {at = at} {page = page} {t = t} {r = r} w a =
    let long : length r.text ≡ length t = omega (arith, w.long, ap length_at a.bytes) in
    let same : t ++ (13 ∷ a.after) ≡ r.text ++ (13 ∷ drop (at + size r) page) = ap (drop 3) (sym a.bytes) ∙ drop-drop 3 at page ∙ w.text in (
      a.number ∙ ap line_at (sym a.bytes) ∙ w.line,
      sym (take_at t (13 ∷ a.after) (length t) refl) ∙ ap (take (length t)) same ∙ take_at r.text (13 ∷ drop (at + size r) page) (length t) long,
    )

pub record-unended : {at n : ℕ} {page t : List ℕ} → RecordAt page at n t → is_end (drop at page) ≡ true → ⊥
record-unended {at = at} {t = t} a e =
    false≢true (sym (written-end a.high a.low t a.after (omega (arith, a.number, a.small))) ∙ ap is_end (sym a.bytes) ∙ e)

-- "or the immediate mark": on a page that is not too long it is none of the places
pub the-mark-is-no-place : {page : List ℕ} {p : ℕ} → length page ≤ 4096 → IsPlace page p → p ≡ mark → ⊥
the-mark-is-no-place {page = page} h (ends_member {at = at} {t = t} b a r i) e =
    omega (arith, ap length a.bytes, length-drop at page, length-append t (13 ∷ a.after))

module _ (lim : ℕ) (page : List ℕ) where
  -- the records from a boundary on, whose places are places of the page, and whose lines are the page's
  pub record OnwardFrom (at : ℕ) : Type 0 where
    pub low : ℕ
    pub records : List Stored
    pub laid : Laid lim page low at records
    pub holds : (p : ℕ) → is_among (places_in at records) p ≡ true → is_among (places_of page) p ≡ true
    pub lines : (p : ℕ) → at ≤ p → line_of page p ≡ line_in (p - at) records

  module _ (at n : ℕ) (t : List ℕ) (a : RecordAt page at n t) where
    -- the record that stands there, and those behind it
    pub record Here : Type 0 where
      pub whole : Whole lim page at (record { line = n; text = t })
      pub behind : OnwardFrom (at + (length t + 4))
      pub places : (p : ℕ) → is_among (ends_of (at + 3) (length t) (reading t)) p ≡ true → is_among (places_of page) p ≡ true
      pub line : (p : ℕ) → at ≤ p → p < at + (length t + 4) → line_of page p ≡ n

    pub record-here : OnwardFrom at → Here
    record-here o = by o.laid o.holds o.lines where
      whole : {low : ℕ} {rs : List Stored} → Whole lim page at (record { line = n; text = t }) → Laid lim page low (at + (length t + 4)) rs
          → ((p : ℕ) → is_among (ends_of (at + 3) (length t) (reading t) ++ places_in (at + (length t + 4)) rs) p ≡ true → is_among (places_of page) p ≡ true)
          → ((p : ℕ) → at ≤ p → line_of page p ≡ line_in (p - at) (record { line = n; text = t } ∷ rs)) → Here
      whole {low = low} {rs = rs} w g h k =
          let mine : List ℕ = ends_of (at + 3) (length t) (reading t) in
          let more : List ℕ = places_in (at + (length t + 4)) rs in
          record {
            whole = w;
            behind =
                record {
                  low = low;
                  records = rs;
                  laid = g;
                  holds = λ p i. h p (among-append mine more p ∙ or_right (is_among mine p) (is_among more p) i);
                  lines = λ p i.
                      let back : p - at - (length t + 4) ≡ p - (at + (length t + 4)) = omega arith in
                      k p (omega arith) ∙ rw (le-ltb (p - at) (length t + 4) (omega arith), back);
                };
            places = λ p i. h p (among-append mine more p ∙ rw i);
            line = λ p i j. k p i ∙ rw (lt-ltb (p - at) (length t + 4) (omega arith));
          }

      by : {low : ℕ} {rs : List Stored} → Laid lim page low at rs → ((p : ℕ) → is_among (places_in at rs) p ≡ true → is_among (places_of page) p ≡ true)
          → ((p : ℕ) → at ≤ p → line_of page p ≡ line_in (p - at) rs) → Here
      by (laid.ends e) h k = absurd (record-unended a e)
      by (laid.laid {r = r} {rs = rs} l w p) h k =
          let same = record_same w a in
          let it : r ≡ record { line = n; text = t } = λ i. record { line = sym same.0 i; text = sym same.1 i } in
          whole (rw it at w) (rw it at p) (rw it at h) (rw it at k)

  pub boundary-onward : Laid lim page 0 0 (records_of page) → {at : ℕ} → Boundary page at → OnwardFrom at
  unfolding places_of line_of
  boundary-onward g start =
      record {
        low = 0;
        records = records_of page;
        laid = g;
        holds = λ p i. i;
        lines = λ p i. let z : p - 0 ≡ p = omega arith in rw z;
      }
  boundary-onward g (behind {at = at} {n = n} {t = t} b a) = (record-here at n t a (boundary-onward g b)).behind

  -- the ends of members
  ends-in : (b n p : ℕ) (ms : List Member) {P : Type 0} → is_among (ends_from b n ms) p ≡ true → ((m : Member) → In m ms → p ≡ b + (n - m.left) → P) → P
  ends-in b n p [] h f = absurd (false≢true h)
  ends-in b n p (m ∷ ms) h f =
      or_cases (eqb p (b + (n - m.left))) (is_among (ends_from b n ms) p) h (λ e. f m first (eqb-true p _ e)) (λ e. ends-in b n p ms e (λ x i. f x (further i)))

  in-ends : (b n : ℕ) {m : Member} {ms : List Member} → In m ms → is_among (ends_from b n ms) (b + (n - m.left)) ≡ true
  in-ends b n {m = m} first = rw (eq-eqb (b + (n - m.left)) (b + (n - m.left)) refl)
  in-ends b n {m = m} (further {y = y} {l = ms} i) = or_right (eqb (b + (n - m.left)) (b + (n - y.left))) (is_among (ends_from b n ms) (b + (n - m.left))) (in-ends b n i)

  laid-places : {low at : ℕ} {rs : List Stored} (p : ℕ) → Boundary page at → Laid lim page low at rs → is_among (places_in at rs) p ≡ true → IsPlace page p
  laid-places p b (laid.ends e) i = absurd (false≢true i)
  laid-places {at = at} p b (laid.laid {r = r} {rs = rs} l w q) i =
      let read = stored-read w.storable in
      let mine : List ℕ = ends_of (at + 3) (length r.text) (reading r.text) in
      let more : List ℕ = places_in (at + size r) rs in
      or_cases (is_among mine p) (is_among more p) (sym (among-append mine more p) ∙ i)
      (λ j. ends-in (at + 3) (length r.text) p read.members (rw read.reads at j)
      (λ m k e. rw e (ends_member b (whole-record w) (reading-sound r.text read.members read.reads) k)))
      (laid-places p (behind b (whole-record w)) q)

  place-among : Laid lim page 0 0 (records_of page) → {p : ℕ} → IsPlace page p → is_among (places_of page) p ≡ true
  place-among g (ends_member {at = at} {n = n} {t = t} b a r i) =
      (record-here at n t a (boundary-onward g b)).places _ (rw (reading-complete r) (in-ends (at + 3) (length t) i))

  pub place-exact : lim ≤ 251 → GoodPage lim page → (p : ℕ) → (is_among (places_of page) p ≡ true) ↔ IsPlace page p
  unfolding places_of
  place-exact short g p =
      let known = good-laid lim page short ((good-exact lim page short).1 g) in
      (laid-places p start known, place-among known)

  pub stands-exact : lim ≤ 251 → GoodPage lim page → (q : ℕ) → (fits_paused (places_of page) q ≡ true) ↔ PauseFits page q
  stands-exact short g q = (fits-so q, fits-test) where
    fits-so : (q : ℕ) → fits_paused (places_of page) q ≡ true → PauseFits page q
    fits-so zero h = nothing_paused
    fits-so (suc zero) h = at_start
    fits-so (suc (suc p)) h = after_place ((place-exact short g p).0 h)

    fits-test : {q : ℕ} → PauseFits page q → fits_paused (places_of page) q ≡ true
    fits-test nothing_paused = refl
    fits-test at_start = refl
    fits-test (after_place {p = p} i) = (place-exact short g p).1 i

-- A fitting record: a test of each slot that is in use is a fact of each
module _ {A : Type 0} (f : A → Bool) where
  all_in : {x : A} {l : List A} → In x l → all f l ≡ true → f x ≡ true
  all_in {x = x} (first {l = l}) h = (both (f x) (all f l) h).0
  all_in (further {y = y} {l = l} i) h = all_in i (both (f y) (all f l) h).1

  in_all : (l : List A) → ((x : A) → In x l → f x ≡ true) → all f l ≡ true
  in_all [] h = refl
  in_all (x ∷ l) h = rw (h x first) (in_all l (λ y i. h y (further i)))

module _ (lim : ℕ) (short : lim ≤ 251) (page : List ℕ) (good : GoodPage lim page) (s : Session) where
  fits-so : fits page s ≡ true → Fits page s
  fits-so h =
      let t = page-tests page s h in
      record {
        gosubs_deep = t.gosubs-deep;
        dos_deep = t.dos-deep;
        fors_deep = t.fors-deep;
        gosubs = λ p i.
            or_cases (is_among (places_of page) (position p)) (eqb (position p) mark) (all_in (is_saved (places_of page) true) i t.gosubs)
            (λ e. inl ((place-exact lim page short good (position p)).0 e)) (λ e. inr (eqb-true (position p) mark e));
        dos = λ p i. (place-exact lim page short good (position p)).0 (all_in (is_place (places_of page)) i t.dos);
        fors = λ f i.
            let b = both (ltb f.var 26) _ (all_in (is_under_way (places_of page)) i t.fors) in
            (ltb-true _ _ b.0, (place-exact lim page short good (position f.place)).0 b.1);
        flags = ltb-true _ _ t.flags;
        paused = (stands-exact lim page short good s.paused).0 t.paused;
      }

  saved : (p : Place) → IsPlace page (position p) ⊎ (position p ≡ mark) → is_saved (places_of page) true p ≡ true
  saved p (inl i) = rw ((place-exact lim page short good (position p)).1 i)
  saved p (inr e) = or_right (is_among (places_of page) (position p)) (eqb (position p) mark) (eq-eqb (position p) mark e)

  under-way : (f : ForEntry) → (f.var < 26) × IsPlace page (position f.place) → is_under_way (places_of page) f ≡ true
  under-way f h = rw (lt-ltb f.var 26 h.0, (place-exact lim page short good (position f.place)).1 h.1)

  fits-is : Fits page s → fits page s ≡ true
  unfolding fits
  fits-is f =
      rw (
        le-leb s.gosubs.depth 8 f.gosubs_deep,
        le-leb s.dos.depth 8 f.dos_deep,
        le-leb s.fors.depth 4 f.fors_deep,
        in_all (is_saved (places_of page) true) (take s.gosubs.depth s.gosubs.places) (λ p i. saved p (f.gosubs p i)),
        in_all (is_place (places_of page)) (take s.dos.depth s.dos.places) (λ p i. (place-exact lim page short good (position p)).1 (f.dos p i)),
        in_all (is_under_way (places_of page)) (take s.fors.depth s.fors.entries) (λ e i. under-way e (f.fors e i)),
        lt-ltb s.flags 8 f.flags,
      ) ((stands-exact lim page short good s.paused).1 f.paused)

  pub fits-exact : (fits page s ≡ true) ↔ Fits page s
  fits-exact = (fits-so, fits-is)
