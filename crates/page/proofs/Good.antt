-- On a good page the edits are the definition's: the bytes spliced are the page with the records that the definition names.
-- Assumes nothing.
use Rattle.std.specs.Prelude.{if◌then◌else◌}
use Prim.Native.Nat.{ℕ, ◌+◌, ◌-◌, ◌≤◌, ◌<◌}
use mathlib.Core.Path.{◌≡◌, refl, sym, ap, ◌∙◌}
use mathlib.Core.Bool.{true, false, not, false≢true}
use mathlib.Core.List.{List, [], ◌∷◌, ◌++◌, append_assoc}
use native.Mathlib.Omega.{arith}
use lib.ListN.{length, take, drop, length-append}
use lib.Seq.{take-append_seam, drop-append-add, drop_at, take_at}
use lib.Dec.{ltb, leb, eqb}
use borrow.Author.Tests.{ltb-true, ltb-false, eqb-true, eqb-false, lt-ltb, le-ltb, le-leb, eq-eqb, ne_eqb}
use Rattle.nibl.specs.Page.{Stored, record_bytes, program_bytes, is_good, records_of, size, used, used_by, has_line, with, without, onto}
use Rattle.nibl.specs.Lent.{stops}
use Rattle.nibl.specs.Calls as calls
use Rattle.nibl.specs.Meaning.{World}
use Rattle.page.specs.declared.Edited.TheVariants as edited
use Rattle.page.specs.Edits.{seat_in, seat_of, spliced, changed, store_at_seat, delete_at, store_of, delete_of, new_of, outcome_of}
use Rattle.page.proofs.Walk.{by_cases}
use Rattle.page.proofs.Program.{Bytes, Program, none, each, program-length, record-length}
use Rattle.page.proofs.Laid.{good-program, good-bytes, good-fits}
use Rattle.page.proofs.Edits.{seat-fits}

-- an edit behind what it does not touch
behind : (b p new : List ℕ) (gone top : ℕ) → spliced (b ++ p) (length b) gone (length b + top) new ≡ b ++ (new ++ (take (top - gone) (drop gone p) ++ drop (length new + (top - gone)) p))
behind b p new gone top =
    let m : length b + top - (length b + gone) ≡ top - gone = omega arith in
    let k : length b + length new + (length b + top - (length b + gone)) ≡ length b + (length new + (top - gone)) = omega arith in
    λ i. take-append_seam b p i ++ (new ++ (take (m i) (drop-append-add b p gone i) ++ (ap (λ (x : ℕ). drop x (b ++ p)) k ∙ drop-append-add b p (length new + (top - gone))) i))

-- the bytes new, and then those of a program that stands from `gone` on
renewed : (new p : List ℕ) (tail : List Stored) (gone m : ℕ) → take m (drop gone p) ≡ program_bytes tail → m ≡ used_by tail
    → new ++ (take m (drop gone p) ++ drop (length new + m) p) ≡ (new ++ program_bytes tail) ++ drop (length (new ++ program_bytes tail)) p
renewed new p tail gone m e f =
    let k : length new + m ≡ length (new ++ program_bytes tail) = omega (arith, length-append new (program_bytes tail), program-length tail) in
    (λ i. new ++ (e i ++ drop (k i) p)) ∙ sym (append_assoc new (program_bytes tail) _)

-- the records of lower numbers, then these, then those of higher ones
module _ (n : ℕ) (ins : List Stored) (new : List ℕ) (grows : (rs : List Stored) → program_bytes (ins ++ rs) ≡ new ++ program_bytes rs) where
  seated : List Stored → List Stored
  seated [] = ins ++ []
  seated (r ∷ rs) = if ltb r.line n then r ∷ seated rs else (ins ++ (if eqb r.line n then rs else r ∷ rs))

  grown : (rs : List Stored) → used_by (ins ++ rs) ≡ length new + used_by rs
  grown rs = omega (arith, ap length (grows rs), program-length (ins ++ rs), length-append new (program_bytes rs), program-length rs)

  used-seated : (at : ℕ) (rs : List Stored) → used_by (seated rs) + (seat_in n at rs).gone ≡ used_by rs + length new
  unfolding seated
  used-seated at [] = omega (arith, grown [])
  used-seated at (r ∷ rs) =
      by_cases (ltb r.line n) (λ e. rw (e, if◌then◌else◌) (omega (arith, used-seated (at + size r) rs)))
      (λ e. by_cases (eqb r.line n) (λ f. rw (e, f, if◌then◌else◌) (omega (arith, grown rs))) (λ f. rw (e, f, if◌then◌else◌) (omega (arith, grown (r ∷ rs)))))

  -- an edit at its seat
  at-seat : (b p : List ℕ) (tail : List Stored) (rest : List ℕ) (gone top : ℕ) → drop gone p ≡ program_bytes tail ++ rest → top - gone ≡ used_by tail
      → spliced (b ++ p) (length b) gone (length b + top) new ≡ b ++ onto p (ins ++ tail)
  at-seat b p tail rest gone top e f =
      let there : take (top - gone) (drop gone p) ≡ program_bytes tail =
      ap (take (top - gone)) e ∙ take_at (program_bytes tail) rest (top - gone) (program-length tail ∙ sym f) in
      behind b p new gone top
      ∙ ap (λ (l : List ℕ). b ++ l) (renewed new p tail gone (top - gone) there f ∙ ap (λ (l : List ℕ). l ++ drop (length l) p) (sym (grows tail)))

  spliced-seated : (b : List ℕ) (rs : List Stored) (rest : List ℕ)
      → spliced (b ++ (program_bytes rs ++ rest)) (seat_in n (length b) rs).at (seat_in n (length b) rs).gone (length b + used_by rs) new
      ≡ b ++ onto (program_bytes rs ++ rest) (seated rs)
  unfolding seated
  spliced-seated b [] rest = at-seat b (255 ∷ 255 ∷ rest) [] rest 0 2 refl refl
  spliced-seated b (r ∷ rs) rest =
      let p : List ℕ = program_bytes (r ∷ rs) ++ rest in
      let more : List ℕ = program_bytes rs ++ rest in
      let split : p ≡ record_bytes r ++ more = append_assoc (record_bytes r) (program_bytes rs) rest in
      by_cases (ltb r.line n)
      (λ e. rw (e, if◌then◌else◌)
      (let c : List ℕ = b ++ record_bytes r in
      let long : length c ≡ length b + size r = length-append b (record_bytes r) ∙ omega (arith, record-length r) in
      let whole : b ++ p ≡ c ++ more = ap (λ (l : List ℕ). b ++ l) split ∙ sym (append_assoc b (record_bytes r) more) in
      let top : length b + used_by (r ∷ rs) ≡ length c + used_by rs = omega arith in
      let pb : List ℕ = program_bytes (seated rs) in
      let kept : drop (length pb) more ≡ drop (length (record_bytes r ++ pb)) p =
      sym (ap (λ (k : ℕ). drop k p) (length-append (record_bytes r) pb) ∙ ap (drop (length (record_bytes r) + length pb)) split ∙ drop-append-add (record_bytes r) more (length pb)) in
      (λ i. spliced (whole i) (seat_in n (sym long i) rs).at (seat_in n (sym long i) rs).gone (top i) new)
      ∙ spliced-seated c rs rest
      ∙ append_assoc b (record_bytes r) (pb ++ drop (length pb) more)
      ∙ ap (λ (l : List ℕ). b ++ l) (sym (append_assoc (record_bytes r) pb _) ∙ ap (λ (l : List ℕ). (record_bytes r ++ pb) ++ l) kept)))
      (λ e. by_cases (eqb r.line n)
      (λ f. rw (e, f, if◌then◌else◌)
      (at-seat b p rs rest (size r) (used_by (r ∷ rs)) (ap (drop (size r)) split ∙ drop_at (record_bytes r) more (size r) (record-length r)) (omega arith)))
      (λ f. rw (e, f, if◌then◌else◌) (at-seat b p (r ∷ rs) rest 0 (used_by (r ∷ rs)) refl (omega arith))))

-- what the definition's edits are by this
module _ (q : Stored) where
  abbrev within : List Stored → List Stored
  within = seated q.line (q ∷ []) (record_bytes q) (λ rs. refl)

  with-seated : (rs : List Stored) → within rs ≡ with q rs
  unfolding seated
  with-seated [] = refl
  with-seated (r ∷ rs) =
      let n : ℕ = q.line in
      by_cases (ltb r.line n)
      (λ e. let l = ltb-true r.line n e in
      rw (e, le-ltb n r.line (omega arith), ne_eqb n r.line (λ f. omega arith), if◌then◌else◌) (ap (λ (l : List Stored). r ∷ l) (with-seated rs)))
      (λ e. let l = ltb-false r.line n e in
      by_cases (eqb r.line n)
      (λ f. let g = eqb-true r.line n f in rw (e, f, le-ltb n r.line (omega arith), eq-eqb n r.line (sym g), if◌then◌else◌))
      (λ f. rw (e, f, lt-ltb n r.line (omega (arith, eqb-false r.line n f)), if◌then◌else◌)))

module _ (n : ℕ) where
  abbrev outside : List Stored → List Stored
  outside = seated n [] [] (λ rs. refl)

  absent : {lim low : ℕ} {rs : List Stored} → n < low → Program lim low rs → has_line n rs ≡ false
  absent h none = refl
  absent h (each {r = r} l s p) = rw (ne_eqb r.line n (λ e. omega arith)) (absent (omega arith) p)

  -- there is a record to go exactly where the program has the line
  gone-has : {lim low : ℕ} (at : ℕ) {rs : List Stored} → Program lim low rs → ltb (seat_in n at rs).gone 1 ≡ not (has_line n rs)
  gone-has at none = refl
  gone-has at (each {r = r} {rs = rs} l s p) =
      by_cases (eqb r.line n)
      (λ f. let g = eqb-true r.line n f in
      rw (le-ltb r.line n (omega arith), f, if◌then◌else◌) (le-ltb (size r) 1 (omega arith)))
      (λ f. by_cases (ltb r.line n)
      (λ e. rw (e, f, if◌then◌else◌) (gone-has (at + size r) p))
      (λ e. let g = ltb-false r.line n e in
      rw (e, f, if◌then◌else◌, absent (omega (arith, eqb-false r.line n f)) p)))

  without-seated : {lim low : ℕ} {rs : List Stored} → Program lim low rs → has_line n rs ≡ true → outside rs ≡ without n rs
  unfolding seated
  without-seated none h = absurd (false≢true h)
  without-seated (each {r = r} {rs = rs} l s p) h =
      by_cases (eqb r.line n)
      (λ f. let g = eqb-true r.line n f in rw (le-ltb r.line n (omega arith), f, if◌then◌else◌))
      (λ f. by_cases (ltb r.line n)
      (λ e. rw (e, f, if◌then◌else◌) (ap (λ (x : List Stored). r ∷ x) (without-seated p (rw f at h))))
      (λ e. let g = ltb-false r.line n e in
      absurd (false≢true (sym (absent (omega (arith, eqb-false r.line n f)) p) ∙ rw f at h))))

-- The edits of a good page
module _ (lim : ℕ) (page : List ℕ) (bytes : Bytes page) (good : is_good lim page ≡ true) where
  good-spliced : (n : ℕ) (ins : List Stored) (new : List ℕ) (grows : (rs : List Stored) → program_bytes (ins ++ rs) ≡ new ++ program_bytes rs)
      → spliced page (seat_of page n).at (seat_of page n).gone (used page) new ≡ onto page (seated n ins new grows (records_of page))
  unfolding seat_of used
  good-spliced n ins new grows =
      let rs : List Stored = records_of page in
      let rest : List ℕ = drop (used page) page in
      let whole : page ≡ program_bytes rs ++ rest = good-bytes lim page bytes good in
      let top : used_by rs ≡ 0 + used_by rs = omega arith in
      (λ i. spliced (whole i) (seat_in n 0 rs).at (seat_in n 0 rs).gone (top i) new)
      ∙ spliced-seated n ins new grows [] rs rest
      ∙ ap (λ (p : List ℕ). onto p (seated n ins new grows rs)) (sym whole)

  -- how long the program is after an edit
  good-long : (n : ℕ) (ins : List Stored) (new : List ℕ) (grows : (rs : List Stored) → program_bytes (ins ++ rs) ≡ new ++ program_bytes rs)
      → used page - (seat_of page n).gone + length new ≡ length (program_bytes (seated n ins new grows (records_of page)))
  unfolding seat_of used
  good-long n ins new grows =
      let rs : List Stored = records_of page in
      omega (arith, program-length (seated n ins new grows rs), used-seated n ins new grows 0 rs, seat-fits n 0 rs)

  -- a store: done where the new program fits, and otherwise the page is as it was
  pub store_is : (n : ℕ) (t : List ℕ) → length t ≤ 251
      → (let rs : List Stored = with (record { line = n; text = t }) (records_of page) in
      store_of page n t ≡ (if leb (length (program_bytes rs)) (length page) then changed (onto page rs) edited.Done else changed page edited.NoRoom))
  unfolding store_of store_at_seat
  store_is n t h =
      let q : Stored = record { line = n; text = t } in
      let f = good-fits lim page bytes good in
      let long : used page - (seat_of page n).gone + (length t + 4) ≡ length (program_bytes (with q (records_of page))) =
      ap (λ (k : ℕ). used page - (seat_of page n).gone + k) (sym (record-length q))
      ∙ good-long n (q ∷ []) (record_bytes q) (λ rs. refl)
      ∙ ap (λ (l : List Stored). length (program_bytes l)) (with-seated q (records_of page)) in
      let there : spliced page (seat_of page n).at (seat_of page n).gone (used page) (record_bytes q) ≡ onto page (with q (records_of page)) =
      good-spliced n (q ∷ []) (record_bytes q) (λ rs. refl) ∙ ap (onto page) (with-seated q (records_of page)) in
      rw (le-leb (used page) (length page) f, le-leb (length t + 4) 255 (omega arith), long, there)

  seat-has : (n : ℕ) → ltb (seat_of page n).gone 1 ≡ not (has_line n (records_of page))
  unfolding seat_of
  seat-has n = gone-has n 0 (good-program lim page bytes good)

  pub delete-is : (n : ℕ)
      → delete_of page n ≡ (if has_line n (records_of page) then changed (onto page (without n (records_of page))) edited.Done else changed page edited.Absent)
  unfolding delete_of delete_at
  delete-is n =
      let p = good-program lim page bytes good in
      by_cases (has_line n (records_of page))
      (λ e.
      let there : spliced page (seat_of page n).at (seat_of page n).gone (used page) [] ≡ onto page (without n (records_of page)) =
      good-spliced n [] [] (λ rs. refl) ∙ ap (onto page) (without-seated n p e) in
      rw (seat-has n ∙ ap not e, le-leb (used page) (length page) (good-fits lim page bytes good), there, e))
      (λ e. rw (seat-has n ∙ ap not e, e))

  -- the outcomes are the definition's
  pub store-good : (w : World) (n : ℕ) (t : List ℕ) → length t ≤ 251
      → outcome_of w (store_of page n t) ≡ calls.edited page w (with (record { line = n; text = t }) (records_of page))
  unfolding calls.edited
  store-good w n t h =
      let rs : List Stored = with (record { line = n; text = t }) (records_of page) in
      ap (outcome_of w) (store_is n t h)
      ∙ by_cases (leb (length (program_bytes rs)) (length page)) (λ e. rw e) (λ e. rw e)

  pub delete-good : (w : World) (n : ℕ)
      → outcome_of w (delete_of page n)
      ≡ elim (has_line n (records_of page)) [ true ↦ calls.edited page w (without n (records_of page)) | false ↦ stops 0 w page ]
  unfolding calls.edited
  delete-good w n =
      let rs : List Stored = without n (records_of page) in
      ap (outcome_of w) (delete-is n)
      ∙ by_cases (has_line n (records_of page))
      (λ e.
      let long = good-long n [] [] (λ rs. refl) ∙ ap (λ (l : List Stored). length (program_bytes l)) (without-seated n (good-program lim page bytes good) e) in
      let fits : length (program_bytes rs) ≤ length page = omega (arith, good-fits lim page bytes good) in
      rw (e, le-leb (length (program_bytes rs)) (length page) fits))
      (λ e. rw e)

-- NEW, on any page
pub new_is : (page : List ℕ) (w : World) → outcome_of w (new_of page) ≡ calls.edited page w []
unfolding new_of calls.edited
new_is page w = by_cases (leb 2 (length page)) (λ e. rw e) (λ e. rw e)
