-- The search: which records are below a number, and what stands at the first that is not. Assumes nothing.
use Rattle.std.specs.Prelude.{if◌then◌else◌}
use Prim.Native.Nat.{ℕ, zero, suc, ◌+◌, ◌≤◌, ◌<◌}
use mathlib.Core.Path.{◌≡◌, refl, sym, ap, ◌∙◌}
use mathlib.Core.Bool.{true}
use mathlib.Core.List.{List, [], ◌∷◌, ◌++◌}
use mathlib.Core.Option.{none, some}
use native.Mathlib.Nat.{add-zero, zero-add}
use native.Mathlib.Omega.{arith}
use lib.ListN.{length, take, drop, take-append-drop, drop_of_length-le}
use lib.Seq.{drop-nil}
use lib.Dec.{ltb, eqb}
use borrow.Author.Tests.{ltb-true, ltb-false, lt-ltb, le-ltb, eq-eqb, ne_eqb}
use Rattle.nibl.specs.Page.{Stored, records_of, line_at, size, position_in, find, used_by, used}
use Rattle.page.specs.declared.Seat.{Seat}
use Rattle.page.specs.Walk.{stops_at, record_at, size_at}
use Rattle.page.specs.Edits.{seat_in, seat_of, Seated}
use Rattle.page.specs.Tables.{Rising, alone, rises, span_of}
use Rattle.page.proofs.Walk.{by_cases, size_is, size_none, step}
use Rattle.page.proofs.Edits.{seated}
use Rattle.page.proofs.Ways.{way-inside, way-rest, way-to}
use Rattle.page.proofs.Tables.{Entry, entry_at}
use Rattle.table.specs.Spots.{below, gone_at}

nothing-there : {P : Type 0} (k : ℕ) {r : Stored} {rest : List Stored} → drop k [] ≡ r ∷ rest → P
nothing-there k {r = r} {rest = rest} e =
    let f : [] ≡ r ∷ rest = sym (drop-nil k) ∙ e in let z : ◌≡◌ {A = ℕ} 0 1 = cc in absurd (omega arith)

-- Numbers that rise, from the k-th record on
low-there : {low : ℕ} {rs : List Stored} (k : ℕ) {r : Stored} {rest : List Stored} → Rising low rs → drop k rs ≡ r ∷ rest → low ≤ r.line
low-there k alone e = nothing-there k e
low-there zero {r = r} (rises {r = s} l p) e = let is : s ≡ r = cc in rw is at l
low-there (suc k) (rises l p) e = let m = low-there k p e in omega arith

rest-rises : {low : ℕ} {rs : List Stored} (k : ℕ) {r : Stored} {rest : List Stored} → Rising low rs → drop k rs ≡ r ∷ rest → Rising (suc r.line) rest
rest-rises k alone e = nothing-there k e
rest-rises zero {r = r} {rest = rest} (rises {r = s} {rs = rs} l p) e =
    let is : s ≡ r = cc in let more : rs ≡ rest = cc in rw (is, more) at p
rest-rises (suc k) (rises l p) e = rest-rises k p e

-- where the next record stands
used-parts : (rs rest : List Stored) → used_by (rs ++ rest) ≡ span_of rs + used_by rest
used-parts [] rest = sym (zero-add (used_by rest))
used-parts (r ∷ rs) rest = omega (arith, used-parts rs rest)

pub span-next : (k : ℕ) (rs : List Stored) {r : Stored} {rest : List Stored} → drop k rs ≡ r ∷ rest → span_of (take (suc k) rs) ≡ span_of (take k rs) + size r
span-next k [] e = nothing-there k e
span-next zero (s ∷ rs) {r = r} e = let is : s ≡ r = cc in rw is (omega arith)
span-next (suc k) (s ∷ rs) e = omega (arith, span-next k rs e)

module _ (n : ℕ) where
  pub below-most : (rs : List Stored) → below n rs ≤ length rs
  below-most [] = omega arith
  below-most (r ∷ rs) = by_cases (ltb r.line n) (λ e. rw (e, if◌then◌else◌) (omega (arith, below-most rs))) (λ e. rw (e, if◌then◌else◌) (omega arith))

  -- a record that is not lower has all lower ones before it
  pub below_up : (k : ℕ) (rs : List Stored) {r : Stored} {rest : List Stored} → drop k rs ≡ r ∷ rest → n ≤ r.line → below n rs ≤ k
  below_up k [] e h = omega arith
  below_up zero (s ∷ rs) {r = r} e h = let is : s ≡ r = cc in rw (is, le-ltb r.line n h, if◌then◌else◌) (omega arith)
  below_up (suc k) (s ∷ rs) e h =
      by_cases (ltb s.line n) (λ f. rw (f, if◌then◌else◌) (omega (arith, below_up k rs e h))) (λ f. rw (f, if◌then◌else◌) (omega arith))

  -- one that is lower is among them
  pub below-down : {low : ℕ} {rs : List Stored} (k : ℕ) {r : Stored} {rest : List Stored} → Rising low rs → drop k rs ≡ r ∷ rest → r.line < n → k < below n rs
  below-down k alone e h = nothing-there k e
  below-down zero {r = r} (rises {r = s} l p) e h = let is : s ≡ r = cc in rw (is, lt-ltb r.line n h, if◌then◌else◌) (omega arith)
  below-down (suc k) (rises {r = s} l p) e h =
      let m = low-there k p e in
      rw (lt-ltb s.line n (omega arith), if◌then◌else◌) (omega (arith, below-down k p e h))

  -- so the first that is not among them is not lower
  not_lower : {low : ℕ} {rs : List Stored} {r : Stored} {rest : List Stored} → Rising low rs → drop (below n rs) rs ≡ r ∷ rest → n ≤ r.line
  not_lower {rs = rs} {r = r} p e =
      by_cases (ltb r.line n) (λ f. absurd (omega (arith, below-down (below n rs) p e (ltb-true r.line n f)))) (λ f. ltb-false r.line n f)

  -- the records below are passed over
  seat-past : (at k : ℕ) (rs : List Stored) → k ≤ below n rs → seat_in n at rs ≡ seat_in n (at + span_of (take k rs)) (drop k rs)
  seat-past at zero rs h = ap (λ (x : ℕ). seat_in n x rs) (sym (add-zero at))
  seat-past at (suc k) [] h = absurd (omega arith)
  seat-past at (suc k) (r ∷ rs) h =
      by_cases (ltb r.line n)
      (λ e.
      let more : k ≤ below n rs = let g = rw (e, if◌then◌else◌) at h in omega arith in
      let s : at + size r + span_of (take k rs) ≡ at + (size r + span_of (take k rs)) = omega arith in
      rw (e, if◌then◌else◌) (seat-past (at + size r) k rs more ∙ ap (λ (x : ℕ). seat_in n x (drop k rs)) s))
      (λ e. let g = rw (e, if◌then◌else◌) at h in absurd (omega arith))

  pub seat-span : (at : ℕ) (rs : List Stored) → (seat_in n at rs).at ≡ at + span_of (take (below n rs) rs)
  seat-span at [] = sym (add-zero at)
  seat-span at (r ∷ rs) =
      by_cases (ltb r.line n) (λ e. rw (e, if◌then◌else◌) (seat-span (at + size r) rs ∙ omega arith)) (λ e. rw (e, if◌then◌else◌) (sym (add-zero at)))

  position_past : (at k : ℕ) (rs : List Stored) → k ≤ below n rs → position_in n at rs ≡ position_in n (at + span_of (take k rs)) (drop k rs)
  position_past at zero rs h = ap (λ (x : ℕ). position_in n x rs) (sym (add-zero at))
  position_past at (suc k) [] h = absurd (omega arith)
  position_past at (suc k) (r ∷ rs) h =
      by_cases (ltb r.line n)
      (λ e.
      let l = ltb-true r.line n e in
      let more : k ≤ below n rs = let g = rw (e, if◌then◌else◌) at h in omega arith in
      let s : at + size r + span_of (take k rs) ≡ at + (size r + span_of (take k rs)) = omega arith in
      rw (ne_eqb r.line n (λ f. omega arith), if◌then◌else◌) (position_past (at + size r) k rs more ∙ ap (λ (x : ℕ). position_in n x (drop k rs)) s))
      (λ e. let g = rw (e, if◌then◌else◌) at h in absurd (omega arith))

  -- higher numbers only
  absent : {low : ℕ} {rs : List Stored} (at : ℕ) → n < low → Rising low rs → position_in n at rs ≡ none
  absent at h alone = refl
  absent at h (rises {r = r} l p) = rw (ne_eqb r.line n (λ e. omega arith), if◌then◌else◌) (absent (at + size r) (omega arith) p)

-- What the search finds on a page whose numbers rise
module _ (page : List ℕ) (rising : Rising 0 (records_of page)) (n : ℕ) where
  found-there : (at : ℕ) → at ≡ span_of (take (below n (records_of page)) (records_of page)) → find page n ≡ position_in n at (drop (below n (records_of page)) (records_of page))
  unfolding find
  found-there at e =
      let rs : List Stored = records_of page in
      let k : ℕ = below n rs in
      position_past n 0 k rs (omega arith) ∙ ap (λ (x : ℕ). position_in n x (drop k rs)) (zero-add (span_of (take k rs)) ∙ sym e)

  pub found-past : length (records_of page) ≤ below n (records_of page) → find page n ≡ none
  found-past h =
      let rs : List Stored = records_of page in
      found-there _ refl ∙ ap (position_in n (span_of (take (below n rs) rs))) (drop_of_length-le rs {i = below n rs} h)

  pub found_here : (at : ℕ) → Entry page (below n (records_of page)) at → line_at (drop at page) ≡ n → find page n ≡ some at
  found_here at w e = found-there at w.place ∙ rw (w.records, eq-eqb (line_at (drop at page)) n e)

  pub found-not : (at : ℕ) → Entry page (below n (records_of page)) at → (line_at (drop at page) ≡ n → ⊥) → find page n ≡ none
  found-not at w e =
      let rs : List Stored = records_of page in
      let k : ℕ = below n rs in
      let q : List ℕ = drop at page in
      let l = not_lower n rising w.records in
      found-there at w.place
      ∙ rw (w.records, ne_eqb (line_at q) n e, if◌then◌else◌) (absent n (at + size (record_at q)) (omega (arith, e)) (rest-rises k rising w.records))

  -- the seat
  seat-there : (at : ℕ) → at ≡ span_of (take (below n (records_of page)) (records_of page)) → seat_of page n ≡ seat_in n at (drop (below n (records_of page)) (records_of page))
  unfolding seat_of
  seat-there at e =
      let rs : List Stored = records_of page in
      let k : ℕ = below n rs in
      seat-past n 0 k rs (omega arith) ∙ ap (λ (x : ℕ). seat_in n x (drop k rs)) (zero-add (span_of (take k rs)) ∙ sym e)

  -- what stands at the seat, of that number or not
  seat-at : (at : ℕ) → at ≡ span_of (take (below n (records_of page)) (records_of page)) → seat_of page n ≡ record { at = at; gone = gone_at (drop at page) n }
  seat-at at e =
      let rs : List Stored = records_of page in
      let k : ℕ = below n rs in
      let q : List ℕ = drop at page in
      seat-there at e
      ∙ by_cases (ltb k (length rs))
      (λ f.
      let w = entry_at page k at (ltb-true k (length rs) f) e in
      rw (w.records, le-ltb (line_at q) n (not_lower n rising w.records), size_is q w.there))
      (λ f.
      let none_left : drop k rs ≡ [] = drop_of_length-le rs {i = k} (ltb-false k (length rs) f) in
      let from : records_of q ≡ drop k rs = ap (λ (x : ℕ). records_of (drop x page)) e ∙ way-rest k (below-most n rs) (way-to k page (below-most n rs)) in
      let stopped : stops_at q ≡ true =
      by_cases (stops_at q) (λ g. g) (λ g. let z : record_at q ∷ records_of (drop (size_at q) q) ≡ [] = sym (step q g) ∙ from ∙ none_left in let y : ◌≡◌ {A = ℕ} 0 1 = cc in absurd (omega arith)) in
      let empty : gone_at q n ≡ 0 = by_cases (eqb (line_at q) n) (λ g. rw (g, if◌then◌else◌) (size_none q stopped)) (λ g. rw (g, if◌then◌else◌)) in
      rw (none_left, empty))

  pub seat-found : (s : Seat) → s.at ≡ span_of (take (below n (records_of page)) (records_of page)) → s.gone ≡ gone_at (drop s.at page) n → Seated page n s
  unfolding used
  seat-found s e g =
      let rs : List Stored = records_of page in
      let k : ℕ = below n rs in
      let w = way-to k page (below-most n rs) in
      let from : records_of (drop s.at page) ≡ drop k rs = ap (λ (x : ℕ). records_of (drop x page)) e ∙ way-rest k (below-most n rs) w in
      seated ((λ i. record { at = s.at; gone = g i }) ∙ sym (seat-at s.at e)) (omega (arith, way-inside (omega arith) w))
      (ap (λ (l : List Stored). s.at + used_by l) from ∙ omega (arith, used-parts (take k rs) (drop k rs), ap used_by (take-append-drop k rs)))
