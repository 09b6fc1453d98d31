use Prim.Native.Nat.{ℕ, ◌<◌, ◌+◌}
use mathlib.Core.List.{List}
use mathlib.Core.Path.{◌≡◌, refl, sym, ap, ◌∙◌}
use native.Mathlib.Omega.{arith}
use lib.ListN.{drop}
use borrow.Author.Tests.{eq-eqb, ne_eqb, lt-ltb, le-ltb}
use Rattle.nibl.specs.Page.{records_of, line_at, length_at, used_by, used, size}
use Rattle.page.specs.Edits.{Seated, seat_in, seat_of}
use Rattle.page.specs.Walk.{record_at, cut}
use Rattle.page.proofs.Walk.{Stood, stood, stops, cut_in, cut_most, drop-cut, not-true, size_is, size-said}
use Rattle.page.proofs.Edits.{seated}
use Rattle.page.proofs.find_seat.Goals as goal

-- the seat is here
here : (page : List ℕ) (n at gone : ℕ) → Stood page at (length_at (drop at page)) → seat_in n (cut page at) (records_of (drop at page)) ≡ seat_of page n
    → cut page at + used_by (records_of (drop at page)) ≡ used page → seat_in n at (records_of (drop at page)) ≡ record { at = at; gone = gone } → Seated page n (record { at = at; gone = gone })
here page n at gone m is rest e =
    seated (sym e ∙ ap (λ (x : ℕ). seat_in n x (records_of (drop at page))) (sym m.here) ∙ is) (omega (arith, m.inside))
    (ap (λ (x : ℕ). x + used_by (records_of (drop at page))) (sym m.here) ∙ rest)

pub loop-line-init : goal.loop-line-init
unfolding seat_of used
loop-line-init c =
    let p = c.args.page.now in
    let e = cut_in p 0 (omega arith) in
    (ap (λ (x : ℕ). seat_in c.args.number.0 x (records_of p)) e, omega (arith, e))

pub returns-then-line-n : goal.returns-then-line-n
returns-then-line-n c =
    let l = c.loop-line in
    let a = c.args in
    let n = a.number.0 in
    let q = drop l.at a.page.now in
    let m : Stood a.page.now l.at (length_at q) = stood _ _ _ refl (sym c.has_record.ensures ∙ c.loop-line-test.true) in
    let e = sym c.number_at-line.ensures ∙ c.if-line-n.true in
    let s = c.unwrap_or-size.ensures ∙ size-said q c.size_at.result c.size_at.ensures ∙ size_is q (not-true _ (sym c.has_record.ensures ∙ c.loop-line-test.true)) in
    here a.page.now n l.at c.unwrap_or-size.result m l.invariant.0 l.invariant.1 (rw (m.records, le-ltb (line_at q) n (omega arith), eq-eqb (line_at q) n e, s))

pub returns-then-n-line : goal.returns-then-n-line
returns-then-n-line c =
    let l = c.loop-line in
    let a = c.args in
    let n = a.number.0 in
    let q = drop l.at a.page.now in
    let m : Stood a.page.now l.at (length_at q) = stood _ _ _ refl (sym c.has_record.ensures ∙ c.loop-line-test.true) in
    let e = c.number_at-line.ensures in
    let no : line_at q ≡ n → ⊥ = λ f. c.if-line-n.false (e ∙ f) in
    here a.page.now n l.at 0 m l.invariant.0 l.invariant.1 (rw (m.records, le-ltb (line_at q) n (omega arith), ne_eqb (line_at q) n no))

pub loop-line-preserved : goal.loop-line-preserved
loop-line-preserved c =
    let l = c.loop-line in
    let a = c.args in
    let p = a.page.now in
    let n = a.number.0 in
    let q = drop l.at p in
    let m : Stood a.page.now l.at (length_at q) = stood _ _ _ refl (sym c.has_record.ensures ∙ c.loop-line-test.true) in
    let e = c.number_at-line.ensures in
    let less : line_at q < n = omega (arith, c.if-line-n.false) in
    let past : seat_in n l.at (records_of q) ≡ seat_in n (l.at + size (record_at q)) (records_of (drop (l.at + length_at q) p)) = rw (m.records, lt-ltb (line_at q) n less) in (
      ap (λ (k : ℕ). seat_in n (cut p (l.at + k)) (records_of (drop (l.at + k) p))) c.length_at-at.ensures
          ∙ ap (λ (x : ℕ). seat_in n x (records_of (drop (l.at + length_at q) p))) m.next
          ∙ sym past
          ∙ ap (λ (x : ℕ). seat_in n x (records_of q)) (sym m.here)
          ∙ l.invariant.0,
      ap (λ (k : ℕ). cut p (l.at + k) + used_by (records_of (drop (l.at + k) p))) c.length_at-at.ensures
          ∙ omega (arith, m.next, m.here, ap used_by m.records, l.invariant.1),
    )

pub returns : goal.returns
returns c =
    let l = c.loop-line in
    let a = c.args in
    let p = a.page.now in
    let n = a.number.0 in
    let e = stops p l.at (sym c.has_record.ensures ∙ c.loop-line-test.false) in
    let r = c.reach.ensures in
    seated
    (ap (λ (x : ℕ). record { at = x; gone = 0 }) r ∙ ap (seat_in n (cut p l.at)) (sym e) ∙ l.invariant.0)
    (omega (arith, r, cut_most p l.at))
    (ap (λ (x : ℕ). x + used_by (records_of (drop x p))) r ∙ ap (λ (s : List ℕ). cut p l.at + used_by (records_of s)) (drop-cut p l.at) ∙ l.invariant.1)
