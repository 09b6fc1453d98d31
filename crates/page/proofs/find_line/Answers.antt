use Prim.Native.Nat.{ℕ, ◌+◌}
use mathlib.Core.Option.{some}
use mathlib.Core.Path.{◌≡◌, refl, sym, ap, ◌∙◌}
use native.Mathlib.Omega.{arith}
use lib.ListN.{drop}
use borrow.Author.Tests.{eq-eqb, ne_eqb}
use Rattle.nibl.specs.Page.{records_of, position_in, find, line_at, length_at, size}
use Rattle.page.specs.Walk.{reached, record_at, cut}
use Rattle.page.proofs.Walk.{Stood, stood, stops, cut_in}
use Rattle.page.proofs.find_line.Goals as goal

pub loop-n-init : goal.loop-n-init
unfolding find
loop-n-init c =
    let p = c.args.page.now in ap (λ (x : ℕ). position_in c.args.number.0 x (records_of p)) (cut_in p 0 (omega arith))

pub returns-then-number_at-n : goal.returns-then-number_at-n
returns-then-number_at-n c =
    let l = c.loop-n in
    let a = c.args in
    let p = a.page.now in
    let n = a.number.0 in
    let m : Stood p l.at (length_at (drop l.at p)) = stood _ _ _ refl (sym c.has_record.ensures ∙ c.loop-n-test.true) in
    let e = sym c.number_at.ensures ∙ c.if-number_at-n.true in
    let here : position_in n l.at (records_of (drop l.at p)) ≡ some l.at = rw (m.records, eq-eqb (line_at (drop l.at p)) n e) in
    c.found_at.ensures
    ∙ ap reached (sym here ∙ ap (λ (x : ℕ). position_in n x (records_of (drop l.at p))) (sym m.here) ∙ l.invariant)

pub loop-n-preserved : goal.loop-n-preserved
loop-n-preserved c =
    let l = c.loop-n in
    let a = c.args in
    let p = a.page.now in
    let n = a.number.0 in
    let m : Stood p l.at (length_at (drop l.at p)) = stood _ _ _ refl (sym c.has_record.ensures ∙ c.loop-n-test.true) in
    let q = drop l.at p in
    let no : line_at q ≡ n → ⊥ = λ f. c.if-number_at-n.false (c.number_at.ensures ∙ f) in
    let past : position_in n l.at (records_of q) ≡ position_in n (l.at + size (record_at q)) (records_of (drop (l.at + length_at q) p)) = rw (m.records, ne_eqb (line_at q) n no) in
    ap (λ (k : ℕ). position_in n (cut p (l.at + k)) (records_of (drop (l.at + k) p))) c.length_at-at.ensures
    ∙ ap (λ (x : ℕ). position_in n x (records_of (drop (l.at + length_at q) p))) m.next
    ∙ sym past
    ∙ ap (λ (x : ℕ). position_in n x (records_of q)) (sym m.here)
    ∙ l.invariant

pub returns : goal.returns
returns c =
    let l = c.loop-n in
    let a = c.args in
    let e = stops a.page.now l.at (sym c.has_record.ensures ∙ c.loop-n-test.false) in
    ap reached (ap (position_in a.number.0 (cut a.page.now l.at)) (sym e) ∙ l.invariant)
