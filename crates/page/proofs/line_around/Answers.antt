use Prim.Native.Nat.{ℕ, ◌+◌, ◌-◌, ◌≤◌, ◌<◌}
use mathlib.Core.Path.{◌≡◌, sym, ap, ◌∙◌}
use native.Mathlib.Omega.{arith}
use lib.ListN.{drop}
use borrow.Author.Tests.{lt-ltb, le-ltb}
use Rattle.nibl.specs.Page.{records_of, line_at, line_in, line_of}
use Rattle.page.proofs.Walk.{Met, stepped, stayed}
use Rattle.page.specs.declared.Records.{Records}
use Rattle.page.proofs.line_around.Goals as goal

pub loop-at-init : goal.loop-at-init
unfolding line_of
loop-at-init c =
    let a = c.args in
    let i = c.into_iter-at-iterator in
    let page : i.result.page.now ≡ a.page.now = ap (λ (r : Records). r.page.now) i.ensures.into_iter_gives ∙ c.of-at-items.ensures.0 in
    let at : i.result.at ≡ 0 = ap (λ (r : Records). r.at) i.ensures.into_iter_gives ∙ c.of-at-items.ensures.1 in
    let e : a.p - i.result.at ≡ a.p = omega arith in
    (page, (omega arith, λ j. line_in (e j) (records_of (drop (at j) a.page.now))))

pub returns-then-p-at : goal.returns-then-p-at
returns-then-p-at c =
    let l = c.loop-at.invariant in
    let p = c.args.page.now in
    let at = c.loop-at.at-iterator.at in
    let x = c.args.p in
    let m : Met p at c.in-Some.size = stepped l.0 c.in-Some.ensures.steps in
    let here : c.in-Some.at ≡ at = c.in-Some.ensures.steps.1.0 in
    let h : x - at < c.in-Some.size = rw here at c.if-p-at.true in
    c.line_at.ensures
    ∙ ap (λ (k : ℕ). line_at (drop k p)) here
    ∙ sym (rw (m.records, m.long, lt-ltb (x - at) c.in-Some.size h))
    ∙ l.1.1

pub loop-at-preserved : goal.loop-at-preserved
loop-at-preserved c =
    let l = c.loop-at.invariant in
    let p = c.args.page.now in
    let at = c.loop-at.at-iterator.at in
    let n = c.in-Some.size in
    let x = c.args.p in
    let s = c.in-Some.ensures.steps in
    let m : Met p at n = stepped l.0 s in
    let page : c.next.new.self.page.now ≡ p = s.0 ∙ l.0 in
    let next : c.next.new.self.at ≡ at + n = s.1.1.1 in
    let here : c.in-Some.at ≡ at = s.1.0 in
    let long : n ≤ x - at = rw here at c.if-p-at.false in
    let e : x - c.next.new.self.at ≡ x - at - n = omega arith in (
      page,
      (
        omega arith,
        (λ i. line_in (e i) (records_of (drop (next i) p))) ∙ sym (rw (m.records, m.long, le-ltb (x - at) n long)) ∙ l.1.1,
      ),
    )

pub returns : goal.returns
returns c =
    let l = c.loop-at.invariant in
    ap (line_in (c.args.p - c.loop-at.at-iterator.at)) (sym (stayed l.0 c.in-None.ensures.steps)) ∙ l.1.1
