use Prim.Native.Nat.{ℕ, ◌+◌}
use mathlib.Core.Path.{◌≡◌, sym, ap, ◌∙◌}
use mathlib.Core.List.{List}
use native.Mathlib.Omega.{arith}
use lib.ListN.{drop}
use Rattle.std.proofs.Common.{rules, None, Some, Err}
use Rattle.std.specs.Result.{result_ok}
use Rattle.nibl.specs.Page.{Stored, records_of}
use Rattle.page.specs.Listing.{shown, listing}
use Rattle.page.specs.Walk.{record_at}
use Rattle.page.proofs.Listings.{list_on, list_full}
use Rattle.page.proofs.Walk.{Met, stepped, stayed}
use Rattle.page.proofs.list_from.Goals as goal

pub returns-in_err-pos : goal.returns-in_err-pos
returns-in_err-pos c =
    let l = c.loop-at.invariant in
    let p = c.args.page.now in
    let at = c.loop-at.at-iterator.at in
    let n = c.args.number.0 in
    let o = c.loop-at.output in
    let s = c.in-Some.ensures.steps in
    let m : Met p at c.in-Some.size = stepped l.0 s in
    let r = record_at (drop at p) in
    let full : c.list_here.result ≡ None = c.ok_or.ensures.ok_part ∙ ap result_ok c.in_err-pos.was in
    let h = rw (full, s.1.0) at c.list_here.ensures in
    let e : c.from_residual.result ≡ Err c.loop-at.pos = search rules in
    ap (shown c.list_here.new.output) e
    ∙ sym (list_full n r (records_of (drop (at + c.in-Some.size) p)) h)
    ∙ ap (λ (rs : List Stored). listing n rs o c.loop-at.pos) (sym m.records)
    ∙ l.1.1

pub loop-at-preserved : goal.loop-at-preserved
loop-at-preserved c =
    let l = c.loop-at.invariant in
    let p = c.args.page.now in
    let at = c.loop-at.at-iterator.at in
    let n = c.args.number.0 in
    let o = c.loop-at.output in
    let s = c.in-Some.ensures.steps in
    let m : Met p at c.in-Some.size = stepped l.0 s in
    let r = record_at (drop at p) in
    let page : c.next.new.self.page.now ≡ p = s.0 ∙ l.0 in
    let next : c.next.new.self.at ≡ at + c.in-Some.size = s.1.1.1 in
    let on : c.list_here.result ≡ Some c.in_ok-pos.pos = c.ok_or.ensures.ok_part ∙ ap result_ok c.in_ok-pos.was in
    let h = rw (on, s.1.0) at c.list_here.ensures in (
      page,
      (
        omega (arith, l.1.0),
        ap (λ (k : ℕ). listing n (records_of (drop k p)) c.list_here.new.output c.in_ok-pos.pos) next
            ∙ sym (list_on n r (records_of (drop (at + c.in-Some.size) p)) _ h)
            ∙ ap (λ (rs : List Stored). listing n rs o c.loop-at.pos) (sym m.records)
            ∙ l.1.1,
      ),
    )

pub returns : goal.returns
unfolding listing
returns c =
    let l = c.loop-at.invariant in
    ap (λ (rs : List Stored). listing c.args.number.0 rs c.loop-at.output c.loop-at.pos) (sym (stayed l.0 c.in-None.ensures.steps)) ∙ l.1.1
