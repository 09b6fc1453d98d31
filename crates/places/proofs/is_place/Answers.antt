use Prim.Native.Nat.{ℕ, ◌+◌, ◌-◌, ◌≤◌, ◌<◌}
use mathlib.Core.List.{List}
use mathlib.Core.Path.{◌≡◌, sym, ap, ◌∙◌}
use native.Mathlib.Omega.{arith}
use lib.ListN.{length, drop}
use Rattle.nibl.specs.found.Read.{reading}
use Rattle.nibl.specs.Page.{Stored, text_at, ends_of, records_of, places_in, places_of, is_among}
use Rattle.page.specs.Walk.{record_at, size_at}
use Rattle.page.specs.declared.Records.{Records}
use Rattle.page.proofs.Walk.{Met, stepped, stayed}
use Rattle.places.proofs.Places.{places-here, places-past}
use Rattle.places.proofs.is_place.Goals as goal

pub loop-at-init : goal.loop-at-init
unfolding places_of
loop-at-init c =
    let a = c.args in
    let i = c.into_iter-at-iterator in
    let page : i.result.page.now ≡ a.page.now = ap (λ (r : Records). r.page.now) i.ensures.into_iter_gives ∙ c.of-at-items.ensures.0 in
    let at : i.result.at ≡ 0 = ap (λ (r : Records). r.at) i.ensures.into_iter_gives ∙ c.of-at-items.ensures.1 in
    (page, (omega arith, λ j. is_among (places_in (at j) (records_of (drop (at j) a.page.now))) c.position-p.result))

pub ends_in-requires : goal.ends_in-requires
ends_in-requires c =
    let s = c.in-Some.ensures.steps in
    (s.1.1.0.1, s.1.1.0.0 ∙ (λ j. size_at (drop (sym s.1.0 j) (c.loop-at.invariant.0 j))))

pub returns-then-p-at : goal.returns-then-p-at
returns-then-p-at c =
    let l = c.loop-at.invariant in
    let p = c.args.page.now in
    let at = c.loop-at.at-iterator.at in
    let x = c.position-p in
    let m : Met p at c.in-Some.size = stepped l.0 c.in-Some.ensures.steps in
    let here : c.in-Some.at ≡ at = c.in-Some.ensures.steps.1.0 in
    let h : x.result - at < c.in-Some.size = rw here at c.if-p-at.true in
    c.ends_in.ensures
    ∙ ap (λ (k : ℕ). is_among (ends_of 3 (length (text_at (drop k p))) (reading (text_at (drop k p)))) (x.result - k)) here
    ∙ sym (ap (λ (rs : List Stored). is_among (places_in at rs) x.result) m.records
    ∙ places-here at (record_at (drop at p)) (records_of (drop (at + c.in-Some.size) p)) x.result l.1.0 (rw m.long h))
    ∙ l.1.1
    ∙ ap (is_among (places_of p)) x.ensures

pub loop-at-preserved : goal.loop-at-preserved
loop-at-preserved c =
    let l = c.loop-at.invariant in
    let p = c.args.page.now in
    let at = c.loop-at.at-iterator.at in
    let n = c.in-Some.size in
    let x = c.position-p.result in
    let s = c.in-Some.ensures.steps in
    let m : Met p at n = stepped l.0 s in
    let page : c.next.new.self.page.now ≡ p = s.0 ∙ l.0 in
    let next : c.next.new.self.at ≡ at + n = s.1.1.1 in
    let long : n ≤ x - at = rw s.1.0 at c.if-p-at.false in
    let rest = records_of (drop (at + n) p) in (
      page,
      (
        omega arith,
        (λ i. is_among (places_in (next i) (records_of (drop (next i) p))) x)
            ∙ ap (λ (k : ℕ). is_among (places_in (at + k) rest) x) (sym m.long)
            ∙ sym (places-past at (record_at (drop at p)) rest x l.1.0 (rw m.long long))
            ∙ sym (ap (λ (rs : List Stored). is_among (places_in at rs) x) m.records)
            ∙ l.1.1,
      ),
    )

pub returns : goal.returns
returns c =
    let l = c.loop-at.invariant in
    let x = c.position-p in
    ap (λ (rs : List Stored). is_among (places_in c.loop-at.at-iterator.at rs) x.result) (sym (stayed l.0 c.in-None.ensures.steps))
    ∙ l.1.1
    ∙ ap (is_among (places_of c.args.page.now)) x.ensures
