use Prim.Native.Nat.{ℕ, ◌+◌}
use mathlib.Core.List.{List}
use mathlib.Core.Path.{sym, ap, ◌∙◌}
use native.Mathlib.Omega.{arith}
use Rattle.nibl.specs.Page.{Stored, used_by}
use Rattle.page.specs.Walk.{cut}
use Rattle.page.proofs.Walk.{Stood, stood, stops}
use Rattle.page.proofs.used_from.Goals as goal

pub loop-at-preserved : goal.loop-at-preserved
loop-at-preserved c =
    let m : Stood c.args.page.now c.loop-at.at c.length_at-at.result = stood _ _ _ c.length_at-at.ensures (sym c.has_record.ensures ∙ c.loop-at-test.true) in
    omega (arith, ap used_by m.records, c.loop-at.invariant)

pub returns : goal.returns
returns c =
    let l = c.loop-at in
    let p = c.args.page.now in
    let e = stops p l.at (sym c.has_record.ensures ∙ c.loop-at-test.false) in
    ap (λ (x : ℕ). x + 2) c.reach.ensures ∙ ap (λ (rs : List Stored). cut p l.at + used_by rs) (sym e) ∙ l.invariant
