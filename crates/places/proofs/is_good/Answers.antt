use Rattle.std.proofs.Common.{rules, ◌≡◌, suc, ◌+◌, refl, sym, ◌∙◌, drop, arith, length-drop}
use Rattle.std.proofs.Math.Seq.{drop-drop}
use Rattle.std.proofs.lemmas.Grind.{common_steps}
use Rattle.nibl.specs.Page.{is_good, line_at}
use Rattle.places.proofs.Checks.{good_from, good-end, good_none, good-next}
use Rattle.places.proofs.is_good.Goals as goal

pub loop-ops-init : goal.loop-ops-init
unfolding is_good
loop-ops-init c = (omega arith, (refl, refl))

pub returns-in_default : goal.returns-in_default
returns-in_default c = grind (arith, common_steps, good_none)

pub loop-ops-smaller : goal.loop-ops-smaller
loop-ops-smaller c =
    let t = good-next c.args.lim c.loop-ops.low (drop c.loop-ops.at c.args.page.now) (search rules) (sym c.in-Some.ensures) in
    omega (arith, t.least, t.inside, length-drop c.loop-ops.at c.args.page.now)

pub loop-ops-preserved : goal.loop-ops-preserved
loop-ops-preserved c =
    let a = c.args in
    let l = c.loop-ops in
    let n = c.in-Some.size in
    let t = good-next a.lim l.low (drop l.at a.page.now) (search rules) (sym c.in-Some.ensures) in
    let d = length-drop l.at a.page.now in
    let e : c.from-low.result + 1 ≡ suc (line_at (drop l.at a.page.now)) = omega (arith, c.line_at.ensures, c.from-low.ensures) in (
      omega (arith, t.inside),
      (
        search rules,
        (λ i. good_from a.lim (e i) (sym (drop-drop n l.at a.page.now) i)) ∙ sym t.good ∙ l.invariant.1.1,
      ),
    )

pub returns : goal.returns
returns c = grind (arith, common_steps, good-end)
