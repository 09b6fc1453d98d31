use Rattle.std.proofs.Common.{rules, ◌≡◌, ℕ, suc, ◌+◌, ◌-◌, sym, ap, ◌∙◌, drop, arith, length-drop}
use Rattle.nibl.specs.Page.{line_at}
use Rattle.nibl.specs.found.Form.{records_in}
use Rattle.places.specs.Ends.{end_in}
use Rattle.places.proofs.Checks.{end_none, end-next, end-here}
use Rattle.places.proofs.records_end.Goals as goal

pub returns-in_err-size : goal.returns-in_err-size
returns-in_err-size c =
    let a = c.args in
    let l = c.loop in
    let m : a.count - l.counter ≡ suc (a.count - (l.counter + 1)) = omega arith in
    c.from_residual.ensures
    ∙ sym (end_none a.lim a.s.now (a.count - (l.counter + 1)) l.low l.at (sym c.in_err-size.ensures))
    ∙ ap (λ (k : ℕ). end_in a.s.now (records_in a.lim k l.low (drop l.at a.s.now))) (sym m)
    ∙ l.invariant.1.1

pub loop-preserved : goal.loop-preserved
loop-preserved c =
    let a = c.args in
    let l = c.loop in
    let n = c.in_ok-size.size in
    let k : ℕ = a.count - (l.counter + 1) in
    let t = end-next a.lim a.s.now k l.low l.at (sym c.in_ok-size.ensures) in
    let d = length-drop l.at a.s.now in
    let m : a.count - l.counter ≡ suc k = omega arith in
    let e : c.from-low.result + 1 ≡ suc (line_at (drop l.at a.s.now)) = omega (arith, c.line_at.ensures, c.from-low.ensures) in (
      omega (arith, t.inside),
      (
        search rules,
        ap (λ (j : ℕ). end_in a.s.now (records_in a.lim k j (drop (l.at + n) a.s.now))) e
            ∙ sym t.end
            ∙ ap (λ (j : ℕ). end_in a.s.now (records_in a.lim j l.low (drop l.at a.s.now))) (sym m)
            ∙ l.invariant.1.1,
      ),
    )

pub returns : goal.returns
returns c =
    let a = c.args in
    let l = c.loop in
    let none : a.count - l.counter ≡ 0 = omega arith in
    sym (sym l.invariant.1.1
    ∙ ap (λ (k : ℕ). end_in a.s.now (records_in a.lim k l.low (drop l.at a.s.now))) none
    ∙ end-here a.lim a.s.now l.low l.at l.invariant.0)
