use Rattle.std.proofs.lemmas.Result.{err_from_is_err_and}
use mathlib.Core.Path.{◌≡◌, refl, sym, ap, ◌∙◌}
use native.Mathlib.Omega.{arith}
use lib.ListN.{drop}
use Rattle.operation.specs.Operations.{values_first}
use Rattle.operation.specs.Stacks.{sources_of, stack_of}
use Rattle.operation.proofs.Stacks.{stack-none, top-none}
use Rattle.operation.proofs.Firsts.{first_on, first_off, first-effect, first-end}
use Rattle.operation.proofs.values_first.Goals as goal

pub loop-i-init : goal.loop-i-init
loop-i-init c =
    let a = c.args in
    (omega arith, omega arith, refl, top-none a.values.now, ap (values_first (sources_of a.s) (drop a.from a.ops.now)) (sym (stack-none a.values.now)), omega arith)

pub returns-then-op-ge-EFFECTS : goal.returns-then-op-ge-EFFECTS
returns-then-op-ge-EFFECTS c =
    let a = c.args in
    let l = c.loop-i in
    (sym (l.invariant.4 ∙ first-effect (sources_of a.s) a.ops.now (stack_of l.values l.height) l.i c.loop-i-test.true c.if-op-ge-EFFECTS.true), l.invariant.0, l.invariant.1, l.invariant.3, l.invariant.5)

pub loop-i-preserved : goal.loop-i-preserved
loop-i-preserved c =
    let a = c.args in
    let l = c.loop-i in
    let e = c.in_ok-height.ensures in
    let b = e.1 in
    let v = l.invariant.0 in
    let u = l.invariant.1 in (
      omega arith,
      omega arith,
      c.value_step.auto.values ∙ l.invariant.2,
      e.2,
      l.invariant.4
          ∙ first_on (sources_of a.s) a.ops.now (stack_of l.values l.height) l.i c.loop-i-test.true (omega (arith, c.if-op-ge-EFFECTS.false)) e.0,
      omega arith,
    )

pub returns-in_err-height : goal.returns-in_err-height
returns-in_err-height c =
    let a = c.args in
    let l = c.loop-i in
    let p = err_from_is_err_and c.from_residual.result c.from_residual.ensures.1 in
    rw (p.1, p.2) (
      sym
          (l.invariant.4
          ∙ first_off (sources_of a.s) a.ops.now (stack_of l.values l.height) l.i c.loop-i-test.true (omega (arith, c.if-op-ge-EFFECTS.false))
          c.in_err-height.ensures.0),
      omega arith,
      omega arith,
      top-none _,
      omega arith,
    )

pub returns : goal.returns
returns c =
    let a = c.args in
    let l = c.loop-i in
    let u = l.invariant.1 in
    let v = l.invariant.5 in
    let e : c.max.result ≡ l.i = omega (arith, c.max.ensures, c.loop-i-test.false) in
    rw e (sym (l.invariant.4 ∙ first-end (sources_of a.s) a.ops.now (stack_of l.values l.height) l.i c.loop-i-test.false), l.invariant.0, u, l.invariant.3, v)
