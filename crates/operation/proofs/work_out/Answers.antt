use Rattle.std.proofs.lemmas.Result.{err_from_is_err_and}
use mathlib.Core.Path.{refl, sym, ap, ◌∙◌}
use native.Mathlib.Omega.{arith}
use Rattle.nibl.specs.Values.{is}
use Rattle.operation.specs.Operations.{work_out}
use Rattle.operation.specs.Stacks.{sources_of, stack_of}
use Rattle.operation.proofs.Stacks.{work-on, work-off, work-end, stack-none, top-none, topmost}
use Rattle.operation.proofs.work_out.Goals as goal

pub loop-op-init : goal.loop-op-init
loop-op-init c =
    let a = c.args in
    (omega arith, refl, top-none a.values.now, ap (work_out (sources_of a.s) a.ops.now) (sym (stack-none a.values.now)))

pub loop-op-preserved : goal.loop-op-preserved
loop-op-preserved c =
    let a = c.args in
    let l = c.loop-op in
    let e = c.in_ok-height.ensures in
    let b = e.1 in
    let v = l.invariant.0 in (
      omega arith,
      c.value_step.auto.values ∙ l.invariant.1,
      e.2,
      l.invariant.3 ∙ work-on (sources_of a.s) a.ops.now (stack_of l.values l.height) l.op-index (omega arith) e.0,
    )

pub returns-in_err-height : goal.returns-in_err-height
returns-in_err-height c =
    let a = c.args in
    let l = c.loop-op in
    let p = err_from_is_err_and c.from_residual.result c.from_residual.ensures.1 in
    rw (p.1, p.2) (topmost
    (l.invariant.3
    ∙ work-off (sources_of a.s) a.ops.now (stack_of l.values l.height) l.op-index (omega arith)
    c.in_err-height.ensures.0))

pub returns : goal.returns
returns c =
    let a = c.args in
    let l = c.loop-op in
    ap is l.invariant.2
    ∙ topmost
    (l.invariant.3
    ∙ work-end (sources_of a.s) a.ops.now (stack_of l.values l.height) l.op-index (omega arith))
