-- `value_step` meets its contract. Assumes nothing.
use Rattle.std.proofs.lemmas.Result.{err_from_is_err_and}
use native.Mathlib.Omega.{arith}
use Rattle.operation.specs.Stacks.{sources_of}
use Rattle.operation.proofs.Stacks.{step_is, step-no, top-none, top-put}
use Rattle.operation.proofs.value_step.Goals as goal

pub returns-in_err-v : goal.returns-in_err-v
returns-in_err-v c =
    let a = c.args in
    let p = err_from_is_err_and c.from_residual.result c.from_residual.ensures.1 in
    rw (p.1, p.2) (
      step-no (sources_of a.s) a.op a.values.now a.height _ (rw (← c.requires.1, ← c.nth-y.ensures) c.in_err-v.ensures),
      omega arith,
      top-none a.values.now,
    )

pub returns : goal.returns
returns c =
    let a = c.args in
    let b = c.saturating_sub-b in (
      step_is (sources_of a.s) a.op a.values.now a.height
          c.in_ok-v.v c.taken.result b.result (rw (← c.requires.1, ← c.nth-y.ensures) c.in_ok-v.ensures) c.taken.ensures b.ensures c.requires.0,
      let d = b.ensures in omega arith,
      top-put a.values.now b.result c.in_ok-v.v (let h = c.requires in let d = b.ensures in omega arith),
    )
