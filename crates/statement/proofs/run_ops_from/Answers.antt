-- `run_ops_from` meets its contract: what is left of the list, run on the world and the values so far, does what the whole list
-- does. Assumes nothing.
use mathlib.Core.Path.{sym, ap, ◌∙◌}
use native.Mathlib.Omega.{arith}
use lib.ListN.{length}
use Rattle.std.proofs.lemmas.List.{nil_from_length}
use Rattle.nibl.specs.Meaning.{World, Env}
use Rattle.operation.specs.Operations.{run_ops}
use Rattle.operation.specs.Stacks.{stack_of}
use Rattle.operation.proofs.Stacks.{stack-none}
use Rattle.effect.specs.Worlds.{world_with, env_with}
use Rattle.statement.proofs.Running.{value_on, value-off, last-run, effect-on, effect-off, run_end}
use Rattle.statement.proofs.run_ops_from.Goals as goal

pub loop-op-preserved-in-Ok : goal.loop-op-preserved-in-Ok
loop-op-preserved-in-Ok c =
    let a = c.args in
    let l = c.loop-op in
    let q = c.value_step in
    let s = c.in-Some.ensures.cases in
    let b = rw c.in-Ok.is at q.ensures.1 in
    let v = l.invariant.0 (omega (arith, s.1)) in
    let u = q.auto.values in
    let e : Env = env_with (length a.reply.now) a.lines.page.now a.input.now a.sight a.here in
    let w : World = world_with l.vars l.p l.memory l.output in (
      (λ h. omega (arith, s.1)),
      l.invariant.1,
      l.invariant.2,
      l.invariant.3,
      l.invariant.4,
      l.invariant.5,
      q.auto.values ∙ l.invariant.6,
      l.invariant.7 ∙ value_on e w (stack_of l.values l.height) s.0 c.if-code-lt-EFFECTS.true (rw c.in-Ok.is at q.ensures.0),
    )

pub returns-in-Err : goal.returns-in-Err
returns-in-Err c =
    let a = c.args in
    let l = c.loop-op in
    let e : Env = env_with (length a.reply.now) a.lines.page.now a.input.now a.sight a.here in
    let w : World = world_with l.vars l.p l.memory l.output in
    rw c.ends.ensures
    (sym (l.invariant.7 ∙ value-off e w (stack_of l.values l.height) c.in-Some.ensures.cases.0 c.if-code-lt-EFFECTS.true (rw c.in-Err.is at c.value_step.ensures.0)))

pub returns-then-is_last : goal.returns-then-is_last
returns-then-is_last c =
    let a = c.args in
    let l = c.loop-op in
    let w : World = world_with l.vars l.p l.memory l.output in
    sym
    (l.invariant.7
    ∙ last-run (length a.reply.now) a.lines.page.now a.input.now a.sight a.here w (stack_of l.values l.height) c.last.result c.in-Some.ensures.cases.0 c.if-code-lt-EFFECTS.false l.invariant.4 c.nth-x.ensures
    (sym c.is_last.ensures ∙ c.if-is_last.true) c.last.ensures)

pub returns-in_default-way : goal.returns-in_default-way
returns-in_default-way c =
    let a = c.args in
    let l = c.loop-op in
    let w : World = world_with l.vars l.p l.memory l.output in
    sym
    (l.invariant.7
    ∙ effect-off (length a.reply.now) a.lines.page.now a.input.now a.sight a.here w (stack_of l.values l.height) c.effect-d.result c.in-Some.ensures.cases.0 c.if-code-lt-EFFECTS.false l.invariant.4 c.nth-x.ensures
    (sym c.is_last.ensures ∙ c.if-is_last.false) c.nth-y.ensures c.nth-z.ensures c.effect-d.ensures c.in_default-way.not-On)

pub loop-op-preserved : goal.loop-op-preserved
loop-op-preserved c =
    let a = c.args in
    let l = c.loop-op in
    let q = c.effect-d in
    let s = c.in-Some.ensures.cases in
    let v = l.invariant.0 (omega (arith, s.1)) in
    let e : Env = env_with (length a.reply.now) a.lines.page.now a.input.now a.sight a.here in
    let w : World = world_with l.vars l.p l.memory l.output in (
      (λ h. omega (arith, s.1)),
      q.auto.vars ∙ l.invariant.1,
      q.auto.memory ∙ l.invariant.2,
      q.auto.output ∙ l.invariant.3,
      q.auto.reply ∙ l.invariant.4,
      l.invariant.5,
      l.invariant.6,
      l.invariant.7
          ∙ effect-on (length a.reply.now) a.lines.page.now a.input.now a.sight a.here w (stack_of l.values l.height) q.result s.0 c.if-code-lt-EFFECTS.false l.invariant.4 c.nth-x.ensures
          (sym c.is_last.ensures ∙ c.if-is_last.false) c.nth-y.ensures c.nth-z.ensures q.ensures c.in-On.is
          ∙ ap (run_ops e c.in-Some.behind.now (world_with q.new.vars q.result.parts q.new.memory q.new.output)) (sym (stack-none l.values)),
    )

pub returns : goal.returns
returns c =
    let a = c.args in
    let l = c.loop-op in
    let e : Env = env_with (length a.reply.now) a.lines.page.now a.input.now a.sight a.here in
    rw c.ends-2.ensures (sym (l.invariant.7 ∙ run_end e (world_with l.vars l.p l.memory l.output) (stack_of l.values l.height) (nil_from_length l.rest.now c.in_default.ensures.cases)))
