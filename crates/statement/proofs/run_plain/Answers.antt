use Prim.Native.Nat.{ℕ}
use mathlib.Core.Path.{◌≡◌, sym, ap, ◌∙◌}
use mathlib.Core.List.{List, []}
use native.Mathlib.Omega.{arith}
use lib.ListN.{drop, get_or, drop_of_length-le}
use Rattle.codes.specs.Codes.{code_in, argument_in}
use Rattle.nibl.specs.Values.{is}
use Rattle.operation.specs.Operations.{run_ops, at_effect, values_first}
use Rattle.operation.specs.Stacks.{stack_of, sources}
use Rattle.effect.proofs.Acts.{act-not}
use Rattle.statement.specs.Lending.{is_on}
use Rattle.statement.specs.Plain.{InView, Around, view_of, env_from, world_from}
use Rattle.statement.proofs.Running.{not_on, run_end}
use Rattle.statement.proofs.Plainly.{Reaches, plain-refused, plain-reached, plain-on, plain-off}
use Rattle.statement.proofs.run_plain.Goals as goal

-- the values that stand next, and the operation behind them
reached : (s : InView) (ops vars₀ vars rest vs : List ℕ) (i : ℕ) → Reaches s ops vars₀ i vars
    → is (at_effect rest vs) ≡ values_first (sources vars s.flags s.sight s.page s.memory) (drop i ops) []
    → (a : Around) → run_ops (env_from s a) ops (world_from s a vars₀) [] ≡ run_ops (env_from s a) rest (world_from s a vars) vs
reached s ops vars₀ vars rest vs i r e a = r.at a ∙ plain-reached s a ops vars i e

pub returns-in-Err : goal.returns-in-Err
returns-in-Err c =
    let n = c.args in
    let l = c.loop-stop in
    record {
      runs = λ a. sym (l.invariant.2.at a ∙ plain-refused (view_of n.lines.page.now n.flags n.sight n.dos n.fors n.memory.now) a n.ops.now l.vars l.i (rw c.in-Err.is at c.values_first.ensures.0));
      within = omega arith;
    }

pub returns-in_default : goal.returns-in_default
returns-in_default c =
    let n = c.args in
    let l = c.loop-stop in
    let s = view_of n.lines.page.now n.flags n.sight n.dos n.fors n.memory.now in
    let vs = stack_of c.values_first.new.values c.in-Ok.height in
    let e = rw c.in-Ok.is at c.values_first.ensures.0 in
    record {
      runs = λ a. sym (reached s n.ops.now n.vars.now l.vars (drop c.in-Ok.j n.ops.now) vs l.i l.invariant.2 e a ∙ run_end (env_from s a) (world_from s a l.vars) vs (drop_of_length-le n.ops.now c.in_default.ensures.lookup.3));
      within = omega arith;
    }

pub returns-in_default-a : goal.returns-in_default-a
returns-in_default-a c =
    let n = c.args in
    let l = c.loop-stop in
    let s = view_of n.lines.page.now n.flags n.sight n.dos n.fors n.memory.now in
    let vs = stack_of c.values_first.new.values c.in-Ok.height in
    let e = rw c.in-Ok.is at c.values_first.ensures.0 in
    let j = c.in-Ok.j in
    let is = c.in-Some.ensures.lookup.4 (omega arith) 0 in
    let o = get_or n.ops.now j 0 in
    let same = act-not n.lines.page.now n.dos n.fors (argument_in o) c.in-Ok.x l.vars (code_in o) (rw (is, c.in_default-a.is) at c.act-a.ensures) in
    let p = c.left_at.ensures in
    record {
      runs = λ a. p.runs s a c.act-a.new.vars c.requires.1
          ∙ ap (λ (v : List ℕ). run_ops (env_from s a) (drop j n.ops.now) (world_from s a v) vs) same
          ∙ sym (reached s n.ops.now n.vars.now l.vars (drop j n.ops.now) vs l.i l.invariant.2 e a);
      within = p.within;
    }

pub returns-in_default-way : goal.returns-in_default-way
returns-in_default-way c =
    let n = c.args in
    let l = c.loop-stop in
    let s = view_of n.lines.page.now n.flags n.sight n.dos n.fors n.memory.now in
    let vs = stack_of c.values_first.new.values c.in-Ok.height in
    let e = rw c.in-Ok.is at c.values_first.ensures.0 in
    let top = rw c.in-Ok.is at c.values_first.ensures.3 in
    let j = c.in-Ok.j in
    let is = c.in-Some.ensures.lookup.4 (omega arith) 0 in
    record {
      runs = λ a. sym
          (reached s n.ops.now n.vars.now l.vars (drop j n.ops.now) vs l.i l.invariant.2 e a
          ∙ plain-off s a c.requires.1 n.ops.now l.vars vs j c.in-Some.ensures.lookup.3.0 top c.in-Some-a.way (rw (is, c.in-Some-a.is) at c.act-a.ensures) (not_on c.in-Some-a.way c.in_default-way.not-On));
      within = omega arith;
    }

pub loop-stop-preserved : goal.loop-stop-preserved
loop-stop-preserved c =
    let n = c.args in
    let l = c.loop-stop in
    let s = view_of n.lines.page.now n.flags n.sight n.dos n.fors n.memory.now in
    let vs = stack_of c.values_first.new.values c.in-Ok.height in
    let e = rw c.in-Ok.is at c.values_first.ensures.0 in
    let top = rw c.in-Ok.is at c.values_first.ensures.3 in
    let j = c.in-Ok.j in
    let is = c.in-Some.ensures.lookup.4 (omega arith) 0 in (
      c.act-a.auto.vars ∙ l.invariant.0,
      c.values_first.auto.values ∙ l.invariant.1,
      record {
        at = λ a. reached s n.ops.now n.vars.now l.vars (drop j n.ops.now) vs l.i l.invariant.2 e a
            ∙ plain-on s a c.requires.1 n.ops.now l.vars vs j c.in-Some.ensures.lookup.3.0 top c.in-Some-a.way (rw (is, c.in-Some-a.is) at c.act-a.ensures) (ap is_on c.in-On.is);
      },
    )
