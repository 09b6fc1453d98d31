use mathlib.Core.Path.{sym, ap, ◌∙◌}
use native.Mathlib.Omega.{arith}
use lib.ListN.{length, drop, length-drop}
use Rattle.std.specs.Prelude.{is_some}
use Rattle.line.proofs.Lists.{was-ok, no-first-at, first-at, left-fits, list-none, list-ends, list_on, met-now}
use Rattle.line.proofs.members.Goals as goal

pub returns-in_err-left : goal.returns-in_err-left
returns-in_err-left c =
    let text = c.args.text.now in
    let at = c.loop-left.at in
    rw c.from_residual.ensures (sym (c.loop-left.invariant.2 ∙ list-none c.loop-left.met (length text) c.args.p (drop at text) (no-first-at text c.loop-left.ops c.args.ops.now at _ c.requires c.loop-left.invariant.1 c.read_member.ensures.value (sym c.ok.ensures.variant ∙ ap is_some c.in_err-left.was))))

pub overflow_sub-end : goal.overflow_sub-end
overflow_sub-end c =
    let text = c.args.text.now in
    let at = c.loop-left.at in
    omega (arith, left-fits (first-at text c.loop-left.ops c.args.ops.now at _ c.requires c.loop-left.invariant.1 c.read_member.ensures.value (was-ok c.read_member.result c.ok.ensures.value c.in_ok-left.was)), length-drop at text)

pub returns-then-last : goal.returns-then-last
returns-then-last c =
    let text = c.args.text.now in
    let at = c.loop-left.at in
    let met = c.loop-left.met in
    let p = c.args.p in
    let n = length text in
    sym (c.loop-left.invariant.2 ∙ list-ends text at p met _ (first-at text c.loop-left.ops c.args.ops.now at _ c.requires c.loop-left.invariant.1 c.read_member.ensures.value (was-ok c.read_member.result c.ok.ensures.value c.in_ok-left.was)) (met-now met n p _) c.if-last.true)

pub loop-left-smaller : goal.loop-left-smaller
loop-left-smaller c =
    let text = c.args.text.now in
    let at = c.loop-left.at in
    omega (arith, left-fits (first-at text c.loop-left.ops c.args.ops.now at _ c.requires c.loop-left.invariant.1 c.read_member.ensures.value (was-ok c.read_member.result c.ok.ensures.value c.in_ok-left.was)), length-drop at text)

pub loop-left-preserved : goal.loop-left-preserved
loop-left-preserved c =
    let text = c.args.text.now in
    let at = c.loop-left.at in
    let met = c.loop-left.met in
    let p = c.args.p in
    let n = length text in
    let f = (first-at text c.loop-left.ops c.args.ops.now at _ c.requires c.loop-left.invariant.1 c.read_member.ensures.value (was-ok c.read_member.result c.ok.ensures.value c.in_ok-left.was)) in
    (omega (arith, left-fits f, length-drop at text), omega (arith, c.read_member.auto.ops), c.loop-left.invariant.2 ∙ list_on text at p met _ f (met-now met n p _) c.loop-left.invariant.0 c.if-last.false)
