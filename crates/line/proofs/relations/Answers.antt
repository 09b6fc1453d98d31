use Prim.Native.Nat.{ℕ, ◌+◌, ◌-◌}
use mathlib.Core.Path.{refl, sym, ap, ◌∙◌}
use native.Mathlib.Omega.{arith}
use lib.ListN.{drop}
use Rattle.std.specs.Result.{result_ok}
use Rattle.nibl.specs.found.Read.{replied}
use Rattle.line.specs.Answers.{list_of}
use Rattle.line.proofs.Replies.{key-told, more-none, more-on, no-reply, pair-none, pair_found}
use Rattle.line.proofs.relations.Goals as goal

pub returns-then-n-eq0 : goal.returns-then-n-eq0
returns-then-n-eq0 c = ap result_ok (no-reply c.args.n c.args.text.now c.if-n-eq0.true)

pub returns-in_err-c : goal.returns-in_err-c
returns-in_err-c c =
    rw c.from_residual.ensures
    (ap result_ok (more-none (drop c.loop.at c.args.text.now) (c.args.n + 1 - c.loop.counter) (omega arith) (pair-none c.read_relation-r.result c.read_relation-r.ensures (key-told refl c.in_err-c.was c.past_sign.ensures)) ∙ sym c.loop.invariant))

pub loop-preserved : goal.loop-preserved
loop-preserved c =
    let p = pair_found c.read_relation-r.result c.read_relation-r.ensures (key-told refl c.in_ok-c.was c.past_sign.ensures) in
    c.loop.invariant ∙ more-on (drop c.loop.at c.args.text.now) (c.args.n + 1 - c.loop.counter) (omega arith) p.reads ∙ ap (λ (k : ℕ). list_of (replied k (drop c.in_ok-c.c.at c.args.text.now))) (omega arith)

pub loop-init : goal.loop-init
loop-init c = ap (λ (k : ℕ). list_of (replied k c.args.text.now)) (omega arith)

pub returns : goal.returns
returns c = c.last_relation.ensures ∙ ap result_ok (sym (c.loop.invariant ∙ ap (λ (k : ℕ). list_of (replied k (drop c.loop.at c.args.text.now))) (omega arith)))
