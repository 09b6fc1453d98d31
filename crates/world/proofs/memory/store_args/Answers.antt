use Rattle.std.proofs.lemmas.Result.{err_from_is_err_and}
use mathlib.Core.Path.{◌≡◌}
use native.Mathlib.Omega.{arith}
use lib.ListN.{length, length-set}
use lib.Seq.{take-length}
use Rattle.world.specs.Stores.{args_of}
use Rattle.world.proofs.memory.Storing.{stored, refused, args-length, args_more}
use Rattle.world.proofs.memory.store_args.Goals as goal

pub returns-in_err-may_store : goal.returns-in_err-may_store
returns-in_err-may_store c =
    let p = err_from_is_err_and c.from_residual.result c.from_residual.ensures.1 in
    let a = c.args in
    rw (p.1, p.2) (refused a.access a.memory.now (args_of a.ops.now) a.a (args-length a.ops.now) (rw c.from-at.ensures at c.in_err-may_store.ensures))

pub loop-i-preserved : goal.loop-i-preserved
loop-i-preserved c =
    let l = c.loop-i in
    let a = c.args in
    (l.invariant.0, simp length-set l.invariant.1, rw l.invariant.2 (args_more a.memory.now a.ops.now c.from-at.result l.i (omega arith)))

pub returns : goal.returns
returns c =
    let l = c.loop-i in
    let a = c.args in
    let bs = args_of a.ops.now in
    let e : l.i ≡ length bs = omega (arith, args-length a.ops.now) in
    rw (l.invariant.2, e, take-length bs, c.from-at.ensures) (stored a.access a.memory.now bs a.a (args-length a.ops.now) (rw c.from-at.ensures at c.in_ok-may_store.ensures))
