-- `assign` meets its contract: the relations and variables that are left do what is left of the whole. Assumes nothing.
use Prim.Native.Nat.{ℕ, min, ◌+◌, ◌-◌, ◌≤◌, ◌<◌}
use mathlib.Core.Path.{◌≡◌, refl, sym, ap, ◌∙◌}
use Rattle.std.specs.Result.{is_ok}
use native.Mathlib.Omega.{arith}
use lib.ListN.{length, take, length-take}
use lib.Dec.{leb}
use borrow.Author.Tests.{leb-true, leb-false}
use mathlib.Core.List.{List}
use Rattle.page.proofs.Walk.{by_cases}
use lib.Seq.{length-take-le, get_or-take}
use Rattle.line.proofs.Lists.{room_for, room-less}
use Rattle.line.proofs.InTurn.{InTurn, one-read, in-turn}
use Rattle.operation.proofs.Replies.{begins, replied-out, variables-out, first_reads, remains, refuses}
use Rattle.operation.proofs.assign.Goals.{In-Ok}
use Rattle.operation.proofs.assign.Goals as goal

-- a turn has a variable and a relation
within : {m n i : ℕ} (rest : List ℕ) → m ≡ min n (length rest) → i < length (take m rest) → (i < n) × (i < length rest)
within {m} rest e h = let t = length-take m rest in (omega arith, omega arith)

-- the relation that was read
module _ (c : In-Ok) where
  there : (c.loop-op.op-index < c.args.n) × (c.loop-op.op-index < length c.args.rest.now)
  there = within c.args.rest.now c.min.ensures c.loop-op-test.true

  turn : InTurn (c.args.n - (c.loop-op.op-index + 1)) c.args.text.now c.loop-op.c.at c.reply_relation.new.ops c.in-Ok.k c.in-Ok.next
  turn =
      let a = c.args in
      let q = c.reply_relation in
      let l = c.loop-op in
      in-turn a.text.now l.ops l.c.at (a.n - (l.op-index + 1)) q.result (room-less a.text.now a.ops.now a.text.now l.ops c.requires.lends.room (omega arith) l.invariant.1) (first_reads a.n a.text.now a.rest.now _ l.c.at l.op-index l.invariant.3 there.0) q.ensures.value q.ensures.ops_after c.in-Ok.is

  -- its operations stand in the list, and the stack has room for their values
  fits : (c.in-Ok.k ≤ length c.reply_relation.new.ops) × (c.in-Ok.k ≤ length c.loop-op.values)
  fits =
      let a = c.args in
      let h = room_for a.text.now a.ops.now c.requires.lends.room in
      let s = c.requires.lends.stack in
      let t = turn.few in
      let k = c.reply_relation.auto.ops in
      let l = c.loop-op.invariant in
      (omega arith, omega arith)

pub loop-op-init : goal.loop-op-init
loop-op-init c = let a = c.args in (refl, refl, refl, begins a.n a.text.now a.rest.now _ c.requires.reply)

-- it always reads a relation
pub returns-in_default : goal.returns-in_default
returns-in_default c =
    let a = c.args in
    let l = c.loop-op in
    let q = c.reply_relation in
    absurd (one-read a.text.now l.ops l.c.at (a.n - (l.op-index + 1)) q.result (room-less a.text.now a.ops.now a.text.now l.ops c.requires.lends.room (omega arith) l.invariant.1) (first_reads a.n a.text.now a.rest.now _ l.c.at l.op-index l.invariant.3 (within a.rest.now c.min.ensures c.loop-op-test.true).0) q.ensures.value (ap is_ok c.in_default.is))

pub slice_bounds-work_out-end : goal.slice_bounds-work_out-end
slice_bounds-work_out-end c = (fits (goal.at.slice_bounds-work_out-end c).In-Ok).0

pub slice_bounds-work_out-end-in-loop-op : goal.slice_bounds-work_out-end-in-loop-op
slice_bounds-work_out-end-in-loop-op c = sym (length-take-le c.in-Ok.k c.reply_relation.new.ops (fits (goal.at.slice_bounds-work_out-end-in-loop-op c).In-Ok).0)

pub work_out-requires : goal.work_out-requires
work_out-requires c = let f = fits (goal.at.work_out-requires c).In-Ok in omega (arith, length-take c.in-Ok.k c.reply_relation.new.ops)

pub returns-in-Err : goal.returns-in-Err
returns-in-Err c =
    let a = c.args in
    let l = c.loop-op in
    refuses a.n a.text.now a.rest.now _ l.c.at l.op-index l.invariant.3 (turn (goal.at.returns-in-Err c).In-Ok) (there (goal.at.returns-in-Err c).In-Ok).0 (there (goal.at.returns-in-Err c).In-Ok).1 _ (rw c.in-Err.is at c.work_out.ensures)

pub loop-op-preserved : goal.loop-op-preserved
loop-op-preserved c =
    let a = c.args in
    let l = c.loop-op in
    let r = remains a.n a.text.now a.rest.now _ l.c.at l.op-index l.invariant.3 (turn (goal.at.loop-op-preserved c).In-Ok) (there (goal.at.loop-op-preserved c).In-Ok).0 (there (goal.at.loop-op-preserved c).In-Ok).1 c.in-Ok-work_out.x (rw c.in-Ok-work_out.is at c.work_out.ensures) in (
      c.set_var.auto.vars ∙ l.invariant.0,
      c.reply_relation.auto.ops ∙ l.invariant.1,
      c.work_out.auto.values ∙ l.invariant.2,
      rw (c.set_var.ensures, get_or-take c.min.result c.args.rest.now c.loop-op.op-index 0 (let t = length-take c.min.result c.args.rest.now in omega arith)) r,
    )

pub returns : goal.returns
returns c =
    let a = c.args in
    let l = c.loop-op in
    let h = c.loop-op-test.false in
    let t = length-take c.min.result a.rest.now in
    by_cases (leb a.n l.op-index)
    (λ e. replied-out a.n a.text.now a.rest.now _ l.c.at l.op-index l.invariant.3 (leb-true a.n l.op-index e))
    (λ e. variables-out a.n a.text.now a.rest.now _ l.c.at l.op-index l.invariant.3 (let f = leb-false a.n l.op-index e in let m = c.min.ensures in omega arith))
