-- `input_values` meets its contract: by the reply. Assumes nothing.
use Prim.Native.Nat.{◌≤◌}
use mathlib.Core.Path.{sym}
use native.Mathlib.Omega.{arith}
use lib.ListN.{length, take}
use lib.Seq.{length-take-le}
use Rattle.operation.specs.Operations.{variables_of}
use Rattle.statement.proofs.Running.{no-reply, reply-taken, reply-room}
use Rattle.statement.proofs.input_values.Goals.{In-Ok, in-Ok, in-Err}
use Rattle.statement.proofs.input_values.Goals as goal

-- the reply is within the slots
short : (c : In-Ok) → c.in-Ok.k ≤ length c.ask-r.new.reply
short c = rw c.in-Ok.is at c.ask-r.ensures.room

pub slice_bounds-take_reply-end : goal.slice_bounds-take_reply-end
slice_bounds-take_reply-end c = let h = short (goal.at.slice_bounds-take_reply-end c).In-Ok in omega arith

pub slice_bounds-take_reply-end-in-Ok : goal.slice_bounds-take_reply-end-in-Ok
slice_bounds-take_reply-end-in-Ok c = sym (length-take-le c.in-Ok.k c.ask-r.new.reply (short (goal.at.slice_bounds-take_reply-end-in-Ok c).In-Ok))

pub take_reply-way-requires : goal.take_reply-way-requires
take_reply-way-requires c =
    let p = c.requires in
    let k = c.ask-r.auto.reply in
    let r = p.reply_ops in
    let s = p.short in
    let b = short (goal.at.take_reply-way-requires c).In-Ok in
    let l = length-take-le c.in-Ok.k c.ask-r.new.reply b in
    record { room = reply-room (take c.in-Ok.k c.ask-r.new.reply) c.args.replies.now (omega arith) (omega arith); stack = p.reply_values; top = p.top }

pub returns : goal.returns
returns c =
    let a = c.args in
    let h = c.ask-r.ensures.answer in
    elim c.match-r.branch [
      | in-Ok w ↦ rw (c.ends.ensures, c.at_positions.ensures, w.way'-is, w.vars-is) (reply-taken (length a.reply.now) a.input.now a.sight a.page.now (variables_of a.rest.now) a.n a.parts a.vars.now a.memory.now a.output.now w.take_reply-way.result (rw w.in-Ok.is at h) w.take_reply-way.ensures)
      | in-Err w ↦ rw (c.ends.ensures, c.at_positions.ensures, w.way'-is, w.vars-is) (no-reply (length a.reply.now) a.input.now a.sight a.page.now (variables_of a.rest.now) a.n a.parts a.vars.now a.memory.now a.output.now (rw w.in-Err.is at h))
    ]
