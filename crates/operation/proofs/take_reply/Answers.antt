-- `take_reply` meets its contract: where there is no reply nothing is assigned. Assumes nothing.
use mathlib.Core.Path.{sym, ◌∙◌}
use native.Mathlib.Omega.{arith}
use Rattle.nibl.specs.found.Read.{replied}
use Rattle.line.proofs.Lists.{room-less}
use Rattle.operation.proofs.Replies.{reply-read, no-reply, reads}
use Rattle.operation.proofs.take_reply.Goals as goal

pub assign-requires : goal.assign-requires
assign-requires c =
    let a = c.args in
    let p = c.requires in
    let k = c.read_reply.auto.ops in
    record {
      lends = record { room = room-less a.text.now a.ops.now a.text.now c.read_reply.new.ops p.room (omega arith) k; stack = let s = p.stack in omega arith; top = p.top };
      reply = sym (reply-read a.n a.text.now a.ops.now p.room c.read_reply.ensures.value) ∙ reads c.read_reply.result (sym c.is_err.ensures.value ∙ c.if-is_err.false);
    }

pub returns-then-is_err : goal.returns-then-is_err
returns-then-is_err c =
    let a = c.args in
    no-reply _ _ (replied a.n a.text.now) (reply-read a.n a.text.now a.ops.now c.requires.room c.read_reply.ensures.value) (sym c.is_err.ensures.value ∙ c.if-is_err.true)
