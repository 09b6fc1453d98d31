-- `input_string` meets its contract: by the reply. Assumes nothing.
-- the reply is within the slots
use lib.ListN.{length}
use Rattle.effect.proofs.Answers.{reply-stored}
use Rattle.effect.proofs.input_string.Goals as goal

pub returns-in-Ok : goal.returns-in-Ok
returns-in-Ok c =
    let a = c.args in
    let h = rw c.in-Ok.is at c.ask-r.ensures.answer in
    rw (c.store_ends.ensures, c.at_positions-then.ensures) (reply-stored a.access a.parts a.memory.now a.output.now (length a.reply.now) a.input.now a.x c.store_text.result h c.store_text.ensures)
