-- `paused_run` meets its contract: by the record's pause. Assumes nothing.
use mathlib.Core.Path.{◌∙◌}
use lib.ListN.{length}
use Rattle.nibl.specs.Lent.{lent_all}
use Rattle.calls.proofs.First.{pause-is, nothing-goes-on, goes_on}
use Rattle.calls.proofs.paused_run.Goals as goal

pub run_from-requires : goal.run_from-requires
run_from-requires c =
    ((c.requires.0.0, rw c.unpaused-in-Some.ensures c.requires.0.1, rw (pause-is c.paused.ensures c.in-Some.is) at c.requires.0.2), c.requires.1)

pub returns-in-None : goal.returns-in-None
returns-in-None c =
    let a = c.args in
    let x = lent_all a.rec a.page.now a.memory.now a.input.now a.output.now a.call a.table.now in
    rw c.stopped.ensures (nothing-goes-on (length a.reply.now) x c.unpaused.ensures (pause-is c.paused.ensures c.in-None.is))

pub returns-in-Some : goal.returns-in-Some
returns-in-Some c =
    let a = c.args in
    let x = lent_all a.rec a.page.now a.memory.now a.input.now a.output.now a.call a.table.now in
    c.run_from.ensures ∙ goes_on (length a.reply.now) x c.unpaused-in-Some.ensures (pause-is c.paused.ensures c.in-Some.is)
