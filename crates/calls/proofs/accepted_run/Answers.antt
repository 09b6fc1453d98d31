-- `accepted_run` meets its contract. Assumes nothing.
use Rattle.std.proofs.Common.{sym, ◌∙◌, take}
use Rattle.std.proofs.Math.Seq.{length-take-le}
use Rattle.nibl.specs.Typing.{limit}
use Rattle.table.proofs.Lent.{lent-within}
use Rattle.calls.proofs.Tables.{continues-by-any}
use Rattle.calls.proofs.First.{lists}
use Rattle.calls.proofs.accepted_run.Goals as goal

pub slice_bounds-paused_run-end-5 : goal.slice_bounds-paused_run-end-5
slice_bounds-paused_run-end-5 c =
    let n = c.lent_entries-entries in
    sym (length-take-le n.result c.args.table.now (lent-within c.args.call c.args.table.now n.result n.ensures))

pub paused_run-requires : goal.paused_run-requires
paused_run-requires c = ((lists, c.requires.0.0, c.requires.0.1), rw c.lent_entries-entries.ensures c.requires.1.indexed)

pub returns : goal.returns
returns c =
    let a = c.args in
    c.paused_run.ensures
    ∙ continues-by-any a.rec a.page.now a.memory.now a.input.now a.output.now a.call (take c.lent_entries-entries.result a.table.now) a.table.now limit a.rec.paused
