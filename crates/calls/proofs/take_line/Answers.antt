-- `take_line` meets its contract: by the first refusal. Assumes nothing.
use Rattle.std.proofs.Common.{refl, ◌∙◌}
use Rattle.nibl.specs.Lent.{lent_all}
use Rattle.record.proofs.Fitted.{known-sized}
use Rattle.calls.proofs.Tables.{left-refused, left-on}
use Rattle.calls.proofs.First.{accepted, refusal-err, refusal-ok, take-refused, take_on}
use Rattle.calls.proofs.take_line.Goals as goal

pub accepted_line-requires : goal.accepted_line-requires
accepted_line-requires c =
    let a = c.args in
    let x = lent_all a.rec a.page.now a.memory.now a.input.now a.output.now a.call a.table.now in
    accepted x (refusal-ok _ c.in_default.ensures) (known-sized a.rec c.well_formed.0)

pub returns : goal.returns
returns c =
    let a = c.args in
    let x = lent_all a.rec a.page.now a.memory.now a.input.now a.output.now a.call a.table.now in
    let z = refusal-ok _ c.in_default.ensures in
    let k = c.accepted_line.ensures in
    left-on x refl (k.output_after ∙ take_on x refl z) z k.table_after

pub returns-in-Err : goal.returns-in-Err
returns-in-Err c =
    let a = c.args in
    let x = lent_all a.rec a.page.now a.memory.now a.input.now a.output.now a.call a.table.now in
    let r = refusal-err _ c.in-Err.ensures in
    rw c.stopped.ensures (left-refused x r.0 (take-refused x r.0 r.1) r.1)
