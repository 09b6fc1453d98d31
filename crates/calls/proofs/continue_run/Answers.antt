-- `continue_run` meets its contract: by the first refusal. Assumes nothing.
use Rattle.std.proofs.Common.{refl, sym, ◌∙◌}
use Rattle.nibl.specs.Lent.{lent_all}
use Rattle.record.proofs.Fitted.{known-sized}
use Rattle.calls.proofs.Tables.{left-refused, left-on, table-still}
use Rattle.calls.proofs.First.{accepted, refusal-err, refusal-ok, continue-refused, continue-on}
use Rattle.calls.proofs.continue_run.Goals as goal

pub accepted_run-requires : goal.accepted_run-requires
accepted_run-requires c =
    let a = c.args in
    let x = lent_all a.rec a.page.now a.memory.now a.input.now a.output.now a.call a.table.now in
    accepted x (refusal-ok _ c.in_default.ensures) (known-sized a.rec c.well_formed.0)

pub returns : goal.returns
returns c =
    let a = c.args in
    let x = lent_all a.rec a.page.now a.memory.now a.input.now a.output.now a.call a.table.now in
    let z = refusal-ok _ c.in_default.ensures in
    let k = c.accepted_run.ensures in
    left-on x refl (k ∙ continue-on x refl z) z (sym (table-still a.call a.page.now a.table.now (accepted x z (known-sized a.rec c.well_formed.0)).1))

pub returns-in-Err : goal.returns-in-Err
returns-in-Err c =
    let a = c.args in
    let x = lent_all a.rec a.page.now a.memory.now a.input.now a.output.now a.call a.table.now in
    let r = refusal-err _ c.in-Err.ensures in
    rw c.stopped.ensures (left-refused x r.0 (continue-refused x r.0 r.1) r.1)
