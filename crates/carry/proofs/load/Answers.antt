-- `load` meets its contract: by its range, and by what was opened. Assumes nothing.
use mathlib.Core.Path.{sym, ap, ◌∙◌}
use Rattle.nibl.specs.Typing.{limit}
use Rattle.nibl.specs.found.Form.{form_in}
use Rattle.nibl.specs.Lent.{Lent, lent_all}
use Rattle.carry.proofs.Loading.{holding, any-output, load-1, load-form, load-no, page-range, table-range}
use Rattle.carry.proofs.load.Goals as goal

pub returns-then-not-load_in_range : goal.returns-then-not-load_in_range
returns-then-not-load_in_range c =
    let a = c.args in
    let x : Lent = lent_all a.rec a.page.now a.memory.now a.input.now a.output.now a.call a.table.now in
    rw c.stopped.ensures (load-1 x (sym c.load_in_range.ensures ∙ c.if-not-load_in_range.true))

pub load_opened-requires : goal.load_opened-requires
load_opened-requires c =
    let a = c.args in
    let x : Lent = lent_all a.rec a.page.now a.memory.now a.input.now a.output.now a.call a.table.now in
    let r = sym c.load_in_range.ensures ∙ c.if-not-load_in_range.false in
    record { opened = c.in-Ok.ensures; paged = page-range x r; long = table-range x r }

pub returns-in-Err : goal.returns-in-Err
returns-in-Err c =
    let a = c.args in
    let x : Lent = lent_all a.rec a.page.now a.memory.now a.input.now a.output.now a.call a.table.now in
    rw c.stopped-in-Err.ensures (load-no x (sym c.load_in_range.ensures ∙ c.if-not-load_in_range.false) c.in-Err.ensures)

pub returns-in-Ok : goal.returns-in-Ok
returns-in-Ok c =
    let a = c.args in
    let x : Lent = lent_all a.rec a.page.now a.memory.now a.input.now a.output.now a.call a.table.now in
    ap (holding a.rec a.page.now a.memory.now a.input.now a.output.now a.call a.table.now) c.load_opened.ensures
    ∙ any-output a.rec a.page.now a.memory.now a.input.now a.output.now a.call a.table.now (form_in limit a.input.now)
    ∙ load-form x (sym c.load_in_range.ensures ∙ c.if-not-load_in_range.false)
