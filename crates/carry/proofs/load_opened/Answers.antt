-- `load_opened` meets its contract: 24, 2, or all that the form carries. Assumes nothing.
use Prim.Native.Nat.{ℕ, ◌+◌, ◌-◌}
use mathlib.Core.Path.{◌≡◌, refl, sym, ap, ◌∙◌}
use mathlib.Core.List.{List, []}
use native.Mathlib.Omega.{arith}
use lib.ListN.{length, take, drop, length-drop}
use lib.Seq.{take_all}
use Rattle.nibl.specs.Typing.{limit}
use Rattle.nibl.specs.Record.{loaded_session}
use Rattle.nibl.specs.Page.{onto}
use Rattle.nibl.specs.Lent.{Lent, lent_all, left_all, answer_of, no_line}
use Rattle.nibl.specs.Calls.{table_past}
use Rattle.table.proofs.Lent.{table_kept}
use Rattle.carry.proofs.Loading.{no_room, loads-whole, page-left}
use Rattle.carry.proofs.load_opened.Goals as goal

pub returns-then-page-end : goal.returns-then-page-end
returns-then-page-end c =
    let a = c.args in
    let x : Lent = lent_all a.rec a.page.now a.memory.now a.form.now [] a.call a.table.now in
    rw c.stopped-then-page-end.ensures (sym (no_room limit x a.end c.requires.opened c.if-form-from.false c.if-page-end.true))

pub returns : goal.returns
returns c =
    let a = c.args in
    let x : Lent = lent_all a.rec a.page.now a.memory.now a.form.now [] a.call a.table.now in
    let o = c.requires.opened in
    let m = c.if-form-from.false in
    let room = c.if-page-end.false in
    let page : c.put_program.new.page ≡ onto a.page.now o.records =
    page-left limit x a.end o c.put_program.new.page (take (a.end - 56) (drop 56 a.form.now)) refl c.put_program.ensures in
    let memory : c.put_bytes.new.to ≡ drop (a.end + 2) a.form.now = c.put_bytes.ensures ∙ take_all (length a.form.now - (a.end + 2)) (drop (a.end + 2) a.form.now) (omega (arith, length-drop (a.end + 2) a.form.now)) in
    let table = table_kept a.call c.put_program.new.page a.table.now c.refill.new.table c.lent_entries-entries.ensures c.requires.long c.refill.ensures in
    rw (c.stopped-2.ensures, c.loaded.ensures)
    ((λ i. left_all (answer_of 0 no_line 0 a.call.inpos a.call.outpos 0) (loaded_session a.rec (c.form_values.ensures i)) (page i)
    (memory i) [] ((table ∙ ap (λ (p : List ℕ). table_past a.call p a.table.now) page) i))
    ∙ sym (loads-whole limit x a.end o m room))
