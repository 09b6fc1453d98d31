-- `save` meets its contract: by its tests in their order. Assumes nothing.
use Prim.Native.Nat.{ℕ, ◌+◌, ◌≤◌}
use mathlib.Core.Path.{◌≡◌, sym, ◌∙◌}
use mathlib.Core.Bool.{true}
use mathlib.Core.List.{List}
use native.Mathlib.Omega.{arith}
use lib.ListN.{length}
use Rattle.nibl.specs.Typing.{limit}
use Rattle.nibl.specs.Page.{is_good, used}
use Rattle.nibl.specs.Lent.{Lent, lent_all, left_all, answer_of, no_line}
use Rattle.page.proofs.Laid.{laid-room, good-laid}
use Rattle.record.proofs.Fitted.{known-sized}
use Rattle.carry.proofs.Saving.{save-lengths, save-1, save-18, save-19, save-17, save-0}
use Rattle.carry.proofs.save.Goals as goal

pub returns-then-not-save_in_range : goal.returns-then-not-save_in_range
returns-then-not-save_in_range c =
    let a = c.args in
    let x : Lent = lent_all a.rec a.page.now a.memory.now a.input.now a.output.now a.call a.table.now in
    rw c.stopped.ensures (save-1 x (sym c.save_in_range.ensures ∙ c.if-not-save_in_range.true))

pub returns-then-not-is_good : goal.returns-then-not-is_good
returns-then-not-is_good c =
    let a = c.args in
    let x : Lent = lent_all a.rec a.page.now a.memory.now a.input.now a.output.now a.call a.table.now in
    rw c.stopped-then-not-is_good.ensures (save-18 x (sym c.save_in_range.ensures ∙ c.if-not-save_in_range.false) (sym c.is_good.ensures ∙ c.if-not-is_good.true))

pub returns-then-not-fits : goal.returns-then-not-fits
returns-then-not-fits c =
    let a = c.args in
    let x : Lent = lent_all a.rec a.page.now a.memory.now a.input.now a.output.now a.call a.table.now in
    rw c.stopped-then-not-fits.ensures
    (save-19 x (sym c.save_in_range.ensures ∙ c.if-not-save_in_range.false) (sym c.is_good.ensures ∙ c.if-not-is_good.false) (sym c.fits.ensures ∙ c.if-not-fits.true))

-- how many bytes of a good page are in use
in_use : (page : List ℕ) {n : ℕ} → n ≡ used page → is_good limit page ≡ true → n ≤ length page
unfolding used
in_use page e g = omega (arith, laid-room (good-laid limit page (omega arith) g))

pub overflow_add-end-2 : goal.overflow_add-end-2
overflow_add-end-2 c =
    let a = c.args in
    let x : Lent = lent_all a.rec a.page.now a.memory.now a.input.now a.output.now a.call a.table.now in
    let l = save-lengths x (sym c.save_in_range.ensures ∙ c.if-not-save_in_range.false) in
    let u = in_use a.page.now c.used_bytes.ensures (sym c.is_good.ensures ∙ c.if-not-is_good.false) in
    omega (arith, l.page, l.output, l.outpos)

pub overflow_add-end-3 : goal.overflow_add-end-3
overflow_add-end-3 c =
    let a = c.args in
    let x : Lent = lent_all a.rec a.page.now a.memory.now a.input.now a.output.now a.call a.table.now in
    let l = save-lengths x (sym c.save_in_range.ensures ∙ c.if-not-save_in_range.false) in
    let u = in_use a.page.now c.used_bytes.ensures (sym c.is_good.ensures ∙ c.if-not-is_good.false) in
    omega (arith, l.page, l.memory, l.output, l.outpos)

pub returns-then-output-end : goal.returns-then-output-end
returns-then-output-end c =
    let a = c.args in
    let x : Lent = lent_all a.rec a.page.now a.memory.now a.input.now a.output.now a.call a.table.now in
    let e = c.used_bytes.ensures in
    rw c.stopped-then-output-end.ensures
    (save-17 x (sym c.save_in_range.ensures ∙ c.if-not-save_in_range.false) (sym c.is_good.ensures ∙ c.if-not-is_good.false) (sym c.fits.ensures ∙ c.if-not-fits.false)
    (known-sized a.rec c.well_formed.0).vars (omega (arith, c.if-output-end.true)))

pub put_form-requires : goal.put_form-requires
put_form-requires c =
    let a = c.args in
    let x : Lent = lent_all a.rec a.page.now a.memory.now a.input.now a.output.now a.call a.table.now in
    let l = save-lengths x (sym c.save_in_range.ensures ∙ c.if-not-save_in_range.false) in
    record {
      good = sym c.is_good.ensures ∙ c.if-not-is_good.false;
      paged = l.page;
      small = l.memory;
      room = omega (arith, c.used_bytes.ensures, c.if-output-end.false);
    }

pub returns : goal.returns
returns c =
    let a = c.args in
    let x : Lent = lent_all a.rec a.page.now a.memory.now a.input.now a.output.now a.call a.table.now in
    let e = c.used_bytes.ensures in
    rw c.stopped-2.ensures
    ((λ i. left_all (answer_of 0 no_line 0 a.call.inpos (a.call.outpos + 56 + e i + length a.memory.now) 0) a.rec a.page.now a.memory.now (c.put_form.ensures i) a.table.now)
    ∙ save-0 x (sym c.save_in_range.ensures ∙ c.if-not-save_in_range.false) (sym c.is_good.ensures ∙ c.if-not-is_good.false) (sym c.fits.ensures ∙ c.if-not-fits.false)
    (known-sized a.rec c.well_formed.0).vars (omega (arith, c.if-output-end.false)))
