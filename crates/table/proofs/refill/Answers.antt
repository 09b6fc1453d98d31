use mathlib.Core.Path.{sym, ◌∙◌}
use native.Mathlib.Omega.{arith}
use Rattle.page.proofs.Walk.{stepped, stayed}
use Rattle.page.proofs.Tables.{lines-most}
use Rattle.table.proofs.Index.{kept-some}
use Rattle.table.proofs.Fronts.{fill-room, fill_step, fill_end}
use Rattle.table.proofs.refill.Goals as goal

pub overflow_add-k : goal.overflow_add-k
overflow_add-k c =
    let l = c.loop-at.invariant in
    let t = fill-room l.1 (stepped l.0 c.in-Some.ensures.steps) in
    omega arith

pub offset_bounds-table-k : goal.offset_bounds-table-k
offset_bounds-table-k c =
    let l = c.loop-at.invariant in
    let t = fill-room l.1 (stepped l.0 c.in-Some.ensures.steps) in
    omega arith

pub bounds-table-k : goal.bounds-table-k
bounds-table-k c =
    let l = c.loop-at.invariant in
    (fill-room l.1 (stepped l.0 c.in-Some.ensures.steps)).1.1.1

pub loop-at-preserved : goal.loop-at-preserved
loop-at-preserved c =
    let l = c.loop-at.invariant in
    let s = c.in-Some.ensures.steps in
    (s.0 ∙ l.0, rw (s.1.0, s.1.1.1) (fill_step l.1 (stepped l.0 s)))

pub overflow_cast-table-2 : goal.overflow_cast-table-2
overflow_cast-table-2 c =
    let g = c.loop-at.invariant.1.front in
    omega (arith, g.count, g.short, lines-most c.args.page.now)

pub returns : goal.returns
returns c =
    let l = c.loop-at.invariant in
    let a = c.args in
    fill_end l.1 (stayed l.0 c.in-None.ensures.steps)
    ∙ sym (kept-some a.page.now a.table.now c.if-table-lt1.false)
