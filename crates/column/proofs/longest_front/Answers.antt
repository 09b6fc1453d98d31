use mathlib.Core.Path.{refl, sym}
use native.Mathlib.Omega.{arith}
use Rattle.column.proofs.Fronts.{searching-down, searching-last}
use Rattle.column.proofs.longest_front.Goals as goal

pub loop-lo-preserved : goal.loop-lo-preserved
loop-lo-preserved c =
    let s = c.requires in
    let e = c.is_front.ensures in
    searching-down c.loop-lo.invariant s.0 s.1 c.copy_from_slice.ensures.after refl (omega arith) e.answer e.text e.size (sym c.if-is_front.false) (omega arith)

pub returns : goal.returns
returns c = searching-last c.loop-lo.invariant (omega arith)
