use Prim.Native.Nat.{ℕ, ◌+◌}
use mathlib.Core.Path.{ap, ◌∙◌}
use mathlib.Core.List.{List}
use native.Mathlib.Omega.{arith}
use lib.ListN.{length-set, get_or, set}
use Rattle.page.proofs.Moves.{left_step}
use Rattle.page.proofs.move_left.Goals as goal

pub loop-i-preserved : goal.loop-i-preserved
loop-i-preserved c =
    let l = c.loop-i in
    let a = c.args in (
      length-set l.s (a.to + l.i) (get_or l.s (a.from + l.i) 0) ∙ l.invariant.0,
      ap (λ (x : List ℕ). set x (a.to + l.i) (get_or x (a.from + l.i) 0)) l.invariant.1
          ∙ left_step a.s.now a.from a.to l.i (omega arith) (omega arith),
    )
