use Prim.Native.Nat.{ℕ, ◌+◌, ◌-◌}
use mathlib.Core.Path.{◌≡◌, ap, ◌∙◌}
use mathlib.Core.List.{List}
use native.Mathlib.Omega.{arith}
use lib.ListN.{length-set, drop, get_or, set}
use lib.Seq.{paste}
use Rattle.page.proofs.Moves.{right-step}
use Rattle.page.proofs.move_right.Goals as goal

pub loop-i-preserved : goal.loop-i-preserved
loop-i-preserved c =
    let l = c.loop-i in
    let a = c.args in
    let j : ℕ = l.i - 1 in
    let e : l.i ≡ j + 1 = omega arith in
    let k : a.n - l.i + 1 ≡ a.n - j = omega arith in (
      length-set l.s (a.to + j) (get_or l.s (a.from + j) 0) ∙ l.invariant.0,
      ap (λ (x : List ℕ). set x (a.to + j) (get_or x (a.from + j) 0))
          (l.invariant.1 ∙ ap (λ (i : ℕ). paste a.s.now (a.to + i) (drop (a.from + i) a.s.now) (a.n - l.i)) e)
          ∙ right-step a.s.now a.from a.to j (a.n - l.i) (omega arith) (omega arith)
          ∙ ap (λ (m : ℕ). paste a.s.now (a.to + j) (drop (a.from + j) a.s.now) m) k,
    )
