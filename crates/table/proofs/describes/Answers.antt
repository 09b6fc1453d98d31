use Prim.Native.Nat.{ℕ}
use mathlib.Core.Path.{sym, ap, ◌∙◌}
use native.Mathlib.Omega.{arith}
use lib.Dec.{eqb}
use Rattle.page.proofs.Walk.{stepped, stayed}
use Rattle.table.proofs.Index.{describes-none}
use Rattle.table.proofs.Compared.{compare-short, compare-other, compare-step, compare-end}
use Rattle.table.proofs.describes.Goals as goal
use Rattle.table.proofs.describes.Goals.{then-table-k-via-then-table-k, then-table-k-via-else-table-k+then-from-at}

pub returns-then-table-lt1 : goal.returns-then-table-lt1
returns-then-table-lt1 c = let a = c.args in sym (describes-none a.page.now a.table.now c.if-table-lt1.true)

pub returns-then-table-k : goal.returns-then-table-k
returns-then-table-k c =
    let l = c.loop-at.invariant in
    let s = c.in-Some.ensures.steps in
    let m = stepped l.0 s in
    elim c.then-table-k.branch [
      | then-table-k-via-then-table-k w ↦ compare-short l.1 m (omega arith)
      | then-table-k-via-else-table-k+then-from-at w ↦ compare-other l.1 m (omega arith) (λ f. w.if-from-at.true (w.from.ensures ∙ f ∙ sym s.1.0))
    ]

pub loop-at-preserved : goal.loop-at-preserved
loop-at-preserved c =
    let l = c.loop-at.invariant in
    let s = c.in-Some.ensures.steps in
    (s.0 ∙ l.0, rw s.1.1.1 (compare-step l.1 (stepped l.0 s) (omega arith) (sym c.from.ensures ∙ c.if-from-at.false ∙ s.1.0)))

pub returns : goal.returns
returns c =
    let l = c.loop-at.invariant in
    ap (λ (n : ℕ). eqb n c.loop-at.k) c.from-2.ensures ∙ compare-end l.1 (stayed l.0 c.in-None.ensures.steps)
