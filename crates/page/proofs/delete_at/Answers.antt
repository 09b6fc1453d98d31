-- `delete_at` meets its contract: the part after the record moves to its seat. Assumes nothing.
use Prim.Native.Nat.{ℕ, ◌-◌}
use mathlib.Core.List.{List, []}
use mathlib.Core.Path.{◌≡◌, ap, ◌∙◌}
use native.Mathlib.Omega.{arith}
use lib.ListN.{length, take, drop}
use Rattle.nibl.specs.Page.{used}
use Rattle.page.specs.Edits.{spliced, changed}
use Rattle.page.specs.declared.Edited.TheVariants as edited
use Rattle.page.proofs.Edits.{delete-absent, delete-endless, delete-done}
use Rattle.page.proofs.Moves.{part-spliced, front-spliced}
use Rattle.page.proofs.delete_at.Goals as goal

pub returns-then-gone-eq0 : goal.returns-then-gone-eq0
returns-then-gone-eq0 c = delete-absent c.args.page.now c.args.seat (omega arith)

-- the used bytes of the whole page, which the walk from the seat on gives
pub returns-then-page-top : goal.returns-then-page-top
returns-then-page-top c =
    let a = c.args in
    let k : c.used_from-top.result ≡ used a.page.now = c.used_from-top.ensures ∙ c.requires.rest in
    delete-endless a.page.now a.seat (omega arith) (omega arith)

pub returns : goal.returns
returns c =
    let a = c.args in
    let h = c.requires in
    let k : c.used_from-top.result ≡ used a.page.now = c.used_from-top.ensures ∙ c.requires.rest in
    let s = a.seat in
    let x = c.used_from-top.result in
    let q = take (length a.page.now - s.at) (drop s.at a.page.now) in
    ap (λ (l : List ℕ). changed l edited.Done)
    (part-spliced a.page.now [] c.shift.new.s s.at s.gone x (omega arith) (c.shift.ensures ∙ front-spliced q [] s.gone (x - s.at))
    ∙ ap (λ (n : ℕ). spliced a.page.now s.at s.gone n []) k)
    ∙ delete-done a.page.now s (omega arith) (omega arith)
