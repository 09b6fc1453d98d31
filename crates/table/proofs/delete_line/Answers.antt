-- `delete_line` meets its contract: the seat is the line's, and the table is filled from there on. Assumes nothing.
use mathlib.Core.List.{List}
use mathlib.Core.Path.{◌≡◌, sym, ap, subst, ◌∙◌}
use Prim.Native.Nat.{ℕ}
use lib.ListN.{take}
use Rattle.nibl.specs.Page.{records_of}
use Rattle.page.specs.Edits.{delete_at, delete_of}
use Rattle.page.proofs.Ways.{Way}
use Rattle.page.proofs.Determined.{page-is}
use Rattle.table.specs.Spots.{below}
use Rattle.table.proofs.Index.{described}
use Rattle.table.proofs.Fronts.{delete-way, seat-way, edit-front}
use Rattle.table.proofs.delete_line.Goals as goal

pub refill-requires : goal.refill-requires
refill-requires c =
    λ h. let a = c.args in
    let spot = c.find_spot-index.result in
    let at = c.find_spot-index.ensures in
    let page = a.page.now in
    let n = a.number.0 in
    let is : c.delete_at-edited.new.page ≡ (delete_at page spot.seat).page = sym (page-is c.delete_at-edited.new.page c.delete_at-edited.result) ∙ (λ i. (c.delete_at-edited.ensures i).page) in
    edit-front n spot.index spot.seat (described c.requires h) c.delete_at-edited.auto.page (at.index h)
    (subst (λ (p : List ℕ). Way p 0 spot.seat.at (take (below n (records_of page)) (records_of page))) (sym is) (delete-way page spot.seat at.seated.sits (seat-way at.seated)))

pub returns : goal.returns
unfolding delete_of
returns c =
    let a = c.args in
    record { result_after = c.delete_at-edited.ensures ∙ ap (delete_at a.page.now) c.find_spot-index.ensures.seated.is; table_after = c.refill.ensures }
