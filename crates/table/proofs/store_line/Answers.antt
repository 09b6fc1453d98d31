-- `store_line` meets its contract: the seat is the line's, and the table is filled from there on. Assumes nothing.
use mathlib.Core.List.{List}
use mathlib.Core.Path.{◌≡◌, sym, ap, subst, ◌∙◌}
use Prim.Native.Nat.{ℕ}
use lib.ListN.{take}
use Rattle.nibl.specs.Page.{records_of}
use Rattle.page.specs.declared.Seat.{Seat}
use Rattle.page.specs.Edits.{store_at_seat, store_of}
use Rattle.page.proofs.Ways.{Way}
use Rattle.page.proofs.Determined.{page-is}
use Rattle.table.specs.Spots.{below}
use Rattle.table.proofs.Index.{described}
use Rattle.table.proofs.Fronts.{store-way, seat-way, edit-front}
use Rattle.table.proofs.store_line.Goals as goal

pub refill-requires : goal.refill-requires
refill-requires c =
    λ h. let a = c.args in
    let spot = c.find_spot-index.result in
    let at = c.find_spot-index.ensures in
    let page = a.page.now in
    let n = a.number.0 in
    let is : c.store_at-edited.new.page ≡ (store_at_seat page spot.seat n a.text.now).page = sym (page-is c.store_at-edited.new.page c.store_at-edited.result) ∙ (λ i. (c.store_at-edited.ensures i).page) in
    edit-front n spot.index spot.seat (described c.requires h) c.store_at-edited.auto.page (at.index h)
    (subst (λ (p : List ℕ). Way p 0 spot.seat.at (take (below n (records_of page)) (records_of page))) (sym is) (store-way page spot.seat at.seated.sits (seat-way at.seated) n a.text.now))

pub returns : goal.returns
unfolding store_of
returns c =
    let a = c.args in
    record { result_after = c.store_at-edited.ensures ∙ ap (λ (s : Seat). store_at_seat a.page.now s a.number.0 a.text.now) c.find_spot-index.ensures.seated.is; table_after = c.refill.ensures }
