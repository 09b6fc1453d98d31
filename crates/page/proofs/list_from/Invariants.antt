-- `list_from` meets its contract: each record walked over is listed or passed over. Assumes nothing.
use mathlib.Core.Path.{◌≡◌}
use lib.ListN.{length, drop}
use Rattle.nibl.specs.Page.{records_of}
use Rattle.page.specs.Listing.{listing}
use Rattle.page.proofs.list_from.Given as goal

abbrev pub invariant-loop-at : goal.invariant-loop-at
invariant-loop-at l =
    (l.at-iterator.page.now ≡ l.page)
    × ((length l.output ≡ length l.initial.output)
    × (listing l.n (records_of (drop l.at-iterator.at l.page)) l.output l.pos ≡ listing l.n (records_of l.page) l.initial.output l.from))
