-- `is_place` meets its contract: the position lies past each record walked over, so it is a place by those that are left. Assumes nothing.
use Prim.Native.Nat.{◌≤◌}
use mathlib.Core.Path.{◌≡◌}
use lib.ListN.{drop}
use Rattle.nibl.specs.Page.{records_of, places_in, places_of, is_among}
use Rattle.places.proofs.is_place.Given as goal

abbrev pub invariant-loop-at : goal.invariant-loop-at
invariant-loop-at l =
    let at = l.at-iterator.at in
    (l.at-iterator.page.now ≡ l.page) × ((at ≤ l.p) × (is_among (places_in at (records_of (drop at l.page))) l.p ≡ is_among (places_of l.page) l.p))
