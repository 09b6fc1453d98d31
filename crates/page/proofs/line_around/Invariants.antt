-- `line_around` meets its contract: the position lies past each record walked over. Assumes nothing.
use Prim.Native.Nat.{◌-◌, ◌≤◌}
use mathlib.Core.Path.{◌≡◌}
use lib.ListN.{drop}
use Rattle.nibl.specs.Page.{records_of, line_in, line_of}
use Rattle.page.proofs.line_around.Given as goal

abbrev pub invariant-loop-at : goal.invariant-loop-at
invariant-loop-at l =
    let at = l.at-iterator.at in
    (l.at-iterator.page.now ≡ l.page)
    × ((at ≤ l.p) × (line_in (l.p - at) (records_of (drop at l.page)) ≡ line_of l.page l.p))
