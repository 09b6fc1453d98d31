-- `refill` meets its contract: each turn adds the entry of the record that it is at. Assumes nothing.
use mathlib.Core.Path.{◌≡◌}
use Rattle.table.proofs.Fronts.{Filling}
use Rattle.table.proofs.refill.Given as goal

abbrev pub invariant-loop-at : goal.invariant-loop-at
invariant-loop-at l =
    (l.at-iterator.page.now ≡ l.page) × Filling l.page l.initial.table l.table l.k l.at-iterator.at
