-- `describes` meets its contract: each turn compares the entry of the record that it is at. Assumes nothing.
use mathlib.Core.Path.{◌≡◌}
use Rattle.table.proofs.Compared.{Compared}
use Rattle.table.proofs.describes.Given as goal

abbrev pub invariant-loop-at : goal.invariant-loop-at
invariant-loop-at l = (l.at-iterator.page.now ≡ l.page) × Compared l.page l.table l.k l.at-iterator.at
