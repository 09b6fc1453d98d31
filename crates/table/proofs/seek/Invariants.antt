-- `seek` meets its contract: the lines below the number are at least lo and at most hi, and each turn halves what is between. Assumes nothing.
-- a turn looks at a line, which is among those not told apart, and for which the table has an entry
use Prim.Native.Nat.{◌-◌, ◌≤◌}
use lib.ListN.{length}
use Rattle.nibl.specs.Page.{records_of}
use Rattle.table.specs.Spots.{below}
use Rattle.table.proofs.seek.Given as goal

abbrev pub invariant-loop-lo : goal.invariant-loop-lo
invariant-loop-lo l =
    (l.lo ≤ below l.n (records_of l.page)) × ((below l.n (records_of l.page) ≤ l.hi) × (l.hi ≤ length (records_of l.page)))

abbrev pub decreases-loop-lo : goal.decreases-loop-lo
decreases-loop-lo l = l.hi - l.lo
