-- `used_from` meets its contract: each record walked over leaves the sum of what was passed and what is in use from there on. Assumes nothing.
-- what a turn knows of the record that it is at
use Prim.Native.Nat.{◌+◌, ◌-◌}
use mathlib.Core.Path.{◌≡◌}
use lib.ListN.{length, drop}
use Rattle.nibl.specs.Page.{used_by, records_of}
use Rattle.page.specs.Walk.{cut}
use Rattle.page.proofs.used_from.Given as goal

abbrev pub invariant-loop-at : goal.invariant-loop-at
invariant-loop-at l = cut l.page l.at + used_by (records_of (drop l.at l.page)) ≡ l.from + used_by (records_of (drop l.from l.page))

abbrev pub decreases-loop-at : goal.decreases-loop-at
decreases-loop-at l = length l.page + 256 - l.at
