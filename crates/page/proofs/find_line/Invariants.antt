-- `find_line` meets its contract: each record walked over was not the line's, so the position is that of the records that are left. Assumes nothing.
-- what a turn knows of the record that it is at
use Prim.Native.Nat.{◌+◌, ◌-◌}
use mathlib.Core.Path.{◌≡◌}
use lib.ListN.{length, drop}
use Rattle.nibl.specs.Page.{records_of, position_in, find}
use Rattle.page.specs.Walk.{cut}
use Rattle.page.proofs.find_line.Given as goal

abbrev pub invariant-loop-n : goal.invariant-loop-n
invariant-loop-n l = position_in l.n (cut l.page l.at) (records_of (drop l.at l.page)) ≡ find l.page l.n

abbrev pub decreases-loop-n : goal.decreases-loop-n
decreases-loop-n l = length l.page + 256 - l.at
