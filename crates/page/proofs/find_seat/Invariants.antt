-- `find_seat` meets its contract: each record walked over has a lower number. Assumes nothing.
-- what a turn knows of the record that it is at
-- a seat that a turn finds at the record that it is at
use Prim.Native.Nat.{◌+◌, ◌-◌}
use mathlib.Core.Path.{◌≡◌}
use lib.ListN.{length, drop}
use Rattle.nibl.specs.Page.{records_of, used_by, used}
use Rattle.page.specs.Edits.{seat_in, seat_of}
use Rattle.page.specs.Walk.{cut}
use Rattle.page.proofs.find_seat.Given as goal

abbrev pub invariant-loop-line : goal.invariant-loop-line
invariant-loop-line l =
    (seat_in l.n (cut l.page l.at) (records_of (drop l.at l.page)) ≡ seat_of l.page l.n) × (cut l.page l.at + used_by (records_of (drop l.at l.page)) ≡ used l.page)

abbrev pub decreases-loop-line : goal.decreases-loop-line
decreases-loop-line l = length l.page + 256 - l.at
