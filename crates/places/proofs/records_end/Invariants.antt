-- `records_end` meets its contract: the records that are left end where all of them do. Assumes nothing.
use Prim.Native.Nat.{◌-◌, ◌≤◌}
use mathlib.Core.Path.{◌≡◌}
use lib.ListN.{length, drop}
use Rattle.nibl.specs.found.Form.{records_in}
use Rattle.places.specs.Ends.{end_in}
use Rattle.places.proofs.records_end.Given as goal

abbrev pub invariant-loop : goal.invariant-loop
invariant-loop l =
    (l.at ≤ length l.s) × ((length l.ops ≡ 256) × (end_in l.s (records_in l.lim (l.count - l.counter) l.low (drop l.at l.s)) ≡ end_in l.s (records_in l.lim l.count 0 (drop l.from l.s))))
