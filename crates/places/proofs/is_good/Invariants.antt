-- `is_good` meets its contract: each record passed leaves the page as good as it is from there on. Assumes nothing.
use Prim.Native.Nat.{◌-◌, ◌≤◌}
use mathlib.Core.Path.{◌≡◌}
use lib.ListN.{length, drop}
use Rattle.nibl.specs.Page.{is_good}
use Rattle.places.proofs.Checks.{good_from}
use Rattle.places.proofs.is_good.Given as goal

abbrev pub invariant-loop-ops : goal.invariant-loop-ops
invariant-loop-ops l =
    (l.at ≤ length l.page) × ((length l.ops ≡ 256) × (good_from l.lim l.low (drop l.at l.page) ≡ is_good l.lim l.page))

abbrev pub decreases-loop-ops : goal.decreases-loop-ops
decreases-loop-ops l = length l.page - l.at
