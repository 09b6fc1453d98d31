-- The loop's invariant: what is left of the list decides as the whole list does. Assumes nothing.
use Prim.Native.Nat.{◌≤◌, ◌-◌}
use mathlib.Core.Path.{◌≡◌}
use mathlib.Core.Bool.{false}
use lib.ListN.{length, drop}
use Rattle.nibl.specs.found.Read.{reading}
use Rattle.line.specs.Answers.{members_of}
use Rattle.line.proofs.members.Given as goal

abbrev pub invariant-loop-left : goal.invariant-loop-left
invariant-loop-left l =
    (l.at ≤ length l.text) × (length l.ops ≡ length l.initial.ops) × (members_of false (length l.text) l.p (reading l.text) ≡ members_of l.met (length l.text) l.p (reading (drop l.at l.text)))

abbrev pub decreases-loop-left : goal.decreases-loop-left
decreases-loop-left l = length l.text - l.at
