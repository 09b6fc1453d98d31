-- `members` is safe and ends: a record a turn.
use Rattle.std.proofs.Common.{length, ◌-◌, ◌≤◌}
use Rattle.rounds.proofs.members.Given as goal

abbrev pub invariant-loop-size : goal.invariant-loop-size
invariant-loop-size l = l.at ≤ length l.page

abbrev pub decreases-loop-size : goal.decreases-loop-size
decreases-loop-size l = length l.page - l.at
