-- `text_members` is safe and ends: each member moves the position on.
use Rattle.std.proofs.Common.{length, ◌-◌}
use Rattle.rounds.proofs.text_members.Given as goal

abbrev pub decreases-loop-from : goal.decreases-loop-from
decreases-loop-from l = length l.text - l.from
