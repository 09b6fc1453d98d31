-- `rules::seek` meets its contract: each way out is a law of Turns. Assumes nothing.
use Rattle.column.proofs.Turns.{Seeking}
use Rattle.column.proofs.rules.seek.Given as goal

abbrev pub invariant-loop-at : goal.invariant-loop-at
invariant-loop-at l = Seeking l.stack l.top l.k l.at
