-- `column::begun_in` meets its contract: spelling by spelling. Assumes nothing.
use Rattle.column.proofs.Fronts.{Trying}
use Rattle.column.proofs.begun_in.Given as goal

abbrev pub invariant-loop-key : goal.invariant-loop-key
invariant-loop-key l = Trying l.initial.text l.n l.keys l.initial.stack l.text l.stack l.key-index
