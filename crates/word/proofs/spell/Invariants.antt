-- `word::spell` meets its contract. The loop's invariant: `Spelling`. Assumes nothing.
use Rattle.word.proofs.Spelling.{Spelling}
use Rattle.word.proofs.spell.Given as goal

abbrev pub invariant-loop-n : goal.invariant-loop-n
invariant-loop-n l = Spelling l.initial.room l.k l.room l.rest l.n
