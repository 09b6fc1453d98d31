-- `word::letters` meets its contract: each answer is a law of Capitals. Assumes nothing.
use Rattle.word.specs.Found.{spellings_of}
use Rattle.word.proofs.Capitals.{Tried}
use Rattle.word.proofs.letters.Given as goal

abbrev pub invariant-loop-to : goal.invariant-loop-to
invariant-loop-to l = Tried (spellings_of l.commands) l.text l.from l.to
