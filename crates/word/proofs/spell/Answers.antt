use Rattle.std.proofs.Common.{arith, ◌∙◌, refl}
use Rattle.std.proofs.lemmas.List.{set-get_or}
use Rattle.word.proofs.Spelling.{spelling-turn, spelling-spelt}
use Rattle.word.proofs.spell.Goals as goal

pub loop-n-preserved : goal.loop-n-preserved
loop-n-preserved c = spelling-turn c.loop-n.invariant (omega arith) c.if-rest-eq0.false refl

pub returns-then-rest-eq0-clause-room : goal.returns-then-rest-eq0-clause-room
returns-then-rest-eq0-clause-room c = set-get_or c.loop-n.room c.loop-n.n 0 ∙ (spelling-spelt c.loop-n.invariant c.if-rest-eq0.true).1
