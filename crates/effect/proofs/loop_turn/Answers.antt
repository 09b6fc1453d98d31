-- `loop_turn` meets its contract, by the code. Assumes nothing.
use borrow.Author.Tests.{eq-eqb, ne_eqb}
use Rattle.codes.specs.Codes.{code_do}
use Rattle.effect.specs.Acts.{loop_turn}
use Rattle.effect.proofs.loop_turn.Goals as goal

pub returns-then-code-eq-DO : goal.returns-then-code-eq-DO
unfolding loop_turn
returns-then-code-eq-DO c = rw (eq-eqb c.args.code code_do c.if-code-eq-DO.true) c.do_here.ensures

pub returns : goal.returns
unfolding loop_turn
returns c = rw (ne_eqb c.args.code code_do c.if-code-eq-DO.false) c.until.ensures
