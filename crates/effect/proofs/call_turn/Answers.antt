-- `call_turn` meets its contract, by the code. Assumes nothing.
use borrow.Author.Tests.{eq-eqb, ne_eqb}
use Rattle.codes.specs.Codes.{code_gosub}
use Rattle.effect.specs.Acts.{call_turn}
use Rattle.effect.proofs.call_turn.Goals as goal

pub returns-then-code-eq-GOSUB : goal.returns-then-code-eq-GOSUB
unfolding call_turn
returns-then-code-eq-GOSUB c = rw (eq-eqb c.args.code code_gosub c.if-code-eq-GOSUB.true) c.go_sub.ensures

pub returns : goal.returns
unfolding call_turn
returns c = rw (ne_eqb c.args.code code_gosub c.if-code-eq-GOSUB.false) c.return_from.ensures
