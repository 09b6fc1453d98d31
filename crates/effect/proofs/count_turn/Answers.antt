-- `count_turn` meets its contract, by the code. Assumes nothing.
use borrow.Author.Tests.{eq-eqb, ne_eqb}
use Rattle.codes.specs.Codes.{code_for}
use Rattle.effect.specs.Acts.{count_turn}
use Rattle.effect.proofs.count_turn.Goals as goal

pub returns-then-code-eq-FOR : goal.returns-then-code-eq-FOR
unfolding count_turn
returns-then-code-eq-FOR c =
    rw (eq-eqb c.args.code code_for c.if-code-eq-FOR.true)
    (rw c.low_byte.ensures at c.for_here.ensures)

pub returns : goal.returns
unfolding count_turn
returns c =
    rw (ne_eqb c.args.code code_for c.if-code-eq-FOR.false)
    (rw c.low_byte-2.ensures at c.next_of.ensures)
