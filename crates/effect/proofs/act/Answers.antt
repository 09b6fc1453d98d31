-- `act` meets its contract, by the code. Assumes nothing.
use mathlib.Core.Path.{ap}
use borrow.Author.Tests.{ne_eqb}
use Rattle.codes.specs.Codes.{code_set_variable, code_if, code_goto, code_until, code_next}
use Rattle.effect.specs.Acts.{act_by, back_acted}
use Rattle.effect.proofs.act.Goals as goal

pub returns-in-16 : goal.returns-in-16
unfolding act_by
returns-in-16 c = rw (c.in-16.is, c.set_var.ensures)

pub returns-in-30 : goal.returns-in-30
unfolding act_by
returns-in-30 c = rw (c.in-30.is, c.if_way.ensures)

pub returns-in-22 : goal.returns-in-22
unfolding act_by
returns-in-22 c = rw (c.in-22.is, c.go_to.ensures)

pub returns-in-32 : goal.returns-in-32
unfolding act_by
returns-in-32 c = rw (c.in-32.is, c.back_ends.ensures, c.until_back.ensures)

pub returns-in-34 : goal.returns-in-34
unfolding act_by
returns-in-34 c =
    rw (c.in-34.is, c.back_ends-in-34.ensures)
    (ap back_acted (rw c.low_byte.ensures at c.next_back.ensures))

pub returns-in_default : goal.returns-in_default
unfolding act_by
returns-in_default c =
    let k = c.in_default.in_default-own.rest in
    let n = c.args.code in
    rw (ne_eqb n code_set_variable k.0.0.0.0.1, ne_eqb n code_if k.0.0.0.1, ne_eqb n code_goto k.0.0.1, ne_eqb n code_until k.0.1, ne_eqb n code_next k.1)
