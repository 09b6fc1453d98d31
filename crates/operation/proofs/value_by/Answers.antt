-- `value_by` meets its contract: an arm for each code, and all others are operators. Assumes nothing.
use mathlib.Core.Path.{ap}
use borrow.Author.Tests.{ne_eqb}
use Rattle.nibl.specs.Values.{is}
use Rattle.operation.specs.Operations.{value_by}
use Rattle.operation.proofs.value_by.Goals as goal

pub returns-in-0 : goal.returns-in-0
unfolding value_by
returns-in-0 c = rw c.in-0.is

pub returns-in-1 : goal.returns-in-1
unfolding value_by
returns-in-1 c = rw c.in-1.is (ap is c.var_of.ensures)

pub returns-in-2 : goal.returns-in-2
unfolding value_by
returns-in-2 c = rw c.in-2.is (ap is c.stat_of.ensures)

pub returns-in-3 : goal.returns-in-3
unfolding value_by
returns-in-3 c = rw c.in-3.is (ap is c.used_of.ensures)

pub returns-in-4 : goal.returns-in-4
unfolding value_by
returns-in-4 c = rw c.in-4.is c.byte_of.ensures

pub returns-in-5 : goal.returns-in-5
unfolding value_by
returns-in-5 c = rw c.in-5.is (ap is c.invert.ensures)

pub returns-in-6 : goal.returns-in-6
unfolding value_by
returns-in-6 c = rw c.in-6.is (ap is c.negate.ensures)

pub returns-in-7 : goal.returns-in-7
unfolding value_by
returns-in-7 c = rw c.in-7.is c.modulo.ensures

pub returns-in_default : goal.returns-in_default
unfolding value_by
returns-in_default c =
    let r = c.in_default.in_default-own.rest in
    rw (ne_eqb _ _ r.0.0.0.0.0.0.0.1, ne_eqb _ _ r.0.0.0.0.0.0.1, ne_eqb _ _ r.0.0.0.0.0.1, ne_eqb _ _ r.0.0.0.0.1, ne_eqb _ _ r.0.0.0.1, ne_eqb _ _ r.0.0.1, ne_eqb _ _ r.0.1, ne_eqb _ _ r.1, ← c.operator.ensures)
    c.apply.ensures
