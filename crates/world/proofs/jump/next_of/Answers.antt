-- `next_of` meets its contract: by the FOR that was found, then by the count. Assumes nothing.
use Rattle.world.specs.Turns.{stepped_on}
use Rattle.world.proofs.jump.Fors.{found, not-found}
use Rattle.world.proofs.jump.next_of.Goals as goal

pub returns-in-Err : goal.returns-in-Err
returns-in-Err c =
    let a = c.args in
    rw (not-found a.stack a.vars.now a.v (rw c.in-Err.is at c.for_of.ensures)).0

pub returns-then-add_step : goal.returns-then-add_step
unfolding stepped_on
returns-then-add_step c =
    let a = c.args in
    rw ((found a.stack a.vars.now a.v (rw c.in-Ok.is at c.for_of.ensures)).0, ← c.add_step.ensures, c.if-add_step.true, c.go_past.ensures)

pub returns : goal.returns
unfolding stepped_on
returns c =
    let a = c.args in
    rw ((found a.stack a.vars.now a.v (rw c.in-Ok.is at c.for_of.ensures)).0, ← c.add_step.ensures, c.if-add_step.false, c.pop.ensures)
