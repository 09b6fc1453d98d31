-- `add_step` meets its contract: the sum is stored, then compared. Assumes nothing.
use Rattle.world.specs.Turns.{adds_step}
use Rattle.world.proofs.jump.add_step.Goals as goal

pub returns : goal.returns
unfolding adds_step
returns c = rw (c.goes_on.ensures, c.set_var.ensures, c.add-x.ensures, c.var_of-old.ensures, c.from-var.ensures)
