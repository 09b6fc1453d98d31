-- `do_here` meets its contract. Assumes nothing.
use Rattle.world.specs.Turns.{do_turn}
use Rattle.world.proofs.jump.do_here.Goals as goal

pub returns : goal.returns
unfolding do_turn
returns c = c.keep.ensures
