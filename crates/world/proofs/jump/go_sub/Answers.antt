-- `go_sub` meets its contract: the line first, then the push. Assumes nothing.
use Rattle.world.specs.Turns.{gosub_turn}
use Rattle.world.proofs.jump.go_sub.Goals as goal

pub returns-in-None : goal.returns-in-None
unfolding gosub_turn
returns-in-None c = rw (← c.find_line.ensures, c.in-None.is)

pub returns-in-Some : goal.returns-in-Some
unfolding gosub_turn
returns-in-Some c = rw (← c.find_line.ensures, c.in-Some.is) c.keep.ensures
