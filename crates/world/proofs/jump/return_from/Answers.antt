-- `return_from` meets its contract: by what was on top. Assumes nothing.
use mathlib.Core.Path.{ap}
use Rattle.nibl.specs.declared.Place.{Place}
use Rattle.nibl.specs.declared.PlaceStack.{PlaceStack}
use Rattle.nibl.specs.declared.Popped.{Popped}
use Rattle.world.specs.Turns.{return_on, return_turn}
use Rattle.world.proofs.jump.return_from.Goals as goal

pub returns-in-None : goal.returns-in-None
unfolding return_on return_turn
returns-in-None c = rw (← ap (λ (p : Popped PlaceStack Place). p.top) c.pop-popped.ensures, c.in-None.is)

pub returns-in-Some : goal.returns-in-Some
unfolding return_on return_turn
returns-in-Some c =
    rw (← ap (λ (p : Popped PlaceStack Place). p.top) c.pop-popped.ensures, c.in-Some.is, c.pop-popped.ensures, c.after.ensures)
