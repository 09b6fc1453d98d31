-- `until` meets its contract: by what is on top, then by the value. Assumes nothing.
use mathlib.Core.Path.{ap}
use borrow.Author.Tests.{eq-eqb, ne_eqb}
use Rattle.nibl.specs.declared.Popped.{Popped}
use Rattle.nibl.specs.declared.Place.{Place}
use Rattle.nibl.specs.declared.PlaceStack.{PlaceStack}
use Rattle.world.specs.Turns.{until_on, until_turn}
use Rattle.world.proofs.jump.until.Goals as goal

pub returns-in-None : goal.returns-in-None
unfolding until_on until_turn
returns-in-None c = rw (← ap (λ (p : Popped PlaceStack Place). p.top) c.pop-popped.ensures, c.in-None.is)

pub returns-in-Some : goal.returns-in-Some
unfolding until_on until_turn
returns-in-Some c = rw (← ap (λ (p : Popped PlaceStack Place). p.top) c.pop-popped.ensures, c.in-Some.is, eq-eqb _ _ c.if-x-eq0.true, c.go_past.ensures)

pub returns-in-Some-2 : goal.returns-in-Some-2
unfolding until_on until_turn
returns-in-Some-2 c =
    rw (← ap (λ (p : Popped PlaceStack Place). p.top) c.pop-popped.ensures, c.in-Some.is, ne_eqb _ _ c.if-x-eq0.false, c.pop-popped.ensures)
