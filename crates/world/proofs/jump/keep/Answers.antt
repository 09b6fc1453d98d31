-- `keep` meets its contract: as the push went. Assumes nothing.
use mathlib.Core.Bool.{true, false}
use mathlib.Core.Path.{◌≡◌, ap}
use native.Mathlib.Omega.{arith}
use lib.Dec.{ltb}
use Rattle.std.specs.Prelude.{Err}
use Rattle.nibl.specs.Stack.{Pushed, pushed_of, push_of}
use Rattle.nibl.specs.declared.PlaceStack.{PlaceStack}
use Rattle.nibl.specs.declared.Place.{Place}
use Rattle.page.proofs.Walk.{by_cases}
use Rattle.world.specs.Turns.{keep_turn}
use Rattle.world.proofs.jump.keep.Goals as goal

-- a full stack comes back as it was
handed-back : (s t : PlaceStack) (x : Place) → pushed_of (Err t) ≡ push_of s x → t ≡ s
handed-back s t x e =
    by_cases (ltb s.depth 8)
    (λ h. let f : false ≡ true = ap (λ (p : Pushed PlaceStack). p.ok) (rw h at e) in grind arith)
    (λ h. ap (λ (p : Pushed PlaceStack). p.stack) (rw h at e))

pub returns-in-Ok : goal.returns-in-Ok
unfolding keep_turn
returns-in-Ok c = rw (← c.push.ensures, c.in-Ok.is)

pub returns-in-Err : goal.returns-in-Err
unfolding keep_turn
returns-in-Err c = rw (← c.push.ensures, c.in-Err.is, handed-back c.args.stack c.in-Err.stack _ (rw c.in-Err.is at c.push.ensures))
