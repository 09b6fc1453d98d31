-- `for_here` meets its contract: as the push went. Assumes nothing.
use mathlib.Core.Bool.{true, false}
use mathlib.Core.Path.{◌≡◌, ap}
use native.Mathlib.Omega.{arith}
use lib.Dec.{ltb}
use Rattle.std.specs.Prelude.{Err}
use Rattle.nibl.specs.Stack.{Pushed, pushed_of, push_for}
use Rattle.nibl.specs.declared.ForStack.{ForStack}
use Rattle.nibl.specs.declared.ForEntry.{ForEntry}
use Rattle.page.proofs.Walk.{by_cases}
use Rattle.world.specs.Turns.{for_turn}
use Rattle.world.proofs.jump.for_here.Goals as goal

-- a full stack comes back as it was
handed-back : (s t : ForStack) (x : ForEntry) → pushed_of (Err t) ≡ push_for s x → t ≡ s
handed-back s t x e =
    by_cases (ltb s.depth 4)
    (λ h. let f : false ≡ true = ap (λ (p : Pushed ForStack). p.ok) (rw h at e) in grind arith)
    (λ h. ap (λ (p : Pushed ForStack). p.stack) (rw h at e))

pub returns-in-Ok : goal.returns-in-Ok
unfolding for_turn
returns-in-Ok c = rw (← c.push.ensures, c.in-Ok.is, c.set_var.ensures, c.from.ensures)

pub returns-in-Err : goal.returns-in-Err
unfolding for_turn
returns-in-Err c = rw (← c.push.ensures, c.in-Err.is, handed-back c.args.stack c.in-Err.stack _ (rw c.in-Err.is at c.push.ensures))
