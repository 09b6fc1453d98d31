-- `until_back` meets its contract: by the value, and then what is on top. Assumes nothing.
use mathlib.Core.Path.{◌≡◌, refl}
use mathlib.Core.Option.{none}
use Prim.Native.Nat.{ℕ}
use Rattle.std.specs.Prelude.{Option as Opt, Some, None}
use borrow.Author.Tests.{ne_eqb}
use Rattle.nibl.specs.Stack.{top_of}
use Rattle.nibl.specs.declared.Place.{Place}
use Rattle.world.specs.Turns.{back_of, until_back_on, until_back}
use Rattle.world.proofs.jump.until_back.Goals as goal

on-0 : (t : Opt Place) → back_of t ≡ until_back_on 0 t
unfolding until_back_on
on-0 None = refl
on-0 (Some p) = refl

off-0 : (x : ℕ) (t : Opt Place) → (x ≡ 0 → ⊥) → none ≡ until_back_on x t
unfolding until_back_on
off-0 x None h = refl
off-0 x (Some p) h = rw (ne_eqb x 0 h)

pub returns-then-x-eq0 : goal.returns-then-x-eq0
unfolding until_back
returns-then-x-eq0 c = rw (c.top.ensures, c.if-x-eq0.true) (on-0 (top_of c.args.stack))

pub returns-else-x-eq0 : goal.returns-else-x-eq0
unfolding until_back
returns-else-x-eq0 c = off-0 c.args.x (top_of c.args.stack) c.if-x-eq0.false
