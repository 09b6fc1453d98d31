-- `next_back` meets its contract: by the FOR that was found, then by the count. Assumes nothing.
use Rattle.std.specs.Prelude.{None, Result as Res, Ok, Err}
use Rattle.std.specs.Result.{result_ok}
use Prim.Native.Nat.{ℕ}
use mathlib.Core.Path.{◌≡◌}
use mathlib.Core.List.{List}
use mathlib.Core.Option.{none}
use native.Mathlib.Omega.{arith}
use Rattle.nibl.specs.declared.stop.Stop.{Stop}
use Rattle.nibl.specs.declared.ForEntry.{ForEntry}
use Rattle.nibl.specs.declared.ForStack.{ForStack}
use Rattle.world.specs.Turns.{found_for, for_of, adds_step, back_by, next_back, backed_to}
use Rattle.world.proofs.jump.Fors.{found, not-found}
use Rattle.world.proofs.jump.next_back.Goals as goal

nothing : (s : ForStack) (vars : List ℕ) (v : ℕ) (r : Res ForEntry Stop) → found_for r ≡ for_of s v → None ≡ result_ok r → next_back s vars v ≡ backed_to none vars
nothing s vars v (Ok f) e h = grind arith
nothing s vars v (Err n) e h = (not-found s vars v e).1

pub returns-in_err-entry : goal.returns-in_err-entry
returns-in_err-entry c =
    let a = c.args in
    rw (c.from_residual.ensures, nothing a.stack a.vars.now a.v c.for_of.result c.for_of.ensures c.in_err-entry.ensures.value)

pub returns-then-not-goes_on : goal.returns-then-not-goes_on
unfolding adds_step back_by
returns-then-not-goes_on c =
    let a = c.args in
    let t : c.for_of.result ≡ Ok c.in_ok-entry.entry = grind arith in
    rw ((found a.stack a.vars.now a.v (rw t at c.for_of.ensures)).1, ← c.from-var.ensures, ← c.var_of.ensures, ← c.add-sum.ensures, ← c.goes_on.ensures, c.if-not-goes_on.true)

pub returns : goal.returns
unfolding adds_step back_by
returns c =
    let a = c.args in
    let t : c.for_of.result ≡ Ok c.in_ok-entry.entry = grind arith in
    rw ((found a.stack a.vars.now a.v (rw t at c.for_of.ensures)).1, ← c.from-var.ensures, ← c.var_of.ensures, ← c.add-sum.ensures, ← c.goes_on.ensures, c.if-not-goes_on.false, c.set_var.ensures, c.from-var.ensures)
