-- `for_of` meets its contract: by what is on top, then by its variable. Assumes nothing.
use Rattle.std.specs.Prelude.{Option as Opt, Some, None, Result as Res, Err}
use Rattle.std.specs.Option.{ok_or}
use Rattle.std.proofs.lemmas.Result.{err_from_is_err_and}
use Prim.Native.Nat.{ℕ}
use mathlib.Core.Path.{◌≡◌, ap}
use native.Mathlib.Omega.{arith}
use borrow.Author.Tests.{eq-eqb, ne_eqb}
use Rattle.nibl.specs.Values.{no}
use Rattle.nibl.specs.declared.stop.Stop.{Stop}
use Rattle.nibl.specs.declared.ForEntry.{ForEntry}
use Rattle.world.specs.Turns.{found_for, for_on, for_of}
use Rattle.world.proofs.jump.for_of.Goals as goal

nothing : (v : ℕ) (t : Opt ForEntry) (s : Stop) → Err s ≡ ok_or t (record { 0 = 11 }) → no s.0 ≡ for_on v t
nothing v None s e = ap (λ (r : Res ForEntry Stop). found_for r) e
nothing v (Some f) s e = grind arith

pub returns-in_err-entry : goal.returns-in_err-entry
unfolding for_of
returns-in_err-entry c =
    let p = err_from_is_err_and c.from_residual.result c.from_residual.ensures.1 in
    rw (p.1, p.2, ← c.top.ensures) (nothing c.args.v c.top.result c.in_err-entry.field-0.0 c.in_err-entry.ensures.value)

pub returns-then-entry-v : goal.returns-then-entry-v
unfolding for_of
returns-then-entry-v c =
    let t : c.top.result ≡ Some c.in_ok-entry.entry = grind arith in
    rw (← c.top.ensures, t, ne_eqb _ _ c.if-entry-v.true)

pub returns : goal.returns
unfolding for_of
returns c =
    let t : c.top.result ≡ Some c.in_ok-entry.entry = grind arith in
    rw (← c.top.ensures, t, eq-eqb _ _ c.if-entry-v.false)
