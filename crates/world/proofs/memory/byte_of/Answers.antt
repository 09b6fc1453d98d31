-- `byte_of` meets its contract: all ways out are the definition's. Assumes nothing.
use Rattle.std.specs.Prelude.{Some, None}
use Rattle.std.proofs.lemmas.Grind.{get_or_default_zero}
use Rattle.std.proofs.lemmas.Result.{err_from_is_err_and}
use mathlib.Core.Path.{◌≡◌, sym, ap, ◌∙◌}
use native.Mathlib.Omega.{arith}
use borrow.Author.Tests.{ltb-true}
use Rattle.nibl.specs.Values.{is}
use Rattle.nibl.specs.Meaning.{byte_of}
use Rattle.world.proofs.memory.byte_of.Goals as goal

pub returns-in_err-byte : goal.returns-in_err-byte
unfolding byte_of
returns-in_err-byte c =
    let p = err_from_is_err_and c.from_residual.result c.from_residual.ensures.1 in
    let t : c.get.result ≡ None = grind arith in
    let e : c.in_err-byte.field-0.0.0 ≡ 16 = grind arith in
    rw (p.1, p.2, ← c.from-at.ensures, ← (rw t at c.get.ensures.lookup).0, e)

pub returns-then-not-may_read : goal.returns-then-not-may_read
unfolding byte_of
returns-then-not-may_read c =
    let t : c.get.result ≡ Some c.in_ok-byte.byte = grind arith in
    rw (← c.from-at.ensures, ← (rw t at c.get.ensures.lookup).0, sym c.may_read.ensures ∙ c.if-not-may_read.true)

pub returns : goal.returns
unfolding byte_of
returns c =
    let t : c.get.result ≡ Some c.in_ok-byte.byte = grind arith in
    let x = rw t at c.get.ensures.lookup in
    rw (← c.from-at.ensures, ← x.0, sym c.may_read.ensures ∙ c.if-not-may_read.false, c.from.ensures)
    (ap is (x.1 ∙ get_or_default_zero c.args.memory.now c.from-at.result c.in_ok-byte.byte.now (ltb-true _ _ (sym x.0))))
