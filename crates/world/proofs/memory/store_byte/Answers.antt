-- `store_byte` meets its contract: a store of one byte. Assumes nothing.
use Rattle.std.proofs.lemmas.Result.{err_from_is_err_and}
use Prim.Native.Nat.{◌%◌}
use mathlib.Core.List.{[], ◌∷◌}
use mathlib.Core.Path.{refl}
use Rattle.world.proofs.memory.Storing.{stored, refused}
use Rattle.world.proofs.memory.store_byte.Goals as goal

pub returns-in_err-may_store : goal.returns-in_err-may_store
returns-in_err-may_store c =
    let p = err_from_is_err_and c.from_residual.result c.from_residual.ensures.1 in
    let a = c.args in
    rw (p.1, p.2) (refused a.access a.memory.now (a.x % 256 ∷ []) a.a refl (rw c.from-at.ensures at c.in_err-may_store.ensures))

pub returns : goal.returns
returns c =
    let a = c.args in
    rw c.from-at.ensures (stored a.access a.memory.now (a.x % 256 ∷ []) a.a refl (rw c.from-at.ensures at c.in_ok-may_store.ensures))
