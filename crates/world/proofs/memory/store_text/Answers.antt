-- `store_text` meets its contract: the text, and then its CR, where both may be stored. Assumes nothing.
use Rattle.std.proofs.lemmas.Result.{err_from_is_err_and}
use mathlib.Core.List.{[], ◌∷◌, ◌++◌}
use native.Mathlib.Omega.{arith}
use Prim.Native.Nat.{◌+◌}
use lib.ListN.{length, length-append}
use Rattle.value.proofs.Writing.{copied-sets}
use Rattle.world.proofs.memory.Storing.{refused, room, text-stored}
use Rattle.world.proofs.memory.store_text.Goals as goal

pub returns-in_err-may_store : goal.returns-in_err-may_store
returns-in_err-may_store c =
    let p = err_from_is_err_and c.from_residual.result c.from_residual.ensures.1 in
    let a = c.args in
    rw (p.1, p.2) (refused a.access a.memory.now (a.text.now ++ (13 ∷ [])) a.a (length-append a.text.now (13 ∷ [])) (rw c.from-at.ensures at c.in_err-may_store.ensures))

pub returns : goal.returns
returns c =
    let a = c.args in
    let h = rw c.from-at.ensures at c.in_ok-may_store.ensures in
    let r = room a.access (length a.memory.now) a.a (length a.text.now + 1) h in
    rw (c.put_bytes.ensures, c.from-at.ensures, copied-sets a.memory.now a.text.now a.a (omega arith)) (text-stored a.access a.memory.now a.text.now a.a h)
