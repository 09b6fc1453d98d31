-- `copy_string` meets its contract: the bytes up to the CR, and the CR, are moved where they may be stored. Assumes nothing.
use Rattle.std.proofs.lemmas.Result.{err_from_is_err_and}
use mathlib.Core.Path.{refl}
use native.Mathlib.Omega.{arith}
use Rattle.world.proofs.memory.Strings.{StringRuns, string-to}
use Rattle.world.proofs.memory.Storing.{movable, copied, not-copied}
use Rattle.world.proofs.memory.copy_string.Goals.{In_ok-end}
use Rattle.world.proofs.memory.copy_string.Goals as goal

-- the string was found
module _ (c : In_ok-end) where
  runs : StringRuns c.args.access c.args.memory.now c.args.from c.in_ok-end.end
  runs = string-to c.args.access c.args.memory.now c.args.from _ refl c.in_ok-end.ensures

pub overflow_add-n : goal.overflow_add-n
overflow_add-n c = let r = runs (goal.at.overflow_add-n c).In_ok-end in omega arith

pub returns-in_err-may_store : goal.returns-in_err-may_store
returns-in_err-may_store c =
    let p = err_from_is_err_and c.from_residual-in_err-may_store.result c.from_residual-in_err-may_store.ensures.1 in
    rw (p.1, p.2) (not-copied (runs (goal.at.returns-in_err-may_store c).In_ok-end) c.args.to (rw (c.from-first.ensures, c.from-at.ensures) at c.in_err-may_store.ensures))

pub returns : goal.returns
returns c =
    let r = runs (goal.at.returns c).In_ok-end in
    let h = rw (c.from-first.ensures, c.from-at.ensures) at c.in_ok-may_store.ensures in
    rw (c.move_bytes.ensures.s_after, c.from-first.ensures, c.from-at.ensures, movable r c.args.to h) (copied r c.args.to h)
