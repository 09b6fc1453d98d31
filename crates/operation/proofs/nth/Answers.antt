-- `nth` meets its contract: past the stack or the array there is 0. Assumes nothing.
use Rattle.std.proofs.Common.{rules}
use mathlib.Core.Path.{sym}
use Rattle.operation.proofs.Stacks.{nth_in, nth-out}
use Rattle.operation.proofs.nth.Goals as goal

pub returns-then-k-height : goal.returns-then-k-height
returns-then-k-height c = let a = c.args in rw (nth_in a.values.now a.height a.k c.if-k-height.true) (search rules)

pub returns-else-k-height : goal.returns-else-k-height
returns-else-k-height c = let a = c.args in sym (nth-out a.values.now a.height a.k c.if-k-height.false)
