-- `operator` meets its contract: past the last operator every number is the last one's. Assumes nothing.
use Prim.Native.Nat.{ℕ, min}
use mathlib.Core.Path.{◌≡◌, sym, ap}
use native.Mathlib.Omega.{arith}
use borrow.Author.Tests.{ltb-true, ltb-false}
use lib.Dec.{ltb}
use lib.ListN.{get_or-eq_default}
use Rattle.nibl.specs.Tree.{unequal}
use Rattle.page.proofs.Walk.{by_cases}
use Rattle.codes.specs.Operators.{operators, op_of}
use Rattle.operation.proofs.operator.Goals as goal

capped : (n : ℕ) → op_of (min n 11) ≡ op_of n
unfolding op_of
capped n =
    by_cases (ltb n 12)
    (λ h. let e : min n 11 ≡ n = omega (arith, ltb-true n 12 h) in ap op_of e)
    (λ h. let f = ltb-false n 12 h in let e : min n 11 ≡ 11 = omega arith in rw e (sym (get_or-eq_default operators unequal {n = n} (omega arith))))

pub returns : goal.returns
returns c = rw (c.min.ensures, c.from.ensures) (capped c.args.arg)
