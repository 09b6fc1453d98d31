-- `reader::let_at` meets its contract. Assumes nothing.
use mathlib.Core.Path.{subst}
use native.Mathlib.Omega.{arith}
use Rattle.reader.specs.Forms.{KindIs}
use Rattle.reader.proofs.Ways.{let-variable, let-sign, let-none}
use Rattle.reader.proofs.let_at.Goals as goal

pub returns-in-Variable : goal.returns-in-Variable
returns-in-Variable c =
    let-variable _ (omega (arith, c.operation.ensures)) (subst (KindIs _ _) c.in-Variable.is c.kind_at.ensures) c.assigned.ensures

pub returns-in-Sign : goal.returns-in-Sign
returns-in-Sign c = let-sign (subst (KindIs _ _) c.in-Sign.is c.kind_at.ensures) c.let_form.ensures

pub returns-in_default : goal.returns-in_default
returns-in_default c = let-none c.kind_at.result c.kind_at.ensures c.in_default.in_default-own.keys3
