-- `reader::with_variable` meets its contract. Assumes nothing.
use mathlib.Core.Path.{subst}
use native.Mathlib.Omega.{arith}
use Rattle.reader.specs.Forms.{KindIs}
use Rattle.reader.proofs.Spending.{missing}
use Rattle.reader.proofs.Heads.{heads-variable, unvariable}
use Rattle.reader.proofs.Ways.{variable-is}
use borrow.Enum.Refused.{opened}
use Rattle.reader.proofs.with_variable.Goals as goal

pub returns-in_default : goal.returns-in_default
returns-in_default c = missing (unvariable c.kind_at.result c.kind_at.ensures (opened c.in_default.in_default-own.keys2))

pub returns : goal.returns
returns c =
    variable-is _ (omega (arith, c.operation.ensures)) (heads-variable (subst (KindIs _ _) c.in-Variable.is c.kind_at.ensures)) c.write.ensures
