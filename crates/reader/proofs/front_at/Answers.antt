-- `reader::front_at` meets its contract. Assumes nothing.
use mathlib.Core.Path.{subst}
use native.Mathlib.Omega.{arith}
use Rattle.reader.specs.Forms.{KindIs}
use Rattle.reader.proofs.Ways.{front-assigns, front-symbol, front-if, front-keyword, front-none}
use Rattle.reader.proofs.front_at.Goals as goal

pub returns-then-k-lt-KEYWORD : goal.returns-then-k-lt-KEYWORD
returns-then-k-lt-KEYWORD c = front-symbol c.if-k-lt-KEYWORD.true (subst (KindIs _ _) c.in-Sign.is c.kind_at.ensures)

pub returns-then-k : goal.returns-then-k
returns-then-k c = front-if c.if-k.true (subst (KindIs _ _) c.in-Sign.is c.kind_at.ensures)

pub returns-in-Variable : goal.returns-in-Variable
returns-in-Variable c =
    front-assigns (omega (arith, c.operation.ensures)) (subst (KindIs _ _) c.in-Variable.is c.kind_at.ensures)

pub returns-else-k : goal.returns-else-k
returns-else-k c =
    front-keyword (omega (arith, c.if-k-lt-KEYWORD.false)) c.if-k.false (subst (KindIs _ _) c.in-Sign.is c.kind_at.ensures)

pub returns-in_default : goal.returns-in_default
returns-in_default c = front-none c.kind_at.result c.kind_at.ensures c.in_default.in_default-own.keys3
