-- `reader::go_to` meets its contract. Assumes nothing.
use mathlib.Core.Path.{subst}
use Rattle.nibl.specs.Words.{number}
use Rattle.relation.specs.Makes.{SignIs}
use Rattle.reader.proofs.Heads.{stood-unless, absent-unless}
use Rattle.reader.proofs.Ways.{go-to-is, go-sub-is, go-none}
use Rattle.reader.proofs.go_to.Goals as goal

pub returns-in_err-k : goal.returns-in_err-k
returns-in_err-k c =
    let h = (subst (SignIs _ _) c.in_err-k.was c.sign_at.ensures) in
    rw c.from_residual.ensures (go-none (absent-unless (number "TO") h) (absent-unless (number "SUB") h))

pub returns-in-130 : goal.returns-in-130
returns-in-130 c = go-to-is (subst (SignIs _ _) c.in_ok-k.was c.sign_at.ensures) c.in-130.is c.with_relation.ensures

pub returns-in-131 : goal.returns-in-131
returns-in-131 c =
    go-sub-is (subst (SignIs _ _) c.in_ok-k.was c.sign_at.ensures) c.in-131.is c.with_relation-in-131.ensures

pub returns-in_default : goal.returns-in_default
returns-in_default c =
    let h = (subst (SignIs _ _) c.in_ok-k.was c.sign_at.ensures) in
    let d = c.in_default.in_default-own.rest in
    go-none (stood-unless (number "TO") d.0.1 h) (stood-unless (number "SUB") d.1 h)
