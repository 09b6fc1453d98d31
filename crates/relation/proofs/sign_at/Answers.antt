use Rattle.std.proofs.Common.{◌≡◌, None, rules}
use Rattle.relation.proofs.Signs.{halted, sign-none, sign-found}
use Rattle.relation.proofs.sign_at.Goals as goal

pub returns-in_err-c : goal.returns-in_err-c
returns-in_err-c c =
    let e : c.from_residual.result ≡ None = search rules in rw e (halted c.in_err-c.was)

pub returns-in-Sign : goal.returns-in-Sign
returns-in-Sign c = sign-found c.in_ok-c.was c.in-Sign.ensures

pub returns-in_default : goal.returns-in_default
returns-in_default c = sign-none c.word_at.result c.in_ok-c.was c.word_at.ensures c.in_default.not-Sign
