use Rattle.std.proofs.Common.{◌≡◌, None, rules}
use Rattle.relation.proofs.Signs.{key-none, key-found, key-other}
use Rattle.relation.proofs.past_sign.Goals as goal

pub returns-in_err-j : goal.returns-in_err-j
returns-in_err-j c =
    let e : c.from_residual.result ≡ None = search rules in rw e (key-none _ c.in_err-j.ensures)

pub returns-then-j-k : goal.returns-then-j-k
returns-then-j-k c = key-found c.if-j-k.true c.in_ok-j.ensures

pub returns-else-j-k : goal.returns-else-j-k
returns-else-j-k c = key-other _ c.if-j-k.false c.in_ok-j.ensures
