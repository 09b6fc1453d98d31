use Rattle.std.proofs.Common.{◌≡◌, None, rules}
use Rattle.relation.proofs.States.{written_none, written_next}
use Rattle.relation.proofs.write.Goals as goal

pub returns-in_err-c : goal.returns-in_err-c
returns-in_err-c c =
    let e : c.from_residual.result ≡ None = search rules in rw e (written_none c.in_err-c.was)

pub returns : goal.returns
returns c = written_next c.in_ok-c.was
