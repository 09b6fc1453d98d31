use Rattle.std.proofs.Common.{◌≡◌, None, rules}
use Rattle.relation.proofs.Ways.{no-reading}
use Rattle.relation.proofs.read_relation.Goals as goal

pub returns-in_err-c : goal.returns-in_err-c
returns-in_err-c c =
    let e : c.from_residual.result ≡ None = search rules in rw e (no-reading c.in_err-c.was)
