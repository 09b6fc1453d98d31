use Rattle.std.proofs.Common.{◌≡◌, ◌∙◌, ap, None, rules}
use Rattle.codes.specs.Codes.{op, code_constant}
use Rattle.relation.proofs.Factors.{hex-there, hex-none, hex-makes}
use Rattle.relation.proofs.hex_at.Goals as goal

pub returns-in_err-v : goal.returns-in_err-v
returns-in_err-v c =
    let e : c.from_residual.result ≡ None = search rules in
    rw e (hex-none c.args.text.now c.args.at c.requires.1 c.in_err-v.ensures)

pub returns : goal.returns
returns c =
    let p = c.put.ensures in
    hex-makes (hex-there c.args.text.now c.args.at c.requires.1 c.in_ok-v.ensures) (c.operation.ensures ∙ ap (op code_constant) c.from.ensures) p.0 p.1
