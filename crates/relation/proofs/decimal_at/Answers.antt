use Rattle.std.proofs.Common.{◌∙◌, ap}
use Rattle.codes.specs.Codes.{op, code_constant}
use Rattle.relation.specs.Makes.{no_operand}
use Rattle.relation.proofs.Factors.{decimal-there, decimal-large, decimal-operand}
use Rattle.relation.proofs.decimal_at.Goals as goal

pub returns-in-Err : goal.returns-in-Err
returns-in-Err c = no_operand (decimal-large c.args.text.now c.args.at c.requires.1 c.requires.2 c.in-Err.ensures)

pub returns-in-Ok : goal.returns-in-Ok
returns-in-Ok c =
    let p = c.put.ensures in
    decimal-operand (decimal-there c.args.text.now c.args.at c.requires.1 c.requires.2 c.in-Ok.ensures) (c.operation.ensures ∙ ap (op code_constant) c.from.ensures) p.0 p.1
