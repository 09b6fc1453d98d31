use Prim.Native.Nat.{◌-◌}
use mathlib.Core.Path.{sym, ap, ◌∙◌}
use Rattle.nibl.specs.Bytes.{is_digit}
use Rattle.codes.specs.Codes.{op, code_variable}
use Rattle.relation.proofs.Factors.{variable-there, variable-operand, no-operand}
use Rattle.relation.proofs.operand_at.Goals as goal

pub returns-then-is_variable : goal.returns-then-is_variable
returns-then-is_variable c =
    let t = variable-there c.args.text.now c.args.at (sym c.is_variable.ensures ∙ c.if-is_variable.true) in
    let v = c.operation.ensures ∙ ap (op code_variable) (c.from.ensures ∙ ap (λ b. b - 65) c.byte_at-b.ensures) in
    variable-operand t v c.put.ensures.0 c.put.ensures.1

pub returns : goal.returns
returns c =
    no-operand c.requires.1 (sym (ap is_digit c.byte_at-b.ensures) ∙ sym c.is_digit.ensures ∙ c.if-is_digit.false) (sym c.is_variable.ensures ∙ c.if-is_variable.false)
