use Prim.Native.Nat.{ℕ}
use mathlib.Core.Path.{sym, ◌∙◌}
use mathlib.Core.List.{List, [], ◌∷◌}
use types.Run.{miss}
use Rattle.line.proofs.Lines.{unnumbered-other, unnumbered-sign, unnumbered-front, typed-command, typed-plain}
use borrow.Author.Tests.{not-true}
use borrow.Enum.Refused.{opened}
use Rattle.line.proofs.at_front.Goals as goal

pub returns-then-not-may_command : goal.returns-then-not-may_command
returns-then-not-may_command c =
    let text = c.args.text.now in
    typed-plain text (unnumbered-front text (sym c.may_command.ensures ∙ not-true _ c.if-not-may_command.true-raw))

pub returns-in_default : goal.returns-in_default
returns-in_default c =
    let text = c.args.text.now in
    let w = c.command_at in
    let ks : List ℕ = 0 ∷ 1 ∷ 2 ∷ 3 ∷ 5 ∷ 6 ∷ [] in
    typed-plain text (unnumbered-other text w.result w.ensures ks (miss ks 4 tt) (opened c.in_default.in_default-own.keys2))

pub returns-then-is_command : goal.returns-then-is_command
returns-then-is_command c =
    let w = c.command_at in
    typed-command c.args.text.now w.result w.ensures c.in-Sign.is (sym c.is_command.ensures ∙ c.if-is_command.true)

pub returns : goal.returns
returns c =
    let text = c.args.text.now in
    let w = c.command_at in
    typed-plain text (unnumbered-sign text w.result w.ensures c.in-Sign.is (sym c.is_command.ensures ∙ c.if-is_command.false))
