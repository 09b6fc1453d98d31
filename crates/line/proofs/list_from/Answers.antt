use mathlib.Core.Path.{◌∙◌}
use lib.ListN.{length, drop}
use mathlib.Core.List.{[], ◌∷◌}
use types.Run.{miss}
use Rattle.line.proofs.Lines.{list-number, list-whole, decimal-found, no-decimal}
use borrow.Enum.Refused.{opened}
use Rattle.line.proofs.list_from.Goals as goal

pub returns-in-Decimal : goal.returns-in-Decimal
returns-in-Decimal c =
    let text = c.args.text.now in
    c.alone.ensures ∙ list-number (length text) (drop c.args.c.at text) (decimal-found c.in-Decimal.is c.word_at.ensures)

pub returns-in_default : goal.returns-in_default
returns-in_default c =
    let text = c.args.text.now in
    c.alone-in_default.ensures ∙ list-whole (length text) (drop c.args.c.at text) (no-decimal (0 ∷ 2 ∷ 3 ∷ 4 ∷ 5 ∷ 6 ∷ []) c.word_at.result (miss (0 ∷ 2 ∷ 3 ∷ 4 ∷ 5 ∷ 6 ∷ []) 1 tt) (opened c.in_default.in_default-own.keys2) c.word_at.ensures)
