-- `column::all_taken` meets its contract. Assumes nothing.
use mathlib.Core.Path.{◌∙◌}
use Rattle.column.proofs.Fronts.{all-taken-line, all-taken-command}
use Rattle.column.proofs.all_taken.Goals as goal

pub returns-then-is_taken-clause-answer : goal.returns-then-is_taken-clause-answer
returns-then-is_taken-clause-answer c = c.if-is_taken.true ∙ all-taken-line c.args.text.now c.if-is_taken.ensures.answer

pub returns-else-is_taken-clause-answer : goal.returns-else-is_taken-clause-answer
returns-else-is_taken-clause-answer c = all-taken-command c.args.text.now c.if-is_taken.ensures.answer c.is_taken-else-is_taken.ensures.answer
