-- `column::last_tried` meets its contract. Assumes nothing.
use mathlib.Core.Path.{◌∙◌}
use Rattle.column.proofs.Fronts.{last-part}
use Rattle.column.proofs.last_tried.Goals as goal

pub returns-clause-answer : goal.returns-clause-answer
returns-clause-answer c = c.min.ensures ∙ last-part c.args.text.now c.reach.ensures.answer c.reach-2.ensures.answer c.max-far.ensures
