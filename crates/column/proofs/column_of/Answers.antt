-- `column::column_of` meets its contract. Assumes nothing.
use borrow.Author.Rules.{rules}
use Rattle.column.proofs.Fronts.{last_fits, column-found}
use Rattle.column.proofs.column_of.Goals as goal

pub longest_front-requires : goal.longest_front-requires
longest_front-requires c = (search rules, last_fits c.args.text.now c.last_tried-from.ensures.answer)

pub returns : goal.returns
returns c = column-found c.args.text.now c.last_tried-from.ensures.answer c.longest_front.ensures
