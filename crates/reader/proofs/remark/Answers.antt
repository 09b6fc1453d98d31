-- `reader::remark` meets its contract. Assumes nothing.
use mathlib.Core.Path.{refl, sym, ◌∙◌}
use Rattle.reader.proofs.Ways.{remark-none, remark-rest, remark-not}
use Rattle.reader.proofs.remark.Goals as goal

pub returns-in_err-c : goal.returns-in_err-c
returns-in_err-c c = rw c.from_residual.ensures (remark-none c.in_err-c.was)

pub returns-then-all_text : goal.returns-then-all_text
returns-then-all_text c = remark-rest c.in_ok-c.was refl (sym c.if-all_text.true ∙ c.all_text.ensures)

pub returns : goal.returns
returns c = remark-not c.in_ok-c.was (sym c.if-all_text.false ∙ c.all_text.ensures)
