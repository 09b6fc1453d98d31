-- `text_from` meets its contract: by the three cases of the definition. Assumes nothing.
use mathlib.Core.Path.{sym, ◌∙◌}
use Rattle.nibl.specs.Runs.{text_from}
use Rattle.page.proofs.text_from.Goals as goal

pub returns-then-after_colon : goal.returns-then-after_colon
unfolding text_from
returns-then-after_colon c = sym (rw (sym c.position-at.ensures.0, sym c.after_colon.ensures ∙ c.if-after_colon.true))

pub returns-then-is_end : goal.returns-then-is_end
unfolding text_from
returns-then-is_end c =
    sym (rw (sym c.position-at.ensures.0, sym c.after_colon.ensures ∙ c.if-after_colon.false, sym c.is_end.ensures ∙ c.if-is_end.true))

pub returns : goal.returns
unfolding text_from
returns c =
    sym (rw (sym c.position-at.ensures.0, sym c.after_colon.ensures ∙ c.if-after_colon.false, sym c.is_end.ensures ∙ c.if-is_end.false))
