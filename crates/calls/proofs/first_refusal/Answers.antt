-- `first_refusal` meets its contract: the tests in their order. Assumes nothing.
use mathlib.Core.Path.{sym, ◌∙◌}
use Rattle.nibl.specs.FirstRefusals.{first_refusal}
use Rattle.calls.proofs.first_refusal.Goals as goal

pub returns-then-not-in_range : goal.returns-then-not-in_range
unfolding first_refusal
returns-then-not-in_range c = sym (rw (sym c.in_range.ensures ∙ c.if-not-in_range.true))

pub returns-then-not-is_good : goal.returns-then-not-is_good
unfolding first_refusal
returns-then-not-is_good c = sym (rw (sym c.in_range.ensures ∙ c.if-not-in_range.false, sym c.is_good.ensures ∙ c.if-not-is_good.true))

pub returns-then-not-is_described : goal.returns-then-not-is_described
unfolding first_refusal
returns-then-not-is_described c =
    sym (rw (sym c.in_range.ensures ∙ c.if-not-in_range.false, sym c.is_good.ensures ∙ c.if-not-is_good.false, sym c.is_described.ensures ∙ c.if-not-is_described.true))

pub returns-then-not-fits : goal.returns-then-not-fits
unfolding first_refusal
returns-then-not-fits c =
    sym (rw (
      sym c.in_range.ensures ∙ c.if-not-in_range.false,
      sym c.is_good.ensures ∙ c.if-not-is_good.false,
      sym c.is_described.ensures ∙ c.if-not-is_described.false,
      sym c.fits.ensures ∙ c.if-not-fits.true,
    ))

pub returns : goal.returns
unfolding first_refusal
returns c =
    sym (rw (
      sym c.in_range.ensures ∙ c.if-not-in_range.false,
      sym c.is_good.ensures ∙ c.if-not-is_good.false,
      sym c.is_described.ensures ∙ c.if-not-is_described.false,
      sym c.fits.ensures ∙ c.if-not-fits.false,
    ))
