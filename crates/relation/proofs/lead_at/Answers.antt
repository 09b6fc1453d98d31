use mathlib.Core.Path.{sym, ◌∙◌}
use Rattle.relation.proofs.Signs.{lead-minus, lead-plus, lead-none}
use Rattle.relation.proofs.lead_at.Goals as goal

pub returns-then-stands : goal.returns-then-stands
returns-then-stands c =
    let a = c.args in
    lead-minus a.text.now a.from _ c.space_end-i.ensures (sym c.stands.ensures ∙ c.if-stands.true)

pub returns-then-stands-2 : goal.returns-then-stands-2
returns-then-stands-2 c =
    let a = c.args in
    lead-plus a.text.now a.from _ c.space_end-i.ensures (sym c.stands.ensures ∙ c.if-stands.false) (sym c.stands-2.ensures ∙ c.if-stands-2.true)

pub returns : goal.returns
returns c =
    let a = c.args in
    lead-none a.text.now a.from _ c.space_end-i.ensures (sym c.stands.ensures ∙ c.if-stands.false) (sym c.stands-2.ensures ∙ c.if-stands-2.false)
