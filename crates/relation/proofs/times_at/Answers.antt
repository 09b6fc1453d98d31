use mathlib.Core.Path.{refl, sym, ◌∙◌}
use mathlib.Core.List.{[], ◌∷◌}
use Rattle.nibl.specs.Grammar.{factor_joints}
use Rattle.nibl.specs.Tree.{times, divided_by, and_bits}
use Rattle.relation.proofs.Signs.{joint-none, joint-symbol, joint-keyword, and_word}
use Rattle.relation.proofs.times_at.Goals as goal

pub returns-then-stands : goal.returns-then-stands
returns-then-stands c =
    let a = c.args in
    let i = c.space_end-i in
    joint-symbol factor_joints a.text.now a.from _ i.ensures times 42 refl refl (sym c.stands.ensures ∙ c.if-stands.true) c.joined.ensures

pub returns-then-stands-2 : goal.returns-then-stands-2
returns-then-stands-2 c =
    let a = c.args in
    let i = c.space_end-i in
    joint-symbol factor_joints a.text.now a.from _ i.ensures divided_by 47 refl refl (sym c.stands-2.ensures ∙ c.if-stands-2.true) c.joined-then-stands-2.ensures

pub returns-then-stands-3 : goal.returns-then-stands-3
returns-then-stands-3 c =
    let a = c.args in
    let i = c.space_end-i in
    joint-keyword factor_joints a.text.now a.from _ i.ensures and_bits 65 78 150 (68 ∷ []) and_word refl (sym c.stands-3.ensures ∙ c.if-stands-3.true) c.joined-then-stands-3.ensures

pub returns : goal.returns
returns c =
    let a = c.args in
    let i = c.space_end-i in
    joint-none factor_joints a.text.now a.from _ i.ensures (rw ((sym c.stands.ensures ∙ c.if-stands.false), (sym c.stands-2.ensures ∙ c.if-stands-2.false), (sym c.stands-3.ensures ∙ c.if-stands-3.false)) refl)
