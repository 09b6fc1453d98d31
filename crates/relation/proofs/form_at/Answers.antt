use mathlib.Core.Path.{refl, sym, ◌∙◌}
use mathlib.Core.List.{[], ◌∷◌}
use Rattle.relation.proofs.Signs.{stat-word, top-word, not-word, mod-word}
use Rattle.relation.proofs.Factors.{form-symbol, form-keyword, form-none}
use Rattle.relation.proofs.form_at.Goals as goal

pub returns-then-stands : goal.returns-then-stands
returns-then-stands c =
    form-symbol c.args.text.now c.args.at c.requires 40 refl refl (sym c.stands.ensures ∙ c.if-stands.true)

pub returns-then-stands-2 : goal.returns-then-stands-2
returns-then-stands-2 c =
    form-symbol c.args.text.now c.args.at c.requires 64 refl refl (sym c.stands-2.ensures ∙ c.if-stands-2.true)

pub returns-then-stands-3 : goal.returns-then-stands-3
returns-then-stands-3 c =
    form-keyword c.args.text.now c.args.at c.requires 83 84 147 (65 ∷ 84 ∷ []) stat-word refl (sym c.stands-3.ensures ∙ c.if-stands-3.true)

pub returns-then-stands-4 : goal.returns-then-stands-4
returns-then-stands-4 c =
    form-keyword c.args.text.now c.args.at c.requires 84 79 148 (80 ∷ []) top-word refl (sym c.stands-4.ensures ∙ c.if-stands-4.true)

pub returns-then-stands-5 : goal.returns-then-stands-5
returns-then-stands-5 c =
    form-keyword c.args.text.now c.args.at c.requires 78 79 152 (84 ∷ []) not-word refl (sym c.stands-5.ensures ∙ c.if-stands-5.true)

pub returns-then-stands-6 : goal.returns-then-stands-6
returns-then-stands-6 c =
    form-keyword c.args.text.now c.args.at c.requires 77 79 149 (68 ∷ []) mod-word refl (sym c.stands-6.ensures ∙ c.if-stands-6.true)

pub returns : goal.returns
returns c =
    form-none c.args.text.now c.args.at c.requires
    (sym c.stands-3.ensures ∙ c.if-stands-3.false)
    (sym c.stands-4.ensures ∙ c.if-stands-4.false)
    (sym c.stands.ensures ∙ c.if-stands.false)
    (sym c.stands-2.ensures ∙ c.if-stands-2.false)
    (sym c.stands-5.ensures ∙ c.if-stands-5.false)
    (sym c.stands-6.ensures ∙ c.if-stands-6.false)
