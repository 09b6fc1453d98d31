use mathlib.Core.Path.{refl, sym, ◌∙◌}
use mathlib.Core.List.{[]}
use Rattle.nibl.specs.Grammar.{term_joints}
use Rattle.nibl.specs.Tree.{plus, minus, or_bits}
use Rattle.relation.proofs.Signs.{joint-none, joint-symbol, joint-keyword, or_word}
use Rattle.relation.proofs.plus_at.Goals as goal

pub returns-then-stands : goal.returns-then-stands
returns-then-stands c =
    let a = c.args in
    let i = c.space_end-i in
    joint-symbol term_joints a.text.now a.from _ i.ensures plus 43 refl refl (sym c.stands.ensures ∙ c.if-stands.true) c.joined.ensures

pub returns-then-stands-2 : goal.returns-then-stands-2
returns-then-stands-2 c =
    let a = c.args in
    let i = c.space_end-i in
    joint-symbol term_joints a.text.now a.from _ i.ensures minus 45 refl refl (sym c.stands-2.ensures ∙ c.if-stands-2.true) c.joined-then-stands-2.ensures

pub returns-then-stands-3 : goal.returns-then-stands-3
returns-then-stands-3 c =
    let a = c.args in
    let i = c.space_end-i in
    joint-keyword term_joints a.text.now a.from _ i.ensures or_bits 79 82 151 ([]) or_word refl (sym c.stands-3.ensures ∙ c.if-stands-3.true) c.joined-then-stands-3.ensures

pub returns : goal.returns
returns c =
    let a = c.args in
    let i = c.space_end-i in
    joint-none term_joints a.text.now a.from _ i.ensures (rw ((sym c.stands.ensures ∙ c.if-stands.false), (sym c.stands-2.ensures ∙ c.if-stands-2.false), (sym c.stands-3.ensures ∙ c.if-stands-3.false)) refl)
