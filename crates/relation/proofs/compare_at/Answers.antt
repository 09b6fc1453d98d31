use mathlib.Core.Path.{refl, sym, ◌∙◌}
use Rattle.nibl.specs.Grammar.{sum_joints}
use Rattle.nibl.specs.Tree.{equal, at_most, unequal, less, at_least, greater}
use Rattle.relation.proofs.Signs.{joint-none, joint-symbol, joint-pair, joint-less, joint-greater}
use Rattle.relation.proofs.compare_at.Goals as goal

pub returns-then-stands : goal.returns-then-stands
returns-then-stands c =
    let a = c.args in
    let i = c.space_end-i in
    joint-symbol sum_joints a.text.now a.from _ i.ensures equal 61 refl refl (sym c.stands.ensures ∙ c.if-stands.true) c.joined.ensures

pub returns-then-stands-2 : goal.returns-then-stands-2
returns-then-stands-2 c =
    let a = c.args in
    let i = c.space_end-i in
    joint-pair sum_joints a.text.now a.from _ i.ensures at_most 60 61 1 refl refl (sym c.stands-2.ensures ∙ c.if-stands-2.true) c.joined-then-stands-2.ensures

pub returns-then-stands-3 : goal.returns-then-stands-3
returns-then-stands-3 c =
    let a = c.args in
    let i = c.space_end-i in
    joint-pair sum_joints a.text.now a.from _ i.ensures unequal 60 62 3 refl refl (sym c.stands-3.ensures ∙ c.if-stands-3.true) c.joined-then-stands-3.ensures

pub returns-then-stands-4 : goal.returns-then-stands-4
returns-then-stands-4 c =
    let a = c.args in
    let i = c.space_end-i in
    joint-less sum_joints a.text.now a.from _ i.ensures less refl (sym c.stands-2.ensures ∙ c.if-stands-2.false) (sym c.stands-3.ensures ∙ c.if-stands-3.false) (sym c.stands-4.ensures ∙ c.if-stands-4.true) c.joined-then-stands-4.ensures

pub returns-then-stands-5 : goal.returns-then-stands-5
returns-then-stands-5 c =
    let a = c.args in
    let i = c.space_end-i in
    joint-pair sum_joints a.text.now a.from _ i.ensures at_least 62 61 2 refl refl (sym c.stands-5.ensures ∙ c.if-stands-5.true) c.joined-then-stands-5.ensures

pub returns-then-stands-6 : goal.returns-then-stands-6
returns-then-stands-6 c =
    let a = c.args in
    let i = c.space_end-i in
    joint-greater sum_joints a.text.now a.from _ i.ensures greater refl (sym c.stands-5.ensures ∙ c.if-stands-5.false) (sym c.stands-6.ensures ∙ c.if-stands-6.true) c.joined-then-stands-6.ensures

pub returns : goal.returns
returns c =
    let a = c.args in
    let i = c.space_end-i in
    joint-none sum_joints a.text.now a.from _ i.ensures (rw ((sym c.stands.ensures ∙ c.if-stands.false), (sym c.stands-4.ensures ∙ c.if-stands-4.false), (sym c.stands-6.ensures ∙ c.if-stands-6.false), (sym c.stands-2.ensures ∙ c.if-stands-2.false), (sym c.stands-5.ensures ∙ c.if-stands-5.false), (sym c.stands-3.ensures ∙ c.if-stands-3.false)) refl)
