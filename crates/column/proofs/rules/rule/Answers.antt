use Rattle.std.proofs.Common.{rules, tests}
use Rattle.std.proofs.lemmas.Iterator.{YieldsList-from_slice}
use Rattle.std.proofs.lemmas.Iterator.Search.{find_from_yields_List}
use mathlib.Core.Path.{sym, ap, ◌∙◌}
use mathlib.Core.Option.{some}
use native.Mathlib.Omega.{arith}
use lib.Dec.{eqb}
use lib.ListN.{take}
use lib.Seq.{length-take-le}
use Rattle.nibl.specs.found.Column.{case_in}
use Rattle.column.specs.Rules.{cases_if}
use Rattle.column.proofs.Table.{rule-room, rule-hit, rule-miss}
use Rattle.column.proofs.rules.rule.Goals as goal

pub slice_bounds-result-end : goal.slice_bounds-result-end
slice_bounds-result-end c =
    let row = c.row-also in
    let rule = c.in-Some-find.rule in
    let room = rule-room row.result.0.now row.result.1 c.in-Some.x c.args.k c.find.result row.ensures.cases
    (find_from_yields_List (λ r. eqb r.0 c.args.k) _ _ c.find.result c.find.ensures.ran
    (YieldsList-from_slice row.result.0.now cc) (λ x b q k. search (rules, tests)))
    row.ensures.counts rule c.in-Some-find.is in
    sym (length-take-le c.from.result rule.now.2 (omega (arith, c.from.ensures, room)))

pub returns-in-Some-find : goal.returns-in-Some-find
returns-in-Some-find c =
    let row = c.row-also in
    ap (λ n. some (take n c.in-Some-find.rule.now.2)) c.from.ensures
    ∙ rule-hit row.result.0.now row.result.1 c.in-Some.x c.args.k c.find.result row.ensures.cases
    (find_from_yields_List (λ r. eqb r.0 c.args.k) _ _ c.find.result c.find.ensures.ran
    (YieldsList-from_slice row.result.0.now cc) (λ x b q k. search (rules, tests)))
    c.in-Some-find.rule c.in-Some-find.is
    ∙ sym (ap (λ y. case_in (cases_if y) c.args.k) c.in-Some.is) ∙ c.loop-y.invariant

pub loop-y-preserved : goal.loop-y-preserved
loop-y-preserved c =
    let row = c.row-also in
    rule-miss row.result.0.now row.result.1 c.in-Some.x c.args.k c.find.result row.ensures.cases
    (find_from_yields_List (λ r. eqb r.0 c.args.k) _ _ c.find.result c.find.ensures.ran
    (YieldsList-from_slice row.result.0.now cc) (λ x b q k. search (rules, tests)))
    c.in_default-find.is
    ∙ sym (ap (λ y. case_in (cases_if y) c.args.k) c.in-Some.is) ∙ c.loop-y.invariant
