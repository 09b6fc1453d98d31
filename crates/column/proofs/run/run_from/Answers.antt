use mathlib.Core.Path.{sym, ◌∙◌}
use Rattle.column.proofs.Steps.{running-remark, running-end, running-wrong, running-stuck, running-on}
use Rattle.column.proofs.run.run_from.Goals as goal

pub returns-in-End-clause-answer : goal.returns-in-End-clause-answer
returns-in-End-clause-answer c = running-end c.loop-from.invariant (sym c.is_remark.ensures ∙ c.loop-from-test.true) c.in-End.ensures

pub returns-in-Wrong-clause-answer : goal.returns-in-Wrong-clause-answer
returns-in-Wrong-clause-answer c =
    running-wrong c.loop-from.invariant (sym c.is_remark.ensures ∙ c.loop-from-test.true) c.in-Wrong.end c.in-Wrong.ensures c.without_word.ensures

pub returns-in_default-clause-answer : goal.returns-in_default-clause-answer
returns-in_default-clause-answer c =
    running-stuck c.loop-from.invariant (sym c.is_remark.ensures ∙ c.loop-from-test.true) c.in-Got.ensures c.in_default.ensures

pub loop-from-preserved : goal.loop-from-preserved
loop-from-preserved c =
    running-on c.loop-from.invariant (sym c.is_remark.ensures ∙ c.loop-from-test.true) c.in-Got.ensures c.in-Some.ensures c.push-top.ensures

pub returns-clause-answer : goal.returns-clause-answer
returns-clause-answer c = running-remark c.loop-from.invariant (sym c.is_remark.ensures ∙ c.loop-from-test.false) c.remark.ensures
