use mathlib.Core.Path.{sym, ◌∙◌}
use native.Mathlib.Nat.{add-zero}
use Rattle.world.proofs.memory.Strings.{string-past, string-foreign, string-ends, end_goes}
use Rattle.world.proofs.memory.string_end.Goals as goal

pub returns-then-not-may_read : goal.returns-then-not-may_read
returns-then-not-may_read c =
    let a = c.args in
    rw (← c.loop-at.invariant, string-foreign a.access a.memory.now c.loop-at.at c.loop-at-test.true (sym c.may_read.ensures ∙ c.if-not-may_read.true))

pub returns-then-memory-at-eq-CR : goal.returns-then-memory-at-eq-CR
returns-then-memory-at-eq-CR c =
    let a = c.args in
    rw (← c.loop-at.invariant, string-ends a.access a.memory.now c.loop-at.at c.loop-at-test.true (sym c.may_read.ensures ∙ c.if-not-may_read.false) c.if-memory-at-eq-CR.true, add-zero)

pub loop-at-preserved : goal.loop-at-preserved
loop-at-preserved c =
    let a = c.args in
    end_goes a.access a.memory.now c.loop-at.at c.loop-at-test.true (sym c.may_read.ensures ∙ c.if-not-may_read.false) c.if-memory-at-eq-CR.false ∙ c.loop-at.invariant

pub returns : goal.returns
returns c =
    let a = c.args in
    rw (← c.loop-at.invariant, string-past a.access a.memory.now c.loop-at.at c.loop-at-test.false)
