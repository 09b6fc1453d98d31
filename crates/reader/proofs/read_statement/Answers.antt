use mathlib.Core.Path.{subst}
use Rattle.reader.specs.Forms.{FrontIs}
use Rattle.reader.proofs.Spending.{room-write}
use Rattle.reader.proofs.Ways.{by-assigns, by-symbol, by-keyword, by-none, if-room, if-falls, if-on}
use Rattle.reader.proofs.read_statement.Goals as goal

pub returns-in-Assigns : goal.returns-in-Assigns
returns-in-Assigns c =
    c.loop-v.invariant.on _ _ (by-assigns _ (subst (FrontIs _ _) c.in-Assigns.is c.front_at.ensures) c.assigned.ensures)

pub returns-in-Symbol : goal.returns-in-Symbol
returns-in-Symbol c =
    c.loop-v.invariant.on _ _ (by-symbol _ (subst (FrontIs _ _) c.in-Symbol.is c.front_at.ensures) c.let_form.ensures)

pub write-s-requires : goal.write-s-requires
write-s-requires c =
    room-write (if-room (subst (FrontIs _ _) c.in-If.is c.front_at.ensures) c.read_relation-a.ensures c.past_any-t.ensures c.loop-v.invariant.room c.read_relation-a.auto.ops)

pub loop-v-smaller : goal.loop-v-smaller
loop-v-smaller c =
    if-falls (subst (FrontIs _ _) c.in-If.is c.front_at.ensures) c.read_relation-a.ensures c.past_any-t.ensures c.write-s.ensures

pub loop-v-preserved : goal.loop-v-preserved
loop-v-preserved c =
    if-on (subst (FrontIs _ _) c.in-If.is c.front_at.ensures) c.read_relation-a.ensures c.past_any-t.ensures c.write-s.ensures c.loop-v.invariant c.read_relation-a.auto.ops c.write-s.auto.ops

pub returns-in-Keyword : goal.returns-in-Keyword
returns-in-Keyword c =
    c.loop-v.invariant.on _ _ (by-keyword _ (subst (FrontIs _ _) c.in-Keyword.is c.front_at.ensures) c.form.ensures)

pub returns-in-Other : goal.returns-in-Other
returns-in-Other c = c.loop-v.invariant.on _ _ (by-none (subst (FrontIs _ _) c.in-Other.is c.front_at.ensures))
