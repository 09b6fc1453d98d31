-- `reader::read_member` meets its contract. Assumes nothing.
use mathlib.Core.Path.{sym, ◌∙◌}
use borrow.Author.Tests.{not-false}
use Rattle.reader.proofs.Members.{member-none, member-found}
use Rattle.reader.proofs.read_member.Goals as goal

pub returns-in_default : goal.returns-in_default
returns-in_default c =
    let e = sym c.has_room.ensures ∙ not-false _ c.if-not-has_room.false-raw in
    let m = member-none e c.in_default.is c.read_statement-s.ensures c.member_end.ensures c.clear.ensures c.read_statement-s.auto.ops in
    record { value = m.answer; ops_after = m.left }

pub returns : goal.returns
returns c =
    let e = sym c.has_room.ensures ∙ not-false _ c.if-not-has_room.false-raw in
    let m = member-found e c.in-Some.is c.read_statement-s.ensures c.member_end.ensures in
    record { value = m.answer; ops_after = m.left }
