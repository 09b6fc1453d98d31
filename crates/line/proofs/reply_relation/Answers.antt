use Prim.Native.Nat.{ℕ}
use mathlib.Core.Path.{sym, ap, subst, ◌∙◌}
use lib.ListN.{length, replicate}
use Rattle.nibl.specs.found.Read.{read, relation}
use Rattle.relation.specs.Code.{values}
use Rattle.relation.specs.Makes.{Makes}
use Rattle.line.specs.Answers.{relation_of, relation_ops}
use Rattle.line.proofs.Lists.{opened}
use Rattle.line.proofs.Replies.{key-told, relation-none, relation-comma, relation-bare}
use borrow.Author.Tests.{not-false}
use Rattle.line.proofs.reply_relation.Goals as goal

pub returns-in_default : goal.returns-in_default
returns-in_default c =
    let text = c.args.text.now in
    let e = sym c.has_room.ensures ∙ not-false _ c.if-not-has_room.false-raw in
    let d = relation-none text c.args.c (subst (Makes (read relation) values _ _ _ _) c.in_default.is c.read_relation-r.ensures) in
    record { value = opened _ e (sym (ap (relation_of (length text)) d)); ops_after = opened _ e (c.clear.ensures ∙ ap (λ (n : ℕ). replicate n 0) c.read_relation-r.auto.ops ∙ sym (ap (relation_ops c.args.ops.now) d)) }

pub returns-in-Some-past_sign : goal.returns-in-Some-past_sign
returns-in-Some-past_sign c =
    let e = sym c.has_room.ensures ∙ not-false _ c.if-not-has_room.false-raw in
    let a = relation-comma (subst (Makes (read relation) values _ _ _ _) c.in-Some.is c.read_relation-r.ensures) (key-told c.in-Some.is c.in-Some-past_sign.is c.past_sign.ensures) in
    record { value = opened _ e a.0; ops_after = opened _ e a.1 }

pub returns-in-None : goal.returns-in-None
returns-in-None c =
    let e = sym c.has_room.ensures ∙ not-false _ c.if-not-has_room.false-raw in
    let a = relation-bare (subst (Makes (read relation) values _ _ _ _) c.in-Some.is c.read_relation-r.ensures) (key-told c.in-Some.is c.in-None.is c.past_sign.ensures) in
    record { value = opened _ e a.0; ops_after = opened _ e a.1 }
