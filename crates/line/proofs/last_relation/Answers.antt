use mathlib.Core.Path.{sym, ap, subst, ◌∙◌}
use lib.ListN.{drop}
use Rattle.std.specs.Result.{result_ok}
use Rattle.nibl.specs.found.Read.{read, relation, fail}
use Rattle.relation.specs.Code.{values}
use Rattle.relation.specs.Makes.{Makes}
use Rattle.relation.proofs.Answers.{got, none}
use Rattle.line.proofs.Replies.{key-told, comma-there, comma-none, last_none, last-spaces, last-comma, last-other}
use Rattle.line.proofs.last_relation.Goals as goal

pub returns-in_err-c : goal.returns-in_err-c
returns-in_err-c c =
    rw c.from_residual.ensures
    (ap result_ok (last_none (drop c.args.at c.args.text.now) (none (subst (Makes (read relation) values _ _ _ _) c.in_err-c.was c.read_relation-r.ensures))))

pub returns-then-is_blank : goal.returns-then-is_blank
returns-then-is_blank c =
    let g = got (subst (Makes (read relation) values _ _ _ _) c.in_ok-c.was c.read_relation-r.ensures) in
    ap result_ok (last-spaces (drop c.args.at c.args.text.now) g.reads (sym c.is_blank.ensures ∙ c.if-is_blank.true))

pub returns : goal.returns
returns c =
    let g = got (subst (Makes (read relation) values _ _ _ _) c.in_ok-c.was c.read_relation-r.ensures) in
    ap result_ok (last-comma (drop c.args.at c.args.text.now) g.reads (sym c.is_blank.ensures ∙ c.if-is_blank.false) (comma-there (key-told c.in_ok-c.was c.in_ok-past_sign.was c.past_sign.ensures) g.tree fail))

pub returns-in_err-past_sign : goal.returns-in_err-past_sign
returns-in_err-past_sign c =
    let g = got (subst (Makes (read relation) values _ _ _ _) c.in_ok-c.was c.read_relation-r.ensures) in
    rw c.from_residual-in_err-past_sign.ensures
    (ap result_ok (last-other (drop c.args.at c.args.text.now) g.reads (sym c.is_blank.ensures ∙ c.if-is_blank.false) (comma-none (key-told c.in_ok-c.was c.in_err-past_sign.was c.past_sign.ensures) g.tree fail)))
