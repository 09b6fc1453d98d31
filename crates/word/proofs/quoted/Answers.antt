-- `word::quoted` meets its contract: each answer is a law of Answers. Assumes nothing.
use Rattle.std.proofs.Common.{◌≡◌, get_or, rules, sym, ◌∙◌, arith}
use Rattle.nibl.specs.Bytes.{is_quotable}
use Rattle.word.proofs.Answers.{quoted-end, quoted-other, quoted-closed}
use Rattle.word.proofs.quoted.Goals as goal

pub returns-in_default : goal.returns-in_default
returns-in_default c =
    let a = c.args in
    quoted-end a.text.now a.from c.run_end-to.result (c.run_end-to.ensures is_quotable (λ b r h e. e)) (omega (arith, c.in_default.ensures.lookup))

pub returns-then-not-is_quote : goal.returns-then-not-is_quote
returns-then-not-is_quote c =
    let a = c.args in
    let e = c.run_end-to in
    let at : get_or a.text.now e.result 0 ≡ c.in-Some.b.now = search rules in
    quoted-other a.text.now a.from e.result (e.ensures is_quotable (λ b r h e. e)) (search rules) (rw at (sym c.is_quote.ensures ∙ c.if-not-is_quote.true))

pub returns : goal.returns
returns c =
    let a = c.args in
    let e = c.run_end-to in
    let at : get_or a.text.now e.result 0 ≡ c.in-Some.b.now = search rules in
    quoted-closed a.text.now a.from e.result (e.ensures is_quotable (λ b r h e. e)) (search rules) (rw at (sym c.is_quote.ensures ∙ c.if-not-is_quote.false))
