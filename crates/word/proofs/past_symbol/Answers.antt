use mathlib.Core.Path.{sym, ◌∙◌}
use Rattle.word.proofs.Spelled.{past-there, past-other}
use Rattle.word.proofs.past_symbol.Goals as goal

pub returns-then-byte_at-b : goal.returns-then-byte_at-b
returns-then-byte_at-b c =
    let a = c.args in
    past-there a.text.now a.from _ a.b c.space_end-i.ensures c.requires (sym c.byte_at.ensures ∙ c.if-byte_at-b.true)

pub returns : goal.returns
returns c =
    let a = c.args in
    past-other a.text.now a.from _ a.b c.space_end-i.ensures c.requires (λ e. c.if-byte_at-b.false (c.byte_at.ensures ∙ e))
