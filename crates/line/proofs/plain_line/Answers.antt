use Prim.Native.Nat.{ℕ}
use mathlib.Core.Path.{sym, ap, ◌∙◌}
use mathlib.Core.List.{List, [], ◌∷◌}
use types.Run.{miss}
use lib.ListN.{length, drop}
use Rattle.line.specs.Answers.{kind_of, line_ops}
use Rattle.line.proofs.Lines.{blank-end, unblank, no_end, undone, decimal-found, no-decimal, numbered-silent, plain-blank, plain-number, plain-none}
use borrow.Enum.Refused.{opened}
use Rattle.line.proofs.plain_line.Goals as goal

pub returns-in-End : goal.returns-in-End
returns-in-End c =
    let a = c.args in
    let d = plain-blank a.text.now (blank-end c.in-End.is c.word_at.ensures) in
    record { value = sym (ap (kind_of (length a.text.now)) d); ops_after = c.clear.ensures ∙ sym (ap (line_ops a.ops.now) d) }

pub returns-in-Decimal : goal.returns-in-Decimal
returns-in-Decimal c =
    let text = c.args.text.now in
    let ops = c.args.ops.now in
    let w = c.word_at in
    let l = c.numbered_line in
    let d = plain-number text (unblank w.result (undone c.in-Decimal.is) w.ensures) (decimal-found c.in-Decimal.is w.ensures) in
    record { value = l.ensures.value ∙ sym (ap (kind_of (length text)) d); ops_after = l.ensures.ops_after ∙ sym (numbered-silent ops c.in-Decimal.n (drop c.in-Decimal.c.at text)) ∙ sym (ap (line_ops ops) d) }

pub returns-in_default : goal.returns-in_default
returns-in_default c =
    let text = c.args.text.now in
    let w = c.word_at in
    let k = (opened c.in_default.in_default-own.keys3) in
    let i = c.immediate in
    let ks : List ℕ = 0 ∷ 2 ∷ 3 ∷ 4 ∷ 6 ∷ [] in
    let d = plain-none text (unblank w.result (no_end ks (miss ks 5 tt) k) w.ensures) (no-decimal ks w.result (miss ks 1 tt) k w.ensures) in
    record { value = i.ensures.value ∙ sym (ap (kind_of (length text)) d); ops_after = i.ensures.ops_after ∙ sym (ap (line_ops c.args.ops.now) d) }
