use Prim.Native.Nat.{ℕ}
use mathlib.Core.Path.{sym, ap, ◌∙◌}
use lib.ListN.{length, replicate}
use native.Mathlib.Omega.{arith}
use Rattle.std.specs.Prelude.{is_ok}
use Rattle.line.specs.Answers.{kind_of, line_ops}
use Rattle.line.proofs.Lists.{room_for, no-first, first}
use Rattle.line.proofs.Lines.{immediate-none, immediate-one, immediate-more, count_fits, immediate-needs, left-none, left_one}
use Rattle.line.proofs.immediate.Goals as goal

pub returns-in_default : goal.returns-in_default
returns-in_default c =
    let text = c.args.text.now in
    let ops = c.args.ops.now in
    let e = (no-first text ops _ c.requires c.read_member.ensures.value (ap is_ok c.in_default.is)) in
    let d = immediate-none text e in
    record { value = sym (ap (kind_of (length text)) d); ops_after = left-none text ops c.requires c.read_member.ensures.ops_after e ∙ sym (ap (line_ops ops) d) }

pub returns-then-left-ne0 : goal.returns-then-left-ne0
returns-then-left-ne0 c =
    let text = c.args.text.now in
    let ops = c.args.ops.now in
    let d = immediate-more text (first text ops _ c.requires c.read_member.ensures.value c.in-Ok.is) c.if-left-ne0.true in
    record { value = sym (ap (kind_of (length text)) d); ops_after = c.clear.ensures ∙ ap (λ (n : ℕ). replicate n 0) c.read_member.auto.ops ∙ sym (ap (line_ops ops) d) }

pub needs_program-requires : goal.needs_program-requires
needs_program-requires c =
    let text = c.args.text.now in
    let ops = c.args.ops.now in
    omega (arith, count_fits text (first text ops _ c.requires c.read_member.ensures.value c.in-Ok.is), room_for text ops c.requires, c.read_member.auto.ops)

pub returns : goal.returns
returns c =
    let text = c.args.text.now in
    let ops = c.args.ops.now in
    let f = (first text ops _ c.requires c.read_member.ensures.value c.in-Ok.is) in
    let d = immediate-one text f c.if-left-ne0.false in
    let w = left_one text ops c.requires c.read_member.ensures.ops_after f in
    record { value = immediate-needs text f ops (room_for text ops c.requires).0 w c.needs_program.ensures ∙ sym (ap (kind_of (length text)) d); ops_after = w ∙ sym (ap (line_ops ops) d) }
