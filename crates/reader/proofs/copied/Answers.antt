-- `reader::copied` meets its contract. Assumes nothing.
use borrow.Enum.Refused.{opened}
use mathlib.Core.Path.{subst}
use native.Mathlib.Omega.{arith}
use Rattle.codes.specs.Codes.{code_string_byte}
use Rattle.reader.specs.Forms.{KindIs}
use Rattle.reader.proofs.Spending.{room-key}
use Rattle.reader.proofs.Heads.{unstring, text-heads}
use Rattle.reader.proofs.Ways.{copy-text, string_fits, string-more, copy-other}
use Rattle.reader.proofs.copied.Goals as goal

pub with_text-t-requires : goal.with_text-t-requires
with_text-t-requires c =
    let h = (subst (KindIs _ _) c.in-Text.is c.kind_at.ensures) in
    (string_fits c.requires (text-heads h), omega arith)

pub write-requires : goal.write-requires
write-requires c =
    let h = (subst (KindIs _ _) c.in-Text.is c.kind_at.ensures) in
    string-more code_string_byte c.requires (text-heads h) c.with_text-t.ensures c.with_text-t.auto.ops

pub with_factor-requires : goal.with_factor-requires
with_factor-requires c = room-key c.requires c.past_sign-d.ensures

pub returns-in-Text : goal.returns-in-Text
returns-in-Text c =
    copy-text c.count-n.ensures (text-heads (subst (KindIs _ _) c.in-Text.is c.kind_at.ensures)) c.with_text-t.ensures c.write.ensures

pub returns-in_default : goal.returns-in_default
returns-in_default c =
    copy-other (unstring c.kind_at.result c.kind_at.ensures (opened c.in_default.in_default-own.keys2)) c.past_sign-d.ensures c.with_factor.ensures
