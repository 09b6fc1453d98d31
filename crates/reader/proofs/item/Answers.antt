-- `reader::item` meets its contract. Assumes nothing.
use mathlib.Core.Path.{subst}
use native.Mathlib.Omega.{arith}
use Rattle.nibl.specs.Words.{number}
use Rattle.reader.specs.Forms.{KindIs}
use Rattle.reader.proofs.Heads.{heads-sign, text-heads, stood-unless, plain, sign-unstring}
use Rattle.reader.proofs.Ways.{string_fits, item-text, item-stored, item-value}
use Rattle.reader.proofs.item.Goals as goal
use Rattle.reader.proofs.item.Goals.{in_default-via-in-Sign+in_default, in_default-via-in_default}

pub with_text-requires : goal.with_text-requires
with_text-requires c =
    let h = (subst (KindIs _ _) c.in-Text.is c.kind_at.ensures) in
    (string_fits c.requires (text-heads h), omega arith)

pub returns-in-Text : goal.returns-in-Text
returns-in-Text c = item-text c.count-n.ensures (text-heads (subst (KindIs _ _) c.in-Text.is c.kind_at.ensures)) c.with_text.ensures

pub returns-in-Sign-eq36-default : goal.returns-in-Sign-eq36-default
returns-in-Sign-eq36-default c =
    let h = (subst (KindIs _ _) c.in-Sign-eq36-default.is c.kind_at.ensures) in
    item-stored c.in-Sign-eq36-default.field-0-test (sign-unstring h) h c.with_factor.ensures

pub returns-in_default : goal.returns-in_default
returns-in_default c =
    elim c.in_default.branch [ in_default-via-in-Sign+in_default w ↦ let h = w.in_default.ensures in item-value (sign-unstring h) (stood-unless (number "$") w.in_default.field-0-test.1 (heads-sign h)) c.with_relation.ensures | in_default-via-in_default w ↦ let h = plain (number "$") c.kind_at.result c.kind_at.ensures w.in_default.in-Variable-own.keys3 in item-value h.0 h.1 c.with_relation.ensures ]
