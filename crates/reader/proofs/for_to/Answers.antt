-- `reader::for_to` meets its contract. Assumes nothing.
use borrow.Enum.Refused.{opened}
use mathlib.Core.Path.{subst}
use native.Mathlib.Omega.{arith}
use Rattle.reader.specs.Forms.{KindIs}
use Rattle.relation.proofs.Signs.{stood-over}
use Rattle.reader.proofs.Spending.{room-low, room-over, room-key, room-reads, room-spent, room-write}
use Rattle.reader.proofs.Heads.{heads-variable, unvariable}
use Rattle.reader.proofs.Ways.{for-is, for-none}
use Rattle.reader.proofs.for_to.Goals as goal

pub returns-in_default : goal.returns-in_default
returns-in_default c = for-none (unvariable c.kind_at.result c.kind_at.ensures (opened c.in_default.in_default-own.keys2))

pub read_relation-a-requires : goal.read_relation-a-requires
read_relation-a-requires c =
    let h = heads-variable (subst (KindIs _ _) c.in-Variable.is c.kind_at.ensures) in
    let a = room-key (room-over c.requires (stood-over h)) c.past_sign-e.ensures in
    (room-low {i = 0} (omega arith) a).fits

pub read_relation-b-requires : goal.read_relation-b-requires
read_relation-b-requires c =
    let h = heads-variable (subst (KindIs _ _) c.in-Variable.is c.kind_at.ensures) in
    let a = room-key (room-over c.requires (stood-over h)) c.past_sign-e.ensures in
    let b = room-key (room-reads a c.read_relation-a.ensures c.read_relation-a.auto.ops) c.past_sign-t.ensures in
    (room-low {i = 0} (omega arith) b).fits

pub step-s-requires : goal.step-s-requires
step-s-requires c =
    let h = heads-variable (subst (KindIs _ _) c.in-Variable.is c.kind_at.ensures) in
    let a = room-key (room-over c.requires (stood-over h)) c.past_sign-e.ensures in
    let b = room-key (room-reads a c.read_relation-a.ensures c.read_relation-a.auto.ops) c.past_sign-t.ensures in
    let d = room-reads b c.read_relation-b.ensures c.read_relation-b.auto.ops in
    room-low (omega arith) d

pub write-requires : goal.write-requires
write-requires c =
    let h = heads-variable (subst (KindIs _ _) c.in-Variable.is c.kind_at.ensures) in
    let a = room-key (room-over c.requires (stood-over h)) c.past_sign-e.ensures in
    let b = room-key (room-reads a c.read_relation-a.ensures c.read_relation-a.auto.ops) c.past_sign-t.ensures in
    let d = room-reads b c.read_relation-b.ensures c.read_relation-b.auto.ops in
    room-write (room-spent {j = 2} (omega arith) d c.step-s.ensures c.step-s.auto.ops)

pub returns : goal.returns
returns c =
    let h = heads-variable (subst (KindIs _ _) c.in-Variable.is c.kind_at.ensures) in
    for-is (omega (arith, c.operation.ensures)) h c.past_sign-e.ensures c.read_relation-a.ensures c.past_sign-t.ensures c.read_relation-b.ensures c.step-s.ensures c.write.ensures
