use native.Mathlib.Omega.{arith}
use Rattle.relation.proofs.Signs.{stood-over}
use Rattle.reader.proofs.Heads.{key-stood, key-unless}
use Rattle.reader.proofs.Ways.{items-on, items-end}
use Rattle.reader.proofs.items.Goals as goal

pub returns-then-is_none : goal.returns-then-is_none
returns-then-is_none c =
    items-end c.loop-m.invariant c.item-a.ensures (key-unless c.if-is_none.ensures c.past_sign-m.ensures)

pub loop-m-preserved : goal.loop-m-preserved
loop-m-preserved c =
    items-on c.loop-m.invariant c.item-a.ensures (key-stood c.if-is_none.ensures c.past_sign-m.ensures) c.item-a.auto.ops

pub loop-m-smaller : goal.loop-m-smaller
loop-m-smaller c = omega (arith, c.item-a.ensures.low, (stood-over (key-stood c.if-is_none.ensures c.past_sign-m.ensures)).low)
