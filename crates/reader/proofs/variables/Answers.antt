use native.Mathlib.Omega.{arith}
use Rattle.relation.proofs.Signs.{stood-over}
use Rattle.reader.proofs.Heads.{key-stood, key-unless}
use Rattle.reader.proofs.Ways.{variables-on, variables-end}
use Rattle.reader.proofs.variables.Goals as goal

pub returns-then-is_none : goal.returns-then-is_none
returns-then-is_none c =
    variables-end c.loop-m.invariant c.with_variable-v.ensures (key-unless c.if-is_none.ensures c.past_sign-m.ensures)

pub loop-m-preserved : goal.loop-m-preserved
loop-m-preserved c =
    variables-on c.loop-m.invariant c.with_variable-v.ensures (key-stood c.if-is_none.ensures c.past_sign-m.ensures) c.with_variable-v.auto.ops

pub loop-m-smaller : goal.loop-m-smaller
loop-m-smaller c = omega (arith, c.with_variable-v.ensures.low, (stood-over (key-stood c.if-is_none.ensures c.past_sign-m.ensures)).low)
