-- `put_digits` meets its contract. The loop's invariant: `Putting`. Assumes nothing.
use Rattle.value.specs.Digits.{Putting}
use Rattle.value.proofs.put_digits.Given as goal

abbrev pub invariant-loop-next : goal.invariant-loop-next
invariant-loop-next l = Putting l.initial.rest l.count l.n l.rest l.left l.next
