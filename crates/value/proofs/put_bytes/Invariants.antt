-- `put_bytes` meets its contract. The loop's invariant: so many of the bytes stand there. Assumes nothing.
use Rattle.std.proofs.Common.{◌≡◌, take}
use Rattle.value.proofs.put_bytes.Given as goal

abbrev pub invariant-loop-i : goal.invariant-loop-i
invariant-loop-i l = take l.i l.to ≡ take l.i l.from
