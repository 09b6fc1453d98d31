use Rattle.std.proofs.Common.{◌+◌, ◌-◌, ◌≡◌, length, arith}
use Rattle.word.proofs.Keys.{key_more, key_fits, key-grows}
use Rattle.word.proofs.key.Goals as goal

pub overflow_mul-k : goal.overflow_mul-k
overflow_mul-k c = let l = c.loop-i in omega (arith, key_fits _ l.k l.invariant.2 (omega arith))

pub overflow_add-k : goal.overflow_add-k
overflow_add-k c =
    let l = c.loop-i in
    omega (arith, key_fits _ l.k l.invariant.2 (omega arith), c.from.ensures, c.type_inv.letters (l.i - 1))

pub loop-i-preserved : goal.loop-i-preserved
loop-i-preserved c =
    let s = c.args.letters.now in
    let l = c.loop-i in
    let e : l.i - 1 + 1 ≡ l.i = omega arith in
    (omega arith, rw c.from.ensures (key_more s (l.i - 1) l.k (omega arith) (rw e l.invariant.1)), key-grows l.i (length s) l.k c.from.result (omega arith) (omega arith) (omega (arith, c.from.ensures, c.type_inv.letters (l.i - 1))) l.invariant.2)
