use Rattle.std.proofs.Common.{◌+◌, ◌/◌, [], ◌∷◌, arith}
use Rattle.value.proofs.Digits.{digits-few}
use Rattle.value.proofs.Putting.{putting-none, putting-turn}
use Rattle.value.proofs.Writing.{part-sets}
use Rattle.value.proofs.put_digits.Goals as goal

pub loop-next-init : goal.loop-next-init
loop-next-init c = putting-none c.args.rest.now c.args.count c.args.n c.requires.0 (omega arith) c.requires.1

pub front_power-power-requires : goal.front_power-power-requires
front_power-power-requires c = (omega arith, omega (arith, c.requires.0, digits-few c.args.n))

pub loop-next-preserved : goal.loop-next-preserved
loop-next-preserved c =
    let l = c.loop-next in
    let h = c.loop-next-test.true in
    rw (c.put_digit.ensures, part-sets l.rest ((48 + l.left / c.front_power-power.result) ∷ []) l.next (omega (arith, l.invariant.room)))
    (putting-turn l.invariant h c.front_power-power.ensures)
