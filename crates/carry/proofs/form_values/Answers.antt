use Rattle.std.proofs.Common.{ℕ, ◌+◌, sym, subst, set, arith}
use Rattle.carry.proofs.Values.{Taking, taking-turn}
use Rattle.carry.proofs.form_values.Goals as goal

pub loop-i-preserved : goal.loop-i-preserved
loop-i-preserved c =
    let l = c.loop-i in
    subst (λ (v : ℕ). Taking c.args.form.now (set l.x-items l.i v) (l.i + 1)) (sym c.number_at.ensures) (taking-turn l.invariant (omega (arith, l.invariant.long)))
