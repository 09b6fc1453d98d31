use Rattle.std.proofs.Common.{arith, sym, ◌∙◌}
use Rattle.word.proofs.Partings.{part-spelled, part-other}
use Rattle.word.proofs.common.Goals as goal
use Rattle.word.proofs.common.Goals.{then-k-eq0-via-then-k-eq0, then-k-eq0-via-else-k-eq0+then-k-from}

pub returns-then-k-eq0 : goal.returns-then-k-eq0
returns-then-k-eq0 c =
    let text = c.args.text.now in
    let l = c.loop-i in
    elim c.then-k-eq0.branch [
      | then-k-eq0-via-then-k-eq0 w ↦ omega (arith, l.invariant, part-spelled text l.k l.i (omega arith) w.if-k-eq0.true)
      | then-k-eq0-via-else-k-eq0+then-k-from w ↦
          omega (arith, l.invariant, part-other text l.k l.i (omega arith) w.if-k-eq0.false (λ e. w.if-k-from.true (e ∙ sym w.from.ensures)))
    ]
