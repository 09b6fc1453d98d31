use Rattle.std.proofs.Common.{◌+◌, sym, ◌∙◌, arith}
use Rattle.word.proofs.Spelled.{stands-short, stands-not}
use Rattle.word.proofs.stands.Goals as goal
use Rattle.word.proofs.stands.Goals.{then-text-k-via-then-text-k, then-text-k-via-else-text-k+then-text-k-2}

pub returns-then-text-k : goal.returns-then-text-k
returns-then-text-k c =
    let a = c.args in
    let l = c.loop-i in
    elim c.then-text-k.branch [
      | then-text-k-via-then-text-k w ↦ sym (sym l.invariant.1 ∙ stands-short a.spelling.now a.text.now l.i (a.at + l.i) (omega arith) w.if-text-k.true)
      | then-text-k-via-else-text-k+then-text-k-2 w ↦ sym (sym l.invariant.1 ∙ stands-not a.spelling.now a.text.now l.i (a.at + l.i) (omega arith) (omega arith) w.if-text-k-2.true)
    ]
