-- `rounds_by_table`: the table is made of a good page, before the first round.
use Rattle.std.proofs.Common.{replicate, sym, refl, ◌∙◌, arith}
use Rattle.rounds.proofs.Stamped.{behind, made, short}
use Rattle.rounds.proofs.rounds_by_table.Goals as goal

pub loop-i-init : goal.loop-i-init
loop-i-init c =
    let b = c.args.bytes.now in
    let good = sym c.is_good.ensures ∙ c.if-not-is_good.false in
    record {
      not_empty = c.requires;
      same_length = refl;
      indexed = made (behind b) (replicate 1025 0) _ good (short b (omega arith)) (omega arith) c.refill.ensures;
    }
