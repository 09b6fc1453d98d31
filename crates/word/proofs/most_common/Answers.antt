use Rattle.std.proofs.Common.{arith}
use Rattle.word.proofs.Partings.{most_one}
use Rattle.word.proofs.most_common.Goals as goal

pub loop-k-init : goal.loop-k-init
loop-k-init c = (omega arith, omega (arith, most_one c.args.keys.now c.args.text.now))
