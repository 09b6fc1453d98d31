use mathlib.Core.Path.{◌∙◌}
use Rattle.reader.proofs.Ways.{put-on}
use Rattle.reader.proofs.put_text.Goals as goal

pub loop-i-preserved : goal.loop-i-preserved
loop-i-preserved c =
    put-on c.args.code c.args.bytes.now c.loop-i.ops c.args.o c.loop-i.i c.loop-i-test.true c.operation.ensures c.from.ensures ∙ c.loop-i.invariant
