-- `put_program` meets its contract: the records, and the end mark behind them. Assumes nothing.
use Rattle.carry.proofs.Forms.{program-put}
use Rattle.carry.proofs.put_program.Goals as goal

pub returns : goal.returns
returns c = rw c.put_bytes.ensures (program-put c.args.page.now c.args.records.now c.requires)
