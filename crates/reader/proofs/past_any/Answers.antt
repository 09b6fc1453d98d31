-- `reader::past_any` meets its contract. Assumes nothing.
use Rattle.reader.proofs.Heads.{key-may}
use Rattle.reader.proofs.past_any.Goals as goal

pub returns : goal.returns
returns c = rw c.or.ensures (key-may c.past_sign.ensures)
