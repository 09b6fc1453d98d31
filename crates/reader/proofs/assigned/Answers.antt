-- `reader::assigned` meets its contract. Assumes nothing.
use Rattle.reader.proofs.Ways.{assigned-is}
use Rattle.reader.proofs.assigned.Goals as goal

pub returns : goal.returns
returns c = assigned-is _ c.past_sign-e.ensures c.with_relation.ensures
