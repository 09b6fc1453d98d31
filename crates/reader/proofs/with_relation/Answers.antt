-- `reader::with_relation` meets its contract. Assumes nothing.
use Rattle.nibl.specs.found.Read.{relation}
use Rattle.reader.proofs.Ways.{with-is}
use Rattle.reader.proofs.with_relation.Goals as goal

pub returns : goal.returns
returns c = with-is relation c.read_relation-e.ensures c.write.ensures
