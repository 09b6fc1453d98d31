-- `reader::with_factor` meets its contract. Assumes nothing.
use Rattle.nibl.specs.found.Read.{factor}
use Rattle.reader.proofs.Ways.{with-is}
use Rattle.reader.proofs.with_factor.Goals as goal

pub returns : goal.returns
returns c = with-is factor c.read_factor-e.ensures c.write.ensures
