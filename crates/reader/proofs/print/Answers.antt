-- `reader::print` meets its contract. Assumes nothing.
use Rattle.reader.proofs.Ways.{print-is}
use Rattle.reader.proofs.print.Goals as goal

pub returns : goal.returns
returns c = print-is c.items-a.ensures c.print_end.ensures
