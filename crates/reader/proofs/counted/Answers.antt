-- `reader::counted` meets its contract. Assumes nothing.
use Rattle.reader.proofs.Ways.{counted_none, counted-unread, counted_next}
use Rattle.reader.proofs.counted.Goals as goal

pub returns-in_err-o : goal.returns-in_err-o
returns-in_err-o c = rw c.from_residual.ensures (counted_none c.in_err-o.was)

pub returns-in_err-n : goal.returns-in_err-n
returns-in_err-n c = rw c.from_residual-in_err-n.ensures (counted-unread c.in_err-n.was)

pub returns : goal.returns
returns c = counted_next c.in_ok-o.was c.in_ok-n.was c.count.ensures
