-- `reader::print_end` meets its contract. Assumes nothing.
use mathlib.Core.Path.{ap}
use Rattle.std.specs.Prelude.{is_some}
use Rattle.reader.proofs.Heads.{key-stood, key-unless}
use Rattle.reader.proofs.Ways.{end-semicolon, end_line}
use Rattle.reader.proofs.print_end.Goals as goal

pub returns-in-Some : goal.returns-in-Some
returns-in-Some c = end-semicolon (key-stood (ap is_some c.in-Some.is) c.past_sign-m.ensures)

pub returns-in-None : goal.returns-in-None
returns-in-None c = end_line (key-unless (ap is_some c.in-None.is) c.past_sign-m.ensures) c.write.ensures
