-- `reader::step` meets its contract. Assumes nothing.
use native.Mathlib.Omega.{arith}
use Rattle.reader.proofs.Spending.{room-low, room-key}
use mathlib.Core.Path.{ap}
use Rattle.std.specs.Prelude.{is_some}
use Rattle.reader.proofs.Heads.{key-stood, key-unless}
use Rattle.reader.proofs.Ways.{step-some, step-none}
use Rattle.reader.proofs.step.Goals as goal

pub returns-in-Some : goal.returns-in-Some
returns-in-Some c = step-some (key-stood (ap is_some c.in-Some.is) c.past_sign-m.ensures) c.read_relation.ensures

pub returns-in-None : goal.returns-in-None
returns-in-None c = step-none (key-unless (ap is_some c.in-None.is) c.past_sign-m.ensures) c.write.ensures

pub read_relation-requires : goal.read_relation-requires
read_relation-requires c = (room-low {i = 0} (omega arith) (room-key c.requires c.past_sign-m.ensures)).fits
