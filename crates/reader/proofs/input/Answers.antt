-- `reader::input` meets its contract. Assumes nothing.
use native.Mathlib.Omega.{arith}
use Rattle.reader.proofs.Spending.{room-low, room-key}
use mathlib.Core.Path.{ap}
use Rattle.std.specs.Prelude.{is_some}
use Rattle.reader.proofs.Heads.{key-stood, key-unless}
use Rattle.reader.proofs.Ways.{input-text, input-variables}
use Rattle.reader.proofs.input.Goals as goal

pub returns-in-Some : goal.returns-in-Some
returns-in-Some c = input-text (key-stood (ap is_some c.in-Some.is) c.past_sign-m.ensures) c.with_factor.ensures

pub returns-in-None : goal.returns-in-None
returns-in-None c = input-variables (key-unless (ap is_some c.in-None.is) c.past_sign-m.ensures) c.counted_variables.ensures

pub with_factor-requires : goal.with_factor-requires
with_factor-requires c = room-low (omega arith) (room-key c.requires c.past_sign-m.ensures)
