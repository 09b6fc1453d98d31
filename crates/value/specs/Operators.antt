-- What the answers of this crate stand for.
use Rattle.nibl.specs.Values as nibl
use Rattle.std.specs.Prelude.{ℕ, Result, Ok, Err}
use Rattle.nibl.specs.declared.stop.Stop.{Stop}

-- a value, or the stop number of the refusal
abbrev pub value_of : Result ℕ Stop → nibl.Value
value_of (Ok v) = nibl.is v
value_of (Err s) = nibl.no s.0
