-- What the first refusals answer, and what a call does past them.
use Rattle.std.specs.Prelude.{ℕ, zero, suc, Bool, drop, Result, Ok, Err, if◌then◌else◌}
use Rattle.nibl.specs.Typing.{gather}
use Rattle.nibl.specs.Lent.{Lent, Outcome}
use Rattle.nibl.specs.Typing.{limit}
use Rattle.nibl.specs.Calls.{obey_line, continue_from}
use Rattle.nibl.specs.declared.stop.Stop.{Stop}

-- the answer of the first refusals, whose number is 0 for none
abbrev pub refusal_of : ℕ → Result (Unit {0}) Stop
refusal_of zero = Ok tt
refusal_of (suc n) = Err (record { 0 = suc n })

-- it obeys the line that was typed, or lets a paused run go on
abbrev pub past_refusals : Bool → Lent → Outcome
past_refusals typed x =
    if typed then obey_line limit x (gather limit (drop x.call.inpos x.input))
    else continue_from limit x x.session.paused
