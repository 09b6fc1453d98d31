-- What a run leaves, and what must hold of what is lent.
use Rattle.std.specs.Prelude.{ℕ, ◌≤◌, true, List, ◌≡◌, eqb, length, if◌then◌else◌}
use Rattle.nibl.specs.Page.{is_good, places_of}
use Rattle.nibl.specs.Meaning.{World}
use Rattle.nibl.specs.Lent.{Outcome, outcome_with, answer_of}
use Rattle.nibl.specs.Record.{nowhere, paused_at, session_of}
use Rattle.nibl.specs.declared.Parts.{Parts}
use Rattle.page.specs.Standing.{Stands}
use Rattle.record.specs.Fit.{Fit}
use Rattle.run.specs.declared.Ran.{Ran}

abbrev pub ran_to : ℕ → ℕ → ℕ → ℕ → Parts → Ran
ran_to stop line steps paused parts = record { stop = record { 0 = stop }; line = line; steps = steps; paused = paused; parts = parts }

-- what a run's answer says, with all that it leaves
abbrev pub ran_in : Ran → List ℕ → List ℕ → List ℕ → List ℕ → Outcome
ran_in r vars page memory output =
    outcome_with (answer_of r.stop.0 r.line r.steps r.parts.inpos r.parts.outpos 0) (session_of r.parts vars r.paused) page memory output

-- When a run may begin: on a good page of 16-bit places, with a record that fits, from a position where a run may stand, with a
-- budget of 16 bits. The reply's slots are as many as the limit; there is an operation to each, and a value to each operation.
pub record MayRun (page ops values reply replies : List ℕ) (q budget : ℕ) (w : World) : Type 0 where
  pub places : length page ≤ 65535
  pub short : length reply ≤ 251
  pub good : is_good (length reply) page ≡ true
  pub room : length reply ≤ length ops
  pub stack : length ops ≤ length values
  pub reply_ops : length reply ≤ length replies
  pub reply_values : length replies ≤ length values
  pub fits : Fit (places_of page) w.session
  pub stands : Stands (places_of page) q
  pub steps : budget ≤ 65535

-- a run is paused where its stop is 14
abbrev pub pause_of : ℕ → ℕ → ℕ
pause_of stop q = if eqb stop 14 then paused_at q else nowhere
