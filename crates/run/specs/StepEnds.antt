-- A step of a run, and what a run leaves that goes on after so many.
use Rattle.std.specs.Prelude.{ℕ, suc, ◌+◌, List, length}
use Rattle.std.specs.Prelude.{Result, Ok, Err}
use Rattle.nibl.specs.declared.Onward.{Onward}
use Rattle.nibl.specs.declared.stop.Stop.{Stop}
use Rattle.nibl.specs.Meaning.{World, Env, Next, on, skip, go, stop, Done, done, exec}
use Rattle.nibl.specs.Lent.{Outcome, outcome}
use Rattle.nibl.specs.Runs.{Ran, ran, Standing, stop_at, pausing, env_at}
use Rattle.nibl.specs.Record.{position_of}

-- Where a step leads, the place that ends its statement, and the world then
pub record StepEnd : Type 0 where
  pub next : Next
  pub at : ℕ
  pub world : World

abbrev pub led_to : Result Onward Stop → Next
led_to (Ok o) = go (position_of o)
led_to (Err s) = stop s.0

abbrev pub step_end : Next → ℕ → World → StepEnd
step_end n p w = record { next = n; at = p; world = w }

-- p is the statement's place, cr that of its record's CR
abbrev pub next_after : Next → ℕ → ℕ → Next
next_after on p cr = go (suc p)
next_after skip p cr = go (suc cr)
next_after (go q) p cr = go q
next_after (stop n) p cr = stop n

abbrev pub done_end : Done → ℕ → ℕ → StepEnd
done_end (done n w) p cr = step_end (next_after n p cr) p w

unfoldable pub step_of : Env → Standing → World → StepEnd
step_of e x w = done_end (exec (env_at e x.place) x.statement w) x.place x.cr

-- the run after a step
abbrev pub follow : StepEnd → (ℕ → World → Ran) → Ran
follow t k = elim t.next [ on ↦ ran 5 t.at t.world | skip ↦ ran 5 t.at t.world | go q ↦ k q t.world | stop n ↦ ran n t.at t.world ]

-- what a run leaves whose steps come after so many
abbrev pub tally : ℕ → Ran → List ℕ → Outcome
tally steps r page = outcome r.stop (stop_at r.stop r.lines) (steps + length r.lines) (pausing r.stop r.at r.world) page
