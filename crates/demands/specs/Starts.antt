-- How a typed line ends where nothing runs, and where a run begins.
use Rattle.std.specs.Prelude.{ℕ, ◌≡◌, false}
use Rattle.nibl.specs.Tree.{Stmt, run, immediate}
use Rattle.nibl.specs.Typing.{Gathered}
use Rattle.nibl.specs.Readings.{LineReading}
use Rattle.nibl.specs.Meaning.{World, Next, on, skip, go, stop, done, exec}
use Rattle.nibl.specs.Record.{paused_at}
use Rattle.nibl.specs.Lent.{Lent, Outcome}
use Rattle.nibl.specs.Runs.{run_from, run_outcome}
use Rattle.nibl.specs.Typing.{limit}
use Rattle.nibl.specs.Lent.{begun, lent_env}
use Rattle.nibl.specs.FirstRefusals.{first_refusal}
use Rattle.nibl.specs.Calls.{needs_program}
use Rattle.demands.specs.Lent.{Typing}
use Rattle.demands.specs.Leaves.{world_cleared}

-- an immediate statement that ends its line, and the stop: done, a false IF, or its own stop
pub data Settles : Next → ℕ → Type 0 where
  goes_on : Settles on 0
  skips : Settles skip 0
  gives : {n : ℕ} → Settles (stop n) n

-- the typed line g starts a run at the position q of the page, in the world w
pub data Starts (lim : ℕ) (x : Lent) (g : Gathered) : ℕ → World → Type 0 where
  -- "RUN does CLEAR and starts at the first line"
  by_run_command : LineReading g.line.bytes run → Starts lim x g 0 (world_cleared x g.taken)
  -- an immediate statement that goes to the program: where it goes, in the world that it leaves
  by_statement : {q : ℕ} {w : World} (s : Stmt) → LineReading g.line.bytes (immediate s) → needs_program s ≡ false
      → exec (lent_env lim x) s (begun x g.taken) ≡ done (go q) w → Starts lim x g q w

-- past the first refusals, a whole line was typed that starts a run
pub data StartsTyped (lim : ℕ) (x : Lent) : ℕ → World → Type 0 where
  typed : {q : ℕ} {w : World} (g : Gathered) → Typing lim x g → Starts lim x g q w → StartsTyped lim x q w

-- past the first refusals, a run was paused: it goes on there, in the world as it was lent, its pause ended
pub data StartsPaused (lim : ℕ) (x : Lent) : ℕ → World → Type 0 where
  paused : {q : ℕ} → first_refusal lim x ≡ 0 → x.session.paused ≡ paused_at q → StartsPaused lim x q (begun x 0)

-- what the run from there leaves
abbrev pub ran_from : Lent → ℕ → World → Outcome
ran_from x q w = run_outcome (run_from x.call.budget (lent_env limit x) q w) x.page
