-- A run over the grammar, statement by statement: each step is the member that is next, in the world in which the run stands there; and what it writes.
use Rattle.std.specs.Prelude.{ℕ, suc, ◌≡◌, List}
use Rattle.nibl.specs.Tree.{Typed}
use Rattle.nibl.specs.Readings.{LineReading}
use Rattle.nibl.specs.Typing.{Gathered}
use Rattle.nibl.specs.Meaning.{World, Env, Next, stop, done, exec}
use Rattle.nibl.specs.Lent.{Lent, Outcome}
use Rattle.nibl.specs.Runs.{Ran, ran, stepped, env_at, run_outcome}
use Rattle.nibl.specs.Typing.{limit}
use Rattle.nibl.specs.Lent.{begun, lent_env}
use Rattle.demands.specs.ItemsIn.{ItemIn, StatementWrote, OwnItem}
use Rattle.demands.specs.Reading.{Standing, NextAt, PastTheLast}
use Rattle.demands.specs.Starts.{Starts, StartsPaused}
use Rattle.demands.specs.Steps.{GoesTo}

-- one step: the member that is next at q runs in the world w, ends so, and leaves the world u
pub record OneStep (e : Env) (q : ℕ) (w : World) (x : Standing) (how : Next) (u : World) : Type 0 where
  pub next : NextAt e.page q x
  pub does : exec (env_at e x.place) x.statement w ≡ done how u
  pub writes : StatementWrote (env_at e x.place) x.statement w u

-- a run from the position q in the world w, within the budget k, and how it ended
pub data Runs (e : Env) : ℕ → ℕ → World → Ran → Type 0 where
  -- "past the last line it is 0 at any budget"
  over : {k q : ℕ} {w : World} → PastTheLast e.page q → Runs e k q w (ran 0 q w)
  -- "budget spent and a statement still to run: paused"
  pauses : {q : ℕ} {w : World} {x : Standing} → NextAt e.page q x → Runs e 0 q w (ran 14 q w)
  -- a step that gives the stop
  halts : {k q n : ℕ} {w u : World} {x : Standing} → OneStep e q w x (stop n) u → Runs e (suc k) q w (stepped x.line (ran n x.place u))
  -- a step, and the run from where it goes on
  goes_on : {k q q' : ℕ} {w u : World} {x : Standing} {how : Next} {r : Ran} → OneStep e q w x how u → GoesTo x.place x.cr how q' → Runs e k q' u r
      → Runs e (suc k) q w (stepped x.line r)

-- what a call leaves that runs from q on in the world w
pub record LeavesRun (x : Lent) (q : ℕ) (w : World) (o : Outcome) : Type 0 where
  pub ran : Ran
  pub runs : Runs (lent_env limit x) x.call.budget q w ran
  pub leaves : o ≡ run_outcome ran x.page

-- the run from q in the world w comes to q' in w', a step at a time
pub data Comes (e : Env) (q : ℕ) (w : World) : ℕ → World → Type 0 where
  begins : Comes e q w q w
  steps : {q' q'' : ℕ} {w' u : World} {x : Standing} {how : Next} → Comes e q w q' w' → OneStep e q' w' x how u → GoesTo x.place x.cr how q'' → Comes e q w q'' u

-- an item that the run from q in the world w writes: one of the member that is next where it comes to, in the world in which it stands there
pub data ProgramItem (e : Env) (q : ℕ) (w : World) : List ℕ → Type 0 where
  of_step : {bs : List ℕ} {q' : ℕ} {w' : World} {x : Standing} → Comes e q w q' w' → NextAt e.page q' x → ItemIn (env_at e x.place) w' x.statement bs
      → ProgramItem e q w bs

-- an item of the typed line g, its own or of the run that it begins
pub data LineItem (x : Lent) (g : Gathered) : List ℕ → Type 0 where
  of_typed : {bs : List ℕ} (y : Typed) → LineReading g.line.bytes y → OwnItem (lent_env limit x) (begun x g.taken) y bs → LineItem x g bs
  of_program : {q : ℕ} {w : World} {bs : List ℕ} → Starts limit x g q w → ProgramItem (lent_env limit x) q w bs → LineItem x g bs

-- an item of the run that was paused
pub data PausedItem (x : Lent) : List ℕ → Type 0 where
  of_paused : {q : ℕ} {w : World} {bs : List ℕ} → StartsPaused limit x q w → ProgramItem (lent_env limit x) q w bs → PausedItem x bs
