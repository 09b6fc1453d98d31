-- One statement more: what a call of one or more steps leaves, by the same call with one step less, which pauses before the last statement.
use Rattle.std.specs.Prelude.{ℕ, suc, ◌+◌, ◌<◌, ◌≡◌, List}
use Rattle.nibl.specs.Tree.{Typed}
use Rattle.nibl.specs.Typing.{Gathered}
use Rattle.nibl.specs.Meaning.{World, Env, Next, on, skip, go, stop, done, with_session, exec}
use Rattle.nibl.specs.Lent.{Lent, Outcome, no_line, stops}
use Rattle.nibl.specs.Runs.{env_at}
use Rattle.nibl.specs.Typing.{limit}
use Rattle.nibl.specs.Lent.{begun as world_begun, lent_env}
use Rattle.nibl.specs.Record.{nowhere, paused_at, with_paused, unpaused}
use Rattle.demands.specs.Leaves.{WholeItems}
use Rattle.demands.specs.ItemsIn.{OwnItem}
use Rattle.demands.specs.Reading.{Standing, NextAt, PastTheLast}

-- what a paused call left, as its next statement finds it
abbrev pub world_left : Outcome → World
world_left o = record { session = unpaused o.session; memory = o.memory; output = o.output; outpos = o.answer.outpos; inpos = o.answer.inpos }

-- where a run goes on after a member that ended so: p is its place, cr its record's CR
pub data GoesTo (p cr : ℕ) : Next → ℕ → Type 0 where
  after_it : GoesTo p cr on (suc p)
  after_record : GoesTo p cr skip (suc cr)
  jumps : {q : ℕ} → GoesTo p cr (go q) q

-- how a call ends whose last member ended so, and left this world
pub data EndsCall (page : List ℕ) (p cr : ℕ) (how : Next) (after : World) (budget : ℕ) (o : Outcome) : Type 0 where
  -- the statement gave the stop
  halts : how ≡ stop o.answer.stop → (o.answer.stop ≡ 14 → ⊥) → o.session ≡ after.session → EndsCall page p cr how after budget o
  -- "past the last line": nothing is left where it goes on
  runs_out : (q : ℕ) → GoesTo p cr how q → PastTheLast page q → o.answer.stop ≡ 0 → o.session ≡ after.session → EndsCall page p cr how after budget o
  -- "budget spent and a statement still to run: paused", there
  pauses : (q : ℕ) (x : Standing) → GoesTo p cr how q → NextAt page q x → o.answer.stop ≡ 14 → o.answer.steps ≡ budget
      → o.session ≡ with_paused after.session (paused_at q) → EndsCall page p cr how after budget o

-- o is what one statement more makes of what o' left
pub record OneMore (e : Env) (budget : ℕ) (o' o : Outcome) : Type 0 where
  pub paused : o'.answer.stop ≡ 14
  -- the member that is next where it paused
  pub at : ℕ
  pub waits : o'.session.paused ≡ paused_at at
  pub last : Standing
  pub next : NextAt e.page at last
  -- what it did
  pub how : Next
  pub after : World
  pub runs : exec (env_at e last.place) last.statement (world_left o') ≡ done how after
  pub stops : (o.answer.stop ≡ 0 → ⊥) → (o.answer.stop ≡ 14 → ⊥) → how ≡ stop o.answer.stop
  -- the answer's line is that of its record, and not the number of none
  pub line : (o.answer.stop ≡ 0 → ⊥) → (o.answer.stop ≡ 14 → ⊥) → o.answer.line ≡ last.line
  pub named : last.line < no_line
  -- how the call ended
  pub clear : after.session.paused ≡ nowhere
  pub ends : EndsCall e.page last.place last.cr how after budget o
  -- what it did is what the call leaves
  pub session : unpaused o.session ≡ after.session
  pub page : o.page ≡ o'.page
  pub memory : o.memory ≡ after.memory
  pub output : o.output ≡ after.output
  pub outpos : o.answer.outpos ≡ after.outpos
  pub inpos : o.answer.inpos ≡ after.inpos

-- what a call leaves whose run, from q on in the world w, made no step: nothing was left to run, or the budget is 0
pub data NoStepMade (page : List ℕ) (budget q : ℕ) (w : World) (o : Outcome) : Type 0 where
  nothing_left : PastTheLast page q → o ≡ stops 0 w page → NoStepMade page budget q w o
  paused_at_once : (x : Standing) → NextAt page q x → budget ≡ 0 → o ≡ stops 14 (with_session w (with_paused w.session (paused_at q))) page → NoStepMade page budget q w o

-- A typed line's own refusal: the record but for its pause, the page and the memory are as before; the output only grows by whole items of the line's own; of
-- the input the line is taken, and no more
pub record RefusedLine (x : Lent) (g : Gathered) (y : Typed) (o : Outcome) : Type 0 where
  pub session : o.session ≡ unpaused x.session
  pub page : o.page ≡ x.page
  pub memory : o.memory ≡ x.memory
  pub items : WholeItems (OwnItem (lent_env limit x) (world_begun x g.taken) y) x.output x.call.outpos o.output o.answer.outpos
  pub inpos : o.answer.inpos ≡ x.call.inpos + g.taken
  pub steps : o.answer.steps ≡ 0

-- Where the run of a call stands at its end: where it began, if it made no step, or where its last member goes on. A run that a statement stopped stands
-- nowhere. From is where the call begins a run, o' what it leaves with one step less
pub data StandsAt (From : ℕ → World → Type 0) (e : Env) (budget : ℕ) (o' o : Outcome) : ℕ → Type 0 where
  begun : {q : ℕ} {w : World} → From q w → o.answer.steps ≡ 0 → StandsAt From e budget o' o q
  later : {q : ℕ} (m : OneMore e budget o' o) → GoesTo m.last.place m.last.cr m.how q → StandsAt From e budget o' o q

-- a statement is left to run: the one that is next there
pub record LeftToRun (From : ℕ → World → Type 0) (e : Env) (budget : ℕ) (o' o : Outcome) : Type 0 where
  pub at : ℕ
  pub waiting : Standing
  pub stands : StandsAt From e budget o' o at
  pub next : NextAt e.page at waiting
