-- The words of the definition that the sentences on it use, written out: what a statement sees, the world that a line begins in, what a stop leaves, what is
-- cleared, and what "with" another part is. A sentence that uses one of them says this. Assumes nothing.
use Prim.Native.Nat.{ℕ, ◌+◌}
use mathlib.Core.Path.{◌≡◌, refl}
use mathlib.Core.List.{List, [], ◌∷◌, ◌++◌}
use lib.ListN.{length, replicate, set}
use Rattle.nibl.specs.Values.{digits}
use Rattle.nibl.specs.Page.{Stored, records_of, used_by, used}
use Rattle.nibl.specs.Meaning.{World, Env, with_session, with_memory, with_output, with_inpos}
use Rattle.nibl.specs.Record.{place, position, mark, nowhere, with_var, with_flags, with_gosubs, with_dos, with_fors, with_paused, unpaused, stackless, cleared}
use Rattle.nibl.specs.Lent.{Lent, Outcome, lent_all, outcome_with, left_all, answer_of, no_line, stops, refused_line}
use Rattle.nibl.specs.Runs.{Ran, ran, stepped, run_outcome, env_at}
use Rattle.nibl.specs.Typing.{limit}
use Rattle.nibl.specs.Lent.{begun, lent_env}
use Rattle.nibl.specs.Calls.{listed, table_after, leaves}
use Rattle.nibl.specs.declared.PlaceStack.{PlaceStack}
use Rattle.nibl.specs.declared.ForStack.{ForStack}
use Rattle.nibl.specs.declared.Session.{Session}
use Rattle.nibl.specs.declared.Call.{Call}
use Rattle.nibl.specs.declared.Answer.{Answer}
use Rattle.demands.specs.Lent.{budgeted}
use Rattle.demands.specs.Listing.{lent_next}

-- All that is lent and all that is left, as the promises of the two calls name them
pub what-is-lent : (s : Session) (page memory input output : List ℕ) (c : Call) (table : List ℕ)
    → lent_all s page memory input output c table ≡ record { session = s; page = page; memory = memory; input = input; output = output; call = c; table = table }
what-is-lent s page memory input output c table = refl

pub what-is-left : (a : Answer) (s : Session) (page memory output table : List ℕ)
    → left_all a s page memory output table ≡ record { outcome = outcome_with a s page memory output; table = table }
what-is-left a s page memory output table = refl

pub what-an-outcome-is : (a : Answer) (s : Session) (page memory output : List ℕ)
    → outcome_with a s page memory output ≡ record { answer = a; session = s; page = page; memory = memory; output = output }
what-an-outcome-is a s page memory output = refl

pub what-is-answered : (n line steps inpos outpos column : ℕ)
    → answer_of n line steps inpos outpos column ≡ record { stop = n; line = line; steps = steps; inpos = inpos; outpos = outpos; column = column }
what-is-answered n line steps inpos outpos column = refl

module _ (x : Lent) where
  -- a typed statement sees the page, the input and the sense byte that are lent, keeps 72 bytes of a line, and is ended by the immediate mark
  pub what-a-typed-statement-sees : lent_env limit x ≡ record { lim = 72; page = x.page; input = x.input; sight = record { sense = x.call.sense; access = record { own = record { from = 0; to = 65535 }; shared = record { from = 0; to = 0 } } }; here = mark }
  what-a-typed-statement-sees = refl

  -- "A call past its first refusals .. ends any pause"; n bytes of the input are taken
  pub the-world-begun : (n : ℕ)
      → begun x n ≡ record { session = unpaused x.session; memory = x.memory; output = x.output; outpos = x.call.outpos; inpos = x.call.inpos + n }
  the-world-begun n = refl

  -- the same call with another budget
  pub only-the-budget : (k : ℕ)
      → budgeted k x ≡ record {
        session = x.session;
        page = x.page;
        memory = x.memory;
        input = x.input;
        output = x.output;
        call = record { inpos = x.call.inpos; outpos = x.call.outpos; sense = x.call.sense; budget = k; tabled = x.call.tabled };
        table = x.table;
      }
  only-the-budget k = refl

  -- what a call leaves: its outcome and the table
  pub what-a-call-leaves : (call : Lent → Outcome) → leaves call x ≡ record { outcome = call x; table = table_after limit x (call x) }
  what-a-call-leaves call = refl

  -- the next call: all that one left, and the rest as it was lent
  pub all-that-was-left : (o : Outcome)
      → lent_next x o ≡ record {
        session = o.session;
        page = o.page;
        memory = o.memory;
        input = x.input;
        output = o.output;
        call = record { inpos = o.answer.inpos; outpos = o.answer.outpos; sense = x.call.sense; budget = x.call.budget; tabled = x.call.tabled };
        table = table_after limit x o;
      }
  all-that-was-left o = refl

-- a program's statement sees the same, and the place that ends it: "DO, FOR and GOSUB save the place that ends them"
pub what-a-programs-statement-sees : (e : Env) (p : ℕ) → env_at e p ≡ record { lim = e.lim; page = e.page; input = e.input; sight = e.sight; here = p }
what-a-programs-statement-sees e p = refl

-- a saved place is that number
pub a-saved-place : (p : ℕ) → position (place p) ≡ p
a-saved-place p = refl

-- a stop that no program statement gave leaves the world as it is, with no line, no steps and no column
pub what-a-stop-leaves : (n : ℕ) (w : World) (page : List ℕ)
    → stops n w page ≡ record {
      answer = record { stop = n; line = no_line; steps = 0; inpos = w.inpos; outpos = w.outpos; column = 0 };
      session = w.session;
      page = page;
      memory = w.memory;
      output = w.output;
    }
what-a-stop-leaves n w page = refl

-- a refused line does so too, with its column
pub what-a-refused-line-leaves : (column : ℕ) (w : World) (page : List ℕ)
    → refused_line column w page ≡ record {
      answer = record { stop = 5; line = no_line; steps = 0; inpos = w.inpos; outpos = w.outpos; column = column };
      session = w.session;
      page = page;
      memory = w.memory;
      output = w.output;
    }
what-a-refused-line-leaves column w page = refl

-- a run of no step yet, and one of a step more, by its line; the answer's stop is the run's, and its steps are the number of these lines
pub a-run-not-begun : (n q : ℕ) (w : World) → ran n q w ≡ record { stop = n; lines = []; at = q; world = w }
a-run-not-begun n q w = refl

pub a-run-of-one-more : (l : ℕ) (r : Ran) → stepped l r ≡ record { stop = r.stop; lines = l ∷ r.lines; at = r.at; world = r.world }
a-run-of-one-more l r = refl

pub what-a-run-answers : (r : Ran) (page : List ℕ) → ((run_outcome r page).answer.stop ≡ r.stop) × ((run_outcome r page).answer.steps ≡ length r.lines)
what-a-run-answers r page = (refl, refl)

-- the room of a program: two bytes for the end mark, and for each record its text's length plus 4
pub room-of-no-record : used_by [] ≡ 2
room-of-no-record = refl

pub room-of-a-record : (r : Stored) (rs : List Stored) → used_by (r ∷ rs) ≡ length r.text + 4 + used_by rs
room-of-a-record r rs = refl

pub room-of-a-page : (page : List ℕ) → used page ≡ used_by (records_of page)
unfolding used
room-of-a-page page = refl

-- "digits without leading zeros, text, CR, LF"; the digits are `a-lines-digits` (Valued)
pub a-listed-line : (r : Stored) → listed r ≡ digits r.line ++ (r.text ++ (13 ∷ 10 ∷ []))
a-listed-line r = refl

module _ (s : Session) where
  pub a-pause-ended : unpaused s ≡ record { vars = s.vars; flags = s.flags; gosubs = s.gosubs; dos = s.dos; fors = s.fors; paused = nowhere }
  a-pause-ended = refl

  -- "clears the three stacks": nothing is on them, and what their slots hold stays
  pub stacks-cleared : stackless s ≡ record {
    vars = s.vars;
    flags = s.flags;
    gosubs = record { depth = 0; places = s.gosubs.places };
    dos = record { depth = 0; places = s.dos.places };
    fors = record { depth = 0; entries = s.fors.entries };
    paused = s.paused;
  }
  stacks-cleared = refl

  -- "CLEAR zeroes variables and clears stacks"
  pub variables-and-stacks-cleared : cleared s ≡ record {
    vars = replicate 26 0;
    flags = s.flags;
    gosubs = (stackless s).gosubs;
    dos = (stackless s).dos;
    fors = (stackless s).fors;
    paused = s.paused;
  }
  variables-and-stacks-cleared = refl

  -- one part of a record changed
  pub only-a-variable : (v x : ℕ)
      → with_var s v x ≡ record { vars = set s.vars v x; flags = s.flags; gosubs = s.gosubs; dos = s.dos; fors = s.fors; paused = s.paused }
  only-a-variable v x = refl

  pub only-the-flags : (x : ℕ) → with_flags s x ≡ record { vars = s.vars; flags = x; gosubs = s.gosubs; dos = s.dos; fors = s.fors; paused = s.paused }
  only-the-flags x = refl

  pub only-the-gosubs : (g : PlaceStack) → with_gosubs s g ≡ record { vars = s.vars; flags = s.flags; gosubs = g; dos = s.dos; fors = s.fors; paused = s.paused }
  only-the-gosubs g = refl

  pub only-the-dos : (d : PlaceStack) → with_dos s d ≡ record { vars = s.vars; flags = s.flags; gosubs = s.gosubs; dos = d; fors = s.fors; paused = s.paused }
  only-the-dos d = refl

  pub only-the-fors : (f : ForStack) → with_fors s f ≡ record { vars = s.vars; flags = s.flags; gosubs = s.gosubs; dos = s.dos; fors = f; paused = s.paused }
  only-the-fors f = refl

  pub only-the-pause : (p : ℕ) → with_paused s p ≡ record { vars = s.vars; flags = s.flags; gosubs = s.gosubs; dos = s.dos; fors = s.fors; paused = p }
  only-the-pause p = refl

module _ (w : World) where
  -- one part of a world changed
  pub only-the-record : (s : Session) → with_session w s ≡ record { session = s; memory = w.memory; output = w.output; outpos = w.outpos; inpos = w.inpos }
  only-the-record s = refl

  pub only-the-memory : (m : List ℕ) → with_memory w m ≡ record { session = w.session; memory = m; output = w.output; outpos = w.outpos; inpos = w.inpos }
  only-the-memory m = refl

  pub only-the-output : (o : List ℕ) (p : ℕ) → with_output w o p ≡ record { session = w.session; memory = w.memory; output = o; outpos = p; inpos = w.inpos }
  only-the-output o p = refl

  pub only-the-input-position : (p : ℕ) → with_inpos w p ≡ record { session = w.session; memory = w.memory; output = w.output; outpos = w.outpos; inpos = p }
  only-the-input-position p = refl
