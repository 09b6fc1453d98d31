-- What a call leaves, written out: the demands' sentences name these.
use Rattle.std.specs.Prelude.{ℕ, ◌+◌, ◌≤◌, ◌≡◌, Bool, true, false, List, [], ◌∷◌, length, take, drop, eqb, if◌then◌else◌}
use Rattle.std.specs.Prelude.{Some, None}
use Rattle.std.proofs.Math.Option.{some}
use Rattle.std.proofs.lemmas.List.Edits.{sets}
use Rattle.nibl.specs.Typing.{Gathered, gather}
use Rattle.nibl.specs.found.Column.{column_of}
use Rattle.nibl.specs.Stack.{pop_of}
use Rattle.nibl.specs.Tree.{Typed, blank, new, clear, run, delete, list, store, immediate}
use Rattle.nibl.specs.Page.{Stored, records_of, program_bytes, used}
use Rattle.nibl.specs.Meaning.{World, Env, Done, done, with_session}
use Rattle.nibl.specs.Record.{position, mark, with_gosubs, unpaused, stackless, cleared}
use Rattle.nibl.specs.Lent.{Lent, Outcome, Left, left_all, answer_of, no_line}
pub use Rattle.nibl.specs.Lent.{unchanged}
use Rattle.nibl.specs.Typing.{limit}
use Rattle.nibl.specs.Lent.{begun}
use Rattle.nibl.specs.Calls.{take_line, continue_run, leaves}
use Rattle.nibl.specs.declared.Session.{Session}
use Rattle.nibl.specs.declared.Place.{Place}
use Rattle.nibl.specs.declared.Answer.{Answer}
use Rattle.page.specs.Tables.{Rising}
use Rattle.demands.specs.Asks.{GivenIn}
use Rattle.demands.specs.Lent.{gathered_line}
use Rattle.demands.specs.Good.{GoodPage}

-- the world that a statement leaves
abbrev pub world_after : Done → World
world_after (done n w) = w

-- the records of a number, and the others, in their order
abbrev pub records_of_line : ℕ → List Stored → List Stored
records_of_line n [] = []
records_of_line n (r ∷ rs) = if eqb r.line n then r ∷ records_of_line n rs else records_of_line n rs

abbrev pub others : ℕ → List Stored → List Stored
others n [] = []
others n (r ∷ rs) = if eqb r.line n then others n rs else r ∷ others n rs

-- a stop with no line, no steps and no column, after so many bytes of the input; the output position as it came
abbrev pub answered : Lent → ℕ → ℕ → Answer
answered x n taken = answer_of n no_line 0 (x.call.inpos + taken) x.call.outpos 0

-- both calls give all back so, with the stop n
abbrev pub BothUnchanged : Lent → ℕ → Type 0
BothUnchanged x n = (leaves take_line x ≡ unchanged x n) × (leaves continue_run x ≡ unchanged x n)

-- the line is taken, the pause ended, and nothing else changed
abbrev pub line_taken : Lent → ℕ → ℕ → Left
line_taken x n taken = left_all (answered x n taken) (unpaused x.session) x.page x.memory x.output x.table

-- the same with a column
abbrev pub line_taken_at : Lent → ℕ → ℕ → ℕ → Left
line_taken_at x n taken column =
    left_all (answer_of n no_line 0 (x.call.inpos + taken) x.call.outpos column) (unpaused x.session) x.page x.memory x.output x.table

-- the column of a line that is refused with 5: "72 for an over-long line"
abbrev pub spot_of : Gathered → ℕ
spot_of g = if g.line.long then limit else column_of g.line.bytes

-- "and 0 for every other stop"
abbrev pub column_at : ℕ → Gathered → ℕ
column_at n g = if eqb n 5 then spot_of g else 0

-- "2, 3 and 5 take the line and end a pause", and change nothing else
pub record TakesLine (x : Lent) (n : ℕ) (o : Left) : Type 0 where
  pub gathered : Gathered
  pub line : gathered_line limit x ≡ some gathered
  pub leaves : o ≡ line_taken_at x n gathered.taken (column_at n gathered)

-- the record as CLEAR leaves it: the pause ended, variables zero, stacks empty
abbrev pub line_cleared : Lent → ℕ → Left
line_cleared x taken = left_all (answered x 0 taken) (cleared (unpaused x.session)) x.page x.memory x.output x.table

-- "RUN does CLEAR": the world that its run begins in
abbrev pub world_cleared : Lent → ℕ → World
world_cleared x taken = with_session (begun x taken) (cleared (unpaused x.session))

-- What an edit leaves: stop 0, no line, 0 steps; "stacks cleared, variables and flags kept"; a good page whose records rise and stand
-- there byte for byte, of the same length, and what lies after its end mark as it was
pub record Edits (x : Lent) (taken : ℕ) (o : Outcome) : Type 0 where
  pub answer : o.answer ≡ answered x 0 taken
  pub session : o.session ≡ stackless (unpaused x.session)
  pub memory : o.memory ≡ x.memory
  pub output : o.output ≡ x.output
  pub good : GoodPage limit o.page
  pub rising : Rising 0 (records_of o.page)
  pub bytes : take (used o.page) o.page ≡ program_bytes (records_of o.page)
  pub long : length o.page ≡ length x.page
  pub after : drop (used o.page) o.page ≡ drop (used o.page) x.page

-- "exactly one record of number n, with that text; all other records as they were"
pub record Replaces (x : Lent) (n : ℕ) (t : List ℕ) (o : Outcome) : Type 0 where
  pub one : records_of_line n (records_of o.page) ≡ record { line = n; text = t } ∷ []
  pub rest : others n (records_of o.page) ≡ others n (records_of x.page)

pub record Deletes (x : Lent) (n : ℕ) (o : Outcome) : Type 0 where
  pub gone : records_of_line n (records_of o.page) ≡ []
  pub rest : records_of o.page ≡ others n (records_of x.page)

-- Whole items from a position of the output on, one after the other: the output then, and the position. W says what an item is
pub data WholeItems (W : List ℕ → Type 0) : List ℕ → ℕ → List ℕ → ℕ → Type 0 where
  no_item : {out : List ℕ} {at : ℕ} → WholeItems W out at out at
  item : {out out' : List ℕ} {at at' : ℕ} (bs : List ℕ) → W bs → at + length bs ≤ length out → WholeItems W (sets out at bs) (at + length bs) out' at' → WholeItems W out at out' at'

-- whole lines of the input, as they are gathered, from a position on
pub data WholeLines (lim : ℕ) (input : List ℕ) : ℕ → ℕ → Type 0 where
  none_taken : {at : ℕ} → WholeLines lim input at at
  line : {at at' : ℕ} (g : Gathered) → gather lim (drop at input) ≡ some g → WholeLines lim input (at + g.taken) at' → WholeLines lim input at at'

-- whole items written and whole lines taken, from these positions to those
pub record WroteItems (W : List ℕ → Type 0) (lim : ℕ) (input out : List ℕ) (at from : ℕ) (out' : List ℕ) (at' from' : ℕ) : Type 0 where
  pub items : WholeItems W out at out' at'
  pub lines : WholeLines lim input from from'

-- all of the record but its variables
pub record SameButVars (s t : Session) : Type 0 where
  pub flags : t.flags ≡ s.flags
  pub gosubs : t.gosubs ≡ s.gosubs
  pub dos : t.dos ≡ s.dos
  pub fors : t.fors ≡ s.fors
  pub paused : t.paused ≡ s.paused

-- what a refusing statement leaves, from w to u: us are the variables that its INPUT names, W says what its items are
pub record Refused (e : Env) (us : List ℕ) (W : List ℕ → Type 0) (w u : World) : Type 0 where
  pub given : GivenIn us w.session.vars u.session.vars
  pub rest : SameButVars w.session u.session
  pub memory : u.memory ≡ w.memory
  pub items : WholeItems W w.output w.outpos u.output u.outpos
  pub lines : WholeLines e.lim e.input w.inpos u.inpos

-- "RETURN to the immediate mark" pops one place, the mark, and changes nothing else of the record
pub record Returned (s t : Session) : Type 0 where
  pub place : Place
  pub top : (pop_of s.gosubs).top ≡ Some place
  pub mark : position place ≡ mark
  pub rest : t ≡ with_gosubs s (pop_of s.gosubs).stack

-- what a call wrote and took, from a position of the input on
abbrev pub WroteFrom : Lent → (List ℕ → Type 0) → ℕ → Outcome → Type 0
WroteFrom x W at o = WroteItems W limit x.input x.output x.call.outpos at o.output o.answer.outpos o.answer.inpos

-- both positions are still in range
abbrev pub StaysInRange : Lent → Outcome → Type 0
StaysInRange x o = (o.answer.inpos ≤ length x.input) × (o.answer.outpos ≤ length o.output)

-- the output from one position to the other is new, and only that
pub record Grown (out : List ℕ) (at : ℕ) (out' : List ℕ) (at' : ℕ) : Type 0 where
  pub forward : at ≤ at'
  pub long : length out' ≡ length out
  pub before : take at out' ≡ take at out
  pub behind : drop at' out' ≡ drop at' out

-- the page after a call: of the same length, and every byte after its end mark as it was
pub record PageHeld (page page' : List ℕ) : Type 0 where
  pub long : length page' ≡ length page
  pub after : drop (used page') page' ≡ drop (used page') page

-- memory and output keep their lengths
pub record LengthsHeld (x : Lent) (o : Outcome) : Type 0 where
  pub memory : length o.memory ≡ length x.memory
  pub output : length o.output ≡ length x.output

-- what two calls left is the same, all of it
pub record Agrees (a b : Left) : Type 0 where
  pub answer : a.outcome.answer ≡ b.outcome.answer
  pub session : a.outcome.session ≡ b.outcome.session
  pub page : a.outcome.page ≡ b.outcome.page
  pub memory : a.outcome.memory ≡ b.outcome.memory
  pub output : a.outcome.output ≡ b.outcome.output
  pub table : a.table ≡ b.table

-- whether a typed line edits the program
abbrev pub is_edit : Typed → Bool
is_edit blank = false
is_edit new = true
is_edit clear = false
is_edit run = false
is_edit (delete n) = true
is_edit (list n) = false
is_edit (store n t ms) = true
is_edit (immediate q) = false
