-- What the statements that change where a run goes on do to a stack and to the variables, in the definition's own terms
-- (crates/nibl/specs/Meaning.antt), without the rest of the world.
use Rattle.std.specs.Prelude.{ℕ, suc, Bool, not, List, eqb, get_or, set, if◌then◌else◌}
use Rattle.std.specs.Prelude.{Option as Opt, Some, None, Result as Res, Ok, Err}
use Rattle.std.proofs.Math.Option.{Option, none, some}
use Rattle.nibl.specs.Values.{Result, is, no, add16}
use Rattle.nibl.specs.Stack.{push_of, pop_of, push_for, pop_for}
use Rattle.nibl.specs.Meaning.{World, with_session, Next, on, skip, go, stop, Done, done, after, goes_on}
use Rattle.nibl.specs.Record.{position, position_of, with_vars, with_gosubs, with_dos, with_fors}
use Rattle.nibl.specs.declared.stop.Stop.{Stop}
use Rattle.nibl.specs.declared.Place.{Place}
use Rattle.nibl.specs.declared.PlaceStack.{PlaceStack}
use Rattle.nibl.specs.declared.ForStack.{ForStack}
use Rattle.nibl.specs.declared.ForEntry.{ForEntry}
use Rattle.world.specs.declared.jump.Way.{Way}
use Rattle.world.specs.declared.jump.Way.TheVariants as way
use Rattle.world.specs.declared.jump.Turn.{Turn}

-- the definition's word for a way, with its stop number
abbrev pub way_of : Way → Next
way_of way.On = on
way_of way.Skip = skip
way_of (way.Go o) = go (position_of o)
way_of (way.Stop s) = stop s.0

-- a statement's end, and the stack then
pub record Turned : Type 0 where
  pub next : Next
  pub stack : PlaceStack

abbrev pub turned_to : Next → PlaceStack → Turned
turned_to n s = record { next = n; stack = s }

abbrev pub turned : Turn PlaceStack → Turned
turned t = turned_to (way_of t.way) t.stack

-- a statement's end, the FOR stack and the variables then
pub record TurnedFor : Type 0 where
  pub next : Next
  pub stack : ForStack
  pub vars : List ℕ

abbrev pub turned_for_to : Next → ForStack → List ℕ → TurnedFor
turned_for_to n s vars = record { next = n; stack = s; vars = vars }

abbrev pub turned_for : Turn ForStack → List ℕ → TurnedFor
turned_for t vars = turned_for_to (way_of t.way) t.stack vars

-- to the record of a line, or 8
abbrev pub way_to : Option ℕ → Next
way_to none = stop 8
way_to (some q) = go q

-- a place pushed and the way gone, or 10
unfoldable pub keep_turn : Place → PlaceStack → Next → Turned
keep_turn here s n = let g = push_of s here in if g.ok then turned_to n g.stack else turned_to (stop 10) s

-- "8 GOTO or GOSUB to a line not there": before the push
unfoldable pub gosub_turn : Place → PlaceStack → Option ℕ → Turned
gosub_turn here s none = turned_to (stop 8) s
gosub_turn here s (some q) = keep_turn here s (go q)

-- RETURN by what is on top
unfoldable pub return_on : PlaceStack → Opt Place → Turned
return_on s None = turned_to (stop 9) s
return_on s (Some p) = turned_to (after p) (pop_of s).stack

unfoldable pub return_turn : PlaceStack → Turned
return_turn s = return_on s (pop_of s).top

unfoldable pub do_turn : Place → PlaceStack → Turned
do_turn here s = keep_turn here s on

-- UNTIL by what is on top
unfoldable pub until_on : ℕ → PlaceStack → Opt Place → Turned
until_on x s None = turned_to (stop 15) s
until_on x s (Some p) = if eqb x 0 then turned_to (go (suc (position p))) s else turned_to on (pop_of s).stack

unfoldable pub until_turn : ℕ → PlaceStack → Turned
until_turn x s = until_on x s (pop_of s).top

unfoldable pub for_turn : Place → ForStack → List ℕ → ℕ → ℕ → ℕ → ℕ → TurnedFor
for_turn here s vars v first limit step =
    let f = push_for s (record { var = v; limit = limit; step = step; place = here }) in
    if f.ok then turned_for_to on f.stack (set vars v first) else turned_for_to (stop 10) s vars

-- whether a FOR goes on, and the variables then
pub record StepTaken : Type 0 where
  pub more : Bool
  pub vars : List ℕ

abbrev pub step_taken : Bool → List ℕ → StepTaken
step_taken more vars = record { more = more; vars = vars }

-- the step added to the variable
unfoldable pub adds_step : List ℕ → ℕ → ForEntry → StepTaken
adds_step vars v f = let x = add16 (get_or vars v 0) f.step in step_taken (goes_on f.step x f.limit) (set vars v x)

-- back to the FOR's place, or on without its entry
unfoldable pub stepped_on : ForStack → ForEntry → StepTaken → TurnedFor
stepped_on s f c = if c.more then turned_for_to (go (suc (position f.place))) s c.vars else turned_for_to on (pop_for s).stack c.vars

-- the FOR that a NEXT of this variable belongs to, by what is on top, or the stop number
abbrev pub found_for : Res ForEntry Stop → Result ForEntry
found_for (Ok f) = is f
found_for (Err s) = no s.0

abbrev pub for_on : ℕ → Opt ForEntry → Result ForEntry
for_on v None = no 11
for_on v (Some f) = if not (eqb f.var v) then no 12 else is f

unfoldable pub for_of : ForStack → ℕ → Result ForEntry
for_of s v = for_on v (pop_for s).top

-- NEXT by what is on top
unfoldable pub next_on : ForStack → List ℕ → ℕ → Opt ForEntry → TurnedFor
next_on s vars v None = turned_for_to (stop 11) s vars
next_on s vars v (Some f) = if not (eqb f.var v) then turned_for_to (stop 12) s vars else stepped_on s f (adds_step vars v f)

unfoldable pub next_turn : ForStack → List ℕ → ℕ → TurnedFor
next_turn s vars v = next_on s vars v (pop_for s).top

-- the place that a NEXT goes back to, if it does, and the variables then
pub record Backed : Type 0 where
  pub to : Option ℕ
  pub vars : List ℕ

abbrev pub backed_to : Option ℕ → List ℕ → Backed
backed_to to vars = record { to = to; vars = vars }

abbrev pub back_of : Opt Place → Option ℕ
back_of (Some p) = some (position p)
back_of None = none

abbrev pub backed : Opt Place → List ℕ → Backed
backed b vars = backed_to (back_of b) vars

-- by the count: a NEXT that does not go back is not done
unfoldable pub back_by : List ℕ → ForEntry → StepTaken → Backed
back_by vars f c = if c.more then backed_to (some (position f.place)) c.vars else backed_to none vars

unfoldable pub back_on : List ℕ → ℕ → Opt ForEntry → Backed
back_on vars v None = backed_to none vars
back_on vars v (Some f) = if not (eqb f.var v) then backed_to none vars else back_by vars f (adds_step vars v f)

unfoldable pub next_back : ForStack → List ℕ → ℕ → Backed
next_back s vars v = back_on vars v (pop_for s).top

-- the place that an UNTIL goes back to, if it does
unfoldable pub until_back_on : ℕ → Opt Place → Option ℕ
until_back_on x None = none
until_back_on x (Some p) = if eqb x 0 then some (position p) else none

unfoldable pub until_back : ℕ → PlaceStack → Option ℕ
until_back x s = until_back_on x (pop_of s).top

-- the world that a turn leaves: its stack, and the variables of a FOR or NEXT, in place of those before
abbrev pub gosubs_in : World → Turned → Done
gosubs_in w t = done t.next (with_session w (with_gosubs w.session t.stack))

abbrev pub dos_in : World → Turned → Done
dos_in w t = done t.next (with_session w (with_dos w.session t.stack))

abbrev pub fors_in : World → TurnedFor → Done
fors_in w t = done t.next (with_session w (with_vars (with_fors w.session t.stack) t.vars))
