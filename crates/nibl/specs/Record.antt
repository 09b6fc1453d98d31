-- Places, where a run goes on, and the session record: fresh, and with a part changed. antt has no record update, so every
-- change of the record is written here, once.
use Rattle.std.specs.Prelude.{ℕ, suc, ◌%◌, List, set, replicate, Option, Some, None}
use Rattle.nibl.specs.Stack.{no_place, no_entry}
use Rattle.nibl.specs.declared.Place.{Place}
use Rattle.nibl.specs.declared.PlaceStack.{PlaceStack}
use Rattle.nibl.specs.declared.ForStack.{ForStack}
use Rattle.nibl.specs.declared.Onward.{Onward}
use Rattle.nibl.specs.declared.Onward.TheVariants.{Start, After}
use Rattle.nibl.specs.declared.Session.{Session}
use Rattle.nibl.specs.declared.Parts.{Parts}

-- A place is made and opened here and nowhere else: of a position of the page, and as one
abbrev pub place : ℕ → Place
place p = record { 0 = p }

abbrev pub position : Place → ℕ
position p = p.0

-- the immediate mark, which is no position of a page
abbrev pub mark : ℕ
mark = 65535

-- Where a run goes on, as a position of the page: the program's start, or what stands after a place
abbrev pub position_of : Onward → ℕ
position_of Start = 0
position_of (After p) = suc (position p)

-- The pause is one number: 0 where nothing is paused, else one more than the position at which the run goes on. So 1 is the
-- program's start and p + 2 is after the place p, and every number is a pause.
abbrev pub nowhere : ℕ
nowhere = 0

abbrev pub paused_at : ℕ → ℕ
paused_at q = suc q

abbrev pub pause_number : Option Onward → ℕ
pause_number None = nowhere
pause_number (Some o) = paused_at (position_of o)

-- The record with a part changed
abbrev pub with_vars : Session → List ℕ → Session
with_vars s x = record { vars = x; flags = s.flags; gosubs = s.gosubs; dos = s.dos; fors = s.fors; paused = s.paused }

abbrev pub with_var : Session → ℕ → ℕ → Session
with_var s v x = with_vars s (set s.vars v x)

abbrev pub with_flags : Session → ℕ → Session
with_flags s x = record { vars = s.vars; flags = x; gosubs = s.gosubs; dos = s.dos; fors = s.fors; paused = s.paused }

abbrev pub with_gosubs : Session → PlaceStack → Session
with_gosubs s g = record { vars = s.vars; flags = s.flags; gosubs = g; dos = s.dos; fors = s.fors; paused = s.paused }

abbrev pub with_dos : Session → PlaceStack → Session
with_dos s d = record { vars = s.vars; flags = s.flags; gosubs = s.gosubs; dos = d; fors = s.fors; paused = s.paused }

abbrev pub with_fors : Session → ForStack → Session
with_fors s f = record { vars = s.vars; flags = s.flags; gosubs = s.gosubs; dos = s.dos; fors = f; paused = s.paused }

abbrev pub with_paused : Session → ℕ → Session
with_paused s p = record { vars = s.vars; flags = s.flags; gosubs = s.gosubs; dos = s.dos; fors = s.fors; paused = p }

abbrev pub unpaused : Session → Session
unpaused s = with_paused s nowhere

-- a stack with nothing on it: its slots hold what they held
abbrev pub emptied : PlaceStack → PlaceStack
emptied g = record { depth = 0; places = g.places }

abbrev pub emptied_for : ForStack → ForStack
emptied_for f = record { depth = 0; entries = f.entries }

-- "clears the three stacks"
abbrev pub stackless : Session → Session
stackless s = record { vars = s.vars; flags = s.flags; gosubs = emptied s.gosubs; dos = emptied s.dos; fors = emptied_for s.fors; paused = s.paused }

-- "CLEAR zeroes variables and clears stacks"
abbrev pub cleared : Session → Session
cleared s = with_vars (stackless s) (replicate 26 0)

-- "Loading empties the stacks, .. ends a paused run and keeps bits 0 to 2 of the flags, the others becoming 0"
abbrev pub loaded_session : Session → List ℕ → Session
loaded_session s vars = with_flags (with_vars (unpaused (stackless s)) vars) (s.flags % 8)

abbrev pub fresh_places : PlaceStack
fresh_places = record { depth = 0; places = replicate 8 no_place }

abbrev pub fresh_fors : ForStack
fresh_fors = record { depth = 0; entries = replicate 4 no_entry }

abbrev pub fresh : Session
fresh = record { vars = replicate 26 0; flags = 0; gosubs = fresh_places; dos = fresh_places; fors = fresh_fors; paused = nowhere }

-- A record taken apart for a run: all but its variables and its pause, with a call's two positions; and put together again
abbrev pub parts_of : Session → ℕ → ℕ → Parts
parts_of s inpos outpos = record { flags = s.flags; gosubs = s.gosubs; dos = s.dos; fors = s.fors; inpos = inpos; outpos = outpos }

abbrev pub session_of : Parts → List ℕ → ℕ → Session
session_of p vars paused = record { vars = vars; flags = p.flags; gosubs = p.gosubs; dos = p.dos; fors = p.fors; paused = paused }

-- the parts with one of them changed
abbrev pub with_flags_in : Parts → ℕ → Parts
with_flags_in p x = record { flags = x; gosubs = p.gosubs; dos = p.dos; fors = p.fors; inpos = p.inpos; outpos = p.outpos }

abbrev pub with_gosubs_in : Parts → PlaceStack → Parts
with_gosubs_in p s = record { flags = p.flags; gosubs = s; dos = p.dos; fors = p.fors; inpos = p.inpos; outpos = p.outpos }

abbrev pub with_dos_in : Parts → PlaceStack → Parts
with_dos_in p s = record { flags = p.flags; gosubs = p.gosubs; dos = s; fors = p.fors; inpos = p.inpos; outpos = p.outpos }

abbrev pub with_fors_in : Parts → ForStack → Parts
with_fors_in p s = record { flags = p.flags; gosubs = p.gosubs; dos = p.dos; fors = s; inpos = p.inpos; outpos = p.outpos }

abbrev pub parts_at : Parts → ℕ → ℕ → Parts
parts_at p i o = record { flags = p.flags; gosubs = p.gosubs; dos = p.dos; fors = p.fors; inpos = i; outpos = o }
