-- The stacks: what a push, a look at the top and a pop give, of any record, a bad depth included.
use Rattle.std.specs.Prelude.{ℕ, ◌+◌, ◌-◌, Bool, true, false, List, ltb, set, get_or, Option, Some, None, Result, Ok, Err, if◌then◌else◌}
use Rattle.nibl.specs.declared.Place.{Place}
use Rattle.nibl.specs.declared.PlaceStack.{PlaceStack}
use Rattle.nibl.specs.declared.Popped.{Popped}
use Rattle.nibl.specs.declared.ForEntry.{ForEntry}
use Rattle.nibl.specs.declared.ForStack.{ForStack}

-- a stack after a push; not ok: it was full and is as before
pub record Pushed (S : Type 0) : Type 0 where
  pub stack : S
  pub ok : Bool

-- what the answer of a push says
abbrev pub pushed_of : {S : Type 0} → Result S S → Pushed S
pushed_of (Ok s) = record { stack = s; ok = true }
pushed_of (Err s) = record { stack = s; ok = false }

-- a stack of room for `n` with depth `d`: `e` where nothing is on top (empty, or no depth of such a stack), else `s`
abbrev pub on_top : {A : Type 0} → ℕ → ℕ → A → A → A
on_top n d e s = if ltb d 1 then e else if ltb n d then e else s

-- what is on top of so many of these slots; x is what an array gives past its end, which is never asked for
abbrev pub top_in : {A : Type 0} → ℕ → A → ℕ → List A → Option A
top_in n x d slots = on_top n d None (Some (get_or slots (d - 1) x))

abbrev pub no_place : Place
no_place = record { 0 = 0 }

abbrev pub no_entry : ForEntry
no_entry = record { var = 0; limit = 0; step = 0; place = no_place }

-- GOSUB and DO: room for 8 places
abbrev pub push_of : PlaceStack → Place → Pushed PlaceStack
push_of s p =
    if ltb s.depth 8 then record { stack = record { depth = s.depth + 1; places = set s.places s.depth p }; ok = true }
    else record { stack = s; ok = false }

abbrev pub top_of : PlaceStack → Option Place
top_of s = top_in 8 no_place s.depth s.places

abbrev pub pop_of : PlaceStack → Popped PlaceStack Place
pop_of s = record { stack = record { depth = on_top 8 s.depth s.depth (s.depth - 1); places = s.places }; top = top_of s }

-- FOR: room for 4 entries
abbrev pub push_for : ForStack → ForEntry → Pushed ForStack
push_for s e =
    if ltb s.depth 4 then record { stack = record { depth = s.depth + 1; entries = set s.entries s.depth e }; ok = true }
    else record { stack = s; ok = false }

abbrev pub top_for : ForStack → Option ForEntry
top_for s = top_in 4 no_entry s.depth s.entries

abbrev pub pop_for : ForStack → Popped ForStack ForEntry
pop_for s = record { stack = record { depth = on_top 4 s.depth s.depth (s.depth - 1); entries = s.entries }; top = top_for s }
