-- The parts of what it is for a session record to fit, over the places ps of its page.
use Rattle.std.specs.Prelude.{ℕ, Bool, true, false, ◌&&◌, ◌||◌, List, take, ltb, eqb}
use Rattle.nibl.specs.Bytes.{all}
use Rattle.nibl.specs.Page.{is_among}
use Rattle.nibl.specs.Record.{position, mark}
use Rattle.nibl.specs.declared.Place.{Place}
use Rattle.nibl.specs.declared.ForEntry.{ForEntry}
use Rattle.nibl.specs.declared.Session.{Session}

-- a saved place is such a position, or the immediate mark where that may stand
abbrev pub is_saved : List ℕ → Bool → Place → Bool
is_saved ps marked p = is_among ps (position p) || (marked && eqb (position p) mark)

abbrev pub is_under_way : List ℕ → ForEntry → Bool
is_under_way ps e = ltb e.var 26 && is_among ps (position e.place)

abbrev pub stacks_fit : List ℕ → Session → Bool
stacks_fit ps s =
    all (is_saved ps true) (take s.gosubs.depth s.gosubs.places)
    && (all (is_saved ps false) (take s.dos.depth s.dos.places)
    && all (is_under_way ps) (take s.fors.depth s.fors.entries))
