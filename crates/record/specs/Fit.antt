-- A session record that fits places, whatever holds them: what a run keeps, and how a statement ends that keeps it.
use Rattle.std.specs.Prelude.{ℕ, ◌≤◌, ◌≡◌, Bool, true, List, length, take, ltb}
use Rattle.nibl.specs.Bytes.{all}
use Rattle.nibl.specs.Page.{is_among, fits_paused}
use Rattle.nibl.specs.Meaning.{World, on, skip, go, stop, Done, done}
use Rattle.nibl.specs.Record.{position}
use Rattle.nibl.specs.declared.Place.{Place}
use Rattle.nibl.specs.declared.PlaceStack.{PlaceStack}
use Rattle.nibl.specs.declared.ForEntry.{ForEntry}
use Rattle.nibl.specs.declared.ForStack.{ForStack}
use Rattle.nibl.specs.declared.Session.{Session}
use Rattle.page.specs.Standing.{Stands}
use Rattle.record.specs.Fits.{is_saved, is_under_way}

-- a stack of n slots whose array has its length: the live ones, d of them, pass the test f
pub record Held {A : Type 0} (f : A → Bool) (n d : ℕ) (l : List A) : Type 0 where
  pub deep : d ≤ n
  pub room : length l ≡ n
  pub live : all f (take d l) ≡ true

-- the stacks of GOSUB and DO, and of FOR
abbrev pub Places : (Place → Bool) → PlaceStack → Type 0
Places f s = Held f 8 s.depth s.places

abbrev pub Entries : (ForEntry → Bool) → ForStack → Type 0
Entries f s = Held f 4 s.depth s.entries

abbrev pub is_place : List ℕ → Place → Bool
is_place ps p = is_among ps (position p)

-- the places that it may have are ps
pub record Fit (ps : List ℕ) (s : Session) : Type 0 where
  pub vars : length s.vars ≡ 26
  pub gosubs : Places (is_saved ps true) s.gosubs
  pub dos : Places (is_place ps) s.dos
  pub fors : Entries (is_under_way ps) s.fors
  pub flags : ltb s.flags 8 ≡ true
  pub paused : fits_paused ps s.paused ≡ true

-- how a statement ended: its record fits, and a run may stand where it goes
pub data Goes (ps : List ℕ) : Done → Type 0 where
  to_next : {w : World} → Fit ps w.session → Goes ps (done on w)
  to_record : {w : World} → Fit ps w.session → Goes ps (done skip w)
  to_place : {w : World} {q : ℕ} → Stands ps q → Fit ps w.session → Goes ps (done (go q) w)
  to_end : {w : World} {n : ℕ} → Fit ps w.session → Goes ps (done (stop n) w)
