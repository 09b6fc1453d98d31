-- What a page may hold, where a run may stand on it and what it finds there, and the record that a place lies in.
use Rattle.std.specs.Prelude.{ℕ, ◌+◌, ◌-◌, ◌≤◌, ◌<◌, ◌≡◌, true, List, length, get_or, drop}
use Rattle.std.proofs.Math.Option.{none, some}
use Rattle.nibl.specs.Tree.{Member}
use Rattle.nibl.specs.found.Read.{found, member}
use Rattle.nibl.specs.Page.{Stored, length_at, is_storable, find, line_of, places_of, is_among, fits_paused}
use Rattle.nibl.specs.Record.{paused_at}
use Rattle.nibl.specs.Runs.{Standing, Fetched, past, here, text_from, line_from}

-- every one is a byte, as in a slice
abbrev pub Bytes : List ℕ → Type 0
Bytes p = (i : ℕ) → get_or p i 0 < 256

-- a record that a page may hold
pub record Storable (lim : ℕ) (r : Stored) : Type 0 where
  pub number : r.line ≤ 32767
  pub some : 1 ≤ length r.text
  pub short : length r.text ≤ 251
  pub text : is_storable lim r.line r.text ≡ true

-- where a run may stand, by a list of places: "such a position", and the run goes on after it, "or the program's start"
abbrev pub Stands : List ℕ → ℕ → Type 0
Stands ps q = fits_paused ps (paused_at q) ≡ true

-- the position p lies in the record of the line l, after its number and length
pub record LiesIn (page : List ℕ) (p l : ℕ) : Type 0 where
  pub at : ℕ
  pub stands : find page l ≡ some at
  pub behind : at + 3 ≤ p
  pub inside : p < at + length_at (drop at page)

-- What a run finds at a text: a first member, whose end and CR are places. The text is within the limit and on the page
pub record Ready (lim : ℕ) (page : List ℕ) (a : ℕ) : Type 0 where
  pub begins : Member
  pub rest : List ℕ
  pub finds : member (line_from page a) ≡ found begins rest
  pub end : is_among (places_of page) (a + (length (line_from page a) - begins.left)) ≡ true
  pub cr : is_among (places_of page) (a + length (line_from page a)) ≡ true
  pub short : length (line_from page a) ≤ lim
  pub inside : a + length (line_from page a) < length page

-- At a position nothing follows, or a text does that a run can read
pub data Follows (lim : ℕ) (page : List ℕ) (q : ℕ) : Type 0 where
  nothing : text_from page q ≡ none → Follows lim page q
  text : {a : ℕ} → text_from page q ≡ some a → Ready lim page a → Follows lim page q

-- So it fetches nothing, past the last line, or a member that was read, whose line is that of its place
pub record Readable (page : List ℕ) (x : Standing) : Type 0 where
  pub text : List ℕ
  pub first : Member
  pub rest : List ℕ
  pub reads : member text ≡ found first rest
  pub statement : x.statement ≡ first.statement
  pub line : x.line ≡ line_of page x.place
  pub end : is_among (places_of page) x.place ≡ true
  pub cr : is_among (places_of page) x.cr ≡ true

pub data Fetches (page : List ℕ) : Fetched → Type 0 where
  over_all : Fetches page past
  one_more : {x : Standing} → Readable page x → Fetches page (here x)
