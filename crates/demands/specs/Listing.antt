-- A listing, and lines typed one after the other.
use Rattle.std.specs.Prelude.{ℕ, zero, suc, ◌+◌, ◌-◌, ◌≡◌, true, List, [], ◌∷◌, ◌++◌, length, take, drop}
use Rattle.std.proofs.lemmas.List.Edits.{sets}
use Rattle.nibl.specs.Values.{digits}
use Rattle.nibl.specs.Typing.{Gathered}
use Rattle.nibl.specs.Page.{Stored, records_of, used}
use Rattle.nibl.specs.Record.{unpaused}
use Rattle.nibl.specs.Lent.{Lent, Outcome, lent_all, with_positions, answer_of, no_line}
use Rattle.nibl.specs.Typing.{limit}
use Rattle.nibl.specs.FirstRefusals.{table_is_true}
use Rattle.nibl.specs.Calls.{listed, take_line, table_after}
use Rattle.nibl.specs.declared.Answer.{Answer}

-- "each line as digits without leading zeros, text, CR, LF"
abbrev pub listing_of : List Stored → List ℕ
listing_of [] = []
listing_of (r ∷ rs) = listed r ++ listing_of rs

-- the room that a listing needs: for each record its digits, its text, CR and LF
abbrev pub listing_room : List Stored → ℕ
listing_room [] = 0
listing_room (r ∷ rs) = length (digits r.line) + length r.text + 2 + listing_room rs

-- what a call wrote
abbrev pub written : Lent → Outcome → List ℕ
written x o = take (o.answer.outpos - x.call.outpos) (drop x.call.outpos o.output)

-- what is lent to the next call: all that one left, the table with it, and the same input, sense byte and budget
abbrev pub lent_next : Lent → Outcome → Lent
lent_next x o =
    lent_all o.session o.page o.memory x.input o.output (with_positions o.answer.inpos o.answer.outpos x.call) (table_after limit x o)

-- n lines typed one after the other: what is lent after them, and the answers
unfoldable pub after_lines : ℕ → Lent → Lent
after_lines zero x = x
after_lines (suc n) x = after_lines n (lent_next x (take_line x))

unfoldable pub answers : ℕ → Lent → List Answer
answers zero x = []
answers (suc n) x = (take_line x).answer ∷ answers n (lent_next x (take_line x))

-- every stop is 0, with no line and no steps
pub data Stops0 : List Answer → Type 0 where
  none : Stops0 []
  each : {a : Answer} {more : List Answer} → a.stop ≡ 0 → a.line ≡ no_line → a.steps ≡ 0 → Stops0 more → Stops0 (a ∷ more)

-- what is left over of a listing: the LF behind its last CR
abbrev pub last_lf : List Stored → List ℕ
last_lf [] = []
last_lf (r ∷ rs) = 10 ∷ []

-- LIST's outcome: the listing written whole, the line taken, the pause ended, nothing else changed
pub record ListsWhole (x : Lent) (g : Gathered) (o : Outcome) : Type 0 where
  pub answer : o.answer ≡ answer_of 0 no_line 0 (x.call.inpos + g.taken) (x.call.outpos + listing_room (records_of x.page)) 0
  pub session : o.session ≡ unpaused x.session
  pub page : o.page ≡ x.page
  pub memory : o.memory ≡ x.memory
  pub output : o.output ≡ sets x.output x.call.outpos (listing_of (records_of x.page))
  pub wrote : written x o ≡ listing_of (records_of x.page)

-- The round trip: x was listed, y is lent with what LIST wrote and an empty page, z is what its lines leave
pub record RoundTrip (x y z : Lent) : Type 0 where
  -- "the pages equal byte for byte up to TOP"
  pub top : used z.page ≡ used x.page
  pub same : take (used x.page) z.page ≡ take (used x.page) x.page
  -- and what lay behind it holds
  pub after : drop (used x.page) z.page ≡ drop (used x.page) y.page
  pub memory : z.memory ≡ y.memory
  pub output : z.output ≡ y.output
  -- a table that is lent is true of the page then
  pub table : table_is_true z ≡ true
  -- all lines were typed
  pub left : drop z.call.inpos z.input ≡ last_lf (records_of x.page)
