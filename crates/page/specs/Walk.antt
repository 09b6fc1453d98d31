-- The walk along a page by its length bytes, and what the answers of its functions say.
use Rattle.std.specs.Prelude.{ℕ, ◌+◌, ◌≤◌, ◌<◌, Bool, true, false, ◌||◌, ◌≡◌, List, length, drop, ltb, leb, MatchOption, if◌then◌else◌}
use Rattle.std.specs.Prelude.{Option as Opt, Some, None}
use Rattle.nibl.specs.declared.Onward.{Onward}
use Rattle.std.proofs.Math.Option.{Option, none, some}
use Rattle.nibl.specs.Page.{Stored, is_end, line_at, length_at, text_at}
use Rattle.nibl.specs.Record.{position_of}
use Rattle.nibl.specs.Runs.{line_from}
use Rattle.page.specs.declared.Where.{Where}
use Rattle.page.specs.declared.Where.TheVariants as where'

-- no record begins here
abbrev pub stops_at : List ℕ → Bool
stops_at q = is_end q || ltb (length_at q) 5

-- the record that stands here
abbrev pub record_at : List ℕ → Stored
record_at q = record { line = line_at q; text = text_at q }

-- how many bytes the record here has, and 0 where none begins
unfoldable pub size_at : List ℕ → ℕ
size_at q = if stops_at q then 0 else length (text_at q) + 4

-- what is answered for it: that number, or nothing where none begins
abbrev pub Sizes : List ℕ → Opt ℕ → Type 0
Sizes q r = MatchOption r (size_at q ≡ 0) (λ n. (n ≡ size_at q) × (0 < n))

-- where a walk by the length bytes is: past a record that the page's end cuts off it is behind the CR that would come next
abbrev pub cut : List ℕ → ℕ → ℕ
cut p at = if leb at (length p) then at else length p + 1

-- the position at which a line's record stands
abbrev pub found_at : Opt Onward → Option ℕ
found_at None = none
found_at (Some o) = some (position_of o)

-- a position that a place can name
abbrev pub reached : Option ℕ → Option ℕ
reached none = none
reached (some q) = if ltb q 65536 then some q else none

-- where the next text begins, if there is one
abbrev pub begin_of : Opt ℕ → Option ℕ
begin_of None = none
begin_of (Some a) = some a

-- the running text: from a position of the page to the next CR, or the typed line
abbrev pub text_of : List ℕ → List ℕ → Where → List ℕ
text_of page line (where'.Page a) = line_from page a
text_of page line where'.Line = line

-- a record of line n stands at q
pub record LineRecord (page : List ℕ) (n q : ℕ) : Type 0 where
  pub inside : q + 3 ≤ length page
  pub line : line_at (drop q page) ≡ n
  pub there : stops_at (drop q page) ≡ false

-- whether a line was found
abbrev pub is_there : Option ℕ → Bool
is_there none = false
is_there (some q) = true

-- What a step of the walk gives at a position: where the record stands and how many bytes it has, and the walk goes on behind it; or
-- nothing where none begins. The page stays
abbrev pub Steps : List ℕ → ℕ → Opt (ℕ × ℕ) → List ℕ → ℕ → Type 0
Steps page at r later next =
    (later ≡ page)
    × MatchOption r (Sizes (drop at page) None × (next ≡ at)) (λ p. (p.0 ≡ at) × (Sizes (drop at page) (Some p.1) × (next ≡ at + p.1)))
