-- Where a line stands among the others, and what a table already says of a page.
use Rattle.std.specs.Prelude.{ℕ, suc, ◌+◌, ◌≤◌, ◌≡◌, List, [], ◌∷◌, ◌++◌, length, take, drop, ltb, eqb, if◌then◌else◌}
use Rattle.nibl.specs.Page.{Stored, records_of, line_at}
use Rattle.nibl.specs.Table.{positions_from}
use Rattle.page.specs.Walk.{size_at}
use Rattle.page.specs.Edits.{Seated}
use Rattle.table.specs.declared.Spot.{Spot}

-- how many records have a lower number, where the numbers rise
abbrev pub below : ℕ → List Stored → ℕ
below n [] = 0
below n (r ∷ rs) = if ltb r.line n then suc (below n rs) else 0

-- how many bytes of the line n stand here
abbrev pub gone_at : List ℕ → ℕ → ℕ
gone_at q n = if eqb (line_at q) n then size_at q else 0

-- the first k lines of a page go up to `at`, and the table has their positions
pub record TableFront (page table : List ℕ) (k at : ℕ) : Type 0 where
  pub long : 1025 ≤ length table
  pub short : length page ≤ 4096
  pub count : length (records_of page) ≡ k + length (records_of (drop at page))
  pub places : positions_from 0 (records_of page) ≡ take k (drop 1 table) ++ positions_from at (records_of (drop at page))

-- a line's seat, and, where a table is lent, how many lines stand before it
pub record Spotted (page table : List ℕ) (n : ℕ) (s : Spot) : Type 0 where
  pub seated : Seated page n s.seat
  pub index : 1 ≤ length table → s.index ≡ below n (records_of page)
