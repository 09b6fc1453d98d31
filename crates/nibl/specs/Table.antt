-- Document 02's item 3, the table beside the page: "the line count, then each record's position, in order".
use Rattle.std.specs.Prelude.{ℕ, ◌+◌, Bool, List, [], ◌∷◌, ◌++◌, length, drop}
use Rattle.nibl.specs.Words.{begins}
use Rattle.nibl.specs.Page.{Stored, records_of, size}

-- where records stand that follow each other from `at` on
abbrev pub positions_from : ℕ → List Stored → List ℕ
positions_from at [] = []
positions_from at (r ∷ rs) = at ∷ positions_from (at + size r) rs

-- the table of these records
abbrev pub table_of : List Stored → List ℕ
table_of rs = length rs ∷ positions_from 0 rs

-- "what a fresh walk of the page gives"
unfoldable pub walk_table : List ℕ → List ℕ
walk_table page = table_of (records_of page)

-- a table begins with that; what it holds past the last line is not looked at
unfoldable pub describes : List ℕ → List ℕ → Bool
describes page table = begins (walk_table page) table

-- the table made true of a page: "entries past the last line hold what they held"
unfoldable pub refilled : List ℕ → List ℕ → List ℕ
refilled page table = walk_table page ++ drop (length (walk_table page)) table
