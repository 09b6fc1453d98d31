-- The table that is lent beside a page, and what an edit leaves of it.
use Rattle.std.specs.Prelude.{ℕ, ◌≤◌, ◌≡◌, true, List, [], ◌∷◌, length}
use Rattle.nibl.specs.Page.{records_of}
use Rattle.nibl.specs.Table.{describes, refilled}
use Rattle.page.specs.Tables.{Rising}

-- a table that a search may go by
pub record Described (page table : List ℕ) : Type 0 where
  pub long : 1025 ≤ length table
  pub short : length page ≤ 4096
  pub is : describes page table ≡ true
  pub rising : Rising 0 (records_of page)

-- none is lent, or such a one
pub data Indexed (page table : List ℕ) : Type 0 where
  unlent : table ≡ [] → Indexed page table
  lent : Described page table → Indexed page table

-- the table after a call that left this page; none is none
abbrev pub kept_true : List ℕ → List ℕ → List ℕ
kept_true page [] = []
kept_true page (n ∷ ns) = refilled page (n ∷ ns)
