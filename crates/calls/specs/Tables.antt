-- The table that a call is lent, past its first refusals.
use Rattle.std.specs.Prelude.{ℕ, true, ◌≡◌, List, length}
use Rattle.nibl.specs.FirstRefusals.{table_in_range}
use Rattle.nibl.specs.declared.Call.{Call}
use Rattle.table.specs.Index.{Indexed}
use Rattle.table.specs.Lent.{lent_part}

-- one that is lent is long enough, and a search may go by it
pub record TableLent (page : List ℕ) (c : Call) (table : List ℕ) : Type 0 where
  pub long : table_in_range c (length table) ≡ true
  pub indexed : Indexed page (lent_part c table)
