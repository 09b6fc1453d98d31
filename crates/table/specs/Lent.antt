-- The table that a call is lent, by the call's numbers.
use Rattle.std.specs.Prelude.{ℕ, List, length, take, if◌then◌else◌}
use Rattle.nibl.specs.FirstRefusals.{has_table}
use Rattle.nibl.specs.declared.Call.{Call}

-- how many entries are lent, and these: no table has none
abbrev pub lent_entries : Call → List ℕ → ℕ
lent_entries c table = if has_table c then length table else 0

abbrev pub lent_part : Call → List ℕ → List ℕ
lent_part c table = take (lent_entries c table) table
