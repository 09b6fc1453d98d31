-- What is asked for before a form is written, what an opened slice is known to carry, and what is asked for before it is loaded.
use Rattle.std.specs.Prelude.{ℕ, ◌+◌, ◌-◌, ◌≤◌, ◌≡◌, true, List, length, take, drop, Result, Ok, Err}
use Rattle.nibl.specs.Values.{is, no}
use Rattle.nibl.specs.Typing.{limit}
use Rattle.nibl.specs.Page.{Stored, is_good, used}
use Rattle.nibl.specs.FirstRefusals.{table_in_range}
use Rattle.nibl.specs.Saved.{records_bytes}
use Rattle.nibl.specs.found.Form.{values_in, form_in}
use Rattle.nibl.specs.declared.Call.{Call}
use Rattle.nibl.specs.declared.stop.Stop.{Stop}

-- a good page, lengths that two bytes can say, and room
pub record Savable (output : List ℕ) (at : ℕ) (page memory : List ℕ) : Type 0 where
  pub good : is_good limit page ≡ true
  pub paged : length page ≤ 4096
  pub small : length memory ≤ 4096
  pub room : at + 56 + used page + length memory ≤ length output

-- s carries records that end at e, and behind their count the memory
pub record OpenedAt (lim : ℕ) (s : List ℕ) (e : ℕ) : Type 0 where
  pub records : List Stored
  pub form : form_in lim s ≡ is (record { vars = values_in 26 (drop 2 s); records = records; memory = drop (e + 2) s })
  pub bytes : take (e - 56) (drop 56 s) ≡ records_bytes records
  pub start : 56 ≤ e
  pub inside : e + 2 ≤ length s

-- what the answer says of a slice that was opened
abbrev pub OpenedAs : ℕ → List ℕ → Result ℕ Stop → Type 0
OpenedAs lim s (Ok e) = OpenedAt lim s e
OpenedAs lim s (Err n) = form_in lim s ≡ no n.0

-- an opened slice, and lengths in range
pub record Loadable (lim : ℕ) (page s : List ℕ) (e : ℕ) (c : Call) (table : List ℕ) : Type 0 where
  pub opened : OpenedAt lim s e
  pub paged : length page ≤ 4096
  pub long : table_in_range c (length table) ≡ true
