-- The words of item 3: a call with no table lent, and what an edit leaves of a table.
use Rattle.std.specs.Prelude.{ℕ, suc, ◌≡◌, List, length, take, drop}
use Rattle.nibl.specs.Lent.{Lent, lent_all}

-- the same lent, with another table or number that says whether it is lent
abbrev pub tabled_by : ℕ → List ℕ → Lent → Lent
tabled_by n table x =
    lent_all x.session x.page x.memory x.input x.output
    (record { inpos = x.call.inpos; outpos = x.call.outpos; sense = x.call.sense; budget = x.call.budget; tabled = n }) table

-- the same call with no table lent
abbrev pub unlent : Lent → Lent
unlent x = tabled_by 0 x.table x

-- Of a table: "only the count and the entries from the edited line on may change", and "entries past the last line hold what they
-- held". k lines stand before the edited one, and the page has m lines then
pub record HeldBut (k m : ℕ) (table after : List ℕ) : Type 0 where
  pub long : length after ≡ length table
  pub before : take k (drop 1 after) ≡ take k (drop 1 table)
  pub past : drop (suc m) after ≡ drop (suc m) table
