-- The first refusals of a call: what it is lent is out of range, the page is bad, the table false, or the record does not fit.
use Rattle.std.specs.Prelude.{ℕ, Bool, true, not, ◌&&◌, List, length, leb, eqb, if◌then◌else◌}
use Rattle.nibl.specs.Page.{is_good, fits}
use Rattle.nibl.specs.Table.{describes}
use Rattle.nibl.specs.Lent.{Lent}
use Rattle.nibl.specs.declared.Call.{Call}

-- "Each call is lent a page of 2 to 4,096 bytes": the tests of refusal 1, one for each thing that is lent, by its length
abbrev pub page_in_range : ℕ → Bool
page_in_range n = leb 2 n && leb n 4096

-- "a memory of 0 to 4,096 bytes"
abbrev pub memory_in_range : ℕ → Bool
memory_in_range n = leb n 4096

-- "an input and an output of at most 65,535 bytes each with a position from 0 to the length"
abbrev pub input_in_range : ℕ → Bool
input_in_range n = leb n 65535

abbrev pub output_in_range : ℕ → Bool
output_in_range n = leb n 65535

abbrev pub position_in_range : ℕ → ℕ → Bool
position_in_range at n = leb at n

-- "a step budget of 0 to 65,535"
abbrev pub budget_in_range : ℕ → Bool
budget_in_range k = leb k 65535

-- whether a table is lent
abbrev pub has_table : Call → Bool
has_table c = not (eqb c.tabled 0)

-- "A table of fewer than 1,025 entries is refused with 1", one of n entries
abbrev pub table_in_range : Call → ℕ → Bool
table_in_range c n = if has_table c then leb 1025 n else true

-- "a length, position or budget outside the above", of a call that looks at all that is lent
abbrev pub lengths_in_range : ℕ → ℕ → ℕ → ℕ → Call → ℕ → Bool
lengths_in_range page memory input output c table =
    page_in_range page && (memory_in_range memory && (input_in_range input && (output_in_range output
    && (position_in_range c.inpos input && (position_in_range c.outpos output && (budget_in_range c.budget && table_in_range c table))))))

abbrev pub in_range : Lent → Bool
in_range x = lengths_in_range (length x.page) (length x.memory) (length x.input) (length x.output) x.call (length x.table)

-- "26, a table that does not describe the page"
abbrev pub true_of : List ℕ → Call → List ℕ → Bool
true_of page c table = if has_table c then describes page table else true

abbrev pub table_is_true : Lent → Bool
table_is_true x = true_of x.page x.call x.table

-- "Order: 1, 18, 19, 7, 5, 3, 2, then running", with 26 "directly after 18": the first four stand here, 0 for none; 7 and 5 in
-- `obey_line`, 3 and 2 in `obey` (Calls.antt). "Refusals 1, 18 and 19 .. change nothing", and 26 neither
unfoldable pub first_refusal : ℕ → Lent → ℕ
first_refusal lim x =
    if not (in_range x) then 1
    else if not (is_good lim x.page) then 18
    else if not (table_is_true x) then 26
    else if not (fits x.page x.session) then 19
    else 0
