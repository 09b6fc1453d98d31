-- What a call is lent: in range, and with a line to take; and the numbers that a call may answer.
use Rattle.std.specs.Prelude.{ℕ, ◌≤◌, ◌≡◌, true, false, List, [], ◌∷◌, length, drop}
use Rattle.std.proofs.Math.Option.{Option, some}
use Rattle.nibl.specs.Typing.{Gathered, gather}
use Rattle.nibl.specs.Page.{is_among}
use Rattle.nibl.specs.Lent.{Lent, Outcome, lent_all, with_budget}
use Rattle.nibl.specs.FirstRefusals.{first_refusal}

-- a table is lent
abbrev pub HasTable : Lent → Type 0
HasTable x = x.call.tabled ≡ 0 → ⊥

-- "a length, position or budget outside" of these is 1, and "a table of fewer than 1,025 entries"
pub record InRange (x : Lent) : Type 0 where
  pub some : 2 ≤ length x.page
  pub page : length x.page ≤ 4096
  pub memory : length x.memory ≤ 4096
  pub input : length x.input ≤ 65535
  pub output : length x.output ≤ 65535
  pub inpos : x.call.inpos ≤ length x.input
  pub outpos : x.call.outpos ≤ length x.output
  pub budget : x.call.budget ≤ 65535
  pub table : HasTable x → 1025 ≤ length x.table

abbrev pub gathered_line : ℕ → Lent → Option Gathered
gathered_line lim x = gather lim (drop x.call.inpos x.input)

-- past the first refusals the line g was gathered, and is not over-long
pub record Typing (lim : ℕ) (x : Lent) (g : Gathered) : Type 0 where
  pub sound : first_refusal lim x ≡ 0
  pub line : gathered_line lim x ≡ some g
  pub short : g.line.long ≡ false

-- the same call with a budget of k
abbrev pub budgeted : ℕ → Lent → Lent
budgeted k x = lent_all x.session x.page x.memory x.input x.output (with_budget k x.call) x.table

-- Stop numbers
abbrev pub OneOfThese : List ℕ → ℕ → Type 0
OneOfThese ns n = is_among ns n ≡ true

-- those of document 01's table, 21 and 26
abbrev pub reply_numbers : List ℕ
reply_numbers = 0 ∷ 1 ∷ 2 ∷ 3 ∷ 5 ∷ 6 ∷ 7 ∷ 8 ∷ 9 ∷ 10 ∷ 11 ∷ 12 ∷ 13 ∷ 14 ∷ 15 ∷ 16 ∷ 17 ∷ 18 ∷ 19 ∷ 20 ∷ 21 ∷ 26 ∷ []

abbrev pub Numbered : Outcome → Type 0
Numbered o = OneOfThese reply_numbers o.answer.stop

-- "1, 18 and 19 change nothing", and 26, "directly after 18 and, like 18, with nothing changed"
abbrev pub first_refusals : List ℕ
first_refusals = 1 ∷ 18 ∷ 26 ∷ 19 ∷ []

abbrev pub two_and_three : List ℕ
two_and_three = 2 ∷ 3 ∷ []
