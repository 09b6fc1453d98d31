-- The operators by number: their index in the grammar's lists.
use Rattle.std.specs.Prelude.{ℕ, List, [], ◌∷◌, get_or}
use Rattle.nibl.specs.Tree.{Op, times, divided_by, and_bits, plus, minus, or_bits, equal, less, greater, at_most, at_least, unequal}

abbrev pub op_number : Op → ℕ
op_number times = 0
op_number divided_by = 1
op_number and_bits = 2
op_number plus = 3
op_number minus = 4
op_number or_bits = 5
op_number equal = 6
op_number less = 7
op_number greater = 8
op_number at_most = 9
op_number at_least = 10
op_number unequal = 11

abbrev pub operator_count : ℕ
operator_count = 12

-- in that order; any other number is the last one's
abbrev pub operators : List Op
operators = times ∷ divided_by ∷ and_bits ∷ plus ∷ minus ∷ or_bits ∷ equal ∷ less ∷ greater ∷ at_most ∷ at_least ∷ []

unfoldable pub op_of : ℕ → Op
op_of n = get_or operators n unequal
