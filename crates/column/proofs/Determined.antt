-- One outcome: two answers that meet the public function's promise for the same line are equal. Assumes nothing.
use Prim.Native.Nat.{ℕ}
use mathlib.Core.Path.{◌≡◌}
use mathlib.Core.List.{List}
use Rattle.nibl.specs.found.Column.{column_of}
use Rattle.nibl.proofs.Determined.{determined}

pub column-determined : (line : List ℕ) (a b : ℕ) → a ≡ column_of line → b ≡ column_of line → a ≡ b
column-determined line = determined (column_of line)
