-- "The length of the longest front part of the line that could still be the front of some line with a reading, the 72 limit put aside":
-- document 02's column, said of the grammar.
use Rattle.std.specs.Prelude.{ℕ, ◌≤◌, ◌<◌, List, ◌++◌, length, take}
use Rattle.nibl.specs.Tree.{Typed}
use Rattle.nibl.specs.Readings.{LineReading}

-- some line with a reading begins with s
pub record Front (s : List ℕ) : Type 0 where
  pub more : List ℕ
  pub line : Typed
  pub reading : LineReading (s ++ more) line

pub record IsColumn (s : List ℕ) (n : ℕ) : Type 0 where
  pub within : n ≤ length s
  pub front : Front (take n s)
  pub longest : (m : ℕ) → n < m → m ≤ length s → Front (take m s) → ⊥
