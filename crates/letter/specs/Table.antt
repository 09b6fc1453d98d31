-- What a table of classes is.
use Rattle.std.specs.Prelude.{ℕ, ◌<◌, ◌≡◌, List, get_or}
use Rattle.nibl.specs.Bytes.{class_of}

-- "The class of each of the 256 byte values is read from a table": each entry is the class of its place
pub record Classifies (table : List ℕ) : Type 0 where
  pub entry : (b : ℕ) → b < 256 → get_or table b 0 ≡ class_of b
