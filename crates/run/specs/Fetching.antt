-- The member that is next in a program: what a fetch answers, however it comes by its operations.
use Rattle.std.specs.Prelude.{ℕ, ◌+◌, ◌≤◌, ◌<◌, List, ◌≡◌, length, take}
use Rattle.std.specs.Prelude.{Option, Some, None}
use Rattle.nibl.specs.declared.Place.{Place}
use Rattle.std.proofs.Math.Option.{some}
use Rattle.nibl.specs.Runs.{line_from, text_from, fetch}
use Rattle.nibl.specs.Runs as nibl
use Rattle.nibl.specs.Record.{position}
use Rattle.reader.specs.Code.{compile}

-- the member's operations, the place that ends it, and that of its record's CR; or none, past the last line
pub data Fetch : Type 0 where
  past : Fetch
  fetched : List ℕ → ℕ → ℕ → Fetch

-- what was fetched, in operations. A text with no member, which no good page has, counts as the program's end
abbrev pub in_operations : nibl.Fetched → Fetch
in_operations nibl.past = past
in_operations (nibl.unread a) = past
in_operations (nibl.here x) = fetched (compile x.statement) x.place x.cr

unfoldable pub fetch_of : List ℕ → ℕ → Fetch
fetch_of page q = in_operations (fetch page q)

abbrev pub fetched_in : Option (ℕ × Place × Place) → List ℕ → Fetch
fetched_in None ops = past
fetched_in (Some (n, p, cr)) ops = fetched (take n ops) (position p) (position cr)

abbrev pub fetched_count : Option (ℕ × Place × Place) → ℕ
fetched_count None = 0
fetched_count (Some (n, p, cr)) = n

-- the text that begins at a lies in the page, and there is an operation to each of its bytes
pub record TextRoom (page : List ℕ) (a : ℕ) (ops : List ℕ) : Type 0 where
  pub inside : a + length (line_from page a) < length page
  pub room : length (line_from page a) ≤ length ops

-- so it is with the text that is next
pub record FetchRoom (page : List ℕ) (q : ℕ) (ops : List ℕ) : Type 0 where
  pub places : length page ≤ 65535
  pub texts : (a : ℕ) → text_from page q ≡ some a → TextRoom page a ops
