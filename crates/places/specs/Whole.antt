-- A whole record by its length byte, and the room that the reader of its text needs.
use Rattle.std.specs.Prelude.{ℕ, ◌-◌, ◌≤◌, Bool, ◌&&◌, List, length, get_or, leb, eqb, if◌then◌else◌, Option, Some, None}
use Rattle.nibl.specs.Bytes.{byte_cr}
use Rattle.nibl.specs.Page.{length_at, is_record}

-- an operation to each byte; a text is a record's
pub record Roomy (text ops : List ℕ) : Type 0 where
  pub room : length text ≤ length ops
  pub short : length text ≤ 251

-- the bytes that the length byte names are there, and a CR ends them
abbrev pub is_whole_record : List ℕ → Bool
is_whole_record q = leb 5 (length_at q) && (leb (length_at q) (length q) && eqb (get_or q (length_at q - 1) 0) byte_cr)

-- how many bytes it has, if one stands here
abbrev pub whole_size : List ℕ → Option ℕ
whole_size q = if is_whole_record q then Some (length_at q) else None

-- how many bytes a record has that a good page may hold here, if one stands here
abbrev pub record_size : ℕ → ℕ → List ℕ → Option ℕ
record_size lim low q = if is_record lim low q then Some (length_at q) else None
