-- Memory before document 02's item 6, when all of it was for one box.
use Rattle.std.specs.Prelude.{ℕ, ◌+◌, List, length, get_or, drop, ltb, leb, if◌then◌else◌}
use Rattle.std.proofs.lemmas.List.Edits.{sets}
use Rattle.nibl.specs.Bytes.{not_cr, front, all}
use Rattle.nibl.specs.Values.{Result, is, no, Value}

-- "'@' reads one byte, 0 to 255, at the value read as 0 to 65,535"
unfoldable pub byte_alone : List ℕ → ℕ → Value
byte_alone mem a = if ltb a (length mem) then is (get_or mem a 0) else no 16

-- "A string in memory runs to its first CR"
unfoldable pub string_alone : List ℕ → ℕ → Result (List ℕ)
string_alone mem a = if all not_cr (drop a mem) then no 16 else is (front not_cr (drop a mem))

unfoldable pub store_alone : List ℕ → ℕ → List ℕ → Result (List ℕ)
store_alone mem a bs = if leb (a + length bs) (length mem) then is (sets mem a bs) else no 16
