-- What writing an item does: whole from a position of the output on, or not at all.
use Rattle.std.specs.Prelude.{◌≡◌, ℕ, ◌+◌, Bool, List, length, nat_le, if◌then◌else◌, Option, Some, None}
use Rattle.std.proofs.lemmas.List.Edits.{sets}
use Rattle.nibl.specs.Bytes.{byte}
use Rattle.nibl.specs.Values.{Value, is, no, is_negative}

-- the position after the item, or the stop number of an item that does not fit
abbrev pub wrote_of : Option ℕ → Value
wrote_of (Some n) = is n
wrote_of None = no 17

abbrev pub item_fits : List ℕ → ℕ → List ℕ → Bool
item_fits output at item = nat_le (at + length item) (length output)

-- from an output before to an output after, and the answer
pub record Writes (before : List ℕ) (at : ℕ) (item : List ℕ) (r : Option ℕ) (after : List ℕ) : Type 0 where
  pub answer : wrote_of r ≡ (if item_fits before at item then is (at + length item) else no 17)
  pub output : after ≡ (if item_fits before at item then sets before at item else before)

abbrev pub sign_byte : ℕ → ℕ
sign_byte v = if is_negative v then byte "-" else byte " "
