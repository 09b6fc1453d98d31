-- Document 02's item 5, "Carry a rule set to another box": the saved form.
use Rattle.std.specs.Prelude.{ℕ, ◌/◌, ◌%◌, List, [], ◌∷◌, ◌++◌, length}
use Rattle.nibl.specs.Page.{Stored, record_bytes}

-- "Service moves program, variables and memory"
pub record RuleSet : Type 0 where
  pub vars : List ℕ
  pub records : List Stored
  pub memory : List ℕ

-- "two bytes each, high first"
abbrev pub two_bytes : ℕ → List ℕ
two_bytes n = n / 256 ∷ n % 256 ∷ []

abbrev pub values_bytes : List ℕ → List ℕ
values_bytes [] = []
values_bytes (v ∷ vs) = two_bytes v ++ values_bytes vs

-- "the records as in the page", with no end mark
abbrev pub records_bytes : List Stored → List ℕ
records_bytes [] = []
records_bytes (r ∷ rs) = record_bytes r ++ records_bytes rs

-- "a two-byte byte count and the memory"
abbrev pub counted : List ℕ → List ℕ
counted m = two_bytes (length m) ++ m

-- "form number 1"
abbrev pub form_number : ℕ
form_number = 1

-- "one byte form number 1; then one byte 26 and the variables; then a two-byte line count and the records; then" the memory
unfoldable pub saved_form : RuleSet → List ℕ
saved_form c = form_number ∷ 26 ∷ (values_bytes c.vars ++ (two_bytes (length c.records) ++ (records_bytes c.records ++ counted c.memory)))
