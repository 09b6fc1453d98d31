-- Where records end that stand one behind the other in a slice.
use Rattle.std.specs.Prelude.{ℕ, ◌-◌, List, length, Option, Some, None}
use Rattle.nibl.specs.found.Form.{Parted, broken, parted}

-- where that begins in s which stands behind the records; nowhere where one of them is none
abbrev pub end_in : List ℕ → Parted → Option ℕ
end_in s broken = None
end_in s (parted rs q) = Some (length s - length q)
