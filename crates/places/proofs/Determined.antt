-- One outcome: two answers that meet a public function's promise for the same arguments are equal. Assumes nothing.
use Prim.Native.Nat.{ℕ}
use Rattle.std.specs.Prelude.{Option}
use mathlib.Core.Path.{◌≡◌}
use mathlib.Core.Bool.{Bool}
use mathlib.Core.List.{List}
use lib.ListN.{drop}
use Rattle.nibl.specs.Page.{is_good, places_of, is_among}
use Rattle.nibl.specs.found.Form.{records_in}
use Rattle.nibl.proofs.Determined.{determined}
use Rattle.places.specs.Ends.{end_in}

pub good-determined : (lim : ℕ) (page : List ℕ) (a b : Bool) → a ≡ is_good lim page → b ≡ is_good lim page → a ≡ b
good-determined lim page = determined (is_good lim page)

pub place-determined : (page : List ℕ) (p : ℕ) (a b : Bool) → a ≡ is_among (places_of page) p → b ≡ is_among (places_of page) p → a ≡ b
place-determined page p = determined (is_among (places_of page) p)

pub end-determined : (lim count from : ℕ) (s : List ℕ) (m n : Option ℕ) → m ≡ end_in s (records_in lim count 0 (drop from s)) → n ≡ end_in s (records_in lim count 0 (drop from s)) → m ≡ n
end-determined lim count from s = determined (end_in s (records_in lim count 0 (drop from s)))
