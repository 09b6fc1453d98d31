-- One outcome: two answers that meet the public function's promise for the same arguments are equal. Assumes nothing.
use Prim.Native.Nat.{ℕ}
use mathlib.Core.Path.{◌≡◌}
use mathlib.Core.Bool.{Bool}
use mathlib.Core.List.{List}
use Rattle.nibl.specs.Page.{fits}
use Rattle.nibl.specs.declared.Session.{Session}
use Rattle.nibl.proofs.Determined.{determined}

pub fits-determined : (page : List ℕ) (s : Session) (a b : Bool) → a ≡ fits page s → b ≡ fits page s → a ≡ b
fits-determined page s = determined (fits page s)
