-- One outcome: a save's and a load's promise leave no choice. Assumes nothing.
use mathlib.Core.Path.{◌≡◌}
use Rattle.nibl.specs.Lent.{Lent, Left}
use Rattle.nibl.specs.Carry.{saves, loads}
use Rattle.nibl.proofs.Determined.{determined}

pub save-determined : (x : Lent) (a b : Left) → a ≡ saves x → b ≡ saves x → a ≡ b
save-determined x = determined (saves x)

pub load-determined : (x : Lent) (a b : Left) → a ≡ loads x → b ≡ loads x → a ≡ b
load-determined x = determined (loads x)
