-- INPUT in a statement: the variables that it names.
use Rattle.std.specs.Prelude.{ℕ, Bool, true, false, List, [], ◌∷◌, set}
use Rattle.nibl.specs.Tree.{Stmt, anywhere, in_loop, counts, asks_for, role_of}

abbrev pub asks : Stmt → Bool
asks s = elim (role_of s) [ anywhere ↦ false | in_loop ↦ false | counts v ↦ false | asks_for vs ↦ true ]

abbrev pub input_vars : Stmt → List ℕ
input_vars s = elim (role_of s) [ anywhere ↦ [] | in_loop ↦ [] | counts v ↦ [] | asks_for vs ↦ vs ]

-- the variables given, one after the other in their order, up to one of them
pub data GivenIn : List ℕ → List ℕ → List ℕ → Type 0 where
  stay : {us vars : List ℕ} → GivenIn us vars vars
  give : {u : ℕ} {us vars after : List ℕ} (x : ℕ) → GivenIn us (set vars u x) after → GivenIn (u ∷ us) vars after
