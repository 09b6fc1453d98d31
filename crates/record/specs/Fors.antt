-- What a statement may put on the FOR stack.
use Rattle.std.specs.Prelude.{ℕ, List, [], ◌∷◌}
use Rattle.nibl.specs.Tree.{Stmt, anywhere, in_loop, counts, asks_for, role_of}

-- the variable that a FOR names
abbrev pub for_vars : Stmt → List ℕ
for_vars s = elim (role_of s) [ anywhere ↦ [] | in_loop ↦ [] | counts v ↦ v ∷ [] | asks_for vs ↦ [] ]
