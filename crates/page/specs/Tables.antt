-- What a search among a page's lines goes by: their numbers rise, and each stands after those before it.
use Rattle.std.specs.Prelude.{ℕ, suc, ◌+◌, ◌≤◌, List, [], ◌∷◌}
use Rattle.nibl.specs.Page.{Stored, size}

-- "in strictly rising line number", from low on
pub data Rising : ℕ → List Stored → Type 0 where
  alone : {low : ℕ} → Rising low []
  rises : {low : ℕ} {r : Stored} {rs : List Stored} → low ≤ r.line → Rising (suc r.line) rs → Rising low (r ∷ rs)

-- how many bytes records have that follow each other
abbrev pub span_of : List Stored → ℕ
span_of [] = 0
span_of (r ∷ rs) = size r + span_of rs
