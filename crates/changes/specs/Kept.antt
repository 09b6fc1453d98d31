-- What a change of the rules keeps.
use Rattle.std.specs.Prelude.{ℕ, List, [], ◌∷◌}
use Rattle.nibl.specs.Words.{Token}
use Rattle.nibl.specs.Tree.{Member}
use Rattle.demands.specs.Good.{GoodFromBy, ends, goes_on}

-- a word by the one rule is the word by the other, with the same text behind it
abbrev pub KeepsWords : (W W' : List ℕ → Token → List ℕ → Type 0) → Type 0
KeepsWords W W' = (s : List ℕ) (w : Token) (s' : List ℕ) → W s w s' → W' s w s'

-- what the one reads as a statement list the other reads as the same list
abbrev pub KeepsLists : (R R' : List ℕ → List Member → Type 0) → Type 0
KeepsLists R R' = (t : List ℕ) (ms : List Member) → R t ms → R' t ms

-- the lines of a good page: number, text and reading of each record
module _ {R : List ℕ → List Member → Type 0} {lim : ℕ} {page : List ℕ} where
  abbrev pub lines_in : {low at : ℕ} → GoodFromBy R lim page low at → List (ℕ × List ℕ × List Member)
  lines_in (ends m) = []
  lines_in (goes_on {n} {t} l r g more) = (n, t, g.members) ∷ lines_in more
