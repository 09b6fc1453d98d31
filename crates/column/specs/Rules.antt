-- What the contracts of the rules say, beyond the definition of the column.
use Rattle.std.specs.Prelude.{ℕ, suc, ◌+◌, ◌≤◌, ◌<◌, ◌≡◌, Bool, leb, List, [], ◌++◌, map, length, take, drop, IfSome, Option as Maybe, None, Some}
use Rattle.std.proofs.Math.Option.{Option, none, some}
use denote.Ref.{Bor}
use Rattle.nibl.specs.found.Column.{Cases, cases_of, turn}
use Rattle.column.specs.declared.rules.Turn.{Turn}

-- a rule of the code: a word, how many may come after it, and these
abbrev pub Rule : Type 0
Rule = ℕ × ℕ × List ℕ

-- the code's rules as the definition's cases
abbrev pub cases : List Rule → Cases
cases rules = map (λ r. (r.0, take r.1 r.2)) rules

-- a rule has room for as many as it says
abbrev pub is_rule : Rule → Bool
is_rule r = leb r.1 (length r.2)

-- those of what may come, or of nothing
abbrev pub cases_if : Maybe ℕ → Cases
cases_if None = []
cases_if (Some x) = cases_of x

-- what may come: its own rules, and what else it has the rules of
abbrev pub Row : Type 0
Row = Bor (List Rule) × Maybe ℕ

-- all that it has
abbrev pub read : Row → Cases
read row = cases row.0.now ++ cases_if row.1

-- what else there is the rules of has a smaller number each time
abbrev pub rows_left : Maybe ℕ → ℕ
rows_left None = 0
rows_left (Some x) = suc x

-- what may come after a word, if a rule is for it
abbrev pub next_of : Maybe (Bor (List ℕ)) → Option (List ℕ)
next_of None = none
next_of (Some next) = some next.now

-- the most that may come after a word
abbrev pub most_after : ℕ
most_after = 4

-- a turn of the stack from `top` on
pub record At (stack : List ℕ) (top : ℕ) (t : Turn) : Type 0 where
  pub low : top ≤ t.at
  pub inside : t.at < length stack
  pub short : length t.next.now ≤ most_after

-- what may come then
abbrev pub after : List ℕ → Maybe Turn → Option (List ℕ)
after stack None = none
after stack (Some t) = some (t.next.now ++ drop (t.at + 1) stack)

pub record SeekIs (stack : List ℕ) (top k : ℕ) (r : Maybe Turn) : Type 0 where
  pub same : after stack r ≡ turn k (drop top stack)
  pub at : IfSome r (At stack top)

pub record Pushed (stack : List ℕ) (top : ℕ) (next stack' : List ℕ) (r : ℕ) : Type 0 where
  pub same : drop r stack' ≡ next ++ drop top stack
  pub at : r + length next ≡ top
  pub size : length stack' ≡ length stack
