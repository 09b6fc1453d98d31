-- Document 02's item 6: what two runs of one box have in common, whatever stands in the bytes that are not for it to read and in the
-- output before it.
use Rattle.std.specs.Prelude.{ℕ, ◌≤◌, ◌<◌, ◌≡◌, List, ◌⊎◌, length, get_or}
use Rattle.nibl.specs.Lent.{Lent, Outcome, Left, sight_of}
use Rattle.nibl.specs.declared.access.Access.{Access}
use Rattle.demands.specs.Whose.{Inside, MayRead}

-- two memories that a box sees alike: of one length, and the same where it may read
pub record Sees (x : Access) (m m' : List ℕ) : Type 0 where
  pub long : length m ≡ length m'
  pub same : (a : ℕ) → MayRead x a → get_or m a 0 ≡ get_or m' a 0

-- Two outputs of one length in which the same was written, from one position up to another: elsewhere each holds what it held when
-- it was lent, and that may be anything
pub record Printed (from : ℕ) (lent lent' : List ℕ) (to : ℕ) (o o' : List ℕ) : Type 0 where
  pub long : length o ≡ length o'
  pub ahead : from ≤ to
  pub same : (i : ℕ) → from ≤ i → i < to → get_or o i 0 ≡ get_or o' i 0
  pub held : (i : ℕ) → (i < from) ⊎ (to ≤ i) → get_or o i 0 ≡ get_or lent i 0
  pub held' : (i : ℕ) → (i < from) ⊎ (to ≤ i) → get_or o' i 0 ≡ get_or lent' i 0

-- Two calls of one box that agree in all that it may depend on: "its own page, table, record, input, output room, sense, budget,
-- range bounds, memory length, its own range and the shared range"
pub record CallsAlike (x y : Lent) : Type 0 where
  pub session : x.session ≡ y.session
  pub page : x.page ≡ y.page
  pub input : x.input ≡ y.input
  pub call : x.call ≡ y.call
  pub table : x.table ≡ y.table
  pub room : length x.output ≡ length y.output
  pub memory : Sees (sight_of x.call).access x.memory y.memory

-- "What a box answers, prints and keeps" is the same
pub record OutcomesAlike (x y : Lent) (o o' : Outcome) : Type 0 where
  pub answer : o.answer ≡ o'.answer
  pub session : o.session ≡ o'.session
  pub page : o.page ≡ o'.page
  pub memory : Sees (sight_of x.call).access o.memory o'.memory
  pub output : Printed x.call.outpos x.output y.output o.answer.outpos o.output o'.output

pub record LeftAlike (x y : Lent) (o o' : Left) : Type 0 where
  pub outcome : OutcomesAlike x y o.outcome o'.outcome
  pub table : o.table ≡ o'.table

-- every byte outside its own range is as it was
pub record WritesOwn (x : Lent) (o : Outcome) : Type 0 where
  pub long : length o.memory ≡ length x.memory
  pub others : (i : ℕ) → (Inside (sight_of x.call).access.own i → ⊥) → get_or o.memory i 0 ≡ get_or x.memory i 0
