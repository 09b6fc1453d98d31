use Prim.Native.Nat.{◌+◌, ◌-◌}
use mathlib.Core.Path.{◌≡◌}
use lib.ListN.{drop}
use Rattle.nibl.specs.found.Read.{replied}
use Rattle.line.specs.Answers.{list_of}
use Rattle.line.proofs.relations.Given as goal

-- so many relations are left, and what is left decides
abbrev pub invariant-loop : goal.invariant-loop
invariant-loop l = list_of (replied l.n l.text) ≡ list_of (replied (l.n + 1 - l.counter) (drop l.at l.text))
