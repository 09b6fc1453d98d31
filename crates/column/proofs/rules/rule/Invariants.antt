-- `rules::rule` meets its contract: the table's rules of what may come, and of what it has too. Assumes nothing.
use mathlib.Core.Path.{◌≡◌}
use Rattle.nibl.specs.found.Column.{cases_of, case_in}
use Rattle.column.specs.Rules.{cases_if, rows_left}
use Rattle.column.proofs.rules.rule.Given as goal

abbrev pub invariant-loop-y : goal.invariant-loop-y
invariant-loop-y l = case_in (cases_if l.y) l.k ≡ case_in (cases_of l.fn.x) l.k

abbrev pub decreases-loop-y : goal.decreases-loop-y
decreases-loop-y l = rows_left l.y
