-- `rules::row` meets its contract: its arms compute to the definition's cases. Assumes nothing.
use mathlib.Core.Path.{sym, ap}
use Rattle.nibl.specs.found.Column.{cases_of}
use Rattle.column.proofs.rules.row.Goals as goal

pub returns-in-4-clause-cases : goal.returns-in-4-clause-cases
returns-in-4-clause-cases c = ap cases_of (sym c.in-4.is)
