-- `reader::read_statement` meets its contract: the statement behind an IF makes it the whole, and what is left of the text falls. Assumes
-- nothing.
use Rattle.nibl.specs.found.Read.{statement}
use Rattle.relation.specs.Makes.{ahead}
use Rattle.reader.specs.Code.{compile}
use Rattle.reader.proofs.Spending.{Proceeds}
use Rattle.reader.proofs.read_statement.Given as goal

abbrev pub invariant-loop-v : goal.invariant-loop-v
invariant-loop-v l = Proceeds 0 statement compile l.text l.initial.ops l.initial.s l.ops l.s

abbrev pub decreases-loop-v : goal.decreases-loop-v
decreases-loop-v l = ahead l.text l.s
