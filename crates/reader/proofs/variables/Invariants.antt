-- `reader::variables` meets its contract: what is still to be read makes it the whole, and what is left of the text falls. Assumes nothing.
use Rattle.nibl.specs.found.Read.{a_variable, joined}
use Rattle.codes.specs.Codes.{code_input_variable}
use Rattle.relation.specs.Makes.{ahead}
use Rattle.reader.specs.Code.{texts}
use Rattle.reader.proofs.Spending.{Proceeds}
use Rattle.reader.proofs.variables.Given as goal

abbrev pub invariant-loop-m : goal.invariant-loop-m
invariant-loop-m l = Proceeds 0 (joined a_variable) (texts code_input_variable) l.text l.initial.ops l.initial.s l.ops l.s

abbrev pub decreases-loop-m : goal.decreases-loop-m
decreases-loop-m l = ahead l.text l.s
