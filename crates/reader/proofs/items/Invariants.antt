-- `reader::items` meets its contract: what is still to be read makes it the whole, and what is left of the text falls. Assumes nothing.
use Rattle.nibl.specs.found.Read.{an_item, joined}
use Rattle.relation.specs.Makes.{ahead}
use Rattle.reader.specs.Code.{items_code}
use Rattle.reader.proofs.Spending.{Proceeds}
use Rattle.reader.proofs.items.Given as goal

abbrev pub invariant-loop-m : goal.invariant-loop-m
invariant-loop-m l = Proceeds 1 (joined an_item) items_code l.text l.initial.ops l.initial.s l.ops l.s

abbrev pub decreases-loop-m : goal.decreases-loop-m
decreases-loop-m l = ahead l.text l.s
