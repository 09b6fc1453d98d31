-- `assign` meets its contract: the relations and variables that are left do what is left of the whole. Assumes nothing.
-- what was asked of the reader
-- it always reads a relation
-- its operations stand in the list, and the stack has room for their values
use mathlib.Core.Path.{◌≡◌}
use lib.ListN.{length}
use Rattle.nibl.specs.found.Read.{replied}
use Rattle.operation.specs.Operations.{variables_of}
use Rattle.operation.specs.Stacks.{sources, assigning}
use Rattle.operation.proofs.Replies.{Remains}
use Rattle.operation.proofs.assign.Given as goal

abbrev pub invariant-loop-op : goal.invariant-loop-op
invariant-loop-op l =
    (length l.vars ≡ length l.initial.vars) × (length l.ops ≡ length l.initial.ops) × (length l.values ≡ length l.initial.values)
    × Remains l.n l.text l.rest (assigning (sources l.initial.vars l.flags l.sight l.page l.memory) (variables_of l.rest) (replied l.n l.text)) (sources l.vars l.flags l.sight l.page l.memory) l.c.at l.op-index
