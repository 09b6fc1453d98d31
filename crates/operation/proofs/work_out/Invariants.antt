-- `work_out` meets its contract: what is worked out so far stands on the stack. Assumes nothing.
use Prim.Native.Nat.{◌≤◌}
use mathlib.Core.Path.{◌≡◌}
use mathlib.Core.List.{[]}
use lib.ListN.{length, drop}
use Rattle.operation.specs.Operations.{work_out}
use Rattle.operation.specs.Stacks.{sources_of, stack_of, top_in}
use Rattle.operation.proofs.work_out.Given as goal

abbrev pub invariant-loop-op : goal.invariant-loop-op
invariant-loop-op l =
    (l.height ≤ l.op-index) × (length l.values ≡ length l.initial.values) × (l.top ≡ top_in l.values l.height)
    × (work_out (sources_of l.s) l.ops [] ≡ work_out (sources_of l.s) (drop l.op-index l.ops) (stack_of l.values l.height))
