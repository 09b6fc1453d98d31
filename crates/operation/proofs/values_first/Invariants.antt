-- `values_first` meets its contract: what is worked out so far stands on the stack. Assumes nothing.
use Prim.Native.Nat.{◌+◌, ◌-◌, ◌≤◌}
use mathlib.Core.Path.{◌≡◌}
use mathlib.Core.List.{[]}
use lib.ListN.{length, drop}
use Rattle.operation.specs.Operations.{values_first}
use Rattle.operation.specs.Stacks.{sources_of, stack_of, top_in}
use Rattle.operation.proofs.values_first.Given as goal

abbrev pub invariant-loop-i : goal.invariant-loop-i
invariant-loop-i l =
    (l.height ≤ l.i) × (l.from ≤ l.i) × (length l.values ≡ length l.initial.values) × (l.top ≡ top_in l.values l.height)
    × (values_first (sources_of l.s) (drop l.from l.ops) [] ≡ values_first (sources_of l.s) (drop l.i l.ops) (stack_of l.values l.height))
    × (l.i ≤ l.from + (length l.ops - l.from))
