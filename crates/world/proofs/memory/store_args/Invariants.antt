-- `store_args` meets its contract: after i turns, i bytes are there. Assumes nothing.
use Prim.Native.Nat.{◌+◌, ◌≤◌}
use mathlib.Core.Path.{◌≡◌}
use lib.ListN.{length, take}
use lib.Seq.{sets}
use Rattle.world.specs.Stores.{args_of}
use Rattle.world.proofs.memory.store_args.Given as goal

abbrev pub invariant-loop-i : goal.invariant-loop-i
invariant-loop-i l =
    (l.at + length l.ops ≤ length l.initial.memory) × (length l.memory ≡ length l.initial.memory) × (l.memory ≡ sets l.initial.memory l.at (take l.i (args_of l.ops)))
