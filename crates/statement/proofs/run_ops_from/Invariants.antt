-- `run_ops_from` meets its contract: what is left of the list, run on the world and the values so far, does what the whole list
-- does. Assumes nothing.
-- at the head of the loop: the list, the world, the values
-- where the function returns: a value is refused; the rest of the list is taken; an effect ends the statement; the list ends
use Prim.Native.Nat.{◌+◌, ◌≤◌, ◌<◌}
use mathlib.Core.Path.{◌≡◌}
use lib.ListN.{length, drop}
use Rattle.operation.specs.Operations.{run_ops}
use Rattle.operation.specs.Stacks.{stack_of}
use Rattle.effect.specs.Worlds.{world_with, env_with}
use Rattle.statement.proofs.run_ops_from.Given as goal

abbrev pub invariant-loop-op : goal.invariant-loop-op
invariant-loop-op l =
    (0 < length l.rest → l.height + length l.rest ≤ length l.values) × (length l.vars ≡ length l.initial.vars) × (length l.memory ≡ length l.initial.memory) × (length l.output ≡ length l.initial.output)
    × (length l.reply ≡ length l.initial.reply) × (length l.replies ≡ length l.initial.replies) × (length l.values ≡ length l.initial.values)
    × (run_ops (env_with (length l.initial.reply) l.lines.page.now l.input l.sight l.here) (drop l.from l.ops) (world_with l.initial.vars l.initial.p l.initial.memory l.initial.output) (stack_of l.initial.values l.filled)
    ≡ run_ops (env_with (length l.initial.reply) l.lines.page.now l.input l.sight l.here) l.rest (world_with l.vars l.p l.memory l.output) (stack_of l.values l.height))

abbrev pub decreases-loop-op : goal.decreases-loop-op
decreases-loop-op l = length l.rest
