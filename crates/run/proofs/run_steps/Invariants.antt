-- `run_steps` meets its contract: what is left of the run, after the steps so far, leaves what the whole run does. Assumes nothing.
-- at the head of the loop: where the run stands, and its world
-- the member that was fetched: its operations, its place and its record's CR
-- after the operations that run without the parts
-- What a step came to, by any of its ways: its operations ended that way and left that, and what is lent is as long as before
-- and where the run is then
-- where the ways meet
use Prim.Native.Nat.{◌+◌}
use mathlib.Core.Path.{◌≡◌}
use lib.ListN.{length}
use Rattle.nibl.specs.Page.{places_of}
use Rattle.nibl.specs.Record.{mark, place, position_of}
use Rattle.nibl.specs.Runs.{run_from, run_outcome}
use Rattle.page.specs.Standing.{Stands}
use Rattle.record.specs.Fit.{Fit}
use Rattle.effect.specs.Worlds.{world_with, env_with}
use Rattle.run.specs.StepEnds.{tally}
use Rattle.run.proofs.run_steps.Given as goal

abbrev pub invariant-loop-count : goal.invariant-loop-count
invariant-loop-count l =
    (l.steps + l.left ≡ l.budget) × Stands (places_of l.page) (position_of l.q) × Fit (places_of l.page) (world_with l.vars l.p l.memory l.output).session
    × (length l.vars ≡ length l.initial.vars) × (length l.memory ≡ length l.initial.memory) × (length l.output ≡ length l.initial.output) × (length l.reply ≡ length l.initial.reply)
    × (length l.replies ≡ length l.initial.replies) × (length l.values ≡ length l.initial.values) × (length l.ops ≡ length l.initial.ops)
    × (run_outcome (run_from l.budget (env_with (length l.initial.reply) l.page l.input l.sight (place mark)) (position_of l.initial.q) (world_with l.initial.vars l.initial.p l.initial.memory l.initial.output)) l.page
    ≡ tally l.steps (run_from l.left (env_with (length l.initial.reply) l.page l.input l.sight (place mark)) (position_of l.q) (world_with l.vars l.p l.memory l.output)) l.page)

abbrev pub decreases-loop-count : goal.decreases-loop-count
decreases-loop-count l = l.left
