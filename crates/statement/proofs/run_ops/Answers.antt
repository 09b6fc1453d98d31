-- `run_ops` meets its contract: it runs the list from its start, with no values. Assumes nothing.
use mathlib.Core.Path.{ap, ◌∙◌}
use lib.ListN.{length}
use Rattle.operation.specs.Operations.{run_ops}
use Rattle.operation.proofs.Stacks.{stack-none}
use Rattle.effect.specs.Worlds.{world_with, env_with}
use Rattle.statement.proofs.run_ops.Goals as goal

pub returns : goal.returns
returns c =
    let a = c.args in
    c.run_ops_from.ensures
    ∙ ap (run_ops (env_with (length a.reply.now) a.page.now a.input.now a.sight a.here) a.ops.now (world_with a.vars.now a.parts a.memory.now a.output.now)) (stack-none a.values.now)
