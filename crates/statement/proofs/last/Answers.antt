-- `last` meets its contract: a store, or a reply. Assumes nothing.
use mathlib.Core.Path.{sym, ◌∙◌}
use borrow.Author.Tests.{eq-eqb, ne_eqb}
use lib.ListN.{length}
use Rattle.nibl.specs.Meaning.{store_at}
use Rattle.nibl.specs.Stack.{no_place}
use Rattle.codes.specs.Codes.{code_store_string}
use Rattle.world.specs.Stores.{args_of}
use Rattle.effect.specs.Worlds.{world_with, env_with}
use Rattle.effect.proofs.Answers.{store_in}
use Rattle.statement.proofs.Running.{last-stores, last-asks}
use Rattle.statement.proofs.last.Goals as goal

pub returns-then-op-eq-STORE_STRING : goal.returns-then-op-eq-STORE_STRING
returns-then-op-eq-STORE_STRING c =
    let a = c.args in
    rw c.store_ends.ensures
    (store_in a.parts a.vars.now a.memory.now a.output.now c.store_args.result (store_at a.sight.access a.memory.now a.x (args_of a.rest.now)) c.store_args.ensures
    ∙ sym
    (last-stores (env_with (length a.reply.now) a.page.now a.input.now a.sight no_place) a.op a.x a.rest.now (world_with a.vars.now a.parts a.memory.now a.output.now)
    (eq-eqb _ code_store_string c.if-op-eq-STORE_STRING.true)))

pub returns : goal.returns
returns c =
    let a = c.args in
    c.input_values.ensures
    ∙ sym
    (last-asks (env_with (length a.reply.now) a.page.now a.input.now a.sight no_place) a.op a.x a.rest.now (world_with a.vars.now a.parts a.memory.now a.output.now)
    (ne_eqb _ code_store_string c.if-op-eq-STORE_STRING.false))
