-- `run_from` meets its contract: the record is taken apart for the run, and put together after it. Assumes nothing.
use mathlib.Core.Path.{sym, ap, ◌∙◌}
use lib.ListN.{length}
use Rattle.nibl.specs.Meaning.{World}
use Rattle.nibl.specs.Record.{place, mark, position_of}
use Rattle.nibl.specs.Runs.{run_from, run_outcome}
use Rattle.nibl.specs.Lent.{sight_of}
use Rattle.nibl.specs.declared.Parts.{Parts}
use Rattle.nibl.specs.declared.access.Sight.{Sight}
use Rattle.effect.specs.Worlds.{env_with, world_with}
use Rattle.outcome.specs.Ends.{ended_in}
use Rattle.outcome.specs.declared.Ended.{Ended}
use Rattle.outcome.proofs.Lent.{may-run, world_same}
use Rattle.outcome.proofs.run_from.Goals as goal

pub slice_bounds-run_steps-end : goal.slice_bounds-run_steps-end
slice_bounds-run_steps-end c = sym c.requires.0.1.fits.vars

pub run_steps-r-requires : goal.run_steps-r-requires
run_steps-r-requires c = rw c.parts-parts.ensures (may-run c.requires.0.0 c.requires.0.1 c.requires.0.2 _ _ _ _, c.requires.1)

pub returns : goal.returns
returns c =
    let a = c.args in
    let r = c.run_steps-r in
    ap (λ (e : Ended). ended_in e a.page.now r.new.memory r.new.output) c.ran.ensures
    ∙ r.ensures
    ∙ ap (λ (y : Sight). run_outcome (run_from a.call.budget (env_with (length a.reply.now) a.page.now a.input.now y (place mark)) (position_of a.from) (world_with a.session.vars c.parts-parts.result a.memory.now a.output.now)) a.page.now) c.sight-sight.ensures
    ∙ ap (λ (w : World). run_outcome (run_from a.call.budget (env_with (length a.reply.now) a.page.now a.input.now (sight_of a.call) (place mark)) (position_of a.from) w) a.page.now)
    (ap (λ (p : Parts). world_with a.session.vars p a.memory.now a.output.now) c.parts-parts.ensures
    ∙ world_same a.session c.requires.0.1.idle a.memory.now a.output.now a.call.inpos a.call.outpos)
