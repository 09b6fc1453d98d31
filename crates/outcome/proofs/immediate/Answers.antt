-- `immediate` meets its contract: by the way that the statement goes. Assumes nothing.
use Prim.Native.Nat.{ℕ}
use Rattle.std.proofs.Common.{inl, inr}
use mathlib.Core.List.{[]}
use mathlib.Core.Path.{◌≡◌, sym, ap, subst, ◌∙◌}
use native.Mathlib.Omega.{arith}
use lib.ListN.{length, take}
use lib.Seq.{length-take-le}
use Rattle.nibl.specs.found.Read.{typed}
use Rattle.nibl.specs.found.Column.{column_of}
use Rattle.nibl.specs.Record.{place, mark, position_of}
use Rattle.nibl.specs.Meaning.{World, Env, Done, done, exec}
use Rattle.nibl.specs.Lent.{Outcome, sight_of}
use Rattle.nibl.specs.Runs.{run_from, run_outcome}
use Rattle.nibl.specs.Calls.{after_immediate, obey_read}
use Rattle.nibl.specs.declared.Session.{Session}
use Rattle.nibl.specs.declared.Call.{Call}
use Rattle.nibl.specs.declared.Place.{Place}
use Rattle.nibl.specs.declared.access.Sight.{Sight}
use Rattle.nibl.specs.Page.{is_good, places_of}
use Rattle.nibl.specs.declared.Onward.{Onward}
use Rattle.page.specs.Standing.{Stands}
use Rattle.record.specs.Fit.{Fit}
use Rattle.world.specs.Turns.{way_of}
use Rattle.world.specs.declared.jump.Way.{Way}
use Rattle.world.specs.declared.jump.Way.TheVariants as way
use Rattle.effect.specs.Worlds.{env_with, world_with, did_in}
use Rattle.operation.specs.Operations.{run_ops}
use Rattle.outcome.specs.Ends.{ended_in, world_at, stopped}
use Rattle.outcome.specs.Lends.{Lists}
use Rattle.outcome.specs.declared.Ended.{Ended}
use Rattle.outcome.proofs.Statements.{fair, executes, obeyed, onto}
use Rattle.outcome.proofs.immediate.Goals.{After-session-next}
use Rattle.outcome.proofs.immediate.Goals as goal

-- after the statement: what it was lent, and what it did
module _ (r : After-session-next) where
  abbrev env : Env
  env = env_with (length r.args.reply.now) r.args.page.now r.args.input.now (sight_of r.args.call) (place mark)

  abbrev world : World
  world = world_at r.args.session r.args.memory.now r.args.output.now r.args.call.inpos r.args.call.outpos

  abbrev after : World
  after = world_with r.run_ops-d.new.vars r.run_ops-d.result.parts r.run_ops-d.new.memory r.run_ops-d.new.output

  abbrev left : Done
  left = did_in r.run_ops-d.result r.run_ops-d.new.vars r.run_ops-d.new.memory r.run_ops-d.new.output

  did : left ≡ exec env r.requires.0.2.tree world
  did =
      let a = r.args in
      executes r.requires.0.0 r.requires.0.1 r.requires.0.2 a.input.now (sight_of a.call) a.call.inpos a.call.outpos a.memory.now a.output.now r.parts-parts.ensures
      (r.run_ops-d.ensures
      ∙ ap (λ (x : Sight). run_ops (env_with (length a.reply.now) a.page.now a.input.now x r.mark.result) (take a.n a.ops.now) (world_with a.session.vars r.parts-parts.result a.memory.now a.output.now) []) r.sight-sight.ensures
      ∙ ap (λ (p : Place). run_ops (env_with (length a.reply.now) a.page.now a.input.now (sight_of a.call) p) (take a.n a.ops.now) (world_with a.session.vars r.parts-parts.result a.memory.now a.output.now) []) r.mark.ensures)

  -- the call's end, by the way that the statement went
  ends : {w : Way} {x : Outcome} → r.run_ops-d.result.way ≡ w → x ≡ after_immediate r.args.call.budget env (done (way_of w) after)
      → x ≡ obey_read r.args.call.budget env world (column_of r.args.typed.now) (typed r.args.typed.now)
  ends t h =
      let a = r.args in
      h ∙ ap (λ (w : Way). after_immediate a.call.budget env (done (way_of w) after)) (sym t)
      ∙ obeyed r.requires.0.0 r.requires.0.1 r.requires.0.2 a.input.now (sight_of a.call) a.call.inpos a.call.outpos a.memory.now a.output.now did

  -- where it goes on, a run may stand
  stands : {o : Onward} → r.run_ops-d.result.way ≡ way.Go o → Stands (places_of r.args.page.now) (position_of o) × Fit (places_of r.args.page.now) after.session
  stands t =
      let a = r.args in
      onto r.requires.0.0 r.requires.0.1 r.requires.0.2 a.input.now (sight_of a.call) a.call.inpos a.call.outpos a.memory.now a.output.now (ap (λ (w : Way). done (way_of w) after) (sym t) ∙ did)

  -- the lists are as long as they were
  lists : Lists r.run_ops-d.new.reply r.run_ops-d.new.replies r.run_ops-d.new.values r.args.ops.now
  lists =
      let l = r.requires.0.0 in
      let u = r.run_ops-d.auto.reply in
      let v = r.run_ops-d.auto.replies in
      let x = r.run_ops-d.auto.values in
      let p = l.short in
      let q = l.room in
      let y = l.stack in
      let m = l.reply_ops in
      let k = l.reply_values in
      record { short = omega arith; room = omega arith; stack = omega arith; reply_ops = omega arith; reply_values = omega arith }

pub slice_bounds-run_ops-end : goal.slice_bounds-run_ops-end
slice_bounds-run_ops-end c = c.requires.0.2.few

pub slice_bounds-run_ops-end-2 : goal.slice_bounds-run_ops-end-2
slice_bounds-run_ops-end-2 c = sym (length-take-le c.args.n c.args.ops.now c.requires.0.2.few)

pub slice_bounds-run_ops-end-3 : goal.slice_bounds-run_ops-end-3
slice_bounds-run_ops-end-3 c = sym c.requires.0.1.fits.vars

pub run_ops-d-requires : goal.run_ops-d-requires
run_ops-d-requires c =
    let a = c.args in
    (fair c.requires.0.0 c.requires.0.1 c.requires.0.2 a.input.now (sight_of a.call) a.call.inpos a.call.outpos a.memory.now a.output.now, c.requires.1)

pub run_from-requires : goal.run_from-requires
run_from-requires c =
    let r = (goal.at.run_from-requires c).After-session-next in
    let t = stands r c.in-Go.is in
    let e = c.session-next.ensures in
    let k = c.run_ops-d.auto.reply in (
      (
        lists r,
        record {
          short = c.requires.0.1.short;
          good = ap (λ (n : ℕ). is_good n c.args.page.now) k ∙ c.requires.0.1.good;
          fits = subst (Fit (places_of c.args.page.now)) (sym e) t.1;
          idle = ap (λ (x : Session). x.paused) e;
          steps = rw c.at.ensures c.requires.0.1.steps;
        },
        t.0,
      ),
      c.requires.1,
    )

pub returns-in-On : goal.returns-in-On
returns-in-On c =
    let r = (goal.at.returns-in-On c).After-session-next in
    let d = c.run_ops-d in
    let e = ap (λ (e : Ended). ended_in e c.args.page.now d.new.memory d.new.output) (c.stopped.ensures ∙ ap (λ (x : Session). stopped 0 x d.result.parts.inpos d.result.parts.outpos) c.session-next.ensures) in
    elim c.in-On.is [ inl h ↦ ends r h e | inr h ↦ ends r h e ]

pub returns-in-Stop : goal.returns-in-Stop
returns-in-Stop c =
    let r = (goal.at.returns-in-Stop c).After-session-next in
    let d = c.run_ops-d in
    ends r c.in-Stop.is
    (ap (λ (e : Ended). ended_in e c.args.page.now d.new.memory d.new.output) (c.stopped-in-Stop.ensures ∙ ap (λ (x : Session). stopped c.in-Stop.k.0 x d.result.parts.inpos d.result.parts.outpos) c.session-next.ensures))

pub returns-in-Go : goal.returns-in-Go
returns-in-Go c =
    let r = (goal.at.returns-in-Go c).After-session-next in
    let a = c.args in
    let d = c.run_ops-d in
    let s = c.session-next in
    let q = position_of c.in-Go.from in
    let p = d.result.parts in
    ends r c.in-Go.is
    (c.run_from.ensures
    ∙ ap (λ (k : Call). run_outcome (run_from k.budget (env_with (length d.new.reply) a.page.now a.input.now (sight_of k) (place mark)) q (world_at s.result d.new.memory d.new.output k.inpos k.outpos)) a.page.now) c.at.ensures
    ∙ ap (λ (n : ℕ). run_outcome (run_from a.call.budget (env_with n a.page.now a.input.now (sight_of a.call) (place mark)) q (world_at s.result d.new.memory d.new.output p.inpos p.outpos)) a.page.now) d.auto.reply
    ∙ ap (λ (x : Session). run_outcome (run_from a.call.budget (env r) q (world_at x d.new.memory d.new.output p.inpos p.outpos)) a.page.now) s.ensures)
