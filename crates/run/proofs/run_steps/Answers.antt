-- `run_steps` meets its contract: what is left of the run, after the steps so far, leaves what the whole run does. Assumes nothing.
use Rattle.std.specs.Prelude.{Result, Ok, Err}
use Prim.Native.Nat.{ℕ, ◌+◌, ◌-◌, ◌<◌}
use mathlib.Core.List.{List, [], ◌∷◌}
use mathlib.Core.Path.{◌≡◌, refl, sym, ap, ◌∙◌}
use native.Mathlib.Omega.{arith}
use lib.ListN.{length, take}
use lib.Seq.{length-take-le}
use Rattle.nibl.specs.Page.{line_of, places_of}
use Rattle.nibl.specs.Record.{mark, place, position, position_of}
use Rattle.nibl.specs.Meaning.{World, Env, Done, go}
use Rattle.nibl.specs.Runs.{stop_at, run_from, run_outcome}
use Rattle.nibl.specs.declared.Place.{Place}
use Rattle.nibl.specs.declared.Parts.{Parts}
use Rattle.nibl.specs.declared.Onward.{Onward}
use Rattle.nibl.specs.declared.stop.Stop.{Stop}
use Rattle.page.specs.Standing.{Stands}
use Rattle.page.proofs.Standing.{stands-inside, fetches-read}
use Rattle.record.specs.Fit.{Fit}
use Rattle.world.specs.declared.jump.Way.{Way}
use Rattle.world.specs.Turns.{gosubs_in, dos_in, fors_in}
use Rattle.operation.specs.Operations.{run_ops}
use Rattle.effect.specs.Worlds.{world_with, env_with, did, did_in}
use Rattle.statement.specs.Plain.{Around}
use Rattle.statement.proofs.Plainly.{plain-ends, plain-calls, plain-loops, plain-counts, plain-needs, plain-within}
use Rattle.run.specs.StepEnds.{StepEnd, led_to, done_end, step_of, tally}
use Rattle.run.specs.Running.{ran_to, ran_in, pause_of}
use Rattle.run.proofs.Starts.{ready-fair}
use Rattle.run.proofs.Members.{NextMember, fetch-found, fetch-past, member-steps}
use Rattle.run.proofs.Tallies.{tally-none}
use Rattle.run.proofs.Turns.{ends-out, ends-dry, stop-told, text-within, readable, step_fits, step-stands, step-inside, step-goes, step-stops}
use Rattle.run.proofs.run_steps.Goals.{Joined-r, in-Ends, in-Calls, in-Loops, in-Counts, in-Needs}
use Rattle.run.proofs.run_steps.Goals as goal

-- What a step came to, by any of its ways: its operations ended that way and left that, and what is lent is as long as before
record CameTo (runs : Done) (vars₀ memory₀ output₀ reply₀ replies₀ values₀ vars memory output reply replies values : List ℕ) (p : Parts) (way : Way) : Type 0 where
  comes : did_in (did way p) vars memory output ≡ runs
  vars-kept : length vars ≡ length vars₀
  memory_kept : length memory ≡ length memory₀
  output-kept : length output ≡ length output₀
  reply-kept : length reply ≡ length reply₀
  replies-kept : length replies ≡ length replies₀
  values-kept : length values ≡ length values₀

at-meeting : {runs : Done} {vars₀ memory₀ output₀ reply₀ replies₀ values₀ vars vars' memory memory' output output' reply reply' replies replies' values values' : List ℕ} {p p' : Parts} {way way' : Way}
    → CameTo runs vars₀ memory₀ output₀ reply₀ replies₀ values₀ vars' memory' output' reply' replies' values' p' way'
    → vars ≡ vars' → memory ≡ memory' → output ≡ output' → reply ≡ reply' → replies ≡ replies' → values ≡ values' → p ≡ p' → way ≡ way'
    → CameTo runs vars₀ memory₀ output₀ reply₀ replies₀ values₀ vars memory output reply replies values p way
at-meeting k a b c d e f g h = rw (a, b, c, d, e, f, g, h) k

-- where the ways meet: the member that was fetched, its step, and where the run is then
module _ (j : Joined-r) where
  abbrev page : List ℕ
  page = j.args.page.now

  abbrev lim : ℕ
  lim = length j.args.reply.now

  abbrev env : Env
  env = env_with (length j.args.reply.now) j.args.page.now j.args.input.now j.args.sight (place mark)

  abbrev world : World
  world = world_with j.loop-count.vars j.loop-count.p j.loop-count.memory j.loop-count.output

  abbrev from : ℕ
  from = position_of j.loop-count.q

  abbrev at : Place
  at = j.in-Some.at

  abbrev cr : Place
  cr = j.in-Some.cr

  abbrev ops : List ℕ
  ops = take j.in-Some.count j.fetch.new.ops

  abbrev vars-plain : List ℕ
  vars-plain = j.run_plain-r.new.vars

  abbrev values-plain : List ℕ
  values-plain = j.run_plain-r.new.values

  -- the world around
  abbrev around : Around
  around = record {
    lim = length j.loop-count.reply;
    input = j.args.input.now;
    here = j.in-Some.at;
    gosubs = j.loop-count.p.gosubs;
    inpos = j.loop-count.p.inpos;
    outpos = j.loop-count.p.outpos;
    output = j.loop-count.output;
  }

  abbrev runs : Done
  runs = run_ops (env_with (length j.loop-count.reply) j.args.page.now j.args.input.now j.args.sight j.in-Some.at) (take j.in-Some.count j.fetch.new.ops) (world_with j.loop-count.vars j.loop-count.p j.loop-count.memory j.loop-count.output) []

  abbrev Came : (vars memory output reply replies values : List ℕ) → Parts → Way → Type 0
  Came vars memory output reply replies values p way =
      CameTo runs j.args.vars.now j.args.memory.now j.args.output.now j.args.reply.now j.args.replies.now j.args.values.now vars memory output reply replies values p way

  -- without more than the variables
  plainly : {vars : List ℕ} {p : Parts} {way : Way} → did_in (did way p) vars j.loop-count.memory j.loop-count.output ≡ runs
      → length vars ≡ length j.run_plain-r.new.vars → Came vars j.loop-count.memory j.loop-count.output j.loop-count.reply j.loop-count.replies j.run_plain-r.new.values p way
  plainly e v =
      let i = j.loop-count.invariant in
      record {
        comes = e;
        vars-kept = v ∙ j.run_plain-r.auto.vars ∙ i.3;
        memory_kept = i.4;
        output-kept = i.5;
        reply-kept = i.6;
        replies-kept = i.7;
        values-kept = j.run_plain-r.auto.values ∙ i.8;
      }

  came : (let m = j.match-r in Came m.vars m.memory m.output m.reply m.replies m.values m.p m.way')
  came =
      elim j.match-r.branch [
        | in-Ends w ↦
            at-meeting (plainly (plain-ends j.run_plain-r.ensures w.in-Ends.is around) refl) w.vars-is w.memory-is w.output-is w.reply-is w.replies-is w.values-is w.p-is w.way'-is
        | in-Calls w ↦
            at-meeting
            (plainly (ap (gosubs_in (world_with j.run_plain-r.new.vars j.loop-count.p j.loop-count.memory j.loop-count.output)) w.call_turn-t.ensures ∙ plain-calls j.run_plain-r.ensures w.in-Calls.is around) refl)
            w.vars-is w.memory-is w.output-is w.reply-is w.replies-is w.values-is w.p-is w.way'-is
        | in-Loops w ↦
            at-meeting
            (plainly (ap (dos_in (world_with j.run_plain-r.new.vars j.loop-count.p j.loop-count.memory j.loop-count.output)) w.loop_turn-t.ensures ∙ plain-loops j.run_plain-r.ensures w.in-Loops.is around) refl)
            w.vars-is w.memory-is w.output-is w.reply-is w.replies-is w.values-is w.p-is w.way'-is
        | in-Counts w ↦
            at-meeting
            (plainly (ap (fors_in (world_with j.run_plain-r.new.vars j.loop-count.p j.loop-count.memory j.loop-count.output)) w.count_turn-t.ensures ∙ plain-counts j.run_plain-r.ensures w.in-Counts.is around) w.count_turn-t.auto.vars)
            w.vars-is w.memory-is w.output-is w.reply-is w.replies-is w.values-is w.p-is w.way'-is
        | in-Needs w ↦
            let i = j.loop-count.invariant in
            let f = w.run_ops_from-d.auto in
            at-meeting
            (record {
              comes = w.run_ops_from-d.ensures ∙ plain-needs j.run_plain-r.ensures w.in-Needs.is around;
              vars-kept = f.vars ∙ j.run_plain-r.auto.vars ∙ i.3;
              memory_kept = f.memory ∙ i.4;
              output-kept = f.output ∙ i.5;
              reply-kept = f.reply ∙ i.6;
              replies-kept = f.replies ∙ i.7;
              values-kept = f.values ∙ j.run_plain-r.auto.values ∙ i.8;
            })
            w.vars-is w.memory-is w.output-is w.reply-is w.replies-is w.values-is w.p-is w.way'-is
      ]

  fetches : NextMember j.args.page.now (position_of j.loop-count.q) (take j.in-Some.count j.fetch.new.ops) (position j.in-Some.at) (position j.in-Some.cr)
  fetches = fetch-found j.args.page.now (position_of j.loop-count.q) (rw j.in-Some.is at j.fetch.ensures.0)

  abbrev t : StepEnd
  t = done_end (did_in (did j.match-r.way' j.match-r.p) j.match-r.vars j.match-r.memory j.match-r.output) (position j.in-Some.at) (position j.in-Some.cr)

  -- the step, by what its operations did; the slots of the line are as many as before
  is-step : t ≡ step_of env fetches.it world
  is-step =
      let b = j.requires.0 in
      member-steps (env_with (length j.loop-count.reply) j.args.page.now j.args.input.now j.args.sight (place mark)) world (did_in (did j.match-r.way' j.match-r.p) j.match-r.vars j.match-r.memory j.match-r.output) fetches (readable lim env b.short b.good from fetches.it j.loop-count.invariant.1 fetches.fetches) came.comes
      ∙ ap (λ (n : ℕ). step_of (env_with n j.args.page.now j.args.input.now j.args.sight (place mark)) fetches.it world) j.loop-count.invariant.6

  some_left : j.loop-count.left ≡ 0 → ⊥
  some_left = j.if-left-eq0.false

  place-small : position j.in-Some.at < 65535
  place-small =
      let b = j.requires.0 in
      let i = step-inside lim env b.short b.good from fetches.it j.loop-count.invariant.1 fetches.fetches world j.loop-count.invariant.2 t is-step in
      let p = b.places in
      omega arith

  still-fits : Fit (places_of j.args.page.now) t.world.session
  still-fits = let b = j.requires.0 in step_fits lim env b.short b.good from fetches.it j.loop-count.invariant.1 fetches.fetches world j.loop-count.invariant.2 t is-step

  -- where its way leads: on
  module _ {led : Result Onward Stop} (leads : led_to led ≡ t.next) {o : Onward} (e : led ≡ Ok o) where
    g : t.next ≡ go (position_of o)
    g = sym leads ∙ ap led_to e

    stands : Stands (places_of j.args.page.now) (position_of o)
    stands = let b = j.requires.0 in step-stands lim env b.short b.good from fetches.it j.loop-count.invariant.1 fetches.fetches world j.loop-count.invariant.2 t is-step (position_of o) g

    goes_on : tally j.loop-count.steps (run_from j.loop-count.left env from world) page ≡ tally (j.loop-count.steps + 1) (run_from (j.loop-count.left - 1) env (position_of o) t.world) page
    goes_on = let b = j.requires.0 in step-goes lim env b.short b.good from fetches.it j.loop-count.invariant.1 fetches.fetches world j.loop-count.invariant.2 t is-step j.loop-count.left j.loop-count.steps some_left (position_of o) g

  -- or to a stop, of which the answer says what the whole run comes to
  stops_so : {led : Result Onward Stop} → led_to led ≡ t.next → {i : Stop} → led ≡ Err i
      → (let b = j.args in
      let m = j.match-r in
      ran_in (ran_to i.0 (stop_at i.0 (line_of page (position j.in-Some.at) ∷ [])) (j.loop-count.steps + 1) (pause_of i.0 (position j.in-Some.at)) m.p) m.vars page m.memory m.output
      ≡ run_outcome (run_from b.budget env (position_of b.from) (world_with b.vars.now b.parts b.memory.now b.output.now)) page)
  stops_so leads {i} e =
      let b = j.requires.0 in
      let m = j.match-r in
      stop-told i.0 (stop_at i.0 (line_of page (position j.in-Some.at) ∷ [])) (j.loop-count.steps + 1) (position j.in-Some.at) m.p m.vars page m.memory m.output
      ∙ sym
      (j.loop-count.invariant.10
      ∙ step-stops lim env b.short b.good from fetches.it j.loop-count.invariant.1 fetches.fetches world j.loop-count.invariant.2 t is-step j.loop-count.left j.loop-count.steps some_left i.0 (sym leads ∙ ap led_to e))

pub loop-count-init : goal.loop-count-init
loop-count-init c =
    let a = c.args in
    let b = c.requires.0 in
    let e = env_with (length a.reply.now) a.page.now a.input.now a.sight (place mark) in (
      omega arith,
      b.stands,
      b.fits,
      refl,
      refl,
      refl,
      refl,
      refl,
      refl,
      refl,
      tally-none (run_from a.budget e (position_of a.from) (world_with a.vars.now a.parts a.memory.now a.output.now)) a.page.now,
    )

pub fetch-requires : goal.fetch-requires
fetch-requires c =
    let b = c.requires.0 in
    let r = b.room in
    let i = c.loop-count.invariant.9 in
    record {
      places = b.places;
      texts = λ a t. text-within (length c.args.reply.now) c.args.page.now b.short b.good (position_of c.loop-count.q) a c.loop-count.invariant.1 t c.loop-count.ops (omega arith);
    }

pub returns-in_default : goal.returns-in_default
returns-in_default c =
    let a = c.args in
    let b = c.requires.0 in
    let l = c.loop-count in
    let q = position_of l.q in
    let t = fetch-past a.page.now q (rw c.in_default.is at c.fetch.ensures.0) (λ x h. fetches-read (length a.reply.now) a.page.now b.short b.good q x l.invariant.1 h) in
    rw c.run_ends.ensures (sym (l.invariant.10 ∙ ends-out (env_with (length a.reply.now) a.page.now a.input.now a.sight (place mark)) q (world_with l.vars l.p l.memory l.output) l.steps l.left t))

pub pause-requires : goal.pause-requires
pause-requires c =
    let b = c.requires.0 in
    let p = b.places in
    let h = stands-inside (length c.args.reply.now) c.args.page.now b.short b.good (position_of c.loop-count.q) c.loop-count.invariant.1 in
    omega arith

pub returns-then-left-eq0 : goal.returns-then-left-eq0
returns-then-left-eq0 c =
    let a = c.args in
    let l = c.loop-count in
    let q = position_of l.q in
    let f = fetch-found a.page.now q (rw c.in-Some.is at c.fetch.ensures.0) in
    rw (c.run_ends-then-left-eq0.ensures, c.pause.ensures)
    (sym (l.invariant.10 ∙ ends-dry (env_with (length a.reply.now) a.page.now a.input.now a.sight (place mark)) q (world_with l.vars l.p l.memory l.output) l.steps l.left f.it c.if-left-eq0.true f.fetches))

pub run_plain-r-requires : goal.run_plain-r-requires
run_plain-r-requires c =
    let f = ready-fair c.requires.0 in
    let t = f.top in
    let s = f.stack in
    let n = rw c.in-Some.is at c.fetch.ensures.1 in
    let k = c.fetch.auto.ops in
    let few = length-take-le c.in-Some.count c.fetch.new.ops (omega arith) in
    let i = c.loop-count.invariant.8 in
    let o = c.loop-count.invariant.9 in
    (omega arith, f.places, omega arith)

pub run_ops_from-d-requires : goal.run_ops_from-d-requires
run_ops_from-d-requires c =
    let f = ready-fair c.requires.0 in
    let n = rw c.in-Some.is at c.fetch.ensures.1 in
    let k = c.fetch.auto.ops in
    let few = length-take-le c.in-Some.count c.fetch.new.ops (omega arith) in
    let i = c.loop-count.invariant in
    let a = i.6 in
    let b = i.7 in
    let d = i.8 in
    let o = i.9 in
    let v = c.run_plain-r.auto.values in
    let s = f.stack in
    let r = f.reply_ops in
    let u = f.reply_values in
    let w = f.short in (
      record { places = f.places; top = f.top; stack = omega arith; reply_ops = omega arith; reply_values = omega arith; short = omega arith },
      plain-within c.run_plain-r.ensures c.in-Needs.is,
    )

pub loop-count-preserved : goal.loop-count-preserved
loop-count-preserved c =
    let j = (goal.at.loop-count-preserved c).Joined-r in
    let k = came j in
    let i = c.loop-count.invariant in
    let g = c.led_by.ensures in
    let e = c.in-Ok.is in
    let h = c.if-left-eq0.false in (
      omega arith,
      stands j g e,
      still-fits j,
      k.vars-kept,
      k.memory_kept,
      k.output-kept,
      k.reply-kept,
      k.replies-kept,
      k.values-kept,
      c.fetch.auto.ops ∙ i.9,
      i.10 ∙ goes_on j g e,
    )

pub stops-requires : goal.stops-requires
stops-requires c = let h = place-small (goal.at.stops-requires c).Joined-r in omega arith

pub returns-in-Err : goal.returns-in-Err
returns-in-Err c = rw c.stops.ensures (stops_so (goal.at.returns-in-Err c).Joined-r c.led_by.ensures c.in-Err.is)
