-- `typed_line` meets its contract: by what was gathered. Assumes nothing.
use Prim.Native.Nat.{ℕ}
use mathlib.Core.Bool.{Bool, true, false}
use mathlib.Core.List.{List}
use mathlib.Core.Option.{Option}
use mathlib.Core.Path.{◌≡◌, refl, sym, ap, subst, ◌∙◌}
use native.Mathlib.Omega.{arith}
use lib.ListN.{length, take, drop}
use lib.Seq.{length-take-le}
use Rattle.nibl.specs.Page.{places_of}
use Rattle.record.specs.Fit.{Fit}
use Rattle.nibl.specs.Typing.{Gathered, gather}
use Rattle.nibl.specs.found.Read.{typed}
use Rattle.nibl.specs.found.Column.{column_of}
use Rattle.nibl.specs.Record.{place, mark, unpaused}
use Rattle.nibl.specs.Lent.{Lent, lent_all, refused_line, begun, sight_of, lent_env}
use Rattle.nibl.specs.Calls.{obey_read, obey_line}
use Rattle.nibl.specs.declared.Session.{Session}
use Rattle.nibl.specs.declared.Call.{Call}
use Rattle.letter.specs.declared.Gathering.{Gathering}
use Rattle.letter.specs.declared.Gathering.TheVariants as gathering
use Rattle.letter.specs.Slots.{answer, held}
use Rattle.effect.specs.Worlds.{env_with}
use Rattle.outcome.specs.Ends.{ended_in, world_at, stopped, refused}
use Rattle.outcome.specs.declared.Ended.{Ended}
use Rattle.table.specs.Index.{kept_true}
use Rattle.table.proofs.Index.{kept_same}
use Rattle.obey.proofs.Typed.{Hears, no_cr, too_long, heard, Holds, holds, read_as}
use Rattle.obey.proofs.typed_line.Goals.{After-gather}
use Rattle.obey.proofs.typed_line.Goals as goal

-- 7, and 5 for an over-long line
ends-none : (x : Lent) (lim : ℕ) {at : ℕ} {o : Option Gathered} → Hears at gathering.NoCr o → ended_in (stopped 7 x.session x.call.inpos x.call.outpos) x.page x.memory x.output ≡ obey_line lim x o
ends-none x lim no_cr = refl

ends-long : (x : Lent) (lim : ℕ) {next : ℕ} {o : Option Gathered} → Hears x.call.inpos (gathering.TooLong next) o
    → ended_in (refused lim (unpaused x.session) next x.call.outpos) x.page x.memory x.output ≡ obey_line lim x o
ends-long x lim (too_long {g} e) =
    sym (ap (λ (b : Bool). elim b [ true ↦ refused_line lim (begun x g.taken) x.page | false ↦ obey_read x.call.budget (lent_env lim x) (begun x g.taken) (column_of g.line.bytes) (typed g.line.bytes) ]) e)

-- and the line in its slots
ends-line : (x : Lent) (lim : ℕ) {next n : ℕ} {slots : List ℕ} {o : Option Gathered} → Holds x.call.inpos next n slots o
    → obey_read x.call.budget (lent_env lim x) (world_at (unpaused x.session) x.memory x.output next x.call.outpos) (column_of (take n slots)) (typed (take n slots)) ≡ obey_line lim x o
ends-line x lim {n = n} {slots = slots} h =
    let g = h.got in
    ap (λ (k : ℕ). obey_read x.call.budget (lent_env lim x) (world_at (unpaused x.session) x.memory x.output k x.call.outpos) (column_of (take n slots)) (typed (take n slots))) h.past
    ∙ ap (λ (bs : List ℕ). obey_read x.call.budget (lent_env lim x) (begun x g.taken) (column_of bs) (typed bs)) h.bytes
    ∙ sym (ap (obey_line lim x) h.there
    ∙ ap (λ (b : Bool). elim b [ true ↦ refused_line lim (begun x g.taken) x.page | false ↦ obey_read x.call.budget (lent_env lim x) (begun x g.taken) (column_of g.line.bytes) (typed g.line.bytes) ]) h.whole)

-- past gathering: what was lent, and the line in its slots
module _ (r : After-gather) where
  abbrev all : Lent
  all = lent_all r.args.rec r.args.page.now r.args.memory.now r.args.input.now r.args.output.now r.args.call r.args.table.now

  abbrev line_of : Option Gathered
  line_of = gather (length r.args.reply.now) (drop r.args.call.inpos r.args.input.now)

  by-limit : (n : ℕ) → n ≡ length r.args.reply.now → gather n (drop r.args.call.inpos r.args.input.now) ≡ line_of
  by-limit n e = ap (λ (k : ℕ). gather k (drop r.args.call.inpos r.args.input.now)) e

  -- by the answer that is known
  hears : {k : Gathering} → r.gather.result ≡ k → Hears r.args.call.inpos k line_of
  hears e = heard (r.gather.ensures.answer ∙ ap (answer r.args.call.inpos) (by-limit (length r.args.line.now) r.requires.0.1)) e

  kept : {next n : ℕ} → r.gather.result ≡ gathering.Line next n → Holds r.args.call.inpos next n r.gather.new.line line_of
  kept e =
      holds (length r.args.line.now) r.gather.new.line (hears e)
      (r.gather.ensures.slots ∙ ap (held (length r.args.line.now)) (by-limit (length r.args.line.now) r.requires.0.1))

  -- where nothing was obeyed the table is as it was
  still : r.args.table.now ≡ kept_true r.args.page.now r.args.table.now
  still = sym (kept_same r.requires.1)

  as_long : length r.gather.new.line ≡ length r.args.reply.now
  as_long = r.gather.auto.line ∙ r.requires.0.1

pub slice_bounds-read_typed-end : goal.slice_bounds-read_typed-end
slice_bounds-read_typed-end c = (kept (goal.at.slice_bounds-read_typed-end c).After-gather c.in-Line.is).few

pub slice_bounds-read_typed-end-in-Line : goal.slice_bounds-read_typed-end-in-Line
slice_bounds-read_typed-end-in-Line c = sym (length-take-le _ c.gather.new.line (kept (goal.at.slice_bounds-read_typed-end-in-Line c).After-gather c.in-Line.is).few)

pub read_typed-kind-requires : goal.read_typed-kind-requires
read_typed-kind-requires c =
    let r = (goal.at.read_typed-kind-requires c).After-gather in
    let h = (kept r c.in-Line.is).few in
    let e = length-take-le _ c.gather.new.line h in
    let l = as_long r in
    let p = c.requires.0.0.room in
    let q = c.requires.0.0.short in
    (omega arith, omega arith)

pub slice_bounds-obey-end : goal.slice_bounds-obey-end
slice_bounds-obey-end c = (kept (goal.at.slice_bounds-obey-end c).After-gather c.in-Line.is).few

pub slice_bounds-obey-end-in-Line : goal.slice_bounds-obey-end-in-Line
slice_bounds-obey-end-in-Line c = sym (length-take-le _ c.gather.new.line (kept (goal.at.slice_bounds-obey-end-in-Line c).After-gather c.in-Line.is).few)

pub obey-requires : goal.obey-requires
obey-requires c =
    let r = (goal.at.obey-requires c).After-gather in
    let l = c.requires.0.0 in
    let a = c.requires.0.2 in
    let k = c.requires.0.3 in
    let t = c.read_typed-kind in
    let m = t.auto.ops in
    let u = c.unpaused-in-Line.ensures in
    let d = ap (λ (k : Call). k.budget) c.at.ensures in
    let h = (kept r c.in-Line.is).few in
    let e = length-take-le _ c.gather.new.line h in
    let n = as_long r in
    let p = l.room in
    let q = l.short in
    let v = l.stack in
    let w = a.steps in (
      (
        record { short = q; room = omega arith; stack = omega arith; reply_ops = l.reply_ops; reply_values = l.reply_values },
        record { short = a.short; good = a.good; fits = subst (Fit (places_of c.args.page.now)) (sym u) a.fits; idle = ap (λ (x : Session). x.paused) u; steps = omega arith },
        read_as c.args.ops.now (omega arith) (omega arith) t.ensures.value t.ensures.ops_after m,
      ),
      c.requires.1,
    )

pub overflow_cast-line : goal.overflow_cast-line
overflow_cast-line c =
    let l = as_long (goal.at.overflow_cast-line c).After-gather in
    let q = c.requires.0.0.short in
    omega arith

pub returns-in-NoCr : goal.returns-in-NoCr
returns-in-NoCr c =
    let r = (goal.at.returns-in-NoCr c).After-gather in
    let a = c.args in
    record {
      output_after = ap (λ (e : Ended). ended_in e a.page.now a.memory.now a.output.now) c.stopped.ensures ∙ ends-none (all r) (length a.reply.now) (hears r c.in-NoCr.is);
      table_after = still r;
    }

pub returns-in-TooLong : goal.returns-in-TooLong
returns-in-TooLong c =
    let r = (goal.at.returns-in-TooLong c).After-gather in
    let a = c.args in
    let at = c.in-TooLong.at in
    record {
      output_after = ap (λ (e : Ended). ended_in e a.page.now a.memory.now a.output.now)
          (c.refused.ensures
          ∙ ap (λ (x : Session). refused (length c.gather.new.line) x at a.call.outpos) c.unpaused.ensures
          ∙ ap (λ (n : ℕ). refused n (unpaused a.rec) at a.call.outpos) (as_long r))
          ∙ ends-long (all r) (length a.reply.now) (hears r c.in-TooLong.is);
      table_after = still r;
    }

pub returns-in-Line : goal.returns-in-Line
returns-in-Line c =
    let r = (goal.at.returns-in-Line c).After-gather in
    let a = c.args in
    let x = c.unpaused-in-Line in
    let lim = length a.reply.now in
    let t : List ℕ = take c.in-Line.n c.gather.new.line in
    record {
      output_after = c.obey.ensures.output_after
          ∙ ap (λ (k : Call). obey_read k.budget (env_with lim a.page.now a.input.now (sight_of k) (place mark)) (world_at x.result a.memory.now a.output.now k.inpos k.outpos) (column_of t) (typed t)) c.at.ensures
          ∙ ap (λ (s : Session). obey_read a.call.budget (lent_env lim (all r)) (world_at s a.memory.now a.output.now c.in-Line.at a.call.outpos) (column_of t) (typed t)) x.ensures
          ∙ ends-line (all r) lim (kept r c.in-Line.is);
      table_after = c.obey.ensures.table_after;
    }
