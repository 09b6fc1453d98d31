-- "Output only grows by whole items, input only by whole lines", of the calls, every stop: each item is one of the member that is next, in the world in which
-- its step stands. Assumes nothing.
use Prim.Native.Nat.{ℕ, zero, suc, ◌+◌}
use mathlib.Core.Path.{◌≡◌, refl, ap, ◌∙◌}
use mathlib.Core.Bool.{false, true≢false}
use mathlib.Core.List.{List, []}
use mathlib.Core.Option.{some}
use native.Mathlib.Nat.{add-zero}
use native.Mathlib.Omega.{arith}
use Rattle.nibl.specs.Tree.{Typed, run, list, immediate}
use Rattle.nibl.specs.found.Read.{typed}
use Rattle.nibl.specs.Readings.{LineReading}
use Rattle.nibl.specs.Typing.{Gathered}
use Rattle.nibl.specs.Page.{records_of}
use Rattle.nibl.specs.Meaning.{World, Env}
use Rattle.nibl.specs.Lent.{Lent, Outcome}
use Rattle.nibl.specs.Runs.{Ran, run_from}
use Rattle.nibl.specs.Typing.{limit}
use Rattle.nibl.specs.Lent.{lent_world, begun, lent_env}
use Rattle.nibl.specs.Calls.{take_line, continue_from, continue_run}
use Rattle.nibl.proofs.Lines.{typed-sound}
use Rattle.record.specs.Sound.{Sized}
use Rattle.demands.specs.Lent.{Typing}
use Rattle.demands.specs.Leaves.{no_item, none_taken, WroteItems, WroteFrom}
use Rattle.demands.specs.Starts.{Starts, by_run_command, by_statement, paused}
use Rattle.demands.specs.ItemsIn.{of_list, of_statement}
use Rattle.demands.specs.Stepping.{Runs, over, pauses, halts, goes_on, Comes, begins, steps, ProgramItem, of_step, LineItem, of_typed, of_program, PausedItem, of_paused}
use Rattle.demands.proofs.Effects.{list-does}
use Rattle.demands.proofs.Held.{items_as}
use Rattle.demands.proofs.Written.{Grew, nothing-new, grew_then, does-grew, ended-came, Parts, obey-came}
use Rattle.demands.proofs.ItemsIn.{a-statement-writes}
use Rattle.demands.proofs.Ways.{Takes, no_cr, overlong, unread, reads, every-line, Continues, refused', continues, every-continue}
use Rattle.demands.proofs.Ways as ways
use Rattle.demands.proofs.Stepping.{Begun, line-begun, paused-begun, runs_so}

-- items of one kind are items of another
wrote_as : {Y W : List ℕ → Type 0} {lim : ℕ} {input out out' : List ℕ} {at at' from from' : ℕ} → ((bs : List ℕ) → Y bs → W bs) → WroteItems Y lim input out at from out' at' from'
    → WroteItems W lim input out at from out' at' from'
wrote_as f r = record { items = items_as f r.items; lines = r.lines }

-- what a run writes that began at q₀ in the world w₀
module _ (e : Env) (q₀ : ℕ) (w₀ : World) where
  runs-grew : {k q : ℕ} {w : World} {r : Ran} → Comes e q₀ w₀ q w → Runs e k q w r → Grew (ProgramItem e q₀ w₀) e.lim e.input w r.world
  runs-grew c (over p) = nothing-new (ProgramItem e q₀ w₀) e.lim e.input
  runs-grew c (pauses i) = nothing-new (ProgramItem e q₀ w₀) e.lim e.input
  runs-grew c (halts s) = wrote_as (λ bs i. of_step c s.next i) s.writes
  runs-grew c (goes_on s t more) =
      grew_then (ProgramItem e q₀ w₀) e.lim e.input (wrote_as (λ bs i. of_step c s.next i) s.writes) (runs-grew (steps c s t) more)

module _ (x : Lent) (sized : Sized x.session) where
  abbrev env : Env
  env = lent_env limit x

  begun-grew : {q : ℕ} {w : World} → Begun x q w → Grew (ProgramItem env q w) limit x.input w (run_from x.call.budget env q w).world
  begun-grew {q = q} {w = w} b = runs-grew env q w begins (runs_so limit env (omega arith) b.good x.call.budget q w b.stands b.fit)

  module _ (g : Gathered) (h : Typing limit x g) where
    line-parts : (t : Typed) → typed g.line.bytes ≡ some t → Parts (LineItem x g) limit x.input env x.call.budget (begun x g.taken) t
    line-parts t r =
        record {
          lists = λ n z. does-grew (LineItem x g) limit x.input (λ bs i. of_typed (list n) (is (list n) z) (of_list i)) refl refl (list-does env [] n (records_of x.page) (begun x g.taken));
          states = λ s z. wrote_as (λ bs i. of_typed (immediate s) (is (immediate s) z) (of_statement i)) (a-statement-writes env s (begun x g.taken));
          runs = λ z. starts (by_run_command (is run z));
          goes = λ s q u z n d. starts (by_statement s (is (immediate s) z) n d);
        }
      where
        is : (y : Typed) → t ≡ y → LineReading g.line.bytes y
        is y z = typed-sound g.line.bytes y (r ∙ ap some z)

        starts : {q : ℕ} {w : World} → Starts limit x g q w → Grew (LineItem x g) limit x.input w (run_from x.call.budget env q w).world
        starts b = wrote_as (λ bs i. of_program b i) (begun-grew (line-begun x sized g h b))

    line-came : {o : Outcome} → Takes limit x o → WroteFrom x (LineItem x g) (x.call.inpos + g.taken) o
    line-came (ways.refused e) = let z = h.sound in absurd (omega arith)
    line-came (no_cr z e) = let l = h.line in let c : ◌≡◌ {A = ℕ} 0 1 = cc in absurd (omega arith)
    line-came (overlong f z e l) = let i = h.line in let c : f ≡ g = cc in let s : f.line.long ≡ false = rw c h.short in absurd (true≢false (rw l at s))
    line-came (unread f y e) = let i = h.line in let j = y.line in let c : f ≡ g = cc in rw c (record { items = no_item; lines = none_taken })
    line-came (reads f t y e) =
        let i = h.line in
        let j = y.line in
        let c : f ≡ g = cc in
        rw c (obey-came (LineItem x g) limit x.input env x.call.budget (begun x g.taken) t (line-parts t (rw c at e)))

  continue-came : {o : Outcome} → Continues limit x o → WroteFrom x (PausedItem x) x.call.inpos o
  continue-came (refused' e) = record { items = no_item; lines = none_taken }
  continue-came (continues e) = by x.session.paused refl where
    here : Grew (PausedItem x) limit x.input (lent_world x) (begun x 0)
    here = rw (add-zero x.call.inpos) (record { items = no_item; lines = none_taken })

    by : (p : ℕ) → x.session.paused ≡ p → WroteFrom x (PausedItem x) x.call.inpos (continue_from limit x p)
    by zero z = here
    by (suc q) z =
        let b = paused e z in
        ended-came (PausedItem x) limit x.input env x.call.budget q (begun x 0) (lent_world x) here (wrote_as (λ bs i. of_paused b i) (begun-grew (paused-begun x sized b)))

  -- after the typed line, which is taken whole: the line's own items, and those of the run that it begins
  pub a-line-writes-whole-items : (g : Gathered) → Typing limit x g → WroteFrom x (LineItem x g) (x.call.inpos + g.taken) (take_line x)
  unfolding take_line
  a-line-writes-whole-items g h = line-came g h (every-line limit x)

  -- whatever else is lent
  pub continue-writes-whole-items : WroteFrom x (PausedItem x) x.call.inpos (continue_run x)
  unfolding continue_run
  continue-writes-whole-items = continue-came (every-continue limit x)
