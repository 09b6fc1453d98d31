-- A turn of the run, as its function tells it: from a position where a run may stand, by what the step left. Assumes nothing.
use Rattle.std.specs.Prelude.{if◌then◌else◌}
use Prim.Native.Nat.{ℕ, zero, suc, ◌+◌, ◌-◌, ◌≤◌, ◌<◌}
use mathlib.Core.Bool.{Bool, true, false}
use mathlib.Core.List.{List, [], ◌∷◌}
use mathlib.Core.Option.{some}
use mathlib.Core.Path.{◌≡◌, refl, sym, ap, subst, ◌∙◌}
use native.Mathlib.Omega.{arith}
use native.Mathlib.Numerals.{add-one}
use lib.Dec.{eqb}
use lib.ListN.{length}
use Rattle.nibl.specs.Page.{is_good, places_of, line_of}
use Rattle.nibl.specs.Meaning.{World, Env, go, stop, with_session, exec}
use Rattle.nibl.specs.Lent.{outcome, no_line}
use Rattle.nibl.specs.Runs.{stop_at, pausing, Standing, past, here, text_from, fetch, env_at, run_from}
use Rattle.nibl.specs.Record.{with_paused, paused_at, nowhere}
use Rattle.page.specs.Standing.{Stands, Readable}
use Rattle.page.proofs.Standing.{stands-ready, fetches-here, fetches-read, place_inside}
use Rattle.record.specs.Fit.{Fit}
use Rattle.effect.specs.Worlds.{world_with}
use Rattle.nibl.specs.declared.Parts.{Parts}
use Rattle.run.specs.StepEnds.{StepEnd, step_of, tally}
use Rattle.run.specs.Fetching.{TextRoom}
use Rattle.run.specs.Running.{ran_to, ran_in, pause_of}
use Rattle.run.proofs.Tallies.{Quiet, runs-out, runs-dry, after-at, quiet-run, tally-goes, tally-stops}
use Rattle.run.proofs.Onwards.{StaysFit, goes_after}

-- The ends without a step
module _ (e : Env) (q : ℕ) (w : World) (n : ℕ) where
  pub ends-out : (k : ℕ) → fetch e.page q ≡ past → tally n (run_from k e q w) e.page ≡ outcome 0 no_line n w e.page
  ends-out k h = rw (runs-out k e q w h) (ap (λ (x : ℕ). outcome 0 no_line x w e.page) (omega arith))

  pub ends-dry : (k : ℕ) (x : Standing) → k ≡ 0 → fetch e.page q ≡ here x
      → tally n (run_from k e q w) e.page ≡ outcome 14 no_line n (with_session w (with_paused w.session (paused_at q))) e.page
  ends-dry k x z h =
      rw (z, runs-dry e q w x h) (ap (λ (x : ℕ). outcome 14 no_line x (with_session w (with_paused w.session (paused_at q))) e.page) (omega arith))

-- what the answer says of a stop is what the definition says
pub stop-told : (i : ℕ) (l : ℕ) (n at : ℕ) (p : Parts) (vars page memory output : List ℕ)
    → ran_in (ran_to i l n (pause_of i at) p) vars page memory output ≡ outcome i l n (pausing i at (world_with vars p memory output)) page
stop-told i l n at p vars page memory output = by (eqb i 14) where
  by : (b : Bool) → ran_in (ran_to i l n (if b then paused_at at else nowhere) p) vars page memory output
      ≡ outcome i l n (if b then with_session (world_with vars p memory output) (with_paused (world_with vars p memory output).session (paused_at at)) else world_with vars p memory output) page
  by true = refl
  by false = refl

-- the text that is next where a run stands
pub text-within : (lim : ℕ) (page : List ℕ) → lim ≤ 251 → is_good lim page ≡ true → (q a : ℕ) → Stands (places_of page) q → text_from page q ≡ some a
    → (ops : List ℕ) → lim ≤ length ops → TextRoom page a ops
text-within lim page short good q a stands text ops h =
    let r = stands-ready lim page short good q a stands text in let s = r.short in record { inside = r.inside; room = omega arith }

-- A step from where a run stands
module _ (lim : ℕ) (e : Env) (short : lim ≤ 251) (good : is_good lim e.page ≡ true) (q : ℕ) (x : Standing) (stands : Stands (places_of e.page) q) (fetches : fetch e.page q ≡ here x) where
  pub readable : Readable e.page x
  readable = fetches-here lim e.page short good q x stands fetches

  module _ (w : World) (fits : Fit (places_of e.page) w.session) (t : StepEnd) (is : t ≡ step_of e x w) where
    stays : StaysFit (places_of e.page) t
    stays = subst (StaysFit (places_of e.page)) (sym is) (goes_after lim e short good x w readable fits)

    pub step_fits : Fit (places_of e.page) t.world.session
    step_fits = stays.fits

    pub step-stands : (p : ℕ) → t.next ≡ go p → Stands (places_of e.page) p
    step-stands p g = stays.stands p g

    its-place : t.at ≡ x.place
    unfolding step_of
    its-place = ap (λ (u : StepEnd). u.at) is ∙ after-at (exec (env_at e x.place) x.statement w) x.place x.cr

    its-line : line_of e.page t.at ≡ x.line
    its-line = ap (line_of e.page) its-place ∙ sym readable.line

    pub step-inside : t.at + 2 < length e.page
    step-inside = rw its-place (place_inside lim e.page short good x.place readable.end)

    module _ (k n : ℕ) (some_left : k ≡ 0 → ⊥) where
      pub step-goes : (p : ℕ) → t.next ≡ go p → tally n (run_from k e q w) e.page ≡ tally (n + 1) (run_from (k - 1) e p t.world) e.page
      step-goes p g = by k some_left where
        quiet : (j : ℕ) → Quiet (run_from j e p t.world)
        quiet j = quiet-run j e p t.world (λ b h. fetches-read lim e.page short good p b (step-stands p g) h)

        by : (k : ℕ) → (k ≡ 0 → ⊥) → tally n (run_from k e q w) e.page ≡ tally (n + 1) (run_from (k - 1) e p t.world) e.page
        by zero h = absurd (h refl)
        by (suc j) h =
            let z : suc j - 1 ≡ j = omega arith in
            rw (z, add-one, is) (tally-goes e q w x fetches j n p (rw is at g) (rw is at (quiet j)))

      pub step-stops : (i : ℕ) → t.next ≡ stop i
          → tally n (run_from k e q w) e.page ≡ outcome i (stop_at i (line_of e.page t.at ∷ [])) (n + 1) (pausing i t.at t.world) e.page
      step-stops i g = by k some_left where
        by : (k : ℕ) → (k ≡ 0 → ⊥) → tally n (run_from k e q w) e.page ≡ outcome i (stop_at i (line_of e.page t.at ∷ [])) (n + 1) (pausing i t.at t.world) e.page
        by zero h = absurd (h refl)
        by (suc j) h =
            rw (add-one, its-line, is) (tally-stops e q w x fetches j n i (rw is at g))
