-- How a run goes on after a step, and how its steps add up. Assumes nothing.
use Prim.Native.Nat.{ℕ, zero, suc, ◌+◌}
use mathlib.Core.List.{List, [], ◌∷◌}
use mathlib.Core.Path.{◌≡◌, refl, ap, ◌∙◌}
use native.Mathlib.Omega.{arith}
use lib.ListN.{length}
use Rattle.nibl.specs.Meaning.{World, Env, on, skip, go, stop, Done, done, exec}
use Rattle.nibl.specs.Lent.{outcome}
use Rattle.nibl.specs.Runs.{Ran, ran, stepped, stop_at, pausing, run_outcome, Standing, Fetched, past, unread, here, fetch, env_at, after_step, run_from}
use Rattle.run.specs.StepEnds.{StepEnd, done_end, step_of, follow, tally}

-- past the last line, and where the budget is spent
pub runs-out : (k : ℕ) (e : Env) (q : ℕ) (w : World) → fetch e.page q ≡ past → run_from k e q w ≡ ran 0 q w
unfolding run_from
runs-out zero e q w h = rw (h, run_from)
runs-out (suc k) e q w h = rw (h, run_from)

pub runs-dry : (e : Env) (q : ℕ) (w : World) (x : Standing) → fetch e.page q ≡ here x → run_from 0 e q w ≡ ran 14 q w
unfolding run_from
runs-dry e q w x h = rw (h, run_from)

-- a step, and the run after it
after-follows : (d : Done) (p cr : ℕ) (k : ℕ → World → Ran) → after_step d p cr k ≡ follow (done_end d p cr) k
after-follows (done on w) p cr k = refl
after-follows (done skip w) p cr k = refl
after-follows (done (go q) w) p cr k = refl
after-follows (done (stop n) w) p cr k = refl

pub after-at : (d : Done) (p cr : ℕ) → (done_end d p cr).at ≡ p
after-at (done n w) p cr = refl

pub runs-step : (k : ℕ) (e : Env) (q : ℕ) (w : World) (x : Standing) → fetch e.page q ≡ here x
    → (let t = step_of e x w in run_from (suc k) e q w ≡ stepped x.line (follow t (run_from k e)))
unfolding run_from step_of
runs-step k e q w x h = rw (h, run_from) (ap (stepped x.line) (after-follows (exec (env_at e x.place) x.statement w) x.place x.cr (run_from k e)))

-- none so far
pub tally-none : (r : Ran) (page : List ℕ) → run_outcome r page ≡ tally 0 r page
tally-none r page = ap (λ (n : ℕ). outcome r.stop (stop_at r.stop r.lines) n (pausing r.stop r.at r.world) page) (omega arith)

-- one line more before those of a run is not that of its stop
abbrev pub Quiet : Ran → Type 0
Quiet r = (l : ℕ) → stop_at r.stop (l ∷ r.lines) ≡ stop_at r.stop r.lines

quiet-stepped : (l : ℕ) (r : Ran) → Quiet (stepped l r)
quiet-stepped l r m = refl

-- a run that reads a member wherever it stands
pub quiet-run : (k : ℕ) (e : Env) (q : ℕ) (w : World) → ((a : ℕ) → fetch e.page q ≡ unread a → ⊥) → Quiet (run_from k e q w)
quiet-run k e q w h = by k (fetch e.page q) refl where
  by : (k : ℕ) (f : Fetched) → fetch e.page q ≡ f → Quiet (run_from k e q w)
  by k past t = rw (runs-out k e q w t) (λ l. refl)
  by k (unread a) t = absurd (h a t)
  by zero (here x) t = rw (runs-dry e q w x t) (λ l. refl)
  by (suc k) (here x) t = rw (runs-step k e q w x t) (λ l. refl)

pub tally-step : (s l : ℕ) (r : Ran) (page : List ℕ) → Quiet r → tally s (stepped l r) page ≡ tally (suc s) r page
tally-step s l r page h =
    ap (λ (x : ℕ). outcome r.stop x (s + suc (length r.lines)) (pausing r.stop r.at r.world) page) (h l)
    ∙ ap (λ (n : ℕ). outcome r.stop (stop_at r.stop r.lines) n (pausing r.stop r.at r.world) page) (omega arith)

-- A run of one step and more, by where its first step leads
module _ (e : Env) (q : ℕ) (w : World) (x : Standing) (h : fetch e.page q ≡ here x) where
  abbrev t : StepEnd
  t = step_of e x w

  pub tally-goes : (k n p : ℕ) → t.next ≡ go p → Quiet (run_from k e p t.world) → tally n (run_from (suc k) e q w) e.page ≡ tally (suc n) (run_from k e p t.world) e.page
  tally-goes k n p g y =
      ap (λ (r : Ran). tally n r e.page) (runs-step k e q w x h)
      ∙ rw g (tally-step n x.line (run_from k e p t.world) e.page y)

  pub tally-stops : (k n i : ℕ) → t.next ≡ stop i
      → tally n (run_from (suc k) e q w) e.page ≡ outcome i (stop_at i (x.line ∷ [])) (suc n) (pausing i t.at t.world) e.page
  tally-stops k n i g =
      ap (λ (r : Ran). tally n r e.page) (runs-step k e q w x h)
      ∙ rw g (ap (λ (m : ℕ). outcome i (stop_at i (x.line ∷ [])) m (pausing i t.at t.world) e.page) (omega arith))
