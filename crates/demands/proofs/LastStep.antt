-- A run of one or more steps is the run with one step less, which pauses, and one statement more. Assumes nothing.
use Prim.Native.Nat.{ℕ, suc, ◌≤◌}
use mathlib.Core.Path.{◌≡◌, refl, sym, ap, ◌∙◌}
use mathlib.Core.List.{List}
use mathlib.Core.Bool.{true}
use native.Mathlib.Omega.{arith}
use lib.ListN.{length}
use lib.Dec.{eqb}
use borrow.Author.Tests.{eqb-true, eqb-false}
use Rattle.page.proofs.Walk.{by_cases}
use Rattle.nibl.specs.Page.{is_among}
use Rattle.nibl.specs.Meaning.{World, Env, Next, on, skip, go, stop, Done, done, exec}
use Rattle.nibl.specs.Runs.{Ran, ran, stepped, Standing, past, here, fetch, env_at, after_step, step, run_from}
use Rattle.nibl.specs.Record.{nowhere, with_paused, unpaused}
use Rattle.nibl.specs.declared.Session.{Session}
use Rattle.demands.proofs.Runs.{here-not-past, run-zero, run-suc, every-run}
use Rattle.demands.specs.Lent.{OneOfThese}
use Rattle.demands.specs.Steps.{GoesTo, after_it, after_record, jumps}
use Rattle.demands.proofs.Budget.{stop_numbers, StopsWith, stopped, exec-stops}
use Rattle.demands.proofs.Fixed.{unsaid}

-- how a run ends, within the budget k, whose last member ended so
pub data RunEnds (page : List ℕ) (p cr : ℕ) (how : Next) (k : ℕ) (r : Ran) : Type 0 where
  halts : how ≡ stop r.stop → is_among stop_numbers r.stop ≡ true → RunEnds page p cr how k r
  runs_out : (q : ℕ) → GoesTo p cr how q → fetch page q ≡ past → r.stop ≡ 0 → RunEnds page p cr how k r
  pauses : (q : ℕ) → GoesTo p cr how q → (fetch page q ≡ past → ⊥) → r.stop ≡ 14 → length r.lines ≡ k → r.at ≡ q → RunEnds page p cr how k r
  breaks : r.stop ≡ 5 → RunEnds page p cr how k r

-- r is the run from q on, within the budget k, that pauses one step before its end, and then one member
pub record LastStep (e : Env) (k q : ℕ) (w : World) (r : Ran) : Type 0 where
  pub before : ℕ
  pub count : length r.lines ≡ suc before
  pub pauses : (run_from before e q w).stop ≡ 14
  pub last : Standing
  pub fetches : fetch e.page (run_from before e q w).at ≡ here last
  pub how : Next
  pub goes : exec (env_at e last.place) last.statement (run_from before e q w).world ≡ done how r.world
  pub stops : (OneOfThese unsaid r.stop → ⊥) → how ≡ stop r.stop
  pub place : (OneOfThese unsaid r.stop → ⊥) → r.at ≡ last.place
  pub ends : RunEnds e.page last.place last.cr how k r

-- a run of no steps
pub data Still (page : List ℕ) (k q : ℕ) (r : Ran) : Type 0 where
  over : fetch page q ≡ past → r.stop ≡ 0 → Still page k q r
  waits : (fetch page q ≡ past → ⊥) → r.stop ≡ 14 → k ≡ 0 → r.at ≡ q → Still page k q r
  unread : r.stop ≡ 5 → Still page k q r

pub record NoStep (page : List ℕ) (k q : ℕ) (w : World) (r : Ran) : Type 0 where
  pub world : r.world ≡ w
  pub stop : OneOfThese unsaid r.stop
  pub still : Still page k q r

pub no_step : (k : ℕ) (e : Env) (q : ℕ) (w : World) → length (run_from k e q w).lines ≡ 0 → NoStep e.page k q w (run_from k e q w)
no_step k e q w =
    every-run e (λ k q w r. length r.lines ≡ 0 → NoStep e.page k q w r) (λ k q w h n. record { world = refl; stop = refl; still = over h refl })
    (λ q w h n. record { world = refl; stop = refl; still = waits h refl refl refl }) (λ k q w a h n. record { world = refl; stop = refl; still = unread refl })
    (λ k q w x h i n. absurd (omega arith)) k q w

stop-among : {n : ℕ} {w : World} → StopsWith (done (stop n) w) → is_among stop_numbers n ≡ true
stop-among (stopped h) = h

module _ (e : Env) (q : ℕ) (w : World) (x : Standing) (h : fetch e.page q ≡ here x) where
  abbrev d : Done
  d = exec (env_at e x.place) x.statement w

  abbrev l : ℕ
  l = x.line

  -- this step was the last
  last-here : (k : ℕ) (r : Ran) (c : Next) → length r.lines ≡ 0 → d ≡ done c r.world → ((OneOfThese unsaid r.stop → ⊥) → c ≡ stop r.stop) → ((OneOfThese unsaid r.stop → ⊥) → r.at ≡ x.place)
      → RunEnds e.page x.place x.cr c k (stepped l r) → LastStep e k q w (stepped l r)
  last-here k r c n f i j o =
      record {
        before = 0;
        count = ap suc n;
        pauses = rw (run-zero e q w (here-not-past h));
        last = x;
        fetches = rw (run-zero e q w (here-not-past h)) h;
        how = c;
        goes = rw (run-zero e q w (here-not-past h)) f;
        stops = i;
        place = j;
        ends = o;
      }

  -- or a later one
  longer : (k : ℕ) (r : Ran) {p cr : ℕ} {c : Next} → RunEnds e.page p cr c k r → RunEnds e.page p cr c (suc k) (stepped l r)
  longer k r (halts h i) = halts h i
  longer k r (runs_out q g h i) = runs_out q g h i
  longer k r (pauses q g h i n j) = pauses q g h i (ap suc n) j
  longer k r (breaks h) = breaks h

  last-later : (k q' : ℕ) (u : World) → ((k : ℕ) → after_step d x.place x.cr (run_from k e) ≡ run_from k e q' u) → LastStep e k q' u (run_from k e q' u)
      → LastStep e (suc k) q w (stepped l (run_from k e q' u))
  last-later k q' u f t =
      let b = t.before in
      let more : run_from (suc b) e q w ≡ stepped l (run_from b e q' u) = run-suc b e q w x h ∙ ap (stepped l) (f b) in
      record {
        before = suc b;
        count = ap suc t.count;
        pauses = rw more t.pauses;
        last = t.last;
        fetches = rw more t.fetches;
        how = t.how;
        goes = rw more t.goes;
        stops = t.stops;
        place = t.place;
        ends = longer k (run_from k e q' u) t.ends;
      }

  stood : (k q' : ℕ) (r : Ran) (c : Next) → GoesTo x.place x.cr c q' → length r.lines ≡ 0 → Still e.page k q' r
      → RunEnds e.page x.place x.cr c (suc k) (stepped l r)
  stood k q' r c to z (over h i) = runs_out q' to h i
  stood k q' r c to z (waits h i n j) = pauses q' to h i (ap suc (z ∙ sym n)) j
  stood k q' r c to z (unread i) = breaks i

  goes_on : (k : ℕ) → ((q : ℕ) (w : World) → 1 ≤ length (run_from k e q w).lines → LastStep e k q w (run_from k e q w)) → (c : Next) (u : World) → d ≡ done c u → (q' : ℕ) → GoesTo x.place x.cr c q'
      → ((k : ℕ) → after_step (done c u) x.place x.cr (run_from k e) ≡ run_from k e q' u) → LastStep e (suc k) q w (step e x w (run_from k e))
  goes_on k i c u f q' to j =
      let t : (k : ℕ) → after_step d x.place x.cr (run_from k e) ≡ run_from k e q' u = λ k. ap (λ (c : Done). after_step c x.place x.cr (run_from k e)) f ∙ j k in
      rw (t k)
      (by_cases (eqb (length (run_from k e q' u).lines) 0)
      (λ n.
      let z = eqb-true (length (run_from k e q' u).lines) 0 n in
      let o = no_step k e q' u z in
      last-here (suc k) (run_from k e q' u) c z (rw o.world f) (λ v. absurd (v o.stop)) (λ v. absurd (v o.stop)) (stood k q' (run_from k e q' u) c to z o.still))
      (λ n. last-later k q' u t (i q' u (omega (arith, eqb-false (length (run_from k e q' u).lines) 0 n)))))

  last_of : (k : ℕ) → ((q : ℕ) (w : World) → 1 ≤ length (run_from k e q w).lines → LastStep e k q w (run_from k e q w)) → (c : Done) → d ≡ c → LastStep e (suc k) q w (step e x w (run_from k e))
  last_of k i (done on u) f = goes_on k i on u f (suc x.place) after_it (λ k. refl)
  last_of k i (done skip u) f = goes_on k i skip u f (suc x.cr) after_record (λ k. refl)
  last_of k i (done (go q') u) f = goes_on k i (go q') u f q' jumps (λ k. refl)
  last_of k i (done (stop n) u) f = rw f (last-here (suc k) (ran n x.place u) (stop n) refl f (λ v. refl) (λ v. refl) (halts refl (stop-among (rw f at (exec-stops (env_at e x.place) x.statement w)))))

pub last_step : (k : ℕ) (e : Env) (q : ℕ) (w : World) → 1 ≤ length (run_from k e q w).lines → LastStep e k q w (run_from k e q w)
last_step k e q w =
    every-run e (λ k q w r. 1 ≤ length r.lines → LastStep e k q w r) (λ k q w h n. absurd (omega arith)) (λ q w h n. absurd (omega arith)) (λ k q w a h n. absurd (omega arith))
    (λ k q w x h i n. last_of e q w x h k i (exec (env_at e x.place) x.statement w) refl) k q w

pub unpaused-same : (s : Session) → s.paused ≡ nowhere → unpaused s ≡ s
unpaused-same s h = ap (with_paused s) (sym h)
