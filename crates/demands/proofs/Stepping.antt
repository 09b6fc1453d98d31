-- What runs is the reading: every step of a run on a good page with a fitting record is the member that the grammar has next. Assumes nothing.
use Prim.Native.Nat.{ℕ, suc, ◌≤◌}
use mathlib.Core.Path.{◌≡◌, refl, sym, ap, subst, ◌∙◌}
use mathlib.Core.Bool.{true}
use native.Mathlib.Omega.{arith}
use Rattle.nibl.specs.Page.{is_good, places_of}
use Rattle.nibl.specs.Record.{nowhere, paused_at}
use Rattle.nibl.specs.Typing.{Gathered}
use Rattle.nibl.specs.Meaning.{World, Env, Next, on, skip, go, stop, Done, done, exec}
use Rattle.nibl.specs.Lent.{Lent, Outcome}
use Rattle.nibl.specs.Runs.{Ran, stepped, step, past as nothing, here, fetch, env_at, after_step, run_from}
use Rattle.nibl.specs.Typing.{limit}
use Rattle.nibl.specs.Lent.{begun, lent_env}
use Rattle.nibl.specs.FirstRefusals.{first_refusal}
use Rattle.nibl.specs.Calls.{take_line, continue_run}
use Rattle.page.specs.Standing.{Stands, Readable}
use Rattle.page.proofs.Standing.{fetches-here, fetches-read}
use Rattle.record.specs.Fit.{Fit, Goes, to_next, to_record, to_place, to_end}
use Rattle.record.specs.Sound.{Sized, Sound}
use Rattle.record.proofs.Fitted.{sound-fit, fit-paused, fit-vars, fit-cleared, paused-stands}
use Rattle.demands.specs.Lent.{Typing}
use Rattle.demands.specs.Starts.{Starts, by_run_command, by_statement, StartsTyped, typed, StartsPaused, paused, ran_from}
use Rattle.demands.specs.Good.{GoodPage, PauseFits}
use Rattle.demands.specs.Reading.{Standing, NextAt, PastTheLast}
use Rattle.demands.specs.Steps.{GoesTo, after_it, after_record, jumps}
use Rattle.demands.specs.ItemsIn.{StatementWrote}
use Rattle.demands.specs.Stepping.{OneStep, Runs, over, pauses, halts, goes_on, LeavesRun}
use Rattle.demands.specs.Leaves.{world_after}
use Rattle.demands.proofs.Good.{good-exact, stands-exact}
use Rattle.demands.proofs.Reading.{past-fetched, next-fetches, next-fetched, fetched-next, fetched-past}
use Rattle.demands.proofs.Runs.{here-not-past, run_past, run-zero, run-suc, every-run}
use Rattle.demands.proofs.Running.{some-fetched, fetched-goes, statement-left}
use Rattle.demands.proofs.Sound.{unrefused}
use Rattle.demands.proofs.Beginning.{a-run-begins, a-paused-run-goes-on}
use Rattle.demands.proofs.ItemsIn.{a-statement-writes}

module _ (lim : ℕ) (e : Env) (short : lim ≤ 251) (good : is_good lim e.page ≡ true) where
  page-good : GoodPage lim e.page
  page-good = (good-exact lim e.page short).0 good

  stands-so : (q : ℕ) → Stands (places_of e.page) q → PauseFits e.page (paused_at q)
  stands-so q s = (stands-exact lim e.page short page-good (paused_at q)).0 s

  -- what is fetched where nothing follows is the end mark, and else the member that is next
  pub nothing-past : (q : ℕ) → Stands (places_of e.page) q → fetch e.page q ≡ nothing → PastTheLast e.page q
  nothing-past q s h = fetched-past lim e.page short page-good (stands-so q s) h

  pub some_next : {P : Type 0} (q : ℕ) → Stands (places_of e.page) q → (fetch e.page q ≡ nothing → ⊥) → ((x : Standing) → NextAt e.page q x → P) → P
  some_next q s n f = some-fetched lim e short good q s n (λ x h. f x (fetched-next lim e.page short page-good (stands-so q s) h))

  module _ (q : ℕ) (x : Standing) (w : World) (s : Stands (places_of e.page) q) (h : fetch e.page q ≡ here x) where
    pub its-next : NextAt e.page q x
    its-next = fetched-next lim e.page short page-good (stands-so q s) h

    readable : Readable e.page x
    readable = fetches-here lim e.page short good q x s h

    -- where it goes on, a run may stand
    pub goes-stands : Fit (places_of e.page) w.session → {how : Next} {u : World} {q' : ℕ} → exec (env_at e x.place) x.statement w ≡ done how u
        → GoesTo x.place x.cr how q' → Stands (places_of e.page) q'
    goes-stands f d to = by (rw d at (fetched-goes lim e short good q x w s h f)) to where
      by : {how : Next} {u : World} {q' : ℕ} → Goes (places_of e.page) (done how u) → GoesTo x.place x.cr how q' → Stands (places_of e.page) q'
      by (to_next i) after_it = readable.end
      by (to_record i) after_record = readable.cr
      by (to_place c i) jumps = c
      by (to_end _) h = elim h [ ]

    its-runs : (k : ℕ) → Fit (places_of e.page) w.session → ((q : ℕ) (u : World) → Stands (places_of e.page) q → Fit (places_of e.page) u.session → Runs e k q u (run_from k e q u))
        → Runs e (suc k) q w (stepped x.line (after_step (exec (env_at e x.place) x.statement w) x.place x.cr (run_from k e)))
    its-runs k f more = by (exec (env_at e x.place) x.statement w) refl (fetched-goes lim e short good q x w s h f) where
      step : {how : Next} {u : World} → exec (env_at e x.place) x.statement w ≡ done how u → OneStep e q w x how u
      step d =
          record {
            next = its-next;
            does = d;
            writes = subst (λ c. StatementWrote (env_at e x.place) x.statement w (world_after c)) d (a-statement-writes (env_at e x.place) x.statement w);
          }

      by : (d : Done) → exec (env_at e x.place) x.statement w ≡ d → Goes (places_of e.page) d
          → Runs e (suc k) q w (stepped x.line (after_step d x.place x.cr (run_from k e)))
      by (done on u) d (to_next i) = goes_on (step d) after_it (more (suc x.place) u readable.end i)
      by (done skip u) d (to_record i) = goes_on (step d) after_record (more (suc x.cr) u readable.cr i)
      by (done (go p) u) d (to_place c i) = goes_on (step d) jumps (more p u c i)
      by (done (stop n) u) d (to_end i) = halts (step d)

  pub runs_so : (k q : ℕ) (w : World) → Stands (places_of e.page) q → Fit (places_of e.page) w.session → Runs e k q w (run_from k e q w)
  runs_so k q w =
      every-run e (λ k q w r. Stands (places_of e.page) q → Fit (places_of e.page) w.session → Runs e k q w r)
      (λ k q w h s f. over (nothing-past q s h))
      (λ q w n s f. some_next q s n (λ x i. pauses i))
      (λ k q w a h s f. absurd (fetches-read lim e.page short good q a s h))
      (λ k q w x h i s f. its-runs q x w s h k f i) k q w

  -- and there is one such run
  next-step : {q : ℕ} {x : Standing} (k : ℕ) (w : World) → NextAt e.page q x → run_from (suc k) e q w ≡ step e x w (run_from k e)
  next-step {q = q} {x = x} k w i = run-suc k e q w x (next-fetched lim e.page short page-good i)

  goes_to : {p cr q' : ℕ} {how : Next} (u : World) (k : ℕ) → GoesTo p cr how q' → after_step (done how u) p cr (run_from k e) ≡ run_from k e q' u
  goes_to u k after_it = refl
  goes_to u k after_record = refl
  goes_to u k jumps = refl

  pub runs-exact : {k q : ℕ} {w : World} {r : Ran} → Runs e k q w r → run_from k e q w ≡ r
  runs-exact {k = k} {q = q} {w = w} (over p) = run_past k e q w (past-fetched p)
  runs-exact {q = q} {w = w} (pauses i) = run-zero e q w (here-not-past (next-fetches i))
  runs-exact {w = w} (halts {k = k} {x = x} s) =
      next-step k w s.next ∙ ap (λ (d : Done). stepped x.line (after_step d x.place x.cr (run_from k e))) s.does
  runs-exact {w = w} (goes_on {k = k} {u = u} {x = x} s t more) =
      next-step k w s.next ∙ ap (λ (d : Done). stepped x.line (after_step d x.place x.cr (run_from k e))) s.does
      ∙ ap (stepped x.line) (goes_to u k t ∙ runs-exact more)

-- One outcome: two runs from one position in one world within one budget are the same
pub one-run : {e : Env} {k q : ℕ} {w : World} {r r' : Ran} → GoodPage limit e.page → Runs e k q w r → Runs e k q w r' → r ≡ r'
one-run {e = e} g a b =
    let good = (good-exact limit e.page (omega arith)).1 g in sym (runs-exact limit e (omega arith) good a) ∙ runs-exact limit e (omega arith) good b

-- Of the calls: where a run begins, one may stand, and the record fits
pub record Begun (x : Lent) (q : ℕ) (w : World) : Type 0 where
  pub good : is_good limit x.page ≡ true
  pub stands : Stands (places_of x.page) q
  pub fit : Fit (places_of x.page) w.session

module _ (x : Lent) (sized : Sized x.session) where
  sound-at : first_refusal limit x ≡ 0 → Sound limit x.page x.session
  sound-at z = unrefused limit x sized z

  begun-fits : first_refusal limit x ≡ 0 → (n : ℕ) → Fit (places_of x.page) (begun x n).session
  begun-fits z n = fit-paused (sound-fit (sound-at z)) nowhere refl

  pub line-begun : (g : Gathered) → Typing limit x g → {q : ℕ} {w : World} → Starts limit x g q w → Begun x q w
  line-begun g h (by_run_command r) =
      record {
        good = (sound-at h.sound).good;
        stands = refl;
        fit = fit-vars (fit-cleared (begun-fits h.sound g.taken) (places_of x.page) refl) _ refl;
      }
  line-begun g h (by_statement {q = q} {w = w} s r n d) =
      by (rw d at (statement-left limit (lent_env limit x) (omega arith) good s (begun x g.taken) refl n (begun-fits h.sound g.taken)).goes)
    where
      good : is_good limit x.page ≡ true
      good = (sound-at h.sound).good

      by : Goes (places_of x.page) (done (go q) w) → Begun x q w
      by (to_place c i) = record { good = good; stands = c; fit = i }

  pub typed-begun : {q : ℕ} {w : World} → StartsTyped limit x q w → Begun x q w
  typed-begun (typed g h b) = line-begun g h b

  pub paused-begun : {q : ℕ} {w : World} → StartsPaused limit x q w → Begun x q w
  paused-begun (paused {q = q} z h) =
      let s = sound-at z in
      record { good = s.good; stands = paused-stands (places_of x.page) x.session (sound-fit s) q h; fit = begun-fits z 0 }

  leaves_run : {q : ℕ} {w : World} {o : Outcome} → Begun x q w → o ≡ ran_from x q w → LeavesRun x q w o
  leaves_run {q = q} {w = w} b e =
      record {
        ran = run_from x.call.budget (lent_env limit x) q w;
        runs = runs_so limit (lent_env limit x) (omega arith) b.good x.call.budget q w b.stands b.fit;
        leaves = e;
      }

  -- a run that a typed line begins, and one that was paused, go statement by statement through the readings of the page's records
  pub a-typed-run-is-the-reading : {q : ℕ} {w : World} → StartsTyped limit x q w → LeavesRun x q w (take_line x)
  a-typed-run-is-the-reading b = leaves_run (typed-begun b) (a-run-begins x b)

  pub a-paused-run-is-the-reading : {q : ℕ} {w : World} → StartsPaused limit x q w → LeavesRun x q w (continue_run x)
  a-paused-run-is-the-reading b = leaves_run (paused-begun b) (a-paused-run-goes-on x b)
