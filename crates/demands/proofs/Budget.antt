-- "Budget": a run given a and continued with b is a run given a + b. Assumes nothing.
use Rattle.std.specs.Prelude.{if◌then◌else◌}
use Prim.Native.Nat.{ℕ, zero, suc, ◌+◌, ◌≤◌, suc-le-suc}
use mathlib.Core.Path.{◌≡◌, refl, ◌∙◌, ap, sym}
use mathlib.Core.Bool.{Bool, true, false, ◌||◌}
use mathlib.Core.List.{List, ◌∷◌, ◌++◌}
use native.Mathlib.Nat.{zero-add, suc-add}
use native.Mathlib.Omega.{arith}
use lib.ListN.{length}
use lib.Dec.{eqb}
use borrow.Author.Tests.{eqb-true}
use Rattle.nibl.specs.Tree.{Stmt}
use Rattle.nibl.specs.Page.{is_among}
use Rattle.nibl.specs.Record.{position, mark}
use Rattle.nibl.specs.Meaning.{World, Env, on, skip, go, stop, Done, done, exec}
use Rattle.nibl.specs.Runs.{Ran, stepped, Standing, Fetched, past, unread, here, fetch, env_at, after_step, step, run_from}
use Rattle.demands.proofs.Does.{refusals, GivesVariables, gave, refused, gives, Does, writes, takes, refuses, passes, skips, assigns, assigns_flags, stores, goes_to, saves, returns, loops, repeats, leaves, begins, again, finishes, inputs}
use Rattle.demands.proofs.Effects.{exec-does}
use Rattle.demands.proofs.Runs.{here-not-past, run_past, run-zero, run-unread, run-suc, after-law, every-run}

-- a run that went on where the first paused
abbrev pub went_on_with : Ran → (ℕ → World → Ran) → Ran
went_on_with r k =
    elim (eqb r.stop 14) [
      | true ↦ let s = k r.at r.world in record { stop = s.stop; lines = r.lines ++ s.lines; at = s.at; world = s.world }
      | false ↦ r
    ]

-- no statement stops with 14, nor with any number but these
abbrev pub stop_numbers : List ℕ
stop_numbers = 0 ∷ refusals

pub data StopsWith : Done → Type 0 where
  goes : {w : World} → StopsWith (done on w)
  skipped : {w : World} → StopsWith (done skip w)
  jumped : {w : World} {q : ℕ} → StopsWith (done (go q) w)
  stopped : {w : World} {n : ℕ} → is_among stop_numbers n ≡ true → StopsWith (done (stop n) w)

or-true : (b : Bool) → (b || true) ≡ true
or-true true = refl
or-true false = refl

refusal-stops : {w : World} {n : ℕ} → is_among refusals n ≡ true → StopsWith (done (stop n) w)
refusal-stops {n = n} h = stopped {n = n} (rw h (or-true (eqb n 0)))

gives-stops : {w : World} {d : Done} → GivesVariables w d → StopsWith d
gives-stops gave = goes
gives-stops (refused h) = refusal-stops h
gives-stops (gives v x g) = gives-stops g

after-stops : (b : Bool) (q : ℕ) (w : World) → StopsWith (done (if b then stop 0 else go q) w)
after-stops true q w = stopped refl
after-stops false q w = jumped

pub does-stops : {e : Env} {vs : List ℕ} {W : List ℕ → Type 0} {w : World} {d : Done} → Does e vs W w d → StopsWith d
does-stops (writes bs i h d) = does-stops d
does-stops (takes g h d) = does-stops d
does-stops (refuses h) = refusal-stops h
does-stops passes = goes
does-stops skips = skipped
does-stops (assigns v x) = goes
does-stops (assigns_flags x) = goes
does-stops (stores m h) = goes
does-stops (goes_to n h) = jumped
does-stops (saves n h g) = jumped
does-stops (returns p h) = after-stops (eqb (position p) mark) _ _
does-stops (loops h) = goes
does-stops (repeats p h) = jumped
does-stops (leaves p h) = goes
does-stops (begins v x y z l h) = goes
does-stops (again v f h g) = jumped
does-stops (finishes v f h g) = goes
does-stops (inputs g) = gives-stops g

pub exec-stops : (e : Env) (q : Stmt) (w : World) → StopsWith (exec e q w)
exec-stops e q w = does-stops (exec-does e q w)

not-paused : (n : ℕ) → is_among stop_numbers n ≡ true → eqb n 14 ≡ false
not-paused n h = by (eqb n 14) refl where
  by : (b : Bool) → eqb n 14 ≡ b → b ≡ false
  by true g = let m : n ≡ 14 = eqb-true n 14 g in sym (rw m at h)
  by false g = refl

-- what a step goes on with, joined
stepped-joined : (l : ℕ) (r : Ran) (j : ℕ → World → Ran) → stepped l (went_on_with r j) ≡ went_on_with (stepped l r) j
stepped-joined l r j = by (eqb r.stop 14) refl where
  by : (b : Bool) → eqb r.stop 14 ≡ b → stepped l (went_on_with r j) ≡ went_on_with (stepped l r) j
  by true h = rw (h, went_on_with)
  by false h = rw (h, went_on_with)

after-joined : (d : Done) (p cr : ℕ) (k j m : ℕ → World → Ran) → StopsWith d → ((q : ℕ) (w : World) → m q w ≡ went_on_with (k q w) j)
    → after_step d p cr m ≡ went_on_with (after_step d p cr k) j
after-joined (done on w) p cr k j m s h = h (suc p) w
after-joined (done skip w) p cr k j m s h = h (suc cr) w
after-joined (done (go q) w) p cr k j m s h = h q w
after-joined (done (stop n) w) p cr k j m (stopped g) h = rw (not-paused n g, went_on_with)

step-joined : (e : Env) (x : Standing) (w : World) (k j m : ℕ → World → Ran) → ((q : ℕ) (w : World) → m q w ≡ went_on_with (k q w) j) → step e x w m ≡ went_on_with (step e x w k) j
step-joined e x w k j m h =
    let p = x.place in
    ap (stepped x.line) (after-joined (exec (env_at e p) x.statement w) p x.cr k j m (exec-stops (env_at e p) x.statement w) h)
    ∙ stepped-joined x.line (after_step (exec (env_at e p) x.statement w) p x.cr k) j

-- past the last line both are done
split-past : (a b : ℕ) (e : Env) (q : ℕ) (w : World) → fetch e.page q ≡ past → run_from (a + b) e q w ≡ went_on_with (run_from a e q w) (run_from b e)
split-past a b e q w h = rw (run_past (a + b) e q w h, run_past a e q w h) refl

-- "run with a, continue with b, is run with a + b"
pub split-run : (a b : ℕ) (e : Env) (q : ℕ) (w : World) → run_from (a + b) e q w ≡ went_on_with (run_from a e q w) (run_from b e)
split-run zero b e q w = by (fetch e.page q) refl where
  by : (f : Fetched) → fetch e.page q ≡ f → run_from (zero + b) e q w ≡ went_on_with (run_from zero e q w) (run_from b e)
  by past h = split-past zero b e q w h
  by (unread t) h = let n : fetch e.page q ≡ past → ⊥ = λ g. let z : ◌≡◌ {A = ℕ} 0 1 = cc in omega arith in rw (zero-add b, run-zero e q w n) refl
  by (here x) h = rw (zero-add b, run-zero e q w (here-not-past h)) refl
split-run (suc a) b e q w = by (λ q w. split-run a b e q w) (fetch e.page q) refl where
  by : ((q : ℕ) (w : World) → run_from (a + b) e q w ≡ went_on_with (run_from a e q w) (run_from b e)) → (f : Fetched) → fetch e.page q ≡ f
      → run_from (suc a + b) e q w ≡ went_on_with (run_from (suc a) e q w) (run_from b e)
  by i past h = split-past (suc a) b e q w h
  by i (unread t) h = rw (suc-add a b, run-unread (a + b) e q w t h, run-unread a e q w t h) refl
  by i (here x) h = rw (suc-add a b, run-suc (a + b) e q w x h, run-suc a e q w x h) (step-joined e x w (run_from a e) (run_from b e) (run_from (a + b) e) i)

-- "steps at most the budget"
pub steps-within : (k : ℕ) (e : Env) (q : ℕ) (w : World) → length (run_from k e q w).lines ≤ k
steps-within k e q w = every-run e (λ k q w r. length r.lines ≤ k) (λ k q w h. omega arith) (λ q w h. omega arith) (λ k q w a h. omega arith)
    (λ k q w x h i.
    suc-le-suc (after-law (λ r. length r.lines ≤ k) (exec (env_at e x.place) x.statement w) x.place x.cr (run_from k e) i (λ n u. omega arith))) k q w
