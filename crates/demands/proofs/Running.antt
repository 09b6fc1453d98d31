-- How a run of a good page with a fitting record goes: at every step a member is read, its end is a place, and the record still fits.
-- Assumes nothing.
use Prim.Native.Nat.{ℕ, suc, ◌+◌, ◌≤◌}
use mathlib.Core.Path.{◌≡◌, refl}
use mathlib.Core.Bool.{Bool, true, false}
use mathlib.Core.List.{List, [], ◌∷◌}
use native.Mathlib.Omega.{arith}
use lib.ListN.{length}
use lib.Dec.{leb}
use Rattle.nibl.specs.Tree.{Stmt}
use Rattle.nibl.specs.Page.{Stored, is_among, is_good, places_of, line_of}
use Rattle.nibl.specs.Record.{mark}
use Rattle.nibl.specs.Meaning.{World, Env, on, skip, go, stop, Done, done, put, went, exec}
use Rattle.nibl.specs.Runs.{Ran, ran, stepped, Standing, Fetched, past, unread, here, fetch, env_at, after_step, run_from}
use Rattle.nibl.specs.Calls.{needs_program, listed, list_from}
use Rattle.nibl.proofs.Words.{if-split}
use Rattle.page.specs.Standing.{Stands}
use Rattle.page.proofs.Standing.{fetches-here, fetches-read, find-stands}
use Rattle.record.specs.Fit.{Fit, Goes, to_next, to_record, to_place, to_end}
use Rattle.record.proofs.Statements.{list-goes, immediate-goes, member-goes}
use Rattle.demands.proofs.Effects.{exec-does, list-does}
use Rattle.demands.proofs.Runs.{every-run}
use Rattle.demands.proofs.Budget.{StopsWith, stopped, stop_numbers, does-stops}

-- a statement left a fitting record, and goes on to where a run may stand, or stops with one of its numbers
pub record LeavesFit (ps : List ℕ) (d : Done) : Type 0 where
  pub goes : Goes ps d
  pub stops : StopsWith d

-- LIST goes nowhere
data Unmoved : Done → Type 0 where
  stayed : {w : World} → Unmoved (done on w)
  halted : {n : ℕ} {w : World} → Unmoved (done (stop n) w)

went-unmoved : (d : Done) (k : World → Done) → Unmoved d → ((u : World) → Unmoved (k u)) → Unmoved (went d k)
went-unmoved (done on u) k h f = f u
went-unmoved (done (stop n) u) k h f = halted
went-unmoved (done skip u) k h f = elim h [ ]
went-unmoved (done (go _) u) k h f = elim h [ ]

list-unmoved : (n : ℕ) (rs : List Stored) (w : World) → Unmoved (list_from n rs w)
unfolding list_from put
list-unmoved n [] w = stayed
list-unmoved n (r ∷ rs) w = by (leb n r.line) (list-unmoved n rs) where
  by : (b : Bool) → ((u : World) → Unmoved (list_from n rs u)) → Unmoved (elim b [ true ↦ went (put (listed r) w) (list_from n rs) | false ↦ list_from n rs w ])
  by true f = went-unmoved (put (listed r) w) (list_from n rs) (if-split Unmoved (leb (w.outpos + length (listed r)) (length w.output)) (λ _. stayed) (λ _. halted)) f
  by false f = f w

pub list-stays : (n : ℕ) (rs : List Stored) (w : World) (q : ℕ) (u : World) → list_from n rs w ≡ done (go q) u → ⊥
list-stays n rs w q u e = by (list-unmoved n rs w) e where
  by : {d : Done} → Unmoved d → d ≡ done (go q) u → ⊥
  by stayed e = let z : ◌≡◌ {A = ℕ} 0 1 = cc in omega arith
  by halted e = let z : ◌≡◌ {A = ℕ} 0 1 = cc in omega arith

pub list_left : (e : Env) (n : ℕ) (rs : List Stored) (w : World) → Fit (places_of e.page) w.session → LeavesFit (places_of e.page) (list_from n rs w)
list_left e n rs w f = record { goes = list-goes (places_of e.page) n rs w f; stops = does-stops (list-does e [] n rs w) }

pub statement-left : (lim : ℕ) (e : Env) → lim ≤ 251 → is_good lim e.page ≡ true → (q : Stmt) (w : World) → e.here ≡ mark → needs_program q ≡ false
    → Fit (places_of e.page) w.session → LeavesFit (places_of e.page) (exec e q w)
statement-left lim e short good q w h n f = record { goes = immediate-goes e (places_of e.page) (find-stands lim e.page short good) q w h n f; stops = does-stops (exec-does e q w) }

-- The ways in which a run goes, within its budget
pub data Goings (page : List ℕ) : ℕ → Ran → Type 0 where
  -- past the last line
  runs_out : {k q : ℕ} {w : World} → fetch page q ≡ past → Fit (places_of page) w.session → Goings page k (ran 0 q w)
  -- the budget is spent, and a member follows
  pauses : {q : ℕ} {w : World} {x : Standing} → fetch page q ≡ here x → Stands (places_of page) q → Fit (places_of page) w.session → Goings page 0 (ran 14 q w)
  -- the member that p ends stopped the run
  stops : {k n p : ℕ} {w : World} → is_among (places_of page) p ≡ true → is_among stop_numbers n ≡ true → Fit (places_of page) w.session
      → Goings page (suc k) (stepped (line_of page p) (ran n p w))
  -- the run went on after it
  steps : {k : ℕ} {r : Ran} (p : ℕ) → is_among (places_of page) p ≡ true → Goings page k r → Goings page (suc k) (stepped (line_of page p) r)

module _ (lim : ℕ) (e : Env) (short : lim ≤ 251) (good : is_good lim e.page ≡ true) where
  abbrev Sure : ℕ → (ℕ → World → Ran) → Type 0
  Sure k f = (q : ℕ) (w : World) → Stands (places_of e.page) q → Fit (places_of e.page) w.session → Goings e.page k (f q w)

  -- where a run may stand and is not past the last line, a member follows
  pub some-fetched : {P : Type 0} (q : ℕ) → Stands (places_of e.page) q → (fetch e.page q ≡ past → ⊥) → ((x : Standing) → fetch e.page q ≡ here x → P) → P
  some-fetched {P = P} q s n g = by (fetch e.page q) refl where
    by : (f : Fetched) → fetch e.page q ≡ f → P
    by past h = absurd (n h)
    by (unread a) h = absurd (fetches-read lim e.page short good q a s h)
    by (here x) h = g x h

  -- what a member does that was fetched there
  pub fetched-goes : (q : ℕ) (x : Standing) (w : World) → Stands (places_of e.page) q → fetch e.page q ≡ here x → Fit (places_of e.page) w.session
      → Goes (places_of e.page) (exec (env_at e x.place) x.statement w)
  fetched-goes q x w s h f =
      let r = fetches-here lim e.page short good q x s h in
      rw r.statement (member-goes e (places_of e.page) (find-stands lim e.page short good) x.place r.text r.rest r.first w r.end r.reads f)

  step-goes : (k p cr : ℕ) (d : Done) (f : ℕ → World → Ran) → is_among (places_of e.page) p ≡ true → is_among (places_of e.page) cr ≡ true → LeavesFit (places_of e.page) d → Sure k f
      → Goings e.page (suc k) (stepped (line_of e.page p) (after_step d p cr f))
  step-goes k p cr d f h c l s = by d l.goes l.stops where
    by : (d : Done) → Goes (places_of e.page) d → StopsWith d → Goings e.page (suc k) (stepped (line_of e.page p) (after_step d p cr f))
    by (done on w) (to_next i) n = steps p h (s (suc p) w h i)
    by (done skip w) (to_record i) n = steps p h (s (suc cr) w c i)
    by (done (go q) w) (to_place t i) n = steps p h (s q w t i)
    by (done (stop m) w) (to_end i) (stopped n) = stops h n i

  pub run-goes : (k q : ℕ) (w : World) → Stands (places_of e.page) q → Fit (places_of e.page) w.session → Goings e.page k (run_from k e q w)
  run-goes k q w =
      every-run e (λ k q w r. Stands (places_of e.page) q → Fit (places_of e.page) w.session → Goings e.page k r)
      (λ k q w h s f. runs_out h f)
      (λ q w n s f. some-fetched q s n (λ x h. pauses h s f))
      (λ k q w a h s f. absurd (fetches-read lim e.page short good q a s h))
      (λ k q w x h i s f.
      let r = fetches-here lim e.page short good q x s h in
      rw r.line
      (step-goes k x.place x.cr _ (run_from k e) r.end r.cr
      (record {
        goes = fetched-goes q x w s h f;
        stops = does-stops (exec-does (env_at e x.place) x.statement w);
      }) i)) k q w
