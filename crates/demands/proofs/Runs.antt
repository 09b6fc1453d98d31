-- A run, step by step: its ways out, and what holds of every run. Assumes nothing.
use Prim.Native.Nat.{ℕ, zero, suc}
use mathlib.Core.Path.{◌≡◌, refl, subst, sym}
use mathlib.Core.List.{List}
use mathlib.Core.Option.{Option, none, some}
use native.Mathlib.Omega.{arith}
use Rattle.nibl.specs.Tree.{Member}
use Rattle.nibl.specs.found.Read.{Found, nothing, found, member}
use Rattle.nibl.specs.Page.{line_of}
use Rattle.nibl.specs.Meaning.{World, Env, on, skip, go, stop, Done, done}
use Rattle.nibl.specs.Runs.{Ran, ran, Standing, Fetched, past, unread, here, text_from, line_from, first_from, fetch_member, fetch_text, fetch, after_step, step, run_from}

pub here-not-past : {f : Fetched} {x : Standing} → f ≡ here x → f ≡ past → ⊥
here-not-past h g = let z : ◌≡◌ {A = ℕ} 0 1 = cc in omega arith

-- the line of a member is that of its place
pub fetched-line : (page : List ℕ) (q : ℕ) (x : Standing) → fetch page q ≡ here x → x.line ≡ line_of page x.place
unfolding fetch
fetched-line page q x e = by (text_from page q) e where
  read : (a : ℕ) (f : Found Member) → fetch_member page a f ≡ here x → x.line ≡ line_of page x.place
  read a nothing e = let z : ◌≡◌ {A = ℕ} 0 1 = cc in absurd (omega arith)
  read a (found m s) e = let same : first_from page a m ≡ x = cc in rw (← same) refl

  by : (o : Option ℕ) → fetch_text page o ≡ here x → x.line ≡ line_of page x.place
  by none e = let z : ◌≡◌ {A = ℕ} 0 1 = cc in absurd (omega arith)
  by (some a) e = read a (member (line_from page a)) e

pub run_past : (k : ℕ) (e : Env) (q : ℕ) (w : World) → fetch e.page q ≡ past → run_from k e q w ≡ ran 0 q w
unfolding run_from
run_past zero e q w h = rw (h, run_from)
run_past (suc k) e q w h = rw (h, run_from)

pub run-zero : (e : Env) (q : ℕ) (w : World) → (fetch e.page q ≡ past → ⊥) → run_from 0 e q w ≡ ran 14 q w
unfolding run_from
run-zero e q w h = by (fetch e.page q) refl where
  by : (f : Fetched) → fetch e.page q ≡ f → run_from 0 e q w ≡ ran 14 q w
  by past g = absurd (h g)
  by (unread a) g = rw (g, run_from)
  by (here x) g = rw (g, run_from)

pub run-unread : (k : ℕ) (e : Env) (q : ℕ) (w : World) (a : ℕ) → fetch e.page q ≡ unread a → run_from (suc k) e q w ≡ ran 5 a w
unfolding run_from
run-unread k e q w a h = rw (h, run_from)

pub run-suc : (k : ℕ) (e : Env) (q : ℕ) (w : World) (x : Standing) → fetch e.page q ≡ here x → run_from (suc k) e q w ≡ step e x w (run_from k e)
unfolding run_from
run-suc k e q w x h = rw (h, run_from)

-- what holds of each stop here and of all that follows holds after a step
pub after-law : (Q : Ran → Type 0) (d : Done) (p cr : ℕ) (k : ℕ → World → Ran) → ((q : ℕ) (w : World) → Q (k q w)) → ((n : ℕ) (w : World) → Q (ran n p w))
    → Q (after_step d p cr k)
after-law Q (done on w) p cr k f g = f (suc p) w
after-law Q (done skip w) p cr k f g = f (suc cr) w
after-law Q (done (go q) w) p cr k f g = f q w
after-law Q (done (stop n) w) p cr k f g = g n w

-- What holds past the last line, at a pause, where no member is read, and after a step if it holds of what follows the step, holds of every run
module _ (e : Env) (P : ℕ → ℕ → World → Ran → Type 0)
    (ends : (k q : ℕ) (w : World) → fetch e.page q ≡ past → P k q w (ran 0 q w))
    (pauses : (q : ℕ) (w : World) → (fetch e.page q ≡ past → ⊥) → P 0 q w (ran 14 q w))
    (breaks : (k q : ℕ) (w : World) (a : ℕ) → fetch e.page q ≡ unread a → P (suc k) q w (ran 5 a w))
    (steps : (k q : ℕ) (w : World) (x : Standing) → fetch e.page q ≡ here x → ((q : ℕ) (w : World) → P k q w (run_from k e q w)) → P (suc k) q w (step e x w (run_from k e))) where
  at_zero : (q : ℕ) (w : World) (f : Fetched) → fetch e.page q ≡ f → P 0 q w (run_from 0 e q w)
  at_zero q w past h = subst (P 0 q w) (sym (run_past 0 e q w h)) (ends 0 q w h)
  at_zero q w (unread a) h = let n : fetch e.page q ≡ past → ⊥ = λ g. let z : ◌≡◌ {A = ℕ} 0 1 = cc in omega arith in subst (P 0 q w) (sym (run-zero e q w n)) (pauses q w n)
  at_zero q w (here x) h = let n = here-not-past h in subst (P 0 q w) (sym (run-zero e q w n)) (pauses q w n)

  at_suc : (k q : ℕ) (w : World) → ((q : ℕ) (w : World) → P k q w (run_from k e q w)) → (f : Fetched) → fetch e.page q ≡ f → P (suc k) q w (run_from (suc k) e q w)
  at_suc k q w i past h = subst (P (suc k) q w) (sym (run_past (suc k) e q w h)) (ends (suc k) q w h)
  at_suc k q w i (unread a) h = subst (P (suc k) q w) (sym (run-unread k e q w a h)) (breaks k q w a h)
  at_suc k q w i (here x) h = subst (P (suc k) q w) (sym (run-suc k e q w x h)) (steps k q w x h i)

  pub every-run : (k q : ℕ) (w : World) → P k q w (run_from k e q w)
  every-run zero q w = at_zero q w (fetch e.page q) refl
  every-run (suc k) q w = at_suc k q w (λ q w. every-run k q w) (fetch e.page q) refl
