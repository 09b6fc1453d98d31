-- "Every reply is one of the numbers" of document 01's table. Assumes nothing.
use Rattle.std.specs.Prelude.{if◌then◌else◌}
use Prim.Native.Nat.{ℕ, zero, suc}
use mathlib.Core.Path.{◌≡◌, refl, subst}
use mathlib.Core.Bool.{Bool, true, false, not}
use mathlib.Core.List.{List, [], ◌∷◌}
use lib.ListN.{length}
use lib.Dec.{leb}
use Rattle.nibl.specs.Tree.{Typed, blank, new, clear, run, delete, list, store, immediate}
use Rattle.nibl.specs.Page.{Stored, is_good, fits, records_of, has_line, without, with, program_bytes, onto}
use Rattle.nibl.specs.Meaning.{World, Env, on, skip, go, stop, Done, done, with_session, exec}
use Rattle.nibl.specs.Lent.{Lent, Outcome, stops}
use Rattle.nibl.specs.Runs.{Ran, stepped, after_step, env_at, run_from}
use Rattle.nibl.specs.Typing.{limit}
use Rattle.nibl.specs.Lent.{begun, lent_env}
use Rattle.nibl.specs.FirstRefusals.{in_range, table_is_true, first_refusal}
use Rattle.nibl.specs.Calls.{edited, list_from, after_immediate, needs_program, obey, take_line, continue_from, continue_run}
use Rattle.nibl.specs.Record.{stackless}
use Rattle.demands.specs.Lent.{OneOfThese, reply_numbers, Numbered}
use Rattle.demands.proofs.Runs.{every-run}
use Rattle.demands.proofs.Budget.{StopsWith, stopped, stop_numbers, does-stops, exec-stops}
use Rattle.demands.proofs.Effects.{widen, list-does}
use Rattle.demands.proofs.Ways.{Takes, refused, no_cr, overlong, unread, reads, every-line, Continues, refused', continues, every-continue}

-- past the first refusals: 2 and 3 are a typed line's, and these a run's or a statement's too
abbrev pub run_numbers : List ℕ
run_numbers = 0 ∷ 5 ∷ 6 ∷ 7 ∷ 8 ∷ 9 ∷ 10 ∷ 11 ∷ 12 ∷ 13 ∷ 14 ∷ 15 ∷ 16 ∷ 17 ∷ 20 ∷ 21 ∷ []

step-numbers : (d : Done) → StopsWith d → (l p cr : ℕ) (k : ℕ → World → Ran) → ((q : ℕ) (w : World) → OneOfThese run_numbers (k q w).stop)
    → OneOfThese run_numbers (stepped l (after_step d p cr k)).stop
step-numbers (done on w) s l p cr k f = f (suc p) w
step-numbers (done skip w) s l p cr k f = f (suc cr) w
step-numbers (done (go q) w) s l p cr k f = f q w
step-numbers (done (stop n) w) (stopped h) l p cr k f = widen stop_numbers run_numbers refl n h

pub run-numbers : (k : ℕ) (e : Env) (q : ℕ) (w : World) → OneOfThese run_numbers (run_from k e q w).stop
run-numbers k e q w =
    every-run e (λ k q w r. OneOfThese run_numbers r.stop) (λ k q w h. refl) (λ q w h. refl) (λ k q w a h. refl)
    (λ k q w x h i. step-numbers (exec (env_at e x.place) x.statement w) (exec-stops (env_at e x.place) x.statement w) 0 x.place x.cr (run_from k e) i) k q w

-- the first refusals, and 0 for none
abbrev pub first_numbers : List ℕ
first_numbers = 0 ∷ 1 ∷ 18 ∷ 26 ∷ 19 ∷ []

pub first-numbers : (lim : ℕ) (x : Lent) (n : ℕ) → first_refusal lim x ≡ n → OneOfThese first_numbers n
unfolding first_refusal
first-numbers lim x n h =
    subst (OneOfThese first_numbers) h (by (not (in_range x)) (not (is_good lim x.page)) (not (table_is_true x)) (not (fits x.page x.session))) where
      by : (a b c d : Bool) → OneOfThese first_numbers (if a then 1 else if b then 18 else if c then 26 else if d then 19 else 0)
      by true b c d = refl
      by false true c d = refl
      by false false true d = refl
      by false false false true = refl
      by false false false false = refl

-- how a read line ends: with no room, in need of a program, or with a number of a run
pub data Obeys (e : Env) (w : World) : Outcome → Type 0 where
  full : Obeys e w (stops 2 w e.page)
  unfit : Obeys e w (stops 3 w e.page)
  ends : {o : Outcome} → OneOfThese run_numbers o.answer.stop → Obeys e w o

edit-obeys : (e : Env) (w : World) (rs : List Stored) → Obeys e w (edited e.page w rs)
unfolding edited
edit-obeys e w rs = by (leb (length (program_bytes rs)) (length e.page)) where
  by : (b : Bool) → Obeys e w (if b then stops 0 (with_session w (stackless w.session)) (onto e.page rs) else stops 2 w e.page)
  by true = ends refl
  by false = full

pub immediate-numbers : (k : ℕ) (e : Env) (d : Done) → StopsWith d → OneOfThese run_numbers (after_immediate k e d).answer.stop
immediate-numbers k e (done on w) s = refl
immediate-numbers k e (done skip w) s = refl
immediate-numbers k e (done (go q) w) s = run-numbers k e q w
immediate-numbers k e (done (stop n) w) (stopped h) = widen stop_numbers run_numbers refl n h

pub obey-obeys : (k : ℕ) (e : Env) (w : World) (t : Typed) → Obeys e w (obey k e w t)
unfolding obey
obey-obeys k e w blank = ends refl
obey-obeys k e w new = edit-obeys e w []
obey-obeys k e w clear = ends refl
obey-obeys k e w run = ends (run-numbers k e 0 _)
obey-obeys k e w (delete n) = by (has_line n (records_of e.page)) where
  by : (b : Bool) → Obeys e w (elim b [ true ↦ edited e.page w (without n (records_of e.page)) | false ↦ stops 0 w e.page ])
  by true = edit-obeys e w (without n (records_of e.page))
  by false = ends refl
obey-obeys k e w (list n) = ends (immediate-numbers k e (list_from n (records_of e.page) w) (does-stops (list-does e [] n (records_of e.page) w)))
obey-obeys k e w (store n t ms) = edit-obeys e w (with (record { line = n; text = t }) (records_of e.page))
obey-obeys k e w (immediate q) = by (needs_program q) where
  by : (b : Bool) → Obeys e w (elim b [ true ↦ stops 3 w e.page | false ↦ after_immediate k e (exec e q w) ])
  by true = unfit
  by false = ends (immediate-numbers k e (exec e q w) (exec-stops e q w))

obey-numbers : {e : Env} {w : World} {o : Outcome} → Obeys e w o → Numbered o
obey-numbers full = refl
obey-numbers unfit = refl
obey-numbers (ends {o = o} h) = widen run_numbers reply_numbers refl o.answer.stop h

take-numbers : {lim : ℕ} {x : Lent} {o : Outcome} → Takes lim x o → Numbered o
take-numbers {lim = lim} {x = x} (refused {n} h) = widen first_numbers reply_numbers refl (suc n) (first-numbers lim x (suc n) h)
take-numbers (no_cr z h) = refl
take-numbers (overlong g z h l) = refl
take-numbers (unread g h r) = refl
take-numbers {lim = lim} {x = x} (reads g t h r) = obey-numbers (obey-obeys x.call.budget (lent_env lim x) (begun x g.taken) t)

pub paused-numbers : (lim : ℕ) (x : Lent) (p : ℕ) → OneOfThese run_numbers (continue_from lim x p).answer.stop
paused-numbers lim x zero = refl
paused-numbers lim x (suc q) = run-numbers x.call.budget (lent_env lim x) q (begun x 0)

continue-numbers : {lim : ℕ} {x : Lent} {o : Outcome} → Continues lim x o → Numbered o
continue-numbers {lim = lim} {x = x} (refused' {n} h) = widen first_numbers reply_numbers refl (suc n) (first-numbers lim x (suc n) h)
continue-numbers {lim = lim} {x = x} (continues h) = widen run_numbers reply_numbers refl (continue_from lim x x.session.paused).answer.stop (paused-numbers lim x x.session.paused)

pub every-reply-is-numbered : (x : Lent) → Numbered (take_line x) × Numbered (continue_run x)
unfolding take_line continue_run
every-reply-is-numbered x = (take-numbers (every-line limit x), continue-numbers (every-continue limit x))
