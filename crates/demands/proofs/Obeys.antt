-- The ways in which a read line and a continued run end, whatever the budget, on a good page with a fitting record. Assumes nothing.
use Prim.Native.Nat.{ℕ, zero, suc, ◌+◌, ◌≤◌}
use mathlib.Core.Path.{◌≡◌, refl, ap, ◌∙◌}
use mathlib.Core.Bool.{Bool, true, false}
use mathlib.Core.List.{List, [], ◌∷◌}
use mathlib.Core.Option.{some}
use native.Mathlib.Omega.{arith}
use lib.ListN.{length, drop}
use lib.Dec.{leb}
use Rattle.nibl.specs.Tree.{Stmt, Member, Typed, blank, new, clear, run, delete, list, store, immediate}
use Rattle.nibl.specs.found.Read.{typed}
use Rattle.nibl.specs.Typing.{Gathered}
use Rattle.nibl.specs.Page.{Stored, is_among, is_good, fits_paused, places_of, records_of, has_line, without, with, program_bytes, onto}
use Rattle.nibl.specs.Meaning.{World, Env, Done, done, on, skip, go, stop, with_session, exec}
use Rattle.nibl.specs.Lent.{Lent, Outcome, stops}
use Rattle.nibl.specs.Runs.{run_from, run_outcome}
use Rattle.nibl.specs.Lent.{begun, lent_env}
use Rattle.nibl.specs.FirstRefusals.{first_refusal}
use Rattle.nibl.specs.Calls.{edited, list_from, after_immediate, needs_program, obey, continue_from}
use Rattle.nibl.specs.Record.{nowhere, stackless, cleared}
use Rattle.nibl.proofs.Words.{if-split}
use Rattle.nibl.proofs.Lines.{typed-sound}
use Rattle.letter.proofs.Typed.{taken}
use Rattle.page.proofs.Program.{Program, none as no_record}
use Rattle.page.proofs.Changes.{with-program, without-program}
use Rattle.page.specs.Standing.{Stands}
use Rattle.page.proofs.Laid.{good-laid, laid-program}
use Rattle.record.specs.Fit.{Fit, Goes, to_next, to_record, to_place, to_end}
use Rattle.record.proofs.Fitted.{fit-vars, fit-paused, fit-cleared}
use Rattle.demands.specs.Leaves.{world_cleared, world_after}
use Rattle.demands.specs.Lent.{budgeted, Typing}
use Rattle.demands.specs.Starts.{by_run_command, by_statement, StartsTyped, typed as typed_at, StartsPaused, paused}
use Rattle.demands.proofs.Effects.{widen, exec-does, list-does}
use Rattle.demands.proofs.Budget.{StopsWith, stopped, stop_numbers}
use Rattle.demands.proofs.Storing.{stored-storable}
use Rattle.demands.proofs.Accepted.{accepted-of}
use Rattle.demands.proofs.Held.{Steady, same-lengths, does-steady}
use Rattle.demands.proofs.Carried.{Placed, gathered-inside, other-record, does-placed}
use Rattle.demands.proofs.Running.{LeavesFit, statement-left, list_left, list-stays}

-- what a read line answers where nothing runs
abbrev pub line_numbers : List ℕ
line_numbers = 2 ∷ 3 ∷ stop_numbers

-- v is the world that the line begins in, and From says where it begins a run
pub data Obeyed (lim : ℕ) (e : Env) (v : World) (From : ℕ → World → Type 0) : (ℕ → Outcome) → Type 0 where
  -- a stop with no run
  stands : {n : ℕ} {w : World} → is_among line_numbers n ≡ true → Fit (places_of e.page) w.session → Obeyed lim e v From (λ k. stops n w e.page)
  -- the page with other records
  edits : {w : World} {rs : List Stored} → Program lim 0 rs → w.session.paused ≡ nowhere → Fit (places_of e.page) w.session
      → Obeyed lim e v From (λ k. stops 0 (with_session w (stackless w.session)) (onto e.page rs))
  -- a run within the budget
  runs : (q : ℕ) (w : World) → Stands (places_of e.page) q → Fit (places_of e.page) w.session → Placed e.input w → Steady v w → From q w
      → Obeyed lim e v From (λ k. run_outcome (run_from k e q w) e.page)

module _ (lim : ℕ) (e : Env) (v : World) (From : ℕ → World → Type 0) where
  edit-ways : (w : World) (rs : List Stored) → w.session.paused ≡ nowhere → Fit (places_of e.page) w.session → Program lim 0 rs → Obeyed lim e v From (λ k. edited e.page w rs)
  unfolding edited
  edit-ways w rs n f p =
      if-split (λ (o : Outcome). Obeyed lim e v From (λ k. o)) (leb (length (program_bytes rs)) (length e.page)) (λ h. edits p n f) (λ h. stands refl f)

  left-ways : (d : Done) → LeavesFit (places_of e.page) d → Placed e.input (world_after d) → Steady v (world_after d) → ((q : ℕ) (w : World) → d ≡ done (go q) w → From q w)
      → Obeyed lim e v From (λ k. after_immediate k e d)
  left-ways d l i j b = by d l.goes l.stops i j b where
    by : (d : Done) → Goes (places_of e.page) d → StopsWith d → Placed e.input (world_after d) → Steady v (world_after d)
        → ((q : ℕ) (w : World) → d ≡ done (go q) w → From q w) → Obeyed lim e v From (λ k. after_immediate k e d)
    by (done on w) (to_next f) s i j b = stands refl f
    by (done skip w) (to_record f) s i j b = stands refl f
    by (done (go q) w) (to_place h f) s i j b = runs q w h f i j (b q w refl)
    by (done (stop n) w) (to_end f) (stopped h) i j b = stands (widen stop_numbers line_numbers refl n h) f

module _ (lim : ℕ) (x : Lent) (short : lim ≤ 251) (good : is_good lim x.page ≡ true) (fit : Fit (places_of x.page) x.session) where
  abbrev env : Env
  env = lent_env lim x

  program : Program lim 0 (records_of x.page)
  program = laid-program (good-laid lim x.page short good)

  pub begun-fit : (n : ℕ) → Fit (places_of x.page) (begun x n).session
  begun-fit n = fit-paused fit nowhere refl

  cleared-all : (n : ℕ) → Fit (places_of x.page) (cleared (begun x n).session)
  cleared-all n = fit-vars (fit-cleared (begun-fit n) (places_of x.page) refl) _ refl

  carried : {w : World} (n : ℕ) → Steady (begun x n) w → Steady (begun x 0) w
  carried n l = record { lengths = record { memory = l.lengths.memory; output = l.lengths.output }; paused = l.paused }

  begun-placed : (n : ℕ) → first_refusal lim x ≡ 0 → x.call.inpos + n ≤ length x.input → Placed x.input (begun x n)
  begun-placed n z h = record { inside = h; room = (accepted-of lim x z).range.outpos }

  -- a line that was read, if what it stores may be stored
  abbrev Storing : Typed → Type 0
  Storing t = (l : ℕ) (s : List ℕ) (ms : List Member) → t ≡ store l s ms → Program lim 0 (with (record { line = l; text = s }) (records_of x.page))

  -- where it begins a run
  record Beginning (From : ℕ → World → Type 0) (n : ℕ) (t : Typed) : Type 0 where
    by_run : t ≡ run → From 0 (world_cleared x n)
    by_some : (s : Stmt) (q : ℕ) (w : World) → t ≡ immediate s → needs_program s ≡ false → exec env s (begun x n) ≡ done (go q) w → From q w

  obey-ways : (From : ℕ → World → Type 0) (n : ℕ) (t : Typed) → Storing t → Placed x.input (begun x n) → Beginning From n t → Obeyed lim env (begun x 0) From (λ k. obey k env (begun x n) t)
  unfolding obey
  obey-ways From n blank p i b = stands refl (begun-fit n)
  obey-ways From n new p i b = edit-ways lim env (begun x 0) From (begun x n) [] refl (begun-fit n) no_record
  obey-ways From n clear p i b = stands refl (cleared-all n)
  obey-ways From n run p i b = runs 0 _ refl (cleared-all n) (other-record x.input (cleared (begun x n).session) i) (carried n (record { lengths = record { memory = refl; output = refl }; paused = refl })) (b.by_run refl)
  obey-ways From n (delete l) p i b = by (has_line l (records_of x.page)) where
    by : (b : Bool) → Obeyed lim env (begun x 0) From (λ k. elim b [ true ↦ edited x.page (begun x n) (without l (records_of x.page)) | false ↦ stops 0 (begun x n) x.page ])
    by true = edit-ways lim env (begun x 0) From (begun x n) (without l (records_of x.page)) refl (begun-fit n) (without-program l program)
    by false = stands refl (begun-fit n)
  obey-ways From n (list l) p i b =
      left-ways lim env (begun x 0) From (list_from l (records_of x.page) (begun x n)) (list_left env l (records_of x.page) (begun x n) (begun-fit n))
      (does-placed x.input refl (list-does env [] l (records_of x.page) (begun x n)) i) (carried n (does-steady (list-does env [] l (records_of x.page) (begun x n))))
      (λ q w e. absurd (list-stays l (records_of x.page) (begun x n) q w e))
  obey-ways From n (store l s ms) p i b = edit-ways lim env (begun x 0) From (begun x n) _ refl (begun-fit n) (p l s ms refl)
  obey-ways From n (immediate q) p i c = by (needs_program q) refl where
    by : (b : Bool) → needs_program q ≡ b → Obeyed lim env (begun x 0) From (λ k. elim b [ true ↦ stops 3 (begun x n) x.page | false ↦ after_immediate k env (exec env q (begun x n)) ])
    by true h = stands refl (begun-fit n)
    by false h = left-ways lim env (begun x 0) From (exec env q (begun x n)) (statement-left lim env short good q (begun x n) refl h (begun-fit n))
        (does-placed x.input refl (exec-does env q (begun x n)) i) (carried n (does-steady (exec-does env q (begun x n)))) (λ p w e. c.by_some q p w refl h e)

  pub read-ways : (g : Gathered) (t : Typed) → Typing lim x g → typed g.line.bytes ≡ some t → Obeyed lim env (begun x 0) (StartsTyped lim x) (λ k. obey k env (begun x g.taken) t)
  read-ways g t y r =
      obey-ways (StartsTyped lim x) g.taken t by
      (begun-placed g.taken y.sound (gathered-inside lim x.input x.call.inpos g (accepted-of lim x y.sound).range.inpos y.line)) begins
    where
      begins : Beginning (StartsTyped lim x) g.taken t
      begins =
          record {
            by_run = λ e. typed_at g y (by_run_command (typed-sound g.line.bytes run (r ∙ ap some e)));
            by_some = λ s q w e n d. typed_at g y (by_statement s (typed-sound g.line.bytes (immediate s) (r ∙ ap some e)) n d);
          }

      by : Storing t
      by l s ms e =
          let h : length g.line.bytes ≤ lim = (taken lim (drop x.call.inpos x.input) g y.line).fine.fits in
          with-program (record { line = l; text = s }) (stored-storable lim short (typed-sound g.line.bytes (store l s ms) (r ∙ ap some e)) h) (omega arith) program

  pub continue-ways : first_refusal lim x ≡ 0 → Obeyed lim env (begun x 0) (StartsPaused lim x) (λ k. continue_from lim (budgeted k x) x.session.paused)
  continue-ways z = by x.session.paused refl fit.paused where
    r : x.call.inpos + 0 ≤ length x.input
    r = omega (arith, (accepted-of lim x z).range.inpos)

    by : (p : ℕ) → x.session.paused ≡ p → fits_paused (places_of x.page) p ≡ true → Obeyed lim env (begun x 0) (StartsPaused lim x) (λ k. continue_from lim (budgeted k x) p)
    by zero e h = stands refl (begun-fit 0)
    by (suc q) e h = runs q (begun x 0) h (begun-fit 0) (begun-placed 0 z r) (record { lengths = same-lengths; paused = refl }) (paused z e)
