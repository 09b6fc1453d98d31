-- "14 exactly when the budget is spent and a statement is left to run"; "past the last line it is 0 at any budget". Assumes nothing.
use Prim.Native.Nat.{ℕ, suc, ◌≤◌}
use mathlib.Core.Path.{◌≡◌, refl, sym, ap, ◌∙◌}
use mathlib.Core.Bool.{Bool, true, false, false≢true}
use mathlib.Core.List.{List, ◌++◌}
use mathlib.Core.Logic.{◌↔◌}
use mathlib.Core.Option.{Option, none, some}
use native.Mathlib.Numerals.{add-one}
use native.Mathlib.Omega.{arith}
use lib.ListN.{length, length-append}
use lib.Dec.{eqb}
use borrow.Author.Tests.{eqb-true, eq-eqb}
use Rattle.nibl.specs.Tree.{Typed}
use Rattle.nibl.specs.found.Read.{typed}
use Rattle.nibl.specs.found.Column.{column_of}
use Rattle.nibl.specs.Typing.{Gathered}
use Rattle.nibl.specs.Page.{places_of}
use Rattle.nibl.specs.Meaning.{World, Env}
use Rattle.nibl.specs.Lent.{Lent, Outcome, refused_line}
use Rattle.nibl.specs.Runs.{Ran, ran, Standing, here, fetch, run_from}
use Rattle.nibl.specs.Typing.{limit}
use Rattle.nibl.specs.Lent.{begun, lent_env}
use Rattle.nibl.specs.FirstRefusals.{first_refusal}
use Rattle.nibl.specs.Calls.{obey_read, obey_line, take_line, take_line_in, continue_run, continue_run_in}
use Rattle.page.proofs.Walk.{by_cases}
use Rattle.page.specs.Standing.{Stands}
use Rattle.record.specs.Sound.{Sized, Sound}
use Rattle.record.proofs.Fitted.{sound-fit, fit-sound}
use Rattle.demands.specs.Lent.{budgeted, gathered_line, Typing}
use Rattle.demands.specs.Reading.{PastTheLast}
use Rattle.demands.proofs.Reading.{past-fetched}
use Rattle.demands.proofs.Runs.{run_past, run-suc}
use Rattle.demands.proofs.Budget.{went_on_with, split-run, steps-within}
use Rattle.demands.proofs.Running.{Goings, runs_out, pauses, steps, run-goes}
use Rattle.demands.proofs.Running.{stops as halts}
use Rattle.demands.proofs.Obeys.{Obeyed, stands, edits, runs, read-ways, continue-ways}
use Rattle.demands.proofs.Accepted.{accepted-less, take_at, continue-at}
use Rattle.demands.proofs.Sound.{unrefused}

pub past-the-last-line : (e : Env) (q : ℕ) (w : World) → PastTheLast e.page q → (k : ℕ) → run_from k e q w ≡ ran 0 q w
past-the-last-line e q w h k = run_past k e q w (past-fetched h)

-- where a run paused: the budget is spent, and a member follows
record Pause (page : List ℕ) (k : ℕ) (r : Ran) : Type 0 where
  spent : length r.lines ≡ k
  waiting : Standing
  fetches : fetch page r.at ≡ here waiting

goings-pause : {page : List ℕ} {k : ℕ} {r : Ran} → Goings page k r → r.stop ≡ 14 → Pause page k r
goings-pause (runs_out h f) e = absurd (omega arith)
goings-pause (pauses {x = x} h s f) e = record { spent = refl; waiting = x; fetches = h }
goings-pause (halts h m f) e = absurd (false≢true (rw e at m))
goings-pause (steps p h g) e = let s = goings-pause g e in record { spent = ap suc s.spent; waiting = s.waiting; fetches = s.fetches }

-- Exactly: with one step more in the budget there is one step more
abbrev pub Exactly : ℕ → ℕ → ℕ → ℕ → Type 0
Exactly stop k spent more = (stop ≡ 14) ↔ ((spent ≡ k) × (more ≡ suc k))

module _ (lim : ℕ) (e : Env) (short : lim ≤ 251) (q : ℕ) (w : World) (h : Sound lim e.page w.session) (s : Stands (places_of e.page) q) where
  paused-where : (k : ℕ) → (run_from k e q w).stop ≡ 14 → Pause e.page k (run_from k e q w)
  paused-where k i = goings-pause (run-goes lim e short h.good k q w s (sound-fit h)) i

  -- that member gives one step
  one-step : (r : Ran) (x : Standing) → fetch e.page r.at ≡ here x → 1 ≤ length (run_from 1 e r.at r.world).lines
  one-step r x i = rw (run-suc 0 e r.at r.world x i) (omega arith)

  more-steps : (k : ℕ) → (run_from k e q w).stop ≡ 14 → length (run_from (suc k) e q w).lines ≡ suc k
  more-steps k i =
      let r : Ran = run_from k e q w in
      let p = paused-where k i in
      let t : Ran = run_from 1 e r.at r.world in
      let one : 1 ≤ length t.lines = one-step r p.waiting p.fetches in
      let whole : (run_from (suc k) e q w).lines ≡ r.lines ++ t.lines =
      ap (λ (n : ℕ). (run_from n e q w).lines) (sym (add-one k)) ∙ ap (λ (y : Ran). y.lines) (split-run k 1 e q w) ∙ rw (eq-eqb r.stop 14 i) in
      omega (arith, ap length whole, length-append r.lines t.lines, steps-within (suc k) e q w)

  no_more : (k : ℕ) → eqb (run_from k e q w).stop 14 ≡ false → length (run_from (suc k) e q w).lines ≤ k
  no_more k i =
      let same : run_from (suc k) e q w ≡ run_from k e q w = ap (λ (n : ℕ). run_from n e q w) (sym (add-one k)) ∙ split-run k 1 e q w ∙ rw (i, went_on_with) in
      omega (arith, ap (λ (y : Ran). length y.lines) same, steps-within k e q w)

  pub run-pauses-exactly : (k : ℕ) → Exactly (run_from k e q w).stop k (length (run_from k e q w).lines) (length (run_from (suc k) e q w).lines)
  run-pauses-exactly k = (
    λ i. ((paused-where k i).spent, more-steps k i),
    λ i. by_cases (eqb (run_from k e q w).stop 14) (λ j. eqb-true _ 14 j) (λ j. let l = no_more k j in absurd (omega arith)),
  )

-- Of the calls. A stop without a step is none
no-pause : (stop k : ℕ) → (stop ≡ 14 → ⊥) → Exactly stop k 0 0
no-pause stop k n = (λ i. absurd (n i), λ i. absurd (omega arith))

abbrev pub Pausing : ℕ → (ℕ → Outcome) → Type 0
Pausing k o = Exactly (o k).answer.stop k (o k).answer.steps (o (suc k)).answer.steps

module _ (lim : ℕ) (short : lim ≤ 251) (x : Lent) (h : Sound lim x.page x.session) (k : ℕ) where
  obeyed-pauses : {v : World} {From : ℕ → World → Type 0} {o : ℕ → Outcome} → Obeyed lim (lent_env lim x) v From o → Pausing k o
  obeyed-pauses (stands {n = n} i f) = no-pause n k (λ e. false≢true (rw e at i))
  obeyed-pauses (edits p n f) = no-pause 0 k (λ e. omega arith)
  obeyed-pauses (runs q w s f i j b) = run-pauses-exactly lim (lent_env lim x) short q w (fit-sound lim h.good f) s k

  read-pauses : (g : Gathered) → Typing lim x g → (t : Option Typed) → typed g.line.bytes ≡ t
      → Pausing k (λ n. obey_read n (lent_env lim x) (begun x g.taken) (column_of g.line.bytes) t)
  read-pauses g y none e = no-pause 5 k (λ e. omega arith)
  read-pauses g y (some t) e = obeyed-pauses (read-ways lim x short h.good (sound-fit h) g t y e)

  line-pauses : first_refusal lim x ≡ 0 → (g : Option Gathered) → gathered_line lim x ≡ g → Pausing k (λ n. obey_line lim (budgeted n x) g)
  line-pauses z none e = no-pause 7 k (λ e. omega arith)
  line-pauses z (some g) e = by g.line.long refl where
    by : (b : Bool) → g.line.long ≡ b
        → Pausing k (λ n. elim b [
          | true ↦ refused_line lim (begun x g.taken) x.page
          | false ↦ obey_read n (lent_env lim x) (begun x g.taken) (column_of g.line.bytes) (typed g.line.bytes)
        ])
    by true l = no-pause 5 k (λ e. omega arith)
    by false l = read-pauses g (record { sound = z; line = e; short = l }) (typed g.line.bytes) refl

module _ (lim : ℕ) (short : lim ≤ 251) (x : Lent) (sized : Sized x.session) (k : ℕ) (z : first_refusal lim (budgeted (suc k) x) ≡ 0) where
  pub pauses-within : Pausing k (λ n. take_line_in lim (budgeted n x)) × Pausing k (λ n. continue_run_in lim (budgeted n x))
  pauses-within =
      let y = accepted-less lim x k (suc k) (omega arith) z in
      let h = unrefused lim (budgeted k x) sized y in (
        rw (take_at lim (budgeted k x) y, take_at lim (budgeted (suc k) x) z) (line-pauses lim short (budgeted k x) h k y (gathered_line lim x) refl),
        rw (continue-at lim (budgeted k x) y, continue-at lim (budgeted (suc k) x) z) (obeyed-pauses lim short (budgeted k x) h k (continue-ways lim (budgeted k x) short h.good (sound-fit h) y)),
      )

-- a call answers 14 exactly when its steps are the budget, and with one more in the budget they would be one more
pub paused-exactly : (x : Lent) (k : ℕ) → Sized x.session → first_refusal limit (budgeted (suc k) x) ≡ 0
    → Pausing k (λ n. take_line (budgeted n x)) × Pausing k (λ n. continue_run (budgeted n x))
unfolding take_line continue_run
paused-exactly x k s z = pauses-within limit (omega arith) x s k z
