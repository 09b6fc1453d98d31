-- "14 exactly when the budget is spent and a statement is left to run", at any budget. Assumes nothing.
use Prim.Native.Nat.{ℕ, ◌-◌, ◌≤◌}
use mathlib.Core.Path.{◌≡◌, refl, sym, ap, ◌∙◌}
use mathlib.Core.Bool.{true}
use mathlib.Core.Logic.{◌↔◌}
use native.Mathlib.Omega.{arith}
use lib.Dec.{eqb}
use borrow.Author.Tests.{eqb-true, eqb-false}
use Rattle.nibl.specs.Tree.{Typed, run, immediate}
use Rattle.nibl.specs.Typing.{Gathered}
use Rattle.nibl.specs.Readings.{LineReading}
use Rattle.nibl.specs.Meaning.{World, Env, Next, stop}
use Rattle.nibl.specs.Page.{is_good, places_of}
use Rattle.nibl.specs.Lent.{Lent, Outcome}
use Rattle.nibl.specs.Runs.{run_from}
use Rattle.nibl.specs.Typing.{limit}
use Rattle.nibl.specs.Lent.{lent_env}
use Rattle.nibl.specs.FirstRefusals.{first_refusal}
use Rattle.nibl.specs.Calls.{take_line, continue_run}
use Rattle.page.proofs.Walk.{by_cases}
use Rattle.page.specs.Standing.{Stands}
use Rattle.record.specs.Sound.{Sized}
use Rattle.demands.specs.Lent.{budgeted}
use Rattle.demands.specs.Sound.{Answered, by_line, by_run}
use Rattle.demands.specs.Starts.{Starts, by_run_command, by_statement, StartsTyped, typed, StartsPaused, ran_from}
use Rattle.demands.specs.Steps.{GoesTo, after_it, after_record, jumps, EndsCall, halts, runs_out, pauses, OneMore, StandsAt, begun, later, LeftToRun, NoStepMade, nothing_left, paused_at_once}
use Rattle.demands.proofs.Sound.{unrefused}
use Rattle.demands.proofs.LastStep.{Still, over, waits, unread, no_step}
use Rattle.demands.proofs.Line.{the-answers-line}
use Rattle.demands.proofs.Beginning.{a-run-begins, a-paused-run-goes-on, nothing-to-run-is-0, no-budget-pauses-at-once}
use Rattle.demands.proofs.Five.{exactly-5, continuing-never-answers-5}
use Rattle.demands.proofs.Reading.{past-fetched, next-fetches}
use Rattle.demands.proofs.Runs.{here-not-past}
use Rattle.demands.proofs.Stepping.{Begun, typed-begun, paused-begun, nothing-past, some_next}
use Rattle.demands.proofs.Steps.{the-last-statement, the-last-statement-of-continue}

-- a member goes to one position, or stops the run
goes-once : {p cr q q' : ℕ} {how : Next} → GoesTo p cr how q → GoesTo p cr how q' → q ≡ q'
goes-once after_it after_it = refl
goes-once after_record after_record = refl
goes-once jumps jumps = refl

pub goes_on : {p cr q n : ℕ} {how : Next} → GoesTo p cr how q → how ≡ stop n → ⊥
goes_on after_it e = let z : ◌≡◌ {A = ℕ} 0 1 = cc in omega arith
goes_on after_record e = let z : ◌≡◌ {A = ℕ} 0 1 = cc in omega arith
goes_on jumps e = let z : ◌≡◌ {A = ℕ} 0 1 = cc in omega arith

module _ (x : Lent) (From : ℕ → World → Type 0) (o' o : Outcome) where
  abbrev env : Env
  env = lent_env limit x

  abbrev budget : ℕ
  budget = x.call.budget

  abbrev Left : Type 0
  Left = LeftToRun From env budget o' o

  waiting : (q : ℕ) (w : World) → From q w → is_good limit x.page ≡ true → Stands (places_of x.page) q → o ≡ ran_from x q w → o.answer.steps ≡ 0 → o.answer.stop ≡ 14
      → (o.answer.steps ≡ budget) × Left
  waiting q w b good s e z i =
      by (no_step budget env q w (sym (ap (λ o. o.answer.steps) e) ∙ z)).still (sym (ap (λ o. o.answer.stop) e) ∙ i)
    where
      by : Still x.page budget q (run_from budget env q w) → (run_from budget env q w).stop ≡ 14 → (o.answer.steps ≡ budget) × Left
      by (over h n) c = absurd (omega arith)
      by (waits h n k at) c =
          some_next limit env (omega arith) good q s h (λ y j. (z ∙ sym k, record { at = q; waiting = y; stands = begun b z; next = j }))
      by (unread n) c = absurd (omega arith)

  paused-left : OneMore env budget o' o → o.answer.stop ≡ 14 → (o.answer.steps ≡ budget) × Left
  paused-left m i = by m.ends where
    by : EndsCall x.page m.last.place m.last.cr m.how m.after budget o → (o.answer.steps ≡ budget) × Left
    by (halts h n s) = absurd (n i)
    by (runs_out q g h n s) = absurd (omega arith)
    by (pauses q y g h n k s) = (k, record { at = q; waiting = y; stands = later m g; next = h })

  left-paused : ((q : ℕ) (w : World) → From q w → o ≡ ran_from x q w) → o.answer.steps ≡ budget → Left → o.answer.stop ≡ 14
  left-paused begins n l = by l.stands where
    by : StandsAt From env budget o' o l.at → o.answer.stop ≡ 14
    by (begun {w = w} b z) =
        ap (λ o. o.answer.stop) (begins l.at w b ∙ no-budget-pauses-at-once x l.at w (sym n ∙ z) (here-not-past (next-fetches l.next)))
    by (later m g) = end m.ends where
      end : EndsCall x.page m.last.place m.last.cr m.how m.after budget o → o.answer.stop ≡ 14
      end (halts h c s) = absurd (goes_on g h)
      end (runs_out q f h c s) =
          let same = goes-once f g in
          let i = next-fetches l.next in
          let j = past-fetched h in
          let z : ◌≡◌ {A = ℕ} 0 1 = cc in
          absurd (omega arith)
      end (pauses q a f h c k s) = c

  exactly : Answered limit x From o → ((q : ℕ) (w : World) → From q w → o ≡ ran_from x q w) → (1 ≤ o.answer.steps → OneMore env budget o' o)
      → (o.answer.stop ≡ 14) ↔ ((o.answer.steps ≡ budget) × Left)
  exactly a begins more = (λ i. by_cases (eqb o.answer.steps 0) (λ e. by a (eqb-true _ 0 e) i) (λ e. paused-left (more (omega (arith, eqb-false o.answer.steps 0 e))) i), λ i. left-paused begins i.0 i.1) where
    by : Answered limit x From o → o.answer.steps ≡ 0 → o.answer.stop ≡ 14 → (o.answer.steps ≡ budget) × Left
    by (by_line l s n) z i = absurd (n i)
    by (by_run q w b s h e c) z i = waiting q w b h.good s e z i

-- past the first refusals, a call answers 14 exactly when its steps are the budget and, where its run stands, a text follows
pub fourteen-exactly : (x : Lent) → Sized x.session → first_refusal limit x ≡ 0
    → ((take_line x).answer.stop ≡ 14)
    ↔ (((take_line x).answer.steps ≡ x.call.budget)
    × LeftToRun (StartsTyped limit x) (lent_env limit x) x.call.budget (take_line (budgeted ((take_line x).answer.steps - 1) x)) (take_line x))
fourteen-exactly x sized z =
    exactly x (StartsTyped limit x) (take_line (budgeted ((take_line x).answer.steps - 1) x)) (take_line x) (the-answers-line x (unrefused limit x sized z)).0
    (λ q w b. a-run-begins x b) (the-last-statement x sized)

pub fourteen-exactly-of-continue : (x : Lent) → Sized x.session → first_refusal limit x ≡ 0
    → ((continue_run x).answer.stop ≡ 14)
    ↔ (((continue_run x).answer.steps ≡ x.call.budget)
    × LeftToRun (StartsPaused limit x) (lent_env limit x) x.call.budget (continue_run (budgeted ((continue_run x).answer.steps - 1) x)) (continue_run x))
fourteen-exactly-of-continue x sized z =
    exactly x (StartsPaused limit x) (continue_run (budgeted ((continue_run x).answer.steps - 1) x)) (continue_run x) (the-answers-line x (unrefused limit x sized z)).1
    (λ q w b. a-paused-run-goes-on x b) (the-last-statement-of-continue x sized)

-- The first step of a run is missing only where nothing is left to run, or at a budget of 0
no-step-made : (x : Lent) (q : ℕ) (w : World) (o : Outcome) → Begun x q w → o ≡ ran_from x q w → o.answer.steps ≡ 0 → (o.answer.stop ≡ 5 → ⊥) → NoStepMade x.page x.call.budget q w o
no-step-made x q w o b e z five = by (no_step x.call.budget (lent_env limit x) q w (sym (ap (λ o. o.answer.steps) e) ∙ z)).still where
  by : Still x.page x.call.budget q (run_from x.call.budget (lent_env limit x) q w) → NoStepMade x.page x.call.budget q w o
  by (over h n) = nothing_left (nothing-past limit (lent_env limit x) (omega arith) b.good q b.stands h) (e ∙ nothing-to-run-is-0 x q w h)
  by (waits h n k at) = some_next limit (lent_env limit x) (omega arith) b.good q b.stands h (λ y j. paused_at_once y j k (e ∙ no-budget-pauses-at-once x q w k h))
  by (unread n) = absurd (five (ap (λ o. o.answer.stop) e ∙ n))

pub a-run-of-no-steps : (x : Lent) → Sized x.session → {q : ℕ} {w : World} → StartsTyped limit x q w → (take_line x).answer.steps ≡ 0
    → NoStepMade x.page x.call.budget q w (take_line x)
a-run-of-no-steps x sized {q = q} {w = w} b z = no-step-made x q w (take_line x) (typed-begun x sized b) (a-run-begins x b) z (five b) where
  read : {g : Gathered} {q : ℕ} {w : World} → Starts limit x g q w → ((y : Typed) → LineReading g.line.bytes y → ⊥) → ⊥
  read (by_run_command r) f = f run r
  read (by_statement s r n e) f = f (immediate s) r

  five : {q : ℕ} {w : World} → StartsTyped limit x q w → (take_line x).answer.stop ≡ 5 → ⊥
  five (typed g h b) c = read b ((exactly-5 x g sized h.sound h.line h.short).0 c)

pub a-continued-run-of-no-steps : (x : Lent) → Sized x.session → {q : ℕ} {w : World} → StartsPaused limit x q w → (continue_run x).answer.steps ≡ 0
    → NoStepMade x.page x.call.budget q w (continue_run x)
a-continued-run-of-no-steps x sized {q = q} {w = w} b z = no-step-made x q w (continue_run x) (paused-begun x sized b) (a-paused-run-goes-on x b) z (continuing-never-answers-5 x sized)
