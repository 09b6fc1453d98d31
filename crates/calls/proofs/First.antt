-- The two calls by their first refusal, and a paused run by its pause. Assumes nothing.
use Rattle.std.specs.Prelude.{if◌then◌else◌}
use Rattle.std.specs.Prelude.{Option, Ok, Err}
use Rattle.nibl.specs.declared.Onward.{Onward}
use Prim.Native.Nat.{ℕ, zero, suc, ◌+◌}
use mathlib.Core.Path.{◌≡◌, refl, sym, ap, ◌∙◌}
use mathlib.Core.Bool.{Bool, true, false, not}
use native.Mathlib.Omega.{arith}
use lib.ListN.{length, drop, replicate}
use lib.Dec.{leb}
use borrow.Author.Tests.{leb-true}
use Rattle.nibl.specs.Typing.{gather}
use Rattle.nibl.specs.Page.{is_good, places_of, fits, fits_paused}
use Rattle.nibl.specs.Record.{nowhere, paused_at, pause_number, unpaused}
use Rattle.nibl.specs.Meaning.{World}
use Rattle.nibl.specs.Lent.{Lent, Outcome, stops}
use Rattle.nibl.specs.Runs.{run_from, run_outcome}
use Rattle.nibl.specs.Typing.{limit}
use Rattle.nibl.specs.Lent.{lent_world, lent_env, begun}
use Rattle.nibl.specs.FirstRefusals.{page_in_range, memory_in_range, input_in_range, output_in_range, position_in_range, budget_in_range, in_range, table_in_range, table_is_true, first_refusal}
use Rattle.nibl.specs.Calls.{obey_line, take_line_in, take_line, continue_from, continue_run_in, continue_run}
use Rattle.nibl.specs.declared.Session.{Session}
use Rattle.page.proofs.Program.{both}
use Rattle.record.specs.Sound.{Sized}
use Rattle.record.proofs.Fitted.{sound-fit, fit-paused}
use Rattle.outcome.specs.Ends.{world_at}
use Rattle.outcome.specs.Lends.{Lists, Accepted}
use Rattle.nibl.specs.declared.stop.Stop.{Stop}
use Rattle.calls.specs.Past.{refusal_of}
use Rattle.calls.specs.Tables.{TableLent}
use Rattle.calls.proofs.Tables.{table-lent}

-- the lists that both calls make
pub lists : Lists (replicate limit 0) (replicate limit 0) (replicate 256 0) (replicate 256 0)
lists = record { short = omega arith; room = omega arith; stack = omega arith; reply_ops = omega arith; reply_values = omega arith }

-- past the first refusals
in-range : (x : Lent) → in_range x ≡ true → (leb (length x.page) 4096 ≡ true) × (leb x.call.budget 65535 ≡ true) × (table_in_range x.call (length x.table) ≡ true)
in-range x h =
    let p = both (page_in_range (length x.page)) _ h in
    let a = both (leb 2 (length x.page)) _ p.0 in
    let c = both (memory_in_range (length x.memory)) _ p.1 in
    let d = both (input_in_range (length x.input)) _ c.1 in
    let e = both (output_in_range (length x.output)) _ d.1 in
    let f = both (position_in_range x.call.inpos (length x.input)) _ e.1 in
    let g = both (position_in_range x.call.outpos (length x.output)) _ f.1 in
    let k = both (budget_in_range x.call.budget) _ g.1 in
    (a.1, k.0, k.1)

pub accepted : {lim : ℕ} (x : Lent) → first_refusal lim x ≡ 0 → Sized x.session
    → (Accepted lim x.page x.call.budget (unpaused x.session) × (fits_paused (places_of x.page) x.session.paused ≡ true)) × TableLent x.page x.call x.table
unfolding first_refusal
accepted {lim} x h z = by (in_range x) refl (is_good lim x.page) refl (table_is_true x) refl (fits x.page x.session) refl h where
  by : (a : Bool) → in_range x ≡ a → (b : Bool) → is_good lim x.page ≡ b → (d : Bool) → table_is_true x ≡ d → (c : Bool) → fits x.page x.session ≡ c
      → ◌≡◌ {A = ℕ} (if not a then 1 else if not b then 18 else if not d then 26 else if not c then 19 else 0) 0
      → (Accepted lim x.page x.call.budget (unpaused x.session) × (fits_paused (places_of x.page) x.session.paused ≡ true)) × TableLent x.page x.call x.table
  by true p true q true t true r e =
      let f = sound-fit {lim = lim} (record { good = q; fitting = r; sized = z }) in
      let i = in-range x p in
      let s = leb-true _ _ i.0 in
      ((record { short = s; good = q; fits = fit-paused f nowhere refl; idle = refl; steps = leb-true _ _ i.1 }, f.paused), table-lent lim s q i.2 t)
  by false p b q d t c r e = absurd (omega arith)
  by true p false q d t c r e = absurd (omega arith)
  by true p true q false t c r e = absurd (omega arith)
  by true p true q true t false r e = absurd (omega arith)

-- what a call does, where its first refusal is n and o is what it does past them
abbrev outcome_by : Lent → Outcome → ℕ → Outcome
outcome_by x o n = elim n [ zero ↦ o | suc k ↦ stops (suc k) (lent_world x) x.page ]

refused : (x : Lent) (o : Outcome) (n : ℕ) → (n ≡ 0 → ⊥) → stops n (lent_world x) x.page ≡ outcome_by x o n
refused x o zero h = absurd (h refl)
refused x o (suc n) h = refl

module _ (x : Lent) {n : ℕ} (e : n ≡ first_refusal limit x) where
  pub take-refused : (n ≡ 0 → ⊥) → stops n (lent_world x) x.page ≡ take_line x
  unfolding take_line take_line_in
  take-refused h = refused x _ n h ∙ ap (outcome_by x _) e

  pub take_on : n ≡ 0 → obey_line limit x (gather limit (drop x.call.inpos x.input)) ≡ take_line x
  unfolding take_line take_line_in
  take_on h = ap (outcome_by x _) (sym h ∙ e)

  pub continue-refused : (n ≡ 0 → ⊥) → stops n (lent_world x) x.page ≡ continue_run x
  unfolding continue_run continue_run_in
  continue-refused h = refused x _ n h ∙ ap (outcome_by x _) e

  pub continue-on : n ≡ 0 → continue_from limit x x.session.paused ≡ continue_run x
  unfolding continue_run continue_run_in
  continue-on h = ap (outcome_by x _) (sym h ∙ e)

-- what the answer of the first refusals says
pub refusal-err : (n : ℕ) {s : Stop} → Err s ≡ refusal_of n → (s.0 ≡ n) × (s.0 ≡ 0 → ⊥)
refusal-err zero h = let z : ◌≡◌ {A = ℕ} 0 1 = cc in absurd (omega arith)
refusal-err (suc n) {s} h = let e : s.0 ≡ suc n = cc in (e, λ z. omega arith)

pub refusal-ok : (n : ℕ) → Ok tt ≡ refusal_of n → n ≡ 0
refusal-ok zero h = refl
refusal-ok (suc n) h = let z : ◌≡◌ {A = ℕ} 0 1 = cc in absurd (omega arith)

-- a pause that is known
pub pause-is : {r k : (Option Onward)} {n : ℕ} → pause_number r ≡ n → r ≡ k → n ≡ pause_number k
pause-is e f = sym e ∙ ap pause_number f

-- a call that takes no line begins where it was lent, with the record s
module _ (lim : ℕ) (x : Lent) {s : Session} (e : s ≡ unpaused x.session) where
  abbrev resumed : World
  resumed = world_at s x.memory x.output x.call.inpos x.call.outpos

  begins : resumed ≡ begun x 0
  begins =
      let z : x.call.inpos ≡ x.call.inpos + 0 = omega arith in
      ap (λ (t : Session). world_at t x.memory x.output x.call.inpos x.call.outpos) e
      ∙ ap (λ (i : ℕ). world_at (unpaused x.session) x.memory x.output i x.call.outpos) z

  pub nothing-goes-on : {n : ℕ} → n ≡ nowhere → stops 0 resumed x.page ≡ continue_from lim x n
  nothing-goes-on h = ap (λ (w : World). stops 0 w x.page) begins ∙ ap (continue_from lim x) (sym h)

  pub goes_on : {n q : ℕ} → n ≡ paused_at q → run_outcome (run_from x.call.budget (lent_env lim x) q resumed) x.page ≡ continue_from lim x n
  goes_on {q = q} h = ap (λ (w : World). run_outcome (run_from x.call.budget (lent_env lim x) q w) x.page) begins ∙ ap (continue_from lim x) (sym h)
