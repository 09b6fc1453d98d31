-- Where a run begins: "RUN does CLEAR and starts at the first line", an immediate statement goes where it goes, and continue goes on where a run was
-- paused. Assumes nothing.
use Prim.Native.Nat.{ℕ}
use mathlib.Core.Path.{◌≡◌, refl, ap, ◌∙◌}
use Rattle.nibl.specs.Tree.{run, immediate}
use Rattle.nibl.specs.Typing.{Gathered}
use Rattle.nibl.specs.Meaning.{World, with_session}
use Rattle.nibl.specs.Lent.{Lent, stops}
use Rattle.nibl.specs.Runs.{Ran, past, fetch, run_from, run_outcome}
use Rattle.nibl.specs.Typing.{limit}
use Rattle.nibl.specs.Lent.{lent_env}
use Rattle.nibl.specs.FirstRefusals.{first_refusal}
use Rattle.nibl.specs.Calls.{after_immediate, obey, take_line, continue_from, continue_run, leaves}
use Rattle.nibl.specs.Record.{nowhere, paused_at, with_paused}
use Rattle.nibl.proofs.Whole.{typed-complete}
use Rattle.demands.specs.Lent.{Typing}
use Rattle.demands.specs.Leaves.{line_taken}
use Rattle.demands.specs.Starts.{Starts, by_run_command, by_statement, StartsTyped, typed, StartsPaused, paused, ran_from}
use Rattle.demands.proofs.Runs.{run_past, run-zero}
use Rattle.demands.proofs.Accepted.{continue-at}
use Rattle.demands.proofs.Tables.{left-kept}
use Rattle.demands.proofs.Retyping.{line_read}

module _ (x : Lent) where
  pub a-typed-run-begins : (g : Gathered) → Typing limit x g → {q : ℕ} {w : World} → Starts limit x g q w → take_line x ≡ ran_from x q w
  unfolding obey
  a-typed-run-begins g h (by_run_command r) = line_read x g run h (typed-complete r)
  a-typed-run-begins g h (by_statement s r n e) =
      line_read x g (immediate s) h (typed-complete r) ∙ rw (n, obey) (ap (after_immediate x.call.budget (lent_env limit x)) e)

  pub a-run-begins : {q : ℕ} {w : World} → StartsTyped limit x q w → take_line x ≡ ran_from x q w
  a-run-begins (typed g h b) = a-typed-run-begins g h b

  -- "Continue with nothing paused answers 0 with 0 steps"
  pub nothing-paused-is-0 : first_refusal limit x ≡ 0 → x.session.paused ≡ nowhere → leaves continue_run x ≡ line_taken x 0 0
  unfolding continue_run
  nothing-paused-is-0 z h = left-kept continue_run x (line_taken x 0 0).outcome (continue-at limit x z ∙ ap (continue_from limit x) h) z refl

  pub a-paused-run-goes-on : {q : ℕ} {w : World} → StartsPaused limit x q w → continue_run x ≡ ran_from x q w
  unfolding continue_run
  a-paused-run-goes-on (paused z h) = continue-at limit x z ∙ ap (continue_from limit x) h

  -- A run that begins where nothing is left is done at any budget; with a budget of 0 it is paused where it begins
  pub nothing-to-run-is-0 : (q : ℕ) (w : World) → fetch x.page q ≡ past → ran_from x q w ≡ stops 0 w x.page
  nothing-to-run-is-0 q w h = ap (λ (r : Ran). run_outcome r x.page) (run_past x.call.budget (lent_env limit x) q w h)

  pub no-budget-pauses-at-once : (q : ℕ) (w : World) → x.call.budget ≡ 0 → (fetch x.page q ≡ past → ⊥)
      → ran_from x q w ≡ stops 14 (with_session w (with_paused w.session (paused_at q))) x.page
  no-budget-pauses-at-once q w b h =
      ap (λ (k : ℕ). run_outcome (run_from k (lent_env limit x) q w) x.page) b ∙ ap (λ (r : Ran). run_outcome r x.page) (run-zero (lent_env limit x) q w h)
