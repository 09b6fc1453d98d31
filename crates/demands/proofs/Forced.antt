-- The first refusals are forced: "a length, position or budget outside the above" is 1, a bad page 18, a false table 26, a record that does not fit 19, and no
-- CR left 7. Assumes nothing.
use Prim.Native.Nat.{ℕ, suc}
use mathlib.Core.Path.{◌≡◌, refl}
use mathlib.Core.Bool.{true, false}
use mathlib.Core.Option.{none}
use Rattle.nibl.specs.Page.{is_good, fits}
use Rattle.nibl.specs.Lent.{Lent, stops}
use Rattle.nibl.specs.Typing.{limit}
use Rattle.nibl.specs.Lent.{lent_world}
use Rattle.nibl.specs.FirstRefusals.{table_is_true, in_range, first_refusal}
use Rattle.nibl.specs.Calls.{take_line, take_line_in, continue_run, continue_run_in, leaves}
use Rattle.page.proofs.Walk.{by_cases}
use Rattle.demands.specs.Lent.{gathered_line, InRange}
use Rattle.demands.specs.Leaves.{unchanged, BothUnchanged}
use Rattle.demands.proofs.Accepted.{in-range-of, in-range-is}
use Rattle.demands.proofs.Tables.{left-kept, left-refused}

module _ (x : Lent) where
  pub refused-both : (n : ℕ) → first_refusal limit x ≡ suc n → BothUnchanged x (suc n)
  unfolding take_line take_line_in continue_run continue_run_in
  refused-both n h = (
    left-refused take_line x (stops (suc n) (lent_world x) x.page) (rw (h, take_line_in)) n h,
    left-refused continue_run x (stops (suc n) (lent_world x) x.page) (rw (h, continue_run_in)) n h,
  )

  pub out-of-range-is-1 : (InRange x → ⊥) → BothUnchanged x 1
  unfolding first_refusal
  out-of-range-is-1 h = by_cases (in_range x) (λ e. absurd (h (in-range-of x e))) (λ e. refused-both 0 (rw e))

  pub a-bad-page-is-18 : InRange x → is_good limit x.page ≡ false → BothUnchanged x 18
  unfolding first_refusal
  a-bad-page-is-18 r h = refused-both 17 (rw (in-range-is r, h))

  pub a-false-table-is-26 : InRange x → is_good limit x.page ≡ true → table_is_true x ≡ false → BothUnchanged x 26
  unfolding first_refusal
  a-false-table-is-26 r g h = refused-both 25 (rw (in-range-is r, g, h))

  pub a-record-that-does-not-fit-is-19 : InRange x → is_good limit x.page ≡ true → table_is_true x ≡ true → fits x.page x.session ≡ false → BothUnchanged x 19
  unfolding first_refusal
  a-record-that-does-not-fit-is-19 r g t h = refused-both 18 (rw (in-range-is r, g, t, h))

  pub no-cr-is-7 : first_refusal limit x ≡ 0 → gathered_line limit x ≡ none → leaves take_line x ≡ unchanged x 7
  unfolding take_line take_line_in
  no-cr-is-7 z h = left-kept take_line x (stops 7 (lent_world x) x.page) (rw (z, take_line_in) (rw h)) z refl
