-- The FOR that a NEXT belongs to: what NEXT does with it, and that without one nothing is done. Assumes nothing.
use Prim.Native.Nat.{ℕ}
use Rattle.std.specs.Prelude.{Option as Opt, Some, None}
use mathlib.Core.Path.{◌≡◌, refl}
use mathlib.Core.List.{List}
use mathlib.Core.Option.{none}
use native.Mathlib.Omega.{arith}
use lib.Dec.{eqb}
use Rattle.nibl.specs.Values.{is, no}
use Rattle.nibl.specs.Meaning.{stop}
use Rattle.nibl.specs.Stack.{pop_for}
use Rattle.nibl.specs.declared.ForEntry.{ForEntry}
use Rattle.nibl.specs.declared.ForStack.{ForStack}
use Rattle.page.proofs.Walk.{by_cases}
use Rattle.world.specs.Turns.{for_on, for_of, adds_step, stepped_on, next_on, next_turn, turned_for_to, back_by, back_on, next_back, backed_to}

-- by what is on top
module _ (s : ForStack) (vars : List ℕ) (v : ℕ) where
  found_on : (t : Opt ForEntry) {f : ForEntry} → is f ≡ for_on v t
      → (next_on s vars v t ≡ stepped_on s f (adds_step vars v f)) × (back_on vars v t ≡ back_by vars f (adds_step vars v f))
  unfolding next_on back_on
  found_on None e = let z : ◌≡◌ {A = ℕ} 0 1 = cc in absurd (omega arith)
  found_on (Some g) {f} e =
      by_cases (eqb g.var v)
      (λ h. let k = rw h at e in let i : f ≡ g = cc in rw (h, i) (refl, refl))
      (λ h. let k = rw h at e in let z : ◌≡◌ {A = ℕ} 0 1 = cc in absurd (omega arith))

  none_on : (t : Opt ForEntry) {n : ℕ} → no n ≡ for_on v t → (next_on s vars v t ≡ turned_for_to (stop n) s vars) × (back_on vars v t ≡ backed_to none vars)
  unfolding next_on back_on
  none_on None {n} e = let i : n ≡ 11 = cc in rw i (refl, refl)
  none_on (Some g) {n} e =
      by_cases (eqb g.var v)
      (λ h. let k = rw h at e in let z : ◌≡◌ {A = ℕ} 0 1 = cc in absurd (omega arith))
      (λ h. let k = rw h at e in let i : n ≡ 12 = cc in rw (h, i) (refl, refl))

  pub found : {f : ForEntry} → is f ≡ for_of s v → (next_turn s vars v ≡ stepped_on s f (adds_step vars v f)) × (next_back s vars v ≡ back_by vars f (adds_step vars v f))
  unfolding for_of next_turn next_back
  found e = found_on (pop_for s).top e

  pub not-found : {n : ℕ} → no n ≡ for_of s v → (next_turn s vars v ≡ turned_for_to (stop n) s vars) × (next_back s vars v ≡ backed_to none vars)
  unfolding for_of next_turn next_back
  not-found e = none_on (pop_for s).top e
