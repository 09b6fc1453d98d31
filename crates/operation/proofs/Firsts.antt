-- A list runs as its values first, then the rest; and those values an operation at a time. Assumes nothing.
use Prim.Native.Nat.{ℕ, ◌+◌, ◌≤◌, ◌<◌}
use mathlib.Core.Path.{◌≡◌, refl, sym, ap, ◌∙◌}
use mathlib.Core.Bool.{Bool, true, false}
use mathlib.Core.List.{List, [], ◌∷◌}
use native.Mathlib.Numerals.{add-one}
use borrow.Author.Tests.{lt-ltb, le-ltb}
use lib.Dec.{ltb}
use lib.ListN.{length, drop, get_or, drop_of_length-le}
use lib.Seq.{drop-cons}
use Rattle.nibl.specs.Values.{Result, is, no}
use Rattle.nibl.specs.Meaning.{World, Env, Done, bind, given}
use Rattle.codes.specs.Codes.{code_in, effects}
use Rattle.operation.specs.Operations.{Sources, sources_in, value_step, AtEffect, at_effect, values_first, run_ops}

-- what goes on with a result of a result
given-bind : {A B : Type 0} (w : World) (r : Result A) (k : A → Result B) (f : B → Done) → given r w (λ a. given (k a) w f) ≡ given (bind r k) w f
given-bind w (is a) k f = refl
given-bind w (no n) k f = refl

given-same : {A : Type 0} (w : World) (r : Result A) (f g : A → Done) → ((a : A) → f a ≡ g a) → given r w f ≡ given r w g
given-same w (is a) f g h = h a
given-same w (no n) f g h = refl

module _ (e : Env) (w : World) where
  abbrev run_on : AtEffect → Done
  run_on b = run_ops e b.rest w b.stack

  runs-cons : (o : ℕ) (ops vs : List ℕ) → ((us : List ℕ) → run_ops e ops w us ≡ given (values_first (sources_in e w) ops us) w run_on)
      → (t : Bool) → ltb (code_in o) effects ≡ t → run_ops e (o ∷ ops) w vs ≡ given (values_first (sources_in e w) (o ∷ ops) vs) w run_on
  unfolding run_ops values_first
  runs-cons o ops vs r true h =
      rw (h, run_ops, values_first)
      (given-same w (value_step (sources_in e w) o vs) (λ us. run_ops e ops w us) (λ us. given (values_first (sources_in e w) ops us) w run_on) r
      ∙ given-bind w (value_step (sources_in e w) o vs) (λ us. values_first (sources_in e w) ops us) run_on)
  runs-cons o ops vs r false h = rw (h, values_first) refl

  -- a list runs as its values first, then the rest
  pub runs-first : (ops vs : List ℕ) → run_ops e ops w vs ≡ given (values_first (sources_in e w) ops vs) w (λ b. run_ops e b.rest w b.stack)
  unfolding run_ops values_first
  runs-first [] vs = refl
  runs-first (o ∷ ops) vs = runs-cons o ops vs (λ us. runs-first ops us) (ltb (code_in o) effects) refl

-- The values of a list an operation at a time
module _ (s : Sources) (ops vs : List ℕ) (i : ℕ) where
  abbrev there : ℕ
  there = get_or ops i 0

  module _ (h : i < length ops) where
    split : drop i ops ≡ there ∷ drop (i + 1) ops
    split = rw (add-one, drop-cons ops i 0 h) refl

    first_step : code_in there < effects → values_first s (drop i ops) vs ≡ bind (value_step s there vs) (λ us. values_first s (drop (i + 1) ops) us)
    unfolding values_first
    first_step f = ap (λ (l : List ℕ). values_first s l vs) split ∙ rw (lt-ltb (code_in there) effects f, values_first) refl

    pub first_on : {us : List ℕ} → code_in there < effects → is us ≡ value_step s there vs → values_first s (drop i ops) vs ≡ values_first s (drop (i + 1) ops) us
    first_on f e = first_step f ∙ rw (← e) refl

    pub first_off : {n : ℕ} → code_in there < effects → no n ≡ value_step s there vs → values_first s (drop i ops) vs ≡ no n
    first_off f e = first_step f ∙ rw (← e) refl

    pub first-effect : effects ≤ code_in there → values_first s (drop i ops) vs ≡ is (at_effect (drop i ops) vs)
    unfolding values_first
    first-effect f = ap (λ (l : List ℕ). values_first s l vs) split ∙ rw (le-ltb _ _ f, values_first) (ap (λ (l : List ℕ). is (at_effect l vs)) (sym split))

  pub first-end : length ops ≤ i → values_first s (drop i ops) vs ≡ is (at_effect (drop i ops) vs)
  unfolding values_first
  first-end h = rw (drop_of_length-le ops h) refl
