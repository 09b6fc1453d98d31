-- One outcome: two answers that meet the promise of `run_ops` or of `run_ops_from` for the same arguments are equal, and so
-- are the variables, the memory and the output; of the room that is lent it says nothing. What two answers of `run_plain` did and
-- left to do comes to the same. Assumes nothing.
use Prim.Native.Nat.{ℕ}
use mathlib.Core.Path.{◌≡◌, sym, ◌∙◌}
use mathlib.Core.List.{List, []}
use Rattle.nibl.specs.Meaning.{World, Env}
use Rattle.operation.specs.Operations.{run_ops}
use Rattle.effect.specs.declared.Did.{Did}
use Rattle.effect.specs.Worlds.{did_in}
use Rattle.effect.proofs.Determined.{effect-determined}
use Rattle.nibl.specs.declared.PlaceStack.{PlaceStack}
use Rattle.nibl.specs.declared.access.Sight.{Sight}
use Rattle.nibl.specs.declared.ForStack.{ForStack}
use Rattle.statement.specs.declared.Plain.{Plain}
use Rattle.statement.specs.Plain.{Around, view_of, plain_in, RunsPlainly}

pub run-determined : (e : Env) (ops : List ℕ) (w : World) (d f : Did) (vars vars' memory memory' output output' : List ℕ)
    → did_in d vars memory output ≡ run_ops e ops w [] → did_in f vars' memory' output' ≡ run_ops e ops w []
    → (d ≡ f) × (vars ≡ vars') × (memory ≡ memory') × (output ≡ output')
run-determined e ops w = effect-determined (run_ops e ops w [])

pub from-determined : (e : Env) (rest vs : List ℕ) (w : World) (d f : Did) (vars vars' memory memory' output output' : List ℕ)
    → did_in d vars memory output ≡ run_ops e rest w vs → did_in f vars' memory' output' ≡ run_ops e rest w vs
    → (d ≡ f) × (vars ≡ vars') × (memory ≡ memory') × (output ≡ output')
from-determined e rest vs w = effect-determined (run_ops e rest w vs)

pub plain-same : (ops page : List ℕ) (flags : ℕ) (sight : Sight) (dos : PlaceStack) (fors : ForStack) (vars memory : List ℕ) (r s : Plain) (vars₁ vars₂ values₁ values₂ : List ℕ)
    → RunsPlainly ops page flags sight dos fors vars memory r vars₁ values₁ → RunsPlainly ops page flags sight dos fors vars memory s vars₂ values₂
    → (a : Around) → plain_in (view_of page flags sight dos fors memory) a r ops vars₁ values₁ ≡ plain_in (view_of page flags sight dos fors memory) a s ops vars₂ values₂
plain-same ops page flags sight dos fors vars memory r s vars₁ vars₂ values₁ values₂ p q a = p.runs a ∙ sym (q.runs a)
