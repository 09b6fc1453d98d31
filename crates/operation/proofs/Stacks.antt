-- The stack of values in an array, and operations on values an element at a time. Assumes nothing.
use Prim.Native.Nat.{ℕ, zero, suc, ◌+◌, ◌-◌, ◌≤◌, ◌<◌}
use mathlib.Core.Path.{◌≡◌, refl, sym, ap, ◌∙◌}
use mathlib.Core.List.{List, [], ◌∷◌}
use native.Mathlib.Numerals.{add-one}
use native.Mathlib.Omega.{arith}
use lib.ListN.{length, drop, get_or, set, drop_of_length-le}
use lib.Seq.{get_or-set_same, get_or-set_other, drop-cons}
use Rattle.nibl.specs.Values.{Result, is, no}
use Rattle.nibl.specs.Meaning.{bind}
use Rattle.codes.specs.Codes.{code_in, argument_in}
use Rattle.operation.specs.Operations.{Sources, takes, value_by, value_step, work_out}
use Rattle.operation.specs.Stacks.{stack_of, top_in}

-- The value k below the top
pub nth_in : (values : List ℕ) (n k : ℕ) → k < n → get_or (stack_of values n) k 0 ≡ get_or values (n - 1 - k) 0
unfolding stack_of
nth_in values zero k h = absurd (omega arith)
nth_in values (suc n) zero h = let e : n ≡ suc n - 1 - 0 = omega arith in ap (λ (i : ℕ). get_or values i 0) e
nth_in values (suc n) (suc k) h =
    let e : n - 1 - k ≡ suc n - 1 - suc k = omega arith in nth_in values n k (omega arith) ∙ ap (λ (i : ℕ). get_or values i 0) e

pub nth-out : (values : List ℕ) (n k : ℕ) → n ≤ k → get_or (stack_of values n) k 0 ≡ 0
unfolding stack_of
nth-out values zero k h = refl
nth-out values (suc n) zero h = absurd (omega arith)
nth-out values (suc n) (suc k) h = nth-out values n k (omega arith)

-- Values taken off, and one put on
stack-drop : (values : List ℕ) (n k : ℕ) → drop k (stack_of values n) ≡ stack_of values (n - k)
unfolding stack_of
stack-drop values n zero = let e : n ≡ n - 0 = omega arith in ap (stack_of values) e
stack-drop values zero (suc k) = let e : 0 ≡ 0 - suc k = omega arith in ap (stack_of values) e
stack-drop values (suc n) (suc k) = let e : n - k ≡ suc n - suc k = omega arith in stack-drop values n k ∙ ap (stack_of values) e

-- a store at or above the top leaves the stack
stack_set : (values : List ℕ) (i v n : ℕ) → n ≤ i → stack_of (set values i v) n ≡ stack_of values n
unfolding stack_of
stack_set values i v zero h = refl
stack_set values i v (suc n) h = rw (get_or-set_other values i n v 0 (omega arith), stack_set values i v n (omega arith)) refl

stack_push : (values : List ℕ) (height v : ℕ) → height < length values → stack_of (set values height v) (height + 1) ≡ v ∷ stack_of values height
unfolding stack_of
stack_push values height v h = rw add-one (rw (get_or-set_same values height v 0 h, stack_set values height v height (omega arith)) refl)

push-below : (values : List ℕ) (height k b v : ℕ) → b ≡ height - k → height < length values → stack_of (set values b v) (b + 1) ≡ v ∷ drop k (stack_of values height)
push-below values height k b v e h =
    stack_push values b v (omega arith) ∙ ap (λ (l : List ℕ). v ∷ l) (ap (stack_of values) e ∙ sym (stack-drop values height k))

pub stack-none : (values : List ℕ) → stack_of values 0 ≡ []
unfolding stack_of
stack-none values = refl

-- The value on top of no stack, and of one with a value put on
pub top-none : (values : List ℕ) → 0 ≡ top_in values 0
unfolding stack_of
top-none values = refl

pub top-put : (values : List ℕ) (b v : ℕ) → b < length values → v ≡ top_in (set values b v) (b + 1)
top-put values b v h = rw (stack_push values b v h) refl

-- An operation on values, by its value
module _ (s : Sources) (o : ℕ) (values : List ℕ) (height : ℕ) where
  abbrev valued : Result ℕ
  valued = value_by s (code_in o) (argument_in o) (get_or (stack_of values height) 0 0) (get_or (stack_of values height) 1 0)

  pub step_is : (v k b : ℕ) → is v ≡ valued → k ≡ takes (code_in o) → b ≡ height - k → height < length values
      → is (stack_of (set values b v) (b + 1)) ≡ value_step s o (stack_of values height)
  unfolding value_step
  step_is v k b e t d h = rw (← e, ← t) (ap is (push-below values height k b v d h))

  pub step-no : (n : ℕ) → no n ≡ valued → no n ≡ value_step s o (stack_of values height)
  unfolding value_step
  step-no n e = rw (← e) refl

-- A list of operations
module _ (s : Sources) (ops vs : List ℕ) (i : ℕ) where
  work_step : i < length ops → work_out s (drop i ops) vs ≡ bind (value_step s (get_or ops i 0) vs) (λ us. work_out s (drop (i + 1) ops) us)
  unfolding work_out
  work_step h = rw (add-one, drop-cons ops i 0 h) refl

  pub work-on : {us : List ℕ} → i < length ops → is us ≡ value_step s (get_or ops i 0) vs → work_out s (drop i ops) vs ≡ work_out s (drop (i + 1) ops) us
  work-on h e = work_step h ∙ rw (← e) refl

  pub work-off : {n : ℕ} → i < length ops → no n ≡ value_step s (get_or ops i 0) vs → work_out s (drop i ops) vs ≡ no n
  work-off h e = work_step h ∙ rw (← e) refl

  pub work-end : length ops ≤ i → work_out s (drop i ops) vs ≡ is vs
  unfolding work_out
  work-end h = rw (drop_of_length-le ops h) refl

-- the value on top
pub topmost : {r p : Result (List ℕ)} → r ≡ p → bind p (λ vs. is (get_or vs 0 0)) ≡ bind r (λ vs. is (get_or vs 0 0))
topmost e = ap (λ (p : Result (List ℕ)). bind p (λ vs. is (get_or vs 0 0))) (sym e)
