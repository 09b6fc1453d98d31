-- One outcome: two answers that meet a public function's promise for the same arguments are equal, and so are the values
-- on the stack, or the variables; of the lent room above those values it says nothing. Assumes nothing.
use Prim.Native.Nat.{ℕ, zero, suc, ◌+◌, ◌-◌, ◌≤◌}
use Rattle.std.specs.Prelude.{Result as Res, Ok, Err}
use Rattle.nibl.specs.declared.stop.Stop.{Stop}
use mathlib.Core.Path.{◌≡◌, refl, sym, ap, ◌∙◌}
use mathlib.Core.List.{List, []}
use mathlib.Core.Option.{Option}
use lib.ListN.{length, drop, get_or, length-drop}
use native.Mathlib.Omega.{arith}
use Rattle.nibl.specs.Values.{Result, is, no}
use Rattle.nibl.specs.Tree.{Expr}
use Rattle.nibl.proofs.Determined.{determined}
use Rattle.value.specs.Operators.{value_of}
use Rattle.value.proofs.Laws.{value_same}
use Rattle.world.specs.Turns.{way_of}
use Rattle.world.specs.declared.jump.Way.{Way}
use Rattle.world.proofs.jump.Determined.{way-determined}
use Rattle.operation.specs.Operations.{Sources, value_step, AtEffect, values_first}
use Rattle.operation.proofs.Stacks.{stack-none}
use Rattle.operation.specs.Stacks.{stack_of, stack_after, height_of, top_in, top_after, reached_in, reached_at, reached_height, reached_top, worked, assigned_by, assigning}

pub nth-determined : (values : List ℕ) (height k a b : ℕ) → a ≡ get_or (stack_of values height) k 0 → b ≡ get_or (stack_of values height) k 0 → a ≡ b
nth-determined values height k = determined (get_or (stack_of values height) k 0)

-- a stack says how high it is
height : (values : List ℕ) (n : ℕ) → length (stack_of values n) ≡ n
unfolding stack_of
height values zero = refl
height values (suc n) = ap suc (height values n)

-- an answer, and the values that it counts
height-same : (r s : Res (ℕ × ℕ) Stop) (values values' : List ℕ) → top_after r ≡ top_in values (height_of r) → top_after s ≡ top_in values' (height_of s) → stack_after r values ≡ stack_after s values'
    → (r ≡ s) × (stack_of values (height_of r) ≡ stack_of values' (height_of s))
height-same (Ok (m, x)) (Ok (n, y)) values values' p q e =
    let v : stack_of values m ≡ stack_of values' n = cc in
    let k : m ≡ n = sym (height values m) ∙ ap length v ∙ height values' n in
    let t : x ≡ y = p ∙ ap (λ (l : List ℕ). get_or l 0 0) v ∙ sym q in
    (rw (k, t) refl, v)
height-same (Err m) (Err n) values values' p q e = let k : m.0 ≡ n.0 = cc in (ap (λ (j : ℕ). Err (record { 0 = j })) k, stack-none values ∙ sym (stack-none values'))
height-same (Ok (m, x)) (Err n) values values' p q e = let z : ◌≡◌ {A = ℕ} 0 1 = cc in absurd (omega arith)
height-same (Err m) (Ok (n, x)) values values' p q e = let z : ◌≡◌ {A = ℕ} 0 1 = cc in absurd (omega arith)

pub step-determined : (s : Sources) (op : ℕ) (vs : List ℕ) (a b : Res (ℕ × ℕ) Stop) (values values' : List ℕ) → top_after a ≡ top_in values (height_of a) → top_after b ≡ top_in values' (height_of b)
    → stack_after a values ≡ value_step s op vs → stack_after b values' ≡ value_step s op vs → (a ≡ b) × (stack_of values (height_of a) ≡ stack_of values' (height_of b))
step-determined s op vs a b values values' t u p q = height-same a b values values' t u (determined (value_step s op vs) (stack_after a values) (stack_after b values') p q)

pub work-determined : (s : Sources) (ops : List ℕ) (a b : Res ℕ Stop) → value_of a ≡ worked s ops → value_of b ≡ worked s ops → a ≡ b
work-determined s ops a b p q = value_same a b (determined (worked s ops) (value_of a) (value_of b) p q)

pub reply-determined : (s : Sources) (vs : List ℕ) (es : Option (List Expr)) (a b : Way) (vars vars' : List ℕ)
    → assigned_by a vars ≡ assigning s vs es → assigned_by b vars' ≡ assigning s vs es → (a ≡ b) × (vars ≡ vars')
reply-determined s vs es a b vars vars' p q =
    let e = determined (assigning s vs es) (assigned_by a vars) (assigned_by b vars') p q in
    (way-determined (way_of b) a b (λ i. (e i).next) refl, λ i. (e i).vars)

-- how far the values lead: the operation that is next, between the first one and the list's end; and the values then
abbrev rest_in : Result AtEffect → List ℕ
rest_in (is b) = b.rest
rest_in (no n) = []

abbrev stack_in : Result AtEffect → List ℕ
stack_in (is b) = b.stack
stack_in (no n) = []

reached-same : (from : ℕ) (ops : List ℕ) (r s : Res (ℕ × ℕ × ℕ) Stop) (values values' : List ℕ) → reached_top r ≡ top_in values (reached_height r) → reached_top s ≡ top_in values' (reached_height s)
    → (from ≤ reached_at from r) × (reached_at from r ≤ from + (length ops - from)) → (from ≤ reached_at from s) × (reached_at from s ≤ from + (length ops - from)) → reached_in r ops values ≡ reached_in s ops values'
    → (r ≡ s) × (stack_of values (reached_height r) ≡ stack_of values' (reached_height s))
reached-same from ops (Ok (i, n, x)) (Ok (j, m, y)) values values' p q b d e =
    let v : stack_of values n ≡ stack_of values' m = ap stack_in e in
    let l : length (drop i ops) ≡ length (drop j ops) = ap (λ (r : Result AtEffect). length (rest_in r)) e in
    let k : i ≡ j = omega (arith, length-drop i ops, length-drop j ops, b.0, b.1, d.0, d.1) in
    let h : n ≡ m = sym (height values n) ∙ ap length v ∙ height values' m in
    let t : x ≡ y = p ∙ ap (λ (l : List ℕ). get_or l 0 0) v ∙ sym q in
    (rw (k, h, t) refl, v)
reached-same from ops (Err m) (Err n) values values' p q b d e = let k : m.0 ≡ n.0 = cc in (ap (λ (j : ℕ). Err (record { 0 = j })) k, stack-none values ∙ sym (stack-none values'))
reached-same from ops (Ok (i, n, x)) (Err m) values values' p q b d e = let z : ◌≡◌ {A = ℕ} 0 1 = cc in absurd (omega arith)
reached-same from ops (Err m) (Ok (i, n, x)) values values' p q b d e = let z : ◌≡◌ {A = ℕ} 0 1 = cc in absurd (omega arith)

pub first-determined : (s : Sources) (from : ℕ) (ops vs : List ℕ) (a b : Res (ℕ × ℕ × ℕ) Stop) (values values' : List ℕ)
    → reached_top a ≡ top_in values (reached_height a) → reached_top b ≡ top_in values' (reached_height b)
    → (from ≤ reached_at from a) × (reached_at from a ≤ from + (length ops - from)) → (from ≤ reached_at from b) × (reached_at from b ≤ from + (length ops - from))
    → reached_in a ops values ≡ values_first s (drop from ops) vs → reached_in b ops values' ≡ values_first s (drop from ops) vs
    → (a ≡ b) × (stack_of values (reached_height a) ≡ stack_of values' (reached_height b))
first-determined s from ops vs a b values values' t u x y p q =
    reached-same from ops a b values values' t u x y (determined (values_first s (drop from ops) vs) (reached_in a ops values) (reached_in b ops values') p q)
