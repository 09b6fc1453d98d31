-- Laws of the stacks of places, for callers to cite. Assumes nothing.
use Prim.Native.Nat.{ℕ, ◌+◌, ◌-◌, ◌<◌, ◌≤◌}
use mathlib.Core.Path.{◌≡◌, ◌∙◌, ap}
use mathlib.Core.Bool.{false}
use mathlib.Core.List.{List, [], ◌∷◌, ◌++◌}
use native.Mathlib.Numerals.{add-one}
use native.Mathlib.Omega.{arith}
use lib.ListN.{length, take, set}
use lib.Seq.{take-suc-set, get_or-set_same}
use borrow.Author.Tests.{lt-ltb, le-ltb}
use Rattle.nibl.specs.declared.Place.{Place}
use Rattle.nibl.specs.declared.PlaceStack.{PlaceStack}
use Rattle.std.specs.Prelude.{Some, None}
use Rattle.nibl.specs.Stack.{no_place, push_of, pop_of}

-- the list that a stack stands for, the oldest first
abbrev pub live : PlaceStack → List Place
live s = take s.depth s.places

-- a push that goes in adds its place at the end of the list
pub push-live : (s : PlaceStack) (p : Place) → length s.places ≡ 8 → s.depth < 8 → live (push_of s p).stack ≡ live s ++ (p ∷ [])
push-live s p l h =
    let hl : s.depth < length s.places = omega arith in
    rw (lt-ltb s.depth 8 h) (ap (λ (n : ℕ). take n (set s.places s.depth p)) (add-one s.depth) ∙ take-suc-set s.places s.depth p hl)

-- one that does not go in changes nothing
pub push-full : (s : PlaceStack) (p : Place) → 8 ≤ s.depth → push_of s p ≡ record { stack = s; ok = false }
push-full s p h = rw (le-ltb s.depth 8 h)

-- a pop of an empty stack changes nothing and says so
pub pop-empty : (s : PlaceStack) → s.depth < 1 → pop_of s ≡ record { stack = s; top = None }
pop-empty s h = rw (lt-ltb s.depth 1 h)

-- a pop after a push gives back the place
pub pop-push : (s : PlaceStack) (p : Place) → length s.places ≡ 8 → s.depth < 8 → (pop_of (push_of s p).stack).top ≡ Some p
pop-push s p l h =
    let hl : s.depth < length s.places = omega arith in
    let a : 1 ≤ s.depth + 1 = omega arith in
    let b : s.depth + 1 ≤ 8 = omega arith in
    let e : s.depth + 1 - 1 ≡ s.depth = omega arith in
    simp (lt-ltb s.depth 8 h, le-ltb (s.depth + 1) 1 a, le-ltb 8 (s.depth + 1) b, e, get_or-set_same s.places s.depth p no_place hl)

-- and the depth: what was live before is live again
pub depth-pop-push : (s : PlaceStack) (p : Place) → s.depth < 8 → (pop_of (push_of s p).stack).stack.depth ≡ s.depth
depth-pop-push s p h =
    let a : 1 ≤ s.depth + 1 = omega arith in
    let b : s.depth + 1 ≤ 8 = omega arith in
    let e : s.depth + 1 - 1 ≡ s.depth = omega arith in
    simp (lt-ltb s.depth 8 h, le-ltb (s.depth + 1) 1 a, le-ltb 8 (s.depth + 1) b, e)
