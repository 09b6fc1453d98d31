-- One outcome: two answers that meet a public function's promise for the same arguments are equal. Assumes nothing.
use Prim.Native.Nat.{ℕ}
use Rattle.std.specs.Prelude.{Option, Some, None, Result, Ok, Err}
use mathlib.Core.Bool.{true, false}
use mathlib.Core.Path.{◌≡◌, refl, ◌∙◌, sym, ap}
use native.Mathlib.Omega.{arith}
use Rattle.nibl.specs.declared.Place.{Place}
use Rattle.nibl.specs.declared.PlaceStack.{PlaceStack}
use Rattle.nibl.specs.declared.ForEntry.{ForEntry}
use Rattle.nibl.specs.declared.ForStack.{ForStack}
use Rattle.nibl.specs.declared.Popped.{Popped}
use Rattle.nibl.specs.declared.Onward.{Onward}
use Rattle.nibl.specs.declared.Onward.TheVariants.{Start, After}
use Rattle.nibl.specs.Record.{place, position, position_of, pause_number}
use Rattle.nibl.specs.Stack.{Pushed, pushed_of, push_of, top_of, pop_of, push_for, top_for, pop_for}

-- for every promise that is an equation
pub determined : {A : Type 0} (x a b : A) → a ≡ x → b ≡ x → a ≡ b
determined x a b p q = p ∙ sym q

-- an answer of a push is known by what it says
pub pushed-same : {S : Type 0} (a b : Result S S) → pushed_of a ≡ pushed_of b → a ≡ b
pushed-same (Ok s) (Ok t) e = ap (λ (p : Pushed _). Ok p.stack) e
pushed-same (Ok s) (Err t) e = let h : true ≡ false = ap (λ (p : Pushed _). p.ok) e in cc
pushed-same (Err s) (Ok t) e = let h : false ≡ true = ap (λ (p : Pushed _). p.ok) e in cc
pushed-same (Err s) (Err t) e = ap (λ (p : Pushed _). Err p.stack) e

pub pushed-determined : {S : Type 0} (x : Pushed S) (a b : Result S S) → pushed_of a ≡ x → pushed_of b ≡ x → a ≡ b
pushed-determined x a b p q = pushed-same a b (determined x _ _ p q)

pub push-determined : (s : PlaceStack) (p : Place) (a b : Result PlaceStack PlaceStack) → pushed_of a ≡ push_of s p → pushed_of b ≡ push_of s p → a ≡ b
push-determined s p = pushed-determined (push_of s p)

pub top-determined : (s : PlaceStack) (a b : Option Place) → a ≡ top_of s → b ≡ top_of s → a ≡ b
top-determined s = determined (top_of s)

pub pop-determined : (s : PlaceStack) (a b : Popped PlaceStack Place) → a ≡ pop_of s → b ≡ pop_of s → a ≡ b
pop-determined s = determined (pop_of s)

pub push-for-determined : (s : ForStack) (e : ForEntry) (a b : Result ForStack ForStack) → pushed_of a ≡ push_for s e → pushed_of b ≡ push_for s e → a ≡ b
push-for-determined s e = pushed-determined (push_for s e)

pub top-for-determined : (s : ForStack) (a b : Option ForEntry) → a ≡ top_for s → b ≡ top_for s → a ≡ b
top-for-determined s = determined (top_for s)

pub pop-for-determined : (s : ForStack) (a b : Popped ForStack ForEntry) → a ≡ pop_for s → b ≡ pop_for s → a ≡ b
pop-for-determined s = determined (pop_for s)

-- where a run goes on is known by its position
pub onward-same : (a b : Onward) → position_of a ≡ position_of b → a ≡ b
onward-same Start Start e = refl
onward-same Start (After q) e = absurd (omega arith)
onward-same (After p) Start e = absurd (omega arith)
onward-same (After p) (After q) e = let k : position p ≡ position q = omega arith in λ i. After (place (k i))

-- and so is a pause by its number
pub pause-same : (a b : Option Onward) → pause_number a ≡ pause_number b → a ≡ b
pause-same None None e = refl
pause-same None (Some q) e = absurd (omega arith)
pause-same (Some p) None e = absurd (omega arith)
pause-same (Some p) (Some q) e = let k : position_of p ≡ position_of q = omega arith in let h = onward-same p q k in cc

pub pause-determined : (n : ℕ) (a b : Option Onward) → pause_number a ≡ n → pause_number b ≡ n → a ≡ b
pause-determined n a b p q = pause-same a b (determined n (pause_number a) (pause_number b) p q)
