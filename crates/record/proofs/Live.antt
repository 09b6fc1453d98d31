-- A stack whose live slots pass a test, pushed, popped and looked at: what is popped passes it too. Assumes nothing.
use Rattle.std.specs.Prelude.{if◌then◌else◌}
use Rattle.std.specs.Prelude.{Some, None}
use Prim.Native.Nat.{ℕ, zero, suc, ◌+◌, ◌-◌, ◌≤◌, ◌<◌}
use mathlib.Core.Path.{◌≡◌, refl, ◌∙◌}
use mathlib.Core.Bool.{Bool, true, false}
use mathlib.Core.List.{List, [], ◌∷◌}
use native.Mathlib.Omega.{arith}
use native.Mathlib.Numerals.{add-one}
use lib.ListN.{length, get_or, set, take, length-set}
use lib.Dec.{ltb}
use borrow.Author.Tests.{ltb-true, ltb-false}
use Rattle.nibl.specs.Bytes.{all}
use Rattle.nibl.specs.Stack.{Pushed, on_top, no_place, no_entry, push_of, pop_of, push_for, pop_for}
use Rattle.nibl.specs.declared.Place.{Place}
use Rattle.nibl.specs.declared.PlaceStack.{PlaceStack}
use Rattle.nibl.specs.declared.ForEntry.{ForEntry}
use Rattle.nibl.specs.declared.ForStack.{ForStack}
use Rattle.nibl.proofs.Words.{if-split}
use Rattle.page.proofs.Program.{both}
use Rattle.record.specs.Fit.{Held, Places, Entries}

-- what is on top is there
on-top : {B : Type 0} (n d : ℕ) (e s x : B) → on_top n d e s ≡ x → (e ≡ x → ⊥) → (1 ≤ d) × (s ≡ x)
on-top n d e s x h k = by (ltb d 1) refl (ltb n d) h where
  by : (b : Bool) → ltb d 1 ≡ b → (c : Bool) → (if b then e else if c then e else s) ≡ x → (1 ≤ d) × (s ≡ x)
  by true i c h = absurd (k h)
  by false i true h = absurd (k h)
  by false i false h = (ltb-false d 1 i, h)

-- A stack: what its live part holds passes, and its array has its length
module _ {A : Type 0} (f : A → Bool) where
  all_push : (l : List A) (d : ℕ) (x : A) → all f (take d l) ≡ true → f x ≡ true → all f (take (suc d) (set l d x)) ≡ true
  all_push [] d x h e = refl
  all_push (y ∷ l) zero x h e = rw e
  all_push (y ∷ l) (suc d) x h e = let g = both (f y) _ h in rw g.0 (all_push l d x g.1 e)

  all-fewer : (l : List A) (d e : ℕ) → e ≤ d → all f (take d l) ≡ true → all f (take e l) ≡ true
  all-fewer l d zero h a = refl
  all-fewer [] d (suc e) h a = refl
  all-fewer (y ∷ l) zero (suc e) h a = absurd (omega arith)
  all-fewer (y ∷ l) (suc d) (suc e) h a = let g = both (f y) _ a in rw g.0 (all-fewer l d e (omega arith) g.1)

  all-at : (l : List A) (d i : ℕ) (x : A) → i < d → i < length l → all f (take d l) ≡ true → f (get_or l i x) ≡ true
  all-at [] d i x h g a = absurd (omega arith)
  all-at (y ∷ l) zero i x h g a = absurd (omega arith)
  all-at (y ∷ l) (suc d) zero x h g a = (both (f y) _ a).0
  all-at (y ∷ l) (suc d) (suc i) x h g a = all-at l d i x (omega arith) (omega arith) (both (f y) _ a).1

  module _ {n d : ℕ} {l : List A} (h : Held f n d l) where
    held-push : (x : A) → d < n → f x ≡ true → Held f n (d + 1) (set l d x)
    held-push x g e = record { deep = omega arith; room = length-set l d x ∙ h.room; live = rw (add-one d) (all_push l d x h.live e) }

    held-pop : Held f n (on_top n d d (d - 1)) l
    held-pop =
        if-split (λ k. Held f n k l) (ltb d 1) (λ _. h) (λ _. if-split (λ k. Held f n k l) (ltb n d) (λ _. h)
        (λ _. record { deep = omega arith; room = h.room; live = all-fewer l d (d - 1) (omega arith) h.live }))

    held-top : (x : A) → 1 ≤ d → f (get_or l (d - 1) x) ≡ true
    held-top x g = all-at l d (d - 1) x (omega arith) (omega arith) h.live

    -- what a look at the top shows, as c says it
    held-shown : {B : Type 0} (x y : A) (e : B) (c : A → B) → on_top n d e (c (get_or l (d - 1) y)) ≡ c x → (e ≡ c x → ⊥) → ((a : A) → c a ≡ c x → a ≡ x) → f x ≡ true
    held-shown x y e c g k i = let t = on-top n d e (c (get_or l (d - 1) y)) (c x) g k in rw (← i (get_or l (d - 1) y) t.1) (held-top y t.0)

  pub held_none : {n : ℕ} {l : List A} → length l ≡ n → Held f n 0 l
  held_none e = record { deep = omega arith; room = e; live = refl }

-- The stacks of GOSUB and DO, and of FOR
module _ (f : Place → Bool) (s : PlaceStack) (h : Places f s) where
  pub push_places : (p : Place) → f p ≡ true → Places f (push_of s p).stack
  push_places p e = if-split (λ (r : Pushed PlaceStack). Places f r.stack) (ltb s.depth 8) (λ l. held-push f h p (ltb-true _ _ l) e) (λ _. h)

  pub pop_places : Places f (pop_of s).stack
  pop_places = held-pop f h

  pub top-place : (p : Place) → (pop_of s).top ≡ Some p → f p ≡ true
  top-place p e = held-shown f h p no_place None Some e (λ i. let z : ◌≡◌ {A = ℕ} 0 1 = cc in omega arith) (λ q i. cc)

module _ (f : ForEntry → Bool) (s : ForStack) (h : Entries f s) where
  pub push-entries : (x : ForEntry) → f x ≡ true → Entries f (push_for s x).stack
  push-entries x e = if-split (λ (r : Pushed ForStack). Entries f r.stack) (ltb s.depth 4) (λ l. held-push f h x (ltb-true _ _ l) e) (λ _. h)

  pub pop-entries : Entries f (pop_for s).stack
  pop-entries = held-pop f h

  pub top-entry : (x : ForEntry) → (pop_for s).top ≡ Some x → f x ≡ true
  top-entry x e = held-shown f h x no_entry None Some e (λ i. let z : ◌≡◌ {A = ℕ} 0 1 = cc in omega arith) (λ y i. cc)
