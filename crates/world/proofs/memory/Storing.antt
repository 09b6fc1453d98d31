-- Stores: what a store that fits leaves and one that does not, and how either is the definition's in the world. Assumes nothing.
use Rattle.std.specs.Prelude.{if◌then◌else◌}
use Rattle.std.specs.Prelude.{Result as Res, Ok, Err}
use Rattle.nibl.specs.declared.stop.Stop.{Stop}
use Prim.Native.Nat.{ℕ, ◌+◌, ◌-◌, ◌/◌, ◌%◌, ◌≤◌, ◌<◌}
use mathlib.Core.Path.{◌≡◌, refl, sym, ap, ◌∙◌}
use mathlib.Core.Bool.{Bool, true, false, not}
use mathlib.Core.List.{List, [], ◌∷◌, ◌++◌}
use native.Mathlib.Omega.{arith}
use lib.ListN.{length, get_or, take, drop, set, get_or-map, length-map, length-append, length-drop}
use lib.Seq.{sets, sets-eq, length-take-le}
use lib.Dec.{leb}
use borrow.Author.Tests.{le-leb, leb-true}
use Rattle.nibl.specs.Values.{Result, is, no}
use Rattle.nibl.specs.Access.{may_write}
use Rattle.nibl.specs.Meaning.{World, on, stop, bind, string_at, store_at, keep_in}
use Rattle.nibl.specs.declared.access.Access.{Access}
use Rattle.value.proofs.Writing.{sets-append, sets_more}
use Rattle.page.specs.Edits.{moved, can_move}
use Rattle.world.specs.Stores.{AfterStore, after_store, store_ends, store_gave, store_leaves, after_store_in, args_of}
use Rattle.world.proofs.memory.Strings.{StringRuns}

-- a store that may be done, and one that may not, as `may_store` says of so many bytes
module _ (x : Access) (mem bs : List ℕ) (a : ℕ) {k : ℕ} (size : length bs ≡ k) where
  abbrev may : Bool → Bool → Res (Unit {0}) Stop
  may b c = if not b then Err (record { 0 = 16 }) else if c then Ok tt else Err (record { 0 = 21 })

  abbrev leaves : Bool → Bool → AfterStore
  leaves b c = store_leaves mem (if not b then no 16 else if c then is (sets mem a bs) else no 21)

  pub stored : {u : Unit {0}} → Ok u ≡ store_ends x (length mem) a k → after_store on (sets mem a bs) ≡ store_leaves mem (store_at x mem a bs)
  unfolding store_at
  stored {u} h = go (leb (a + length bs) (length mem)) (may_write x a (length bs)) (h ∙ ap (store_ends x (length mem) a) (sym size))
    where
      go : (b c : Bool) → Ok u ≡ may b c → after_store on (sets mem a bs) ≡ leaves b c
      go true true h = refl
      go true false h = grind arith
      go false c h = grind arith

  pub refused : {e : Stop} → Err e ≡ store_ends x (length mem) a k → after_store (stop e.0) mem ≡ store_leaves mem (store_at x mem a bs)
  unfolding store_at
  refused {e} h = go (leb (a + length bs) (length mem)) (may_write x a (length bs)) (h ∙ ap (store_ends x (length mem) a) (sym size))
    where
      go : (b c : Bool) → Err e ≡ may b c → after_store (stop e.0) mem ≡ leaves b c
      go true true h = grind arith
      go true false h = ap (λ (r : Res (Unit {0}) Stop). store_gave r mem) h
      go false c h = ap (λ (r : Res (Unit {0}) Stop). store_gave r mem) h

-- one that may be done has room
pub room : (x : Access) (size a n : ℕ) {u : Unit {0}} → Ok u ≡ store_ends x size a n → a + n ≤ size
room x size a n {u} h = go (leb (a + n) size) refl h
  where
    go : (b : Bool) → leb (a + n) size ≡ b → ◌≡◌ {A = Res (Unit {0}) Stop} (Ok u) (if not b then Err (record { 0 = 16 }) else if may_write x a n then Ok tt else Err (record { 0 = 21 })) → a + n ≤ size
    go true q h = leb-true (a + n) size q
    go false q h = grind arith

pub args-length : (ops : List ℕ) → length (args_of ops) ≡ length ops
args-length ops = length-map ops (λ o. o / 64 % 256)

-- a store after i bytes of the arguments makes it i + 1
pub args_more : (mem ops : List ℕ) (a i : ℕ) → i < length ops
    → set (sets mem a (take i (args_of ops))) (a + i) (get_or ops i 0 / 64 % 256) ≡ sets mem a (take (i + 1) (args_of ops))
args_more mem ops a i h =
    ap (set (sets mem a (take i (args_of ops))) (a + i)) (sym (get_or-map (λ o. o / 64 % 256) ops i 0))
    ∙ sets_more mem (args_of ops) a i (omega (arith, args-length ops))

-- a text, and then its CR
pub text-stored : (x : Access) (mem text : List ℕ) (a : ℕ) {u : Unit {0}} → Ok u ≡ store_ends x (length mem) a (length text + 1)
    → after_store on (set (sets mem a text) (a + length text) 13) ≡ store_leaves mem (store_at x mem a (text ++ (13 ∷ [])))
text-stored x mem text a h = rw (← sets-append text (13 ∷ []) mem a) (stored x mem (text ++ (13 ∷ [])) a (length-append text (13 ∷ [])) h)

-- a string that was found is copied as a store of its bytes and the CR
module _ {x : Access} {mem : List ℕ} {from e : ℕ} (r : StringRuns x mem from e) (to : ℕ) where
  abbrev copy : AfterStore
  copy = store_leaves mem (bind (string_at x mem from) (λ bs. store_at x mem to (bs ++ (13 ∷ []))))

  abbrev whole : List ℕ
  whole = take (e + 1 - from) (drop from mem)

  size : length whole ≡ e + 1 - from
  size = length-take-le (e + 1 - from) (drop from mem) (let a = r.ahead in let b = r.inside in omega (arith, length-drop from mem))

  copy_is : store_leaves mem (store_at x mem to whole) ≡ copy
  copy_is = sym (rw (r.string, r.whole))

  -- where the store may be done, the bytes can be moved
  module _ {u : Unit {0}} (h : Ok u ≡ store_ends x (length mem) to (e + 1 - from)) where
    pub movable : can_move mem from to (e + 1 - from) ≡ true
    movable =
        let a = r.ahead in
        let b = r.inside in
        rw (le-leb (from + (e + 1 - from)) (length mem) (omega arith)) (le-leb (to + (e + 1 - from)) (length mem) (room x (length mem) to (e + 1 - from) h))

    pub copied : after_store on (moved mem from to (e + 1 - from)) ≡ copy
    copied =
        let g = room x (length mem) to (e + 1 - from) h in
        let k : moved mem from to (e + 1 - from) ≡ sets mem to whole = sym (sets-eq whole mem to (omega (arith, size)) ∙ rw size) in
        rw k (stored x mem whole to size h ∙ copy_is)

  pub not-copied : {f : Stop} → Err f ≡ store_ends x (length mem) to (e + 1 - from) → after_store (stop f.0) mem ≡ copy
  not-copied h = refused x mem whole to size h ∙ copy_is

-- in the world a store does what the definition says
pub left_in : (w : World) (r : Result (List ℕ)) → after_store_in w (store_leaves w.memory r) ≡ keep_in w r
unfolding keep_in
left_in w (is m) = refl
left_in w (no n) = refl
