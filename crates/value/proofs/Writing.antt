-- Laws of writing items, for this crate's proofs and for callers to cite. Assumes nothing.
use Rattle.std.proofs.Common.{◌≡◌, length-set, ℕ, suc, ◌+◌, ◌-◌, ◌<◌, ◌≤◌, Bool, true, false, leb, List, [], ◌∷◌, ◌++◌, length, get_or, take, drop, set, sym, refl, ap, ◌∙◌, append_assoc, append-nil, add-zero, zero-add, add-one, arith, length-drop, drop_of_length-le, length-take-le, take_all, take-suc, drop-drop, le-leb, leb-true}
use Rattle.std.specs.Prelude.{Option, Some, None}
use lib.Seq.{sets, sets-eq, set_comm}
use borrow.Rule.Slice.PartMut.{put_mid, mid_of}
use borrow.Author.Tests.{lt-leb, leb-false}
use Rattle.value.proofs.Digits.{printed-length}
use Rattle.value.specs.Writes.{Writes, wrote_of}

-- two items one after the other are one
pub sets-append : (v w l : List ℕ) (i : ℕ) → sets l i (v ++ w) ≡ sets (sets l i v) (i + length v) w
sets-append [] w l i = rw add-zero refl
sets-append (a ∷ v) w l i =
    let e : suc i + length v ≡ i + suc (length v) = omega arith in
    sets-append v w (set l i a) (suc i) ∙ ap (λ k. sets (sets (set l i a) (suc i) v) k w) e

-- what is stored behind an item may be stored before it
pub set-before-sets : (v l : List ℕ) (i e a : ℕ) → i + length v ≤ e → sets (set l e a) i v ≡ set (sets l i v) e a
set-before-sets [] l i e a h = refl
set-before-sets (b ∷ v) l i e a h =
    ap (λ m. sets m (suc i) v) (set_comm l e i a b (λ q. omega arith)) ∙ set-before-sets v (set l i b) (suc i) e a (omega arith)

-- a store after i bytes of an item makes it i + 1
pub sets_more : (l s : List ℕ) (at i : ℕ) → i < length s → set (sets l at (take i s)) (at + i) (get_or s i 0) ≡ sets l at (take (i + 1) s)
sets_more l s at i h =
    let n : length (take i s) ≡ i = length-take-le i s (omega arith) in
    rw (add-one, take-suc s i 0 h, sets-append, n)

-- an item copied into the part that it fills is written in the whole
pub copied-sets : (l item : List ℕ) (at : ℕ) → at + length item ≤ length l → put_mid at (at + length item - at) l item ≡ sets l at item
copied-sets l item at h =
    let n : at + length item - at ≡ length item = omega arith in
    rw n (ap (λ r. take at l ++ (item ++ r)) (drop-drop (length item) at l) ∙ sym (sets-eq item l at h ∙ append_assoc (take at l) item (drop (at + length item) l)))

-- an item written to the front of the rest of an output is written in the whole
pub part-sets : (l item : List ℕ) (at : ℕ) → at + length item ≤ length l
    → put_mid at (length l - at) l (sets (mid_of at (length l - at) l) 0 item) ≡ sets l at item
part-sets l item at h =
    let short : length (drop at l) ≤ length l - at = omega (arith, length-drop at l) in
    let all : take (length l - at) (drop at l) ≡ drop at l = take_all (length l - at) (drop at l) short in
    let none : drop (length l - at) (drop at l) ≡ [] = drop_of_length-le (drop at l) short in
    let front : sets (drop at l) 0 item ≡ item ++ drop (at + length item) l =
    sets-eq item (drop at l) 0 (omega (arith, length-drop at l)) ∙ ap (λ r. item ++ r) (ap (λ k. drop k (drop at l)) (zero-add (length item)) ∙ drop-drop (length item) at l) in
    (λ i. take at l ++ (sets (all i) 0 item ++ none i))
    ∙ ap (λ r. take at l ++ r) (append-nil (sets (drop at l) 0 item) ∙ front)
    ∙ sym (sets-eq item l at h ∙ append_assoc (take at l) item (drop (at + length item) l))

-- room for so many bytes is room behind the position
pub room-behind : (room at size : ℕ) → at ≤ room → leb size (room - at) ≡ leb (at + size) room
room-behind room at size h = go (leb size (room - at)) refl
  where
    go : (t : Bool) → leb size (room - at) ≡ t → t ≡ leb (at + size) room
    go true e = let g = leb-true size (room - at) e in sym (le-leb (at + size) room (omega arith))
    go false e = let g = leb-false size (room - at) e in sym (lt-leb (at + size) room (omega arith))

-- what a test of the room says
pub room_for : (r : Bool) (room at size : ℕ) → r ≡ leb (at + size) room → r ≡ true → at + size ≤ room
room_for r room at size e t = leb-true (at + size) room (sym e ∙ t)

-- the room of what PRINT writes
pub ruleset rooms = (room_for, printed-length, length-set)

module _ (output item : List ℕ) (at : ℕ) where
  pub writes-whole : at + length item ≤ length output → Writes output at item (Some (at + length item)) (sets output at item)
  writes-whole h = let e = le-leb _ _ h in record { answer = rw e; output = rw e }

  pub writes-none : length output < at + length item → Writes output at item None output
  writes-none h = let e = lt-leb _ _ h in record { answer = rw e; output = rw e }

wrote-same : (r s : Option ℕ) → wrote_of r ≡ wrote_of s → r ≡ s
wrote-same (Some m) (Some n) e = let q : m ≡ n = cc in cc
wrote-same None None e = refl
wrote-same (Some m) None e = let z : ◌≡◌ {A = ℕ} 0 1 = cc in absurd (omega arith)
wrote-same None (Some n) e = let z : ◌≡◌ {A = ℕ} 0 1 = cc in absurd (omega arith)

-- the answer and the output after it are determined
pub writes-same : {before item after after' : List ℕ} {at : ℕ} {r s : Option ℕ} → Writes before at item r after → Writes before at item s after'
    → (r ≡ s) × (after ≡ after')
writes-same {r = r} {s = s} p q = (wrote-same r s (p.answer ∙ sym q.answer), p.output ∙ sym q.output)
