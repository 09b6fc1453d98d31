-- One byte of a typed line, by its class: on what is kept, and on the slots that hold it. Assumes nothing.
use mathlib.Core.Path.{◌≡◌, sym}
use mathlib.Core.Bool.{true, false}
use mathlib.Core.List.{List, [], ◌∷◌, ◌++◌, append-nil}
use Prim.Native.Nat.{ℕ, ◌+◌, ◌-◌, ◌<◌, ◌≤◌}
use native.Mathlib.Numerals.{add-one}
use native.Mathlib.Omega.{arith}
use lib.ListN.{length, take, drop, set, replicate, length-drop, drop_of_length-le}
use lib.Seq.{length-take-le, take-take, take-suc-set}
use borrow.Rule.Slice.PartMut.{put_mid, mid_of}
use borrow.Author.Tests.{lt-ltb, le-ltb, ne_eqb}
use Rattle.nibl.specs.Bytes.{class_of}
use Rattle.nibl.specs.Typing.{Kept, kept, keep}
use Rattle.letter.specs.declared.Tally.{Tally}
use Rattle.letter.specs.Slots.{kept_in}

-- the byte is kept, if there is room
pub record Keepable (b : ℕ) : Type 0 where
  pub drop : class_of b ≡ 0 → ⊥
  pub erase : class_of b ≡ 2 → ⊥
  pub discard : class_of b ≡ 3 → ⊥

module _ (lim : ℕ) (k : Kept) (b : ℕ) where
  pub drops : class_of b ≡ 0 → keep lim k b ≡ k
  unfolding keep
  drops e = rw e

  pub erases : class_of b ≡ 2 → keep lim k b ≡ kept (take (length k.bytes - 1) k.bytes) k.long
  unfolding keep
  erases e = rw e

  pub discards : class_of b ≡ 3 → keep lim k b ≡ kept [] false
  unfolding keep
  discards e = rw e

  pub keeps : Keepable b → length k.bytes < lim → keep lim k b ≡ kept (k.bytes ++ (b ∷ [])) k.long
  unfolding keep
  keeps o h = rw (ne_eqb (class_of b) 0 o.drop, ne_eqb (class_of b) 2 o.erase, ne_eqb (class_of b) 3 o.discard, lt-ltb (length k.bytes) lim h)

  pub overflows : Keepable b → lim ≤ length k.bytes → keep lim k b ≡ kept k.bytes true
  unfolding keep
  overflows o h = rw (ne_eqb (class_of b) 0 o.drop, ne_eqb (class_of b) 2 o.erase, ne_eqb (class_of b) 3 o.discard, le-ltb (length k.bytes) lim h)

-- the slots, with a count and the mark of an over-long line
module _ (slots : List ℕ) (t : Tally) (fits : t.count ≤ length slots) (b : ℕ) where
  abbrev after : Kept
  after = keep (length slots) (kept_in slots t) b

  long : length (take t.count slots) ≡ t.count
  long = length-take-le t.count slots fits

  pub slot-erases : class_of b ≡ 2 → (n : ℕ) → n ≡ t.count - 1 → kept_in slots (record { count = n; long = t.long }) ≡ after
  unfolding kept_in
  slot-erases e n m =
      let h : t.count - 1 ≤ t.count = omega arith in
      rw (m, erases (length slots) (kept_in slots t) b e, long, take-take (t.count - 1) t.count slots h)

  pub slot-discards : class_of b ≡ 3 → kept_in slots (record { count = 0; long = false }) ≡ after
  unfolding kept_in
  slot-discards e = rw (discards (length slots) (kept_in slots t) b e)

  pub slot-keeps : Keepable b → t.count < length slots → kept_in (set slots t.count b) (record { count = t.count + 1; long = t.long }) ≡ after
  unfolding kept_in
  slot-keeps o h =
      let l : length (take t.count slots) < length slots = omega (arith, long) in
      rw (keeps (length slots) (kept_in slots t) b o l, add-one t.count, take-suc-set slots t.count b h)

  pub slot-overflows : Keepable b → length slots ≤ t.count → kept_in slots (record { count = t.count; long = true }) ≡ after
  unfolding kept_in
  slot-overflows o h =
      let l : length slots ≤ length (take t.count slots) = omega (arith, long) in
      sym (overflows (length slots) (kept_in slots t) b o l)

-- zeros in the part behind the first n slots
pub zeros_behind : (n : ℕ) (slots part : List ℕ) → n ≤ length slots → part ≡ replicate (length (mid_of n (length slots - n) slots)) 0
    → put_mid n (length slots - n) slots part ≡ take n slots ++ replicate (length slots - n) 0
zeros_behind n slots part h e =
    let l = length-drop n slots in
    let none : drop (length slots - n) (drop n slots) ≡ [] = drop_of_length-le (drop n slots) (omega arith) in
    let size : length (mid_of n (length slots - n) slots) ≡ length slots - n = length-take-le (length slots - n) (drop n slots) (omega arith) in
    rw (e, size, none, append-nil)

-- what a byte does to the slots, by its class
pub ruleset by_class = (drops, slot-erases, slot-discards, slot-keeps, slot-overflows)
