-- A single box is the double box whose own range is every address: what memory gives and takes is as it was. Assumes nothing.
use Rattle.std.specs.Prelude.{if◌then◌else◌}
use Prim.Native.Nat.{ℕ, suc, ◌+◌, ◌≤◌, ◌<◌}
use mathlib.Core.Path.{◌≡◌, refl}
use mathlib.Core.Bool.{Bool, true, false, not, ◌&&◌}
use mathlib.Core.List.{List, [], ◌∷◌}
use native.Mathlib.Omega.{arith}
use lib.ListN.{length, drop, length-drop, drop_of_length-le}
use lib.Dec.{ltb, leb, eqb}
use borrow.Author.Tests.{ltb-true, lt-ltb, le-leb, leb-true, leb-false}
use Rattle.nibl.specs.Bytes.{not_cr, front, all}
use Rattle.nibl.specs.Values.{is, no}
use Rattle.nibl.specs.Access.{may_read, every_address}
use Rattle.nibl.specs.Meaning.{bind, byte_of, string_from, string_at, store_at}
use Rattle.page.proofs.Walk.{by_cases}
use Rattle.changes.specs.OneBox.{byte_alone, string_alone, store_alone}

readable : (a : ℕ) → a < 65535 → may_read every_address a ≡ true
readable a h = rw (lt-ltb a 65535 h, le-leb 0 a (omega arith))

module _ (m : List ℕ) (short : length m ≤ 65535) (a : ℕ) where
  -- a byte that is there
  byte-one-box : byte_of every_address m a ≡ byte_alone m a
  unfolding byte_of byte_alone
  byte-one-box = by_cases (ltb a (length m)) (λ h. let l = ltb-true a (length m) h in rw (h, readable a (omega arith))) (λ h. rw h)

  store-one-box : (bs : List ℕ) → store_at every_address m a bs ≡ store_alone m a bs
  unfolding store_at store_alone
  store-one-box bs =
      by_cases (leb (a + length bs) (length m))
      (λ h. let l = leb-true (a + length bs) (length m) h in rw (h, le-leb 0 a (omega arith), le-leb (a + length bs) 65535 (omega arith))) (λ h. rw h)

string-from : (a : ℕ) (s : List ℕ) → a + length s ≤ 65535 → string_from every_address a s ≡ (if all not_cr s then no 16 else is (front not_cr s))
unfolding string_from
string-from a [] l = refl
string-from a (b ∷ s) l = rw (readable a (omega arith), string-from (suc a) s (omega arith)) (by (eqb b 13) (all not_cr s)) where
  by : (t c : Bool) → (if t then is [] else bind (if c then no 16 else is (front not_cr s)) (λ bs. is (b ∷ bs)))
      ≡ (if not t && c then no 16 else is (if not t then b ∷ front not_cr s else []))
  by true c = refl
  by false true = refl
  by false false = refl

module _ (m : List ℕ) (short : length m ≤ 65535) (a : ℕ) where
  string-one-box : string_at every_address m a ≡ string_alone m a
  unfolding string_at string_from string_alone
  string-one-box =
      by_cases (leb a (length m))
      (λ h. let l = leb-true a (length m) h in string-from a (drop a m) (omega (arith, length-drop a m)))
      (λ h. let l = leb-false a (length m) h in rw (drop_of_length-le m {i = a} (omega arith), string_from))

  -- "a single box is the double box whose range is the whole memory": no answer has changed
  pub single-box : (byte_of every_address m a ≡ byte_alone m a) × (string_at every_address m a ≡ string_alone m a) × ((bs : List ℕ) → store_at every_address m a bs ≡ store_alone m a bs)
  single-box = (byte-one-box m short a, string-one-box, store-one-box m short a)
