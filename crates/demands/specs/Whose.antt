-- Whose the bytes of the memory are, and what a byte or a store is refused with, in the words of both documents.
use Rattle.std.specs.Prelude.{ℕ, ◌+◌, ◌≤◌, ◌<◌}
use Rattle.nibl.specs.declared.access.Range.{Range}
use Rattle.nibl.specs.declared.access.Access.{Access}

-- a range has the bytes from its start up to its end, which is not among them
pub record Inside (r : Range) (p : ℕ) : Type 0 where
  pub from : r.from ≤ p
  pub to : p < r.to

-- "a range .. that only that box may read or write, and a shared range that both read and neither writes"
pub data MayRead (x : Access) (p : ℕ) : Type 0 where
  of_own : Inside x.own p → MayRead x p
  of_shared : Inside x.shared p → MayRead x p

-- n bytes from p on: all are its own, or one is not
abbrev pub AllOwn : Access → ℕ → ℕ → Type 0
AllOwn x p n = (i : ℕ) → p ≤ i → i < p + n → Inside x.own i

pub record OneForeign (x : Access) (p n : ℕ) : Type 0 where
  pub at : ℕ
  pub from : p ≤ at
  pub to : at < p + n
  pub foreign : Inside x.own at → ⊥

-- The byte at p that cannot be read, in a memory of so many: "a memory byte needed is not there" is 16; "21, a byte not this box's to
-- read .., beside 16"
pub data ByteRefused (x : Access) (memory p : ℕ) : ℕ → Type 0 where
  not_there : memory ≤ p → ByteRefused x memory p 16
  not_its_own : p < memory → (MayRead x p → ⊥) → ByteRefused x memory p 21

-- A store of n bytes from p on that cannot be done: "the outlying byte first for a store"
pub data StoreRefused (x : Access) (memory p n : ℕ) : ℕ → Type 0 where
  outlying : memory < p + n → StoreRefused x memory p n 16
  not_all_own : p + n ≤ memory → OneForeign x p n → StoreRefused x memory p n 21
