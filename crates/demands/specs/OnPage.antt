-- The records, GOTO's lines and TOP on a good page, over the bytes: nothing here walks the page.
use Rattle.std.specs.Prelude.{ℕ, ◌+◌, List, [], ◌∷◌, length}
use Rattle.nibl.specs.Page.{Stored}
use Rattle.demands.specs.Good.{RecordAt, EndMark, Boundary}

-- these records stand one behind the other from a position of the page on, each with its number and its text, and then the end mark
pub data RecordsStand (page : List ℕ) : ℕ → List Stored → Type 0 where
  no_more : {at : ℕ} → EndMark page at → RecordsStand page at []
  one_more : {at : ℕ} {r : Stored} {rs : List Stored} → RecordAt page at r.line r.text → RecordsStand page (at + (length r.text + 4)) rs
      → RecordsStand page at (r ∷ rs)

-- the record of a number stands at a position of the page, at a record boundary
pub record LineStands (page : List ℕ) (n at : ℕ) : Type 0 where
  pub boundary : Boundary page at
  pub text : List ℕ
  pub stands : RecordAt page at n text

-- the end mark stands there, at a record boundary
pub record MarkStands (page : List ℕ) (at : ℕ) : Type 0 where
  pub boundary : Boundary page at
  pub stands : EndMark page at
