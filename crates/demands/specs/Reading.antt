-- What runs is the reading: the member of a statement list that is next at a position of the page. Nothing here looks for a reading.
use Rattle.std.specs.Prelude.{ℕ, suc, ◌+◌, List, ◌∷◌, length}
use Rattle.nibl.specs.Tree.{Member}
use Rattle.nibl.specs.Readings.{ListReading}
pub use Rattle.nibl.specs.Runs.{Standing}
use Rattle.demands.specs.Good.{RecordAt, EndMark, Boundary, place_of}

-- the member m of the text t, in the record of number n that stands at `at`
abbrev pub standing : ℕ → ℕ → List ℕ → Member → Standing
standing at n t m = record { statement = m.statement; line = n; place = place_of at t m; cr = at + 3 + length t }

-- one member, and the other next after it
pub data InTurn (l m : Member) : List Member → Type 0 where
  here : {ms : List Member} → InTurn l m (l ∷ m ∷ ms)
  later : {k : Member} {ms : List Member} → InTurn l m ms → InTurn l m (k ∷ ms)

-- the member that is next at a position: the first of a record's, where the record stands; behind the ":" that ends a member the one after it
pub data NextAt (page : List ℕ) : ℕ → Standing → Type 0 where
  first_of : {at n : ℕ} {t : List ℕ} {m : Member} {ms : List Member} → Boundary page at → RecordAt page at n t → ListReading t (m ∷ ms)
      → NextAt page at (standing at n t m)
  after : {at n : ℕ} {t : List ℕ} {l m : Member} {ms : List Member} → Boundary page at → RecordAt page at n t → ListReading t ms → InTurn l m ms
      → NextAt page (suc (place_of at t l)) (standing at n t m)

-- "past the last line": the end mark stands there, at a record boundary
pub record PastTheLast (page : List ℕ) (q : ℕ) : Type 0 where
  pub boundary : Boundary page q
  pub mark : EndMark page q
