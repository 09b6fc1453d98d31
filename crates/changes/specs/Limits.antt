-- Document 02's item 7: a program within two limits. What its sentences name: a record over a limit, a line that a call took though it
-- was over-long, and what a call leaves within a limit.
use Rattle.std.specs.Prelude.{ℕ, ◌+◌, ◌≤◌, ◌<◌, List, length, drop}
use Rattle.nibl.specs.Values.{digits}
use Rattle.nibl.specs.Lent.{Lent, Outcome, Left}
use Rattle.nibl.specs.Calls.{table_after}
use Rattle.demands.specs.Good.{RecordAt, Boundary}
use Rattle.demands.specs.Leaves.{WholeLines}
use Rattle.changes.specs.Alike.{LongLine}

-- a record of the page whose "number digits plus text" are over the limit
pub record LongRecord (lim : ℕ) (page : List ℕ) : Type 0 where
  pub at : ℕ
  pub number : ℕ
  pub text : List ℕ
  pub boundary : Boundary page at
  pub stands : RecordAt page at number text
  pub long : lim < length text + length (digits number)

-- a line of the input, typed or a reply, that is over-long and that a call took: behind whole lines, and no further than its answer's position
pub record TookLong (lim : ℕ) (x : Lent) (o : Outcome) : Type 0 where
  pub at : ℕ
  pub before : WholeLines lim x.input x.call.inpos at
  pub line : LongLine lim (drop at x.input)
  pub taken : at + line.gathered.taken ≤ o.answer.inpos

-- what the two calls leave within a limit, the table with it
abbrev pub leaves_in : ℕ → (ℕ → Lent → Outcome) → Lent → Left
leaves_in lim call x = record { outcome = call lim x; table = table_after lim x (call lim x) }
