-- What gathering answers, and what it leaves in the slots lent to it: all from the definition's `gather`.
use Rattle.std.specs.Prelude.{ℕ, ◌+◌, ◌-◌, List, [], ◌++◌, length, take, replicate, if◌then◌else◌}
use Rattle.std.proofs.Math.Option.{Option, none, some}
use Rattle.nibl.specs.Typing.{Kept, kept, Gathered}
use Rattle.letter.specs.declared.Gathering.{Gathering}
use Rattle.letter.specs.declared.Gathering.TheVariants.{Line, TooLong, NoCr}
use Rattle.letter.specs.declared.Tally.{Tally}

-- the answer for a gathering that began at a position: the next position, and how many bytes were kept
unfoldable pub answer : ℕ → Option Gathered → Gathering
answer at none = NoCr
answer at (some g) = if g.line.long then TooLong (at + g.taken) else Line (at + g.taken) (length g.line.bytes)

-- so many slots: the bytes, then zeros
unfoldable pub padded : ℕ → List ℕ → List ℕ
padded room bs = bs ++ replicate (room - length bs) 0

-- the slots afterwards: what was kept, over-long or not; all zero where no CR is left
unfoldable pub held : ℕ → Option Gathered → List ℕ
held room none = padded room []
held room (some g) = padded room g.line.bytes

-- what a tally says of the slots on the way
unfoldable pub kept_in : List ℕ → Tally → Kept
kept_in slots t = kept (take t.count slots) t.long
