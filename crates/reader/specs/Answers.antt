-- What the public readers answer, and what they leave in the lent list of operations.
use Rattle.std.specs.Prelude.{ℕ, Bool, ◌&&◌, List, length, replicate, leb}
use Rattle.std.specs.Prelude.{Result, Ok, Err}
use Rattle.reader.specs.declared.Unread.{Unread}
use Rattle.reader.specs.declared.Unread.TheVariants as unread
use Rattle.std.proofs.lemmas.List.Edits.{sets}
use Rattle.nibl.specs.Tree.{Member}
use Rattle.nibl.specs.found.Read.{Found, nothing, found}
use Rattle.reader.specs.Code.{compile}

-- room for an operation to each byte of a text whose counts fit into an operation
abbrev pub has_room : List ℕ → List ℕ → Bool
has_room text ops = leb (length text) (length ops) && leb (length text) 65535

abbrev pub zeros : List ℕ → List ℕ
zeros ops = replicate (length ops) 0

-- the first member of a text: the number of its operations, and the bytes from its end on
abbrev pub member_of : Found Member → Result (ℕ × ℕ) Unread
member_of nothing = Err unread.NoReading
member_of (found m t) = Ok ((length (compile m.statement)), m.left)

abbrev pub member_ops : List ℕ → Found Member → List ℕ
member_ops ops nothing = zeros ops
member_ops ops (found m t) = sets ops 0 (compile m.statement)
