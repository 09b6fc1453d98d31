-- What the column of a refused line says of the line that was gathered, and that a word could still go on.
use Rattle.std.specs.Prelude.{ℕ, ◌≡◌, Bool, true, false, ◌&&◌, List, ◌++◌, leb, length}
use Rattle.std.proofs.Math.Option.{some}
use Rattle.nibl.specs.Bytes.{is_capital, all}
use Rattle.nibl.specs.Words.{Token, Word}
use Rattle.nibl.specs.Typing.{Gathered}
use Rattle.nibl.specs.Fronts.{IsColumn}
use Rattle.nibl.specs.Lent.{Lent}
use Rattle.nibl.specs.Typing.{limit}
use Rattle.demands.specs.Lent.{gathered_line}

pub record Pointed (x : Lent) (column : ℕ) : Type 0 where
  pub gathered : Gathered
  pub line : gathered_line limit x ≡ some gathered
  pub over_long : gathered.line.long ≡ true → column ≡ limit
  pub exact : gathered.line.long ≡ false → IsColumn gathered.line.bytes column

-- a keyword has two letters or more
abbrev pub is_spelling : List ℕ → Bool
is_spelling w = leb 2 (length w) && all is_capital w

-- the text s goes on to one that begins with a word
pub record GoesOn (table : List (List ℕ)) (s : List ℕ) : Type 0 where
  pub rest : List ℕ
  pub word : Token
  pub after : List ℕ
  pub begun : Word table (s ++ rest) word after
