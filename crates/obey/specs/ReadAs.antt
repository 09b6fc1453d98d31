-- What a typed line was read as.
use Rattle.std.specs.Prelude.{ℕ, ◌≤◌, List, ◌≡◌, length, take}
use Rattle.std.proofs.Math.Option.{some}
use Rattle.nibl.specs.Tree.{Stmt, immediate}
use Rattle.nibl.specs.found.Read.{typed}
use Rattle.nibl.specs.Typing.{limit}
use Rattle.reader.specs.Code.{compile}
use Rattle.line.specs.Answers.{kind_of}
use Rattle.line.specs.declared.LineRead.{LineRead}

-- an immediate statement's operations are the first ones
pub record ReadAs (text : List ℕ) (kind : LineRead) (ops : List ℕ) : Type 0 where
  pub short : length text ≤ limit
  pub kind-is : kind ≡ kind_of (length text) (typed text)
  pub codes : (q : Stmt) → typed text ≡ some (immediate q) → (length (compile q) ≤ length ops) × (take (length (compile q)) ops ≡ compile q)
