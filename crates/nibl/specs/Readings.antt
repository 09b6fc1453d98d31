-- Document 01's grammar with document 02's rule of words: over the keywords, and at the front of an immediate line the commands.
use Rattle.std.specs.Prelude.{ℕ, List}
use Rattle.nibl.specs.Words.{Word, keywords, commands}
use Rattle.nibl.specs.Tree.{Expr, Member, Typed}
use Rattle.nibl.specs.Grammar.{Members, Reply, Line}

-- "the text has a reading as a statement list"
abbrev pub ListReading : List ℕ → List Member → Type 0
ListReading s ms = Members (Word keywords) s ms

abbrev pub ReplyReading : ℕ → List ℕ → List Expr → Type 0
ReplyReading n s es = Reply (Word keywords) n s es

abbrev pub LineReading : List ℕ → Typed → Type 0
LineReading s y = Line (Word keywords) (Word commands) s y
