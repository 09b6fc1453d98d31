-- `reader::kind_at` meets its contract. Assumes nothing.
use mathlib.Core.Path.{subst}
use Rattle.nibl.specs.Words.{keywords}
use Rattle.word.specs.Found.{WordIs}
use Rattle.reader.proofs.Heads.{kind-none, kind-variable, kind-text, kind-sign, kind-other}
use borrow.Enum.Refused.{opened}
use Rattle.reader.proofs.kind_at.Goals as goal

pub returns-in_default : goal.returns-in_default
returns-in_default c = kind-none c.in_default.is

pub returns-in-Variable : goal.returns-in-Variable
returns-in-Variable c = kind-variable c.in-Some.is (subst (WordIs keywords _ _) c.in-Variable.is c.word_at.ensures)

pub returns-in-Text : goal.returns-in-Text
returns-in-Text c = kind-text c.in-Some.is (subst (WordIs keywords _ _) c.in-Text.is c.word_at.ensures)

pub returns-in-Sign : goal.returns-in-Sign
returns-in-Sign c = kind-sign c.in-Some.is (subst (WordIs keywords _ _) c.in-Sign.is c.word_at.ensures)

pub returns-in_default-word_at : goal.returns-in_default-word_at
returns-in_default-word_at c = kind-other c.in-Some.is c.word_at.result c.word_at.ensures (opened c.in_default-word_at.in_default-word_at-own.keys4)
