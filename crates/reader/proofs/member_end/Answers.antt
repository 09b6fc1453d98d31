-- `reader::member_end` meets its contract. Assumes nothing.
use mathlib.Core.Path.{subst, refl}
use Rattle.nibl.specs.Words.{keywords}
use Rattle.word.specs.Found.{WordIs}
use Rattle.reader.proofs.Ends.{end_none, end-last, end-colon, end-other, end-wrong}
use borrow.Enum.Refused.{opened}
use Rattle.reader.proofs.member_end.Goals as goal

pub returns-in_err-c : goal.returns-in_err-c
returns-in_err-c c = rw c.from_residual.ensures (end_none c.in_err-c.was)

pub returns-in-End : goal.returns-in-End
returns-in-End c = end-last c.in_ok-c.was (subst (WordIs keywords _ _) c.in-End.is c.word_at.ensures)

pub returns-in-Sign-eq58-default : goal.returns-in-Sign-eq58-default
returns-in-Sign-eq58-default c =
    end-colon c.in_ok-c.was c.in-Sign-eq58-default.field-0-test refl (subst (WordIs keywords _ _) c.in-Sign-eq58-default.is c.word_at.ensures)

pub returns-in_default : goal.returns-in_default
returns-in_default c = end-other c.in_ok-c.was c.in_default.field-0-test.1 c.in_default.ensures

pub returns-in_default-2 : goal.returns-in_default-2
returns-in_default-2 c = end-wrong c.in_ok-c.was c.word_at.result c.word_at.ensures (opened c.in_default.in_default-own.keys3)
