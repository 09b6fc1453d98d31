-- `reader::form` meets its contract. Assumes nothing.
use native.Mathlib.Omega.{arith}
use Rattle.nibl.specs.found.Read.{statement_cases, statement as a_statement}
use Rattle.reader.proofs.Spending.{looser}
use Rattle.reader.proofs.Ways.{case_at, goto-is, gosub-is, until-is, next-is, return-is, do-is, end_is}
use Rattle.reader.proofs.form.Goals as goal

pub returns-in-132 : goal.returns-in-132
returns-in-132 c = case_at (statement_cases a_statement) c.in-132.is (goto-is c.with_relation.ensures)

pub returns-in-133 : goal.returns-in-133
returns-in-133 c = case_at (statement_cases a_statement) c.in-133.is (gosub-is c.with_relation-in-133.ensures)

pub returns-in-134 : goal.returns-in-134
returns-in-134 c = case_at (statement_cases a_statement) c.in-134.is (return-is c.write.ensures)

pub returns-in-139 : goal.returns-in-139
returns-in-139 c = case_at (statement_cases a_statement) c.in-139.is (do-is c.write-in-139.ensures)

pub returns-in-140 : goal.returns-in-140
returns-in-140 c = case_at (statement_cases a_statement) c.in-140.is (until-is c.with_relation-in-140.ensures)

pub returns-in-143 : goal.returns-in-143
returns-in-143 c = case_at (statement_cases a_statement) c.in-143.is (next-is c.with_variable.ensures)

pub returns-in-145 : goal.returns-in-145
returns-in-145 c =
    case_at (statement_cases a_statement) c.in-145.is (looser (omega arith) (c.remark.ensures c.args.ops.now))

pub returns-in-146 : goal.returns-in-146
returns-in-146 c = case_at (statement_cases a_statement) c.in-146.is (end_is c.write-in-146.ensures)
