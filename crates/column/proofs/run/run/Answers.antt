-- `run::run` meets its contract: the run from the bottom of the stack on. Assumes nothing.
use native.Mathlib.Omega.{arith}
use Rattle.column.proofs.Steps.{whole_run}
use Rattle.column.proofs.run.run.Goals as goal

pub returns-clause-answer : goal.returns-clause-answer
returns-clause-answer c =
    let a = c.args in
    whole_run a.commands a.text.now a.stack.now (omega (arith, c.requires)) c.line_symbol.ensures c.run_from.ensures.answer
