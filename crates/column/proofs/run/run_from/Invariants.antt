-- `run::run_from` meets its contract: each word, and each way out, is a law of Steps. Assumes nothing.
use Prim.Native.Nat.{◌-◌}
use lib.ListN.{length, drop}
use Rattle.word.specs.Found.{spellings_of}
use Rattle.column.specs.Runs.{run_by}
use Rattle.column.proofs.Steps.{Running}
use Rattle.column.proofs.run.run_from.Given as goal

abbrev pub invariant-loop-from : goal.invariant-loop-from
invariant-loop-from l =
    Running l.text (run_by (spellings_of l.commands) (drop l.bottom l.initial.stack) (drop l.from l.text)) l.initial.stack l.stack l.at l.by l.top

abbrev pub decreases-loop-from : goal.decreases-loop-from
decreases-loop-from l = length l.text - l.at
