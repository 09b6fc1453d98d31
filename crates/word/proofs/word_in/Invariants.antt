-- `word::word_in` meets its contract: the end of the spaces from `i` on is that from `from` on, and each answer is a law of
-- Answers. Assumes nothing.
-- where the loop broke off the spaces end
use mathlib.Core.Path.{◌≡◌}
use Rattle.nibl.specs.Bytes.{is_space}
use Rattle.word.proofs.Runs.{run_end}
use Rattle.word.proofs.word_in.Given as goal

abbrev pub invariant-loop-i : goal.invariant-loop-i
invariant-loop-i l = run_end is_space l.text l.i ≡ run_end is_space l.text l.from
