-- `word::most_common` meets its contract: the most of the keys passed and of those to come. Assumes nothing.
use Rattle.std.proofs.Common.{◌≤◌, ◌≡◌, drop, max}
use Rattle.word.specs.Found.{most_key}
use Rattle.word.proofs.most_common.Given as goal

abbrev pub invariant-loop-k : goal.invariant-loop-k
invariant-loop-k l = (1 ≤ l.most) × (max l.most (most_key (drop l.k-index l.keys) l.text) ≡ most_key l.keys l.text)
