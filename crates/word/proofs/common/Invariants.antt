-- `word::common` meets its contract: what the rest of the spelling has in common with the rest of the text. Assumes nothing.
use Rattle.std.proofs.Common.{◌+◌, ◌≡◌, drop}
use Rattle.word.specs.Found.{key_common}
use Rattle.word.proofs.common.Given as goal

abbrev pub invariant-loop-i : goal.invariant-loop-i
invariant-loop-i l = l.i + key_common l.k (drop l.i l.text) ≡ key_common l.spelling l.text
