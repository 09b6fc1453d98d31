-- `word::stands` meets its contract: what is left of the spelling stands where the text was read to. Assumes nothing.
use Rattle.std.proofs.Common.{◌+◌, ◌-◌, ◌≤◌, ◌≡◌, length, drop}
use Rattle.nibl.specs.Words.{begins}
use Rattle.word.proofs.stands.Given as goal

abbrev pub invariant-loop-i : goal.invariant-loop-i
invariant-loop-i l =
    (l.i ≤ length l.text - l.at) × (begins (drop l.i l.spelling) (drop (l.at + l.i) l.text) ≡ begins l.spelling (drop l.at l.text))
