-- `word::letters_end` meets its contract: with few bytes left the cut takes nothing away. Assumes nothing.
use Rattle.nibl.specs.Bytes.{is_capital}
use Rattle.word.proofs.Capitals.{end-near, end-far}
use Rattle.word.proofs.letters_end.Goals as goal

pub returns-then-text-from-le-LONGEST_KEYWORD : goal.returns-then-text-from-le-LONGEST_KEYWORD
returns-then-text-from-le-LONGEST_KEYWORD c =
    let a = c.args in end-near a.text.now a.from c.if-text-from-le-LONGEST_KEYWORD.true (c.run_end.ensures is_capital (λ b r h e. e))

pub returns : goal.returns
returns c = let a = c.args in end-far a.text.now a.from (c.run_end-2.ensures is_capital (λ b r h e. e))
