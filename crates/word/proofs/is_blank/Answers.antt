-- `word::is_blank` meets its contract: by where the run of spaces ends. Assumes nothing.
use Rattle.word.proofs.Firsts.{blank}
use Rattle.word.proofs.is_blank.Goals as goal

pub returns : goal.returns
returns c = let a = c.args in blank a.text.now a.c.at c.space_end.result c.space_end.ensures
