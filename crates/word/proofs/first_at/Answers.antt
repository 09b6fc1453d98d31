-- `word::first_at` meets its contract: by where the run of spaces ends. Assumes nothing.
use Rattle.std.proofs.Common.{◌∙◌}
use Rattle.word.proofs.Firsts.{first_byte}
use Rattle.word.proofs.first_at.Goals as goal

pub returns : goal.returns
returns c = let a = c.args in c.byte_at.ensures ∙ first_byte a.text.now a.c.at c.space_end.result c.space_end.ensures
