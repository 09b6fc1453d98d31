-- `word::keyword_of` meets its contract: the two lists are the keys of the definition's, which antt computes. Assumes nothing.
use Rattle.word.proofs.keyword_of.Goals as goal

pub returns-else-commands : goal.returns-else-commands
returns-else-commands c = rw c.if-commands.false c.index_of-else-commands.ensures
