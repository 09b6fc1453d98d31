-- `reader::counted_variables` meets its contract. Assumes nothing.
use mathlib.Core.Path.{◌∙◌}
use Rattle.reader.proofs.Ways.{countable, variables-are}
use Rattle.reader.proofs.counted_variables.Goals as goal

pub counted-requires : goal.counted-requires
counted-requires c =
    countable c.requires c.write-a.ensures c.variables-s.ensures (c.variables-s.auto.ops ∙ c.write-a.auto.ops)

pub returns : goal.returns
returns c = variables-are c.write-a.ensures c.variables-s.ensures c.counted.ensures
