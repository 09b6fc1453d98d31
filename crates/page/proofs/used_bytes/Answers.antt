-- `used_bytes` meets its contract: from the first record on. Assumes nothing.
use mathlib.Core.Path.{◌∙◌}
use native.Mathlib.Omega.{arith}
use Rattle.nibl.specs.Page.{used}
use Rattle.page.proofs.used_bytes.Goals as goal

pub returns : goal.returns
unfolding used
returns c = c.used_from.ensures ∙ omega arith
