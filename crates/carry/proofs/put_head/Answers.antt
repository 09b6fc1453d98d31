-- `put_head` meets its contract: its pieces one behind the other. Assumes nothing.
-- the output with the variables in it has its length
use Prim.Native.Nat.{◌+◌}
use mathlib.Core.Path.{ap, ◌∙◌}
use lib.Seq.{sets}
use mir.Syntax.{w16}
use borrow.Kind.Array.{e_int, good_length}
use Rattle.nibl.specs.Saved.{two_bytes}
use Rattle.carry.proofs.Forms.{head-pieces}
use Rattle.carry.proofs.put_head.Goals as goal

pub returns : goal.returns
returns c =
    let a = c.args in
    c.put_two.ensures
    ∙ ap (λ o. sets o (a.at + 54) (two_bytes a.lines)) c.put_values.ensures
    ∙ head-pieces a.output.now a.vars a.at a.lines (good_length (e_int w16) 26 a.vars _ c.well_formed.1.1.0)
