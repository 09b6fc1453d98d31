-- `print_string` meets its contract: the string runs to its CR, or is not there. Assumes nothing.
-- the string was found
use native.Mathlib.Omega.{arith}
use Rattle.world.proofs.memory.Strings.{StringRuns, string-to}
use Rattle.effect.proofs.Answers.{string-put}
use Rattle.effect.proofs.print_string.Goals as goal

pub slice_bounds-write_item-end : goal.slice_bounds-write_item-end
slice_bounds-write_item-end c =
    let r = (let it : StringRuns c.args.access c.args.memory.now c.args.a c.in-Ok.end = let a = c.args in string-to a.access a.memory.now a.a _ c.in-Ok.is c.string_end.ensures in it) in omega arith

pub returns-in-Ok : goal.returns-in-Ok
returns-in-Ok c =
    let a = c.args in
    rw c.item_ends.ensures (string-put a.access a.parts a.memory.now a.output.now ((let it : StringRuns c.args.access c.args.memory.now c.args.a c.in-Ok.end = let a = c.args in string-to a.access a.memory.now a.a _ c.in-Ok.is c.string_end.ensures in it)) c.write_item.ensures)
