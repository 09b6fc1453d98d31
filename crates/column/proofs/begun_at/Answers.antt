-- `column::begun_at` meets its contract. Assumes nothing.
use mathlib.Core.Path.{refl}
use lib.ListN.{take}
use native.Mathlib.Omega.{arith}
use Rattle.column.proofs.Fronts.{ends-found, begun-laid}
use Rattle.column.proofs.begun_at.Goals as goal

pub returns-clause-answer : goal.returns-clause-answer
returns-clause-answer c =
    let a = c.args in
    begun-laid a.text.now a.n _ a.z.now a.i (omega (arith, c.requires.0.behind)) (ends-found (take a.n a.text.now) c.split_at.ensures.front c.if-not-ends_with.ensures.value (c.if-not-ends_with.ensures.bound refl)) c.split_at.ensures.back c.copy_from_slice.ensures.after c.all_taken.ensures.answer
