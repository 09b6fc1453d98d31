-- `next` meets its contract: a record that begins is within the page, and the walk goes on behind it. Assumes nothing.
use native.Mathlib.Omega.{arith}
use Rattle.std.proofs.Common.{rules}
use Rattle.page.proofs.Walk.{met}
use Rattle.page.proofs.RecordsIterator.next.Goals as goal

pub overflow_add-self : goal.overflow_add-self
overflow_add-self c =
    let s = c.args.self.now in
    let m = met s.page.now s.at c.in_ok-size.size c.in_ok-size.ensures.0 c.in_ok-size.ensures.1 in
    omega (arith, m.inside, m.next)

pub returns-clause-goes : goal.returns-clause-goes
returns-clause-goes c =
    let s = c.args.self.now in
    let m = met s.page.now s.at c.in_ok-size.size c.in_ok-size.ensures.0 c.in_ok-size.ensures.1 in
    search rules
