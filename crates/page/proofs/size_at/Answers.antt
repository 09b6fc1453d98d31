-- `size_at` meets its contract: the length byte, or what the page's end leaves of the record. Assumes nothing.
use mathlib.Core.Path.{◌≡◌, sym, ◌∙◌}
use native.Mathlib.Omega.{arith}
use lib.ListN.{drop, length-drop}
use Rattle.page.specs.Walk.{size_at}
use Rattle.page.proofs.Walk.{not-true, not-false, size_none, size_least, size-some}
use Rattle.page.proofs.size_at.Goals as goal

pub returns-then-not-has_record : goal.returns-then-not-has_record
returns-then-not-has_record c =
    let a = c.args in
    size_none (drop a.at a.page.now) (not-false _ (sym c.has_record.ensures ∙ c.if-not-has_record.true))

pub returns : goal.returns
returns c =
    let a = c.args in
    let stands = not-true _ (sym c.has_record.ensures ∙ c.if-not-has_record.false) in
    let s = size_least (drop a.at a.page.now) stands in
    let e : c.min.result ≡ size_at (drop a.at a.page.now) = omega (arith, s, length-drop a.at a.page.now) in
    (e, omega (arith, size-some (drop a.at a.page.now) stands))
