-- `run::remark` meets its contract. Assumes nothing.
use Rattle.std.proofs.Common.{rules, tests}
use Rattle.std.specs.Prelude.{not}
use Rattle.std.proofs.lemmas.Iterator.{YieldsList-from_slice}
use Rattle.std.proofs.lemmas.Iterator.Search.{position_from_yields_List}
use mathlib.Core.Path.{sym, ◌∙◌}
use Rattle.nibl.specs.Bytes.{is_text}
use Rattle.column.proofs.Steps.{from-here, remark-stuck, remark-alive}
use Rattle.column.proofs.run.remark.Goals as goal

pub returns-in-Some : goal.returns-in-Some
returns-in-Some c =
    remark-stuck c.args.text.now c.args.at c.requires c.in-Some.n
    (sym c.in-Some.is ∙ position_from_yields_List (λ b. not (is_text b)) _ _ c.position.result c.position.ensures.ran (YieldsList-from_slice _ (c.iter.ensures.rest ∙ from-here c.args.text.now c.args.at c.requires)) (λ x b q k. search (rules, tests)))

pub returns-in-None : goal.returns-in-None
returns-in-None c =
    remark-alive c.args.text.now c.args.at c.requires
    (sym c.in-None.is ∙ position_from_yields_List (λ b. not (is_text b)) _ _ c.position.result c.position.ensures.ran (YieldsList-from_slice _ (c.iter.ensures.rest ∙ from-here c.args.text.now c.args.at c.requires)) (λ x b q k. search (rules, tests)))
