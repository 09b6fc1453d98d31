-- `fits_fors` meets its contract: each live slot is asked. Assumes nothing.
use Rattle.std.proofs.Common.{rules, take, sym, ◌∙◌}
use Rattle.std.proofs.lemmas.Iterator.{YieldsList-from_slice}
use Rattle.std.proofs.lemmas.Iterator.Search.{all_from_yields_List}
use Rattle.nibl.specs.Page.{places_of}
use Rattle.record.specs.Fits.{is_under_way}
use Rattle.record.proofs.Fitting.{all-list}
use Rattle.record.proofs.fits_fors.Goals as goal

pub returns : goal.returns
returns c =
    let a = c.args in
    all_from_yields_List (is_under_way (places_of a.page.now)) _ _ _ c.all.ensures.ran (YieldsList-from_slice (take a.stack.depth a.stack.entries) (cc)) (λ x b q k. search rules)
    ∙ sym (all-list (is_under_way (places_of a.page.now)) (take a.stack.depth a.stack.entries))
