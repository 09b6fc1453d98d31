-- `fits_places` meets its contract: each live slot is asked. Assumes nothing.
use Rattle.std.proofs.Common.{rules, take, sym, ◌∙◌}
use Rattle.std.proofs.lemmas.Iterator.{YieldsList-from_slice}
use Rattle.std.proofs.lemmas.Iterator.Search.{all_from_yields_List}
use Rattle.nibl.specs.Page.{places_of}
use Rattle.record.specs.Fits.{is_saved}
use Rattle.record.proofs.Fitting.{all-list}
use Rattle.record.proofs.fits_places.Goals as goal

pub returns : goal.returns
returns c =
    let a = c.args in
    all_from_yields_List (is_saved (places_of a.page.now) a.marked) _ _ _ c.all.ensures.ran (YieldsList-from_slice (take a.stack.depth a.stack.places) (cc)) (λ x b q k. search rules)
    ∙ sym (all-list (is_saved (places_of a.page.now) a.marked) (take a.stack.depth a.stack.places))
