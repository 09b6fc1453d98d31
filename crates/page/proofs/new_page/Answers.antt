-- `new_page` meets its contract: two stores. Assumes nothing.
use Prim.Native.Nat.{ℕ}
use mathlib.Core.List.{List, [], ◌∷◌}
use mathlib.Core.Path.{◌≡◌, sym, ap, ◌∙◌}
use native.Mathlib.Omega.{arith}
use lib.Seq.{sets-eq}
use lib.ListN.{length, set, drop}
use borrow.Author.Tests.{le-leb, lt-leb}
use Rattle.page.specs.Edits.{new_of, changed}
use Rattle.page.specs.declared.Edited.TheVariants as edited
use Rattle.page.proofs.new_page.Goals as goal

pub returns-then-page-lt2 : goal.returns-then-page-lt2
unfolding new_of
returns-then-page-lt2 c = let p = c.args.page.now in sym (rw (lt-leb 2 (length p) c.if-page-lt2.true))

pub returns : goal.returns
unfolding new_of
returns c =
    let p = c.args.page.now in
    let e : set (set p 0 255) 1 255 ≡ 255 ∷ 255 ∷ drop 2 p = sets-eq (255 ∷ 255 ∷ []) p 0 (omega arith) in
    ap (λ (q : List ℕ). changed q edited.Done) e ∙ sym (rw (le-leb 2 (length p) c.if-page-lt2.false))
