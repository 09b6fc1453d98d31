-- Live slots looked at one by one, and what it is to fit once the depths are in range.
-- Assumes nothing.
use Rattle.std.specs.List.{list_all}
use Prim.Native.Nat.{ℕ, zero, suc, ◌≤◌, ◌<◌}
use mathlib.Core.Path.{◌≡◌, refl, sym, ap, ◌∙◌}
use mathlib.Core.Bool.{Bool, true, false, ◌&&◌, and-false, and_assoc, or-false}
use mathlib.Core.List.{List, [], ◌∷◌}
use native.Mathlib.Omega.{arith}
use lib.ListN.{length, get_or, take}
use lib.Dec.{ltb, leb}
use borrow.Author.Tests.{le-leb, lt-leb}
use Rattle.nibl.specs.Bytes.{all}
use Rattle.nibl.specs.Page.{places_of, is_among, fits_paused, fits}
use Rattle.nibl.specs.Record.{position}
use Rattle.nibl.specs.declared.Place.{Place}
use Rattle.nibl.specs.declared.Session.{Session}
use Rattle.page.proofs.Program.{both}
use Rattle.record.specs.Fits.{is_saved, is_under_way, stacks_fit}

-- `all` of the definition is std's
pub all-list : {A : Type 0} (p : A → Bool) (xs : List A) → all p xs ≡ list_all p xs
all-list p [] = refl
all-list p (x ∷ xs) = ap (λ (b : Bool). p x && b) (all-list p xs)

-- A session record and the places of a page: the tests, those of the stacks' places together
pub fits-tests : (page : List ℕ) (s : Session)
    → fits page s ≡ (leb s.gosubs.depth 8 && (leb s.dos.depth 8 && (leb s.fors.depth 4 && (stacks_fit (places_of page) s && (ltb s.flags 8 && fits_paused (places_of page) s.paused)))))
unfolding fits
fits-tests page s =
    let ps : List ℕ = places_of page in
    let gosubs : Bool = all (is_saved ps true) (take s.gosubs.depth s.gosubs.places) in
    let dos : Bool = all (is_saved ps false) (take s.dos.depth s.dos.places) in
    let fors : Bool = all (is_under_way ps) (take s.fors.depth s.fors.entries) in
    let rest : Bool = ltb s.flags 8 && fits_paused ps s.paused in
    ap (λ (b : Bool). leb s.gosubs.depth 8 && (leb s.dos.depth 8 && (leb s.fors.depth 4 && b)))
    ((λ i. gosubs && (all (λ (p : Place). sym (or-false (is_among ps (position p))) i) (take s.dos.depth s.dos.places) && (fors && rest)))
    ∙ ap (λ (b : Bool). gosubs && b) (sym (and_assoc dos fors rest))
    ∙ sym (and_assoc gosubs (dos && fors) rest))
