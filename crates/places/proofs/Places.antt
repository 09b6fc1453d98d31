-- The places of a page by its records: a place lies inside its own record, so the others need not be asked.
-- Assumes nothing.
use Prim.Native.Nat.{ℕ, ◌+◌, ◌-◌, ◌≤◌, ◌<◌}
use mathlib.Core.Path.{◌≡◌, refl, ap, ◌∙◌}
use mathlib.Core.Bool.{Bool, false, ◌||◌, or-false}
use mathlib.Core.List.{List, [], ◌∷◌}
use mathlib.Core.Option.{Option, none, some}
use native.Mathlib.Omega.{arith}
use lib.ListN.{length}
use lib.Dec.{eqb}
use borrow.Author.Tests.{ne_eqb, eq-eqb, eqb-true, eqb-false}
use Rattle.nibl.specs.Tree.{Member}
use Rattle.nibl.specs.found.Read.{reading}
use Rattle.nibl.specs.Page.{Stored, size, ends_from, ends_of, places_in, is_among}
use Rattle.page.proofs.Walk.{by_cases}
use Rattle.page.proofs.Standing.{among-append}

-- the ends of a text's members lie from its first byte to its end
ends-apart : (at n : ℕ) (o : Option (List Member)) (p : ℕ) → ((k : ℕ) → k ≤ n → p ≡ at + k → ⊥) → is_among (ends_of at n o) p ≡ false
ends-apart at n none p h = refl
ends-apart at n (some ms) p h = go ms
  where
    go : (ms : List Member) → is_among (ends_from at n ms) p ≡ false
    go [] = refl
    go (m ∷ ms) = rw (ne_eqb p (at + (n - m.left)) (h (n - m.left) (omega arith))) (go ms)

pub ends-below : (at n : ℕ) (o : Option (List Member)) (p : ℕ) → p < at → is_among (ends_of at n o) p ≡ false
ends-below at n o p h = ends-apart at n o p (λ k l e. omega arith)

pub ends_above : (at n : ℕ) (o : Option (List Member)) (p : ℕ) → at + n < p → is_among (ends_of at n o) p ≡ false
ends_above at n o p h = ends-apart at n o p (λ k l e. omega arith)

-- wherever the text stands
pub ends-shift : (k at n : ℕ) (o : Option (List Member)) (p : ℕ) → is_among (ends_of (k + at) n o) (k + p) ≡ is_among (ends_of at n o) p
ends-shift k at n none p = refl
ends-shift k at n (some ms) p = go ms
  where
    go : (ms : List Member) → is_among (ends_from (k + at) n ms) (k + p) ≡ is_among (ends_from at n ms) p
    go [] = refl
    go (m ∷ ms) =
        by_cases (eqb p (at + (n - m.left)))
        (λ e. let f = eqb-true p (at + (n - m.left)) e in rw (e, eq-eqb (k + p) (k + at + (n - m.left)) (omega arith)))
        (λ e. let f = eqb-false p (at + (n - m.left)) e in rw (e, ne_eqb (k + p) (k + at + (n - m.left)) (λ g. f (omega arith))) (go ms))

places-below : (at : ℕ) (rs : List Stored) (p : ℕ) → p < at → is_among (places_in at rs) p ≡ false
places-below at [] p h = refl
places-below at (r ∷ rs) p h =
    among-append (ends_of (at + 3) (length r.text) (reading r.text)) (places_in (at + size r) rs) p
    ∙ rw (ends-below (at + 3) (length r.text) (reading r.text) p (omega arith)) (places-below (at + size r) rs p (omega arith))

module _ (at : ℕ) (r : Stored) (rs : List Stored) (p : ℕ) where
  -- a position that lies in a record is a place by that record alone
  pub places-here : at ≤ p → p - at < size r → is_among (places_in at (r ∷ rs)) p ≡ is_among (ends_of 3 (length r.text) (reading r.text)) (p - at)
  places-here h i =
      let t : List ℕ = r.text in
      let e : p ≡ at + (p - at) = omega arith in
      among-append (ends_of (at + 3) (length t) (reading t)) (places_in (at + size r) rs) p
      ∙ ap (λ (b : Bool). is_among (ends_of (at + 3) (length t) (reading t)) p || b) (places-below (at + size r) rs p (omega arith))
      ∙ or-false (is_among (ends_of (at + 3) (length t) (reading t)) p)
      ∙ ap (is_among (ends_of (at + 3) (length t) (reading t))) e
      ∙ ends-shift at 3 (length t) (reading t) (p - at)

  -- and one that lies past it by those after it
  pub places-past : at ≤ p → size r ≤ p - at → is_among (places_in at (r ∷ rs)) p ≡ is_among (places_in (at + size r) rs) p
  places-past h i =
      among-append (ends_of (at + 3) (length r.text) (reading r.text)) (places_in (at + size r) rs) p
      ∙ rw (ends_above (at + 3) (length r.text) (reading r.text) p (omega arith))
