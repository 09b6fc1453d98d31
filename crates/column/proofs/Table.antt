-- The first rule for a word is the definition's, and lets no more come than may. Assumes nothing.
use Rattle.std.specs.Prelude.{if◌then◌else◌, Option as Maybe, None, Some, find, option_map}
use Rattle.std.proofs.lemmas.Option.{none-some, same_Some}
use Prim.Native.Nat.{ℕ, ◌≤◌}
use mathlib.Core.Path.{◌≡◌, refl, sym, ap, ◌∙◌}
use mathlib.Core.Bool.{Bool, true, false, cond}
use mathlib.Core.List.{List, [], ◌∷◌, ◌++◌}
use mathlib.Core.Option.{Option, none, some}
use native.Mathlib.Omega.{arith}
use denote.Ref.{Bor}
use borrow.Author.Tests.{leb-true, ne_eqb, eq-eqb, eqb-true, eqb-false}
use lib.Dec.{eqb, leb}
use lib.ListN.{length, take}
use Rattle.nibl.specs.Bytes.{all}
use Rattle.nibl.specs.found.Read.{choose}
use Rattle.nibl.specs.found.Column.{Cases, rules, cases_of, case_in}
use Rattle.nibl.proofs.Words.{and_left, and_right}
use Rattle.column.specs.Rules.{Rule, cases, cases_if, is_rule, most_after}

-- The first rule for a word
eqb-flip : (a b : ℕ) → eqb a b ≡ eqb b a
eqb-flip a b = go (eqb a b) refl
  where
    go : (t : Bool) → eqb a b ≡ t → t ≡ eqb b a
    go true e = sym (eq-eqb b a (sym (eqb-true a b e)))
    go false e = sym (ne_eqb b a (λ d. eqb-false a b e (sym d)))

abbrev next_in : Maybe Rule → Option (List ℕ)
next_in None = none
next_in (Some rule) = some (take rule.1 rule.2)

find-case : (rs : List Rule) (k : ℕ) → next_in (find (λ (r : Rule). eqb r.0 k) rs) ≡ case_in (cases rs) k
find-case [] k = refl
find-case (r ∷ rs) k = rw (eqb-flip k r.0) (go (eqb r.0 k) (find-case rs k))
  where
    go : (t : Bool) → next_in (find (λ (r : Rule). eqb r.0 k) rs) ≡ case_in (cases rs) k
        → next_in (cond t (Some r) (find (λ (r : Rule). eqb r.0 k) rs)) ≡ (if t then some (take r.1 r.2) else case_in (cases rs) k)
    go true e = refl
    go false e = e

find-room : (rs : List Rule) (k : ℕ) → all is_rule rs ≡ true → (r : Rule) → find (λ (r : Rule). eqb r.0 k) rs ≡ Some r → r.1 ≤ length r.2
find-room [] k a r e = absurd (none-some r e)
find-room (q ∷ rs) k a r e = go (eqb q.0 k) (find-room rs k (and_right (is_rule q) (all is_rule rs) a) r) e
  where
    go : (t : Bool) → (find (λ (r : Rule). eqb r.0 k) rs ≡ Some r → r.1 ≤ length r.2)
        → cond t (Some q) (find (λ (r : Rule). eqb r.0 k) rs) ≡ Some r → r.1 ≤ length r.2
    go true i e = rw (sym (same_Some q r e)) (leb-true q.1 (length q.2) (and_left (is_rule q) (all is_rule rs) a))
    go false i e = i e

module _ (own : List Rule) (also : Maybe ℕ) (x k : ℕ) (o : Maybe (Bor Rule)) (e : cases own ++ cases_if also ≡ cases_of x)
    (f : option_map (λ (r : Bor Rule). r.now) o ≡ find (λ (r : Rule). eqb r.0 k) own) where
  own-case : next_in (option_map (λ (r : Bor Rule). r.now) o) ≡ case_in (cases own) k
  own-case = ap next_in f ∙ find-case own k

  either : (cs ds : Cases) → case_in (cs ++ ds) k ≡ elim (case_in cs k) [ some n ↦ some n | none ↦ case_in ds k ]
  either [] ds = refl
  either (c ∷ cs) ds = go (eqb k c.0) (either cs ds)
    where
      go : (t : Bool) → case_in (cs ++ ds) k ≡ elim (case_in cs k) [ some n ↦ some n | none ↦ case_in ds k ]
          → (if t then some c.1 else case_in (cs ++ ds) k) ≡ elim (if t then some c.1 else case_in cs k) [ some n ↦ some n | none ↦ case_in ds k ]
      go true i = refl
      go false i = i

  whole : (n : Option (List ℕ)) → n ≡ case_in (cases own) k → elim n [ some m ↦ some m | none ↦ case_in (cases_if also) k ] ≡ case_in (cases_of x) k
  whole n i = rw i (sym (either (cases own) (cases_if also))) ∙ ap (λ (cs : Cases). case_in cs k) e

  pub rule-hit : (r : Bor Rule) → o ≡ Some r → some (take r.now.1 r.now.2) ≡ case_in (cases_of x) k
  rule-hit r i = whole (some (take r.now.1 r.now.2)) (sym (ap (λ (o : Maybe (Bor Rule)). next_in (option_map (λ (r : Bor Rule). r.now) o)) i) ∙ own-case)

  pub rule-room : all is_rule own ≡ true → (r : Bor Rule) → o ≡ Some r → r.now.1 ≤ length r.now.2
  rule-room a r i = find-room own k a r.now (sym f ∙ ap (λ (o : Maybe (Bor Rule)). option_map (λ (r : Bor Rule). r.now) o) i)

  pub rule-miss : o ≡ None → case_in (cases_if also) k ≡ case_in (cases_of x) k
  rule-miss i = whole none (sym (ap (λ (o : Maybe (Bor Rule)). next_in (option_map (λ (r : Bor Rule). r.now) o)) i) ∙ own-case)

-- No rule lets more come than `most_after`
abbrev short : ℕ × List ℕ → Bool
short c = leb (length c.1) most_after

chosen-short : (cs : List (ℕ × Cases)) (x : ℕ) → all (λ (c : ℕ × Cases). all short c.1) cs ≡ true → all short (choose cs [] x) ≡ true
chosen-short [] x a = refl
chosen-short (c ∷ cs) x a = go (eqb x c.0) (chosen-short cs x (and_right (all short c.1) (all (λ (c : ℕ × Cases). all short c.1) cs) a))
  where
    go : (t : Bool) → all short (choose cs [] x) ≡ true → all short (if t then c.1 else choose cs [] x) ≡ true
    go true i = and_left (all short c.1) (all (λ (c : ℕ × Cases). all short c.1) cs) a
    go false i = i

case-short : (cs : Cases) (k : ℕ) (n : List ℕ) → all short cs ≡ true → some n ≡ case_in cs k → length n ≤ most_after
case-short [] k n a e = let z : ◌≡◌ {A = ℕ} 0 1 = cc in absurd (omega arith)
case-short (c ∷ cs) k n a e = go (eqb k c.0) (case-short cs k n (and_right (short c) (all short cs) a)) e
  where
    go : (t : Bool) → (some n ≡ case_in cs k → length n ≤ most_after) → some n ≡ (if t then some c.1 else case_in cs k) → length n ≤ most_after
    go true i e = let j : n ≡ c.1 = cc in omega (arith, ap (λ (l : List ℕ). length l) j, leb-true (length c.1) most_after (and_left (short c) (all short cs) a))
    go false i e = i e

pub next-short : (x k : ℕ) (n : List ℕ) → some n ≡ case_in (cases_of x) k → length n ≤ most_after
next-short x k n e = case-short (cases_of x) k n (chosen-short rules x refl) e
