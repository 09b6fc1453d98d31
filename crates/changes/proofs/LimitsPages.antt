-- A page that is good within a limit is good within a larger one, with the same lines; one with a longer line is bad. Assumes nothing.
use Prim.Native.Nat.{ℕ, suc, ◌+◌, ◌≤◌}
use mathlib.Core.Path.{◌≡◌, refl, subst}
use mathlib.Core.Bool.{false}
use mathlib.Core.List.{List}
use native.Mathlib.Omega.{arith}
use lib.ListN.{length}
use Rattle.nibl.specs.Values.{digits}
use Rattle.nibl.specs.Page.{is_good}
use Rattle.nibl.specs.Lent.{Lent, Outcome, stops, lent_world, unchanged}
use Rattle.nibl.specs.FirstRefusals.{has_table, first_refusal}
use Rattle.nibl.specs.Calls.{take_line_in, continue_run_in, table_after}
use Rattle.nibl.proofs.Exact.{members-unique}
use Rattle.page.proofs.Walk.{by_cases}
use Rattle.demands.specs.Lent.{InRange}
use Rattle.demands.specs.Good.{Boundary, start, behind, ends, goes_on, GoodText, GoodFrom, GoodPage}
use Rattle.demands.proofs.Good.{good-exact}
use Rattle.demands.proofs.Accepted.{in-range-is}
use Rattle.changes.specs.Kept.{lines_in}
use Rattle.changes.specs.Limits.{LongRecord, leaves_in}
use Rattle.changes.proofs.PageKept.{one-record, no_end, same_lines}

module _ {small large : ℕ} (h : small ≤ large) where
  text-stays-good : {n : ℕ} {t : List ℕ} → GoodText small n t → GoodText large n t
  text-stays-good g =
      let s = g.short in
      record { members = g.members; reads = g.reads; text = g.text; undigit = g.undigit; short = omega arith }

  stays-good : {page : List ℕ} {low at : ℕ} → GoodFrom small page low at → GoodFrom large page low at
  stays-good (ends m) = ends m
  stays-good (goes_on l r g more) = goes_on l r (text-stays-good g) (stays-good more)

  -- "Every page that was good stays good": and a record that fits it fits it, since `Fits` knows no limit
  pub good-within-larger : {page : List ℕ} → GoodPage small page → GoodPage large page
  good-within-larger = stays-good

-- "with the same meaning": its lines have the same numbers, texts and readings
pub lines_stay : {small large : ℕ} {page : List ℕ} (g : GoodPage small page) (h : GoodPage large page) → lines_in g ≡ lines_in h
lines_stay = same_lines (λ t ms ns p q. members-unique p q) refl

-- what stands at a boundary of a good page is good from there on
data From (lim : ℕ) (page : List ℕ) (at : ℕ) : Type 0 where
  from : (low : ℕ) → GoodFrom lim page low at → From lim page at

good-from : {lim : ℕ} {page : List ℕ} {at : ℕ} → GoodPage lim page → Boundary page at → From lim page at
good-from g start = from 0 g
good-from {lim} {page = page} g (behind {at = a} {t = t} b r) = by (good-from g b) where
  by : From lim page a → From lim page (a + (length t + 4))
  by (from low (ends m)) = absurd (no_end refl r m)
  by (from low (goes_on {n = m} l q k more)) = let e = one-record refl q r in from (suc m) (subst (λ (u : List ℕ). GoodFrom lim page (suc m) (a + (length u + 4))) e.1 more)

no-long-record : {lim : ℕ} {page : List ℕ} → GoodPage lim page → LongRecord lim page → ⊥
no-long-record {lim} {page} g l = by (good-from g l.boundary) where
  by : From lim page l.at → ⊥
  by (from low (ends m)) = no_end refl l.stands m
  by (from low (goes_on {n} {t} h q k more)) =
      let e = one-record refl q l.stands in
      let short : length l.text + length (digits l.number) ≤ lim = subst (λ (u : List ℕ). length u + length (digits l.number) ≤ lim) e.1 (subst (λ (m : ℕ). length t + length (digits m) ≤ lim) e.0 k.short) in
      let long = l.long in omega arith

module _ (lim : ℕ) (short : lim ≤ 251) (x : Lent) where
  first-is-18 : InRange x → is_good lim x.page ≡ false → first_refusal lim x ≡ 18
  unfolding first_refusal
  first-is-18 r h = rw (in-range-is r, h)

  table-held : first_refusal lim x ≡ 18 → (o : Outcome) → table_after lim x o ≡ x.table
  unfolding table_after
  table-held h o = by_cases (has_table x.call) (λ t. rw (h, t)) (λ t. rw (h, t))

  both-18 : first_refusal lim x ≡ 18 → (take_line_in lim x ≡ stops 18 (lent_world x) x.page) × (continue_run_in lim x ≡ stops 18 (lent_world x) x.page)
  unfolding take_line_in continue_run_in
  both-18 h = (rw (h, take_line_in), rw (h, continue_run_in))

  left-18 : first_refusal lim x ≡ 18 → (leaves_in lim take_line_in x ≡ unchanged x 18) × (leaves_in lim continue_run_in x ≡ unchanged x 18)
  left-18 h = let b = both-18 h in let t = table-held h in (
    λ j. record { outcome = b.0 j; table = t (take_line_in lim x) j },
    λ j. record { outcome = b.1 j; table = t (continue_run_in lim x) j },
  )

  -- "A page with a longer line answers 18 on an old controller": both calls, and nothing is changed
  pub longer-line-is-18 : InRange x → LongRecord lim x.page → (leaves_in lim take_line_in x ≡ unchanged x 18) × (leaves_in lim continue_run_in x ≡ unchanged x 18)
  longer-line-is-18 r l =
      left-18 (first-is-18 r (by_cases (is_good lim x.page) (λ g. absurd (no-long-record ((good-exact lim x.page short).0 g) l)) (λ b. b)))
