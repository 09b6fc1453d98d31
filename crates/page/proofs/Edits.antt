-- The ways an edit ends, for the functions that make it. Assumes nothing.
use Rattle.std.specs.Prelude.{if◌then◌else◌}
use Prim.Native.Nat.{ℕ, ◌+◌, ◌-◌, ◌≤◌, ◌<◌}
use mathlib.Core.Path.{◌≡◌, sym}
use mathlib.Core.Bool.{false}
use mathlib.Core.List.{List, [], ◌∷◌}
use native.Mathlib.Omega.{arith}
use lib.ListN.{length, drop}
use lib.Dec.{ltb, eqb}
use borrow.Author.Tests.{le-leb, lt-leb, lt-ltb, le-ltb}
use Rattle.nibl.specs.Page.{Stored, record_bytes, records_of, size, used, used_by}
use Rattle.page.specs.declared.Seat.{Seat}
use Rattle.page.specs.declared.Edited.TheVariants as edited
use Rattle.page.specs.Edits.{seat_in, seat_of, Seated, spliced, changed, can_store, store_at_seat, delete_at}
use Rattle.page.proofs.Walk.{by_cases}

pub used-two : (rs : List Stored) → 2 ≤ used_by rs
used-two [] = omega arith
used-two (r ∷ rs) = omega (arith, used-two rs)

-- a seat, and what goes there, lie before the end mark
pub seat-fits : (n at : ℕ) (rs : List Stored) → (seat_in n at rs).at + (seat_in n at rs).gone + 2 ≤ at + used_by rs
seat-fits n at [] = omega arith
seat-fits n at (r ∷ rs) =
    by_cases (ltb r.line n)
    (λ e. rw (e, if◌then◌else◌) (omega (arith, seat-fits n (at + size r) rs)))
    (λ e. by_cases (eqb r.line n) (λ f. rw (e, f, if◌then◌else◌) (omega (arith, used-two rs))) (λ f. rw (e, f, if◌then◌else◌) (omega (arith, used-two rs))))

-- a seat that was walked to
pub seated : {page : List ℕ} {n : ℕ} {s : Seat} → s ≡ seat_of page n → s.at ≤ length page + 1 → s.at + used_by (records_of (drop s.at page)) ≡ used page → Seated page n s
unfolding seat_of used
seated {page = page} {n = n} e i r = record { is = e; sits = record { inside = i; rest = r; room = rw e (omega (arith, seat-fits n 0 (records_of page))) } }

-- how a store ends
module _ (page : List ℕ) (s : Seat) (n : ℕ) (t : List ℕ) where
  full : can_store page s (length t + 4) ≡ false → changed page edited.NoRoom ≡ store_at_seat page s n t
  unfolding store_at_seat
  full e = sym (rw e)

  pub store-endless : length page < used page → changed page edited.NoRoom ≡ store_at_seat page s n t
  store-endless a = full (rw (lt-leb (used page) (length page) a))

  pub store_long : used page ≤ length page → 255 < length t + 4 → changed page edited.NoRoom ≡ store_at_seat page s n t
  store_long a b = full (rw (le-leb (used page) (length page) a, lt-leb (length t + 4) 255 b))

  pub store-full : used page ≤ length page → length t + 4 ≤ 255 → length page < used page - s.gone + (length t + 4) → changed page edited.NoRoom ≡ store_at_seat page s n t
  store-full a b c =
      full (rw (le-leb (used page) (length page) a, le-leb (length t + 4) 255 b, lt-leb (used page - s.gone + (length t + 4)) (length page) c))

  pub store-done : used page ≤ length page → length t + 4 ≤ 255 → used page - s.gone + (length t + 4) ≤ length page
      → changed (spliced page s.at s.gone (used page) (record_bytes (record { line = n; text = t }))) edited.Done ≡ store_at_seat page s n t
  unfolding store_at_seat
  store-done a b c =
      sym (rw (le-leb (used page) (length page) a, le-leb (length t + 4) 255 b, le-leb (used page - s.gone + (length t + 4)) (length page) c))

-- how a delete ends
module _ (page : List ℕ) (s : Seat) where
  pub delete-absent : s.gone < 1 → changed page edited.Absent ≡ delete_at page s
  unfolding delete_at
  delete-absent a = sym (rw (lt-ltb s.gone 1 a))

  pub delete-endless : 1 ≤ s.gone → length page < used page → changed page edited.NoRoom ≡ delete_at page s
  unfolding delete_at
  delete-endless a b = sym (rw (le-ltb s.gone 1 a, lt-leb (used page) (length page) b))

  pub delete-done : 1 ≤ s.gone → used page ≤ length page → changed (spliced page s.at s.gone (used page) []) edited.Done ≡ delete_at page s
  unfolding delete_at
  delete-done a b = sym (rw (le-ltb s.gone 1 a, le-leb (used page) (length page) b))
