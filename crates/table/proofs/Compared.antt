-- A table compared with a page, one record at a time: what is left to compare, and how that ends. Assumes nothing.
use Prim.Native.Nat.{ℕ, ◌+◌, ◌≤◌, ◌<◌}
use mathlib.Core.Path.{◌≡◌, refl, sym, ap, ◌∙◌}
use mathlib.Core.Bool.{Bool, true, false, ◌&&◌, and-false, and-true}
use mathlib.Core.List.{List, [], ◌∷◌}
use native.Mathlib.Numerals.{add-one}
use native.Mathlib.Omega.{arith}
use lib.ListN.{length, get_or, drop, drop_of_length-le}
use lib.Seq.{drop-cons}
use lib.Dec.{eqb}
use borrow.Author.Tests.{eq-eqb, ne_eqb, eqb-true, eqb-false}
use Rattle.nibl.specs.Words.{begins}
use Rattle.nibl.specs.Page.{Stored, records_of}
use Rattle.nibl.specs.Table.{positions_from, describes}
use Rattle.page.proofs.Walk.{by_cases, Met}
use Rattle.table.proofs.Index.{describes-some}

-- the first k records, up to `at`, stand where the table says
pub record Compared (page table : List ℕ) (k at : ℕ) : Type 0 where
  pub left : begins (positions_from at (records_of (drop at page))) (drop (k + 1) table) ≡ begins (positions_from 0 (records_of page)) (drop 1 table)
  pub count : length (records_of page) ≡ k + length (records_of (drop at page))
  pub room : k + 1 ≤ length table

pub compare-start : (page table : List ℕ) → 1 ≤ length table → Compared page table 0 0
compare-start page table h = record { left = refl; count = omega arith; room = h }

-- a wrong entry
wrong : (page table : List ℕ) → 1 ≤ length table → begins (positions_from 0 (records_of page)) (drop 1 table) ≡ false → false ≡ describes page table
wrong page table h e = sym (describes-some page table h ∙ ap (λ (b : Bool). eqb (length (records_of page)) (get_or table 0 0) && b) e ∙ and-false (eqb (length (records_of page)) (get_or table 0 0)))

-- at a record of n bytes
module _ {page table : List ℕ} {k at n : ℕ} (c : Compared page table k at) (m : Met page at n) where
  more : List Stored
  more = records_of (drop (at + n) page)

  here : positions_from at (records_of (drop at page)) ≡ at ∷ positions_from (at + n) more
  unfolding more
  here = ap (positions_from at) m.records ∙ ap (λ (x : ℕ). at ∷ positions_from (at + x) (records_of (drop (at + n) page))) m.long

  entry : k + 1 < length table → drop (k + 1) table ≡ get_or table (k + 1) 0 ∷ drop (k + 1 + 1) table
  entry r = drop-cons table (k + 1) 0 r ∙ ap (λ (x : ℕ). get_or table (k + 1) 0 ∷ drop x table) (sym (add-one (k + 1)))

  pub compare-short : length table ≤ k + 1 → false ≡ describes page table
  compare-short r =
      wrong page table (omega (arith, c.room))
      (sym c.left ∙ (λ i. begins (here i) (drop_of_length-le table {i = k + 1} r i)))

  pub compare-other : k + 1 < length table → (get_or table (k + 1) 0 ≡ at → ⊥) → false ≡ describes page table
  compare-other r differs =
      wrong page table (omega (arith, c.room))
      (sym c.left ∙ (λ i. begins (here i) (entry r i)) ∙ rw (ne_eqb at (get_or table (k + 1) 0) (λ f. differs (sym f))))

  pub compare-step : k + 1 < length table → get_or table (k + 1) 0 ≡ at → Compared page table (k + 1) (at + n)
  unfolding more
  compare-step r f =
      record {
        left = sym ((λ i. begins (here i) (entry r i)) ∙ rw (eq-eqb at (get_or table (k + 1) 0) (sym f))) ∙ c.left;
        count = omega (arith, c.count, ap length m.records);
        room = omega arith;
      }

eqb_swap : (a b : ℕ) → eqb a b ≡ eqb b a
eqb_swap a b =
    by_cases (eqb a b) (λ e. e ∙ sym (eq-eqb b a (sym (eqb-true a b e)))) (λ e. e ∙ sym (ne_eqb b a (λ f. eqb-false a b e (sym f))))

-- past the last record the count is left
pub compare-end : {page table : List ℕ} {k at : ℕ} → Compared page table k at → records_of (drop at page) ≡ [] → eqb (get_or table 0 0) k ≡ describes page table
compare-end {page = page} {table = table} {k = k} {at = at} c e =
    let count : length (records_of page) ≡ k = omega (arith, c.count, ap length e) in
    let all : begins (positions_from 0 (records_of page)) (drop 1 table) ≡ true = sym c.left ∙ ap (λ (l : List Stored). begins (positions_from at l) (drop (k + 1) table)) e in
    eqb_swap (get_or table 0 0) k
    ∙ sym (describes-some page table (omega (arith, c.room)) ∙ (λ i. eqb (count i) (get_or table 0 0) && all i) ∙ and-true (eqb k (get_or table 0 0)))
