-- A page's records by their index: how many there are, where each stands, and what a table says of them.
-- Assumes nothing.
use Prim.Native.Nat.{ℕ, zero, suc, ◌+◌, ◌*◌, ◌≤◌, ◌<◌}
use mathlib.Core.Path.{◌≡◌, refl, sym, ap, ◌∙◌}
use mathlib.Core.Bool.{true, false, false≢true}
use mathlib.Core.List.{List, [], ◌∷◌, ◌++◌, append_assoc}
use native.Mathlib.Nat.{add-zero, zero-add}
use native.Mathlib.Numerals.{add-one}
use native.Mathlib.Omega.{arith}
use lib.ListN.{length, get_or, take, drop, length-append, length-drop, take-append-drop, get_or-append}
use lib.Seq.{take_at, length-take-le, drop-drop}
use lib.Dec.{leb, eqb}
use borrow.Author.Tests.{leb-true, leb-false, eq-eqb, eqb-true, le-ltb}
use Rattle.nibl.specs.Words.{begins}
use Rattle.nibl.specs.Page.{Stored, is_end, line_at, length_at, good_n, is_good, records_n, records_of, size}
use Rattle.nibl.specs.Table.{positions_from, walk_table, describes, refilled}
use Rattle.page.specs.Walk.{stops_at, record_at, size_at}
use Rattle.page.specs.Tables.{Rising, alone, rises, span_of}
use Rattle.page.proofs.Walk.{by_cases, length-byte, long, size-whole, size-cut, size-some, stop, step, records-some, records-none}
use Rattle.page.proofs.Program.{both, good-step, record-known}
use Rattle.page.proofs.Ways.{way-to, way-rest}

-- the numbers of a good page's records rise
good-rises : (lim k low : ℕ) (q : List ℕ) → good_n lim k low q ≡ true → Rising low (records_n k q)
unfolding good_n
good-rises lim zero low q h = absurd (false≢true h)
good-rises lim (suc k) low q h =
    by_cases (is_end q) (λ e. rw (records-none (suc k) q (rw e)) alone)
    (λ e.
    let g = good-step lim k low q e h in
    let know = record-known lim low q g.0 in
    rw (records-some k q (rw (e, le-ltb (length_at q) 5 know.1.1.0))) (rises know.0 (good-rises lim k (suc (line_at q)) (drop (length_at q) q) g.1)))

pub good-rising : (lim : ℕ) (page : List ℕ) → is_good lim page ≡ true → Rising 0 (records_of page)
unfolding is_good records_of
good-rising lim page good = good-rises lim (suc (length page)) 0 page good

-- Every record has 5 bytes at least, but that the page's end may cut off the last one
most : (k : ℕ) (q : List ℕ) → length q < k → 5 * length (records_of q) ≤ length q + 4
most zero q h = absurd (omega arith)
most (suc k) q h =
    by_cases (stops_at q) (λ e. rw (stop q e) (omega arith))
    (λ e.
    let d = length-drop (size_at q) q in
    let l = long q e in
    let b = length-byte q e in
    let rest = most k (drop (size_at q) q) (omega (arith, size-some q e)) in
    rw (step q e)
    (by_cases (leb (length_at q) (length q)) (λ f. let g = leb-true (length_at q) (length q) f in omega (arith, size-whole q e (omega arith)))
    (λ f. let g = leb-false (length_at q) (length q) f in omega (arith, size-cut q e g))))

pub lines-most : (page : List ℕ) → 5 * length (records_of page) ≤ length page + 4
lines-most page = most (suc (length page)) page (omega arith)

-- The lengths of tables
pub positions-length : (at : ℕ) (rs : List Stored) → length (positions_from at rs) ≡ length rs
positions-length at [] = refl
positions-length at (r ∷ rs) = ap suc (positions-length (at + size r) rs)

pub walk-length : (page : List ℕ) → length (walk_table page) ≡ suc (length (records_of page))
unfolding walk_table
walk-length page = ap suc (positions-length 0 (records_of page))

-- "every page has at most 1,024 lines"
pub table_fits : (page : List ℕ) → length page ≤ 4096 → length (walk_table page) ≤ 1025
table_fits page h = omega (arith, walk-length page, lines-most page)

-- What begins with a list
pub begins-front : (w s : List ℕ) → begins w (w ++ s) ≡ true
begins-front [] s = refl
begins-front (x ∷ w) s = rw (eq-eqb x x refl) (begins-front w s)

pub begins-split : (w t : List ℕ) → begins w t ≡ true → w ++ drop (length w) t ≡ t
begins-split [] t e = refl
begins-split (x ∷ w) [] e = absurd (false≢true e)
begins-split (x ∷ w) (y ∷ t) e =
    let h = both (eqb x y) (begins w t) e in λ i. eqb-true x y h.0 i ∷ begins-split w t h.1 i

-- A table made true is true; a true one stays as it is, and none changes its length
pub refilled-true : (page table : List ℕ) → describes page (refilled page table) ≡ true
unfolding describes refilled
refilled-true page table = begins-front (walk_table page) (drop (length (walk_table page)) table)

pub refilled_same : (page table : List ℕ) → describes page table ≡ true → refilled page table ≡ table
unfolding describes refilled
refilled_same page table e = begins-split (walk_table page) table e

pub refilled-long : (page table : List ℕ) → length (walk_table page) ≤ length table → length (refilled page table) ≡ length table
unfolding refilled
refilled-long page table h =
    omega (arith, length-append (walk_table page) (drop (length (walk_table page)) table), length-drop (length (walk_table page)) table)

-- Where records stand
pub positions-append : (at : ℕ) (rs rest : List Stored) → positions_from at (rs ++ rest) ≡ positions_from at rs ++ positions_from (at + span_of rs) rest
positions-append at [] rest = ap (λ (n : ℕ). positions_from n rest) (sym (add-zero at))
positions-append at (r ∷ rs) rest =
    let e : at + size r + span_of rs ≡ at + (size r + span_of rs) = omega arith in
    ap (λ (l : List ℕ). at ∷ l) (positions-append (at + size r) rs rest ∙ ap (λ (n : ℕ). positions_from (at + size r) rs ++ positions_from n rest) e)

pub positions-at : (at k : ℕ) (rs : List Stored) → k < length rs → get_or (positions_from at rs) k 0 ≡ at + span_of (take k rs)
positions-at at k [] h = absurd (omega arith)
positions-at at zero (r ∷ rs) h = sym (add-zero at)
positions-at at (suc k) (r ∷ rs) h = positions-at (at + size r) k rs (omega arith) ∙ omega arith

-- the k-th record stands at `at`
pub record Entry (page : List ℕ) (k at : ℕ) : Type 0 where
  pub inside : at + 3 ≤ length page
  pub there : stops_at (drop at page) ≡ false
  pub place : at ≡ span_of (take k (records_of page))
  pub from : records_of (drop at page) ≡ drop k (records_of page)
  pub records : drop k (records_of page) ≡ record_at (drop at page) ∷ drop (suc k) (records_of page)

pub entry_at : (page : List ℕ) (k at : ℕ) → k < length (records_of page) → at ≡ span_of (take k (records_of page)) → Entry page k at
entry_at page k at h e =
    let rs : List Stored = records_of page in
    let q : List ℕ = drop at page in
    let from : records_of q ≡ drop k rs = ap (λ (n : ℕ). records_of (drop n page)) e ∙ way-rest k (omega arith) (way-to k page (omega arith)) in
    let there : stops_at q ≡ false =
    by_cases (stops_at q) (λ f. absurd (omega (arith, ap length (sym (stop q f) ∙ from), length-drop k rs))) (λ f. f) in
    let rest : drop 1 (records_of q) ≡ drop (suc k) rs = ap (drop 1) from ∙ drop-drop 1 k rs ∙ ap (λ (n : ℕ). drop n rs) (add-one k) in
    record {
      inside = omega (arith, long q there, length-drop at page);
      there = there;
      place = e;
      from = from;
      records = sym from ∙ step q there ∙ ap (λ (l : List Stored). record_at q ∷ l) (sym (ap (drop 1) (step q there)) ∙ rest);
    }

-- What a true table says
module _ (page table : List ℕ) (is : describes page table ≡ true) where
  table-split : length (records_of page) ∷ (positions_from 0 (records_of page) ++ drop (length (walk_table page)) table) ≡ table
  unfolding describes walk_table
  table-split = begins-split (walk_table page) table is

  pub table-count : get_or table 0 0 ≡ length (records_of page)
  table-count = ap (λ (l : List ℕ). get_or l 0 0) (sym table-split)

  pub table-entry : (k : ℕ) → k < length (records_of page) → Entry page k (get_or table (k + 1) 0)
  table-entry k h =
      let rs : List Stored = records_of page in
      let more : List ℕ = drop (length (walk_table page)) table in
      entry_at page k (get_or table (k + 1) 0) h
      ((λ i. get_or (sym table-split i) (add-one k i) 0)
      ∙ get_or-append (positions_from 0 rs) more 0 k (omega (arith, positions-length 0 rs))
      ∙ positions-at 0 k rs h
      ∙ zero-add (span_of (take k rs)))

  -- the entries of the first k records
  pub table-front : (k : ℕ) → k ≤ length (records_of page) → take k (drop 1 table) ≡ positions_from 0 (take k (records_of page))
  table-front k h =
      let rs : List Stored = records_of page in
      let more : List ℕ = drop (length (walk_table page)) table in
      let first : List ℕ = positions_from 0 (take k rs) in
      let rest : List ℕ = positions_from (0 + span_of (take k rs)) (drop k rs) in
      let split : positions_from 0 rs ≡ first ++ rest = ap (positions_from 0) (sym (take-append-drop k rs)) ∙ positions-append 0 (take k rs) (drop k rs) in
      ap (λ (l : List ℕ). take k (drop 1 l)) (sym table-split)
      ∙ ap (λ (l : List ℕ). take k (l ++ more)) split
      ∙ ap (take k) (append_assoc first rest more)
      ∙ take_at first (rest ++ more) k (positions-length 0 (take k rs) ∙ length-take-le k rs h)
