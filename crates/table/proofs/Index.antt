-- A table that is lent, and one that is not; what an edit leaves of each. Assumes nothing.
use Prim.Native.Nat.{ℕ, ◌≤◌, ◌<◌}
use mathlib.Core.Path.{◌≡◌, refl, ap, ◌∙◌}
use mathlib.Core.Bool.{true, false, ◌&&◌}
use mathlib.Core.List.{List, [], ◌∷◌, ◌++◌, append-nil}
use native.Mathlib.Omega.{arith}
use lib.ListN.{length, get_or, take, drop}
use lib.Seq.{take-length, drop-length}
use lib.Dec.{eqb}
use Rattle.nibl.specs.Words.{begins}
use Rattle.nibl.specs.Page.{is_good, records_of}
use Rattle.nibl.specs.Table.{positions_from, walk_table, describes, refilled}
use Rattle.page.proofs.Tables.{good-rising, refilled_same}
use Rattle.table.specs.Index.{Described, Indexed, unlent, lent, kept_true}

-- a table that has a number is lent
pub described : {page table : List ℕ} → Indexed page table → 1 ≤ length table → Described page table
described (unlent e) h = absurd (omega (arith, ap length e))
described (lent d) h = d

-- one that describes a good page
pub good-described : (lim : ℕ) {page table : List ℕ} → is_good lim page ≡ true → length page ≤ 4096 → 1025 ≤ length table → describes page table ≡ true → Described page table
good-described lim {page = page} good short long is = record { long = long; short = short; is = is; rising = good-rising lim page good }

-- none of a table, and all of it
pub indexed-none : (page table : List ℕ) → Indexed page (take 0 table)
indexed-none page table = unlent refl

pub indexed-whole : {page table : List ℕ} → Described page table → Indexed page (take (length table) table)
indexed-whole {table = table} d = rw (take-length table) (lent d)

-- what is left of a table
pub kept-empty : (page table : List ℕ) → length table < 1 → table ≡ kept_true page table
kept-empty page [] h = refl
kept-empty page (n ∷ ns) h = absurd (omega arith)

pub kept-some : (page table : List ℕ) → 1 ≤ length table → kept_true page table ≡ refilled page table
kept-some page [] h = absurd (omega arith)
kept-some page (n ∷ ns) h = refl

-- one that describes the page stays as it is
pub kept_same : {page table : List ℕ} → Indexed page table → kept_true page table ≡ table
kept_same {page = page} (unlent e) = rw e
kept_same {page = page} {table = table} (lent d) =
    kept-some page table (omega (arith, d.long)) ∙ refilled_same page table d.is

-- the part that was lent, none of it or all, has come back
pub kept-none : (page table : List ℕ) → kept_true page (take 0 table) ++ drop 0 table ≡ table
kept-none page table = refl

pub kept_whole : (page table : List ℕ) → 1025 ≤ length table → kept_true page (take (length table) table) ++ drop (length table) table ≡ refilled page table
kept_whole page table h =
    (λ i. kept_true page (take-length table i) ++ drop-length table i)
    ∙ append-nil (kept_true page table)
    ∙ kept-some page table (omega arith)

-- What it is to describe a page: the count, and the positions after it
pub describes-none : (page table : List ℕ) → length table < 1 → describes page table ≡ false
unfolding describes walk_table
describes-none page [] h = refl
describes-none page (n ∷ ns) h = absurd (omega arith)

pub describes-some : (page table : List ℕ) → 1 ≤ length table
    → describes page table ≡ (eqb (length (records_of page)) (get_or table 0 0) && begins (positions_from 0 (records_of page)) (drop 1 table))
unfolding describes walk_table
describes-some page [] h = absurd (omega arith)
describes-some page (n ∷ ns) h = refl
