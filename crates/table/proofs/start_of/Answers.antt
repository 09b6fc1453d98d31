-- `start_of` meets its contract: a line stands after the one before it. Assumes nothing.
use Prim.Native.Nat.{ℕ, suc, ◌+◌, ◌-◌, ◌≤◌, ◌<◌}
use mathlib.Core.List.{List}
use mathlib.Core.Path.{◌≡◌, ap, ◌∙◌}
use native.Mathlib.Omega.{arith}
use lib.ListN.{length, get_or, take, drop, length-drop}
use Rattle.nibl.specs.Page.{records_of}
use Rattle.page.specs.Tables.{span_of}
use Rattle.page.specs.Walk.{size_at}
use Rattle.page.proofs.Walk.{size_is, size-most, size-said}
use Rattle.page.proofs.Tables.{lines-most, Entry, table-entry}
use Rattle.table.specs.Index.{Described}
use Rattle.table.proofs.Below.{span-next}
use Rattle.table.proofs.start_of.Goals as goal

-- how many entries there are
within : {page table : List ℕ} {k : ℕ} → Described page table → k ≤ length (records_of page) → k < length table
within {page = page} d h = omega (arith, d.long, d.short, lines-most page)

-- the line before stands where the table says
before : {page table : List ℕ} {k : ℕ} → Described page table → k ≤ length (records_of page) → 1 ≤ k → Entry page (k - 1) (get_or table k 0)
before {page = page} {table = table} {k = k} d h l =
    let e : k - 1 + 1 ≡ k = omega arith in
    rw e at (table-entry page table d.is (k - 1) (omega arith))

pub offset_bounds-table-k : goal.offset_bounds-table-k
offset_bounds-table-k c =
    let r = within c.requires.described c.requires.k_in_bounds in
    omega arith

pub bounds-table-k : goal.bounds-table-k
bounds-table-k c =
    within c.requires.described c.requires.k_in_bounds

pub overflow_add-result : goal.overflow_add-result
overflow_add-result c =
    let a = c.args in
    let p = a.page.now in
    let w = before c.requires.described c.requires.k_in_bounds c.if-k-lt1.false in
    let q = drop (get_or a.table.now a.k 0) p in
    let s : c.unwrap_or.result ≡ size_at q = rw c.from-last.ensures at (c.unwrap_or.ensures ∙ size-said _ c.size_at.result c.size_at.ensures) in
    omega (arith, w.inside, size-most q w.there, length-drop (get_or a.table.now a.k 0) p)

pub returns : goal.returns
returns c =
    let a = c.args in
    let p = a.page.now in
    let w = before c.requires.described c.requires.k_in_bounds c.if-k-lt1.false in
    let at = get_or a.table.now a.k 0 in
    let s : c.unwrap_or.result ≡ size_at (drop at p) = rw c.from-last.ensures at (c.unwrap_or.ensures ∙ size-said _ c.size_at.result c.size_at.ensures) in
    let e : suc (a.k - 1) ≡ a.k = omega (arith, c.if-k-lt1.false) in
    omega (arith, w.place, size_is (drop at p) w.there, span-next (a.k - 1) (records_of p) w.records, ap (λ (k : ℕ). span_of (take k (records_of p))) e)
