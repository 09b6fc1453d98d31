-- `find_line` meets its contract: with a table, the first line that is not lower is the one or there is none. Assumes nothing.
use Prim.Native.Nat.{ℕ, ◌+◌, ◌<◌}
use mathlib.Core.List.{List}
use mathlib.Core.Path.{◌≡◌, sym, ap, subst, ◌∙◌}
use native.Mathlib.Omega.{arith}
use lib.ListN.{length, get_or}
use Rattle.nibl.specs.Page.{records_of}
use Rattle.page.specs.Walk.{reached}
use Rattle.page.proofs.Tables.{lines-most, Entry, table-count, table-entry}
use Rattle.table.specs.Index.{Described}
use Rattle.table.specs.Spots.{below}
use Rattle.table.proofs.Index.{described}
use Rattle.table.proofs.Below.{found-past, found_here, found-not}
use Rattle.table.proofs.find_line.Goals as goal

-- the line that is looked at, and for which the table has an entry
within : {page table : List ℕ} (k : ℕ) → Described page table → k < get_or table 0 0 → (k < length (records_of page)) × (k + 1 < length table)
within {page = page} {table = table} k d l =
    let less : k < length (records_of page) = omega (arith, table-count page table d.is) in
    (less, omega (arith, d.short, d.long, lines-most page))

looked : {page table : List ℕ} (n k at : ℕ) → Described page table → k ≡ below n (records_of page) → k < get_or table 0 0 → at ≡ get_or table (k + 1) 0
    → Entry page (below n (records_of page)) at
looked {page = page} {table = table} n k at d e l f =
    let w = table-entry page table d.is k (within k d l).0 in
    subst (λ (j : ℕ). Entry page j at) e (subst (Entry page k) (sym f) w)

pub returns-then-from-k : goal.returns-then-from-k
returns-then-from-k c =
    let a = c.args in
    let d = described c.requires c.if-table-lt1.false in
    sym (ap reached (found-past a.page.now d.rising a.number.0 (omega (arith, c.if-from-k.true, c.seek-k.ensures, table-count a.page.now a.table.now d.is))))

pub bounds-table-k : goal.bounds-table-k
bounds-table-k c = (within c.seek-k.result (described c.requires c.if-table-lt1.false) (omega arith)).1

pub number_at-requires : goal.number_at-requires
number_at-requires c =
    let w = looked c.args.number.0 c.seek-k.result c.from-at.result (described c.requires c.if-table-lt1.false) c.seek-k.ensures (omega arith) c.from-at.ensures in
    omega (arith, w.inside)

pub returns-then-number_at-n : goal.returns-then-number_at-n
returns-then-number_at-n c =
    let a = c.args in
    let d = described c.requires c.if-table-lt1.false in
    c.found_at.ensures
    ∙ ap reached (sym (found_here a.page.now d.rising a.number.0 _ (looked a.number.0 c.seek-k.result c.from-at.result d c.seek-k.ensures (omega arith) c.from-at.ensures) (sym c.number_at.ensures ∙ c.if-number_at-n.true)))

pub returns : goal.returns
returns c =
    let a = c.args in
    let d = described c.requires c.if-table-lt1.false in
    sym (ap reached (found-not a.page.now d.rising a.number.0 _ (looked a.number.0 c.seek-k.result c.from-at.result d c.seek-k.ensures (omega arith) c.from-at.ensures) (λ f. c.if-number_at-n.false (c.number_at.ensures ∙ f))))
