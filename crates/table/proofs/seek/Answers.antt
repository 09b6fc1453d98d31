use Prim.Native.Nat.{ℕ, ◌+◌, ◌-◌, ◌/◌, ◌≤◌, ◌<◌}
use mathlib.Core.List.{List}
use mathlib.Core.Path.{◌≡◌, sym, subst}
use native.Mathlib.Omega.{arith}
use lib.ListN.{length, get_or, drop}
use Rattle.nibl.specs.Page.{records_of, line_at}
use Rattle.page.proofs.Tables.{lines-most, Entry, table-count, table-entry}
use Rattle.table.specs.Index.{Described}
use Rattle.table.proofs.Below.{below-most, below_up, below-down}
use Rattle.table.proofs.seek.Goals as goal

-- a turn looks at a line, which is among those not told apart, and for which the table has an entry
within : {page table : List ℕ} (lo hi : ℕ) → Described page table → hi ≤ length (records_of page) → lo < hi
    → (lo + (hi - lo) / 2 < length (records_of page)) × (lo + (hi - lo) / 2 + 1 < length table)
within {page = page} lo hi d most l =
    let few = lines-most page in
    let less : lo + (hi - lo) / 2 < length (records_of page) = omega arith in
    (less, omega (arith, d.short, d.long))

looked : {page table : List ℕ} (lo hi at : ℕ) → Described page table → hi ≤ length (records_of page) → lo < hi
    → at ≡ get_or table (lo + (hi - lo) / 2 + 1) 0 → Entry page (lo + (hi - lo) / 2) at
looked {page = page} {table = table} lo hi at d most l e =
    subst (Entry page (lo + (hi - lo) / 2)) (sym e) (table-entry page table d.is (lo + (hi - lo) / 2) (within lo hi d most l).0)

pub loop-lo-init : goal.loop-lo-init
loop-lo-init c =
    let a = c.args in
    let e = table-count a.page.now a.table.now c.requires.is in
    omega (arith, below-most a.n (records_of a.page.now))

pub offset_bounds-table-mid : goal.offset_bounds-table-mid
offset_bounds-table-mid c =
    let w = lines-most c.args.page.now in
    omega (arith, within c.loop-lo.lo c.loop-lo.hi c.requires c.loop-lo.invariant.1.1 c.loop-lo-test.true, c.requires.short)

pub bounds-table-mid : goal.bounds-table-mid
bounds-table-mid c = (within c.loop-lo.lo c.loop-lo.hi c.requires c.loop-lo.invariant.1.1 c.loop-lo-test.true).1

pub number_at-requires : goal.number_at-requires
number_at-requires c =
    let w = looked c.loop-lo.lo c.loop-lo.hi c.from-at.result c.requires c.loop-lo.invariant.1.1 c.loop-lo-test.true c.from-at.ensures in
    omega (arith, w.inside)

pub loop-lo-preserved-then-number_at-n : goal.loop-lo-preserved-then-number_at-n
loop-lo-preserved-then-number_at-n c =
    let a = c.args in
    let l = c.loop-lo.invariant in
    let mid : ℕ = c.loop-lo.lo + (c.loop-lo.hi - c.loop-lo.lo) / 2 in
    let w = looked c.loop-lo.lo c.loop-lo.hi c.from-at.result c.requires l.1.1 c.loop-lo-test.true c.from-at.ensures in
    let less : line_at (drop c.from-at.result a.page.now) < a.n = omega (arith, c.number_at.ensures, c.if-number_at-n.true) in
    let m = below-down a.n mid c.requires.rising w.records less in
    (omega arith, (l.1.0, l.1.1))

pub loop-lo-preserved : goal.loop-lo-preserved
loop-lo-preserved c =
    let a = c.args in
    let l = c.loop-lo.invariant in
    let mid : ℕ = c.loop-lo.lo + (c.loop-lo.hi - c.loop-lo.lo) / 2 in
    let w = looked c.loop-lo.lo c.loop-lo.hi c.from-at.result c.requires l.1.1 c.loop-lo-test.true c.from-at.ensures in
    let most : a.n ≤ line_at (drop c.from-at.result a.page.now) = omega (arith, c.number_at.ensures, c.if-number_at-n.false) in
    let m = below_up a.n mid (records_of a.page.now) w.records most in
    (l.0, (m, omega (arith, (within c.loop-lo.lo c.loop-lo.hi c.requires l.1.1 c.loop-lo-test.true).0)))
