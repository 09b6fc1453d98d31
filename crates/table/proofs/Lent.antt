-- The part of a table that is lent: it is kept true, and what is not lent is as it was. Assumes nothing.
use Prim.Native.Nat.{ℕ, ◌≤◌}
use mathlib.Core.Path.{◌≡◌}
use mathlib.Core.Bool.{true}
use mathlib.Core.List.{List, ◌++◌}
use native.Mathlib.Omega.{arith}
use lib.ListN.{length, take, drop}
use borrow.Author.Tests.{leb-true}
use Rattle.nibl.specs.FirstRefusals.{has_table, table_in_range}
use Rattle.nibl.specs.Calls.{table_past}
use Rattle.nibl.specs.declared.Call.{Call}
use Rattle.page.proofs.Walk.{by_cases}
use Rattle.table.specs.Index.{kept_true}
use Rattle.table.specs.Lent.{lent_entries}
use Rattle.table.proofs.Index.{kept-none, kept_whole}

pub lent-within : (c : Call) (table : List ℕ) (n : ℕ) → n ≡ lent_entries c table → n ≤ length table
lent-within c table n e = by_cases (has_table c) (λ f. omega (arith, rw f at e)) (λ f. omega (arith, rw f at e))

pub table_kept : (c : Call) (page table part : List ℕ) {n : ℕ} → n ≡ lent_entries c table → table_in_range c (length table) ≡ true
    → part ≡ kept_true page (take n table) → part ++ drop n table ≡ table_past c page table
table_kept c page table part h l e =
    by_cases (has_table c) (λ f. rw (e, h, f) (kept_whole page table (leb-true _ _ (rw f at l)))) (λ f. rw (e, h, f) (kept-none page table))
