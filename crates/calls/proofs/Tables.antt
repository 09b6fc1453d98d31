-- The table that is lent, and the one that is left. Assumes nothing.
use Prim.Native.Nat.{ℕ, zero, suc, ◌≤◌}
use mathlib.Core.Path.{◌≡◌, refl, sym, ap, ◌∙◌}
use mathlib.Core.Bool.{true, false, and-false}
use mathlib.Core.List.{List}
use mathlib.Core.Option.{Option, none, some}
use native.Mathlib.Omega.{arith}
use lib.ListN.{length}
use lib.Seq.{take-length}
use lib.Dec.{eqb}
use borrow.Author.Tests.{leb-true, eq-eqb, ne_eqb}
use Rattle.nibl.specs.Page.{is_good}
use Rattle.nibl.specs.Typing.{Gathered}
use Rattle.nibl.specs.Lent.{Lent, Outcome, Left, lent_all}
use Rattle.nibl.specs.Typing.{limit}
use Rattle.nibl.specs.FirstRefusals.{has_table, table_in_range, true_of, first_refusal}
use Rattle.nibl.specs.Calls.{obey_line, continue_from, table_after, table_past}
use Rattle.nibl.specs.declared.Session.{Session}
use Rattle.nibl.specs.declared.Call.{Call}
use Rattle.page.proofs.Walk.{by_cases}
use Rattle.table.specs.Index.{Indexed}
use Rattle.table.proofs.Index.{good-described, indexed-none, indexed-whole, kept-some, kept_same}
use Rattle.calls.specs.Tables.{TableLent}

-- a search may go by a table past the first refusals
pub table-lent : (lim : ℕ) {page table : List ℕ} {c : Call} → length page ≤ 4096 → is_good lim page ≡ true → table_in_range c (length table) ≡ true
    → true_of page c table ≡ true → TableLent page c table
table-lent lim {page} {table} {c} s g l t =
    record {
      long = l;
      indexed = by_cases (has_table c)
          (λ e. rw e (indexed-whole (good-described lim g s (leb-true _ _ (rw e at l)) (rw e at t))))
          (λ e. rw e (indexed-none page table));
    }

-- a call that leaves the page leaves the table
pub table-still : (c : Call) (page table : List ℕ) → TableLent page c table → table_past c page table ≡ table
table-still c page table h =
    by_cases (has_table c)
    (λ f.
    let k : 1025 ≤ length table = leb-true _ _ (rw f at h.long) in
    let i : Indexed page table = rw (f, take-length table) at h.indexed in
    rw f (sym (kept-some page table (omega arith)) ∙ kept_same i))
    (λ f. rw f)

-- what a call does past its first refusals does not depend on the table
module _ (s : Session) (page memory typed output : List ℕ) (c : Call) (t u : List ℕ) where
  pub obeys-by-any : (lim : ℕ) (g : Option Gathered) → obey_line lim (lent_all s page memory typed output c t) g ≡ obey_line lim (lent_all s page memory typed output c u) g
  obeys-by-any lim none = refl
  obeys-by-any lim (some g) = refl

  pub continues-by-any : (lim n : ℕ) → continue_from lim (lent_all s page memory typed output c t) n ≡ continue_from lim (lent_all s page memory typed output c u) n
  continues-by-any lim zero = refl
  continues-by-any lim (suc n) = refl

-- What is left, by the first refusal n
abbrev left : Outcome → List ℕ → Left
left o t = record { outcome = o; table = t }

module _ (x : Lent) {n : ℕ} (e : n ≡ first_refusal limit x) {o o' : Outcome} (same : o ≡ o') where
  pub left-refused : (n ≡ 0 → ⊥) → left o x.table ≡ left o' (table_after limit x o')
  unfolding table_after
  left-refused h =
      let f : eqb (first_refusal limit x) 0 ≡ false = ne_eqb (first_refusal limit x) 0 (λ z. h (e ∙ z)) in
      let t : table_after limit x o' ≡ x.table = rw (f, and-false (has_table x.call)) in
      λ i. left (same i) (sym t i)

  pub left-on : n ≡ 0 → {t : List ℕ} → t ≡ table_past x.call o.page x.table → left o t ≡ left o' (table_after limit x o')
  unfolding table_after
  left-on h {t} k =
      let f : eqb (first_refusal limit x) 0 ≡ true = eq-eqb (first_refusal limit x) 0 (sym e ∙ h) in
      let a : table_past x.call o.page x.table ≡ table_after limit x o =
      by_cases (has_table x.call) (λ g. rw (f, g)) (λ g. rw (f, g)) in
      λ i. left (same i) ((k ∙ a ∙ ap (table_after limit x) same) i)
