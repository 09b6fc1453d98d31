-- A lent table: when it is a true one, and that a call which leaves the page leaves it. Assumes nothing.
use Rattle.std.specs.Prelude.{if◌then◌else◌}
use Prim.Native.Nat.{ℕ, suc, ◌+◌, ◌≤◌}
use mathlib.Core.Path.{◌≡◌, refl, sym, ap, subst, ◌∙◌}
use mathlib.Core.Bool.{Bool, true, false, not, ◌&&◌, true≢false}
use mathlib.Core.List.{List, ◌∷◌, ◌++◌}
use mathlib.Core.Logic.{◌↔◌}
use native.Mathlib.Omega.{arith}
use lib.ListN.{length, drop}
use lib.Dec.{eqb}
use borrow.Author.Tests.{eqb-false, ne_eqb}
use Rattle.nibl.specs.Words.{begins}
use Rattle.nibl.specs.Page.{Stored, is_end, records_of}
use Rattle.nibl.specs.Table.{positions_from, table_of, walk_table, describes, refilled}
use Rattle.nibl.specs.Lent.{Lent, Outcome}
use Rattle.nibl.specs.Typing.{limit}
use Rattle.nibl.specs.FirstRefusals.{has_table, table_is_true, first_refusal}
use Rattle.nibl.specs.Calls.{table_after, leaves}
use Rattle.page.proofs.Walk.{by_cases}
use Rattle.page.proofs.Program.{end-bytes}
use Rattle.page.proofs.Laid.{Laid, good-laid}
use Rattle.page.proofs.Laid as laid
use Rattle.page.proofs.Tables.{table_fits, positions-length, begins-front, begins-split, refilled-true, refilled_same, refilled-long}
use Rattle.demands.specs.Lent.{HasTable}
use Rattle.demands.specs.Good.{RecordsAt, at_mark, at_record, TrueTable, LentTrue, GoodPage}
use Rattle.demands.proofs.Good.{good-exact, whole-record, record-unended}
use Rattle.demands.proofs.OnPage.{same_size}
use Rattle.demands.proofs.Accepted.{accepted-of}

-- By the bytes: on a good page the records stand where the walk says
module _ {lim : ℕ} {page : List ℕ} where
  stand_of : {low at : ℕ} {rs : List Stored} → Laid lim page low at rs → RecordsAt page at (positions_from at rs)
  stand_of {at = at} (laid.ends e) = at_mark (record { after = drop 2 (drop at page); bytes = end-bytes (drop at page) e })
  stand_of (laid.laid l w p) = at_record (whole-record w) (stand_of p)

  stand-one : {low at : ℕ} {rs : List Stored} {ps : List ℕ} → Laid lim page low at rs → RecordsAt page at ps → ps ≡ positions_from at rs
  stand-one (laid.ends e) (at_mark m) = refl
  stand-one (laid.ends e) (at_record r more) = absurd (record-unended r e)
  stand-one (laid.laid l w p) (at_mark m) = absurd (true≢false (sym (ap is_end m.bytes) ∙ w.there))
  stand-one {at = at} (laid.laid l w p) (at_record {ps = ps} r more) =
      ap (λ (qs : List ℕ). at ∷ qs) (stand-one p (subst (λ (k : ℕ). RecordsAt page (at + k) ps) (sym (same_size w r)) more))

module _ (page table : List ℕ) where
  pub table-exact : (lim : ℕ) → lim ≤ 251 → GoodPage lim page → (describes page table ≡ true) ↔ TrueTable page table
  unfolding describes walk_table
  table-exact lim short good = (so, is) where
    known : Laid lim page 0 0 (records_of page)
    known = good-laid lim page short ((good-exact lim page short).1 good)

    so : begins (table_of (records_of page)) table ≡ true → TrueTable page table
    so h =
        let ps : List ℕ = positions_from 0 (records_of page) in
        let behind : List ℕ = drop (length (table_of (records_of page))) table in
        record {
          positions = ps;
          stand = stand_of known;
          rest = behind;
          entries = sym (begins-split (table_of (records_of page)) table h) ∙ ap (λ (n : ℕ). n ∷ (ps ++ behind)) (sym (positions-length 0 (records_of page)));
        }

    is : TrueTable page table → begins (table_of (records_of page)) table ≡ true
    is t =
        let e = stand-one known t.stand in
        rw (t.entries, e, positions-length 0 (records_of page)) (begins-front (table_of (records_of page)) t.rest)

-- a table that is lent is true: the calls' test looks for that
module _ (x : Lent) (good : GoodPage limit x.page) where
  pub lent-true-exact : (table_is_true x ≡ true) ↔ LentTrue x
  lent-true-exact = (so, is) where
    so : table_is_true x ≡ true → LentTrue x
    so h n = (table-exact x.page x.table limit (omega arith) good).0 (rw (ne_eqb x.call.tabled 0 n) at h)

    is : LentTrue x → table_is_true x ≡ true
    is h =
        by_cases (eqb x.call.tabled 0) (λ e. rw e)
        (λ e. rw e ((table-exact x.page x.table limit (omega arith) good).1 (h (eqb-false x.call.tabled 0 e))))

-- What is left of it
module _ (lim : ℕ) (x : Lent) (o : Outcome) where
  -- a call that leaves the page leaves a true table
  pub table_kept : table_is_true x ≡ true → o.page ≡ x.page → table_after lim x o ≡ x.table
  unfolding table_after
  table_kept h e = by (eqb x.call.tabled 0) refl (eqb (first_refusal lim x) 0) where
    by : (b : Bool) → eqb x.call.tabled 0 ≡ b → (c : Bool) → (if not b && c then refilled o.page x.table else x.table) ≡ x.table
    by true f c = refl
    by false f true = rw e (refilled_same x.page x.table (rw f at h))
    by false f false = refl

  -- and so does one that is refused at first, whatever it holds
  pub table-refused : (n : ℕ) → first_refusal lim x ≡ suc n → table_after lim x o ≡ x.table
  unfolding table_after
  table-refused n h = rw (ne_eqb (first_refusal lim x) 0 (λ e. omega arith)) (by (has_table x.call)) where
    by : (b : Bool) → (if b && false then refilled o.page x.table else x.table) ≡ x.table
    by true = refl
    by false = refl

  -- past the first refusals a lent one is made true of the page that is left
  pub table-after : HasTable x → first_refusal lim x ≡ 0 → table_after lim x o ≡ refilled o.page x.table
  unfolding table_after
  table-after n h = rw (ne_eqb x.call.tabled 0 n, h)

  pub true-after : first_refusal lim x ≡ 0 → (if has_table x.call then describes o.page (table_after lim x o) else true) ≡ true
  true-after h =
      by_cases (eqb x.call.tabled 0) (λ e. rw e)
      (λ e. rw (e, table-after (eqb-false x.call.tabled 0 e) h) (refilled-true o.page x.table))

  pub long_after : first_refusal lim x ≡ 0 → length o.page ≤ 4096 → HasTable x → 1025 ≤ length (table_after lim x o)
  long_after h l n =
      let t = (accepted-of lim x h).range.table n in rw (table-after n h) (omega (arith, table_fits o.page l, refilled-long o.page x.table (omega (arith, table_fits o.page l))))

-- all that is left, where the page is
module _ (call : Lent → Outcome) (x : Lent) (o : Outcome) (e : call x ≡ o) where
  pub left-kept : first_refusal limit x ≡ 0 → o.page ≡ x.page → leaves call x ≡ record { outcome = o; table = x.table }
  left-kept z p = λ i. record { outcome = e i; table = (ap (table_after limit x) e ∙ table_kept limit x o (accepted-of limit x z).table p) i }

  pub left-refused : (n : ℕ) → first_refusal limit x ≡ suc n → leaves call x ≡ record { outcome = o; table = x.table }
  left-refused n h = λ i. record { outcome = e i; table = (ap (table_after limit x) e ∙ table-refused limit x o n h) i }
