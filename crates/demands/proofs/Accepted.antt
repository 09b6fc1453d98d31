-- What a call past its first refusals has. Assumes nothing.
use Rattle.std.specs.Prelude.{if◌then◌else◌}
use Prim.Native.Nat.{ℕ, ◌≤◌}
use mathlib.Core.Path.{◌≡◌, refl}
use mathlib.Core.Bool.{Bool, true, false, not}
use native.Mathlib.Omega.{arith}
use lib.ListN.{length}
use lib.Dec.{leb, eqb}
use borrow.Author.Tests.{leb-true, le-leb, eqb-false, ne_eqb}
use Rattle.nibl.specs.Page.{is_good, fits}
use Rattle.nibl.specs.Lent.{Lent}
use Rattle.nibl.specs.FirstRefusals.{page_in_range, memory_in_range, input_in_range, output_in_range, position_in_range, budget_in_range, table_in_range, table_is_true, in_range, first_refusal}
use Rattle.nibl.specs.Calls.{obey_line, take_line_in, continue_from, continue_run_in}
use Rattle.page.proofs.Walk.{by_cases}
use Rattle.page.proofs.Program.{both}
use Rattle.demands.specs.Lent.{HasTable, InRange, budgeted, gathered_line}

pub table-range-of : (x : Lent) → table_in_range x.call (length x.table) ≡ true → HasTable x → 1025 ≤ length x.table
table-range-of x h n = leb-true _ _ (rw (ne_eqb x.call.tabled 0 n) at h)

pub table-range-is : (x : Lent) → (HasTable x → 1025 ≤ length x.table) → table_in_range x.call (length x.table) ≡ true
table-range-is x h =
    by_cases (eqb x.call.tabled 0) (λ e. rw e) (λ e. rw (e, le-leb 1025 (length x.table) (h (eqb-false x.call.tabled 0 e))))

pub in-range-of : (x : Lent) → in_range x ≡ true → InRange x
in-range-of x h =
    let p = both (page_in_range (length x.page)) _ h in
    let a = both (leb 2 (length x.page)) _ p.0 in
    let c = both (memory_in_range (length x.memory)) _ p.1 in
    let d = both (input_in_range (length x.input)) _ c.1 in
    let e = both (output_in_range (length x.output)) _ d.1 in
    let f = both (position_in_range x.call.inpos (length x.input)) _ e.1 in
    let g = both (position_in_range x.call.outpos (length x.output)) _ f.1 in
    let i = both (budget_in_range x.call.budget) _ g.1 in
    record {
      some = leb-true _ _ a.0;
      page = leb-true _ _ a.1;
      memory = leb-true _ _ c.0;
      input = leb-true _ _ d.0;
      output = leb-true _ _ e.0;
      inpos = leb-true _ _ f.0;
      outpos = leb-true _ _ g.0;
      budget = leb-true _ _ i.0;
      table = table-range-of x i.1;
    }

pub in-range-is : {x : Lent} → InRange x → in_range x ≡ true
in-range-is {x = x} r =
    rw (
      le-leb 2 (length x.page) r.some,
      le-leb (length x.page) 4096 r.page,
      le-leb (length x.memory) 4096 r.memory,
      le-leb (length x.input) 65535 r.input,
      le-leb (length x.output) 65535 r.output,
      le-leb x.call.inpos (length x.input) r.inpos,
      le-leb x.call.outpos (length x.output) r.outpos,
      le-leb x.call.budget 65535 r.budget,
      table-range-is x r.table,
    )

pub record Accepted (lim : ℕ) (x : Lent) : Type 0 where
  pub range : InRange x
  pub good : is_good lim x.page ≡ true
  pub table : table_is_true x ≡ true
  pub fit : fits x.page x.session ≡ true

pub accepted-of : (lim : ℕ) (x : Lent) → first_refusal lim x ≡ 0 → Accepted lim x
unfolding first_refusal
accepted-of lim x h = by (in_range x) refl (is_good lim x.page) refl (table_is_true x) refl (fits x.page x.session) refl h where
  by : (a : Bool) → in_range x ≡ a → (b : Bool) → is_good lim x.page ≡ b → (c : Bool) → table_is_true x ≡ c → (d : Bool) → fits x.page x.session ≡ d
      → ◌≡◌ {A = ℕ} (if not a then 1 else if not b then 18 else if not c then 26 else if not d then 19 else 0) 0 → Accepted lim x
  by true p true q true r true s e = record { range = in-range-of x p; good = q; table = r; fit = s }
  by false p b q c r d s e = absurd (omega arith)
  by true p false q c r d s e = absurd (omega arith)
  by true p true q false r d s e = absurd (omega arith)
  by true p true q true r false s e = absurd (omega arith)

pub accepted-is : {lim : ℕ} {x : Lent} → Accepted lim x → first_refusal lim x ≡ 0
unfolding first_refusal
accepted-is s = rw (in-range-is s.range, s.good, s.table, s.fit)

-- and so has the same call with a smaller budget
pub accepted-less : (lim : ℕ) (x : Lent) (k l : ℕ) → k ≤ l → first_refusal lim (budgeted l x) ≡ 0 → first_refusal lim (budgeted k x) ≡ 0
accepted-less lim x k l h e =
    let a = accepted-of lim (budgeted l x) e in
    let r = a.range in
    let less : InRange (budgeted k x) =
    record {
      some = r.some;
      page = r.page;
      memory = r.memory;
      input = r.input;
      output = r.output;
      inpos = r.inpos;
      outpos = r.outpos;
      budget = omega (arith, r.budget);
      table = r.table;
    } in
    accepted-is (record { range = less; good = a.good; table = a.table; fit = a.fit })

-- it does what its line does, or what its pause says
pub take_at : (lim : ℕ) (x : Lent) → first_refusal lim x ≡ 0 → take_line_in lim x ≡ obey_line lim x (gathered_line lim x)
unfolding take_line_in
take_at lim x h = rw (h, take_line_in)

pub continue-at : (lim : ℕ) (x : Lent) → first_refusal lim x ≡ 0 → continue_run_in lim x ≡ continue_from lim x x.session.paused
unfolding continue_run_in
continue-at lim x h = rw (h, continue_run_in)
