-- Item 5, there and back: what a load leaves is sound and is what was carried; what was saved is loaded, and what was loaded saves to the same
-- bytes. Assumes nothing.
use Prim.Native.Nat.{ℕ, ◌+◌, ◌%◌, ◌≤◌}
use mathlib.Core.Path.{◌≡◌, refl, sym, ap, subst, ◌∙◌}
use mathlib.Core.Bool.{true}
use mathlib.Core.List.{List}
use native.Mathlib.Omega.{arith}
use lib.ListN.{length, drop, length-append, length-drop}
use lib.Seq.{drop_at}
use borrow.Author.Tests.{lt-ltb, ne_eqb}
use Rattle.nibl.specs.Typing.{limit}
use Rattle.nibl.specs.Record.{loaded_session}
use Rattle.nibl.specs.Page.{Stored, fits, records_of, program_bytes, used_by, used, onto}
use Rattle.nibl.specs.Saved.{RuleSet, saved_form}
use Rattle.nibl.specs.Lent.{Lent, Left}
use Rattle.nibl.specs.Carry.{rule_set_of, saved, saves, loaded, loads}
use Rattle.nibl.specs.declared.Session.{Session}
use Rattle.nibl.proofs.Determined.{determined}
use Rattle.page.specs.Standing.{Bytes}
use Rattle.page.proofs.Program.{Program, program-length}
use Rattle.page.proofs.Laid.{good-program}
use Rattle.page.proofs.Changes.{onto-good, onto-records}
use Rattle.page.proofs.Tables.{table_fits, refilled-true, refilled-long}
use Rattle.demands.specs.Lent.{HasTable, InRange}
use Rattle.demands.specs.Good.{GoodPage, Unrefused}
use Rattle.demands.specs.Listing.{written}
use Rattle.demands.proofs.Good.{fits-exact}
use Rattle.demands.proofs.ByGrammar.{a-good-page}
use Rattle.demands.proofs.Tables.{table-exact}
use Rattle.changes.specs.Carry.{Carryable, OfTypes, SaveRange, writes, LoadRange, Brings, LoadsAs, load_out_of_range, other_form, bad_form, other_memory, page_full, takes, Loads}
use Rattle.changes.proofs.Forms.{carryable-formed, formed-carryable}
use Rattle.changes.proofs.Carry.{saves-back, save-done, save-writes, taken-is-0, loads-so}

-- the page with a program's records
module _ (page : List ℕ) (rs : List Stored) (p : Program limit 0 rs) (room : length (program_bytes rs) ≤ length page) where
  abbrev after : List ℕ
  after = onto page rs

  after-long : length after ≡ length page
  after-long = length-append (program_bytes rs) (drop (length (program_bytes rs)) page) ∙ omega (arith, length-drop (length (program_bytes rs)) page)

  after-used : used after ≡ length (program_bytes rs)
  unfolding used
  after-used = ap used_by (onto-records page p) ∙ sym (program-length rs)

  after-rest : drop (used after) after ≡ drop (used after) page
  after-rest =
      rw after-used (drop_at (program_bytes rs) (drop (length (program_bytes rs)) page) (length (program_bytes rs)) refl)

-- a record with empty stacks, no pause and three flags fits every page
loaded-fits : (page : List ℕ) (s : Session) (vars : List ℕ) → fits page (loaded_session s vars) ≡ true
unfolding fits
loaded-fits page s vars = rw (lt-ltb (s.flags % 8) 8 (omega arith))

-- What a load leaves
module _ (x : Lent) where
  -- what is loaded, past the refusals
  module _ (c : RuleSet) (b : Brings x c) (room : length (program_bytes c.records) ≤ length x.page) where
    abbrev left : Left
    left = loaded x c

    program : Program limit 0 c.records
    program = (carryable-formed limit (omega arith) b.carryable).program

    left-good : GoodPage limit left.outcome.page
    left-good = (a-good-page left.outcome.page).0 (onto-good x.page program)

    loaded-leaves : Loads x c left
    loaded-leaves =
        record {
          program = onto-records x.page program;
          vars = refl;
          memory = refl;
          long = after-long x.page c.records program room;
          after = after-rest x.page c.records program room;
          output = refl;
          good = left-good;
          fits = (fits-exact limit (omega arith) left.outcome.page left-good left.outcome.session).0 (loaded-fits left.outcome.page x.session c.vars);
          table = λ n. rw (ne_eqb x.call.tabled 0 n)
              ((table-exact left.outcome.page _ limit (omega arith) left-good).0 (refilled-true left.outcome.page x.table));
          entries = λ n. rw (ne_eqb x.call.tabled 0 n)
              (refilled-long left.outcome.page x.table (omega (arith, table_fits left.outcome.page (omega (arith, b.range.page, after-long x.page c.records program room)), b.range.table n)));
        }

  -- a load that is done: what it brought, and all that it leaves
  pub record LoadDone : Type 0 where
    pub carried : RuleSet
    pub brought : Brings x carried
    pub leaves : loads x ≡ loaded x carried
    pub sound : Loads x carried (loads x)

  pub load-leaves : Bytes x.input → (loads x).outcome.answer.stop ≡ 0 → LoadDone
  load-leaves bytes = by (loads-so x bytes) refl where
    by : {u : Left} → LoadsAs x u → loads x ≡ u → (loads x).outcome.answer.stop ≡ 0 → LoadDone
    by (load_out_of_range n) e z = absurd (omega (arith, ap (λ (v : Left). v.outcome.answer.stop) e))
    by (other_form r n) e z = absurd (omega (arith, ap (λ (v : Left). v.outcome.answer.stop) e))
    by (bad_form r s f n) e z = absurd (omega (arith, ap (λ (v : Left). v.outcome.answer.stop) e))
    by (other_memory c b n) e z = absurd (omega (arith, ap (λ (v : Left). v.outcome.answer.stop) e))
    by (page_full c b m l) e z = absurd (omega (arith, ap (λ (v : Left). v.outcome.answer.stop) e))
    by (takes c b m l) e z = record { carried = c; brought = b; leaves = e; sound = subst (Loads x c) (sym e) (loaded-leaves c b l) }

  -- what it leaves, lent in range to the next call, is past 18, 26 and 19: page, record and, where it was lent, the table
  pub loaded-is-taken : Bytes x.input → (loads x).outcome.answer.stop ≡ 0 → (y : Lent) → InRange y → y.page ≡ (loads x).outcome.page
      → y.session ≡ (loads x).outcome.session → (HasTable y → HasTable x × (y.table ≡ (loads x).table)) → Unrefused limit y
  loaded-is-taken bytes z y r p s t =
      let d = (load-leaves bytes z).sound in
      record {
        range = r;
        good = rw p d.good;
        table = λ n. let u = t n in rw (p, u.1) (d.table u.0);
        fits = rw (p, s) d.fits;
      }

-- what a box has may be carried
carryable : (x : Lent) → OfTypes x → GoodPage limit x.page → length x.memory ≤ 4096 → Carryable limit (rule_set_of x)
carryable x t g m =
    formed-carryable limit (record {
      vars = t.vars;
      values = t.values;
      program = good-program limit x.page t.page ((a-good-page x.page).1 g);
      bytes = t.memory;
      short = omega arith;
    })

-- "Load after save gives the same program, variables and memory": of any box x, on any box y whose memory is as long and whose page has room.
-- Nothing is asked of y's page, record, flags and of what its table holds
pub load-after-save : (x y : Lent) → OfTypes x → (saves x).outcome.answer.stop ≡ 0 → LoadRange y → y.input ≡ written x (saves x).outcome
    → length y.memory ≡ length x.memory → used x.page ≤ length y.page → (loads y ≡ loaded y (rule_set_of x)) × Loads y (rule_set_of x) (loads y)
unfolding used
load-after-save x y t z r i m room =
    let d = save-done x z in
    let b : Brings y (rule_set_of x) = record { range = r; carryable = carryable x t d.good d.range.memory; form = i ∙ (save-writes x z).1 } in
    let l : length (program_bytes (records_of x.page)) ≤ length y.page = omega (arith, program-length (records_of x.page)) in
    let e = taken-is-0 y (rule_set_of x) b (sym m) l in
    (e, subst (Loads y (rule_set_of x)) (sym e) (loaded-leaves y (rule_set_of x) b l))

-- "a loaded form saves to the same bytes": what y's load left, lent to a save in range and with room, is saved to the very bytes that y loaded
pub save-after-load : (y z : Lent) → Bytes y.input → (loads y).outcome.answer.stop ≡ 0 → SaveRange z → z.page ≡ (loads y).outcome.page
    → z.session ≡ (loads y).outcome.session → z.memory ≡ (loads y).outcome.memory → z.call.outpos + length y.input ≤ length z.output
    → saves z ≡ saved z y.input
save-after-load y z bytes done r p s m room =
    let d = load-leaves y bytes done in
    let same : rule_set_of z ≡ d.carried =
    λ i. record { vars = (ap (λ (t : Session). t.vars) s ∙ d.sound.vars) i; records = (ap records_of p ∙ d.sound.program) i; memory = (m ∙ d.sound.memory) i } in
    let form : saved_form (rule_set_of z) ≡ y.input = ap saved_form same ∙ sym d.brought.form in
    let there : z.call.outpos + length (saved_form (rule_set_of z)) ≤ length z.output = rw form room in
    saves-back z (writes r (rw p d.sound.good) (rw (p, s) d.sound.fits) there) ∙ ap (saved z) form

-- "two permitted outcomes equal"
pub one-save : (x : Lent) (a b : Left) → a ≡ saves x → b ≡ saves x → a ≡ b
one-save x = determined (saves x)

pub one-load : (x : Lent) (a b : Left) → a ≡ loads x → b ≡ loads x → a ≡ b
one-load x = determined (loads x)
