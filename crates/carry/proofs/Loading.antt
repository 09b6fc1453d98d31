-- What a load leaves, by what was opened. Assumes nothing.
use Rattle.std.specs.Prelude.{if◌then◌else◌}
use Prim.Native.Nat.{ℕ, ◌+◌, ◌-◌, ◌≤◌, ◌<◌}
use mathlib.Core.Path.{◌≡◌, refl, sym, ap, ◌∙◌}
use mathlib.Core.Bool.{Bool, true, false, not}
use mathlib.Core.List.{List, [], ◌∷◌, ◌++◌}
use native.Mathlib.Omega.{arith}
use lib.ListN.{length, take, drop, length-drop}
use lib.Seq.{length-take-le}
use lib.Dec.{leb, eqb}
use borrow.Author.Tests.{le-leb, lt-leb, leb-true, eq-eqb, ne_eqb}
use Rattle.nibl.specs.Values.{Result, is, no}
use Rattle.nibl.specs.Page.{program_bytes, onto}
use Rattle.nibl.specs.Saved.{RuleSet, records_bytes}
use Rattle.nibl.specs.found.Form.{values_in, form_in}
use Rattle.nibl.specs.Lent.{Lent, Left, lent_all, left_all, unchanged}
use Rattle.nibl.specs.Typing.{limit}
use Rattle.nibl.specs.FirstRefusals.{page_in_range, memory_in_range, table_in_range, has_table}
use Rattle.nibl.specs.Carry.{load_in_range, loaded, loads_form, loads_in, loads}
use Rattle.nibl.specs.declared.Session.{Session}
use Rattle.nibl.specs.declared.Call.{Call}
use Rattle.page.proofs.Walk.{by_cases}
use Rattle.page.proofs.Program.{both, program-length}
use Rattle.table.specs.Lent.{lent_entries}
use Rattle.carry.specs.Forms.{OpenedAt}
use Rattle.carry.proofs.Forms.{records-length, onto-records}

-- a load does not look at the output: with another one it leaves that
module _ (s : Session) (page memory form output : List ℕ) (c : Call) (table : List ℕ) where
  abbrev with : List ℕ → Lent
  with o = lent_all s page memory form o c table

  abbrev pub holding : Left → Left
  holding u = left_all u.outcome.answer u.outcome.session u.outcome.page u.outcome.memory output u.table

  pub any-output : (r : Result RuleSet) → holding (loads_form (with []) r) ≡ loads_form (with output) r
  any-output (no n) = refl
  any-output (is d) = by (eqb (length d.memory) (length memory)) (leb (length (program_bytes d.records)) (length page)) where
    by : (a b : Bool) → holding (if not a then unchanged (with []) 24 else if not b then unchanged (with []) 2 else loaded (with []) d)
        ≡ (if not a then unchanged (with output) 24 else if not b then unchanged (with output) 2 else loaded (with output) d)
    by false b = refl
    by true false = refl
    by true true = refl

-- of a slice whose records end at e
module _ (lim : ℕ) (x : Lent) (e : ℕ) (o : OpenedAt lim x.input e) where
  abbrev carried : RuleSet
  carried = record { vars = values_in 26 (drop 2 x.input); records = o.records; memory = drop (e + 2) x.input }

  pub records-long : length (records_bytes o.records) ≡ e - 56
  records-long = ap length (sym o.bytes) ∙ length-take-le (e - 56) (drop 56 x.input) (omega (arith, o.start, o.inside, length-drop 56 x.input))

  program-long : length (program_bytes o.records) ≡ e - 56 + 2
  program-long = program-length o.records ∙ sym (records-length o.records) ∙ ap (λ (n : ℕ). n + 2) records-long

  pub other-memory : (length x.input - (e + 2) ≡ length x.memory → ⊥) → loads_form x (form_in lim x.input) ≡ unchanged x 24
  other-memory n = ap (loads_form x) o.form ∙ rw (ne_eqb (length (drop (e + 2) x.input)) (length x.memory) (λ p. n (sym (length-drop (e + 2) x.input) ∙ p)))

  module _ (m : length x.input - (e + 2) ≡ length x.memory) where
    same_memory : eqb (length (drop (e + 2) x.input)) (length x.memory) ≡ true
    same_memory = eq-eqb _ _ (length-drop (e + 2) x.input ∙ m)

    pub no_room : length x.page < e - 56 + 2 → loads_form x (form_in lim x.input) ≡ unchanged x 2
    no_room h =
        ap (loads_form x) o.form ∙ rw (same_memory, lt-leb (length (program_bytes o.records)) (length x.page) (omega (arith, program-long)))

    pub loads-whole : e - 56 + 2 ≤ length x.page → loads_form x (form_in lim x.input) ≡ loaded x carried
    loads-whole h =
        ap (loads_form x) o.form ∙ rw (same_memory, le-leb (length (program_bytes o.records)) (length x.page) (omega (arith, program-long)))

  -- the page that is left, by the bytes that were put there
  pub page-left : (page : List ℕ) (b : List ℕ) → b ≡ take (e - 56) (drop 56 x.input) → page ≡ b ++ (255 ∷ 255 ∷ drop (length b + 2) x.page) → page ≡ onto x.page o.records
  page-left page b p q =
      let i : b ≡ records_bytes o.records = p ∙ o.bytes in
      q ∙ ap (λ (l : List ℕ). l ++ (255 ∷ 255 ∷ drop (length l + 2) x.page)) i ∙ sym (onto-records x.page o.records)

-- a table that is lent is lent whole
pub entries-enough : (c : Call) (table : List ℕ) {n : ℕ} → n ≡ lent_entries c table → table_in_range c (length table) ≡ true → 1 ≤ n → 1025 ≤ n
entries-enough c table e l h =
    by_cases (has_table c) (λ f. let k : 1025 ≤ length table = leb-true _ _ (rw f at l) in omega (arith, rw f at e)) (λ f. absurd (omega (arith, rw f at e)))

-- by its tests in their order
module _ (x : Lent) where
  pub load-1 : load_in_range x ≡ false → unchanged x 1 ≡ loads x
  unfolding loads loads_in
  load-1 a = rw a

  pub load-form : load_in_range x ≡ true → loads_form x (form_in limit x.input) ≡ loads x
  unfolding loads loads_in
  load-form a = rw a

  pub load-no : {n : ℕ} → load_in_range x ≡ true → form_in limit x.input ≡ no n → unchanged x n ≡ loads x
  load-no a e = ap (loads_form x) (sym e) ∙ load-form a

  pub page-range : load_in_range x ≡ true → length x.page ≤ 4096
  page-range a = leb-true _ _ (both (leb 2 (length x.page)) _ (both (page_in_range (length x.page)) _ a).0).1

  pub table-range : load_in_range x ≡ true → table_in_range x.call (length x.table) ≡ true
  table-range a = (both (memory_in_range (length x.memory)) _ (both (page_in_range (length x.page)) _ a).1).1
