-- Item 3, "a table of line places", of the calls. Assumes nothing.
use Prim.Native.Nat.{ℕ, zero, suc, ◌+◌, ◌≤◌, ◌<◌}
use mathlib.Core.Path.{◌≡◌, refl, sym, ap, ◌∙◌}
use mathlib.Core.Bool.{Bool, true, false}
use mathlib.Core.List.{List, [], ◌∷◌}
use mathlib.Core.Logic.{◌↔◌}
use mathlib.Core.Option.{Option, none, some}
use native.Mathlib.Omega.{arith}
use lib.ListN.{length, take, drop}
use lib.Seq.{take-append-le, drop-append_seam}
use lib.Dec.{ltb, leb, eqb}
use borrow.Author.Tests.{ltb-true, leb-true, leb-false, eqb-true, eqb-false, le-ltb, ne_eqb}
use Rattle.nibl.specs.Tree.{Member, Typed, new, delete, store}
use Rattle.nibl.specs.Readings.{LineReading}
use Rattle.nibl.specs.Typing.{Gathered}
use Rattle.nibl.specs.Page.{Stored, records_of, size, used_by, has_line, with, without}
use Rattle.nibl.specs.Table.{positions_from, walk_table, describes, refilled}
use Rattle.nibl.specs.Lent.{Lent, Outcome, Left, stops}
use Rattle.nibl.specs.Typing.{limit}
use Rattle.nibl.specs.Lent.{lent_world, begun}
use Rattle.nibl.specs.FirstRefusals.{table_is_true, first_refusal}
use Rattle.nibl.specs.Calls.{edited, obey, obey_line, take_line, take_line_in, continue_from, continue_run, continue_run_in, table_after, leaves}
use Rattle.nibl.proofs.Whole.{typed-complete}
use Rattle.nibl.proofs.Determined.{determined}
use Rattle.page.proofs.Walk.{by_cases}
use Rattle.page.proofs.Program.{Program, none as no_record}
use Rattle.page.proofs.Changes.{with-program, without-program, onto-records}
use Rattle.page.proofs.Tables.{lines-most, table_fits, begins-split, positions-length, walk-length, refilled-true, refilled-long}
use Rattle.record.specs.Sound.{Sized, Sound}
use Rattle.demands.specs.Lent.{HasTable, InRange, gathered_line, Typing}
use Rattle.demands.specs.Leaves.{BothUnchanged, StaysInRange, LengthsHeld, is_edit}
use Rattle.demands.specs.Listing.{lent_next}
use Rattle.demands.specs.Good.{GoodPage, TrueTable, FalseTable, Fits}
use Rattle.demands.proofs.Accepted.{accepted-of, accepted-is, table-range-is}
use Rattle.demands.proofs.Tables.{table-exact, table_kept, table-refused, table-after, true-after, long_after}
use Rattle.demands.proofs.Forced.{out-of-range-is-1}
use Rattle.demands.proofs.ByGrammar.{a-good-page, no-good-page-is-18, no-true-table-is-26}
use Rattle.demands.proofs.Sound.{unrefused, sound-stays-sound}
use Rattle.demands.proofs.Storing.{stored-storable}
use Rattle.demands.proofs.Retyping.{line_read, program, line-short, deletes, new-empties, edited-fits, edited-full}
use Rattle.demands.proofs.Outside.{page-held, only-edits-change-the-page, continue-keeps-the-page, lengths-held}
use Rattle.demands.proofs.Written.{positions-stay-in-range}
use Rattle.demands.proofs.Exactly.{twenty-six-exactly}
use Rattle.table.specs.Spots.{below}
use Rattle.table.proofs.Below.{below-most}
use Rattle.changes.specs.Tables.{tabled_by, unlent, HeldBut}

-- "two permitted outcomes equal", the table with them
pub one_left : (f : Lent → Outcome) (x : Lent) (a b : Left) → a ≡ leaves f x → b ≡ leaves f x → a ≡ b
one_left f x a b p q = determined (leaves f x) a b p q

-- A table is asked for at first alone
module _ (x : Lent) (n : ℕ) (table : List ℕ) where
  abbrev y : Lent
  y = tabled_by n table x

  line_same : (g : Option Gathered) → obey_line limit x g ≡ obey_line limit y g
  line_same none = refl
  line_same (some g) = refl

  paused-same : (p : ℕ) → continue_from limit x p ≡ continue_from limit y p
  paused-same zero = refl
  paused-same (suc q) = refl

  calls_same : first_refusal limit x ≡ first_refusal limit y → (take_line x ≡ take_line y) × (continue_run x ≡ continue_run y)
  unfolding take_line take_line_in continue_run continue_run_in
  calls_same e = (rw (e, take_line_in) (taken (first_refusal limit y)), rw (e, continue_run_in) (continued (first_refusal limit y))) where
    taking : Lent → ℕ → Outcome
    taking z m = elim m [ zero ↦ obey_line limit z (gathered_line limit z) | suc m ↦ stops (suc m) (lent_world z) z.page ]

    taken : (m : ℕ) → taking x m ≡ taking y m
    taken zero = line_same (gathered_line limit x)
    taken (suc m) = refl

    continuing : Lent → ℕ → Outcome
    continuing z m = elim m [ zero ↦ continue_from limit z z.session.paused | suc m ↦ stops (suc m) (lent_world z) z.page ]

    continued : (m : ℕ) → continuing x m ≡ continuing y m
    continued zero = paused-same x.session.paused
    continued (suc m) = refl

-- "Runs with a true one and with none agree", in all that is left but the table
pub with-and-without : (x : Lent) → (HasTable x → 1025 ≤ length x.table) → table_is_true x ≡ true
    → (take_line x ≡ take_line (unlent x)) × (continue_run x ≡ continue_run (unlent x))
unfolding first_refusal
with-and-without x l t = calls_same x 0 x.table (rw (t, table-range-is x l))

-- A table that is not lent is not looked at
pub not-looked-at : (x : Lent) (table : List ℕ) → x.call.tabled ≡ 0 → (take_line x ≡ take_line (tabled_by 0 table x)) × (continue_run x ≡ continue_run (tabled_by 0 table x))
unfolding first_refusal
not-looked-at x table h = calls_same x 0 table (rw h)

-- 26 and 1
module _ (x : Lent) where
  -- "26, a table that does not describe the page, directly after 18 and, like 18, with nothing changed, the pause included". Whether
  -- the record fits is not asked
  pub exactly-26 : (((take_line x).answer.stop ≡ 26) ↔ FalseTable limit x) × (((continue_run x).answer.stop ≡ 26) ↔ FalseTable limit x) × (FalseTable limit x → BothUnchanged x 26)
  exactly-26 = ((twenty-six-exactly x).0, (twenty-six-exactly x).1, λ f. no-true-table-is-26 x f.range f.good f.lent f.false)

  -- a bad page comes before it, and a record that does not fit behind it
  pub in-its-order : (InRange x → (GoodPage limit x.page → ⊥) → (TrueTable x.page x.table → ⊥) → BothUnchanged x 18)
      × (FalseTable limit x → (Fits x.page x.session → ⊥) → BothUnchanged x 26)
  in-its-order = (λ r g t. no-good-page-is-18 x r g, λ f n. exactly-26.2 f)

  -- "A table of fewer than 1,025 entries is refused with 1"
  pub too-short-1 : HasTable x → length x.table < 1025 → BothUnchanged x 1
  too-short-1 n h = out-of-range-is-1 x (λ r. omega (arith, r.table n))

-- 1,025 entries are always enough
pub lines-1024 : (page : List ℕ) → length page ≤ 4096 → length (records_of page) ≤ 1024
lines-1024 page h = omega (arith, lines-most page)

-- What is left of a table
module _ (x : Lent) (o : Outcome) where
  -- where the page is left, whatever was lent and answered
  page-table : o.page ≡ x.page → table_after limit x o ≡ x.table
  page-table e = by (first_refusal limit x) refl where
    by : (n : ℕ) → first_refusal limit x ≡ n → table_after limit x o ≡ x.table
    by zero h = table_kept limit x o (accepted-of limit x h).table e
    by (suc n) h = table-refused limit x o n h

  table-unlent : x.call.tabled ≡ 0 → table_after limit x o ≡ x.table
  unfolding table_after
  table-unlent h = rw h

module _ (x : Lent) where
  -- "After each edit and NEW it must be what a fresh walk of the page gives", and after every other call past its first refusals
  pub table-true-after : first_refusal limit x ≡ 0 → HasTable x
      → (describes (take_line x).page (leaves take_line x).table ≡ true) × (describes (continue_run x).page (leaves continue_run x).table ≡ true)
  table-true-after h n = (
    rw (table-after limit x (take_line x) n h) (refilled-true (take_line x).page x.table),
    rw (table-after limit x (continue_run x) n h) (refilled-true (continue_run x).page x.table),
  )

  -- by the bytes: the records stand where it says, on the good page that is left
  pub table-true-by-bytes : Sized x.session → first_refusal limit x ≡ 0 → HasTable x
      → TrueTable (take_line x).page (leaves take_line x).table × TrueTable (continue_run x).page (leaves continue_run x).table
  table-true-by-bytes s h n =
      let t = table-true-after h n in
      let d = sound-stays-sound x (unrefused limit x s h) in (
        (table-exact (take_line x).page _ limit (omega arith) ((a-good-page (take_line x).page).0 d.0.good)).0 t.0,
        (table-exact (continue_run x).page _ limit (omega arith) ((a-good-page (continue_run x).page).0 d.1.good)).0 t.1,
      )

  -- A call that leaves the page leaves every entry, and so does one that is refused at first, or is lent none
  pub table-held : ((take_line x).page ≡ x.page → (leaves take_line x).table ≡ x.table) × ((leaves continue_run x).table ≡ x.table)
  table-held = (page-table x (take_line x), page-table x (continue_run x) (continue-keeps-the-page x))

  pub table-held-unedited : ((g : Gathered) (y : Typed) → Typing limit x g → LineReading g.line.bytes y → is_edit y ≡ false) → (leaves take_line x).table ≡ x.table
  table-held-unedited f = page-table x (take_line x) (only-edits-change-the-page x f)

  pub table-held-refused : (n : ℕ) → first_refusal limit x ≡ suc n → ((leaves take_line x).table ≡ x.table) × ((leaves continue_run x).table ≡ x.table)
  table-held-refused n h = (table-refused limit x (take_line x) n h, table-refused limit x (continue_run x) n h)

  pub table-held-unlent : x.call.tabled ≡ 0 → ((leaves take_line x).table ≡ x.table) × ((leaves continue_run x).table ≡ x.table)
  table-held-unlent h = (table-unlent x (take_line x) h, table-unlent x (continue_run x) h)

-- The lines before an edited one stand where they stood
module _ (n : ℕ) where
  below-without : (rs : List Stored) → below n rs ≤ length (without n rs)
  below-without [] = omega arith
  below-without (r ∷ rs) =
      by_cases (ltb r.line n)
      (λ e. let h = ltb-true r.line n e in rw (e, ne_eqb r.line n (λ f. omega arith)) (omega (arith, below-without rs)))
      (λ e. rw e (omega arith))

  without-before : (at : ℕ) (rs : List Stored) → take (below n rs) (positions_from at (without n rs)) ≡ take (below n rs) (positions_from at rs)
  without-before at [] = refl
  without-before at (r ∷ rs) =
      by_cases (ltb r.line n)
      (λ e. let h = ltb-true r.line n e in
      rw (e, ne_eqb r.line n (λ f. omega arith)) (ap (λ (ps : List ℕ). at ∷ ps) (without-before (at + size r) rs)))
      (λ e. rw e)

module _ (q : Stored) where
  with-more : (rs : List Stored) → length rs ≤ length (with q rs)
  with-more [] = omega arith
  with-more (r ∷ rs) =
      by_cases (ltb q.line r.line) (λ e. rw e (omega arith))
      (λ e. rw e (by_cases (eqb q.line r.line) (λ f. rw f (omega arith)) (λ f. rw f (omega (arith, with-more rs)))))

  with-before : (at : ℕ) (rs : List Stored) → take (below q.line rs) (positions_from at (with q rs)) ≡ take (below q.line rs) (positions_from at rs)
  with-before at [] = refl
  with-before at (r ∷ rs) =
      by_cases (ltb r.line q.line)
      (λ e. let h = ltb-true r.line q.line e in
      rw (e, le-ltb q.line r.line (omega arith), ne_eqb q.line r.line (λ f. omega arith))
      (ap (λ (ps : List ℕ). at ∷ ps) (with-before (at + size r) rs)))
      (λ e. rw e)

all_held : (k m : ℕ) {table after : List ℕ} → after ≡ table → HeldBut k m table after
all_held k m e = record { long = rw e; before = rw e; past = rw e }

-- so a true table that is made true of the page with the edit keeps their entries
module _ (page after table : List ℕ) (is : describes page table ≡ true) (room : length (walk_table after) ≤ length table) (k : ℕ)
    (old : k ≤ length (records_of page)) (now : k ≤ length (records_of after))
    (same : take k (positions_from 0 (records_of after)) ≡ take k (positions_from 0 (records_of page))) where
  refilled-before : take k (drop 1 (refilled after table)) ≡ take k (drop 1 table)
  unfolding refilled walk_table describes
  refilled-before =
      let s = begins-split (walk_table page) table is in
      take-append-le k (positions_from 0 (records_of after)) _ (omega (arith, positions-length 0 (records_of after)))
      ∙ same
      ∙ sym (take-append-le k (positions_from 0 (records_of page)) _ (omega (arith, positions-length 0 (records_of page))))
      ∙ ap (λ (t : List ℕ). take k (drop 1 t)) s

  refilled-past : drop (suc (length (records_of after))) (refilled after table) ≡ drop (suc (length (records_of after))) table
  unfolding refilled
  refilled-past = rw (← walk-length after) (drop-append_seam (walk_table after) (drop (length (walk_table after)) table))

  refilled-held : HeldBut k (length (records_of after)) table (refilled after table)
  refilled-held = record { long = refilled-long after table room; before = refilled-before; past = refilled-past }

-- Of a typed line that edits
module _ (x : Lent) (g : Gathered) (h : Typing limit x g) where
  abbrev rs : List Stored
  rs = records_of x.page

  abbrev Held : ℕ → Type 0
  Held k = HeldBut k (length (records_of (take_line x).page)) x.table (leaves take_line x).table

  -- the page is left, or has these records then
  module _ (after : List Stored) (k : ℕ) (old : k ≤ length rs) (now : k ≤ length after) (same : take k (positions_from 0 after) ≡ take k (positions_from 0 rs)) where
    held_by : records_of (take_line x).page ≡ after → Held k
    held_by e =
        let a = accepted-of limit x h.sound in
        by_cases (eqb x.call.tabled 0) (λ f. all_held k _ (table-unlent x (take_line x) (eqb-true x.call.tabled 0 f)))
        (λ f.
        let n = eqb-false x.call.tabled 0 f in
        let l = a.range.table n in
        let m = table_fits (take_line x).page (omega (arith, (page-held x).long, a.range.page)) in
        rw (table-after limit x (take_line x) n h.sound)
        (refilled-held x.page (take_line x).page x.table (rw f at a.table) (omega arith) k old (rw e now) (rw e same)))

    edit-held : Program limit 0 after → take_line x ≡ edited x.page (begun x g.taken) after → Held k
    edit-held p e =
        by_cases (leb (used_by after) (length x.page))
        (λ f. held_by (ap records_of (ap (λ (o : Outcome). o.page) (e ∙ edited-fits x.page (begun x g.taken) after (leb-true _ _ f))) ∙ onto-records x.page p))
        (λ f. all_held k _ (page-table x (take_line x) (ap (λ (o : Outcome). o.page) (e ∙ edited-full x.page (begun x g.taken) after (leb-false _ _ f)))))

  -- "only the count and the entries from the edited line on may change": of a stored line
  pub table-held-by-store : (n : ℕ) (t : List ℕ) (ms : List Member) → LineReading g.line.bytes (store n t ms)
      → HeldBut (below n (records_of x.page)) (length (records_of (take_line x).page)) x.table (leaves take_line x).table
  unfolding obey
  table-held-by-store n t ms r =
      let q : Stored = record { line = n; text = t } in
      let p = program x g h in
      let k = below-most n rs in
      edit-held (with q rs) (below n rs) k (omega (arith, with-more q rs)) (with-before q 0 rs)
      (with-program q (stored-storable limit (omega arith) r (line-short x g h)) (omega arith) p) (line_read x g (store n t ms) h (typed-complete r))

  -- of a deleted one, there or absent
  pub table-held-by-delete : (n : ℕ) → LineReading g.line.bytes (delete n)
      → HeldBut (below n (records_of x.page)) (length (records_of (take_line x).page)) x.table (leaves take_line x).table
  table-held-by-delete n r = by (has_line n rs) refl where
    by : (b : Bool) → has_line n rs ≡ b → Held (below n rs)
    by true e = edit-held (without n rs) (below n rs) (below-most n rs) (below-without n rs) (without-before n 0 rs) (without-program n (program x g h)) (deletes x g h n r true e)
    by false e = all_held (below n rs) _ (page-table x (take_line x) (ap (λ (o : Outcome). o.page) (deletes x g h n r false e)))

  -- of NEW: all but the count
  pub table-held-by-new : LineReading g.line.bytes new → HeldBut 0 0 x.table (leaves take_line x).table
  unfolding obey
  table-held-by-new r =
      let a = edit-held [] 0 (omega arith) (omega arith) refl no_record (line_read x g new h (typed-complete r)) in
      rw (new-empties x g h r).1 at a

-- What a call past its first refusals leaves, lent to the next one, is past them too: the table never needs to be made again
module _ (x : Lent) (h : first_refusal limit x ≡ 0) where
  next-taken : (o : Outcome) → Sound limit o.page o.session → length o.page ≡ length x.page → LengthsHeld x o → StaysInRange x o
      → first_refusal limit (lent_next x o) ≡ 0
  next-taken o s p l i =
      let r = (accepted-of limit x h).range in
      let range : InRange (lent_next x o) =
      record {
        some = omega (arith, p, r.some);
        page = omega (arith, p, r.page);
        memory = omega (arith, l.memory, r.memory);
        input = r.input;
        output = omega (arith, l.output, r.output);
        inpos = i.0;
        outpos = i.1;
        budget = r.budget;
        table = long_after limit x o h (omega (arith, p, r.page));
      } in
      accepted-is (record { range = range; good = s.good; table = true-after limit x o h; fit = s.fitting })

  pub what-is-left-is-taken : Sized x.session → (first_refusal limit (lent_next x (take_line x)) ≡ 0) × (first_refusal limit (lent_next x (continue_run x)) ≡ 0)
  what-is-left-is-taken z =
      let s = sound-stays-sound x (unrefused limit x z h) in
      let l = lengths-held x in
      let i = positions-stay-in-range x (accepted-of limit x h).range in (
        next-taken (take_line x) s.0 (page-held x).long l.0 i.0,
        next-taken (continue_run x) s.1 (ap length (continue-keeps-the-page x)) l.1 i.1,
      )
