-- A call of a box: what it answers, prints and keeps, and what it writes. Assumes nothing.
use Rattle.std.specs.Prelude.{if◌then◌else◌}
use Prim.Native.Nat.{ℕ, zero, suc, ◌+◌, ◌≤◌, ◌<◌}
use mathlib.Core.Path.{◌≡◌, refl, sym, ap, ◌∙◌, subst}
use mathlib.Core.Bool.{Bool, true, false, not, ◌&&◌}
use mathlib.Core.List.{List, [], ◌∷◌}
use mathlib.Core.Option.{Option, none, some}
use mathlib.Core.Logic.{◌⊎◌, inl, inr}
use native.Mathlib.Omega.{arith}
use lib.ListN.{length, get_or, drop, set}
use lib.Seq.{sets, length-sets, get_or-set_other}
use lib.Dec.{ltb, leb, eqb}
use borrow.Author.Tests.{ltb-true, ltb-false, leb-true, leb-false}
use Rattle.nibl.specs.Tree.{Typed, blank, new, clear, run, delete, list, store, immediate}
use Rattle.nibl.specs.found.Read.{typed}
use Rattle.nibl.specs.found.Column.{column_of}
use Rattle.nibl.specs.Values.{is, no}
use Rattle.nibl.specs.Typing.{Gathered, gather, limit}
use Rattle.nibl.specs.Record.{paused_at, with_paused, unpaused, stackless, cleared}
use Rattle.nibl.specs.Page.{Stored, records_of, program_bytes, has_line, without, with, onto, is_good, fits}
use Rattle.nibl.specs.Table.{refilled}
use Rattle.nibl.specs.Access.{may_write}
use Rattle.nibl.specs.Meaning.{World, Env, with_session, Done, byte_of, string_at, store_at, put, went, exec}
use Rattle.nibl.specs.Lent.{Lent, Outcome, outcome_with, answer_of, no_line, stops, lent_world, begun, sight_of, lent_env}
use Rattle.nibl.specs.Runs.{Ran, stop_at, pausing, run_from, run_outcome}
use Rattle.nibl.specs.FirstRefusals.{has_table, lengths_in_range, table_is_true, first_refusal}
use Rattle.nibl.specs.Calls.{needs_program, edited, listed, list_from, after_immediate, obey, obey_read, obey_line, take_line_in, continue_from, continue_run_in, take_line, continue_run, table_after, leaves}
use Rattle.nibl.specs.declared.Session.{Session}
use Rattle.nibl.specs.declared.access.Access.{Access}
use Rattle.page.proofs.Walk.{by_cases}
use Rattle.demands.specs.Whose.{Inside}
use Rattle.demands.proofs.Whose.{own_of}
use Rattle.changes.specs.Alike.{Likeness, ResultsAlike, given, refused, SessionsAlike, WorldsAlike, go_on, skips, goes, stops as stopped, Both, both, EnvsAlike, Alike, alike, heard, parted, RunsAlike, together, apart}
use Rattle.changes.specs.Boxes.{Sees, Printed, CallsAlike, OutcomesAlike, LeftAlike, WritesOwn}
use Rattle.changes.proofs.AlikeStatements.{went-both, put_both, exec-alike}
use Rattle.changes.proofs.AlikeRuns.{run-alike}
use Rattle.changes.proofs.BoxRuns.{any-stmt, one_page, fetches-same, same-page, seen}

-- One page, one record: what the calls leave is alike, memories by M
module _ (M : List ℕ → List ℕ → Type 0) (a : ℕ) (lent lent' : List ℕ) where
  record Ends (o o' : Outcome) : Type 0 where
    answer : o.answer ≡ o'.answer
    session : o.session ≡ o'.session
    page : o.page ≡ o'.page
    memory : M o.memory o'.memory
    output : Printed a lent lent' o.answer.outpos o.output o'.output

  abbrev L : Likeness
  L = one_page M a lent lent'

  session-same : {s s' : Session} → SessionsAlike L s s' → s ≡ s'
  session-same r = λ j. record { vars = r.vars j; flags = r.flags j; gosubs = r.gosubs j; dos = r.dos j; fors = r.fors j; paused = r.paused j }

  sessions-alike : {s s' : Session} → s ≡ s' → SessionsAlike L s s'
  sessions-alike e =
      record {
        vars = λ j. (e j).vars;
        flags = λ j. (e j).flags;
        gosubs = λ j. (e j).gosubs;
        dos = λ j. (e j).dos;
        fors = λ j. (e j).fors;
        paused = λ j. (e j).paused;
      }

  -- the record changed in one way
  changed : {i : ℕ} {w w' : World} (f : Session → Session) → WorldsAlike L i w w' → WorldsAlike L i (with_session w (f w.session)) (with_session w' (f w'.session))
  changed f r =
      record {
        session = sessions-alike (ap f (session-same r.session));
        memory = r.memory;
        output = r.output;
        outpos = r.outpos;
        here = r.here;
        there = r.there;
      }

  ends : {i n n' l l' k k' : ℕ} {w w' : World} (page : List ℕ) (column : ℕ) → n ≡ n' → l ≡ l' → k ≡ k' → WorldsAlike L i w w'
      → Ends (outcome_with (answer_of n l k w.inpos w.outpos column) w.session page w.memory w.output)
      (outcome_with (answer_of n' l' k' w'.inpos w'.outpos column) w'.session page w'.memory w'.output)
  ends page column h g f r =
      record {
        answer = λ j. answer_of (h j) (g j) (f j) ((r.here ∙ sym r.there) j) (r.outpos j) column;
        session = session-same r.session;
        page = refl;
        memory = r.memory;
        output = r.output;
      }

  stop-ends : {i : ℕ} {w w' : World} (n : ℕ) (page : List ℕ) → WorldsAlike L i w w' → Ends (stops n w page) (stops n w' page)
  stop-ends n page r = ends page 0 refl refl refl r

  paused-alike : {i n n' q q' : ℕ} {w w' : World} → n ≡ n' → q ≡ q' → WorldsAlike L i w w' → WorldsAlike L i (pausing n q w) (pausing n' q' w')
  paused-alike {i} {n} {n'} {q} {q'} {w} {w'} h g r =
      subst (λ (k : ℕ). WorldsAlike L i (pausing n q w) (pausing k q' w')) h (subst (λ (p : ℕ). WorldsAlike L i (pausing n q w) (pausing n p w')) g (by (eqb n 14)))
    where
      by : (b : Bool)
          → WorldsAlike L i (if b then with_session w (with_paused w.session (paused_at q)) else w) (if b then with_session w' (with_paused w'.session (paused_at q)) else w')
      by true = changed (λ (s : Session). with_paused s (paused_at q)) r
      by false = r

  either : {p q : ℕ} → (p ≡ q) ⊎ (p ≡ q) → p ≡ q
  either (inl e) = e
  either (inr e) = e

  module _ (e : Env) (s : EnvsAlike L (λ i. ⊥) e e) (budget : ℕ) where
    run_ends : {i : ℕ} {r r' : Ran} → RunsAlike L (λ j. ⊥) e i r r' → Ends (run_outcome r e.page) (run_outcome r' e.page)
    run_ends (together m h g p w) = ends e.page 0 h (λ j. stop_at (h j) (g j)) (λ j. length (g j)) (paused-alike h (either p) w)
    run_ends (apart m n l h g) = absurd n

    runs : {i q q' : ℕ} {w w' : World} → q ≡ q' → WorldsAlike L i w w' → Ends (run_outcome (run_from budget e q w) e.page) (run_outcome (run_from budget e q' w') e.page)
    runs {i} {q} {q'} {w} {w'} p r = run_ends (run-alike L (λ j. ⊥) e e s (fetches-same M a lent lent' e.page) budget i q q' w w' p r)

    both_ends : {i : ℕ} {d d' : Done} → Both L i d d' → Ends (after_immediate budget e d) (after_immediate budget e d')
    both_ends (both go_on r) = stop-ends 0 e.page r
    both_ends (both skips r) = stop-ends 0 e.page r
    both_ends (both (goes p) r) = runs p r
    both_ends (both (stopped {n}) r) = stop-ends n e.page r

    alike-ends : {i : ℕ} {d d' : Done} → Alike L (λ j. ⊥) e i d d' → Ends (after_immediate budget e d) (after_immediate budget e d')
    alike-ends (alike b) = both_ends b
    alike-ends (heard g h b) = both_ends b
    alike-ends (parted n l h) = absurd n

    list-both : {i : ℕ} {w w' : World} (n : ℕ) (rs : List Stored) → WorldsAlike L i w w' → Both L i (list_from n rs w) (list_from n rs w')
    unfolding list_from
    list-both n [] r = both go_on r
    list-both {i} {w} {w'} n (x ∷ rs) r = by (leb n x.line) (went-both L (λ j. ⊥) e e s (put_both L (λ j. ⊥) e e s (listed x) r) (λ u u' q. list-both n rs q)) (list-both n rs r)
      where
        by : (b : Bool) → Both L i (went (put (listed x) w) (list_from n rs)) (went (put (listed x) w') (list_from n rs)) → Both L i (list_from n rs w) (list_from n rs w')
            → Both L i (elim b [ true ↦ went (put (listed x) w) (list_from n rs) | false ↦ list_from n rs w ]) (elim b [ true ↦ went (put (listed x) w') (list_from n rs) | false ↦ list_from n rs w' ])
        by true f g = f
        by false f g = g

    edit-ends : {i : ℕ} {w w' : World} (rs : List Stored) → WorldsAlike L i w w' → Ends (edited e.page w rs) (edited e.page w' rs)
    unfolding edited
    edit-ends {i} {w} {w'} rs r = by (leb (length (program_bytes rs)) (length e.page)) where
      by : (b : Bool) → Ends (if b then stops 0 (with_session w (stackless w.session)) (onto e.page rs) else stops 2 w e.page)
          (if b then stops 0 (with_session w' (stackless w'.session)) (onto e.page rs) else stops 2 w' e.page)
      by true = stop-ends 0 (onto e.page rs) (changed stackless r)
      by false = stop-ends 2 e.page r

    -- "edits and LIST look at no memory"
    obey-alike : {i : ℕ} {w w' : World} (t : Typed) → WorldsAlike L i w w' → Ends (obey budget e w t) (obey budget e w' t)
    unfolding obey
    obey-alike blank r = stop-ends 0 e.page r
    obey-alike new r = edit-ends [] r
    obey-alike clear r = stop-ends 0 e.page (changed cleared r)
    obey-alike run r = runs refl (changed cleared r)
    obey-alike {i} {w} {w'} (delete n) r = by (has_line n (records_of e.page)) where
      by : (b : Bool) → Ends (elim b [ true ↦ edited e.page w (without n (records_of e.page)) | false ↦ stops 0 w e.page ])
          (elim b [ true ↦ edited e.page w' (without n (records_of e.page)) | false ↦ stops 0 w' e.page ])
      by true = edit-ends (without n (records_of e.page)) r
      by false = stop-ends 0 e.page r
    obey-alike (list n) r = both_ends (list-both n (records_of e.page) r)
    obey-alike (store n t ms) r = edit-ends (with (record { line = n; text = t }) (records_of e.page)) r
    obey-alike {i} {w} {w'} (immediate q) r = by (needs_program q) where
      by : (b : Bool) → Ends (elim b [ true ↦ stops 3 w e.page | false ↦ after_immediate budget e (exec e q w) ]) (elim b [ true ↦ stops 3 w' e.page | false ↦ after_immediate budget e (exec e q w') ])
      by true = stop-ends 3 e.page r
      by false = alike-ends (exec-alike L (λ j. ⊥) e e s q (any-stmt q) r)

    read_alike : {i : ℕ} {w w' : World} (column : ℕ) (o : Option Typed) → WorldsAlike L i w w' → Ends (obey_read budget e w column o) (obey_read budget e w' column o)
    read_alike column none r = ends e.page column refl refl refl r
    read_alike column (some t) r = obey-alike t r

-- The same call with other bytes in memory and output
abbrev with_bytes : Lent → List ℕ → List ℕ → Lent
with_bytes x m o = record { session = x.session; page = x.page; memory = m; input = x.input; output = o; call = x.call; table = x.table }

module _ (lim : ℕ) (x : Lent) (m o : List ℕ) (lm : length x.memory ≡ length m) (lo : length x.output ≡ length o) where
  abbrev y : Lent
  y = with_bytes x m o

  -- 1, 18, 26 and 19 look at lengths, not at these bytes
  first-same : first_refusal lim x ≡ first_refusal lim y
  unfolding first_refusal
  first-same = λ j.
      (if not (lengths_in_range (length x.page) (lm j) (length x.input) (lo j) x.call (length x.table)) then 1
      else if not (is_good lim x.page) then 18
      else if not (table_is_true x) then 26
      else if not (fits x.page x.session) then 19
      else 0)

  module _ (M : List ℕ → List ℕ → Type 0) (h : M x.memory m)
      (s : EnvsAlike (one_page M x.call.outpos x.output o) (λ i. ⊥) (lent_env lim x) (lent_env lim x)) where
    abbrev E : Outcome → Outcome → Type 0
    E = Ends M x.call.outpos x.output o

    nothing-printed : Printed x.call.outpos x.output o x.call.outpos x.output o
    nothing-printed = record { long = lo; ahead = omega arith; same = λ i l k. absurd (omega arith); held = λ i k. refl; held' = λ i k. refl }

    begun-alike : (n : ℕ) → WorldsAlike (one_page M x.call.outpos x.output o) (x.call.inpos + n) (begun x n) (begun y n)
    begun-alike n =
        record {
          session = record { vars = refl; flags = refl; gosubs = refl; dos = refl; fors = refl; paused = refl };
          memory = h;
          output = nothing-printed;
          outpos = refl;
          here = refl;
          there = refl;
        }

    refused-alike : (n : ℕ) → E (stops n (lent_world x) x.page) (stops n (lent_world y) x.page)
    refused-alike n = record { answer = refl; session = refl; page = refl; memory = h; output = nothing-printed }

    line-alike : (g : Option Gathered) → E (obey_line lim x g) (obey_line lim y g)
    line-alike none = refused-alike 7
    line-alike (some g) = by g.line.long where
      by : (b : Bool) → E (elim b [
        | true ↦ outcome_with (answer_of 5 no_line 0 (x.call.inpos + g.taken) x.call.outpos lim) (unpaused x.session) x.page x.memory x.output
        | false ↦ obey_read x.call.budget (lent_env lim x) (begun x g.taken) (column_of g.line.bytes) (typed g.line.bytes)
      ]) (elim b [
        | true ↦ outcome_with (answer_of 5 no_line 0 (x.call.inpos + g.taken) x.call.outpos lim) (unpaused x.session) x.page m o
        | false ↦ obey_read x.call.budget (lent_env lim x) (begun y g.taken) (column_of g.line.bytes) (typed g.line.bytes)
      ])
      by true = ends M x.call.outpos x.output o x.page lim refl refl refl (begun-alike g.taken)
      by false = read_alike M x.call.outpos x.output o (lent_env lim x) s x.call.budget (column_of g.line.bytes) (typed g.line.bytes) (begun-alike g.taken)

    take-alike : E (take_line_in lim x) (take_line_in lim y)
    unfolding take_line_in
    take-alike = subst (λ (n : ℕ). E (takes x (first_refusal lim x)) (takes y n)) first-same (by (first_refusal lim x)) where
      takes : Lent → ℕ → Outcome
      takes z n = elim n [ zero ↦ obey_line lim z (gather lim (drop z.call.inpos z.input)) | suc k ↦ stops (suc k) (lent_world z) z.page ]

      by : (n : ℕ) → E (takes x n) (takes y n)
      by zero = line-alike (gather lim (drop x.call.inpos x.input))
      by (suc k) = refused-alike (suc k)

    paused-run-alike : (p : ℕ) → E (continue_from lim x p) (continue_from lim y p)
    paused-run-alike zero = stop-ends M x.call.outpos x.output o 0 x.page (begun-alike 0)
    paused-run-alike (suc q) = runs M x.call.outpos x.output o (lent_env lim x) s x.call.budget refl (begun-alike 0)

    continue-alike : E (continue_run_in lim x) (continue_run_in lim y)
    unfolding continue_run_in
    continue-alike = subst (λ (n : ℕ). E (goes_on x (first_refusal lim x)) (goes_on y n)) first-same (by (first_refusal lim x)) where
      goes_on : Lent → ℕ → Outcome
      goes_on z n = elim n [ zero ↦ continue_from lim z z.session.paused | suc k ↦ stops (suc k) (lent_world z) z.page ]

      by : (n : ℕ) → E (goes_on x n) (goes_on y n)
      by zero = paused-run-alike x.session.paused
      by (suc k) = refused-alike (suc k)

  -- what is left of the table is that of the page that is left
  table-alike : (p p' : Outcome) → p.page ≡ p'.page → table_after lim x p ≡ table_after lim y p'
  unfolding table_after
  table-alike p p' e = λ j. if has_table x.call && eqb (first-same j) 0 then refilled (e j) x.table else x.table

-- "What a box answers, prints and keeps may depend on its own page, table, record, input, output room, sense, budget, range bounds,
-- memory length, its own range and the shared range, and on nothing else", of both calls
module _ (x y : Lent) (h : CallsAlike x y) where
  abbrev z : Lent
  z = with_bytes x y.memory y.output

  is_y : z ≡ y
  is_y = λ j. record { session = h.session j; page = h.page j; memory = y.memory; input = h.input j; output = y.output; call = h.call j; table = h.table j }

  abbrev sees : EnvsAlike (one_page (Sees (sight_of x.call).access) x.call.outpos x.output y.output) (λ i. ⊥) (lent_env limit x) (lent_env limit x)
  sees = seen x.call.outpos x.output y.output (lent_env limit x)

  outcomes : {o o' : Outcome} → Ends (Sees (sight_of x.call).access) x.call.outpos x.output y.output o o' → OutcomesAlike x z o o'
  outcomes e = record { answer = e.answer; session = e.session; page = e.page; memory = e.memory; output = e.output }

  pub box-alone : LeftAlike x y (leaves take_line x) (leaves take_line y) × LeftAlike x y (leaves continue_run x) (leaves continue_run y)
  unfolding take_line continue_run
  box-alone =
      let t = take-alike limit x y.memory y.output h.memory.long h.room (Sees (sight_of x.call).access) h.memory sees in
      let c = continue-alike limit x y.memory y.output h.memory.long h.room (Sees (sight_of x.call).access) h.memory sees in
      subst (λ (w : Lent). LeftAlike x w (leaves take_line x) (leaves take_line w) × LeftAlike x w (leaves continue_run x) (leaves continue_run w)) is_y (
        record { outcome = outcomes t; table = table-alike limit x y.memory y.output h.memory.long h.room _ _ t.page },
        record { outcome = outcomes c; table = table-alike limit x y.memory y.output h.memory.long h.room _ _ c.page },
      )

-- Writing
sets-other : (bs m : List ℕ) (a i : ℕ) → (i < a) ⊎ (a + length bs ≤ i) → get_or (sets m a bs) i 0 ≡ get_or m i 0
sets-other [] m a i h = refl
sets-other (b ∷ bs) m a i h = sets-other bs (set m a b) (suc a) i (more h) ∙ get_or-set_other m a i b 0 (other h) where
  more : (i < a) ⊎ (a + suc (length bs) ≤ i) → (i < suc a) ⊎ (suc a + length bs ≤ i)
  more (inl l) = inl (omega arith)
  more (inr l) = inr (omega arith)

  other : (i < a) ⊎ (a + suc (length bs) ≤ i) → i ≡ a → ⊥
  other (inl l) e = omega arith
  other (inr l) e = omega arith

outside_of : (a b i : ℕ) → (a ≤ i → i < b → ⊥) → (i < a) ⊎ (b ≤ i)
outside_of a b i f =
    by_cases (leb a i) (λ h. by_cases (ltb i b) (λ l. absurd (f (leb-true a i h) (ltb-true i b l))) (λ l. inr (ltb-false i b l))) (λ h. inl (leb-false a i h))

-- one memory on both sides, as it was outside the own range
record Kept (x : Access) (before m m' : List ℕ) : Type 0 where
  same : m ≡ m'
  long : length m ≡ length before
  others : (i : ℕ) → (Inside x.own i → ⊥) → get_or m i 0 ≡ get_or before i 0

stores-kept : (x : Access) (before m m' : List ℕ) → Kept x before m m' → (a : ℕ) (bs : List ℕ) → ResultsAlike (Kept x before) (store_at x m a bs) (store_at x m' a bs)
unfolding store_at
stores-kept x before m m' k a bs =
    subst (λ (l : List ℕ). ResultsAlike (Kept x before) (store_at x m a bs) (store_at x l a bs)) k.same (by (leb (a + length bs) (length m)) (may_write x a (length bs)) refl)
  where
    by : (b c : Bool) → may_write x a (length bs) ≡ c
        → ResultsAlike (Kept x before) (if not b then no 16 else if c then is (sets m a bs) else no 21) (if not b then no 16 else if c then is (sets m a bs) else no 21)
    by false c h = refused
    by true false h = refused
    by true true h =
        given (record {
          same = refl;
          long = length-sets m a bs ∙ k.long;
          others = λ i n. sets-other bs m a i (outside_of a (a + length bs) i (λ l r. n (own_of x a (length bs) h i l r))) ∙ k.others i n;
        })

-- "neither writes" the shared range, and only its own is a box's to write
module _ (x : Lent) where
  abbrev kept : List ℕ → List ℕ → Type 0
  kept = Kept (sight_of x.call).access x.memory

  untouched : kept x.memory x.memory
  untouched = record { same = refl; long = refl; others = λ i n. refl }

  keeps : EnvsAlike (one_page kept x.call.outpos x.output x.output) (λ i. ⊥) (lent_env limit x) (lent_env limit x)
  keeps =
      same-page kept x.call.outpos x.output x.output (lent_env limit x)
      (λ m m' k a i. byte_of (sight_of x.call).access (k.same i) a) (λ m m' k a i. string_at (sight_of x.call).access (k.same i) a)
      (stores-kept (sight_of x.call).access x.memory)

  owned : {o : Outcome} → Ends kept x.call.outpos x.output x.output o o → WritesOwn x o
  owned e = record { long = e.memory.long; others = e.memory.others }

  pub box-writes-own : WritesOwn x (take_line x) × WritesOwn x (continue_run x)
  unfolding take_line continue_run
  box-writes-own = (owned (take-alike limit x x.memory x.output refl refl kept untouched keeps), owned (continue-alike limit x x.memory x.output refl refl kept untouched keeps))
