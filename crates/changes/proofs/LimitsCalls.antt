-- A call on a page that is good within the smaller limit leaves the same within both, where it took no line that is over-long for the
-- smaller one. Assumes nothing.
use Rattle.std.specs.Prelude.{if◌then◌else◌}
use Prim.Native.Nat.{ℕ, zero, suc, ◌+◌, ◌≤◌, ◌<◌}
use mathlib.Core.Path.{◌≡◌, refl, sym, ap, ◌∙◌, subst}
use mathlib.Core.Bool.{Bool, true, false, ◌&&◌}
use mathlib.Core.List.{List, [], ◌∷◌}
use mathlib.Core.Option.{Option, none, some}
use mathlib.Core.Logic.{◌⊎◌, inl, inr}
use native.Mathlib.Omega.{arith}
use lib.ListN.{length, get_or, drop}
use lib.Seq.{sets, ext_get_or}
use lib.Dec.{ltb, leb, eqb}
use borrow.Author.Tests.{ltb-true, ltb-false, leb-true, leb-false}
use Rattle.nibl.specs.Tree.{Typed, blank, new, clear, run, delete, list, store, immediate}
use Rattle.nibl.specs.found.Read.{typed}
use Rattle.nibl.specs.found.Column.{column_of}
use Rattle.nibl.specs.Values.{Result, is, no}
use Rattle.nibl.specs.Typing.{Gathered, gather}
use Rattle.nibl.specs.Record.{cleared}
use Rattle.nibl.specs.Page.{Stored, records_of, find}
use Rattle.nibl.specs.Table.{refilled}
use Rattle.nibl.specs.Meaning.{World, Env, with_session, with_output, on, stop, Done, done, put, went, exec, byte_of, string_at, store_at}
use Rattle.nibl.specs.Lent.{Lent, Outcome, stops, refused_line, lent_world, begun, lent_env}
use Rattle.nibl.specs.Runs.{Ran, pausing, run_from, run_outcome}
use Rattle.nibl.specs.FirstRefusals.{has_table, first_refusal}
use Rattle.nibl.specs.Calls.{needs_program, listed, list_from, after_immediate, obey, obey_read, obey_line, take_line_in, continue_from, continue_run_in, table_after}
use Rattle.nibl.specs.declared.Session.{Session}
use Rattle.page.proofs.Walk.{by_cases}
use Rattle.demands.specs.Good.{GoodPage}
use Rattle.demands.specs.Leaves.{WholeLines, none_taken, line}
use Rattle.demands.proofs.Good.{good-exact}
use Rattle.changes.specs.Alike.{Likeness, ResultsAlike, given, refused, LongLine, WorldsAlike, go_on, skips, goes, stops as stopped, Both, both, EnvsAlike, Alike, alike, heard, parted, RunsAlike, together, apart}
use Rattle.changes.specs.Boxes.{Printed}
use Rattle.changes.specs.Limits.{TookLong, leaves_in}
use Rattle.changes.proofs.AlikeStatements.{exec-alike}
use Rattle.changes.proofs.AlikeRuns.{lines_then, run-alike}
use Rattle.changes.proofs.BoxRuns.{all_any, any-stmt, found-same, one_page, fetches-same}
use Rattle.changes.proofs.Limits.{two-limits}
use Rattle.changes.proofs.LimitsPages.{good-within-larger}

either : {p q : ℕ} → (p ≡ q) ⊎ (p ≡ q) → p ≡ q
either (inl e) = e
either (inr e) = e

stored_same : (r : Result (List ℕ)) → ResultsAlike (λ (m m' : List ℕ). m ≡ m') r r
stored_same (is m) = given refl
stored_same (no n) = refused

pausing-inpos : (n q : ℕ) (w : World) → (pausing n q w).inpos ≡ w.inpos
pausing-inpos n q w = by_cases (eqb n 14) (λ t. rw t) (λ t. rw t)

-- LIST looks at no limit
abbrev after : World → List ℕ → World
after w bs = with_output w (sets w.output w.outpos bs) (w.outpos + length bs)

list_same : (k n : ℕ) (e e' : Env) → e.page ≡ e'.page → (rs : List Stored) (w : World) → after_immediate k e (list_from n rs w) ≡ after_immediate k e' (list_from n rs w)
unfolding list_from put
list_same k n e e' h [] w = ap (stops 0 w) h
list_same k n e e' h (r ∷ rs) w = by (leb n r.line) (leb (w.outpos + length (listed r)) (length w.output)) (list_same k n e e' h rs) where
  by : (a b : Bool) → ((u : World) → after_immediate k e (list_from n rs u) ≡ after_immediate k e' (list_from n rs u))
      → after_immediate k e (elim a [ true ↦ went (if b then done on (after w (listed r)) else done (stop 17) w) (list_from n rs) | false ↦ list_from n rs w ])
      ≡ after_immediate k e' (elim a [ true ↦ went (if b then done on (after w (listed r)) else done (stop 17) w) (list_from n rs) | false ↦ list_from n rs w ])
  by true true more = more (after w (listed r))
  by true false more = ap (stops 17 w) h
  by false b more = more w

module _ (small large : ℕ) (h : small ≤ large) (x : Lent) where
  -- one page, one memory, one output
  abbrev L : Likeness
  L = one_page (λ (m m' : List ℕ). m ≡ m') x.call.outpos x.output x.output

  abbrev e : Env
  e = lent_env small x

  abbrev e' : Env
  e' = lent_env large x

  -- the line at a position is over-long for the smaller limit
  abbrev N : ℕ → Type 0
  N i = LongLine small (drop i x.input)

  limits-alike : EnvsAlike L N e e'
  limits-alike =
      record {
        sense = refl;
        gathers = λ i. two-limits small large h (drop i x.input);
        longs = λ i l. l;
        replies = λ i n g es p q. all_any es;
        finds = λ n. found-same (find x.page n);
        tops = λ t. refl;
        bytes = λ m m' s b. ap (λ (z : List ℕ). byte_of e.sight.access z b) s;
        strings = λ m m' s b. ap (λ (z : List ℕ). string_at e.sight.access z b) s;
        stores = λ m m' s b bs.
            subst (λ (z : List ℕ). ResultsAlike (λ (n n' : List ℕ). n ≡ n') (store_at e.sight.access m b bs) (store_at e.sight.access z b bs)) s
            (stored_same (store_at e.sight.access m b bs));
        here = refl;
      }

  outputs-same : {to : ℕ} {o o' : List ℕ} → Printed x.call.outpos x.output x.output to o o' → o ≡ o'
  outputs-same {to} {o} {o'} p =
      ext_get_or 0 o o' p.long (λ i l. by_cases (leb x.call.outpos i)
      (λ a. by_cases (ltb i to) (λ b. p.same i (leb-true x.call.outpos i a) (ltb-true i to b)) (λ b. elsewhere i (inr (ltb-false i to b))))
      (λ a. elsewhere i (inl (leb-false x.call.outpos i a))))
    where
      elsewhere : (i : ℕ) → (i < x.call.outpos) ⊎ (to ≤ i) → get_or o i 0 ≡ get_or o' i 0
      elsewhere i f = p.held i f ∙ sym (p.held' i f)

  world_same : {i : ℕ} {w w' : World} → WorldsAlike L i w w' → w ≡ w'
  world_same r =
      let s = r.session in
      let o = outputs-same r.output in
      let p = r.here ∙ sym r.there in
      λ j. record {
        session = record { vars = s.vars j; flags = s.flags j; gosubs = s.gosubs j; dos = s.dos j; fors = s.fors j; paused = s.paused j };
        memory = r.memory j;
        output = o j;
        outpos = r.outpos j;
        inpos = p j;
      }

  -- what a call begins with, its record changed in one way
  begun-alike : (n : ℕ) (f : Session → Session)
      → WorldsAlike L (x.call.inpos + n) (with_session (begun x n) (f (begun x n).session)) (with_session (begun x n) (f (begun x n).session))
  begun-alike n f =
      record {
        session = record { vars = refl; flags = refl; gosubs = refl; dos = refl; fors = refl; paused = refl };
        memory = refl;
        output = record { long = refl; ahead = omega arith; same = λ i l k. refl; held = λ i k. refl; held' = λ i k. refl };
        outpos = refl;
        here = refl;
        there = refl;
      }

  -- the same is left; or the first took an over-long line, behind whole ones from i on
  data Same (i : ℕ) (o o' : Outcome) : Type 0 where
    same : o ≡ o' → Same i o o'
    took : {j : ℕ} → WholeLines small x.input i j → (l : LongLine small (drop j x.input)) → o.answer.inpos ≡ j + l.gathered.taken → Same i o o'

  behind : {i j : ℕ} {o o' : Outcome} → WholeLines small x.input i j → Same j o o' → Same i o o'
  behind m (same p) = same p
  behind m (took l n p) = took (lines_then m l) n p

  run-same : {i : ℕ} {r r' : Ran} → RunsAlike L N e i r r' → Same i (run_outcome r x.page) (run_outcome r' x.page)
  run-same (together m s l p w) =
      let at = either p in
      let u = world_same w in
      same (λ j. run_outcome (record { stop = s j; lines = l j; at = at j; world = u j }) x.page)
  run-same {r = r} (apart m n l s p) = took m l (pausing-inpos r.stop r.at r.world ∙ p)

  runs_same : {i q q' : ℕ} {w w' : World} → q ≡ q' → WorldsAlike L i w w'
      → Same i (run_outcome (run_from x.call.budget e q w) x.page) (run_outcome (run_from x.call.budget e' q' w') x.page)
  runs_same {i} {q} {q'} {w} {w'} p r =
      run-same (run-alike L N e e' limits-alike (fetches-same (λ (m m' : List ℕ). m ≡ m') x.call.outpos x.output x.output x.page) x.call.budget i q q' w w' p r)

  both-same : {i : ℕ} {d d' : Done} → Both L i d d' → Same i (after_immediate x.call.budget e d) (after_immediate x.call.budget e' d')
  both-same (both go_on r) = same (ap (λ (w : World). stops 0 w x.page) (world_same r))
  both-same (both skips r) = same (ap (λ (w : World). stops 0 w x.page) (world_same r))
  both-same (both (goes p) r) = runs_same p r
  both-same (both (stopped {n}) r) = same (ap (λ (w : World). stops n w x.page) (world_same r))

  immediate-same : {i : ℕ} {d d' : Done} → Alike L N e i d d' → Same i (after_immediate x.call.budget e d) (after_immediate x.call.budget e' d')
  immediate-same (alike b) = both-same b
  immediate-same (heard g p b) = behind (line g p none_taken) (both-same b)
  immediate-same (parted n l p) = took none_taken l p

  obey-same : (n : ℕ) (t : Typed) → Same (x.call.inpos + n) (obey x.call.budget e (begun x n) t) (obey x.call.budget e' (begun x n) t)
  unfolding obey
  obey-same n blank = same refl
  obey-same n new = same refl
  obey-same n clear = same refl
  obey-same n run = runs_same refl (begun-alike n cleared)
  obey-same n (delete m) = same refl
  obey-same n (list m) = same (list_same x.call.budget m e e' refl (records_of x.page) (begun x n))
  obey-same n (store m t ms) = same refl
  obey-same n (immediate q) = by (needs_program q) where
    by : (b : Bool)
        → Same (x.call.inpos + n) (elim b [ true ↦ stops 3 (begun x n) x.page | false ↦ after_immediate x.call.budget e (exec e q (begun x n)) ])
        (elim b [ true ↦ stops 3 (begun x n) x.page | false ↦ after_immediate x.call.budget e' (exec e' q (begun x n)) ])
    by true = same refl
    by false = immediate-same (exec-alike L N e e' limits-alike q (any-stmt q) (begun-alike n (λ (s : Session). s)))

  read_same : (n column : ℕ) (o : Option Typed) → Same (x.call.inpos + n) (obey_read x.call.budget e (begun x n) column o) (obey_read x.call.budget e' (begun x n) column o)
  read_same n column none = same refl
  read_same n column (some t) = obey-same n t

  -- the typed line: the same within both limits, or over-long
  line_same : (g : Gathered) → gather small (drop x.call.inpos x.input) ≡ some g → Same x.call.inpos (obey_line small x (some g)) (obey_line large x (some g))
  line_same g p = by g.line.long refl where
    by : (b : Bool) → g.line.long ≡ b → Same x.call.inpos (elim b [
      | true ↦ refused_line small (begun x g.taken) x.page
      | false ↦ obey_read x.call.budget e (begun x g.taken) (column_of g.line.bytes) (typed g.line.bytes)
    ]) (elim b [
      | true ↦ refused_line large (begun x g.taken) x.page
      | false ↦ obey_read x.call.budget e' (begun x g.taken) (column_of g.line.bytes) (typed g.line.bytes)
    ])
    by true l = took none_taken (record { gathered = g; is = p; long = l }) refl
    by false l = behind (line g p none_taken) (read_same g.taken (column_of g.line.bytes) (typed g.line.bytes))

  long_same : {o : Outcome} (l : N x.call.inpos) → Same x.call.inpos (obey_line small x (some l.gathered)) o
  long_same l = took none_taken l (rw l.long)

  gathered-same : Same x.call.inpos (obey_line small x (gather small (drop x.call.inpos x.input))) (obey_line large x (gather large (drop x.call.inpos x.input)))
  gathered-same = by (two-limits small large h (drop x.call.inpos x.input)) where
    of : (o : Option Gathered) → gather small (drop x.call.inpos x.input) ≡ o → Same x.call.inpos (obey_line small x o) (obey_line large x o)
    of none p = same refl
    of (some g) p = line_same g p

    by : (gather small (drop x.call.inpos x.input) ≡ gather large (drop x.call.inpos x.input)) ⊎ N x.call.inpos
        → Same x.call.inpos (obey_line small x (gather small (drop x.call.inpos x.input))) (obey_line large x (gather large (drop x.call.inpos x.input)))
    by (inl p) = subst (λ (o : Option Gathered). Same x.call.inpos (obey_line small x (gather small (drop x.call.inpos x.input))) (obey_line large x o)) p (of (gather small (drop x.call.inpos x.input)) refl)
    by (inr l) = rw l.is (long_same l)

  paused-same : (p : ℕ) → Same x.call.inpos (continue_from small x p) (continue_from large x p)
  paused-same zero = same refl
  paused-same (suc q) = subst (λ (i : ℕ). Same i (continue_from small x (suc q)) (continue_from large x (suc q))) (omega arith) (runs_same refl (begun-alike 0 (λ (s : Session). s)))

  -- where no such line was taken
  settled : {o o' : Outcome} → Same x.call.inpos o o' → (TookLong small x o → ⊥) → o ≡ o'
  settled (same p) n = p
  settled (took {j} m l p) n = absurd (n (record { at = j; before = m; line = l; taken = omega (arith, p) }))

  module _ (short : large ≤ 251) (good : GoodPage small x.page) where
    first-same : first_refusal small x ≡ first_refusal large x
    unfolding first_refusal
    first-same = rw ((good-exact small x.page (omega arith)).1 good, (good-exact large x.page short).1 (good-within-larger h good))

    left-same : (call : ℕ → Lent → Outcome) → call small x ≡ call large x → leaves_in small call x ≡ leaves_in large call x
    unfolding table_after
    left-same call p = λ j. record { outcome = p j; table = if has_table x.call && eqb (first-same j) 0 then refilled (p j).page x.table else x.table }

    take_same : Same x.call.inpos (take_line_in small x) (take_line_in large x)
    unfolding take_line_in
    take_same = subst (λ (n : ℕ). Same x.call.inpos (takes small (first_refusal small x)) (takes large n)) first-same (by (first_refusal small x)) where
      takes : ℕ → ℕ → Outcome
      takes lim n = elim n [ zero ↦ obey_line lim x (gather lim (drop x.call.inpos x.input)) | suc k ↦ stops (suc k) (lent_world x) x.page ]

      by : (n : ℕ) → Same x.call.inpos (takes small n) (takes large n)
      by zero = gathered-same
      by (suc k) = same refl

    continue-same : Same x.call.inpos (continue_run_in small x) (continue_run_in large x)
    unfolding continue_run_in
    continue-same = subst (λ (n : ℕ). Same x.call.inpos (goes_on small (first_refusal small x)) (goes_on large n)) first-same (by (first_refusal small x)) where
      goes_on : ℕ → ℕ → Outcome
      goes_on lim n = elim n [ zero ↦ continue_from lim x x.session.paused | suc k ↦ stops (suc k) (lent_world x) x.page ]

      by : (n : ℕ) → Same x.call.inpos (goes_on small n) (goes_on large n)
      by zero = paused-same x.session.paused
      by (suc k) = same refl

    -- "Every page that was good stays good with the same meaning, replies over 72 apart": of both calls, all that they leave, where no line
    -- that the call took is over-long for the smaller limit
    pub same-meaning : ((TookLong small x (take_line_in small x) → ⊥) → leaves_in small take_line_in x ≡ leaves_in large take_line_in x)
        × ((TookLong small x (continue_run_in small x) → ⊥) → leaves_in small continue_run_in x ≡ leaves_in large continue_run_in x)
    same-meaning = (λ n. left-same take_line_in (settled take_same n), λ n. left-same continue_run_in (settled continue-same n))
