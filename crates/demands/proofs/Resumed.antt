-- "Run with a, continue with b, is run with a + b", of the calls, any number of pauses. Assumes nothing.
use Prim.Native.Nat.{ℕ, ◌+◌, ◌≤◌}
use mathlib.Core.Path.{◌≡◌, refl, sym, ap, ◌∙◌}
use mathlib.Core.Bool.{Bool, true, false, false≢true}
use mathlib.Core.List.{List, [], ◌∷◌, ◌++◌}
use mathlib.Core.Option.{Option, none, some}
use native.Mathlib.Nat.{add-zero}
use native.Mathlib.Omega.{arith}
use lib.ListN.{length-append}
use lib.Dec.{eqb}
use borrow.Author.Tests.{eqb-true, eqb-false, eq-eqb, ne_eqb}
use Rattle.nibl.specs.Tree.{Typed}
use Rattle.nibl.specs.found.Read.{typed}
use Rattle.nibl.specs.found.Column.{column_of}
use Rattle.nibl.specs.Typing.{Gathered}
use Rattle.nibl.specs.Page.{is_good, places_of, line_of}
use Rattle.nibl.specs.Meaning.{World, Env, with_session}
use Rattle.nibl.specs.Lent.{Lent, Outcome, stops, refused_line, outcome, lent_all, with_positions}
use Rattle.nibl.specs.Runs.{Ran, run_from, stop_at, run_outcome, pausing}
use Rattle.nibl.specs.Typing.{limit}
use Rattle.nibl.specs.Lent.{begun, lent_env}
use Rattle.nibl.specs.FirstRefusals.{first_refusal}
use Rattle.nibl.specs.Calls.{obey_read, obey_line, take_line, take_line_in, continue_from, continue_run, continue_run_in, table_after}
use Rattle.nibl.specs.Record.{with_paused, paused_at}
use Rattle.page.proofs.Walk.{by_cases}
use Rattle.demands.specs.Lent.{budgeted, gathered_line, Typing, InRange}
use Rattle.demands.specs.Listing.{lent_next}
use Rattle.page.specs.Standing.{Stands}
use Rattle.record.specs.Fit.{Fit}
use Rattle.record.specs.Sound.{Sized, Sound}
use Rattle.record.proofs.Fitted.{sound-fit}
use Rattle.demands.specs.Sound.{resumed, continued, total}
use Rattle.demands.proofs.Budget.{went_on_with, split-run}
use Rattle.demands.proofs.Held.{Steady, run-steady, then-lengths}
use Rattle.demands.proofs.Accepted.{accepted-of, accepted-is, accepted-less, take_at, continue-at}
use Rattle.demands.proofs.Tables.{table_kept}
use Rattle.demands.proofs.Running.{Goings, runs_out, pauses, steps, run-goes}
use Rattle.demands.proofs.Running.{stops as halts}
use Rattle.demands.proofs.Carried.{Placed, run-placed}
use Rattle.demands.proofs.Obeys.{Obeyed, stands, edits, runs, read-ways, continue-ways}
use Rattle.demands.proofs.Sound.{unrefused, run_settled, goings-fit, goings-stands}
use Rattle.demands.proofs.LastStep.{unpaused-same}
use Rattle.demands.proofs.Line.{silent}

-- the line of a run that went on is that of what it went on with
line-joined : (n l : ℕ) (ks ls : List ℕ) → stop_at n (ks ++ (l ∷ ls)) ≡ stop_at n (l ∷ ls)
line-joined n l [] ls = refl
line-joined n l (k ∷ []) ls = refl
line-joined n l (k ∷ m ∷ ks) ls = line-joined n l (m ∷ ks) ls

goings-line : {page : List ℕ} {k : ℕ} {r : Ran} → Goings page k r → (ks : List ℕ) → stop_at r.stop (ks ++ r.lines) ≡ stop_at r.stop r.lines
goings-line (runs_out h f) ks = silent 0 (ks ++ []) refl
goings-line (pauses h s f) ks = silent 14 (ks ++ []) refl
goings-line {page = page} (halts {n = n} {p = p} h m f) ks = line-joined n (line_of page p) ks []
goings-line {page = page} (steps {r = r} p h g) ks = line-joined r.stop (line_of page p) ks r.lines

module _ (lim : ℕ) (short : lim ≤ 251) (x : Lent) (good : is_good lim x.page ≡ true) (q : ℕ) (w : World) (s : Stands (places_of x.page) q)
    (f : Fit (places_of x.page) w.session) (p : Placed x.input w) (l : Steady (begun x 0) w) where
  abbrev r : ℕ → Ran
  r a = run_from a (lent_env lim x) q w

  abbrev o : ℕ → Outcome
  o a = run_outcome (r a) x.page

  -- what is lent to continue it
  abbrev y : ℕ → ℕ → Lent
  y a b = budgeted b (lent_next x (o a))

  module _ (a b : ℕ) (z : first_refusal lim (budgeted (a + b) x) ≡ 0) (e : (r a).stop ≡ 14) where
    left : Placed x.input (r a).world
    left = run-placed x.input (lent_env lim x) refl a q w p

    paused : pausing (r a).stop (r a).at (r a).world ≡ with_session (r a).world (with_paused (r a).world.session (paused_at (r a).at))
    paused = rw (eq-eqb (r a).stop 14 e)

    -- the table is as it was
    same-table : table_after limit x (o a) ≡ x.table
    same-table = table_kept limit x (o a) (accepted-of lim (budgeted (a + b) x) z).table refl

    accepted : first_refusal lim (y a b) ≡ 0
    accepted =
        let c = (accepted-of lim (budgeted (a + b) x) z).range in
        let n = then-lengths l.lengths (run-steady a (lent_env lim x) q w).lengths in
        let d = (run_settled lim (lent_env lim x) short good a q w s f).sound in
        let h : InRange (y a b) =
        rw (same-table, paused)
        (record {
          some = c.some;
          page = c.page;
          memory = omega (arith, n.memory);
          input = c.input;
          output = omega (arith, n.output);
          inpos = left.inside;
          outpos = left.room;
          budget = omega (arith, c.budget);
          table = c.table;
        }) in
        accepted-is (record { range = h; good = d.good; table = rw same-table (accepted-of lim (budgeted (a + b) x) z).table; fit = d.fitting })

    world-back : begun (y a b) 0 ≡ (r a).world
    world-back =
        rw paused
        (λ i. record {
          session = unpaused-same (r a).world.session ((run-steady a (lent_env lim x) q w).paused ∙ l.paused) i;
          memory = (r a).world.memory;
          output = (r a).world.output;
          outpos = (r a).world.outpos;
          inpos = add-zero (r a).world.inpos i;
        })

    goes_on : continue_run_in lim (y a b) ≡ run_outcome (run_from b (lent_env lim x) (r a).at (r a).world) x.page
    goes_on =
        continue-at lim (y a b) accepted
        ∙ ap (continue_from lim (y a b)) (ap (λ (u : World). u.session.paused) paused)
        ∙ ap (λ (u : World). run_outcome (run_from b (lent_env lim x) (r a).at u) x.page) world-back

    after-pause : o (a + b) ≡ resumed (o a) (continue_run_in lim (y a b))
    after-pause =
        let env : Env = lent_env lim x in
        let t : Ran = run_from b env (r a).at (r a).world in
        let g = run-goes lim env short good a q w s f in
        let h = run-goes lim env short good b (r a).at (r a).world (goings-stands g e) (goings-fit g) in
        let whole : r (a + b) ≡ record { stop = t.stop; lines = (r a).lines ++ t.lines; at = t.at; world = t.world } =
        split-run a b env q w ∙ rw (eq-eqb (r a).stop 14 e, went_on_with) in
        ap (λ (k : Ran). run_outcome k x.page) whole
        ∙ (λ i. outcome t.stop (goings-line h (r a).lines i) (length-append (r a).lines t.lines i) (pausing t.stop t.at t.world) x.page)
        ∙ ap (resumed (o a)) (sym goes_on)

-- v is what a call leaves with b more in its budget than where it leaves u
pub record Resumes (lim : ℕ) (x : Lent) (b : ℕ) (u v : Outcome) : Type 0 where
  pub after : u.answer.stop ≡ 14 → v ≡ resumed u (continue_run_in lim (budgeted b (lent_next x u)))
  pub over : (u.answer.stop ≡ 14 → ⊥) → v ≡ u
  pub kept : u.answer.stop ≡ 14 → u.page ≡ x.page

module _ (lim : ℕ) (short : lim ≤ 251) (x : Lent) (h : Sound lim x.page x.session) (a b : ℕ) (z : first_refusal lim (budgeted (a + b) x) ≡ 0) where
  no-pause : (u : Outcome) → (u.answer.stop ≡ 14 → ⊥) → Resumes lim x b u u
  no-pause u n = record { after = λ e. absurd (n e); over = λ e. refl; kept = λ e. absurd (n e) }

  obeyed-resumes : {From : ℕ → World → Type 0} {o : ℕ → Outcome} → Obeyed lim (lent_env lim x) (begun x 0) From o → Resumes lim x b (o a) (o (a + b))
  obeyed-resumes (stands {n = n} {w = w} i f) = no-pause (stops n w x.page) (λ e. false≢true (rw e at i))
  obeyed-resumes (edits p n f) = no-pause _ (λ e. omega arith)
  obeyed-resumes (runs q w s f p l c) = record { after = after-pause lim short x h.good q w s f p l a b z; over = by; kept = λ e. refl } where
    by : ((run_from a (lent_env lim x) q w).stop ≡ 14 → ⊥) → run_outcome (run_from (a + b) (lent_env lim x) q w) x.page ≡ run_outcome (run_from a (lent_env lim x) q w) x.page
    by n =
        let same : run_from (a + b) (lent_env lim x) q w ≡ run_from a (lent_env lim x) q w =
        split-run a b (lent_env lim x) q w ∙ rw (ne_eqb (run_from a (lent_env lim x) q w).stop 14 n, went_on_with) in
        ap (λ (k : Ran). run_outcome k x.page) same

  read-resumes : (g : Gathered) → Typing lim x g → (t : Option Typed) → typed g.line.bytes ≡ t
      → Resumes lim x b (obey_read a (lent_env lim x) (begun x g.taken) (column_of g.line.bytes) t)
      (obey_read (a + b) (lent_env lim x) (begun x g.taken) (column_of g.line.bytes) t)
  read-resumes g y none e = no-pause _ (λ e. omega arith)
  read-resumes g y (some t) e = obeyed-resumes (read-ways lim x short h.good (sound-fit h) g t y e)

  line-resumes : first_refusal lim x ≡ 0 → (g : Option Gathered) → gathered_line lim x ≡ g → Resumes lim x b (obey_line lim (budgeted a x) g) (obey_line lim (budgeted (a + b) x) g)
  line-resumes i none e = no-pause _ (λ e. omega arith)
  line-resumes i (some g) e = by g.line.long refl where
    at : Bool → ℕ → Outcome
    at c n =
        elim c [
          | true ↦ refused_line lim (begun x g.taken) x.page
          | false ↦ obey_read n (lent_env lim x) (begun x g.taken) (column_of g.line.bytes) (typed g.line.bytes)
        ]

    by : (c : Bool) → g.line.long ≡ c → Resumes lim x b (at c a) (at c (a + b))
    by true l = no-pause _ (λ e. omega arith)
    by false l = read-resumes g (record { sound = i; line = e; short = l }) (typed g.line.bytes) refl

module _ (lim : ℕ) (short : lim ≤ 251) (x : Lent) (sized : Sized x.session) (a b : ℕ) (z : first_refusal lim (budgeted (a + b) x) ≡ 0) where
  abbrev c : Lent
  c = budgeted (a + b) x

  -- what is lent next is the same, whatever the budget was: a paused call leaves the table
  same_next : (u : Outcome) → u.page ≡ x.page → budgeted b (lent_next c u) ≡ budgeted b (lent_next x u)
  same_next u p =
      let h = (accepted-of lim c z).table in
      let e : table_after limit c u ≡ table_after limit x u = table_kept limit c u h p ∙ sym (table_kept limit x u h p) in
      λ i. budgeted b (lent_all u.session u.page u.memory x.input u.output (with_positions u.answer.inpos u.answer.outpos x.call) (e i))

  resumes-back : {u v : Outcome} → Resumes lim c b u v → Resumes lim x b u v
  resumes-back {u = u} t =
      record { after = λ e. t.after e ∙ ap (λ (l : Lent). resumed u (continue_run_in lim l)) (same_next u (t.kept e)); over = t.over; kept = t.kept }

  pub resumes-within : Resumes lim x b (take_line_in lim (budgeted a x)) (take_line_in lim (budgeted (a + b) x)) × Resumes lim x b (continue_run_in lim (budgeted a x)) (continue_run_in lim (budgeted (a + b) x))
  resumes-within =
      let y = accepted-less lim x a (a + b) (omega arith) z in
      let h = unrefused lim c sized z in
      let t = line-resumes lim short c h a b z z (gathered_line lim x) refl in
      let k = obeyed-resumes lim short c h a b z (continue-ways lim c short h.good (sound-fit h) z) in (
        rw (take_at lim (budgeted a x) y, take_at lim c z) (resumes-back t),
        rw (continue-at lim (budgeted a x) y, continue-at lim c z) (resumes-back k),
      )

-- any number of pauses
module _ (x : Lent) (F : ℕ → Outcome) (two : (a b : ℕ) → first_refusal limit (budgeted (a + b) x) ≡ 0 → Resumes limit x b (F a) (F (a + b))) where
  many : (a : ℕ) (bs : List ℕ) → first_refusal limit (budgeted (a + total bs) x) ≡ 0 → F (a + total bs) ≡ continued x bs (F a)
  unfolding continued continue_run
  many a [] z = ap F (add-zero a)
  many a (b ∷ bs) z =
      let all : a + (b + total bs) ≡ a + b + total bs = omega arith in
      let t = two a b (accepted-less limit x (a + b) (a + (b + total bs)) (omega arith) z) in
      by_cases (eqb (F a).answer.stop 14)
      (λ i. rw (i, continued) (ap F all ∙ many (a + b) bs (rw (← all) z) ∙ ap (continued x bs) (t.after (eqb-true _ 14 i))))
      (λ i. rw (i, continued) ((two a (b + total bs) z).over (eqb-false _ 14 i)))

-- "while a + b ≤ 65,535": the budget of the one call that does it all is accepted
pub run-and-continue-is-one-run : (x : Lent) (a : ℕ) (bs : List ℕ) → Sized x.session → first_refusal limit (budgeted (a + total bs) x) ≡ 0
    → (take_line (budgeted (a + total bs) x) ≡ continued x bs (take_line (budgeted a x)))
    × (continue_run (budgeted (a + total bs) x) ≡ continued x bs (continue_run (budgeted a x)))
unfolding take_line continue_run
run-and-continue-is-one-run x a bs s z = (
  many x (λ n. take_line_in limit (budgeted n x)) (λ a b y. (resumes-within limit (omega arith) x s a b y).0) a bs z,
  many x (λ n. continue_run_in limit (budgeted n x)) (λ a b y. (resumes-within limit (omega arith) x s a b y).1) a bs z,
)
