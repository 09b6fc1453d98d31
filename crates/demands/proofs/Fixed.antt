-- "Fixed effects" of the calls: what 1, 18, 26, 19, a typed line's 7, and 2, 3 and 5 leave. Assumes nothing.
use Rattle.std.specs.Prelude.{if◌then◌else◌}
use Prim.Native.Nat.{ℕ, zero, suc, ◌-◌, ◌≤◌, ◌<◌}
use mathlib.Core.Path.{◌≡◌, refl, sym, ap, subst, ◌∙◌}
use mathlib.Core.Bool.{Bool, true, false, ◌||◌, false≢true, true≢false}
use mathlib.Core.Logic.{◌⊎◌, inl, inr}
use mathlib.Core.List.{List, [], ◌∷◌}
use mathlib.Core.Option.{Option, none, some}
use native.Mathlib.Omega.{arith}
use lib.ListN.{length}
use lib.Dec.{ltb, leb, eqb}
use borrow.Author.Tests.{eqb-true}
use Rattle.nibl.specs.Tree.{Typed, blank, new, clear, run, delete, list, store, immediate}
use Rattle.nibl.specs.found.Read.{typed}
use Rattle.nibl.specs.found.Column.{column_of}
use Rattle.nibl.specs.Readings.{LineReading}
use Rattle.nibl.specs.Typing.{Gathered}
use Rattle.nibl.specs.Page.{Stored, is_among, is_good, records_of, size, line_in, line_of, has_line, without, with, program_bytes, onto}
use Rattle.nibl.specs.Meaning.{World, Env, Done, with_session, exec}
use Rattle.nibl.specs.Lent.{Lent, Outcome, no_line, stops, refused_line}
use Rattle.nibl.specs.Runs.{stop_at, env_at, run_from, run_outcome}
use Rattle.nibl.specs.Typing.{limit}
use Rattle.nibl.specs.Lent.{begun, lent_env}
use Rattle.nibl.specs.FirstRefusals.{first_refusal}
use Rattle.nibl.specs.Calls.{edited, after_immediate, needs_program, obey, obey_read, take_line, take_line_in, continue_from, continue_run, leaves}
use Rattle.nibl.specs.Record.{stackless}
use Rattle.nibl.proofs.Words.{if-split}
use Rattle.nibl.proofs.Lines.{typed-sound}
use Rattle.page.proofs.Program.{Program, none as no_record, each}
use Rattle.page.proofs.Laid.{good-laid, laid-program}
use Rattle.demands.specs.Lent.{gathered_line, Typing, OneOfThese, first_refusals, two_and_three}
use Rattle.demands.specs.Leaves.{unchanged, BothUnchanged, line_taken_at, spot_of, column_at, TakesLine}
use Rattle.demands.proofs.Runs.{fetched-line, after-law, every-run}
use Rattle.demands.proofs.Ways.{Takes, refused, no_cr, overlong, unread, reads, every-line, Continues, refused', continues, every-continue}
use Rattle.demands.proofs.Accepted.{accepted-of}
use Rattle.demands.proofs.Tables.{left-kept}
use Rattle.demands.proofs.Forced.{refused-both, no-cr-is-7}
use Rattle.demands.proofs.Numbers.{run_numbers, Obeys, full, unfit, ends, obey-obeys, first_numbers, first-numbers, paused-numbers}
use Rattle.demands.proofs.Refusing.{quiet, Refusing, goes, skips, jumps, refuses, exec-refuses, list-refuses, needs-asks}
use Rattle.demands.proofs.Refusing as refusing

-- no number is in both of two lists that have none in common
abbrev pub none_in : List ℕ → List ℕ → Bool
none_in [] ns = true
none_in (m ∷ ms) ns = elim (is_among ns m) [ true ↦ false | false ↦ none_in ms ns ]

pub apart : (ms ns : List ℕ) → none_in ms ns ≡ true → (n : ℕ) → OneOfThese ms n → OneOfThese ns n → ⊥
apart [] ns h n g i = false≢true g
apart (m ∷ ms) ns h n g i = by (λ h g. apart ms ns h n g i) (is_among ns m) refl h (eqb n m) refl g where
  by : (none_in ms ns ≡ true → OneOfThese ms n → ⊥) → (b : Bool) → is_among ns m ≡ b → (elim b [ true ↦ false | false ↦ none_in ms ns ]) ≡ true
      → (c : Bool) → eqb n m ≡ c → (c || is_among ms n) ≡ true → ⊥
  by f true e h c k g = false≢true h
  by f false e h true k g = true≢false (sym i ∙ ap (is_among ns) (eqb-true n m k) ∙ e)
  by f false e h false k g = f h g

-- "1, 18, 19 change nothing", and 26: which it is says what was refused at first
take-first : {x : Lent} {o : Outcome} → Takes limit x o → OneOfThese first_refusals o.answer.stop → first_refusal limit x ≡ o.answer.stop
take-first (refused h) i = h
take-first (no_cr z h) i = absurd (false≢true i)
take-first (overlong g z h l) i = absurd (false≢true i)
take-first (unread g h r) i = absurd (false≢true i)
take-first {x = x} (reads g t h r) i = absurd (by (obey-obeys x.call.budget (lent_env limit x) (begun x g.taken) t) i) where
  by : {o : Outcome} → Obeys (lent_env limit x) (begun x g.taken) o → OneOfThese first_refusals o.answer.stop → ⊥
  by full i = false≢true i
  by unfit i = false≢true i
  by (ends {o = o} e) i = apart first_refusals run_numbers refl o.answer.stop i e

continue-first : {x : Lent} {o : Outcome} → Continues limit x o → OneOfThese first_refusals o.answer.stop → first_refusal limit x ≡ o.answer.stop
continue-first (refused' h) i = h
continue-first {x = x} (continues h) i =
    absurd (apart first_refusals run_numbers refl (continue_from limit x x.session.paused).answer.stop i (paused-numbers limit x x.session.paused))

module _ (x : Lent) where
  pub first-of-line : (n : ℕ) → OneOfThese first_refusals n → (take_line x).answer.stop ≡ n → first_refusal limit x ≡ n
  unfolding take_line
  first-of-line n i h = take-first (every-line limit x) (subst (OneOfThese first_refusals) (sym h) i) ∙ h

  pub first-of-continue : (n : ℕ) → OneOfThese first_refusals n → (continue_run x).answer.stop ≡ n → first_refusal limit x ≡ n
  unfolding continue_run
  first-of-continue n i h = continue-first (every-continue limit x) (subst (OneOfThese first_refusals) (sym h) i) ∙ h

  refused-at : (n : ℕ) → OneOfThese first_refusals n → first_refusal limit x ≡ n → BothUnchanged x n
  refused-at zero i h = absurd (false≢true i)
  refused-at (suc n) i h = refused-both x n h

pub first-refusals-change-nothing : (x : Lent) → OneOfThese first_refusals (take_line x).answer.stop → leaves take_line x ≡ unchanged x (take_line x).answer.stop
first-refusals-change-nothing x i = (refused-at x (take_line x).answer.stop i (first-of-line x _ i refl)).0

pub first-refusals-of-continue : (x : Lent) → OneOfThese first_refusals (continue_run x).answer.stop → leaves continue_run x ≡ unchanged x (continue_run x).answer.stop
first-refusals-of-continue x i = (refused-at x (continue_run x).answer.stop i (first-of-continue x _ i refl)).1

-- No line of a good page has the number of none: a host can tell an answer with a line from one without
abbrev pub Lined : List ℕ → Type 0
Lined page = (p : ℕ) → line_of page p < no_line

line_low : {lim low : ℕ} {rs : List Stored} → Program lim low rs → (p : ℕ) → line_in p rs < no_line
line_low no_record p = omega arith
line_low (each {r = r} l s more) p = if-split (λ n. n < no_line) (ltb p (size r)) (λ _. omega (arith, s.number)) (λ _. line_low more (p - size r))

pub lines-low : (lim : ℕ) (page : List ℕ) → lim ≤ 251 → is_good lim page ≡ true → Lined page
unfolding line_of
lines-low lim page short good = line_low (laid-program (good-laid lim page short good))

-- so a stop of a run has its line, but for 0, 14 and what no good page gives
abbrev pub unsaid : List ℕ
unsaid = 0 ∷ 5 ∷ 14 ∷ []

named-last : (n l : ℕ) → l < no_line → stop_at n (l ∷ []) ≡ no_line → OneOfThese unsaid n
named-last n l low h = by (eqb n 0) (eqb n 5) (eqb n 14) h where
  by : (a b c : Bool) → (if a || c then no_line else l) ≡ no_line → (a || (b || (c || false))) ≡ true
  by true b c h = refl
  by false true c h = refl
  by false false true h = refl
  by false false false h = absurd (omega arith)

named_step : (n l : ℕ) (ls : List ℕ) → l < no_line → (stop_at n ls ≡ no_line → OneOfThese unsaid n) → stop_at n (l ∷ ls) ≡ no_line → OneOfThese unsaid n
named_step n l [] low f h = named-last n l low h
named_step n l (m ∷ ls) low f h = f h

pub run-named : (k : ℕ) (e : Env) (q : ℕ) (w : World) → Lined e.page → stop_at (run_from k e q w).stop (run_from k e q w).lines ≡ no_line → OneOfThese unsaid (run_from k e q w).stop
run-named k e q w low =
    every-run e (λ k q w r. stop_at r.stop r.lines ≡ no_line → OneOfThese unsaid r.stop) (λ k q w h n. refl) (λ q w h n. refl) (λ k q w a h n. refl)
    (λ k q w x h i.
    let l : ℕ = x.line in
    let named : l < no_line = rw (fetched-line e.page q x h) (low x.place) in
    after-law (λ r. stop_at r.stop (l ∷ r.lines) ≡ no_line → OneOfThese unsaid r.stop) (exec (env_at e x.place) x.statement w) x.place x.cr (run_from k e)
    (λ q w. named_step (run_from k e q w).stop l (run_from k e q w).lines named (i q w)) (λ n w. named-last n l named)) k q w

-- "a typed line's 7": one with no line
abbrev Silent : Outcome → Type 0
Silent o = o.answer.stop ≡ 7 → o.answer.line ≡ no_line → ⊥

run-silent : (k : ℕ) (e : Env) (q : ℕ) (w : World) → Lined e.page → Silent (run_outcome (run_from k e q w) e.page)
run-silent k e q w low h l = false≢true (subst (OneOfThese unsaid) h (run-named k e q w low l))

edit-silent : (page : List ℕ) (w : World) (rs : List Stored) → Silent (edited page w rs)
unfolding edited
edit-silent page w rs = by (leb (length (program_bytes rs)) (length page)) where
  by : (b : Bool) → Silent (if b then stops 0 (with_session w (stackless w.session)) (onto page rs) else stops 2 w page)
  by true h l = omega arith
  by false h l = omega arith

immediate-silent : {us vars : List ℕ} (k : ℕ) (e : Env) {d : Done} → Lined e.page → Refusing us false vars d → Silent (after_immediate k e d)
immediate-silent k e low goes h l = omega arith
immediate-silent k e low skips h l = omega arith
immediate-silent k e low (jumps {w = w} {q = q}) h l = run-silent k e q w low h l
immediate-silent k e low refusing.ends h l = omega arith
immediate-silent k e low (refuses i g) h l = false≢true (subst (OneOfThese quiet) h i)

pub obey-silent : (k : ℕ) (e : Env) (w : World) (t : Typed) → Lined e.page → Silent (obey k e w t)
unfolding obey
obey-silent k e w blank low = λ h l. omega arith
obey-silent k e w new low = edit-silent e.page w []
obey-silent k e w clear low = λ h l. omega arith
obey-silent k e w run low = run-silent k e 0 _ low
obey-silent k e w (delete n) low = by (has_line n (records_of e.page)) where
  by : (b : Bool) → Silent (elim b [ true ↦ edited e.page w (without n (records_of e.page)) | false ↦ stops 0 w e.page ])
  by true h l = edit-silent e.page w (without n (records_of e.page)) h l
  by false h l = omega arith
obey-silent k e w (list n) low = immediate-silent k e low (list-refuses [] false n (records_of e.page) w)
obey-silent k e w (store n t ms) low = edit-silent e.page w (with (record { line = n; text = t }) (records_of e.page))
obey-silent k e w (immediate q) low = by (needs_program q) refl where
  by : (b : Bool) → needs_program q ≡ b → Silent (elim b [ true ↦ stops 3 w e.page | false ↦ after_immediate k e (exec e q w) ])
  by true n h l = omega arith
  by false n h l = immediate-silent k e low (rw (needs-asks q n).0 at (exec-refuses e q w)) h l

module _ (x : Lent) where
  take-seven : {o : Outcome} → Takes limit x o → o.answer.stop ≡ 7 → o.answer.line ≡ no_line → (first_refusal limit x ≡ 0) × (gathered_line limit x ≡ none)
  take-seven (refused {n} h) i l = absurd (apart (7 ∷ []) first_numbers refl (suc n) (rw i refl) (first-numbers limit x (suc n) h))
  take-seven (no_cr z h) i l = (z, h)
  take-seven (overlong g z h l) i n = absurd (omega arith)
  take-seven (unread g h r) i l = absurd (omega arith)
  take-seven (reads g t h r) i l =
      absurd (obey-silent x.call.budget (lent_env limit x) (begun x g.taken) t (lines-low limit x.page (omega arith) (accepted-of limit x h.sound).good) i l)

  pub seven-says : (take_line x).answer.stop ≡ 7 → (take_line x).answer.line ≡ no_line → (first_refusal limit x ≡ 0) × (gathered_line limit x ≡ none)
  unfolding take_line
  seven-says = take-seven (every-line limit x)

-- "and 7 at the typed line, change nothing"
pub no-cr-changes-nothing : (x : Lent) → (take_line x).answer.stop ≡ 7 → (take_line x).answer.line ≡ no_line → leaves take_line x ≡ unchanged x 7
no-cr-changes-nothing x i l = let s = seven-says x i l in no-cr-is-7 x s.0 s.1

-- "2, 3 and 5 take the line and end a pause", and change nothing else, the table neither
record Took (x : Lent) (n : ℕ) (o : Outcome) : Type 0 where
  sound : first_refusal limit x ≡ 0
  gathered : Gathered
  line : gathered_line limit x ≡ some gathered
  outcome : o ≡ (line_taken_at x n gathered.taken (column_at n gathered)).outcome

took-left : (x : Lent) (n : ℕ) → Took x n (take_line x) → TakesLine x n (leaves take_line x)
took-left x n t = record { gathered = t.gathered; line = t.line; leaves = left-kept take_line x _ t.outcome t.sound refl }

take-two-three : {x : Lent} {o : Outcome} → Takes limit x o → OneOfThese two_and_three o.answer.stop → Took x o.answer.stop o
take-two-three {x = x} (refused {n} h) i = absurd (apart two_and_three first_numbers refl (suc n) i (first-numbers limit x (suc n) h))
take-two-three (no_cr z h) i = absurd (false≢true i)
take-two-three (overlong g z h l) i = absurd (false≢true i)
take-two-three (unread g h r) i = absurd (false≢true i)
take-two-three {x = x} (reads g t h r) i = by (obey-obeys x.call.budget (lent_env limit x) (begun x g.taken) t) i where
  by : {o : Outcome} → Obeys (lent_env limit x) (begun x g.taken) o → OneOfThese two_and_three o.answer.stop → Took x o.answer.stop o
  by full i = record { sound = h.sound; gathered = g; line = h.line; outcome = refl }
  by unfit i = record { sound = h.sound; gathered = g; line = h.line; outcome = refl }
  by (ends {o = o} e) i = absurd (apart two_and_three run_numbers refl o.answer.stop i e)

pub two-and-three-take-the-line : (x : Lent) → OneOfThese two_and_three (take_line x).answer.stop → TakesLine x (take_line x).answer.stop (leaves take_line x)
unfolding take_line
two-and-three-take-the-line x i = took-left x _ (take-two-three (every-line limit x) i)

-- 5 is a typed line's where no run gives it
module _ (x : Lent) where
  at-spot : (g : Gathered) {b : Bool} → g.line.long ≡ b
      → (line_taken_at x 5 g.taken (if b then limit else column_of g.line.bytes)).outcome ≡ (line_taken_at x 5 g.taken (spot_of g)).outcome
  at-spot g l = ap (λ (b : Bool). (line_taken_at x 5 g.taken (if b then limit else column_of g.line.bytes)).outcome) (sym l)

  take-five : {o : Outcome} → Takes limit x o
      → ((g : Gathered) (y : Typed) → Typing limit x g → LineReading g.line.bytes y
      → (obey x.call.budget (lent_env limit x) (begun x g.taken) y).answer.stop ≡ 5 → ⊥)
      → o.answer.stop ≡ 5 → Took x 5 o
  take-five (refused {n} h) f i = absurd (apart (5 ∷ []) first_numbers refl (suc n) (rw i refl) (first-numbers limit x (suc n) h))
  take-five (no_cr z h) f i = absurd (omega arith)
  take-five (overlong g z h l) f i = record { sound = z; gathered = g; line = h; outcome = at-spot g l }
  take-five (unread g h r) f i = record { sound = h.sound; gathered = g; line = h.line; outcome = at-spot g h.short }
  take-five (reads g t h r) f i = absurd (f g t h (typed-sound g.line.bytes t r) i)

  pub five-takes-the-line : ((g : Gathered) (y : Typed) → Typing limit x g → LineReading g.line.bytes y
      → (obey x.call.budget (lent_env limit x) (begun x g.taken) y).answer.stop ≡ 5 → ⊥)
      → (take_line x).answer.stop ≡ 5 → TakesLine x 5 (leaves take_line x)
  unfolding take_line
  five-takes-the-line f i = took-left x 5 (take-five (every-line limit x) f i)

  -- over-long, or with no reading
  unread-taken : first_refusal limit x ≡ 0 → (g : Gathered) → gathered_line limit x ≡ some g
      → (g.line.long ≡ true) ⊎ ((y : Typed) → LineReading g.line.bytes y → ⊥) → take_line x ≡ (line_taken_at x 5 g.taken (spot_of g)).outcome
  unfolding take_line take_line_in
  unread-taken z g h (inl l) = rw (z, take_line_in) (rw h (rw l))
  unread-taken z g h (inr f) = rw (z, take_line_in) (rw h (by g.line.long (typed g.line.bytes) refl)) where
    by : (b : Bool) (o : Option Typed) → typed g.line.bytes ≡ o
        → elim b [
          | true ↦ refused_line limit (begun x g.taken) x.page
          | false ↦ obey_read x.call.budget (lent_env limit x) (begun x g.taken) (column_of g.line.bytes) o
        ] ≡ (line_taken_at x 5 g.taken (if b then limit else column_of g.line.bytes)).outcome
    by true o e = refl
    by false none e = refl
    by false (some y) e = absurd (f y (typed-sound g.line.bytes y e))

  pub unread-takes-the-line : first_refusal limit x ≡ 0 → (g : Gathered) → gathered_line limit x ≡ some g
      → (g.line.long ≡ true) ⊎ ((y : Typed) → LineReading g.line.bytes y → ⊥) → leaves take_line x ≡ line_taken_at x 5 g.taken (spot_of g)
  unread-takes-the-line z g h u = left-kept take_line x _ (unread-taken z g h u) z refl
