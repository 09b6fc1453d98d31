-- "No stop clears the stacks", and what a refusing statement leaves, of the calls: what a call of one or more steps leaves is what its last
-- statement made of what the same call with one step less left. Assumes nothing.
use Rattle.std.specs.Prelude.{if◌then◌else◌}
use Prim.Native.Nat.{ℕ, ◌-◌, ◌≤◌}
use mathlib.Core.Path.{◌≡◌, refl, ap, ◌∙◌}
use mathlib.Core.Bool.{Bool, true, false, false≢true}
use mathlib.Core.List.{List, []}
use mathlib.Core.Option.{some}
use native.Mathlib.Omega.{arith}
use lib.ListN.{length}
use lib.Dec.{leb, eqb}
use borrow.Author.Tests.{eq-eqb, eqb-true, eqb-false, ne_eqb, leb-true, leb-false}
use Rattle.page.proofs.Walk.{by_cases}
use Rattle.nibl.specs.Tree.{Typed, blank, new, clear, run, delete, list, store, immediate}
use Rattle.nibl.specs.found.Read.{typed}
use Rattle.nibl.specs.Page.{Stored, is_good, records_of, used_by, has_line, with, without, places_of}
use Rattle.nibl.specs.Meaning.{World, Env, Next, on, skip, go, stop, Done, done, with_session, exec}
use Rattle.nibl.specs.Lent.{Lent, Outcome, no_line, stops}
use Rattle.nibl.specs.Runs.{Ran, env_at, run_from, run_outcome}
use Rattle.nibl.specs.Typing.{limit}
use Rattle.nibl.specs.Lent.{begun, lent_env}
use Rattle.nibl.specs.FirstRefusals.{first_refusal}
use Rattle.nibl.specs.Calls.{edited, list_from, after_immediate, needs_program, obey, take_line, continue_from, continue_run}
use Rattle.nibl.specs.Record.{nowhere, paused_at, with_paused, unpaused}
use Rattle.nibl.specs.Typing.{Gathered}
use Rattle.nibl.specs.Readings.{LineReading}
use Rattle.nibl.proofs.Whole.{typed-complete}
use Rattle.demands.specs.Lent.{budgeted, Typing, OneOfThese}
use Rattle.demands.specs.Asks.{input_vars, GivenIn, stay}
use Rattle.demands.specs.ItemsIn.{ItemIn, OwnItem, of_list, of_statement}
use Rattle.demands.specs.Leaves.{no_item, none_taken, Refused, world_after}
use Rattle.page.specs.Standing.{Stands}
use Rattle.record.specs.Sound.{Sized, Sound}
use Rattle.record.proofs.Fitted.{sound-fit, fit-sound}
use Rattle.demands.specs.Steps.{world_left, GoesTo, EndsCall, halts, runs_out, pauses, OneMore, RefusedLine}
use Rattle.demands.proofs.Budget.{steps-within}
use Rattle.demands.proofs.Ways.{Takes, refused, no_cr, overlong, unread, reads, every-line, Continues, refused', continues, every-continue}
use Rattle.demands.proofs.Accepted.{accepted-of, accepted-less, continue-at}
use Rattle.demands.proofs.Retyping.{edited-fits, edited-full, line_read}
use Rattle.demands.proofs.Refusing.{needs-asks}
use Rattle.demands.proofs.Fixed.{unsaid, lines-low, run-named}
use Rattle.demands.proofs.Five.{no-grammar-refusal-while-running, exactly-5}
use Rattle.demands.proofs.Held.{run-steady, refusing-list, refused_as}
use Rattle.demands.proofs.ItemsIn.{a-refusing-statement}
use Rattle.demands.proofs.Immediate.{exec_keeps, list-keeps}
use Rattle.demands.proofs.Runs.{fetched-line}
use Rattle.demands.proofs.LastStep.{LastStep, RunEnds, last_step, unpaused-same}
use Rattle.demands.proofs.LastStep as last_step_by
use Rattle.demands.proofs.Line.{a-last-steps-line}
use Rattle.demands.proofs.Sound.{unrefused, goings-fit, goings-stands}
use Rattle.demands.proofs.Running.{run-goes}
use Rattle.demands.proofs.Stepping.{nothing-past, some_next, its-next, goes-stands}
use Rattle.demands.proofs.Obeys.{Obeyed, stands, edits, runs as runs_on, read-ways, continue-ways}

of-unsaid : (n : ℕ) → OneOfThese unsaid n → (n ≡ 0 → ⊥) → (n ≡ 5 → ⊥) → (n ≡ 14 → ⊥) → ⊥
of-unsaid n i a b c =
    by_cases (eqb n 0) (λ e. a (eqb-true n 0 e)) (λ e. by_cases (eqb n 5) (λ f. b (eqb-true n 5 f)) (λ f. by_cases (eqb n 14) (λ g. c (eqb-true n 14 g))
    (λ g. false≢true (rw (e, f, g) at i))))

-- a pause that is set or not changes nothing else
record Pausing (w u : World) : Type 0 where
  session : unpaused u.session ≡ w.session
  memory : u.memory ≡ w.memory
  output : u.output ≡ w.output
  outpos : u.outpos ≡ w.outpos
  inpos : u.inpos ≡ w.inpos

set-or-not : (b : Bool) (w : World) (p : ℕ) → w.session.paused ≡ nowhere → Pausing w (if b then with_session w (with_paused w.session p) else w)
set-or-not true w p h = record { session = unpaused-same w.session h; memory = refl; output = refl; outpos = refl; inpos = refl }
set-or-not false w p h = record { session = unpaused-same w.session h; memory = refl; output = refl; outpos = refl; inpos = refl }

-- Of a run
module _ (e : Env) (k q : ℕ) (w : World) (sound : Sound limit e.page w.session) (stands : Stands (places_of e.page) q) (h : w.session.paused ≡ nowhere) where
  abbrev r : Ran
  r = run_from k e q w

  five : r.stop ≡ 5 → ⊥
  five = no-grammar-refusal-while-running limit e (omega arith) k q w sound stands

  run_ends : {p cr : ℕ} {how : Next} → ((q : ℕ) → GoesTo p cr how q → Stands (places_of e.page) q) → RunEnds e.page p cr how k r
      → EndsCall e.page p cr how r.world k (run_outcome r e.page)
  run_ends s (last_step_by.halts i m) = halts i (λ c. false≢true (rw c at m)) (rw (ne_eqb r.stop 14 (λ c. false≢true (rw c at m))))
  run_ends s (last_step_by.runs_out p g i c) = runs_out p g (nothing-past limit e (omega arith) sound.good p (s p g) i) c (rw c)
  run_ends s (last_step_by.pauses p g i c n at) = some_next limit e (omega arith) sound.good p (s p g) i (λ x j. pauses p x g j c n (rw (c, at)))
  run_ends s (last_step_by.breaks c) = absurd (five c)

  run_more : (t : LastStep e k q w r) → OneMore e k (run_outcome (run_from t.before e q w) e.page) (run_outcome r e.page)
  run_more t =
      let r' = run_from t.before e q w in
      let c : eqb r'.stop 14 ≡ true = eq-eqb r'.stop 14 t.pauses in
      let same : with_session r'.world (unpaused r'.world.session) ≡ r'.world =
      λ i. with_session r'.world (unpaused-same r'.world.session ((run-steady t.before e q w).paused ∙ h) i) in
      let clear = (run-steady k e q w).paused ∙ h in
      let p = set-or-not (eqb r.stop 14) r.world (paused_at r.at) clear in
      let before = run-goes limit e (omega arith) sound.good t.before q w stands (sound-fit sound) in
      let here = goings-stands before t.pauses in
      record {
        paused = t.pauses;
        at = r'.at;
        waits = rw c;
        last = t.last;
        next = its-next limit e (omega arith) sound.good r'.at t.last r'.world here t.fetches;
        how = t.how;
        after = r.world;
        runs = rw c (ap (exec (env_at e t.last.place) t.last.statement) same ∙ t.goes);
        stops = λ a b. t.stops (λ i. of-unsaid r.stop i a five b);
        line = λ a b. (a-last-steps-line limit e (omega arith) k q w sound stands a b t).line;
        named = rw (fetched-line e.page r'.at t.last t.fetches) (lines-low limit e.page (omega arith) sound.good t.last.place);
        clear = clear;
        ends =
            run_ends
            (λ q' to. goes-stands limit e (omega arith) sound.good r'.at t.last r'.world here t.fetches (goings-fit before) t.goes to)
            t.ends;
        session = p.session;
        page = refl;
        memory = p.memory;
        output = p.output;
        outpos = p.outpos;
        inpos = p.inpos;
      }

  -- a call that runs from q on, at any budget up to its own
  more-by-one : (call : ℕ → Outcome) → ((b : ℕ) → b ≤ k → call b ≡ run_outcome (run_from b e q w) e.page) → 1 ≤ (call k).answer.steps
      → OneMore e k (call ((call k).answer.steps - 1)) (call k)
  more-by-one call same n = rw o (by (rw o at n)) where
    o : call k ≡ run_outcome r e.page
    o = same k (omega arith)

    by : 1 ≤ length r.lines → OneMore e k (call (length r.lines - 1)) (run_outcome r e.page)
    by n =
        let t = last_step k e q w n in
        let b : length r.lines - 1 ≡ t.before = omega (arith, t.count) in
        rw (b, same t.before (omega (arith, t.count, steps-within k e q w))) (run_more t)

-- How a read line goes, at any budget: it runs the program, is done, or is refused
data Kind (e : Env) (w : World) (y : Typed) : Type 0 where
  runs : (q : ℕ) (u : World) → ((k : ℕ) → obey k e w y ≡ run_outcome (run_from k e q u) e.page) → Kind e w y
  settles : ((k : ℕ) → (obey k e w y).answer.stop ≡ 0) → ((k : ℕ) → (obey k e w y).answer.steps ≡ 0) → Kind e w y
  refuses : (n : ℕ) (u : World) → ((k : ℕ) → obey k e w y ≡ stops n u e.page) → Refused e [] (OwnItem e w y) w u → u.inpos ≡ w.inpos → Kind e w y

nothing-done : {W : List ℕ → Type 0} (e : Env) (w : World) → Refused e [] W w w
nothing-done e w =
    record {
      given = stay;
      rest = record { flags = refl; gosubs = refl; dos = refl; fors = refl; paused = refl };
      memory = refl;
      items = no_item;
      lines = none_taken;
    }

module _ (e : Env) (w : World) (y : Typed) where
  immediate-kind : (d : Done) → ((k : ℕ) → obey k e w y ≡ after_immediate k e d) → (world_after d).inpos ≡ w.inpos
      → ((n : ℕ) (u : World) → d ≡ done (stop n) u → (n ≡ 0 → ⊥) → Refused e [] (OwnItem e w y) w u) → Kind e w y
  immediate-kind (done on u) f i g = settles (λ k. rw (f k)) (λ k. rw (f k))
  immediate-kind (done skip u) f i g = settles (λ k. rw (f k)) (λ k. rw (f k))
  immediate-kind (done (go q) u) f i g = runs q u f
  immediate-kind (done (stop n) u) f i g =
      by_cases (eqb n 0) (λ h. let z = eqb-true n 0 h in settles (λ k. rw (f k, z)) (λ k. rw (f k))) (λ h. refuses n u f (g n u refl (eqb-false n 0 h)) i)

  edit-kind : (rs : List Stored) → ((k : ℕ) → obey k e w y ≡ edited e.page w rs) → Kind e w y
  edit-kind rs f =
      by_cases (leb (used_by rs) (length e.page))
      (λ h. let j = edited-fits e.page w rs (leb-true _ _ h) in settles (λ k. rw (f k, j)) (λ k. rw (f k, j)))
      (λ h. let j = edited-full e.page w rs (leb-false _ _ h) in refuses 2 w (λ k. f k ∙ j) (nothing-done e w) refl)

kind : (e : Env) (w : World) (y : Typed) → Kind e w y
unfolding obey
kind e w blank = settles (λ k. refl) (λ k. refl)
kind e w new = edit-kind e w new [] (λ k. refl)
kind e w clear = settles (λ k. refl) (λ k. refl)
kind e w run = runs 0 _ (λ k. refl)
kind e w (delete n) =
    by_cases (has_line n (records_of e.page))
    (λ h. edit-kind e w (delete n) (without n (records_of e.page)) (λ k. rw (h, obey)))
    (λ h. settles (λ k. rw (h, obey)) (λ k. rw (h, obey)))
kind e w (list n) = immediate-kind e w (list n) (list_from n (records_of e.page) w) (λ k. refl) (list-keeps n (records_of e.page) w).same (λ m u h z. refused_as (λ bs i. of_list i) (refusing-list e n (records_of e.page) w u m h z))
kind e w (store n t ms) = edit-kind e w (store n t ms) (with (record { line = n; text = t }) (records_of e.page)) (λ k. refl)
kind e w (immediate q) =
    by_cases (needs_program q)
    (λ h. refuses 3 w (λ k. rw (h, obey)) (nothing-done e w) refl)
    (λ h. immediate-kind e w (immediate q) (exec e q w) (λ k. rw (h, obey)) (exec_keeps e q w h).same (λ m u f z. refused_as (λ bs i. of_statement i) (rw (needs-asks q h).1 at (a-refusing-statement e q w u m f z))))

some-steps : {n : ℕ} → n ≡ 0 → 1 ≤ n → ⊥
some-steps h n = omega arith

module _ (x : Lent) where
  abbrev env : Env
  env = lent_env limit x

  abbrev More : (Lent → Outcome) → Outcome → Type 0
  More call o = OneMore env x.call.budget (call (budgeted (o.answer.steps - 1) x)) o

  -- the call on the same line with another budget
  read_again : (g : Gathered) (y : Typed) → Typing limit x g → typed g.line.bytes ≡ some y → (b : ℕ) → b ≤ x.call.budget
      → take_line (budgeted b x) ≡ obey b env (begun x g.taken) y
  read_again g y h r b l = line_read (budgeted b x) g y (record { sound = accepted-less limit x b x.call.budget l h.sound; line = h.line; short = h.short }) r

  continue-again : first_refusal limit x ≡ 0 → (b : ℕ) → b ≤ x.call.budget → continue_run (budgeted b x) ≡ continue_from limit (budgeted b x) x.session.paused
  unfolding continue_run
  continue-again h b l = continue-at limit (budgeted b x) (accepted-less limit x b x.call.budget l h)

  obeyed-more : is_good limit x.page ≡ true → {From : ℕ → World → Type 0} {o : ℕ → Outcome} → Obeyed limit env (begun x 0) From o → (call : Lent → Outcome)
      → ((b : ℕ) → b ≤ x.call.budget → call (budgeted b x) ≡ o b) → 1 ≤ (call x).answer.steps → More call (call x)
  obeyed-more good (stands i f) call same n = absurd (some-steps (ap (λ o. o.answer.steps) (same x.call.budget (omega arith))) n)
  obeyed-more good (edits p i f) call same n = absurd (some-steps (ap (λ o. o.answer.steps) (same x.call.budget (omega arith))) n)
  obeyed-more good (runs_on q w s f i j b) call same n = more-by-one env x.call.budget q w (fit-sound limit good f) s j.paused (λ b. call (budgeted b x)) same n

  module _ (sized : Sized x.session) where
    take_more : {o : Outcome} → o ≡ take_line x → Takes limit x o → 1 ≤ o.answer.steps → More take_line o
    take_more e (refused h) n = absurd (omega arith)
    take_more e (no_cr z h) n = absurd (omega arith)
    take_more e (overlong g z h j) n = absurd (omega arith)
    take_more e (unread g h r) n = absurd (omega arith)
    take_more e (reads g y h r) n =
        let s = unrefused limit x sized h.sound in
        rw e (obeyed-more s.good (read-ways limit x (omega arith) s.good (sound-fit s) g y h r) take_line (read_again g y h r) (rw e at n))

    continue-more : {o : Outcome} → o ≡ continue_run x → Continues limit x o → 1 ≤ o.answer.steps → More continue_run o
    continue-more e (refused' h) n = absurd (omega arith)
    continue-more e (continues h) n =
        let s = unrefused limit x sized h in
        rw e (obeyed-more s.good (continue-ways limit x (omega arith) s.good (sound-fit s) h) continue_run (continue-again h) (rw e at n))

    pub the-last-statement : 1 ≤ (take_line x).answer.steps → OneMore (lent_env limit x) x.call.budget (take_line (budgeted ((take_line x).answer.steps - 1) x)) (take_line x)
    unfolding take_line
    the-last-statement n = take_more refl (every-line limit x) n

    pub the-last-statement-of-continue : 1 ≤ (continue_run x).answer.steps
        → OneMore (lent_env limit x) x.call.budget (continue_run (budgeted ((continue_run x).answer.steps - 1) x)) (continue_run x)
    unfolding continue_run
    the-last-statement-of-continue n = continue-more refl (every-continue limit x) n

-- and if it refused, it left all but INPUT's given variables as the call with one step less left it
pub refused-last : {e : Env} {k : ℕ} {o' o : Outcome} (m : OneMore e k o' o) → (o.answer.stop ≡ 0 → ⊥) → (o.answer.stop ≡ 14 → ⊥)
    → Refused (env_at e m.last.place) (input_vars m.last.statement) (ItemIn (env_at e m.last.place) (world_left o') m.last.statement) (world_left o') m.after
refused-last {e = e} {o' = o'} {o = o} m a b =
    a-refusing-statement (env_at e m.last.place) m.last.statement (world_left o') m.after o.answer.stop
    (m.runs ∙ ap (λ (n : Next). done n m.after) (m.stops a b)) a

-- A typed line's own refusal
none-given : {vars after : List ℕ} → GivenIn [] vars after → after ≡ vars
none-given stay = refl

pub refusing-line : (x : Lent) → Sized x.session → (g : Gathered) (y : Typed) → Typing limit x g → LineReading g.line.bytes y
    → (take_line x).answer.line ≡ no_line → ((take_line x).answer.stop ≡ 0 → ⊥) → ((take_line x).answer.stop ≡ 14 → ⊥) → RefusedLine x g y (take_line x)
refusing-line x sized g y h r n ended' paused = by (kind (lent_env limit x) (begun x g.taken) y) where
  o : take_line x ≡ obey x.call.budget (lent_env limit x) (begun x g.taken) y
  o = line_read x g y h (typed-complete r)

  m : OneOfThese unsaid (take_line x).answer.stop → ⊥
  m i = of-unsaid (take_line x).answer.stop i ended' (λ e. (exactly-5 x g sized h.sound h.line h.short).0 e y r) paused

  by : Kind (lent_env limit x) (begun x g.taken) y → RefusedLine x g y (take_line x)
  by (runs q u f) =
      let i = o ∙ f x.call.budget in
      absurd (m (rw i (run-named x.call.budget (lent_env limit x) q u (lines-low limit x.page (omega arith) (accepted-of limit x h.sound).good) (rw i at n))))
  by (settles f j) = absurd (ended' (rw (o, f x.call.budget) refl))
  by (refuses k u f j l) =
      let s = j.rest in
      rw (o, f x.call.budget)
      (record {
        session = λ i. record { vars = none-given j.given i; flags = s.flags i; gosubs = s.gosubs i; dos = s.dos i; fors = s.fors i; paused = s.paused i };
        page = refl;
        memory = j.memory;
        items = j.items;
        inpos = l;
        steps = refl;
      })
