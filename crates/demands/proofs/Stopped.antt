-- A call's stop by a statement: of the program, exactly when its last statement is refused so; of the typed line, exactly when its own statement, or LIST, is.
-- Assumes nothing.
use Prim.Native.Nat.{ℕ, zero, suc, ◌-◌, ◌≤◌}
use mathlib.Core.Path.{◌≡◌, refl, sym, ap, subst, ◌∙◌}
use mathlib.Core.Bool.{Bool, true, false, true≢false}
use mathlib.Core.List.{List, [], ◌∷◌}
use mathlib.Core.Logic.{◌↔◌, ◌⊎◌, inl, inr}
use native.Mathlib.Omega.{arith}
use lib.ListN.{length}
use lib.Dec.{leb, eqb}
use borrow.Author.Tests.{le-leb, lt-leb, eqb-true, eqb-false}
use Rattle.nibl.specs.Tree.{Stmt, Typed, blank, new, clear, run, delete, list, store, immediate}
use Rattle.nibl.specs.Readings.{LineReading}
use Rattle.nibl.specs.Typing.{Gathered}
use Rattle.nibl.specs.Page.{Stored, records_of, has_line, with, without, program_bytes}
use Rattle.nibl.specs.Meaning.{World, Env, Next, on, skip, go, stop, Done, done, went, put, exec}
use Rattle.nibl.specs.Lent.{Lent, Outcome, no_line, stops}
use Rattle.nibl.specs.Runs.{Ran, env_at, run_from, run_outcome}
use Rattle.nibl.specs.Typing.{limit}
use Rattle.nibl.specs.Lent.{begun, lent_env}
use Rattle.nibl.specs.Calls.{edited, listed, list_from, after_immediate, needs_program, obey, take_line, continue_from, continue_run}
use Rattle.nibl.proofs.Words.{if-split}
use Rattle.nibl.proofs.Lines.{typed-sound}
use Rattle.page.proofs.Walk.{by_cases}
use Rattle.record.specs.Sound.{Sized}
use Rattle.demands.specs.Lent.{budgeted, Typing, OneOfThese}
use Rattle.demands.specs.Items.{ListsLines, over, below, lists_line, no_room_for_line}
use Rattle.demands.specs.Starts.{gives}
use Rattle.demands.specs.Steps.{world_left, EndsCall, halts, runs_out, pauses, OneMore}
use Rattle.demands.specs.Reading.{Standing}
use Rattle.demands.specs.Stepping.{OneStep}
use Rattle.demands.specs.Sound.{Shows, without as unnamed, its_line, Answered, by_line, by_run}
use Rattle.demands.specs.Work.{Asking, for_variables, for_string, Reaches, itself, through_if, Works}
use Rattle.demands.specs.Refusals.{Unheard, over_long, not_in_form, Refusal}
use Rattle.demands.specs.Stopped.{NeedsProgram, under_if, an_input, an_input_string, statement_numbers, own_numbers, LineRefused, by_statement, by_list, StoppedBy}
use Rattle.demands.proofs.Work.{put-fits, put_full, works-exactly}
use Rattle.demands.proofs.Refusals.{refused-exactly, six-exactly}
use Rattle.demands.proofs.Exactly.{needs-of, needs-one}
use Rattle.demands.proofs.Numbers.{first_numbers, first-numbers}
use Rattle.demands.proofs.Ways.{Takes, refused, no_cr, overlong, unread, reads, every-line, Continues, refused', continues, every-continue}
use Rattle.demands.proofs.Accepted.{accepted-of}
use Rattle.demands.proofs.Fixed.{apart, unsaid, Lined, lines-low, run-named}
use Rattle.demands.proofs.Settling.{an-immediate-statement-is-done, list-is-done}
use Rattle.demands.proofs.Printing.{list-works-line-by-line}
use Rattle.demands.proofs.Sound.{unrefused}
use Rattle.demands.proofs.Line.{the-answers-line}
use Rattle.demands.proofs.Steps.{the-last-statement, the-last-statement-of-continue}
use Rattle.demands.proofs.Fourteen.{goes_on}

-- One statement more did what the rules say
pub the-last-statement-works : {e : Env} {k : ℕ} {o' o : Outcome} (m : OneMore e k o' o)
    → Works (env_at e m.last.place) m.last.statement (world_left o') (done m.how m.after)
the-last-statement-works {e} {o' = o'} m = (works-exactly (env_at e m.last.place) (world_left o') m.last.statement (done m.how m.after)).0 m.runs

-- and so did each step of a run
pub a-step-works : {e : Env} {q : ℕ} {w u : World} {x : Standing} {how : Next} → OneStep e q w x how u → Works (env_at e x.place) x.statement w (done how u)
a-step-works {e} {w = w} {u = u} {x = x} {how = how} s = (works-exactly (env_at e x.place) w x.statement (done how u)).0 s.does

-- The last statement gave the stop n exactly when it was refused with n
module _ {e : Env} {k : ℕ} {o' o : Outcome} (m : OneMore e k o' o) (n : ℕ) (z : n ≡ 0 → ⊥) (p : n ≡ 14 → ⊥) where
  abbrev here : Env
  here = env_at e m.last.place

  abbrev Last : Type 0
  Last = Refusal here m.last.statement (world_left o') n m.after

  stop-says : o.answer.stop ≡ n → Last
  stop-says h =
      (refused-exactly here (world_left o') m.last.statement n m.after z).0
      (m.runs ∙ ap (λ (how : Next). done how m.after) (m.stops (λ c. z (sym h ∙ c)) (λ c. p (sym h ∙ c)) ∙ ap stop h))

  refusal-stops : Last → o.answer.stop ≡ n
  refusal-stops r = by m.ends (stopped (sym m.runs ∙ (refused-exactly here (world_left o') m.last.statement n m.after z).1 r)) where
    stopped : {how : Next} {u v : World} → done how u ≡ done (stop n) v → how ≡ stop n
    stopped h = cc

    by : {how : Next} {u : World} → EndsCall e.page m.last.place m.last.cr how u k o → how ≡ stop n → o.answer.stop ≡ n
    by (halts i c s) h = cc
    by (runs_out q g i c s) h = absurd (goes_on g h)
    by (pauses q a g i c b s) h = absurd (goes_on g h)

  pub the-last-statement-refused : (o.answer.stop ≡ n) ↔ Last
  the-last-statement-refused = (stop-says, refusal-stops)

-- A stop with a line is a program statement's
module _ (x : Lent) (sized : Sized x.session) where
  shown : {r : Ran} {l : ℕ} → Shows x.page r l → (l ≡ no_line → ⊥) → 1 ≤ length r.lines
  shown (unnamed h) n = absurd (n refl)
  shown (its_line h i l a d c) n = l

  lined : {From : ℕ → World → Type 0} {o : Outcome} → Answered limit x From o → (o.answer.line ≡ no_line → ⊥) → 1 ≤ o.answer.steps
  lined (by_line l s c) n = absurd (n l)
  lined (by_run q w b s h e c) n = rw (ap (λ (o : Outcome). o.answer.steps) e) (shown c n)

  line-steps : {o : Outcome} → o ≡ take_line x → Takes limit x o → (o.answer.line ≡ no_line → ⊥) → 1 ≤ o.answer.steps
  line-steps e (refused h) n = absurd (n refl)
  line-steps e (no_cr z h) n = absurd (n refl)
  line-steps e (overlong g z h l) n = absurd (n refl)
  line-steps e (unread g h r) n = absurd (n refl)
  line-steps e (reads g y h r) n = rw e (lined (the-answers-line x (unrefused limit x sized h.sound)).0 (rw e at n))

  continue-steps : {o : Outcome} → o ≡ continue_run x → Continues limit x o → (o.answer.line ≡ no_line → ⊥) → 1 ≤ o.answer.steps
  continue-steps e (refused' h) n = absurd (n refl)
  continue-steps e (continues h) n = rw e (lined (the-answers-line x (unrefused limit x sized h)).1 (rw e at n))

  module _ (n : ℕ) (z : n ≡ 0 → ⊥) (p : n ≡ 14 → ⊥) where
    by_last : {e : Env} {k : ℕ} {o' o : Outcome} → OneMore e k o' o → o.answer.stop ≡ n → StoppedBy e k o' o n
    by_last m h = record { more = m; refused = (the-last-statement-refused m n z p).0 h }

    last-by : {e : Env} {k : ℕ} {o' o : Outcome} → StoppedBy e k o' o n → (o.answer.stop ≡ n) × (o.answer.line ≡ no_line → ⊥)
    last-by s =
        let m = s.more in
        let h = (the-last-statement-refused m n z p).1 s.refused in
        let l = m.line (λ c. z (sym h ∙ c)) (λ c. p (sym h ∙ c)) in
        (h, λ c. let d = m.named in omega arith)

    -- a call stops with n and a line exactly when the last statement that it ran is refused with n
    pub a-program-statements-stop : (((take_line x).answer.stop ≡ n) × ((take_line x).answer.line ≡ no_line → ⊥))
        ↔ StoppedBy (lent_env limit x) x.call.budget (take_line (budgeted ((take_line x).answer.steps - 1) x)) (take_line x) n
    unfolding take_line
    a-program-statements-stop = (λ h. by_last (the-last-statement x sized (line-steps refl (every-line limit x) h.1)) h.0, last-by)

    pub a-continued-statements-stop : (((continue_run x).answer.stop ≡ n) × ((continue_run x).answer.line ≡ no_line → ⊥))
        ↔ StoppedBy (lent_env limit x) x.call.budget (continue_run (budgeted ((continue_run x).answer.steps - 1) x)) (continue_run x) n
    unfolding continue_run
    a-continued-statements-stop = (λ h. by_last (the-last-statement-of-continue x sized (continue-steps refl (every-continue limit x) h.1)) h.0, last-by)

-- LIST's rules leave no choice
list-one : {n : ℕ} {rs : List Stored} {w : World} {d : Done} → ListsLines n rs w d → list_from n rs w ≡ d
unfolding list_from
list-one over = refl
list-one {n} (below {r = r} {rs = rs} {w = w} h l) =
    ap (λ (b : Bool). elim b [ true ↦ went (put (listed r) w) (list_from n rs) | false ↦ list_from n rs w ]) (lt-leb n r.line h) ∙ list-one l
list-one {n} (lists_line {r = r} {rs = rs} {w = w} h i l) =
    ap (λ (b : Bool). elim b [ true ↦ went (put (listed r) w) (list_from n rs) | false ↦ list_from n rs w ]) (le-leb n r.line h) ∙ put-fits (listed r) w (list_from n rs) i ∙ list-one l
list-one {n} (no_room_for_line {r = r} {rs = rs} {w = w} h i) =
    ap (λ (b : Bool). elim b [ true ↦ went (put (listed r) w) (list_from n rs) | false ↦ list_from n rs w ]) (le-leb n r.line h) ∙ put_full (listed r) w (list_from n rs) i

-- what a typed line gives by itself
abbrev line_numbers : List ℕ
line_numbers = 0 ∷ 2 ∷ 3 ∷ 5 ∷ 7 ∷ 14 ∷ []

module _ (x : Lent) (n : ℕ) (q : OneOfThese own_numbers n) where
  not_own : OneOfThese line_numbers n → ⊥
  not_own = apart own_numbers line_numbers refl n q

  -- stopped without a line
  record Unlined (o : Outcome) : Type 0 where
    number : o.answer.stop ≡ n
    unlined : o.answer.line ≡ no_line

  plain : (m : ℕ) → OneOfThese line_numbers m → m ≡ n → ⊥
  plain m h e = not_own (subst (OneOfThese line_numbers) e h)

  edit-bare : (page : List ℕ) (w : World) (rs : List Stored) → Unlined (edited page w rs) → ⊥
  unfolding edited
  edit-bare page w rs =
      if-split (λ o. Unlined o → ⊥) (leb (length (program_bytes rs)) (length page)) (λ _ b. plain 0 refl b.number) (λ _ b. plain 2 refl b.number)

  run-bare : (k : ℕ) (e : Env) (at : ℕ) (w : World) → Lined e.page → Unlined (run_outcome (run_from k e at w) e.page) → ⊥
  run-bare k e at w low b = by (run-named k e at w low b.unlined) where
    by : OneOfThese unsaid (run_from k e at w).stop → ⊥
    by i = apart own_numbers unsaid refl n q (subst (OneOfThese unsaid) b.number i)

  -- a statement or LIST that left the line bare, and its stop
  done-bare : (k : ℕ) (e : Env) → Lined e.page → (d : Done) → Unlined (after_immediate k e d) → (u : World) × (d ≡ done (stop n) u)
  done-bare k e low (done on w) b = absurd (plain 0 refl b.number)
  done-bare k e low (done skip w) b = absurd (plain 0 refl b.number)
  done-bare k e low (done (go at) w) b = absurd (run-bare k e at w low b)
  done-bare k e low (done (stop m) w) b = (w, ap (λ (i : ℕ). done (stop i) w) b.number)

  own-zero : n ≡ 0 → ⊥
  own-zero e = plain 0 refl (sym e)

  module _ (g : Gathered) (h : Typing limit x g) where
    abbrev w : World
    w = begun x g.taken

    abbrev e : Env
    e = lent_env limit x

    low : Lined x.page
    low = lines-low limit x.page (omega arith) (accepted-of limit x h.sound).good

    obey-bare : (y : Typed) → LineReading g.line.bytes y → Unlined (obey x.call.budget e w y) → LineRefused x n
    unfolding obey
    obey-bare blank r b = absurd (plain 0 refl b.number)
    obey-bare new r b = absurd (edit-bare x.page w [] b)
    obey-bare clear r b = absurd (plain 0 refl b.number)
    obey-bare run r b = absurd (run-bare x.call.budget e 0 _ low b)
    obey-bare (delete m) r b = absurd (by (has_line m (records_of x.page)) b) where
      by : (c : Bool) → Unlined (elim c [ true ↦ edited x.page w (without m (records_of x.page)) | false ↦ stops 0 w x.page ]) → ⊥
      by true b = edit-bare x.page w (without m (records_of x.page)) b
      by false b = plain 0 refl b.number
    obey-bare (list m) r b =
        let s = done-bare x.call.budget e low (list_from m (records_of x.page) w) b in
        by_list h r (rw s.1 at (list-works-line-by-line m (records_of x.page) w))
    obey-bare (store m t ms) r b = absurd (edit-bare x.page w (with (record { line = m; text = t }) (records_of x.page)) b)
    obey-bare (immediate s) r b = by (needs_program s) refl b where
      by : (c : Bool) → needs_program s ≡ c
          → Unlined (elim c [ true ↦ stops 3 w x.page | false ↦ after_immediate x.call.budget e (exec e s w) ]) → LineRefused x n
      by true m b = absurd (plain 3 refl b.number)
      by false m b =
          let d = done-bare x.call.budget e low (exec e s w) b in
          by_statement h r (λ c. true≢false (sym (needs-one c) ∙ m)) ((refused-exactly e w s n d.0 own-zero).0 d.1)

  line-bare : {o : Outcome} → Takes limit x o → Unlined o → LineRefused x n
  line-bare (refused {n = m} h) b = absurd (apart own_numbers first_numbers refl n q (subst (OneOfThese first_numbers) b.number (first-numbers limit x (suc m) h)))
  line-bare (no_cr z h) b = absurd (plain 7 refl b.number)
  line-bare (overlong g z h l) b = absurd (plain 5 refl b.number)
  line-bare (unread g h r) b = absurd (plain 5 refl b.number)
  line-bare (reads g y h r) b = obey-bare g h y (typed-sound g.line.bytes y r) b

  bare_of : (u : World) → take_line x ≡ stops n u x.page → ((take_line x).answer.stop ≡ n) × ((take_line x).answer.line ≡ no_line)
  bare_of u h = (ap (λ (o : Outcome). o.answer.stop) h, ap (λ (o : Outcome). o.answer.line) h)

  refused-bare : LineRefused x n → ((take_line x).answer.stop ≡ n) × ((take_line x).answer.line ≡ no_line)
  refused-bare (by_statement {g = g} {s = s} {u = u} h r m f) =
      bare_of u (an-immediate-statement-is-done x g h s (stop n) n u r (by (needs_program s) refl) ((refused-exactly (lent_env limit x) (begun x g.taken) s n u own-zero).1 f) gives)
    where
      by : (c : Bool) → needs_program s ≡ c → needs_program s ≡ false
      by true e = absurd (m (needs-of s e))
      by false e = e
  refused-bare (by_list {g = g} {m = m} {u = u} h r l) = bare_of u (list-is-done x g h m (stop n) n u r (list-one l) gives)

  -- a typed line stops with n and no line exactly when its own statement is refused with n, or a line of its LIST
  pub a-typed-statements-stop : (((take_line x).answer.stop ≡ n) × ((take_line x).answer.line ≡ no_line)) ↔ LineRefused x n
  unfolding take_line
  a-typed-statements-stop = (λ h. line-bare (every-line limit x) (record { number = h.0; unlined = h.1 }), refused-bare)

-- So of each of these numbers: the typed line's own statement or LIST was refused with it, or the last statement of its run
pub a-statements-stop : (x : Lent) → Sized x.session → (n : ℕ) → OneOfThese own_numbers n → ((take_line x).answer.stop ≡ n)
    ↔ (LineRefused x n ⊎ StoppedBy (lent_env limit x) x.call.budget (take_line (budgeted ((take_line x).answer.steps - 1) x)) (take_line x) n)
a-statements-stop x sized n q = (λ h. by_cases (eqb (take_line x).answer.line no_line) (λ e. inl (typed'.0 (h, eqb-true _ _ e))) (λ e. inr (stopped.0 (h, eqb-false _ _ e))), back) where
  z : n ≡ 0 → ⊥
  z = own-zero x n q

  p : n ≡ 14 → ⊥
  p e = plain x n q 14 refl (sym e)

  typed' : (((take_line x).answer.stop ≡ n) × ((take_line x).answer.line ≡ no_line)) ↔ LineRefused x n
  typed' = a-typed-statements-stop x n q

  stopped : (((take_line x).answer.stop ≡ n) × ((take_line x).answer.line ≡ no_line → ⊥))
      ↔ StoppedBy (lent_env limit x) x.call.budget (take_line (budgeted ((take_line x).answer.steps - 1) x)) (take_line x) n
  stopped = a-program-statements-stop x sized n z p

  back : LineRefused x n ⊎ StoppedBy (lent_env limit x) x.call.budget (take_line (budgeted ((take_line x).answer.steps - 1) x)) (take_line x) n
      → (take_line x).answer.stop ≡ n
  back (inl r) = (typed'.1 r).0
  back (inr r) = (stopped.1 r).0

-- 6 is never a typed line's own: INPUT needs a program
asking-needs : {e : Env} {w : World} {q : Stmt} → Asking e w q → NeedsProgram q
asking-needs for_variables = an_input
asking-needs (for_string h) = an_input_string

unheard-needs : {e : Env} {w u : World} {q : Stmt} → Unheard e w u q → NeedsProgram q
unheard-needs (over_long a r h i) = asking-needs a
unheard-needs (not_in_form r s h i) = an_input

reached-needs : {e : Env} {w : World} {s q : Stmt} → Reaches e w s q → NeedsProgram q → NeedsProgram s
reached-needs itself n = n
reached-needs (through_if h z r) n = under_if (reached-needs r n)

no-typed-six : (x : Lent) → LineRefused x 6 → ⊥
no-typed-six x (by_statement {g = g} {s = s} {u = u} h r n f) =
    let e = lent_env limit x in
    let c = (six-exactly e (begun x g.taken) s u).0 ((refused-exactly e (begun x g.taken) s 6 u (λ i. omega arith)).1 f) in
    n (reached-needs c.reached (unheard-needs c.holds))
no-typed-six x (by_list h r l) = list-stops l refl where
  list-stops : {m : ℕ} {rs : List Stored} {w : World} {d : Done} {u : World} → ListsLines m rs w d → d ≡ done (stop 6) u → ⊥
  list-stops over i = let z : ◌≡◌ {A = ℕ} 0 1 = cc in omega arith
  list-stops (below h l) i = list-stops l i
  list-stops (lists_line h r l) i = list-stops l i
  list-stops (no_room_for_line h r) i = let z : ◌≡◌ {A = ℕ} 17 6 = cc in omega arith

-- "reply over-long or not in its form": 6 is the stop of the last statement of a run, and of no other
pub a-replys-stop : (x : Lent) → Sized x.session → ((take_line x).answer.stop ≡ 6)
    ↔ StoppedBy (lent_env limit x) x.call.budget (take_line (budgeted ((take_line x).answer.steps - 1) x)) (take_line x) 6
a-replys-stop x sized = (λ h. by (s.0 h), λ r. s.1 (inr r)) where
  s : ((take_line x).answer.stop ≡ 6)
      ↔ (LineRefused x 6 ⊎ StoppedBy (lent_env limit x) x.call.budget (take_line (budgeted ((take_line x).answer.steps - 1) x)) (take_line x) 6)
  s = a-statements-stop x sized 6 refl

  by : LineRefused x 6 ⊎ StoppedBy (lent_env limit x) x.call.budget (take_line (budgeted ((take_line x).answer.steps - 1) x)) (take_line x) 6
      → StoppedBy (lent_env limit x) x.call.budget (take_line (budgeted ((take_line x).answer.steps - 1) x)) (take_line x) 6
  by (inl r) = absurd (no-typed-six x r)
  by (inr r) = r

-- A continued run has no statement but the program's: all of these numbers, INPUT's 7 too, are its last statement's
module _ (x : Lent) (n : ℕ) (q : OneOfThese statement_numbers n) where
  paused-lined : (p : ℕ) → Lined x.page → (continue_from limit x p).answer.stop ≡ n → (continue_from limit x p).answer.line ≡ no_line → ⊥
  paused-lined zero lows h l = apart statement_numbers (0 ∷ []) refl n q (subst (OneOfThese (0 ∷ [])) h refl)
  paused-lined (suc at) lows h l =
      apart statement_numbers unsaid refl n q (subst (OneOfThese unsaid) h (run-named x.call.budget (lent_env limit x) at (begun x 0) lows l))

  continue-lined : {o : Outcome} → Continues limit x o → o.answer.stop ≡ n → o.answer.line ≡ no_line → ⊥
  continue-lined (refused' {n = m} h) i l = apart statement_numbers first_numbers refl n q (subst (OneOfThese first_numbers) i (first-numbers limit x (suc m) h))
  continue-lined (continues h) i l = paused-lined x.session.paused (lines-low limit x.page (omega arith) (accepted-of limit x h).good) i l

  pub a-continued-stop : Sized x.session → ((continue_run x).answer.stop ≡ n)
      ↔ StoppedBy (lent_env limit x) x.call.budget (continue_run (budgeted ((continue_run x).answer.steps - 1) x)) (continue_run x) n
  unfolding continue_run
  a-continued-stop sized =
      let c = a-continued-statements-stop x sized n (λ e. apart statement_numbers unsaid refl n q (subst (OneOfThese unsaid) (sym e) refl)) (λ e. apart statement_numbers unsaid refl n q (subst (OneOfThese unsaid) (sym e) refl)) in
      (λ h. c.0 (h, λ l. continue-lined (every-continue limit x) h l), λ r. (c.1 r).0)
