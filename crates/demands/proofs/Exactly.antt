-- Each stop of a call exactly when the documents say so: 1, 18, 26, 19, a typed line's 7, 3 and 2; the refusals of an immediate statement and of LIST; and those of
-- the statement that ends a run. Assumes nothing.
use Rattle.std.specs.Prelude.{if◌then◌else◌}
use Prim.Native.Nat.{ℕ, suc, ◌+◌}
use mathlib.Core.Path.{◌≡◌, refl, sym, ap, subst, ◌∙◌}
use mathlib.Core.Bool.{Bool, true, false, not, true≢false, false≢true}
use mathlib.Core.List.{List, [], ◌∷◌}
use mathlib.Core.Logic.{◌↔◌}
use mathlib.Core.Option.{some}
use native.Mathlib.Omega.{arith}
use lib.ListN.{length, drop}
use lib.Dec.{leb}
use borrow.Author.Tests.{leb-true, leb-false}
use Rattle.nibl.specs.Tree.{Stmt, let_var, let_stat, let_byte, let_copy, let_text, goto, gosub, until, return, do_loop, remark, end, print, if_then, for, next, input, input_text}
use Rattle.nibl.specs.Tree.{Typed, blank, new, clear, run, delete, list, store, immediate}
use Rattle.nibl.specs.Readings.{LineReading}
use Rattle.nibl.specs.Typing.{Gathered}
use Rattle.nibl.specs.Page.{Stored, is_good, fits, records_of, used_by, has_line, with, without, program_bytes}
use Rattle.nibl.specs.Meaning.{World, Env, exec}
use Rattle.nibl.specs.Lent.{Lent, Outcome, Left, no_line, stops}
use Rattle.nibl.specs.Typing.{limit}
use Rattle.nibl.specs.Lent.{begun, lent_env}
use Rattle.nibl.specs.FirstRefusals.{in_range, table_is_true, first_refusal}
use Rattle.nibl.specs.Calls.{edited, list_from, after_immediate, needs_program, obey, take_line, continue_run}
use Rattle.nibl.specs.declared.Answer.{Answer}
use Rattle.nibl.proofs.Words.{if-split}
use Rattle.nibl.proofs.Lines.{typed-sound}
use Rattle.nibl.proofs.Whole.{typed-complete}
use Rattle.letter.proofs.Typed.{no-cr, no-cr-left}
use Rattle.page.proofs.Walk.{by_cases}
use Rattle.demands.specs.Lent.{InRange, Typing, OneOfThese}
use Rattle.demands.specs.Leaves.{others}
use Rattle.demands.specs.Good.{GoodPage, LentTrue, Fits, Unrefused, FalseTable}
use Rattle.demands.specs.Valued.{NoCR}
use Rattle.demands.specs.Stopped.{NeedsProgram, a_do, an_until, a_for, a_next, an_input, an_input_string, under_if, NeedsOne, DoesNotFit}
use Rattle.demands.proofs.Numbers.{run_numbers, run-numbers, immediate-numbers, first_numbers, first-numbers}
use Rattle.demands.proofs.Budget.{does-stops, exec-stops}
use Rattle.demands.proofs.Effects.{list-does}
use Rattle.demands.proofs.Ways.{Takes, refused, no_cr, overlong, unread, reads, every-line}
use Rattle.demands.proofs.Accepted.{in-range-of, in-range-is}
use Rattle.demands.proofs.Forced.{out-of-range-is-1, no-cr-is-7}
use Rattle.demands.proofs.Good.{fits-exact}
use Rattle.demands.proofs.Tables.{lent-true-exact}
use Rattle.demands.proofs.ByGrammar.{a-good-page, unrefused-exact, no-good-page-is-18, no-true-table-is-26, no-fitting-record-is-19}
use Rattle.demands.proofs.Fixed.{apart, first-of-line, first-of-continue, seven-says}
use Rattle.demands.proofs.Retyping.{line_read, absent_none, none-absent, retyping-replaces, no_room, new-empties, deleting-removes, absent-kept}
use Rattle.demands.proofs.Settling.{needing-a-program-is-3}

abbrev Stops : ℕ → Outcome → Type 0
Stops n o = o.answer.stop ≡ n

-- the stop of all that is left
abbrev stop_of : Left → ℕ
stop_of l = l.outcome.answer.stop

-- The first refusals
module _ (x : Lent) where
  -- what a first refusal says
  one-says : first_refusal limit x ≡ 1 → InRange x → ⊥
  unfolding first_refusal
  one-says h r = by (not (is_good limit x.page)) (not (table_is_true x)) (not (fits x.page x.session)) (rw (in-range-is r) at h) where
    by : (b c d : Bool) → ◌≡◌ {A = ℕ} (if b then 18 else if c then 26 else if d then 19 else 0) 1 → ⊥
    by true c d h = omega arith
    by false true d h = omega arith
    by false false true h = omega arith
    by false false false h = omega arith

  -- the tests of what is lent, in their order, and what a number that is no 1 says of them
  abbrev numbered : Bool → Bool → Bool → Bool → ℕ
  numbered a b c d = if not a then 1 else if not b then 18 else if not c then 26 else if not d then 19 else 0

  eighteen-says : first_refusal limit x ≡ 18 → InRange x × (is_good limit x.page ≡ false)
  unfolding first_refusal
  eighteen-says = by (in_range x) refl (is_good limit x.page) refl (table_is_true x) (fits x.page x.session) where
    by : (a : Bool) → in_range x ≡ a → (b : Bool) → is_good limit x.page ≡ b → (c d : Bool) → numbered a b c d ≡ 18 → InRange x × (is_good limit x.page ≡ false)
    by true p false q c d h = (in-range-of x p, q)
    by false p b q c d h = absurd (omega arith)
    by true p true q false d h = absurd (omega arith)
    by true p true q true true h = absurd (omega arith)
    by true p true q true false h = absurd (omega arith)

  twenty-six-says : first_refusal limit x ≡ 26 → InRange x × (is_good limit x.page ≡ true) × (table_is_true x ≡ false)
  unfolding first_refusal
  twenty-six-says = by (in_range x) refl (is_good limit x.page) refl (table_is_true x) refl (fits x.page x.session) where
    by : (a : Bool) → in_range x ≡ a → (b : Bool) → is_good limit x.page ≡ b → (c : Bool) → table_is_true x ≡ c → (d : Bool)
        → numbered a b c d ≡ 26 → InRange x × (is_good limit x.page ≡ true) × (table_is_true x ≡ false)
    by true p true q false r d h = (in-range-of x p, q, r)
    by false p b q c r d h = absurd (omega arith)
    by true p false q c r d h = absurd (omega arith)
    by true p true q true r true h = absurd (omega arith)
    by true p true q true r false h = absurd (omega arith)

  abbrev OnlyUnfit : Type 0
  OnlyUnfit = InRange x × (is_good limit x.page ≡ true) × (table_is_true x ≡ true) × (fits x.page x.session ≡ false)

  nineteen-says : first_refusal limit x ≡ 19 → OnlyUnfit
  unfolding first_refusal
  nineteen-says = by (in_range x) refl (is_good limit x.page) refl (table_is_true x) refl (fits x.page x.session) refl where
    by : (a : Bool) → in_range x ≡ a → (b : Bool) → is_good limit x.page ≡ b → (c : Bool) → table_is_true x ≡ c → (d : Bool) → fits x.page x.session ≡ d
        → numbered a b c d ≡ 19 → OnlyUnfit
    by true p true q true r false s h = (in-range-of x p, q, r, s)
    by false p b q c r d s h = absurd (omega arith)
    by true p false q c r d s h = absurd (omega arith)
    by true p true q false r d s h = absurd (omega arith)
    by true p true q true r true s h = absurd (omega arith)

  -- "a length, position or budget outside the above"
  pub one-exactly : (((take_line x).answer.stop ≡ 1) ↔ (InRange x → ⊥)) × (((continue_run x).answer.stop ≡ 1) ↔ (InRange x → ⊥))
  one-exactly = (
    (λ h. one-says (first-of-line x 1 refl h), λ h. ap stop_of (out-of-range-is-1 x h).0),
    (λ h. one-says (first-of-continue x 1 refl h), λ h. ap stop_of (out-of-range-is-1 x h).1),
  )

  -- "bad page"
  abbrev Bad : Type 0
  Bad = InRange x × (GoodPage limit x.page → ⊥)

  bad-says : first_refusal limit x ≡ 18 → Bad
  bad-says h = let s = eighteen-says h in (s.0, λ g. true≢false (sym ((a-good-page x.page).1 g) ∙ s.1))

  pub eighteen-exactly : (((take_line x).answer.stop ≡ 18) ↔ (InRange x × (GoodPage limit x.page → ⊥)))
      × (((continue_run x).answer.stop ≡ 18) ↔ (InRange x × (GoodPage limit x.page → ⊥)))
  eighteen-exactly = (
    (λ h. bad-says (first-of-line x 18 refl h), λ h. ap stop_of (no-good-page-is-18 x h.0 h.1).0),
    (λ h. bad-says (first-of-continue x 18 refl h), λ h. ap stop_of (no-good-page-is-18 x h.0 h.1).1),
  )

  -- "26, a table that does not describe the page, directly after 18"
  false-says : first_refusal limit x ≡ 26 → FalseTable limit x
  false-says h =
      let s = twenty-six-says h in
      let g = (a-good-page x.page).0 s.1 in
      let none : LentTrue x → ⊥ = λ t. true≢false (sym ((lent-true-exact x g).1 t) ∙ s.2) in
      record { range = s.0; good = g; lent = λ e. none (λ n. absurd (n e)); false = λ t. none (λ n. t) }

  pub twenty-six-exactly : (((take_line x).answer.stop ≡ 26) ↔ FalseTable limit x) × (((continue_run x).answer.stop ≡ 26) ↔ FalseTable limit x)
  twenty-six-exactly = (
    (λ h. false-says (first-of-line x 26 refl h), λ h. ap stop_of (no-true-table-is-26 x h.range h.good h.lent h.false).0),
    (λ h. false-says (first-of-continue x 26 refl h), λ h. ap stop_of (no-true-table-is-26 x h.range h.good h.lent h.false).1),
  )

  -- "session record does not fit"
  abbrev Unfit : Type 0
  Unfit = InRange x × GoodPage limit x.page × LentTrue x × (Fits x.page x.session → ⊥)

  unfit-says : first_refusal limit x ≡ 19 → Unfit
  unfit-says h =
      let s = nineteen-says h in
      let g = (a-good-page x.page).0 s.1 in
      (s.0, g, (lent-true-exact x g).0 s.2, λ f. true≢false (sym ((fits-exact limit (omega arith) x.page g x.session).1 f) ∙ s.3))

  pub nineteen-exactly : (((take_line x).answer.stop ≡ 19) ↔ (InRange x × GoodPage limit x.page × LentTrue x × (Fits x.page x.session → ⊥)))
      × (((continue_run x).answer.stop ≡ 19) ↔ (InRange x × GoodPage limit x.page × LentTrue x × (Fits x.page x.session → ⊥)))
  nineteen-exactly = (
    (λ h. unfit-says (first-of-line x 19 refl h), λ h. ap stop_of (no-fitting-record-is-19 x h.0 h.1 h.2 h.3).0),
    (λ h. unfit-says (first-of-continue x 19 refl h), λ h. ap stop_of (no-fitting-record-is-19 x h.0 h.1 h.2 h.3).1),
  )

  -- "no CR left in the input", of a typed line: its 7 is the one with no line
  pub typed-seven-exactly : (((take_line x).answer.stop ≡ 7) × ((take_line x).answer.line ≡ no_line)) ↔ (Unrefused limit x × NoCR x.input x.call.inpos)
  typed-seven-exactly = (
    λ h. let s = seven-says x h.0 h.1 in ((unrefused-exact x).0 s.0, no-cr-left limit (drop x.call.inpos x.input) s.1),
    λ h. let e = no-cr-is-7 x ((unrefused-exact x).1 h.0) (no-cr limit (drop x.call.inpos x.input) h.1) in
        (ap stop_of e, ap (λ (l : Left). l.outcome.answer.line) e),
  )

-- 3: by the statement's form
pub needs-of : (s : Stmt) → needs_program s ≡ true → NeedsProgram s
needs-of (let_var v a) h = absurd (false≢true h)
needs-of (let_stat a) h = absurd (false≢true h)
needs-of (let_byte a b) h = absurd (false≢true h)
needs-of (let_copy a b) h = absurd (false≢true h)
needs-of (let_text a bs) h = absurd (false≢true h)
needs-of (goto a) h = absurd (false≢true h)
needs-of (gosub a) h = absurd (false≢true h)
needs-of (until a) h = an_until
needs-of return h = absurd (false≢true h)
needs-of do_loop h = a_do
needs-of remark h = absurd (false≢true h)
needs-of end h = absurd (false≢true h)
needs-of (print items b) h = absurd (false≢true h)
needs-of (if_then a q) h = under_if (needs-of q h)
needs-of (for v a b c) h = a_for
needs-of (next v) h = a_next
needs-of (input vs) h = an_input
needs-of (input_text a) h = an_input_string

pub needs-one : {s : Stmt} → NeedsProgram s → needs_program s ≡ true
needs-one a_do = refl
needs-one an_until = refl
needs-one a_for = refl
needs-one a_next = refl
needs-one an_input = refl
needs-one an_input_string = refl
needs-one (under_if n) = needs-one n

edit-stops : (page : List ℕ) (w : World) (rs : List Stored) → (edited page w rs).answer.stop ≡ 3 → ⊥
unfolding edited
edit-stops page w rs = if-split (λ o. Stops 3 o → ⊥) (leb (length (program_bytes rs)) (length page)) (λ _ h. omega arith) (λ _ h. omega arith)

module _ (k : ℕ) (e : Env) (w : World) where
  obey-three : (y : Typed) → (obey k e w y).answer.stop ≡ 3 → (s : Stmt) × (y ≡ immediate s) × NeedsProgram s
  unfolding obey
  obey-three blank h = absurd (omega arith)
  obey-three new h = absurd (edit-stops e.page w [] h)
  obey-three clear h = absurd (omega arith)
  obey-three run h = absurd (false≢true (subst (OneOfThese run_numbers) h (run-numbers k e 0 _)))
  obey-three (delete n) h = absurd (by (has_line n (records_of e.page)) h) where
    by : (b : Bool) → Stops 3 (elim b [ true ↦ edited e.page w (without n (records_of e.page)) | false ↦ stops 0 w e.page ]) → ⊥
    by true h = edit-stops e.page w (without n (records_of e.page)) h
    by false h = omega arith
  obey-three (list n) h =
      absurd (false≢true (subst (OneOfThese run_numbers) h (immediate-numbers k e (list_from n (records_of e.page) w) (does-stops (list-does e [] n (records_of e.page) w)))))
  obey-three (store n t ms) h = absurd (edit-stops e.page w (with (record { line = n; text = t }) (records_of e.page)) h)
  obey-three (immediate q) h = by (needs_program q) refl h where
    by : (b : Bool) → needs_program q ≡ b → Stops 3 (elim b [ true ↦ stops 3 w e.page | false ↦ after_immediate k e (exec e q w) ])
        → (s : Stmt) × (immediate q ≡ immediate s) × NeedsProgram s
    by true n h = (q, refl, needs-of q n)
    by false n h = absurd (false≢true (subst (OneOfThese run_numbers) h (immediate-numbers k e (exec e q w) (exec-stops e q w))))

module _ (x : Lent) where
  three-of : {o : Outcome} → Takes limit x o → o.answer.stop ≡ 3 → NeedsOne x
  three-of (refused {n} h) i = absurd (apart (3 ∷ []) first_numbers refl (suc n) (rw i refl) (first-numbers limit x (suc n) h))
  three-of (no_cr z h) i = absurd (omega arith)
  three-of (overlong g z h l) i = absurd (omega arith)
  three-of (unread g h r) i = absurd (omega arith)
  three-of (reads g y h r) i =
      let t = obey-three x.call.budget (lent_env limit x) (begun x g.taken) y i in
      record { gathered = g; typing = h; statement = t.0; reading = typed-sound g.line.bytes (immediate t.0) (r ∙ ap some t.1); needs = t.2 }

  -- "DO, UNTIL, FOR, NEXT or INPUT in an immediate line"
  pub three-exactly : ((take_line x).answer.stop ≡ 3) ↔ NeedsOne x
  unfolding take_line
  three-exactly = (
    λ h. three-of (every-line limit x) h,
    λ n. ap stop_of (needing-a-program-is-3 x n.gathered n.typing n.statement n.reading (needs-one n.needs)),
  )

-- 2: of a line that is stored alone
module _ (x : Lent) (g : Gathered) (h : Typing limit x g) where
  abbrev full-line : Typed → Type 0
  full-line y = LineReading g.line.bytes y → Stops 2 (take_line x) → DoesNotFit x

  not-run : (o : Outcome) → take_line x ≡ o → OneOfThese run_numbers o.answer.stop → Stops 2 (take_line x) → ⊥
  not-run o e n i = false≢true (subst (OneOfThese run_numbers) (sym (ap (λ (o : Outcome). o.answer.stop) e) ∙ i) n)

  two-of-read : (y : Typed) → full-line y
  unfolding obey
  two-of-read blank r i = absurd (not-run _ (line_read x g blank h (typed-complete r)) refl i)
  two-of-read new r i = let a = (new-empties x g h r).0.answer in absurd (omega (arith, ap (λ (b : Answer). b.stop) a))
  two-of-read clear r i = absurd (not-run _ (line_read x g clear h (typed-complete r)) refl i)
  two-of-read run r i = absurd (not-run _ (line_read x g run h (typed-complete r)) (run-numbers x.call.budget (lent_env limit x) 0 _) i)
  two-of-read (delete n) r i =
      by_cases (has_line n (records_of x.page))
      (λ e. let a = (deleting-removes x g h n r (λ z. true≢false (sym e ∙ none-absent n (records_of x.page) z))).0.answer in absurd (omega (arith, ap (λ (b : Answer). b.stop) a)))
      (λ e. let a = absent-kept x g h n r (absent_none n (records_of x.page) e) in absurd (omega (arith, ap stop_of a)))
  two-of-read (list n) r i =
      absurd (not-run _ (line_read x g (list n) h (typed-complete r)) (immediate-numbers x.call.budget (lent_env limit x) _ (does-stops (list-does (lent_env limit x) [] n (records_of x.page) _))) i)
  two-of-read (store n t ms) r i =
      by_cases (leb (used_by (others n (records_of x.page)) + (length t + 4)) (length x.page))
      (λ e. let a = (retyping-replaces x g h n t ms r (leb-true _ _ e)).0.answer in absurd (omega (arith, ap (λ (b : Answer). b.stop) a)))
      (λ e. record { gathered = g; typing = h; line = n; text = t; members = ms; reading = r; full = leb-false _ _ e })
  two-of-read (immediate q) r i = absurd (by (needs_program q) refl) where
    by : (b : Bool) → needs_program q ≡ b → ⊥
    by true n = let e = needing-a-program-is-3 x g h q r n in omega (arith, ap stop_of e)
    by false n = not-run _ (line_read x g (immediate q) h (typed-complete r)) (rw (n, obey) (immediate-numbers x.call.budget (lent_env limit x) _ (exec-stops (lent_env limit x) q _))) i

module _ (x : Lent) where
  two-of : {o : Outcome} → o ≡ take_line x → Takes limit x o → Stops 2 o → DoesNotFit x
  two-of e (refused {n} h) i = absurd (apart (2 ∷ []) first_numbers refl (suc n) (rw i refl) (first-numbers limit x (suc n) h))
  two-of e (no_cr z h) i = absurd (omega arith)
  two-of e (overlong g z h l) i = absurd (omega arith)
  two-of e (unread g h r) i = absurd (omega arith)
  two-of e (reads g y h r) i = two-of-read x g h y (typed-sound g.line.bytes y r) (ap (λ (o : Outcome). o.answer.stop) (sym e) ∙ i)

  -- "the edited program would not fit the page"
  pub two-exactly : ((take_line x).answer.stop ≡ 2) ↔ DoesNotFit x
  unfolding take_line
  two-exactly = (
    λ h. two-of refl (every-line limit x) h,
    λ n. ap stop_of (no_room x n.gathered n.typing n.line n.text n.members n.reading n.full),
  )
