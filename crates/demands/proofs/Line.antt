-- "When an answer has a line number, it is that of the record the last step's place lies in"; "there is none for 0, for 14, and for stops from a typed line
-- or its immediate statement". Assumes nothing.
use Prim.Native.Nat.{ℕ, suc, ◌≤◌}
use mathlib.Core.Path.{◌≡◌, refl, sym, ◌∙◌}
use mathlib.Core.Bool.{true, false, ◌||◌, false≢true}
use mathlib.Core.List.{List, [], ◌∷◌}
use mathlib.Core.Logic.{inl, inr}
use native.Mathlib.Omega.{arith}
use lib.ListN.{length}
use lib.Dec.{eqb}
use borrow.Author.Tests.{eqb-true, eqb-false}
use Rattle.nibl.specs.Page.{is_among, is_good, places_of, line_of}
use Rattle.nibl.specs.Meaning.{World, Env}
use Rattle.nibl.specs.Lent.{Lent, Outcome, no_line, stops}
use Rattle.nibl.specs.Runs.{Ran, run_from, stop_at}
use Rattle.nibl.specs.Typing.{limit}
use Rattle.nibl.specs.Lent.{lent_world, lent_env}
use Rattle.nibl.specs.FirstRefusals.{first_refusal}
use Rattle.nibl.specs.Calls.{take_line, continue_run}
use Rattle.page.proofs.Walk.{by_cases, or-false}
use Rattle.nibl.proofs.Words.{or_cases}
use Rattle.page.specs.Standing.{Stands, LiesIn}
use Rattle.page.proofs.Standing.{place-lies}
use Rattle.record.specs.Sound.{Sound}
use Rattle.record.proofs.Fitted.{sound-fit, fit-sound}
use Rattle.demands.specs.Lent.{OneOfThese}
use Rattle.demands.specs.Sound.{Shows, without, its_line, Answered, by_line, by_run}
use Rattle.demands.specs.Starts.{StartsTyped, StartsPaused}
use Rattle.demands.proofs.Ways.{Takes, refused, no_cr, overlong, unread, reads, every-line, Continues, refused', continues, every-continue}
use Rattle.demands.proofs.Runs.{fetched-line}
use Rattle.demands.proofs.Numbers.{first-numbers}
use Rattle.demands.proofs.Fixed.{unsaid, lines-low}
use Rattle.demands.proofs.LastStep.{LastStep}
use Rattle.demands.proofs.Five.{no-grammar-refusal-while-running}
use Rattle.demands.proofs.Running.{Goings, runs_out, pauses, steps, run-goes}
use Rattle.demands.proofs.Running.{stops as halts}
use Rattle.demands.proofs.Obeys.{Obeyed, stands, edits, runs, read-ways, continue-ways}

-- the last of the lines that were stepped through, if there is one
data LastIs (l : ℕ) : List ℕ → Type 0 where
  here : LastIs l (l ∷ [])
  later : {m : ℕ} {ls : List ℕ} → LastIs l ls → LastIs l (m ∷ ls)

pub silent : (n : ℕ) (ls : List ℕ) → (eqb n 0 || eqb n 14) ≡ true → stop_at n ls ≡ no_line
silent n [] h = refl
silent n (l ∷ []) h = rw h
silent n (l ∷ m ∷ ls) h = silent n (m ∷ ls) h

one_more : {l : ℕ} {ls : List ℕ} (n m : ℕ) → LastIs l ls → stop_at n (m ∷ ls) ≡ stop_at n ls
one_more n m here = refl
one_more n m (later t) = refl

spoken : {l : ℕ} {ls : List ℕ} (n : ℕ) → (eqb n 0 || eqb n 14) ≡ false → LastIs l ls → stop_at n ls ≡ l
spoken n h here = rw h
spoken n h (later {m = m} t) = one_more n m t ∙ spoken n h t

-- a run that stopped otherwise was stopped by its last step, at whose place it stands
record Stopped (page : List ℕ) (r : Ran) : Type 0 where
  place : is_among (places_of page) r.at ≡ true
  last : LastIs (line_of page r.at) r.lines

goings-stopped : {page : List ℕ} {k : ℕ} {r : Ran} → Goings page k r → (eqb r.stop 0 || eqb r.stop 14) ≡ false → Stopped page r
goings-stopped (runs_out h f) e = absurd (false≢true (sym e))
goings-stopped (pauses h s f) e = absurd (false≢true (sym e))
goings-stopped (halts h m f) e = record { place = h; last = here }
goings-stopped (steps p h g) e = let s = goings-stopped g e in record { place = s.place; last = later s.last }

some-step : {page : List ℕ} {k : ℕ} {r : Ran} → Goings page k r → (r.stop ≡ 0 → ⊥) → (r.stop ≡ 14 → ⊥) → 1 ≤ length r.lines
some-step (runs_out h f) m n = absurd (m refl)
some-step (pauses h s f) m n = absurd (n refl)
some-step (halts h k f) m n = omega arith
some-step (steps p h g) m n = omega arith

module _ (lim : ℕ) (e : Env) (short : lim ≤ 251) (good : is_good lim e.page ≡ true) where
  goings-show : {k : ℕ} (r : Ran) → Goings e.page k r → Shows e.page r (stop_at r.stop r.lines)
  goings-show r g =
      by_cases (eqb r.stop 0 || eqb r.stop 14)
      (λ h. rw (silent r.stop r.lines h)
      (without (or_cases (eqb r.stop 0) (eqb r.stop 14) h (λ i. inl (eqb-true r.stop 0 i)) (λ i. inr (eqb-true r.stop 14 i)))))
      (λ h.
      let n = or-false (eqb r.stop 0) (eqb r.stop 14) h in
      let m = eqb-false r.stop 0 n.0 in
      let o = eqb-false r.stop 14 n.1 in
      let s = goings-stopped g h in
      rw (spoken r.stop h s.last)
      (its_line m o (some-step g m o) s.place (place-lies lim e.page short good r.at s.place) (lines-low lim e.page short good r.at)))

-- "when an answer has a line number, it is that of the record the last step's place lies in"
pub run-shows : (lim : ℕ) (e : Env) → lim ≤ 251 → (k q : ℕ) (w : World) → Sound lim e.page w.session → Stands (places_of e.page) q
    → Shows e.page (run_from k e q w) (stop_at (run_from k e q w).stop (run_from k e q w).lines)
run-shows lim e short k q w h s = goings-show lim e short h.good (run_from k e q w) (run-goes lim e short h.good k q w s (sound-fit h))

-- and the last step is the one that gave the stop
pub record LineOf {e : Env} {k q : ℕ} {w : World} {r : Ran} (t : LastStep e k q w r) : Type 0 where
  pub line : stop_at r.stop r.lines ≡ t.last.line
  pub lies : LiesIn e.page t.last.place t.last.line

module _ (lim : ℕ) (e : Env) (short : lim ≤ 251) (k q : ℕ) (w : World) (h : Sound lim e.page w.session) (s : Stands (places_of e.page) q)
    (m : (run_from k e q w).stop ≡ 0 → ⊥) (n : (run_from k e q w).stop ≡ 14 → ⊥) where
  abbrev r : Ran
  r = run_from k e q w

  stopped : OneOfThese unsaid r.stop → ⊥
  stopped i =
      or_cases (eqb r.stop 0) _ i (λ j. m (eqb-true _ 0 j)) (λ i. or_cases (eqb r.stop 5) _ i
      (λ j. no-grammar-refusal-while-running lim e short k q w h s (eqb-true _ 5 j)) (λ i. or_cases (eqb r.stop 14) false i (λ j. n (eqb-true _ 14 j)) (λ j. false≢true j)))

  pub a-last-steps-line : (t : LastStep e k q w r) → LineOf t
  a-last-steps-line t = by (run-shows lim e short k q w h s) refl where
    by : {l : ℕ} → Shows e.page r l → stop_at r.stop r.lines ≡ l → LineOf t
    by (without (inl i)) f = absurd (m i)
    by (without (inr i)) f = absurd (n i)
    by (its_line i j l p d c) f =
        let at = t.place stopped in
        let it = fetched-line e.page (run_from t.before e q w).at t.last t.fetches in
        record { line = rw (it, ← at) f; lies = rw (it, ← at) d }

-- Of the calls
module _ (lim : ℕ) (short : lim ≤ 251) (x : Lent) (sound : Sound lim x.page x.session) where
  obeyed-answer : {v : World} {From : ℕ → World → Type 0} {o : ℕ → Outcome} → Obeyed lim (lent_env lim x) v From o → Answered lim x From (o x.call.budget)
  obeyed-answer (stands h f) = by_line refl refl (λ e. false≢true (rw e at h))
  obeyed-answer (edits p n f) = by_line refl refl (λ e. omega arith)
  obeyed-answer (runs q w s f i j b) =
      let h = fit-sound lim sound.good f in
      by_run q w b s h refl (run-shows lim (lent_env lim x) short x.call.budget q w h s)

  first-answer : {From : ℕ → World → Type 0} (n : ℕ) → first_refusal lim x ≡ suc n → Answered lim x From (stops (suc n) (lent_world x) x.page)
  first-answer n e = by_line refl refl (λ h. false≢true (rw h at (first-numbers lim x (suc n) e)))

  take-answer : {o : Outcome} → Takes lim x o → Answered lim x (StartsTyped lim x) o
  take-answer (refused {n = n} e) = first-answer n e
  take-answer (no_cr z e) = by_line refl refl (λ h. omega arith)
  take-answer (overlong g z e l) = by_line refl refl (λ h. omega arith)
  take-answer (unread g y e) = by_line refl refl (λ h. omega arith)
  take-answer (reads g t y e) = obeyed-answer (read-ways lim x short sound.good (sound-fit sound) g t y e)

  continue-answer : {o : Outcome} → Continues lim x o → Answered lim x (StartsPaused lim x) o
  continue-answer (refused' {n = n} e) = first-answer n e
  continue-answer (continues e) = obeyed-answer (continue-ways lim x short sound.good (sound-fit sound) e)

pub the-answers-line : (x : Lent) → Sound limit x.page x.session → Answered limit x (StartsTyped limit x) (take_line x) × Answered limit x (StartsPaused limit x) (continue_run x)
unfolding take_line continue_run
the-answers-line x h = (take-answer limit (omega arith) x h (every-line limit x), continue-answer limit (omega arith) x h (every-continue limit x))
