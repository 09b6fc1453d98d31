-- "No grammar refusal while running", and "Exactly 5": 5 is for a typed line that has no reading, and for nothing else. Assumes nothing.
use Prim.Native.Nat.{ℕ, suc, ◌≤◌}
use mathlib.Core.Path.{◌≡◌, refl, sym, ◌∙◌}
use mathlib.Core.Bool.{false, false≢true, true≢false}
use mathlib.Core.Logic.{◌↔◌}
use mathlib.Core.Option.{none, some}
use native.Mathlib.Omega.{arith}
use lib.ListN.{drop}
use Rattle.nibl.specs.Tree.{Typed}
use Rattle.nibl.specs.Readings.{LineReading}
use Rattle.nibl.specs.found.Read.{typed}
use Rattle.nibl.specs.Typing.{Gathered, gather}
use Rattle.nibl.specs.Page.{places_of}
use Rattle.nibl.specs.Meaning.{World, Env}
use Rattle.nibl.specs.Lent.{Lent, Outcome}
use Rattle.nibl.specs.Runs.{run_from}
use Rattle.nibl.specs.Typing.{limit}
use Rattle.nibl.specs.Lent.{begun, lent_env}
use Rattle.nibl.specs.FirstRefusals.{first_refusal}
use Rattle.nibl.specs.Calls.{obey, take_line, take_line_in, continue_run, continue_run_in, leaves}
use Rattle.nibl.proofs.Exact.{typed-exact}
use Rattle.page.specs.Standing.{Stands}
use Rattle.record.specs.Sound.{Sized, Sound}
use Rattle.record.proofs.Fitted.{sound-fit}
use Rattle.demands.specs.Leaves.{TakesLine}
use Rattle.demands.specs.Lent.{Typing}
use Rattle.demands.proofs.Ways.{Takes, refused, no_cr, overlong, unread, reads, every-line, Continues, refused', continues, every-continue}
use Rattle.demands.proofs.Numbers.{first-numbers}
use Rattle.demands.proofs.Running.{run-goes}
use Rattle.demands.proofs.Obeys.{read-ways, continue-ways}
use Rattle.demands.proofs.Sound.{unrefused, Settled, settled, goings-number}
use Rattle.demands.proofs.Fixed.{five-takes-the-line}

-- Of a run, from wherever one may stand: the program's start, the record of a line, after a saved or a paused place
pub no-grammar-refusal-while-running : (lim : ℕ) (e : Env) → lim ≤ 251 → (k q : ℕ) (w : World) → Sound lim e.page w.session → Stands (places_of e.page) q
    → (run_from k e q w).stop ≡ 5 → ⊥
no-grammar-refusal-while-running lim e short k q w h s f = false≢true (rw f at (goings-number (run-goes lim e short h.good k q w s (sound-fit h))))

settled-other : {lim : ℕ} {o : Outcome} → Settled lim o → o.answer.stop ≡ 5 → ⊥
settled-other s h = false≢true (rw h at s.number)

module _ (lim : ℕ) (short : lim ≤ 251) (x : Lent) (sized : Sized x.session) where
  -- of what a line does that has a reading, RUN, GOTO, GOSUB and RETURN among them
  read-other : (g : Gathered) (t : Typed) → Typing lim x g → typed g.line.bytes ≡ some t → (obey x.call.budget (lent_env lim x) (begun x g.taken) t).answer.stop ≡ 5 → ⊥
  read-other g t y e h =
      let s = unrefused lim x sized y.sound in
      settled-other (settled lim (lent_env lim x) short s.good (read-ways lim x short s.good (sound-fit s) g t y e) x.call.budget) h

  -- and of continue, whatever is lent
  continue-other : {o : Outcome} → Continues lim x o → o.answer.stop ≡ 5 → ⊥
  continue-other (refused' {n = n} e) h = false≢true (rw h at (first-numbers lim x (suc n) e))
  continue-other (continues e) h =
      let s = unrefused lim x sized e in
      settled-other (settled lim (lent_env lim x) short s.good (continue-ways lim x short s.good (sound-fit s) e) x.call.budget) h

  pub continued-within : (continue_run_in lim x).answer.stop ≡ 5 → ⊥
  continued-within = continue-other (every-continue lim x)

  -- Past the first refusals a whole line is answered 5 exactly when it has no reading
  module _ (g : Gathered) (sound : first_refusal lim x ≡ 0) (there : gather lim (drop x.call.inpos x.input) ≡ some g) (whole : g.line.long ≡ false) where
    abbrev Unread : Type 0
    Unread = (y : Typed) → LineReading g.line.bytes y → ⊥

    five-unread : {o : Outcome} → Takes lim x o → o.answer.stop ≡ 5 → Unread
    five-unread (refused e) h = absurd (omega arith)
    five-unread (no_cr z e) h = let c : ◌≡◌ {A = ℕ} 0 1 = cc in absurd (omega arith)
    five-unread (overlong f z e l) h = let c : f ≡ g = cc in absurd (true≢false (sym l ∙ rw c whole))
    five-unread (unread f y e) h = λ t r.
        let l = y.line in
        let c : f ≡ g = cc in
        let i = (typed-exact g.line.bytes t).1 r in
        let j : typed g.line.bytes ≡ none = rw c at e in
        let z : ◌≡◌ {A = ℕ} 0 1 = cc in
        omega arith
    five-unread (reads f t y e) h = absurd (read-other f t y e h)

    unread-five : {o : Outcome} → Takes lim x o → Unread → o.answer.stop ≡ 5
    unread-five (refused e) h = absurd (omega arith)
    unread-five (no_cr z e) h = let c : ◌≡◌ {A = ℕ} 0 1 = cc in absurd (omega arith)
    unread-five (overlong f z e l) h = refl
    unread-five (unread f y e) h = refl
    unread-five (reads f t y e) h =
        let l = y.line in
        let c : f ≡ g = cc in
        absurd (h t ((typed-exact g.line.bytes t).0 (rw c at e)))

    pub five-within : ((take_line_in lim x).answer.stop ≡ 5) ↔ Unread
    five-within = (five-unread (every-line lim x), unread-five (every-line lim x))

-- Of the calls
pub continuing-never-answers-5 : (x : Lent) → Sized x.session → (continue_run x).answer.stop ≡ 5 → ⊥
unfolding continue_run
continuing-never-answers-5 x z = continued-within limit (omega arith) x z

pub exactly-5 : (x : Lent) (g : Gathered) → Sized x.session → first_refusal limit x ≡ 0 → gather limit (drop x.call.inpos x.input) ≡ some g → g.line.long ≡ false
    → ((take_line x).answer.stop ≡ 5) ↔ ((y : Typed) → LineReading g.line.bytes y → ⊥)
unfolding take_line
exactly-5 x g z f h l = five-within limit (omega arith) x z g f h l

-- "5 takes the line, ends the pause and changes nothing else"
pub five-takes-only-the-line : (x : Lent) → Sized x.session → (take_line x).answer.stop ≡ 5 → TakesLine x 5 (leaves take_line x)
five-takes-only-the-line x z =
    five-takes-the-line x (λ g t y r. read-other limit (omega arith) x z g t y ((typed-exact g.line.bytes t).1 r))
