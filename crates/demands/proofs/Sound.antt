-- "Sound stays sound": a good page with a fitting record leads to a good page with a fitting record, every call, every stop. Assumes nothing.
use Prim.Native.Nat.{ℕ, ◌≤◌}
use mathlib.Core.Path.{◌≡◌, refl}
use mathlib.Core.Bool.{true, false≢true}
use mathlib.Core.List.{List, ◌∷◌}
use native.Mathlib.Omega.{arith}
use lib.Dec.{eqb}
use borrow.Author.Tests.{eqb-true}
use Rattle.nibl.specs.Page.{is_among, is_good, places_of, onto}
use Rattle.nibl.specs.Meaning.{World, Env}
use Rattle.nibl.specs.Lent.{Lent, Outcome, stops}
use Rattle.nibl.specs.Runs.{Ran, run_from, run_outcome}
use Rattle.nibl.specs.Typing.{limit}
use Rattle.nibl.specs.Lent.{begun, lent_env}
use Rattle.nibl.specs.FirstRefusals.{first_refusal}
use Rattle.nibl.specs.Calls.{take_line, take_line_in, continue_run, continue_run_in}
use Rattle.nibl.specs.Record.{paused_at}
use Rattle.nibl.proofs.Words.{if-split}
use Rattle.page.proofs.Changes.{onto-good}
use Rattle.page.specs.Standing.{Stands}
use Rattle.record.specs.Fit.{Fit}
use Rattle.record.specs.Sound.{Sized, Sound}
use Rattle.record.proofs.Fitted.{fit-paused, fit-cleared, sound-fit, fit-sound}
use Rattle.demands.proofs.Effects.{widen}
use Rattle.demands.proofs.Budget.{stop_numbers}
use Rattle.demands.proofs.Ways.{Takes, refused, no_cr, overlong, unread, reads, every-line, Continues, refused', continues, every-continue}
use Rattle.demands.proofs.Accepted.{accepted-of}
use Rattle.demands.proofs.Running.{Goings, runs_out, pauses, steps, run-goes}
use Rattle.demands.proofs.Running.{stops as halts}
use Rattle.demands.proofs.Obeys.{line_numbers, Obeyed, stands, edits, runs, begun-fit, read-ways, continue-ways}

-- What a run leaves
pub goings-fit : {page : List ℕ} {k : ℕ} {r : Ran} → Goings page k r → Fit (places_of page) r.world.session
goings-fit (runs_out h f) = f
goings-fit (pauses h s f) = f
goings-fit (halts h n f) = f
goings-fit (steps p h g) = goings-fit g

pub goings-stands : {page : List ℕ} {k : ℕ} {r : Ran} → Goings page k r → r.stop ≡ 14 → Stands (places_of page) r.at
goings-stands (runs_out h f) e = absurd (omega arith)
goings-stands (pauses h s f) e = s
goings-stands (halts h m f) e = absurd (false≢true (rw e at m))
goings-stands (steps p h g) e = goings-stands g e

-- all the numbers of a run, and of a read line: 5 is none of them
abbrev pub going_numbers : List ℕ
going_numbers = 14 ∷ stop_numbers

abbrev pub obey_numbers : List ℕ
obey_numbers = 14 ∷ line_numbers

pub goings-number : {page : List ℕ} {k : ℕ} {r : Ran} → Goings page k r → is_among going_numbers r.stop ≡ true
goings-number (runs_out h f) = refl
goings-number (pauses h s f) = refl
goings-number (halts {n = n} h m f) = widen stop_numbers going_numbers refl n m
goings-number (steps p h g) = goings-number g

-- a good page, a record that fits it, and no refusal by the grammar
pub record Settled (lim : ℕ) (o : Outcome) : Type 0 where
  pub sound : Sound lim o.page o.session
  pub number : is_among obey_numbers o.answer.stop ≡ true

module _ (lim : ℕ) (e : Env) (short : lim ≤ 251) (good : is_good lim e.page ≡ true) where
  pub run_settled : (k q : ℕ) (w : World) → Stands (places_of e.page) q → Fit (places_of e.page) w.session → Settled lim (run_outcome (run_from k e q w) e.page)
  run_settled k q w s f =
      let r : Ran = run_from k e q w in
      let g = run-goes lim e short good k q w s f in
      let left = if-split (λ (u : World). Fit (places_of e.page) u.session) (eqb r.stop 14)
      (λ h. fit-paused (goings-fit g) (paused_at r.at) (goings-stands g (eqb-true r.stop 14 h))) (λ h. goings-fit g) in
      record { sound = fit-sound lim good left; number = widen going_numbers obey_numbers refl r.stop (goings-number g) }

  pub settled : {v : World} {From : ℕ → World → Type 0} {o : ℕ → Outcome} → Obeyed lim e v From o → (k : ℕ) → Settled lim (o k)
  settled (stands {n = n} h f) k = record { sound = fit-sound lim good f; number = widen line_numbers obey_numbers refl n h }
  settled (edits {rs = rs} p n f) k =
      record { sound = fit-sound lim (onto-good e.page p) (fit-cleared f (places_of (onto e.page rs)) n); number = refl }
  settled (runs q w s f i j b) k = run_settled k q w s f

-- past the first refusals page and record are sound
pub unrefused : (lim : ℕ) (x : Lent) → Sized x.session → first_refusal lim x ≡ 0 → Sound lim x.page x.session
unrefused lim x z h = let a = accepted-of lim x h in record { good = a.good; fitting = a.fit; sized = z }

module _ (lim : ℕ) (short : lim ≤ 251) (x : Lent) (h : Sound lim x.page x.session) where
  abbrev Stays : Outcome → Type 0
  Stays o = Sound lim o.page o.session

  begun-sound : (n k : ℕ) → Stays (stops n (begun x k) x.page)
  begun-sound n k = fit-sound lim h.good (begun-fit lim x short h.good (sound-fit h) k)

  take-sound : {o : Outcome} → Takes lim x o → Stays o
  take-sound (refused e) = h
  take-sound (no_cr z e) = h
  take-sound (overlong g z e l) = begun-sound 5 g.taken
  take-sound (unread g y e) = begun-sound 5 g.taken
  take-sound (reads g t y e) = (settled lim (lent_env lim x) short h.good (read-ways lim x short h.good (sound-fit h) g t y e) x.call.budget).sound

  continue-sound : {o : Outcome} → Continues lim x o → Stays o
  continue-sound (refused' e) = h
  continue-sound (continues e) = (settled lim (lent_env lim x) short h.good (continue-ways lim x short h.good (sound-fit h) e) x.call.budget).sound

  pub sound-within : Stays (take_line_in lim x) × Stays (continue_run_in lim x)
  sound-within = (take-sound (every-line lim x), continue-sound (every-continue lim x))

pub sound-stays-sound : (x : Lent) → Sound limit x.page x.session
    → Sound limit (take_line x).page (take_line x).session × Sound limit (continue_run x).page (continue_run x).session
unfolding take_line continue_run
sound-stays-sound x h = sound-within limit (omega arith) x h
