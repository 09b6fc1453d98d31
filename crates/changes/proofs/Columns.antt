-- Item 2, "point at the spot", of the calls: the column in an answer. Assumes nothing.
use Prim.Native.Nat.{ℕ, zero, suc}
use mathlib.Core.Path.{◌≡◌, refl, sym, ap, subst, ◌∙◌}
use mathlib.Core.Bool.{Bool, true, false}
use mathlib.Core.List.{List, []}
use mathlib.Core.Logic.{inl, inr}
use mathlib.Core.Option.{some}
use lib.ListN.{length}
use lib.Dec.{leb}
use Rattle.nibl.specs.Tree.{Typed, blank, new, clear, run, delete, list, store, immediate}
use Rattle.nibl.specs.Readings.{LineReading}
use Rattle.nibl.specs.Typing.{Gathered}
use Rattle.nibl.specs.Fronts.{IsColumn}
use Rattle.nibl.specs.found.Column.{column_of}
use Rattle.nibl.specs.Page.{Stored, records_of, program_bytes, has_line, without, with}
use Rattle.nibl.specs.Meaning.{World, Env, on, skip, go, stop, Done, done, exec}
use Rattle.nibl.specs.Lent.{Lent, Outcome, Left, stops}
use Rattle.nibl.specs.Typing.{limit}
use Rattle.nibl.specs.Lent.{begun, lent_env}
use Rattle.nibl.specs.FirstRefusals.{first_refusal}
use Rattle.nibl.specs.Calls.{edited, list_from, after_immediate, needs_program, obey, take_line, continue_from, continue_run}
use Rattle.nibl.proofs.Words.{if-split}
use Rattle.nibl.proofs.Spot.{column-exact}
use Rattle.record.specs.Sound.{Sized}
use Rattle.demands.specs.Lent.{gathered_line}
use Rattle.demands.specs.Leaves.{spot_of}
use Rattle.demands.proofs.Ways.{Takes, refused, no_cr, overlong, unread, reads, every-line, Continues, refused', continues, every-continue}
use Rattle.demands.proofs.Fixed.{unread-takes-the-line}
use Rattle.demands.proofs.Five.{five-takes-only-the-line}
use Rattle.changes.specs.Pointed.{Pointed}

abbrev NoColumn : Outcome → Type 0
NoColumn o = o.answer.column ≡ 0

-- a line that was read has none, whatever comes of it
edit-none : (page : List ℕ) (w : World) (rs : List Stored) → NoColumn (edited page w rs)
unfolding edited
edit-none page w rs = if-split NoColumn (leb (length (program_bytes rs)) (length page)) (λ _. refl) (λ _. refl)

immediate-none : (k : ℕ) (e : Env) (d : Done) → NoColumn (after_immediate k e d)
immediate-none k e (done on w) = refl
immediate-none k e (done skip w) = refl
immediate-none k e (done (go q) w) = refl
immediate-none k e (done (stop n) w) = refl

module _ (k : ℕ) (e : Env) (w : World) where
  obey-none : (y : Typed) → NoColumn (obey k e w y)
  unfolding obey
  obey-none blank = refl
  obey-none new = edit-none e.page w []
  obey-none clear = refl
  obey-none run = refl
  obey-none (delete n) = by (has_line n (records_of e.page)) where
    by : (b : Bool) → NoColumn (elim b [ true ↦ edited e.page w (without n (records_of e.page)) | false ↦ stops 0 w e.page ])
    by true = edit-none e.page w (without n (records_of e.page))
    by false = refl
  obey-none (list n) = immediate-none k e (list_from n (records_of e.page) w)
  obey-none (store n t ms) = edit-none e.page w (with (record { line = n; text = t }) (records_of e.page))
  obey-none (immediate q) = by (needs_program q) where
    by : (b : Bool) → NoColumn (elim b [ true ↦ stops 3 w e.page | false ↦ after_immediate k e (exec e q w) ])
    by true = refl
    by false = immediate-none k e (exec e q w)

module _ (x : Lent) where
  take_none : {o : Outcome} → Takes limit x o → (o.answer.stop ≡ 5 → ⊥) → NoColumn o
  take_none (refused h) f = refl
  take_none (no_cr z h) f = refl
  take_none (overlong g z h l) f = absurd (f refl)
  take_none (unread g h r) f = absurd (f refl)
  take_none (reads g y h r) f = obey-none x.call.budget (lent_env limit x) (begun x g.taken) y

  continue-none : {o : Outcome} → Continues limit x o → NoColumn o
  continue-none (refused' h) = refl
  continue-none (continues h) = by x.session.paused where
    by : (p : ℕ) → NoColumn (continue_from limit x p)
    by zero = refl
    by (suc q) = refl

  -- "0 for every other stop": of a typed line, and of all that continue answers
  pub column-0 : (((take_line x).answer.stop ≡ 5 → ⊥) → (take_line x).answer.column ≡ 0) × ((continue_run x).answer.column ≡ 0)
  unfolding take_line continue_run
  column-0 = (take_none (every-line limit x), continue-none (every-continue limit x))

  abbrev column_in : Left → ℕ
  column_in o = o.outcome.answer.column

  -- past the first refusals, of the line that was gathered
  module _ (z : first_refusal limit x ≡ 0) (g : Gathered) (h : gathered_line limit x ≡ some g) where
    -- "give the column with it"
    pub column-of-5 : g.line.long ≡ false → ((y : Typed) → LineReading g.line.bytes y → ⊥) → (take_line x).answer.column ≡ column_of g.line.bytes
    column-of-5 l f = ap column_in (unread-takes-the-line x z g h (inr f)) ∙ rw l refl

    -- "72 for an over-long line"
    pub column-over-long : g.line.long ≡ true → (take_line x).answer.column ≡ limit
    column-over-long l = ap column_in (unread-takes-the-line x z g h (inl l)) ∙ rw l refl

  -- by the stop alone: the column of the line that was taken
  pub column-at-5 : Sized x.session → (take_line x).answer.stop ≡ 5 → (g : Gathered) → gathered_line limit x ≡ some g → (take_line x).answer.column ≡ spot_of g
  column-at-5 s e g h =
      let t = five-takes-only-the-line x s e in
      let same : t.gathered ≡ g = cc (t.line, h) in
      ap column_in t.leaves ∙ ap spot_of same

  -- "the length of the longest front part of the line that could still be the front of some line with a reading, the 72 limit put aside"
  pub spot-exact : Sized x.session → (take_line x).answer.stop ≡ 5 → (g : Gathered) → gathered_line limit x ≡ some g → g.line.long ≡ false
      → IsColumn g.line.bytes (take_line x).answer.column
  spot-exact s e g h l = subst (IsColumn g.line.bytes) (sym (column-at-5 s e g h ∙ rw l refl)) (column-exact g.line.bytes)

  -- every 5 points: a line was gathered, and the column is its
  pub five-points : Sized x.session → (take_line x).answer.stop ≡ 5 → Pointed x (take_line x).answer.column
  five-points s e =
      let t = five-takes-only-the-line x s e in
      record {
        gathered = t.gathered;
        line = t.line;
        over_long = λ l. column-at-5 s e t.gathered t.line ∙ rw l refl;
        exact = spot-exact s e t.gathered t.line;
      }
