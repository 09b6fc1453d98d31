-- The ways in which a call ends, up to what a read line does. Assumes nothing.
use Prim.Native.Nat.{ℕ, zero, suc}
use mathlib.Core.Path.{◌≡◌, refl}
use mathlib.Core.Bool.{Bool, true, false}
use mathlib.Core.Option.{Option, none, some}
use Rattle.nibl.specs.Tree.{Typed}
use Rattle.nibl.specs.found.Read.{typed}
use Rattle.nibl.specs.found.Column.{column_of}
use Rattle.nibl.specs.Typing.{Gathered}
use Rattle.nibl.specs.Lent.{Lent, Outcome, stops, refused_line}
use Rattle.nibl.specs.Lent.{lent_world, begun, lent_env}
use Rattle.nibl.specs.FirstRefusals.{first_refusal}
use Rattle.nibl.specs.Calls.{obey, obey_read, obey_line, take_line_in, continue_from, continue_run_in}
use Rattle.demands.specs.Lent.{gathered_line, Typing}

pub data Takes (lim : ℕ) (x : Lent) : Outcome → Type 0 where
  refused : {n : ℕ} → first_refusal lim x ≡ suc n → Takes lim x (stops (suc n) (lent_world x) x.page)
  no_cr : first_refusal lim x ≡ 0 → gathered_line lim x ≡ none → Takes lim x (stops 7 (lent_world x) x.page)
  overlong : (g : Gathered) → first_refusal lim x ≡ 0 → gathered_line lim x ≡ some g → g.line.long ≡ true → Takes lim x (refused_line lim (begun x g.taken) x.page)
  unread : (g : Gathered) → Typing lim x g → typed g.line.bytes ≡ none → Takes lim x (refused_line (column_of g.line.bytes) (begun x g.taken) x.page)
  reads : (g : Gathered) (t : Typed) → Typing lim x g → typed g.line.bytes ≡ some t
      → Takes lim x (obey x.call.budget (lent_env lim x) (begun x g.taken) t)

module _ (lim : ℕ) (x : Lent) where
  by-reading : (g : Gathered) → Typing lim x g → (o : Option Typed) → typed g.line.bytes ≡ o
      → Takes lim x (obey_read x.call.budget (lent_env lim x) (begun x g.taken) (column_of g.line.bytes) o)
  by-reading g h none r = unread g h r
  by-reading g h (some t) r = reads g t h r

  by_length : (g : Gathered) → first_refusal lim x ≡ 0 → gathered_line lim x ≡ some g → (b : Bool) → g.line.long ≡ b
      → Takes lim x (elim b [
        | true ↦ refused_line lim (begun x g.taken) x.page
        | false ↦ obey_read x.call.budget (lent_env lim x) (begun x g.taken) (column_of g.line.bytes) (typed g.line.bytes)
      ])
  by_length g z l true h = overlong g z l h
  by_length g z l false h = by-reading g (record { sound = z; line = l; short = h }) (typed g.line.bytes) refl

  by-line : first_refusal lim x ≡ 0 → (o : Option Gathered) → gathered_line lim x ≡ o → Takes lim x (obey_line lim x o)
  by-line z none h = no_cr z h
  by-line z (some g) h = by_length g z h g.line.long refl

  pub every-line : Takes lim x (take_line_in lim x)
  unfolding take_line_in
  every-line = by (first_refusal lim x) refl where
    by : (n : ℕ) → first_refusal lim x ≡ n → Takes lim x (elim n [ zero ↦ obey_line lim x (gathered_line lim x) | suc n ↦ stops (suc n) (lent_world x) x.page ])
    by zero h = by-line h (gathered_line lim x) refl
    by (suc n) h = refused h

pub data Continues (lim : ℕ) (x : Lent) : Outcome → Type 0 where
  refused' : {n : ℕ} → first_refusal lim x ≡ suc n → Continues lim x (stops (suc n) (lent_world x) x.page)
  continues : first_refusal lim x ≡ 0 → Continues lim x (continue_from lim x x.session.paused)

pub every-continue : (lim : ℕ) (x : Lent) → Continues lim x (continue_run_in lim x)
unfolding continue_run_in
every-continue lim x = by (first_refusal lim x) refl where
  by : (n : ℕ) → first_refusal lim x ≡ n
      → Continues lim x (elim n [ zero ↦ continue_from lim x x.session.paused | suc n ↦ stops (suc n) (lent_world x) x.page ])
  by zero h = continues h
  by (suc n) h = refused' h
