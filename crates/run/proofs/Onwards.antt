-- StepEnd a step a run stands where it may, and its record fits. Assumes nothing.
use Prim.Native.Nat.{ℕ, ◌≤◌}
use mathlib.Core.Bool.{true}
use mathlib.Core.List.{List}
use mathlib.Core.Path.{◌≡◌, subst}
use native.Mathlib.Omega.{arith}
use Rattle.nibl.specs.Page.{is_among, is_good, places_of}
use Rattle.nibl.specs.Meaning.{World, Env, Next, on, skip, go, stop, Done, done, exec}
use Rattle.nibl.specs.Runs.{Standing, env_at}
use Rattle.page.specs.Standing.{Stands, Readable}
use Rattle.page.proofs.Standing.{place-stands, find-stands}
use Rattle.record.specs.Fit.{Fit, Goes, to_next, to_record, to_place, to_end}
use Rattle.record.proofs.Statements.{member-goes}
use Rattle.run.specs.StepEnds.{StepEnd, done_end, step_of}

pub record StaysFit (ps : List ℕ) (t : StepEnd) : Type 0 where
  pub fits : Fit ps t.world.session
  pub stands : (q : ℕ) → t.next ≡ go q → Stands ps q

abbrev gone_to : Next → ℕ
gone_to on = 0
gone_to skip = 0
gone_to (go q) = q
gone_to (stop n) = 0

stays_fit : (ps : List ℕ) (d : Done) (p cr : ℕ) → is_among ps p ≡ true → is_among ps cr ≡ true → Goes ps d → StaysFit ps (done_end d p cr)
stays_fit ps (done on w) p cr i c (to_next f) = record { fits = f; stands = λ q e. subst (Stands ps) (λ j. gone_to (e j)) (place-stands ps p i) }
stays_fit ps (done skip w) p cr i c (to_record f) = record { fits = f; stands = λ q e. subst (Stands ps) (λ j. gone_to (e j)) (place-stands ps cr c) }
stays_fit ps (done (go x) w) p cr i c (to_place s f) = record { fits = f; stands = λ q e. subst (Stands ps) (λ j. gone_to (e j)) s }
stays_fit ps (done (stop n) w) p cr i c (to_end f) = record { fits = f; stands = λ q e. let z : ◌≡◌ {A = ℕ} 0 1 = cc in absurd (omega arith) }

module _ (lim : ℕ) (e : Env) (short : lim ≤ 251) (good : is_good lim e.page ≡ true) where
  pub goes_after : (x : Standing) (w : World) → Readable e.page x → Fit (places_of e.page) w.session → StaysFit (places_of e.page) (step_of e x w)
  unfolding step_of
  goes_after x w r h =
      stays_fit (places_of e.page) (exec (env_at e x.place) x.statement w) x.place x.cr r.end r.cr
      (rw r.statement (member-goes e (places_of e.page) (find-stands lim e.page short good) x.place r.text r.rest r.first w r.end r.reads h))
