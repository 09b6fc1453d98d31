-- What the turns are in the definition's world: its statement is the turn of the one stack, put in the place of that
-- before; a refused one leaves the world as it was. Assumes nothing.
use Prim.Native.Nat.{ℕ, suc, ◌<◌, ◌≤◌}
use Rattle.std.specs.Prelude.{Option as Opt, Some, None}
use Rattle.nibl.specs.declared.ForEntry.{ForEntry}
use Rattle.nibl.specs.declared.Place.{Place}
use mathlib.Core.Path.{◌≡◌, refl, sym, ap}
use mathlib.Core.List.{List}
use mathlib.Core.Option.{Option, none, some}
use native.Mathlib.Omega.{arith}
use lib.ListN.{length}
use lib.Dec.{ltb, eqb}
use borrow.Author.Tests.{ltb-true}
use Rattle.nibl.specs.Page.{find}
use Rattle.nibl.specs.Stack.{pop_of, pop_for}
use Rattle.nibl.specs.Meaning.{World, Env, Next, done, on, go, stop, given, line_there, gosub_to, return_by, do_here, until_by, for_here, next_by}
use Rattle.nibl.specs.Record.{place}
use Rattle.nibl.specs.declared.ForStack.{ForStack}
use Rattle.nibl.specs.declared.PlaceStack.{PlaceStack}
use Rattle.page.specs.Walk.{reached}
use Rattle.page.proofs.Walk.{by_cases}
use Rattle.page.proofs.Kept.{reached-all}
use Rattle.world.specs.Turns.{way_to, keep_turn, gosub_turn, return_on, return_turn, do_turn, until_on, until_turn, for_turn, adds_step, stepped_on, next_on, next_turn, TurnedFor, turned_for_to, turned_to, Backed, backed_to, back_by, back_on, next_back, until_back_on, until_back, gosubs_in, dos_in, fors_in}

pub goto-in : (w : World) (o : Option ℕ) → given (line_there o) w (λ q. done (go q) w) ≡ done (way_to o) w
goto-in w none = refl
goto-in w (some q) = refl

-- on a page as long as a call's
pub goto-called : (w : World) (page : List ℕ) (n : ℕ) → length page ≤ 65535 → given (line_there (find page n)) w (λ q. done (go q) w) ≡ done (way_to (reached (find page n))) w
goto-called w page n h = rw (reached-all page n h) (goto-in w (find page n))

-- where GOTO goes is a position that a place can name
pub goto-near : (o : Option ℕ) (q : ℕ) → way_to (reached o) ≡ go q → q < 65536
goto-near none q e = let z : ◌≡◌ {A = ℕ} 0 1 = cc in absurd (omega arith)
goto-near (some p) q e =
    by_cases (ltb p 65536) (λ h. let f : go p ≡ go q = rw h at e in let s : p ≡ q = cc in omega (arith, ltb-true p 65536 h))
    (λ h. let f : stop 8 ≡ go q = rw h at e in let z : ◌≡◌ {A = ℕ} 0 1 = cc in absurd (omega arith))

module _ (e : Env) (w : World) where
  pub gosub-in : (o : Option ℕ) → given (line_there o) w (gosub_to e w) ≡ gosubs_in w (gosub_turn (place e.here) w.session.gosubs o)
  unfolding gosub_to gosub_turn keep_turn
  gosub-in none = refl
  gosub-in (some q) = by_cases (ltb w.session.gosubs.depth 8) (λ h. rw h) (λ h. rw h)

  pub gosub-called : (page : List ℕ) (n : ℕ) → length page ≤ 65535
      → given (line_there (find page n)) w (gosub_to e w) ≡ gosubs_in w (gosub_turn (place e.here) w.session.gosubs (reached (find page n)))
  gosub-called page n h = rw (reached-all page n h) (gosub-in (find page n))

  pub do-in : do_here e w ≡ dos_in w (do_turn (place e.here) w.session.dos)
  unfolding do_here do_turn keep_turn
  do-in = by_cases (ltb w.session.dos.depth 8) (λ h. rw h) (λ h. rw h)

  pub for-in : (v first limit step : ℕ) → for_here e w v first limit step ≡ fors_in w (for_turn (place e.here) w.session.fors w.session.vars v first limit step)
  unfolding for_here for_turn
  for-in v first limit step = by_cases (ltb w.session.fors.depth 4) (λ h. rw h) (λ h. rw h)

module _ (w : World) where
  return-on : (t : Opt Place) → return_by w t ≡ gosubs_in w (return_on w.session.gosubs t)
  unfolding return_by return_on
  return-on None = refl
  return-on (Some p) = refl

  pub return-in : return_by w (pop_of w.session.gosubs).top ≡ gosubs_in w (return_turn w.session.gosubs)
  unfolding return_turn
  return-in = return-on (pop_of w.session.gosubs).top

  until-on : (x : ℕ) (t : Opt Place) → until_by w x t ≡ dos_in w (until_on x w.session.dos t)
  unfolding until_by until_on
  until-on x None = refl
  until-on x (Some p) = by_cases (eqb x 0) (λ h. rw h) (λ h. rw h)

  pub until-in : (x : ℕ) → until_by w x (pop_of w.session.dos).top ≡ dos_in w (until_turn x w.session.dos)
  unfolding until_turn
  until-in x = until-on x (pop_of w.session.dos).top

  next-on : (v : ℕ) (t : Opt ForEntry) → next_by w v t ≡ fors_in w (next_on w.session.fors w.session.vars v t)
  unfolding next_by next_on stepped_on adds_step
  next-on v None = refl
  next-on v (Some f) =
      by_cases (eqb f.var v)
      (λ i. by_cases (adds_step w.session.vars v f).more (λ h. rw (i, h)) (λ h. rw (i, h)))
      (λ i. rw i)

  pub next-in : (v : ℕ) → next_by w v (pop_for w.session.fors).top ≡ fors_in w (next_turn w.session.fors w.session.vars v)
  unfolding next_turn
  next-in v = next-on v (pop_for w.session.fors).top

-- A NEXT that goes back is the turn with the stack as it was; where it does not, the variables are as they were
module _ (s : ForStack) (vars : List ℕ) (v : ℕ) where
  abbrev back_to : Option ℕ → Next
  back_to none = on
  back_to (some q) = go (suc q)

  abbrev back_turn : Backed → TurnedFor
  back_turn b = turned_for_to (back_to b.to) s b.vars

  never : {q : ℕ} {us us' : List ℕ} → backed_to (some q) us ≡ backed_to none us' → ⊥
  never e = let f : ◌≡◌ {A = Option ℕ} (some _) none = ap (λ (b : Backed). b.to) e in let z : ◌≡◌ {A = ℕ} 0 1 = cc in omega arith

  back_on_lem : (t : Opt ForEntry) {q : ℕ} {us : List ℕ} → backed_to (some q) us ≡ back_on vars v t → next_on s vars v t ≡ turned_for_to (go (suc q)) s us
  unfolding next_on stepped_on back_on back_by
  back_on_lem None e = absurd (never e)
  back_on_lem (Some f) e =
      by_cases (eqb f.var v)
      (λ i. by_cases (adds_step vars v f).more
      (λ h. rw (i, h) (ap back_turn (sym (rw (i, h) at e))))
      (λ h. absurd (never (rw (i, h) at e))))
      (λ i. absurd (never (rw i at e)))

  pub back-turns : {q : ℕ} {us : List ℕ} → backed_to (some q) us ≡ next_back s vars v → next_turn s vars v ≡ turned_for_to (go (suc q)) s us
  unfolding next_turn next_back
  back-turns e = back_on_lem (pop_for s).top e

  not_on : (t : Opt ForEntry) {us : List ℕ} → backed_to none us ≡ back_on vars v t → us ≡ vars
  unfolding back_on back_by
  not_on None e = ap (λ (b : Backed). b.vars) e
  not_on (Some f) e =
      by_cases (eqb f.var v)
      (λ i. by_cases (adds_step vars v f).more
      (λ h. absurd (never (sym (rw (i, h) at e))))
      (λ h. ap (λ (b : Backed). b.vars) (rw (i, h) at e)))
      (λ i. ap (λ (b : Backed). b.vars) (rw i at e))

  pub back_none : {us : List ℕ} → backed_to none us ≡ next_back s vars v → us ≡ vars
  unfolding next_back
  back_none e = not_on (pop_for s).top e

-- and so is an UNTIL that goes back
module _ (x : ℕ) (s : PlaceStack) where
  nowhere : {q : ℕ} → ◌≡◌ {A = Option ℕ} (some q) none → ⊥
  nowhere e = let z : ◌≡◌ {A = ℕ} 0 1 = cc in omega arith

  place_of : Option ℕ → ℕ
  place_of none = 0
  place_of (some q) = q

  until-back-on : (t : Opt Place) {q : ℕ} → some q ≡ until_back_on x t → until_on x s t ≡ turned_to (go (suc q)) s
  unfolding until_on until_back_on place_of
  until-back-on None e = absurd (nowhere e)
  until-back-on (Some p) e =
      by_cases (eqb x 0)
      (λ h. let f = rw h at e in let g = ap place_of f in rw h (ap (λ (n : ℕ). turned_to (go (suc n)) s) (sym g)))
      (λ h. absurd (nowhere (rw h at e)))

  pub until-turns : {q : ℕ} → some q ≡ until_back x s → until_turn x s ≡ turned_to (go (suc q)) s
  unfolding until_turn until_back
  until-turns e = until-back-on (pop_of s).top e
