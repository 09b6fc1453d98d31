-- A session record that fits places: what its test says, where they let a run stand, and that its changes keep them. Assumes nothing.
use Prim.Native.Nat.{ℕ, suc, ◌%◌, ◌≤◌, ◌<◌}
use Rattle.std.specs.Prelude.{Some, None}
use mathlib.Core.Path.{◌≡◌, sym, ◌∙◌}
use mathlib.Core.Bool.{true, false, false≢true}
use mathlib.Core.List.{List}
use native.Mathlib.Omega.{arith}
use lib.ListN.{length, take, length-set}
use lib.Dec.{ltb, leb, eqb}
use borrow.Author.Tests.{ltb-true, lt-ltb, le-leb, leb-true}
use Rattle.nibl.specs.Bytes.{all}
use Rattle.nibl.specs.Stack.{push_of, pop_of, push_for, pop_for}
use Rattle.nibl.specs.Page.{is_among, is_good, places_of, fits_paused, fits_with, fits}
use Rattle.nibl.specs.Record.{position, mark, nowhere, paused_at, with_vars, with_var, with_flags, with_gosubs, with_dos, with_fors, with_paused, stackless}
use Rattle.nibl.specs.declared.Place.{Place}
use Rattle.nibl.specs.declared.ForEntry.{ForEntry}
use Rattle.nibl.specs.declared.Session.{Session}
use Rattle.nibl.proofs.Words.{or_cases}
use Rattle.nibl.proofs.Sizes as sizes
use Rattle.page.specs.Standing.{Stands}
use Rattle.page.proofs.Program.{both}
use Rattle.record.specs.Fits.{is_saved, is_under_way}
use Rattle.record.specs.Fit.{is_place, Fit}
use Rattle.record.specs.Sound.{Sized, Sound}
use Rattle.record.proofs.Live.{held_none, push_places, pop_places, top-place, push-entries, pop-entries, top-entry}

-- its arrays have their lengths, by its type
pub known-sized : (s : Session) → sizes.Known s → Sized s
known-sized s k = record { vars = sizes.vars s k; gosubs = sizes.gosub-places s k; dos = sizes.do-places s k; fors = sizes.for-entries s k }

-- what the test of it says
pub record FitTests (ps : List ℕ) (s : Session) : Type 0 where
  pub gosubs-deep : s.gosubs.depth ≤ 8
  pub dos-deep : s.dos.depth ≤ 8
  pub fors-deep : s.fors.depth ≤ 4
  pub gosubs : all (is_saved ps true) (take s.gosubs.depth s.gosubs.places) ≡ true
  pub dos : all (is_place ps) (take s.dos.depth s.dos.places) ≡ true
  pub fors : all (is_under_way ps) (take s.fors.depth s.fors.entries) ≡ true
  pub flags : ltb s.flags 8 ≡ true
  pub paused : fits_paused ps s.paused ≡ true

fits-tests : (ps : List ℕ) (s : Session) → fits_with ps s ≡ true → FitTests ps s
fits-tests ps s h =
    let a = both (leb s.gosubs.depth 8) _ h in
    let b = both (leb s.dos.depth 8) _ a.1 in
    let c = both (leb s.fors.depth 4) _ b.1 in
    let d = both (all (is_saved ps true) (take s.gosubs.depth s.gosubs.places)) _ c.1 in
    let e = both (all (is_place ps) (take s.dos.depth s.dos.places)) _ d.1 in
    let f = both (all (is_under_way ps) (take s.fors.depth s.fors.entries)) _ e.1 in
    let g = both (ltb s.flags 8) _ f.1 in
    record {
      gosubs-deep = leb-true _ _ a.0;
      dos-deep = leb-true _ _ b.0;
      fors-deep = leb-true _ _ c.0;
      gosubs = d.0;
      dos = e.0;
      fors = f.0;
      flags = g.0;
      paused = g.1;
    }

fit-fits : (ps : List ℕ) (s : Session) → Fit ps s → fits_with ps s ≡ true
fit-fits ps s h =
    rw (
      le-leb s.gosubs.depth 8 h.gosubs.deep,
      le-leb s.dos.depth 8 h.dos.deep,
      le-leb s.fors.depth 4 h.fors.deep,
      h.gosubs.live,
      h.dos.live,
      h.fors.live,
      h.flags,
    ) h.paused

-- of the places of a page
pub page-tests : (page : List ℕ) (s : Session) → fits page s ≡ true → FitTests (places_of page) s
unfolding fits
page-tests page s h = fits-tests (places_of page) s h

pub sound-fit : {lim : ℕ} {page : List ℕ} {s : Session} → Sound lim page s → Fit (places_of page) s
sound-fit {page = page} {s = s} h =
    let p = page-tests page s h.fitting in
    let z = h.sized in
    record {
      vars = z.vars;
      gosubs = record { deep = p.gosubs-deep; room = z.gosubs; live = p.gosubs };
      dos = record { deep = p.dos-deep; room = z.dos; live = p.dos };
      fors = record { deep = p.fors-deep; room = z.fors; live = p.fors };
      flags = p.flags;
      paused = p.paused;
    }

pub fit-sound : (lim : ℕ) {page : List ℕ} {s : Session} → is_good lim page ≡ true → Fit (places_of page) s → Sound lim page s
unfolding fits
fit-sound lim {page = page} {s = s} g f =
    record { good = g; fitting = fit-fits (places_of page) s f; sized = record { vars = f.vars; gosubs = f.gosubs.room; dos = f.dos.room; fors = f.fors.room } }

-- Where RETURN, UNTIL and NEXT go on, and a paused run
module _ (ps : List ℕ) (s : Session) (h : Fit ps s) where
  pub return-stands : (p : Place) → (pop_of s.gosubs).top ≡ Some p → eqb (position p) mark ≡ false → Stands ps (suc (position p))
  return-stands p e n =
      or_cases (is_among ps (position p)) (eqb (position p) mark) (top-place (is_saved ps true) s.gosubs h.gosubs p e) (λ i. i) (λ i. absurd (false≢true (sym n ∙ i)))

  pub until-stands : (p : Place) → (pop_of s.dos).top ≡ Some p → Stands ps (suc (position p))
  until-stands p e = top-place (is_place ps) s.dos h.dos p e

  -- the variable of the FOR is one of the 26
  pub next_known : (x : ForEntry) → (pop_for s.fors).top ≡ Some x → (x.var < 26) × Stands ps (suc (position x.place))
  next_known x e =
      let b = both (ltb x.var 26) _ (top-entry (is_under_way ps) s.fors h.fors x e) in
      (ltb-true _ _ b.0, b.1)

  pub paused-stands : (q : ℕ) → s.paused ≡ paused_at q → Stands ps q
  paused-stands q e = rw e at h.paused

-- What the changes of a record keep
module _ {ps : List ℕ} {s : Session} (h : Fit ps s) where
  pub fit-vars : (x : List ℕ) → length x ≡ 26 → Fit ps (with_vars s x)
  fit-vars x n = record { vars = n; gosubs = h.gosubs; dos = h.dos; fors = h.fors; flags = h.flags; paused = h.paused }

  pub fit-var : (v x : ℕ) → Fit ps (with_var s v x)
  fit-var v x = fit-vars _ (length-set s.vars v x ∙ h.vars)

  pub fit-flags : (x : ℕ) → Fit ps (with_flags s (x % 8))
  fit-flags x = record { vars = h.vars; gosubs = h.gosubs; dos = h.dos; fors = h.fors; flags = lt-ltb (x % 8) 8 (omega arith); paused = h.paused }

  pub fit-gosub : (p : Place) → is_saved ps true p ≡ true → Fit ps (with_gosubs s (push_of s.gosubs p).stack)
  fit-gosub p e = record { vars = h.vars; gosubs = push_places (is_saved ps true) s.gosubs h.gosubs p e; dos = h.dos; fors = h.fors; flags = h.flags; paused = h.paused }

  pub fit-return : Fit ps (with_gosubs s (pop_of s.gosubs).stack)
  fit-return = record { vars = h.vars; gosubs = pop_places (is_saved ps true) s.gosubs h.gosubs; dos = h.dos; fors = h.fors; flags = h.flags; paused = h.paused }

  pub fit-do : (p : Place) → is_among ps (position p) ≡ true → Fit ps (with_dos s (push_of s.dos p).stack)
  fit-do p e = record { vars = h.vars; gosubs = h.gosubs; dos = push_places (is_place ps) s.dos h.dos p e; fors = h.fors; flags = h.flags; paused = h.paused }

  pub fit-until : Fit ps (with_dos s (pop_of s.dos).stack)
  fit-until = record { vars = h.vars; gosubs = h.gosubs; dos = pop_places (is_place ps) s.dos h.dos; fors = h.fors; flags = h.flags; paused = h.paused }

  pub fit-for : (x : ForEntry) → is_under_way ps x ≡ true → Fit ps (with_fors s (push_for s.fors x).stack)
  fit-for x e = record { vars = h.vars; gosubs = h.gosubs; dos = h.dos; fors = push-entries (is_under_way ps) s.fors h.fors x e; flags = h.flags; paused = h.paused }

  pub fit_next : Fit ps (with_fors s (pop_for s.fors).stack)
  fit_next = record { vars = h.vars; gosubs = h.gosubs; dos = h.dos; fors = pop-entries (is_under_way ps) s.fors h.fors; flags = h.flags; paused = h.paused }

  pub fit-paused : (p : ℕ) → fits_paused ps p ≡ true → Fit ps (with_paused s p)
  fit-paused p e = record { vars = h.vars; gosubs = h.gosubs; dos = h.dos; fors = h.fors; flags = h.flags; paused = e }

-- with its stacks cleared and no pause it fits any page
pub fit-cleared : {ps : List ℕ} {s : Session} → Fit ps s → (qs : List ℕ) → s.paused ≡ nowhere → Fit qs (stackless s)
fit-cleared f qs e =
    record { vars = f.vars; gosubs = held_none _ f.gosubs.room; dos = held_none _ f.dos.room; fors = held_none _ f.fors.room; flags = f.flags; paused = rw e }
