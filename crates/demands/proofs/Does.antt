-- What one statement can do, as a coarse list of effects, for what holds of all of them alike: what holds of each effect holds of every statement
-- (Effects.antt). Which statement has which effect, with which values, is in specs/Work.antt. Assumes nothing.
use Prim.Native.Nat.{ℕ, suc, ◌+◌, ◌%◌, ◌≤◌}
use Rattle.std.specs.Prelude.{Some, None}
use mathlib.Core.Path.{◌≡◌}
use mathlib.Core.Bool.{true, false}
use mathlib.Core.List.{List, [], ◌∷◌}
use mathlib.Core.Option.{some}
use lib.ListN.{length, get_or, drop}
use lib.Seq.{sets}
use Rattle.nibl.specs.Values.{add16}
use Rattle.nibl.specs.Stack.{push_of, pop_of, push_for, pop_for}
use Rattle.nibl.specs.Typing.{Gathered, gather}
use Rattle.nibl.specs.Page.{is_among, find}
use Rattle.nibl.specs.Meaning.{World, Env, on, skip, go, stop, Done, done, with_session, with_memory, with_output, with_inpos, after, goes_on}
use Rattle.nibl.specs.Record.{with_var, with_flags, with_gosubs, with_dos, with_fors, place, position}
use Rattle.nibl.specs.declared.Place.{Place}
use Rattle.nibl.specs.declared.ForEntry.{ForEntry}

-- what a statement may be refused with, and END
abbrev pub refusals : List ℕ
refusals = 6 ∷ 7 ∷ 8 ∷ 9 ∷ 10 ∷ 11 ∷ 12 ∷ 13 ∷ 15 ∷ 16 ∷ 17 ∷ 20 ∷ 21 ∷ []

-- INPUT: variables given one after the other, up to the first refusal
pub data GivesVariables : World → Done → Type 0 where
  gave : {w : World} → GivesVariables w (done on w)
  refused : {w : World} {n : ℕ} → is_among refusals n ≡ true → GivesVariables w (done (stop n) w)
  gives : {w : World} {d : Done} (v x : ℕ) → GivesVariables (with_session w (with_var w.session v x)) d → GivesVariables w d

-- vs are the variables that a FOR may name, W says what an item may be
pub data Does (e : Env) (vs : List ℕ) (W : List ℕ → Type 0) : World → Done → Type 0 where
  -- output items, whole, and input lines, whole, come first
  writes : {w : World} {d : Done} (bs : List ℕ) → W bs → w.outpos + length bs ≤ length w.output
      → Does e vs W (with_output w (sets w.output w.outpos bs) (w.outpos + length bs)) d → Does e vs W w d
  takes : {w : World} {d : Done} (g : Gathered) → gather e.lim (drop w.inpos e.input) ≡ some g
      → Does e vs W (with_inpos w (w.inpos + g.taken)) d → Does e vs W w d
  -- then one effect
  refuses : {w : World} {n : ℕ} → is_among refusals n ≡ true → Does e vs W w (done (stop n) w)
  passes : {w : World} → Does e vs W w (done on w)
  skips : {w : World} → Does e vs W w (done skip w)
  assigns : {w : World} (v x : ℕ) → Does e vs W w (done on (with_session w (with_var w.session v x)))
  assigns_flags : {w : World} (x : ℕ) → Does e vs W w (done on (with_session w (with_flags w.session (x % 8))))
  stores : {w : World} (m : List ℕ) → length m ≡ length w.memory → Does e vs W w (done on (with_memory w m))
  goes_to : {w : World} {q : ℕ} (n : ℕ) → find e.page n ≡ some q → Does e vs W w (done (go q) w)
  saves : {w : World} {q : ℕ} (n : ℕ) → find e.page n ≡ some q → (push_of w.session.gosubs (place e.here)).ok ≡ true
      → Does e vs W w (done (go q) (with_session w (with_gosubs w.session (push_of w.session.gosubs (place e.here)).stack)))
  returns : {w : World} (p : Place) → (pop_of w.session.gosubs).top ≡ Some p
      → Does e vs W w (done (after p) (with_session w (with_gosubs w.session (pop_of w.session.gosubs).stack)))
  loops : {w : World} → (push_of w.session.dos (place e.here)).ok ≡ true
      → Does e vs W w (done on (with_session w (with_dos w.session (push_of w.session.dos (place e.here)).stack)))
  repeats : {w : World} (p : Place) → (pop_of w.session.dos).top ≡ Some p → Does e vs W w (done (go (suc (position p))) w)
  leaves : {w : World} (p : Place) → (pop_of w.session.dos).top ≡ Some p
      → Does e vs W w (done on (with_session w (with_dos w.session (pop_of w.session.dos).stack)))
  begins : {w : World} (v first limit step : ℕ) → is_among vs v ≡ true
      → (push_for w.session.fors (record { var = v; limit = limit; step = step; place = place e.here })).ok ≡ true
      → Does e vs W w (done on (with_session w (with_var (with_fors w.session
      (push_for w.session.fors (record { var = v; limit = limit; step = step; place = place e.here })).stack) v first)))
  again : {w : World} (v : ℕ) (f : ForEntry) → (pop_for w.session.fors).top ≡ Some f
      → goes_on f.step (add16 (get_or w.session.vars v 0) f.step) f.limit ≡ true
      → Does e vs W w (done (go (suc (position f.place))) (with_session w (with_var w.session v (add16 (get_or w.session.vars v 0) f.step))))
  finishes : {w : World} (v : ℕ) (f : ForEntry) → (pop_for w.session.fors).top ≡ Some f
      → goes_on f.step (add16 (get_or w.session.vars v 0) f.step) f.limit ≡ false
      → Does e vs W w (done on (with_session w (with_fors (with_var w.session v (add16 (get_or w.session.vars v 0) f.step)) (pop_for w.session.fors).stack)))
  inputs : {w : World} {d : Done} → GivesVariables w d → Does e vs W w d
