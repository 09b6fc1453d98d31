-- "Fixed effects" on what lies outside: the page after its end mark, the lengths of what is lent; and "One outcome". Assumes nothing.
use Rattle.std.specs.Prelude.{if◌then◌else◌}
use Prim.Native.Nat.{ℕ, zero, suc}
use mathlib.Core.Path.{◌≡◌, refl, ap}
use mathlib.Core.Bool.{Bool, true, false, true≢false}
use mathlib.Core.List.{List, []}
use native.Mathlib.Omega.{arith}
use lib.ListN.{length}
use lib.Dec.{leb, eqb}
use borrow.Author.Tests.{leb-true}
use Rattle.nibl.specs.Tree.{Typed, blank, new, clear, run, delete, list, store, immediate}
use Rattle.nibl.specs.Readings.{LineReading}
use Rattle.nibl.specs.Typing.{Gathered}
use Rattle.nibl.specs.Page.{Stored, records_of, program_bytes, has_line, with, without, onto}
use Rattle.nibl.specs.Meaning.{World, Env, on, skip, go, stop, Done, done, with_session, exec}
use Rattle.nibl.specs.Lent.{Lent, Outcome, Left, outcome, stops}
use Rattle.nibl.specs.Runs.{run_from, run_outcome}
use Rattle.nibl.specs.Typing.{limit}
use Rattle.nibl.specs.Lent.{lent_world, begun, lent_env}
use Rattle.nibl.specs.Calls.{edited, list_from, after_immediate, needs_program, obey, take_line, continue_from, continue_run, leaves}
use Rattle.nibl.specs.Record.{stackless}
use Rattle.nibl.specs.declared.Session.{Session}
use Rattle.nibl.proofs.Determined.{determined}
use Rattle.nibl.proofs.Lines.{typed-sound}
use Rattle.page.proofs.Program.{Program, none as no_record, program-length}
use Rattle.page.proofs.Changes.{with-program, without-program}
use Rattle.demands.specs.Lent.{Typing}
use Rattle.demands.proofs.Does.{Does}
use Rattle.demands.specs.Leaves.{PageHeld, LengthsHeld, Agrees, is_edit, world_after}
use Rattle.demands.proofs.Effects.{exec-does, list-does}
use Rattle.demands.proofs.Ways.{Takes, refused, no_cr, overlong, unread, reads, every-line, Continues, refused', continues, every-continue}
use Rattle.demands.proofs.Storing.{stored-storable}
use Rattle.demands.proofs.Retyping.{program, line-short, onto-length, onto-after, onto-used}
use Rattle.demands.proofs.Held.{SameLengths, same-lengths, does-steady, then-lengths, run-steady}

-- The page
kept-page : (page : List ℕ) → PageHeld page page
kept-page page = record { long = refl; after = refl }

edit-holds : (page : List ℕ) (w : World) {rs : List Stored} → Program limit 0 rs → PageHeld page (edited page w rs).page
unfolding edited
edit-holds page w {rs = rs} p = by (leb (length (program_bytes rs)) (length page)) refl where
  by : (b : Bool) → leb (length (program_bytes rs)) (length page) ≡ b
      → PageHeld page (if b then stops 0 (with_session w (stackless w.session)) (onto page rs) else stops 2 w page).page
  by true h =
      let f = leb-true (length (program_bytes rs)) (length page) h in
      record { long = onto-length page rs (omega (arith, program-length rs)); after = rw (onto-used page p) (onto-after page rs) }
  by false h = kept-page page

abbrev SamePage : List ℕ → Outcome → Type 0
SamePage page o = o.page ≡ page

immediate-page : (k : ℕ) (e : Env) (d : Done) → (after_immediate k e d).page ≡ e.page
immediate-page k e (done on w) = refl
immediate-page k e (done skip w) = refl
immediate-page k e (done (go q) w) = refl
immediate-page k e (done (stop n) w) = refl

-- "no run changes the page": nor any line but an edit
obey-page : (k : ℕ) (e : Env) (w : World) (y : Typed) → is_edit y ≡ false → (obey k e w y).page ≡ e.page
unfolding obey
obey-page k e w blank h = refl
obey-page k e w new h = absurd (true≢false h)
obey-page k e w clear h = refl
obey-page k e w run h = refl
obey-page k e w (delete n) h = absurd (true≢false h)
obey-page k e w (list n) h = immediate-page k e (list_from n (records_of e.page) w)
obey-page k e w (store n t ms) h = absurd (true≢false h)
obey-page k e w (immediate q) h = by (needs_program q) where
  by : (b : Bool) → SamePage e.page (elim b [ true ↦ stops 3 w e.page | false ↦ after_immediate k e (exec e q w) ])
  by true = refl
  by false = immediate-page k e (exec e q w)

take-page : {x : Lent} {o : Outcome} → Takes limit x o → ((g : Gathered) (y : Typed) → Typing limit x g → LineReading g.line.bytes y → is_edit y ≡ false) → o.page ≡ x.page
take-page (refused h) f = refl
take-page (no_cr z h) f = refl
take-page (overlong g z h l) f = refl
take-page (unread g h r) f = refl
take-page {x = x} (reads g y h r) f = obey-page x.call.budget (lent_env limit x) (begun x g.taken) y (f g y h (typed-sound g.line.bytes y r))

pub only-edits-change-the-page : (x : Lent) → ((g : Gathered) (y : Typed) → Typing limit x g → LineReading g.line.bytes y → is_edit y ≡ false) → (take_line x).page ≡ x.page
unfolding take_line
only-edits-change-the-page x f = take-page (every-line limit x) f

continue-page : {x : Lent} {o : Outcome} → Continues limit x o → o.page ≡ x.page
continue-page (refused' h) = refl
continue-page {x = x} (continues h) = by x.session.paused where
  by : (p : ℕ) → (continue_from limit x p).page ≡ x.page
  by zero = refl
  by (suc q) = refl

pub continue-keeps-the-page : (x : Lent) → (continue_run x).page ≡ x.page
unfolding continue_run
continue-keeps-the-page x = continue-page (every-continue limit x)

-- "bytes after the new end mark hold"
module _ (x : Lent) where
  abbrev Holds : Outcome → Type 0
  Holds o = PageHeld x.page o.page

  module _ (g : Gathered) (h : Typing limit x g) where
    abbrev w : World
    w = begun x g.taken

    same-holds : (o : Outcome) → o.page ≡ x.page → Holds o
    same-holds o e = rw e (kept-page x.page)

    obey-holds : (y : Typed) → LineReading g.line.bytes y → Holds (obey x.call.budget (lent_env limit x) w y)
    unfolding obey
    obey-holds blank r = kept-page x.page
    obey-holds new r = edit-holds x.page w no_record
    obey-holds clear r = kept-page x.page
    obey-holds run r = kept-page x.page
    obey-holds (delete n) r = by (has_line n (records_of x.page)) where
      by : (b : Bool) → Holds (elim b [ true ↦ edited x.page w (without n (records_of x.page)) | false ↦ stops 0 w x.page ])
      by true = edit-holds x.page w (without-program n (program x g h))
      by false = kept-page x.page
    obey-holds (list n) r = same-holds (after_immediate x.call.budget (lent_env limit x) (list_from n (records_of x.page) w)) (immediate-page x.call.budget (lent_env limit x) (list_from n (records_of x.page) w))
    obey-holds (store n t ms) r =
        edit-holds x.page w (with-program (record { line = n; text = t }) (stored-storable limit (omega arith) r (line-short x g h)) (omega arith) (program x g h))
    obey-holds (immediate q) r = by (needs_program q) where
      by : (b : Bool) → Holds (elim b [ true ↦ stops 3 w x.page | false ↦ after_immediate x.call.budget (lent_env limit x) (exec (lent_env limit x) q w) ])
      by true = kept-page x.page
      by false = same-holds (after_immediate x.call.budget (lent_env limit x) (exec (lent_env limit x) q w)) (immediate-page x.call.budget (lent_env limit x) (exec (lent_env limit x) q w))

  take-holds : {o : Outcome} → Takes limit x o → Holds o
  take-holds (refused h) = kept-page x.page
  take-holds (no_cr z h) = kept-page x.page
  take-holds (overlong g z h l) = kept-page x.page
  take-holds (unread g h r) = kept-page x.page
  take-holds (reads g y h r) = obey-holds g h y (typed-sound g.line.bytes y r)

  pub page-held : PageHeld x.page (take_line x).page
  unfolding take_line
  page-held = take-holds (every-line limit x)

-- Memory and output keep their lengths
module _ (x : Lent) where
  abbrev L : Outcome → Type 0
  L o = LengthsHeld x o

  as_lent : {w : World} → SameLengths (lent_world x) w → (n l k : ℕ) (page : List ℕ) → L (outcome n l k w page)
  as_lent s n l k page = record { memory = s.memory; output = s.output }

  pausing-same : (b : Bool) (w : World) (s : Session) → SameLengths w (if b then with_session w s else w)
  pausing-same true w s = record { memory = refl; output = refl }
  pausing-same false w s = record { memory = refl; output = refl }

  run-held : (k : ℕ) (e : Env) (q : ℕ) (w : World) (page : List ℕ) → SameLengths (lent_world x) w → L (run_outcome (run_from k e q w) page)
  run-held k e q w page s =
      let r = run_from k e q w in
      as_lent (then-lengths (then-lengths s (run-steady k e q w).lengths) (pausing-same (eqb r.stop 14) r.world _)) _ _ _ page

  immediate-held : {vs : List ℕ} {W : List ℕ → Type 0} {w : World} (k : ℕ) (e : Env) {d : Done} → SameLengths (lent_world x) w → Does e vs W w d → L (after_immediate k e d)
  immediate-held k e {d = d} s h = by d (then-lengths s (does-steady h).lengths) where
    by : (d : Done) → SameLengths (lent_world x) (world_after d) → L (after_immediate k e d)
    by (done on u) t = as_lent t _ _ _ _
    by (done skip u) t = as_lent t _ _ _ _
    by (done (go q) u) t = run-held k e q u e.page t
    by (done (stop n) u) t = as_lent t _ _ _ _

  edit-held : (page : List ℕ) (w : World) (rs : List Stored) → SameLengths (lent_world x) w → L (edited page w rs)
  unfolding edited
  edit-held page w rs s = by (leb (length (program_bytes rs)) (length page)) where
    by : (b : Bool) → L (if b then stops 0 (with_session w (stackless w.session)) (onto page rs) else stops 2 w page)
    by true = record { memory = s.memory; output = s.output }
    by false = record { memory = s.memory; output = s.output }

  obey-held : (k : ℕ) (e : Env) (w : World) (y : Typed) → SameLengths (lent_world x) w → L (obey k e w y)
  unfolding obey
  obey-held k e w blank s = as_lent s _ _ _ _
  obey-held k e w new s = edit-held e.page w [] s
  obey-held k e w clear s = record { memory = s.memory; output = s.output }
  obey-held k e w run s = run-held k e 0 _ e.page (record { memory = s.memory; output = s.output })
  obey-held k e w (delete n) s = by (has_line n (records_of e.page)) where
    by : (b : Bool) → L (elim b [ true ↦ edited e.page w (without n (records_of e.page)) | false ↦ stops 0 w e.page ])
    by true = edit-held e.page w (without n (records_of e.page)) s
    by false = as_lent s _ _ _ _
  obey-held k e w (list n) s = immediate-held k e s (list-does e [] n (records_of e.page) w)
  obey-held k e w (store n t ms) s = edit-held e.page w (with (record { line = n; text = t }) (records_of e.page)) s
  obey-held k e w (immediate q) s = by (needs_program q) where
    by : (b : Bool) → L (elim b [ true ↦ stops 3 w e.page | false ↦ after_immediate k e (exec e q w) ])
    by true = as_lent s _ _ _ _
    by false = immediate-held k e s (exec-does e q w)

  begun-held : (n : ℕ) → SameLengths (lent_world x) (begun x n)
  begun-held n = record { memory = refl; output = refl }

  take-held : {o : Outcome} → Takes limit x o → L o
  take-held (refused h) = as_lent same-lengths _ _ _ _
  take-held (no_cr z h) = as_lent same-lengths _ _ _ _
  take-held (overlong g z h l) = record { memory = refl; output = refl }
  take-held (unread g h r) = record { memory = refl; output = refl }
  take-held (reads g y h r) = obey-held x.call.budget (lent_env limit x) (begun x g.taken) y (begun-held g.taken)

  continue-held : {o : Outcome} → Continues limit x o → L o
  continue-held (refused' h) = as_lent same-lengths _ _ _ _
  continue-held (continues h) = by x.session.paused where
    by : (p : ℕ) → L (continue_from limit x p)
    by zero = as_lent (begun-held 0) _ _ _ _
    by (suc q) = run-held x.call.budget (lent_env limit x) q (begun x 0) x.page (begun-held 0)

  pub lengths-held : LengthsHeld x (take_line x) × LengthsHeld x (continue_run x)
  unfolding take_line continue_run
  lengths-held = (take-held (every-line limit x), continue-held (every-continue limit x))

-- "One outcome": what meets the promise for the same inputs is the same
agrees : {a b : Left} → a ≡ b → Agrees a b
agrees e =
    record {
      answer = ap (λ l. l.outcome.answer) e;
      session = ap (λ l. l.outcome.session) e;
      page = ap (λ l. l.outcome.page) e;
      memory = ap (λ l. l.outcome.memory) e;
      output = ap (λ l. l.outcome.output) e;
      table = ap (λ l. l.table) e;
    }

pub one-outcome : (x : Lent) (a b : Left) → a ≡ leaves take_line x → b ≡ leaves take_line x → Agrees a b
one-outcome x a b p q = agrees (determined (leaves take_line x) a b p q)

pub one-outcome-of-continue : (x : Lent) (a b : Left) → a ≡ leaves continue_run x → b ≡ leaves continue_run x → Agrees a b
one-outcome-of-continue x a b p q = agrees (determined (leaves continue_run x) a b p q)
