-- What a typed line does, by what it was read as: one law to each answer. Assumes nothing.
use Prim.Native.Nat.{ℕ, ◌-◌, ◌≤◌}
use mathlib.Core.Path.{◌≡◌, refl, sym, ap, ◌∙◌}
use mathlib.Core.Bool.{Bool, true, false}
use mathlib.Core.List.{List}
use native.Mathlib.Omega.{arith}
use borrow.Author.Tests.{eqb-true}
use lib.ListN.{length, take, drop, replicate, length-drop}
use lib.Dec.{eqb}
use Rattle.nibl.specs.Tree.{Stmt, immediate}
use Rattle.nibl.specs.found.Read.{typed}
use Rattle.nibl.specs.found.Column.{column_of}
use Rattle.nibl.specs.Page.{records_of, places_of}
use Rattle.nibl.specs.Record.{cleared}
use Rattle.nibl.specs.Meaning.{World, Env}
use Rattle.nibl.specs.Lent.{Outcome, stops}
use Rattle.nibl.specs.Runs.{run_from, run_outcome}
use Rattle.nibl.specs.Calls.{needs_program, after_immediate, obey_read}
use Rattle.nibl.specs.Calls as calls
use Rattle.nibl.specs.declared.Session.{Session}
use Rattle.nibl.specs.declared.LineNumber.{LineNumber}
use Rattle.nibl.proofs.Spot.{column-exact}
use Rattle.record.proofs.Fitted.{fit-vars, fit-cleared}
use Rattle.word.specs.declared.Cursor.{Cursor}
use Rattle.line.specs.declared.LineRead.{LineRead}
use Rattle.line.specs.declared.LineRead.TheVariants as line
use Rattle.line.proofs.Lists.{part-rest}
use Rattle.page.specs.declared.Edited.{Edited}
use Rattle.page.specs.declared.Edited.TheVariants as edited
use Rattle.page.specs.Standing.{Bytes}
use Rattle.page.specs.Edits.{Changed, changed, store_of, delete_of, new_of, outcome_of}
use Rattle.page.specs.Listing.{Shown, listing, shown_in}
use Rattle.page.proofs.Walk.{by_cases}
use Rattle.page.proofs.Good.{store-good, delete-good, new_is}
use Rattle.page.proofs.Listings.{list-is}
use Rattle.outcome.specs.Ends.{ended_in, world_at, stopped, refused, edit_end, list_end}
use Rattle.outcome.specs.Lends.{Accepted, IsStatement}
use Rattle.obey.specs.ReadAs.{ReadAs}
use Rattle.obey.proofs.Meant.{Means, told, no-reading, is-blank, is-new, is-clear, is-run, is-delete, is-list, is-stored, is-immediate, no_room}

-- a run begins with a record that fits
pub accepted-cleared : {lim budget : ℕ} {page : List ℕ} {s : Session} → Accepted lim page budget s → Accepted lim page budget (cleared s)
accepted-cleared {page = page} a =
    let f = fit-vars (fit-cleared a.fits (places_of page) a.idle) (replicate 26 0) refl in
    record { short = a.short; good = a.good; fits = f; idle = a.idle; steps = a.steps }

-- a statement that only a program may have
program-only : (budget : ℕ) (e : Env) (w : World) (q : Stmt) → needs_program q ≡ true → stops 3 w e.page ≡ calls.obey budget e w (immediate q)
unfolding calls.obey
program-only budget e w q h = rw (h, calls.obey)

-- what every arm is given
pub record Given : Type 0 where
  pub env : Env
  pub budget : ℕ
  pub session : Session
  pub memory : List ℕ
  pub output : List ℕ
  pub inpos : ℕ
  pub outpos : ℕ
  pub text : List ℕ
  pub kind : LineRead
  pub ops : List ℕ
  pub bytes : Bytes env.page
  pub accepted : Accepted env.lim env.page budget session
  pub read : ReadAs text kind ops

module _ (g : Given) where
  abbrev world_with : Session → World
  world_with s = world_at s g.memory g.output g.inpos g.outpos

  -- what the definition does
  abbrev obeyed : Outcome
  obeyed = obey_read g.budget g.env (world_with g.session) (column_of g.text) (typed g.text)

  -- how the arms end
  abbrev stopped_with : ℕ → Session → Outcome
  stopped_with n s = ended_in (stopped n s g.inpos g.outpos) g.env.page g.memory g.output

  abbrev edited_to : Edited → List ℕ → Outcome
  edited_to x p = ended_in (edit_end x g.session g.inpos g.outpos) p g.memory g.output

  abbrev listed_as : Shown → Outcome
  listed_as l = ended_in (list_end g.session g.inpos l) g.env.page g.memory l.output

  meant : {r : LineRead} → g.kind ≡ r → Means (length g.text) r (typed g.text)
  meant f = told g.read.kind-is f

  -- a column found
  pub none_read : {c : ℕ} → g.kind ≡ line.NoReading → c ≡ column_of g.text → ended_in (refused c g.session g.inpos g.outpos) g.env.page g.memory g.output ≡ obeyed
  none_read f e = rw (no-reading (meant f), e)

  -- a column is within its line
  pub column-small : {c : ℕ} → c ≡ column_of g.text → c ≤ 65535
  column-small e = omega (arith, e, (column-exact g.text).within, g.read.short)

  pub no-room-read : g.kind ≡ line.NoRoom → ⊥
  no-room-read f = no_room (length g.text) (typed g.text) (sym f ∙ g.read.kind-is)

  pub blank-read : g.kind ≡ line.Blank → stopped_with 0 g.session ≡ obeyed
  unfolding calls.obey
  blank-read f = rw (is-blank (meant f))

  pub clear-read : g.kind ≡ line.Clear → stopped_with 0 (cleared g.session) ≡ obeyed
  unfolding calls.obey
  clear-read f = rw (is-clear (meant f))

  -- the run's record s and outcome o
  pub run-read : (s : Session) (o : Outcome) → g.kind ≡ line.Run → s ≡ cleared g.session
      → o ≡ run_outcome (run_from g.budget g.env 0 (world_with s)) g.env.page → o ≡ obeyed
  unfolding calls.obey
  run-read s o f e h = h ∙ rw (is-run (meant f), e)

  -- a listing's stop is 0 where all lines are out
  listed-is : (l : Shown) → listed_as l ≡ after_immediate g.budget g.env (shown_in (world_with g.session) l)
  listed-is l = by_cases (eqb l.stop 0) (λ f. rw (f, eqb-true l.stop 0 f)) (λ f. rw f)

  pub list_read : (k : LineNumber) → g.kind ≡ line.List k → listed_as (listing k.0 (records_of g.env.page) g.output g.outpos) ≡ obeyed
  unfolding calls.obey
  list_read k f = rw (is-list (meant f), ← list-is k.0 (records_of g.env.page) (world_with g.session)) (listed-is _)

  edited-as : (x : Edited) (p : List ℕ) → edited_to x p ≡ outcome_of (world_with g.session) (changed p x)
  edited-as edited.Done p = refl
  edited-as edited.NoRoom p = refl
  edited-as edited.Absent p = refl

  -- an edit's answer x, and the page p after it
  module _ (x : Edited) (p : List ℕ) where
    edit-is : {c : Changed} → changed p x ≡ c → edited_to x p ≡ outcome_of (world_with g.session) c
    edit-is e = edited-as x p ∙ ap (outcome_of (world_with g.session)) e

    pub new-read : g.kind ≡ line.New → changed p x ≡ new_of g.env.page → edited_to x p ≡ obeyed
    unfolding calls.obey
    new-read f e = rw (is-new (meant f)) (edit-is e ∙ new_is g.env.page _)

    pub delete-read : (k : LineNumber) → g.kind ≡ line.Delete k → changed p x ≡ delete_of g.env.page k.0 → edited_to x p ≡ obeyed
    unfolding calls.obey
    delete-read k f e = rw (is-delete (meant f)) (edit-is e ∙ delete-good g.env.lim g.env.page g.bytes g.accepted.good _ k.0)

    pub store-read : (k : LineNumber) (c : Cursor) → g.kind ≡ line.Store k c
        → changed p x ≡ store_of g.env.page k.0 (take (length g.text - c.at) (drop c.at g.text))
        → edited_to x p ≡ obeyed
    unfolding calls.obey
    store-read k c f e =
        let t : List ℕ = drop c.at g.text in
        let short : length t ≤ 251 = omega (arith, length-drop c.at g.text, g.read.short) in
        rw (is-stored (meant f)).reads
        (edit-is (e ∙ ap (store_of g.env.page k.0) (part-rest g.text c.at))
        ∙ store-good g.env.lim g.env.page g.bytes g.accepted.good _ k.0 t short)

  -- the stored text begins within the line
  pub stored-inside : {k : LineNumber} {c : Cursor} → g.kind ≡ line.Store k c → c.at ≤ length g.text
  stored-inside f = (is-stored (meant f)).inside

  -- an immediate statement of n operations; b says whether only a program may have it
  module _ (n : ℕ) (b : Bool) (f : g.kind ≡ line.Immediate n b) where
    pub needing-read : b ≡ true → stopped_with 3 g.session ≡ obeyed
    needing-read h =
        let m = is-immediate (meant f) in
        rw m.reads (program-only g.budget g.env (world_with g.session) m.tree (sym m.program ∙ h))

    pub statement-read : b ≡ false → IsStatement g.text n g.ops
    statement-read h =
        let m = is-immediate (meant f) in
        let k = g.read.codes m.tree m.reads in
        record {
          tree = m.tree;
          reads = m.reads;
          free = sym m.program ∙ h;
          few = omega (arith, m.count, k.0);
          codes = ap (λ (x : ℕ). take x g.ops) m.count ∙ k.1;
        }
