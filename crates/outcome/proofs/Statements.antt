-- An immediate statement: its operations do what it does, and where it goes on a run may begin. Assumes nothing.
use Prim.Native.Nat.{ℕ}
use mathlib.Core.Bool.{Bool, true, false}
use mathlib.Core.List.{List, []}
use mathlib.Core.Path.{◌≡◌, refl, sym, ap, subst, ◌∙◌}
use native.Mathlib.Omega.{arith}
use lib.ListN.{length, take}
use lib.Seq.{length-take-le}
use Rattle.nibl.specs.found.Read.{typed}
use Rattle.nibl.specs.found.Column.{column_of}
use Rattle.nibl.specs.Page.{places_of}
use Rattle.nibl.specs.Record.{place, mark, parts_of}
use Rattle.nibl.specs.Meaning.{World, Env, go, Done, done, exec}
use Rattle.nibl.specs.Lent.{stops}
use Rattle.nibl.specs.Calls.{obey_read, obey, after_immediate}
use Rattle.nibl.specs.declared.Session.{Session}
use Rattle.nibl.specs.declared.Parts.{Parts}
use Rattle.nibl.specs.declared.access.Sight.{Sight}
use Rattle.page.specs.Standing.{Stands}
use Rattle.page.proofs.Standing.{find-stands}
use Rattle.record.specs.Fit.{Fit, Goes, to_place}
use Rattle.record.proofs.Statements.{immediate-goes}
use Rattle.operation.specs.Operations.{run_ops}
use Rattle.operation.proofs.Compiles.{compiled}
use Rattle.operation.proofs.Readings.{typed-fine}
use Rattle.effect.specs.Worlds.{env_with, world_with}
use Rattle.statement.specs.Lending.{Fair}
use Rattle.run.proofs.Starts.{ready-fair}
use Rattle.outcome.specs.Ends.{world_at}
use Rattle.outcome.specs.Lends.{Lists, Accepted, IsStatement}
use Rattle.outcome.proofs.Lent.{may-run, world_same}

module _ {reply replies values ops page text : List ℕ} {n budget : ℕ} {s : Session}
    (l : Lists reply replies values ops) (a : Accepted (length reply) page budget s) (one : IsStatement text n ops)
    (input : List ℕ) (sight : Sight) (inpos outpos : ℕ) (memory output : List ℕ) where
  abbrev env : Env
  env = env_with (length reply) page input sight (place mark)

  abbrev world : World
  world = world_at s memory output inpos outpos

  pub fair : Fair page (take n ops) values reply replies
  fair =
      let f = ready-fair (may-run {q = 0} l a refl memory output inpos outpos) in
      let e = length-take-le n ops one.few in
      let h = l.stack in
      let k = one.few in
      record { places = f.places; top = f.top; stack = omega arith; reply_ops = f.reply_ops; reply_values = f.reply_values; short = f.short }

  pub executes : {d : Done} {parts : Parts} → parts ≡ parts_of s inpos outpos
      → d ≡ run_ops env (take n ops) (world_with s.vars parts memory output) [] → d ≡ exec env one.tree world
  executes e h =
      h ∙ ap (λ (p : Parts). run_ops env (take n ops) (world_with s.vars p memory output) []) e
      ∙ ap (λ (w : World). run_ops env (take n ops) w []) (world_same s a.idle memory output inpos outpos)
      ∙ ap (λ (o : List ℕ). run_ops env o world []) one.codes
      ∙ compiled env one.tree world (typed-fine text one.tree one.reads)

  pub obeyed : {d : Done} → d ≡ exec env one.tree world → after_immediate budget env d ≡ obey_read budget env world (column_of text) (typed text)
  unfolding obey
  obeyed e =
      ap (after_immediate budget env) e
      ∙ sym (ap (obey_read budget env world (column_of text)) one.reads
      ∙ ap (λ (b : Bool). elim b [ true ↦ stops 3 world page | false ↦ after_immediate budget env (exec env one.tree world) ]) one.free)

  goes : Goes (places_of page) (exec env one.tree world)
  goes = immediate-goes env (places_of page) (find-stands (length reply) page l.short a.good) one.tree world refl one.free a.fits

  -- where it goes on a run may stand, and the record fits
  pub onto : {q : ℕ} {w : World} → done (go q) w ≡ exec env one.tree world → Stands (places_of page) q × Fit (places_of page) w.session
  onto e = by (subst (Goes (places_of page)) (sym e) goes) where
    by : {q : ℕ} {w : World} → Goes (places_of page) (done (go q) w) → Stands (places_of page) q × Fit (places_of page) w.session
    by (to_place h f) = (h, f)
