-- What a call lends to a run and to a statement. Assumes nothing.
use Prim.Native.Nat.{ℕ}
use mathlib.Core.List.{List}
use mathlib.Core.Path.{◌≡◌, sym, ap, subst}
use native.Mathlib.Omega.{arith}
use lib.ListN.{length}
use Rattle.nibl.specs.Page.{places_of}
use Rattle.nibl.specs.Record.{nowhere, with_paused, unpaused, parts_of}
use Rattle.nibl.specs.declared.Session.{Session}
use Rattle.page.specs.Standing.{Stands}
use Rattle.record.specs.Fit.{Fit}
use Rattle.effect.specs.Worlds.{world_with}
use Rattle.run.specs.Running.{MayRun}
use Rattle.outcome.specs.Ends.{world_at}
use Rattle.outcome.specs.Lends.{Lists, Accepted}

-- a record without a pause, taken apart and put together
pub idle-same : (s : Session) → s.paused ≡ nowhere → unpaused s ≡ s
idle-same s e = ap (with_paused s) (sym e)

pub world_same : (s : Session) → s.paused ≡ nowhere → (memory output : List ℕ) (inpos outpos : ℕ)
    → world_with s.vars (parts_of s inpos outpos) memory output ≡ world_at s memory output inpos outpos
world_same s e memory output inpos outpos = ap (λ (x : Session). world_at x memory output inpos outpos) (idle-same s e)

pub may-run : {reply replies values ops page : List ℕ} {q budget : ℕ} {s : Session} → Lists reply replies values ops → Accepted (length reply) page budget s → Stands (places_of page) q
    → (memory output : List ℕ) (inpos outpos : ℕ) → MayRun page ops values reply replies q budget (world_with s.vars (parts_of s inpos outpos) memory output)
may-run {page = page} {s = s} l a h memory output inpos outpos =
    let p = a.short in
    record {
      places = omega arith;
      short = l.short;
      good = a.good;
      room = l.room;
      stack = l.stack;
      reply_ops = l.reply_ops;
      reply_values = l.reply_values;
      fits = subst (Fit (places_of page)) (sym (idle-same s a.idle)) a.fits;
      stands = h;
      steps = a.steps;
    }
