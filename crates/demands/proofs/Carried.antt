-- What a run carries on to a call that continues it: positions in range. Assumes nothing.
use Prim.Native.Nat.{ℕ, suc, ◌+◌, ◌≤◌}
use mathlib.Core.Path.{◌≡◌}
use mathlib.Core.List.{List}
use mathlib.Core.Option.{some}
use native.Mathlib.Omega.{arith}
use lib.ListN.{length, drop, length-drop}
use lib.Seq.{length-sets}
use Rattle.nibl.specs.Typing.{Gathered, gather}
use Rattle.nibl.specs.Meaning.{World, Env, Done, done, on, skip, go, stop, with_session, exec}
use Rattle.nibl.specs.Runs.{Ran, run_from, env_at, after_step}
use Rattle.nibl.specs.declared.Session.{Session}
use Rattle.demands.specs.Leaves.{world_after}
use Rattle.letter.proofs.Typed.{taken}
use Rattle.demands.proofs.Does.{GivesVariables, gave, refused, gives, Does, writes, takes, refuses, passes, skips, assigns, assigns_flags, stores, goes_to, saves, returns, loops, repeats, leaves, begins, again, finishes, inputs}
use Rattle.demands.proofs.Effects.{exec-does}
use Rattle.demands.proofs.Runs.{every-run}

pub record Placed (input : List ℕ) (w : World) : Type 0 where
  pub inside : w.inpos ≤ length input
  pub room : w.outpos ≤ length w.output

-- a line that was gathered lies in the input
pub gathered-inside : (lim : ℕ) (input : List ℕ) (at : ℕ) (g : Gathered) → at ≤ length input → gather lim (drop at input) ≡ some g → at + g.taken ≤ length input
gathered-inside lim input at g h e = omega (arith, (taken lim (drop at input) g e).there, length-drop at input)

module _ (input : List ℕ) where
  pub other-record : {w : World} (s : Session) → Placed input w → Placed input (with_session w s)
  other-record s p = record { inside = p.inside; room = p.room }

  gives-placed : {w : World} {d : Done} → GivesVariables w d → Placed input w → Placed input (world_after d)
  gives-placed gave p = p
  gives-placed (refused h) p = p
  gives-placed (gives v x g) p = gives-placed g (other-record _ p)

  pub does-placed : {e : Env} {vs : List ℕ} {W : List ℕ → Type 0} {w : World} {d : Done} → e.input ≡ input → Does e vs W w d → Placed input w → Placed input (world_after d)
  does-placed i (writes {w = w} bs n h d) p =
      does-placed i d (record { inside = p.inside; room = omega (arith, length-sets w.output w.outpos bs) })
  does-placed {e = e} i (takes {w = w} g h d) p =
      does-placed i d (record { inside = gathered-inside e.lim input w.inpos g p.inside (rw i at h); room = p.room })
  does-placed i (refuses h) p = p
  does-placed i passes p = p
  does-placed i skips p = p
  does-placed i (assigns v x) p = other-record _ p
  does-placed i (assigns_flags x) p = other-record _ p
  does-placed i (stores m h) p = record { inside = p.inside; room = p.room }
  does-placed i (goes_to n h) p = p
  does-placed i (saves n h g) p = other-record _ p
  does-placed i (returns q h) p = other-record _ p
  does-placed i (loops h) p = other-record _ p
  does-placed i (repeats q h) p = p
  does-placed i (leaves q h) p = other-record _ p
  does-placed i (begins v x y z l h) p = other-record _ p
  does-placed i (again v f h g) p = other-record _ p
  does-placed i (finishes v f h g) p = other-record _ p
  does-placed i (inputs g) p = gives-placed g p

  after-placed : (d : Done) (at cr : ℕ) (k : ℕ → World → Ran) → Placed input (world_after d) → ((q : ℕ) (w : World) → Placed input w → Placed input (k q w).world)
      → Placed input (after_step d at cr k).world
  after-placed (done on w) at cr k p f = f (suc at) w p
  after-placed (done skip w) at cr k p f = f (suc cr) w p
  after-placed (done (go q) w) at cr k p f = f q w p
  after-placed (done (stop n) w) at cr k p f = p

  pub run-placed : (e : Env) → e.input ≡ input → (k q : ℕ) (w : World) → Placed input w → Placed input (run_from k e q w).world
  run-placed e i k q w =
      every-run e (λ k q w r. Placed input w → Placed input r.world) (λ k q w h p. p) (λ q w h p. p) (λ k q w a h p. p)
      (λ k q w x h f p. after-placed (exec (env_at e x.place) x.statement w) x.place x.cr (run_from k e)
      (does-placed i (exec-does (env_at e x.place) x.statement w) p) f) k q w
