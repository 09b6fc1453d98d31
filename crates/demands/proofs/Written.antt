-- "Output only grows by whole items, input only by whole lines": how, in the parts of a call; and so positions stay in range, every stop. Assumes nothing.
use Prim.Native.Nat.{ℕ, zero, suc, ◌+◌, ◌≤◌}
use mathlib.Core.Path.{◌≡◌, refl}
use mathlib.Core.Bool.{Bool, true, false}
use mathlib.Core.List.{List, []}
use native.Mathlib.Omega.{arith}
use lib.ListN.{length}
use lib.Seq.{length-sets}
use lib.Dec.{leb, eqb}
use Rattle.nibl.specs.Tree.{Stmt, Typed, blank, new, clear, run, delete, list, store, immediate}
use Rattle.nibl.specs.Page.{Stored, records_of, program_bytes, has_line, without, with}
use Rattle.nibl.specs.Meaning.{World, Env, on, skip, go, stop, Done, done, with_session, exec}
use Rattle.nibl.specs.Record.{cleared}
use Rattle.nibl.specs.Lent.{Lent, Outcome, stops}
use Rattle.nibl.specs.Runs.{Ran, run_from, env_at, after_step, run_outcome}
use Rattle.nibl.specs.Typing.{limit}
use Rattle.nibl.specs.Lent.{begun, lent_env}
use Rattle.nibl.specs.Calls.{edited, list_from, after_immediate, needs_program, obey, take_line, continue_from, continue_run}
use Rattle.nibl.proofs.Words.{if-split}
use Rattle.demands.specs.Lent.{InRange}
use Rattle.demands.proofs.Does.{GivesVariables, gave, refused, gives, Does, writes, takes, refuses, passes, skips, assigns, assigns_flags, stores, goes_to, saves, returns, loops, repeats, leaves, begins, again, finishes, inputs}
use Rattle.demands.specs.Leaves.{WholeItems, no_item, item, WholeLines, none_taken, line, WroteItems, StaysInRange, world_after}
use Rattle.demands.proofs.Effects.{exec-does, list-does}
use Rattle.demands.proofs.Runs.{every-run}
use Rattle.demands.proofs.Ways.{Takes, no_cr, overlong, unread, reads, every-line, Continues, refused', continues, every-continue}
use Rattle.demands.proofs.Ways as ways
use Rattle.demands.proofs.Running.{list-stays}
use Rattle.demands.proofs.Carried.{gathered-inside}

-- one after the other
items-then : {W : List ℕ → Type 0} {a b c : List ℕ} {i j k : ℕ} → WholeItems W a i b j → WholeItems W b j c k → WholeItems W a i c k
items-then no_item t = t
items-then (item bs n h s) t = item bs n h (items-then s t)

module _ (W : List ℕ → Type 0) (lim : ℕ) (input : List ℕ) where
  lines_then : {i j k : ℕ} → WholeLines lim input i j → WholeLines lim input j k → WholeLines lim input i k
  lines_then none_taken t = t
  lines_then (line g h s) t = line g h (lines_then s t)

  -- from one world to the next
  abbrev pub Grew : World → World → Type 0
  Grew w u = WroteItems W lim input w.output w.outpos w.inpos u.output u.outpos u.inpos

  pub nothing-new : {out : List ℕ} {at from : ℕ} → WroteItems W lim input out at from out at from
  nothing-new = record { items = no_item; lines = none_taken }

  pub grew_then : {a b c : List ℕ} {i j k m n o : ℕ} → WroteItems W lim input a i m b j n → WroteItems W lim input b j n c k o → WroteItems W lim input a i m c k o
  grew_then a b = record { items = items-then a.items b.items; lines = lines_then a.lines b.lines }

  gives-grew : {w : World} {d : Done} → GivesVariables w d → Grew w (world_after d)
  gives-grew gave = nothing-new
  gives-grew (refused h) = nothing-new
  gives-grew (gives v x g) = let r = gives-grew g in record { items = r.items; lines = r.lines }

  pub does-grew : {e : Env} {vs : List ℕ} {Y : List ℕ → Type 0} {w : World} {d : Done} → ((bs : List ℕ) → Y bs → W bs) → e.lim ≡ lim → e.input ≡ input → Does e vs Y w d → Grew w (world_after d)
  does-grew f l i (writes bs n h d) = let r = does-grew f l i d in record { items = item bs (f bs n) h r.items; lines = r.lines }
  does-grew f l i (takes g h d) = let r = does-grew f l i d in record { items = r.items; lines = line g (rw (l, i) at h) r.lines }
  does-grew c l i (refuses h) = nothing-new
  does-grew c l i passes = nothing-new
  does-grew c l i skips = nothing-new
  does-grew c l i (assigns v x) = nothing-new
  does-grew c l i (assigns_flags x) = nothing-new
  does-grew c l i (stores m h) = nothing-new
  does-grew c l i (goes_to n h) = nothing-new
  does-grew c l i (saves n h g) = nothing-new
  does-grew c l i (returns p h) = nothing-new
  does-grew c l i (loops h) = nothing-new
  does-grew c l i (repeats p h) = nothing-new
  does-grew c l i (leaves p h) = nothing-new
  does-grew c l i (begins v x y z k h) = nothing-new
  does-grew c l i (again v f h g) = nothing-new
  does-grew c l i (finishes v f h g) = nothing-new
  does-grew c l i (inputs g) = gives-grew g

  after-grew : (w : World) (d : Done) (p cr : ℕ) (k : ℕ → World → Ran) → Grew w (world_after d) → ((q : ℕ) (u : World) → Grew u (k q u).world) → Grew w (after_step d p cr k).world
  after-grew w (done on u) p cr k r f = grew_then r (f (suc p) u)
  after-grew w (done skip u) p cr k r f = grew_then r (f (suc cr) u)
  after-grew w (done (go q) u) p cr k r f = grew_then r (f q u)
  after-grew w (done (stop n) u) p cr k r f = r

  -- up to what a call leaves
  abbrev pub Came : World → Outcome → Type 0
  Came w o = WroteItems W lim input w.output w.outpos w.inpos o.output o.answer.outpos o.answer.inpos

  module _ (e : Env) where
    pub ended-came : (k q : ℕ) (w v : World) → Grew v w → Grew w (run_from k e q w).world → Came v (run_outcome (run_from k e q w) e.page)
    ended-came k q w v g h =
        let r = run_from k e q w in
        let t = grew_then g h in
        if-split (λ (u : World). Grew v u) (eqb r.stop 14) (λ _. record { items = t.items; lines = t.lines }) (λ _. t)

    done-came : (k : ℕ) (w : World) (d : Done) → Grew w (world_after d) → ((q : ℕ) (u : World) → d ≡ done (go q) u → Grew u (run_from k e q u).world) → Came w (after_immediate k e d)
    done-came k w (done on u) g f = g
    done-came k w (done skip u) g f = g
    done-came k w (done (go q) u) g f = ended-came k q u w g (f q u refl)
    done-came k w (done (stop n) u) g f = g

    edit-came : (w : World) (rs : List Stored) → Came w (edited e.page w rs)
    unfolding edited
    edit-came w rs = if-split (Came w) (leb (length (program_bytes rs)) (length e.page)) (λ _. nothing-new) (λ _. nothing-new)

    -- what a read line writes, of its own and by the run that it begins
    pub record Parts (k : ℕ) (w : World) (t : Typed) : Type 0 where
      pub lists : (n : ℕ) → t ≡ list n → Grew w (world_after (list_from n (records_of e.page) w))
      pub states : (s : Stmt) → t ≡ immediate s → Grew w (world_after (exec e s w))
      pub runs : t ≡ run → Grew w (run_from k e 0 (with_session w (cleared w.session))).world
      pub goes : (s : Stmt) (q : ℕ) (u : World) → t ≡ immediate s → needs_program s ≡ false → exec e s w ≡ done (go q) u → Grew u (run_from k e q u).world

    pub obey-came : (k : ℕ) (w : World) (t : Typed) → Parts k w t → Came w (obey k e w t)
    unfolding obey
    obey-came k w blank o = nothing-new
    obey-came k w new o = edit-came w []
    obey-came k w clear o = nothing-new
    obey-came k w run o = ended-came k 0 _ w nothing-new (o.runs refl)
    obey-came k w (delete n) o = by (has_line n (records_of e.page)) where
      by : (b : Bool) → Came w (elim b [ true ↦ edited e.page w (without n (records_of e.page)) | false ↦ stops 0 w e.page ])
      by true = edit-came w (without n (records_of e.page))
      by false = nothing-new
    obey-came k w (list n) o = done-came k w (list_from n (records_of e.page) w) (o.lists n refl) (λ q u h. absurd (list-stays n (records_of e.page) w q u h))
    obey-came k w (store n t ms) o = edit-came w (with (record { line = n; text = t }) (records_of e.page))
    obey-came k w (immediate q) o = by (needs_program q) refl where
      by : (b : Bool) → needs_program q ≡ b → Came w (elim b [ true ↦ stops 3 w e.page | false ↦ after_immediate k e (exec e q w) ])
      by true z = nothing-new
      by false z = done-came k w (exec e q w) (o.states q refl) (λ p u h. o.goes q p u refl z h)

-- Whatever the items are, positions stay in range
data AnItem : List ℕ → Type 0 where
  some_item : {bs : List ℕ} → AnItem bs

module _ (e : Env) where
  abbrev GrewSo : World → World → Type 0
  GrewSo = Grew AnItem e.lim e.input

  run-grew : (k q : ℕ) (w : World) → GrewSo w (run_from k e q w).world
  run-grew k q w =
      every-run e (λ k q w r. GrewSo w r.world) (λ k q w h. nothing-new AnItem e.lim e.input) (λ q w h. nothing-new AnItem e.lim e.input)
      (λ k q w a h. nothing-new AnItem e.lim e.input)
      (λ k q w x h f. after-grew AnItem e.lim e.input w (exec (env_at e x.place) x.statement w) x.place x.cr (run_from k e)
      (does-grew AnItem e.lim e.input (λ bs n. some_item) refl refl (exec-does (env_at e x.place) x.statement w)) f) k q w

  line-grew : (k : ℕ) (w : World) (t : Typed) → Came AnItem e.lim e.input w (obey k e w t)
  line-grew k w t =
      obey-came AnItem e.lim e.input e k w t
      (record {
        lists = λ n h. does-grew AnItem e.lim e.input (λ bs i. some_item) refl refl (list-does e [] n (records_of e.page) w);
        states = λ s h. does-grew AnItem e.lim e.input (λ bs i. some_item) refl refl (exec-does e s w);
        runs = λ h. let r = run-grew k 0 (with_session w (cleared w.session)) in record { items = r.items; lines = r.lines };
        goes = λ s q u h n d. run-grew k q u;
      })

items-inside : {W : List ℕ → Type 0} {a b : List ℕ} {i j : ℕ} → WholeItems W a i b j → i ≤ length a → j ≤ length b
items-inside no_item h = h
items-inside (item {out = out} {at = at} bs n l s) h = items-inside s (omega (arith, length-sets out at bs))

lines-inside : {lim : ℕ} {input : List ℕ} {i j : ℕ} → WholeLines lim input i j → i ≤ length input → j ≤ length input
lines-inside none_taken h = h
lines-inside {lim = lim} {input = input} (line {at = at} g e s) h = lines-inside s (gathered-inside lim input at g h e)

wrote-inside : {W : List ℕ → Type 0} {input out out' : List ℕ} {at from at' from' : ℕ} → WroteItems W limit input out at from out' at' from' → from ≤ length input → at ≤ length out
    → (from' ≤ length input) × (at' ≤ length out')
wrote-inside r h i = (lines-inside r.lines h, items-inside r.items i)

take-inside : {x : Lent} {o : Outcome} → InRange x → Takes limit x o → StaysInRange x o
take-inside r (ways.refused e) = (r.inpos, r.outpos)
take-inside r (no_cr z e) = (r.inpos, r.outpos)
take-inside {x = x} r (overlong g z e l) = (gathered-inside limit x.input x.call.inpos g r.inpos e, r.outpos)
take-inside {x = x} r (unread g y e) = (gathered-inside limit x.input x.call.inpos g r.inpos y.line, r.outpos)
take-inside {x = x} r (reads g t y e) = wrote-inside (line-grew (lent_env limit x) x.call.budget (begun x g.taken) t) (gathered-inside limit x.input x.call.inpos g r.inpos y.line) r.outpos

continue-inside : {x : Lent} {o : Outcome} → InRange x → Continues limit x o → StaysInRange x o
continue-inside r (refused' e) = (r.inpos, r.outpos)
continue-inside {x = x} r (continues e) = by x.session.paused where
  inside : x.call.inpos + 0 ≤ length x.input
  inside = omega (arith, r.inpos)

  by : (p : ℕ) → StaysInRange x (continue_from limit x p)
  by zero = (inside, r.outpos)
  by (suc q) =
      wrote-inside (ended-came AnItem limit x.input (lent_env limit x) x.call.budget q (begun x 0) (begun x 0) (nothing-new AnItem limit x.input) (run-grew (lent_env limit x) x.call.budget q (begun x 0)))
      inside r.outpos

pub positions-stay-in-range : (x : Lent) → InRange x → StaysInRange x (take_line x) × StaysInRange x (continue_run x)
unfolding take_line continue_run
positions-stay-in-range x r = (take-inside r (every-line limit x), continue-inside r (every-continue limit x))
