-- "Fixed effects" of a statement: what a refusing one leaves, and that no stop clears the stacks. Assumes nothing.
use Rattle.std.specs.Prelude.{if◌then◌else◌}
use Rattle.std.specs.Prelude.{Some, None}
use Prim.Native.Nat.{ℕ, suc, ◌+◌, ◌-◌, ◌≤◌}
use mathlib.Core.Path.{◌≡◌, refl, sym, ap, subst, ◌∙◌}
use mathlib.Core.Bool.{Bool, true, false, false≢true}
use mathlib.Core.List.{List, [], ◌++◌, append_assoc}
use native.Mathlib.Omega.{arith}
use lib.ListN.{length, take, drop, length-append}
use lib.Seq.{sets, sets-eq, length-sets, take_at, take-take, drop-append-add, drop-drop, length-take-le}
use lib.Dec.{eqb}
use borrow.Author.Tests.{eqb-true}
use Rattle.nibl.specs.Tree.{Stmt}
use Rattle.nibl.specs.Stack.{pop_of}
use Rattle.nibl.specs.Page.{Stored, is_among}
use Rattle.nibl.specs.Meaning.{World, Env, on, skip, go, stop, Done, done, with_session, exec}
use Rattle.nibl.specs.Record.{position, mark, with_gosubs}
use Rattle.nibl.specs.Runs.{Ran, env_at, after_step, run_from}
use Rattle.nibl.specs.Calls.{list_from}
use Rattle.nibl.specs.declared.Place.{Place}
use Rattle.nibl.specs.declared.Session.{Session}
use Rattle.demands.proofs.Does.{refusals, GivesVariables, gave, refused, gives, Does, writes, takes, refuses, passes, skips, assigns, assigns_flags, stores, goes_to, saves, returns, loops, repeats, leaves, begins, again, finishes, inputs}
use Rattle.demands.specs.Asks.{input_vars}
use Rattle.demands.specs.Items.{ItemOf, ListItem}
use Rattle.demands.specs.Leaves.{WholeItems, no_item, item, WholeLines, none_taken, line, SameButVars, Refused, Returned, Grown, world_after}
use Rattle.demands.proofs.Effects.{exec-does, list-does}
use Rattle.demands.proofs.Runs.{every-run}
use Rattle.demands.proofs.Refusing.{Refusing, exec-refuses, list-refuses}
use Rattle.demands.proofs.Refusing as refusing

-- memory, output and input
record Around (e : Env) (W : List ℕ → Type 0) (w u : World) : Type 0 where
  memory : u.memory ≡ w.memory
  items : WholeItems W w.output w.outpos u.output u.outpos
  lines : WholeLines e.lim e.input w.inpos u.inpos

data Leaves (e : Env) (W : List ℕ → Type 0) (w : World) : Done → Type 0 where
  went_on : {u : World} → Leaves e W w (done on u)
  skipped : {u : World} → Leaves e W w (done skip u)
  jumped : {u : World} {q : ℕ} → Leaves e W w (done (go q) u)
  returned : {u : World} → Returned w.session u.session → Around e W w u → Leaves e W w (done (stop 0) u)
  stopped : {u : World} {n : ℕ} → is_among refusals n ≡ true → SameButVars w.session u.session → Around e W w u → Leaves e W w (done (stop n) u)

module _ (e : Env) (W : List ℕ → Type 0) where
  still : (w : World) → Around e W w w
  still w = record { memory = refl; items = no_item; lines = none_taken }

  same : (s : Session) → SameButVars s s
  same s = record { flags = refl; gosubs = refl; dos = refl; fors = refl; paused = refl }

  -- after a change that is not of the record
  behind : {v w : World} → w.session ≡ v.session → ((u : World) → Around e W w u → Around e W v u) → {d : Done} → Leaves e W w d → Leaves e W v d
  behind h f went_on = went_on
  behind h f skipped = skipped
  behind h f jumped = jumped
  behind h f (returned {u = u} r a) = returned (subst (λ s. Returned s u.session) h r) (f u a)
  behind h f (stopped {u = u} n k a) = stopped n (subst (λ s. SameButVars s u.session) h k) (f u a)

  gives-leave : (v : World) {w : World} {d : Done} → SameButVars v.session w.session → Around e W v w → GivesVariables w d → Leaves e W v d
  gives-leave v k a gave = went_on
  gives-leave v k a (refused h) = stopped h k a
  gives-leave v k a (gives x y g) =
      gives-leave v (record { flags = k.flags; gosubs = k.gosubs; dos = k.dos; fors = k.fors; paused = k.paused }) (record { memory = a.memory; items = a.items; lines = a.lines }) g

  return-leaves : (w : World) (p : Place) → (pop_of w.session.gosubs).top ≡ Some p → (b : Bool) → eqb (position p) mark ≡ b
      → Leaves e W w (done (if b then stop 0 else go (suc (position p))) (with_session w (with_gosubs w.session (pop_of w.session.gosubs).stack)))
  return-leaves w p h true m = returned (record { place = p; top = h; mark = eqb-true (position p) mark m; rest = refl }) (record { memory = refl; items = no_item; lines = none_taken })
  return-leaves w p h false m = jumped

  does-leave : {vs : List ℕ} {w : World} {d : Done} → Does e vs W w d → Leaves e W w d
  does-leave (writes bs n h d) = behind refl (λ u a. record { memory = a.memory; items = item bs n h a.items; lines = a.lines }) (does-leave d)
  does-leave (takes g h d) = behind refl (λ u a. record { memory = a.memory; items = a.items; lines = line g h a.lines }) (does-leave d)
  does-leave (refuses {w = w} h) = stopped h (same w.session) (still w)
  does-leave passes = went_on
  does-leave skips = skipped
  does-leave (assigns v x) = went_on
  does-leave (assigns_flags x) = went_on
  does-leave (stores m h) = went_on
  does-leave (goes_to n h) = jumped
  does-leave (saves n h g) = jumped
  does-leave (returns {w = w} p h) = return-leaves w p h (eqb (position p) mark) refl
  does-leave (loops h) = went_on
  does-leave (repeats p h) = jumped
  does-leave (leaves p h) = went_on
  does-leave (begins v x y z l h) = went_on
  does-leave (again v f h g) = jumped
  does-leave (finishes v f h g) = went_on
  does-leave {w = w} (inputs g) = gives-leave w (same w.session) (still w) g

refused-by : {e : Env} {W : List ℕ → Type 0} {us : List ℕ} {b : Bool} {w u : World} {n : ℕ} → Leaves e W w (done (stop n) u) → Refusing us b w.session.vars (done (stop n) u) → (n ≡ 0 → ⊥)
    → Refused e us W w u
refused-by (returned r a) g z = absurd (z refl)
refused-by (stopped m k a) refusing.ends z = absurd (z refl)
refused-by (stopped m k a) (refusing.refuses i g) z = record { given = g; rest = k; memory = a.memory; items = a.items; lines = a.lines }

-- "A refusing statement leaves variables, flags, stacks, memory as before it, but .." INPUT's given variables; "No stop clears the stacks"
pub refusing-statement : (e : Env) (q : Stmt) (w u : World) (n : ℕ) → exec e q w ≡ done (stop n) u → (n ≡ 0 → ⊥) → Refused e (input_vars q) (ItemOf e q) w u
refusing-statement e q w u n h z = refused-by (rw h at (does-leave e (ItemOf e q) (exec-does e q w))) (rw h at (exec-refuses e q w)) z

-- and a statement that stops with 0 is a RETURN to the mark
pub returning-statement : (e : Env) (q : Stmt) (w u : World) → exec e q w ≡ done (stop 0) u → Returned w.session u.session
returning-statement e q w u h = by (rw h at (does-leave e (ItemOf e q) (exec-does e q w))) where
  by : {u : World} → Leaves e (ItemOf e q) w (done (stop 0) u) → Returned w.session u.session
  by (returned r a) = r
  by (stopped m k a) = absurd (false≢true m)

-- LIST: "lines already out stay"
pub refusing-list : (e : Env) (n : ℕ) (rs : List Stored) (w u : World) (m : ℕ) → list_from n rs w ≡ done (stop m) u → (m ≡ 0 → ⊥) → Refused e [] (ListItem n rs) w u
refusing-list e n rs w u m h z = refused-by (rw h at (does-leave e (ListItem n rs) (list-does e [] n rs w))) (rw h at (list-refuses [] false n rs w)) z

-- items of one kind are items of another
pub items_as : {Y W : List ℕ → Type 0} {out out' : List ℕ} {at at' : ℕ} → ((bs : List ℕ) → Y bs → W bs) → WholeItems Y out at out' at' → WholeItems W out at out' at'
items_as f no_item = no_item
items_as f (item bs n h r) = item bs (f bs n) h (items_as f r)

pub refused_as : {e : Env} {us : List ℕ} {Y W : List ℕ → Type 0} {w u : World} → ((bs : List ℕ) → Y bs → W bs) → Refused e us Y w u → Refused e us W w u
refused_as f r = record { given = r.given; rest = r.rest; memory = r.memory; items = items_as f r.items; lines = r.lines }

-- "output only grows by whole items"
sets-before : (out : List ℕ) (at : ℕ) (bs : List ℕ) → at + length bs ≤ length out → take at (sets out at bs) ≡ take at out
sets-before out at bs h =
    rw (sets-eq bs out at h, append_assoc (take at out) bs (drop (at + length bs) out)) (take_at (take at out) _ at (length-take-le at out (omega arith)))

sets_behind : (out : List ℕ) (at : ℕ) (bs : List ℕ) (k : ℕ) → at + length bs ≤ length out → at + length bs ≤ k → drop k (sets out at bs) ≡ drop k out
sets_behind out at bs k h i =
    let front : List ℕ = take at out ++ bs in
    let l : length front ≡ at + length bs = length-append (take at out) bs ∙ omega (arith, length-take-le at out (omega arith)) in
    let m : length front + (k - (at + length bs)) ≡ k = omega arith in
    let n : at + length bs + (k - (at + length bs)) ≡ k = omega arith in
    rw (sets-eq bs out at h)
    (ap (λ (j : ℕ). drop j (front ++ drop (at + length bs) out)) (sym m)
    ∙ drop-append-add front (drop (at + length bs) out) (k - (at + length bs))
    ∙ drop-drop (k - (at + length bs)) (at + length bs) out
    ∙ ap (λ (j : ℕ). drop j out) n)

pub items-grow : {W : List ℕ → Type 0} {out out' : List ℕ} {at at' : ℕ} → WholeItems W out at out' at' → Grown out at out' at'
items-grow no_item = record { forward = omega arith; long = refl; before = refl; behind = refl }
items-grow (item {out = out} {out' = out'} {at = at} {at' = at'} bs n h r) =
    let g = items-grow r in
    let m : at ≤ at + length bs = omega arith in
    record {
      forward = omega (arith, g.forward);
      long = g.long ∙ length-sets out at bs;
      before =
          sym (take-take at (at + length bs) out' m) ∙ ap (take at) g.before ∙ take-take at (at + length bs) (sets out at bs) m ∙ sets-before out at bs h;
      behind = g.behind ∙ sets_behind out at bs at' h g.forward;
    }

-- "input only by whole lines"
pub lines-forward : {lim : ℕ} {input : List ℕ} {at at' : ℕ} → WholeLines lim input at at' → at ≤ at'
lines-forward none_taken = omega arith
lines-forward (line g h r) = omega (arith, lines-forward r)

-- What no step changes: the lengths of memory and output, and where a run is paused
pub record SameLengths (w u : World) : Type 0 where
  pub memory : length u.memory ≡ length w.memory
  pub output : length u.output ≡ length w.output

pub record Steady (w u : World) : Type 0 where
  pub lengths : SameLengths w u
  pub paused : u.session.paused ≡ w.session.paused

pub same-lengths : {w : World} → SameLengths w w
same-lengths = record { memory = refl; output = refl }

pub then-lengths : {w u v : World} → SameLengths w u → SameLengths u v → SameLengths w v
then-lengths a b = record { memory = b.memory ∙ a.memory; output = b.output ∙ a.output }

steady : {w : World} → Steady w w
steady = record { lengths = same-lengths; paused = refl }

-- where only the rest of the record changed
recorded : {w : World} (s : Session) → s.paused ≡ w.session.paused → Steady w (with_session w s)
recorded s h = record { lengths = record { memory = refl; output = refl }; paused = h }

then-steady : {w u v : World} → Steady w u → Steady u v → Steady w v
then-steady a b = record { lengths = then-lengths a.lengths b.lengths; paused = b.paused ∙ a.paused }

gives-steady : {w : World} {d : Done} → GivesVariables w d → Steady w (world_after d)
gives-steady gave = steady
gives-steady (refused h) = steady
gives-steady (gives v x g) = then-steady (recorded _ refl) (gives-steady g)

pub does-steady : {e : Env} {vs : List ℕ} {W : List ℕ → Type 0} {w : World} {d : Done} → Does e vs W w d → Steady w (world_after d)
does-steady (writes {w = w} bs n h d) =
    then-steady (record { lengths = record { memory = refl; output = length-sets w.output w.outpos bs }; paused = refl }) (does-steady d)
does-steady (takes g h d) = then-steady (record { lengths = record { memory = refl; output = refl }; paused = refl }) (does-steady d)
does-steady (refuses h) = steady
does-steady passes = steady
does-steady skips = steady
does-steady (assigns v x) = recorded _ refl
does-steady (assigns_flags x) = recorded _ refl
does-steady (stores m h) = record { lengths = record { memory = h; output = refl }; paused = refl }
does-steady (goes_to n h) = steady
does-steady (saves n h g) = recorded _ refl
does-steady (returns p h) = recorded _ refl
does-steady (loops h) = recorded _ refl
does-steady (repeats p h) = steady
does-steady (leaves p h) = recorded _ refl
does-steady (begins v x y z l h) = recorded _ refl
does-steady (again v f h g) = recorded _ refl
does-steady (finishes v f h g) = recorded _ refl
does-steady (inputs g) = gives-steady g

after-steady : (w : World) (d : Done) (p cr : ℕ) (k : ℕ → World → Ran) → Steady w (world_after d) → ((q : ℕ) (u : World) → Steady u (k q u).world)
    → Steady w (after_step d p cr k).world
after-steady w (done on u) p cr k l f = then-steady l (f (suc p) u)
after-steady w (done skip u) p cr k l f = then-steady l (f (suc cr) u)
after-steady w (done (go q) u) p cr k l f = then-steady l (f q u)
after-steady w (done (stop n) u) p cr k l f = l

pub run-steady : (k : ℕ) (e : Env) (q : ℕ) (w : World) → Steady w (run_from k e q w).world
run-steady k e q w =
    every-run e (λ k q w r. Steady w r.world) (λ k q w h. steady) (λ q w h. steady) (λ k q w a h. steady)
    (λ k q w x h i. after-steady w (exec (env_at e x.place) x.statement w) x.place x.cr (run_from k e)
    (does-steady (exec-does (env_at e x.place) x.statement w)) i) k q w
