-- Operations run one at a time, and the two that take the rest of the list. Assumes nothing.
use Prim.Native.Nat.{ℕ, ◌+◌, ◌≤◌, ◌<◌}
use mathlib.Core.Path.{◌≡◌, refl, sym, ap, ◌∙◌}
use mathlib.Core.Bool.{Bool, true, false}
use mathlib.Core.List.{List, [], ◌∷◌}
use native.Mathlib.Omega.{arith}
use borrow.Author.Tests.{le-leb, lt-ltb, le-ltb}
use lib.Dec.{ltb, eqb}
use lib.ListN.{length, drop, get_or, drop_of_length-le}
use Rattle.std.proofs.lemmas.List.{drop_more}
use Rattle.nibl.specs.Values.{Result, is, no}
use Rattle.nibl.specs.Stack.{no_place}
use Rattle.nibl.specs.declared.stop.Stop.{Stop}
use Rattle.nibl.specs.found.Read.{replied}
use Rattle.nibl.specs.Meaning.{World, Env, on, skip, go, stop, Done, done, given, went, keep_in, store_at}
use Rattle.nibl.specs.declared.Place.{Place}
use Rattle.nibl.specs.declared.access.Sight.{Sight}
use Rattle.codes.specs.Codes.{code_in, argument_in, effects, code_store_string}
use Rattle.world.specs.Stores.{args_of}
use Rattle.reader.specs.Answers.{has_room}
use Rattle.world.specs.Turns.{way_of}
use Rattle.world.specs.declared.jump.Way.{Way}
use Rattle.world.specs.declared.jump.Way.TheVariants as way
use Rattle.world.specs.Hearing.{Heard, hears, hearing, heard_in}
use Rattle.world.proofs.input.Answers.{heard-in}
use Rattle.operation.specs.Operations.{sources_in, value_step, effect_by, variables_of, is_last, last_by, run_ops}
use Rattle.operation.specs.Stacks.{sources, assigned_by, assigning, assigned_in}
use Rattle.operation.proofs.Meaning.{reply-is}
use Rattle.nibl.specs.declared.Parts.{Parts}
use Rattle.effect.specs.declared.Did.{Did}
use Rattle.effect.specs.Worlds.{world_with, unsensing, env_with, did, did_in}
use Rattle.nibl.specs.Record.{parts_at}
use Rattle.effect.proofs.Codes.{effect-any-sense}
use Rattle.statement.specs.Lending.{is_on, takes_reply}

-- ---- the operations that take the rest of the list

-- what is done with a reply may be told otherwise
heard-same : (w : World) (h : Heard) (j k : World → List ℕ → Done) → ((u : World) (bs : List ℕ) → j u bs ≡ k u bs) → heard_in w h j ≡ heard_in w h k
heard-same w h j k s = go h.answer
  where
    go : (a : Result (List ℕ)) → heard_in w (hears a h.inpos h.output h.outpos) j ≡ heard_in w (hears a h.inpos h.output h.outpos) k
    go (is bs) = s _ bs
    go (no n) = refl

module _ (e : Env) (o x : ℕ) (ops : List ℕ) (w : World) where
  pub last-stores : eqb (code_in o) code_store_string ≡ true → last_by e o x ops w ≡ keep_in w (store_at e.sight.access w.memory x (args_of ops))
  unfolding last_by
  last-stores h = rw h refl

  pub last-asks : eqb (code_in o) code_store_string ≡ false
      → last_by e o x ops w ≡ heard_in w (hearing e.lim e.input w.inpos w.output w.outpos) (takes_reply e.sight e.page (variables_of ops) (argument_in o))
  unfolding last_by
  last-asks h =
      rw h
      (heard-in e w _
      ∙ heard-same w (hearing e.lim e.input w.inpos w.output w.outpos) _ (takes_reply e.sight e.page (variables_of ops) (argument_in o))
      (λ u bs. sym (reply-is e u (variables_of ops) (argument_in o) bs)))

-- neither sees the place
pub last-any-here : (lim : ℕ) (page input : List ℕ) (sight : Sight) (here : Place) (o x : ℕ) (ops : List ℕ) (w : World)
    → last_by (env_with lim page input sight here) o x ops w ≡ last_by (env_with lim page input sight no_place) o x ops w
last-any-here lim page input sight here o x ops w = go (eqb (code_in o) code_store_string) refl
  where
    go : (t : Bool) → eqb (code_in o) code_store_string ≡ t → last_by (env_with lim page input sight here) o x ops w ≡ last_by (env_with lim page input sight no_place) o x ops w
    go true h = last-stores (env_with lim page input sight here) o x ops w h ∙ sym (last-stores (env_with lim page input sight no_place) o x ops w h)
    go false h = last-asks (env_with lim page input sight here) o x ops w h ∙ sym (last-asks (env_with lim page input sight no_place) o x ops w h)

-- ---- INPUT of values: without a reply, and with one

pub reply-room : (text ops : List ℕ) → length text ≤ length ops → length text ≤ 65535 → has_room text ops ≡ true
reply-room text ops l s = rw (le-leb (length text) (length ops) l, le-leb (length text) 65535 s) refl

module _ (lim : ℕ) (input : List ℕ) (sight : Sight) (page vs : List ℕ) (n : ℕ) (p : Parts) (vars memory output : List ℕ) where
  abbrev answer : Done
  answer = heard_in (world_with vars p memory output) (hearing lim input p.inpos output p.outpos) (takes_reply sight page vs n)

  pub no-reply : {after : List ℕ} {i o : ℕ} {k : Stop} → hears (no k.0) i after o ≡ hearing lim input p.inpos output p.outpos
      → did_in (did (way.Stop k) (parts_at p i o)) vars memory after ≡ answer
  no-reply h = ap (λ r. heard_in (world_with vars p memory output) r (takes_reply sight page vs n)) h

  pub reply-taken : {after bs vars' : List ℕ} {i o : ℕ} (r : Way) → hears (is bs) i after o ≡ hearing lim input p.inpos output p.outpos
      → assigned_by r vars' ≡ assigning (sources vars p.flags sight page memory) vs (replied n bs)
      → did_in (did r (parts_at p i o)) vars' memory after ≡ answer
  reply-taken {after} {i = i} {o = o} r h a =
      ap (assigned_in (world_with vars (parts_at p i o) memory after)) a
      ∙ ap (λ r. heard_in (world_with vars p memory output) r (takes_reply sight page vs n)) h

-- ---- one operation of a list

-- an effect, by its end
pub not_on : (r : Way) → (r ≡ way.On → ⊥) → is_on r ≡ false
not_on way.On h = absurd (h refl)
not_on way.Skip h = refl
not_on (way.Go q) h = refl
not_on (way.Stop n) h = refl

pub went_on : (r : Way) (u : World) (k : World → Done) → is_on r ≡ true → went (done (way_of r) u) k ≡ k u
went_on way.On u k h = refl
went_on way.Skip u k h = let z : ◌≡◌ {A = ℕ} 0 1 = cc in absurd (omega arith)
went_on (way.Go q) u k h = let z : ◌≡◌ {A = ℕ} 0 1 = cc in absurd (omega arith)
went_on (way.Stop n) u k h = let z : ◌≡◌ {A = ℕ} 0 1 = cc in absurd (omega arith)

pub went-off : (r : Way) (u : World) (k : World → Done) → is_on r ≡ false → went (done (way_of r) u) k ≡ done (way_of r) u
went-off way.On u k h = let z : ◌≡◌ {A = ℕ} 0 1 = cc in absurd (omega arith)
went-off way.Skip u k h = refl
went-off (way.Go q) u k h = refl
went-off (way.Stop n) u k h = refl

module _ (e : Env) (w : World) (vs : List ℕ) {ops : List ℕ} where
  -- by what stands first
  module _ {o : ℕ} {rest : List ℕ} (s : ops ≡ o ∷ rest) where
    value-way : ltb (code_in o) effects ≡ true → run_ops e ops w vs ≡ given (value_step (sources_in e w) o vs) w (λ us. run_ops e rest w us)
    unfolding run_ops
    value-way f = ap (λ l. run_ops e l w vs) s ∙ rw (f, run_ops) refl

    pub value_on : {us : List ℕ} → code_in o < effects → is us ≡ value_step (sources_in e w) o vs → run_ops e ops w vs ≡ run_ops e rest w us
    value_on f v = value-way (lt-ltb _ _ f) ∙ rw (← v) refl

    pub value-off : {n : ℕ} → code_in o < effects → no n ≡ value_step (sources_in e w) o vs → run_ops e ops w vs ≡ done (stop n) w
    value-off f v = value-way (lt-ltb _ _ f) ∙ rw (← v) refl

    last-way : ltb (code_in o) effects ≡ false → is_last (code_in o) ≡ true → run_ops e ops w vs ≡ last_by e o (get_or vs 0 0) rest w
    unfolding run_ops
    last-way f g = ap (λ l. run_ops e l w vs) s ∙ rw (f, run_ops) (rw (g, run_ops) refl)

    pub effect-way : ltb (code_in o) effects ≡ false → is_last (code_in o) ≡ false
        → run_ops e ops w vs ≡ went (effect_by e (code_in o) (argument_in o) (get_or vs 0 0) (get_or vs 1 0) (get_or vs 2 0) w) (λ u. run_ops e rest u [])
    unfolding run_ops
    effect-way f g = ap (λ l. run_ops e l w vs) s ∙ rw (f, run_ops) (rw (g, run_ops) refl)

  pub run_end : ops ≡ [] → run_ops e ops w vs ≡ done on w
  unfolding run_ops
  run_end h = rw h refl

-- the last operation of a list, where it changes the world
went-end : (d : Done) → went d (done on) ≡ d
went-end (done on w) = refl
went-end (done skip w) = refl
went-end (done (go q) w) = refl
went-end (done (stop n) w) = refl

pub effect-ends : (e : Env) (ops : List ℕ) (w : World) (vs : List ℕ) (i : ℕ) → i < length ops → length ops ≤ i + 1 → {d : Done}
    → (effect_by e (code_in (get_or ops i 0)) (argument_in (get_or ops i 0)) (get_or vs 0 0) (get_or vs 1 0) (get_or vs 2 0) w ≡ d) × (effects ≤ code_in (get_or ops i 0)) × (is_last (code_in (get_or ops i 0)) ≡ false)
    → run_ops e (drop i ops) w vs ≡ d
unfolding run_ops
effect-ends e ops w vs i h l {d} f =
    effect-way e w vs (drop_more ops i 0 h) (le-ltb _ _ f.1) f.2
    ∙ ap (λ (x : Done). went x (λ u. run_ops e (drop (i + 1) ops) u [])) f.0
    ∙ ap (λ (rest : List ℕ). went d (λ u. run_ops e rest u [])) (drop_of_length-le ops l)
    ∙ went-end d

-- As the functions tell it: the line's slots are as many as before, the values are those on top
module _ (lim : ℕ) (page input : List ℕ) (sight : Sight) (here : Place) where
  abbrev env : Env
  env = env_with lim page input sight here

  module _ (w : World) (vs : List ℕ) {ops : List ℕ} {o : ℕ} {rest : List ℕ} {slots x : ℕ} (d : Did) {vars memory output : List ℕ}
      (s : ops ≡ o ∷ rest) (f : effects ≤ code_in o) (l : slots ≡ lim) (top : x ≡ get_or vs 0 0)
    where
      pub last-run : is_last (code_in o) ≡ true
          → did_in d vars memory output ≡ last_by (env_with slots page input sight no_place) o x rest w
          → run_ops env ops w vs ≡ did_in d vars memory output
      last-run g r =
          last-way env w vs s (le-ltb _ _ f) g
          ∙ last-any-here lim page input sight here o (get_or vs 0 0) rest w
          ∙ rw (← top, ← l) (sym r)

      module _ {y z : ℕ} (g : is_last (code_in o) ≡ false) (next : y ≡ get_or vs 1 0) (third : z ≡ get_or vs 2 0)
          (r : did_in d vars memory output ≡ effect_by (env_with slots page input (unsensing sight.access) here) (code_in o) (argument_in o) x y z w)
        where
          told : effect_by env (code_in o) (argument_in o) (get_or vs 0 0) (get_or vs 1 0) (get_or vs 2 0) w ≡ did_in d vars memory output
          told =
              effect-any-sense lim page input sight here (code_in o) (argument_in o) (get_or vs 0 0) (get_or vs 1 0) (get_or vs 2 0) w
              ∙ rw (← top, ← next, ← third, ← l) (sym r)

          effect-went : run_ops env ops w vs ≡ went (did_in d vars memory output) (λ u. run_ops env rest u [])
          effect-went = effect-way env w vs s (le-ltb _ _ f) g ∙ rw told refl

          pub effect-on : d.way ≡ way.On → run_ops env ops w vs ≡ run_ops env rest (world_with vars d.parts memory output) []
          effect-on t = effect-went ∙ went_on d.way _ _ (ap is_on t)

          pub effect-off : (d.way ≡ way.On → ⊥) → run_ops env ops w vs ≡ did_in d vars memory output
          effect-off t = effect-went ∙ went-off d.way _ _ (not_on d.way t)
