-- A statement as far as it runs without the parts: its values first, then an operation that acts at once. Assumes nothing.
use Prim.Native.Nat.{ℕ, ◌+◌, ◌≤◌, ◌<◌}
use mathlib.Core.Path.{◌≡◌, refl, sym, ap, subst, ◌∙◌}
use mathlib.Core.Bool.{true, false}
use mathlib.Core.Logic.{◌⊎◌}
use mathlib.Core.List.{List, []}
use mathlib.Core.Option.{some}
use native.Mathlib.Omega.{arith}
use borrow.Author.Tests.{le-ltb}
use lib.ListN.{length, drop, get_or}
use Rattle.std.proofs.lemmas.List.{drop_more}
use Rattle.nibl.specs.Values.{is, no}
use Rattle.nibl.specs.Meaning.{stop, Done, done, went}
use Rattle.codes.specs.Codes.{code_in, argument_in, effects, code_gosub, code_return, code_do, code_until, code_for, code_next}
use Rattle.world.specs.Turns.{way_of, gosubs_in, dos_in, fors_in}
use Rattle.world.specs.declared.jump.Way.{Way}
use Rattle.operation.specs.Operations.{Sources, at_effect, values_first, effect_by, is_last, run_ops}
use Rattle.operation.specs.Stacks.{sources, stack_of}
use Rattle.operation.proofs.Firsts.{runs-first}
use Rattle.effect.specs.Worlds.{did, did_in}
use Rattle.effect.specs.Acts.{acted_to, act_by, call_turn, loop_turn, count_turn}
use Rattle.effect.proofs.Codes.{Given}
use Rattle.effect.proofs.Acts.{act-does, call-does, loop-does, count-does}
use Rattle.statement.specs.Lending.{is_on}
use Rattle.nibl.specs.declared.ForStack.{ForStack}
use Rattle.nibl.specs.declared.PlaceStack.{PlaceStack}
use Rattle.nibl.specs.declared.access.Sight.{Sight}
use Rattle.statement.specs.declared.Plain.{Plain}
use Rattle.statement.specs.declared.Plain.TheVariants as plain
use Rattle.statement.specs.Plain.{InView, Around, view_of, env_from, parts_from, world_from, plain_in, plain_height, plain_at, RunsPlainly, LeftAt}
use Rattle.statement.proofs.Running.{went_on, went-off, effect-way, effect-ends}

-- what is left of a list, on the variables so far, does what the whole list does
pub record Reaches (s : InView) (ops vars₀ : List ℕ) (i : ℕ) (vars : List ℕ) : Type 0 where
  pub at : (a : Around) → run_ops (env_from s a) ops (world_from s a vars₀) [] ≡ run_ops (env_from s a) (drop i ops) (world_from s a vars) []

-- the values that stand next
module _ (s : InView) (a : Around) (ops vars : List ℕ) (i : ℕ) where
  abbrev src : Sources
  src = sources vars s.flags s.sight s.page s.memory

  pub plain-refused : {n : ℕ} → no n ≡ values_first src (drop i ops) [] → run_ops (env_from s a) (drop i ops) (world_from s a vars) [] ≡ done (stop n) (world_from s a vars)
  plain-refused e = runs-first (env_from s a) (world_from s a vars) (drop i ops) [] ∙ rw (← e) refl

  pub plain-reached : {rest vs : List ℕ} → is (at_effect rest vs) ≡ values_first src (drop i ops) []
      → run_ops (env_from s a) (drop i ops) (world_from s a vars) [] ≡ run_ops (env_from s a) rest (world_from s a vars) vs
  plain-reached e = runs-first (env_from s a) (world_from s a vars) (drop i ops) [] ∙ rw (← e) refl

-- what an operation is given
module _ (s : InView) (a : Around) (short : length s.page ≤ 65535) (ops vars vs : List ℕ) (j : ℕ) where
  abbrev there : ℕ
  there = get_or ops j 0

  abbrev given : Given
  given = record {
    env = env_from s a;
    short = short;
    arg = argument_in there;
    x = get_or vs 0 0;
    y = get_or vs 1 0;
    z = get_or vs 2 0;
    vars = vars;
    memory = s.memory;
    output = a.output;
    parts = parts_from s a;
  }

  -- one that acts at once
  module _ (h : j < length ops) {x : ℕ} (top : x ≡ get_or vs 0 0) (r : Way) {us : List ℕ}
      (e : acted_to (some (way_of r)) us ≡ act_by s.page s.dos s.fors (code_in there) (argument_in there) x vars)
    where
      plain-went : run_ops (env_from s a) (drop j ops) (world_from s a vars) vs ≡ went (done (way_of r) (world_from s a us)) (λ u. run_ops (env_from s a) (drop (j + 1) ops) u [])
      plain-went =
          let d = act-does given (code_in there) (rw top at e) in
          effect-way (env_from s a) (world_from s a vars) vs (drop_more ops j 0 h) (le-ltb _ _ d.1) d.2 ∙ rw d.0 refl

      pub plain-on : is_on r ≡ true → run_ops (env_from s a) (drop j ops) (world_from s a vars) vs ≡ run_ops (env_from s a) (drop (j + 1) ops) (world_from s a us) []
      plain-on t = plain-went ∙ went_on r _ _ t

      pub plain-off : is_on r ≡ false → run_ops (env_from s a) (drop j ops) (world_from s a vars) vs ≡ done (way_of r) (world_from s a us)
      plain-off t = plain-went ∙ went-off r _ _ t

-- What is left at an operation that does not: it and the rest, or a turn where there is no rest
module _ (ops values : List ℕ) (at height : ℕ) where
  pub left-needs : height ≤ at → LeftAt ops values at height (plain.Needs at height)
  left-needs h = record { runs = λ s a vars short. refl; within = h }

  module _ (h : at < length ops) (l : length ops ≤ at + 1) where
    abbrev code : ℕ
    code = code_in (get_or ops at 0)

    abbrev nth : ℕ → ℕ
    nth k = get_or (stack_of values height) k 0

    ends : (s : InView) (a : Around) (vars : List ℕ) → length s.page ≤ 65535 → {d : Done}
        → (effect_by (env_from s a) code (argument_in (get_or ops at 0)) (nth 0) (nth 1) (nth 2) (world_from s a vars) ≡ d) × (effects ≤ code) × (is_last code ≡ false)
        → d ≡ run_ops (env_from s a) (drop at ops) (world_from s a vars) (stack_of values height)
    ends s a vars short f = sym (effect-ends (env_from s a) ops (world_from s a vars) (stack_of values height) at h l f)

    pub left-calls : (code ≡ code_gosub) ⊎ (code ≡ code_return) → LeftAt ops values at height (plain.Calls code (nth 0))
    left-calls k = record { runs = λ s a vars short. ends s a vars short (call-does (given s a short ops vars (stack_of values height) at) k); within = omega arith }

    pub left-loops : (code ≡ code_do) ⊎ (code ≡ code_until) → LeftAt ops values at height (plain.Loops code (nth 0))
    left-loops k = record { runs = λ s a vars short. ends s a vars short (loop-does (given s a short ops vars (stack_of values height) at) k); within = omega arith }

    pub left-counts : (code ≡ code_for) ⊎ (code ≡ code_next) → LeftAt ops values at height (plain.Counts code (argument_in (get_or ops at 0)) (nth 0) (nth 1) (nth 2))
    left-counts k = record { runs = λ s a vars short. ends s a vars short (count-does (given s a short ops vars (stack_of values height) at) k); within = omega arith }

-- What the answer says of the whole statement: where it is at its end, where a turn is left, and where it needs the parts
module _ {ops page : List ℕ} {flags : ℕ} {sight : Sight} {dos : PlaceStack} {fors : ForStack} {vars memory : List ℕ} {r : Plain} {vars' values' : List ℕ}
    (runs : RunsPlainly ops page flags sight dos fors vars memory r vars' values')
  where
    abbrev sees : InView
    sees = view_of page flags sight dos fors memory

    pub plain-ends : {w : Way} → r ≡ plain.Ends w → (a : Around)
        → did_in (did w (parts_from sees a)) vars' memory a.output ≡ run_ops (env_from sees a) ops (world_from sees a vars) []
    plain-ends e a = ap (λ (x : Plain). plain_in sees a x ops vars' values') (sym e) ∙ runs.runs a

    pub plain-calls : {c x : ℕ} → r ≡ plain.Calls c x → (a : Around)
        → gosubs_in (world_from sees a vars') (call_turn page a.here a.gosubs c x) ≡ run_ops (env_from sees a) ops (world_from sees a vars) []
    plain-calls e a = ap (λ (x : Plain). plain_in sees a x ops vars' values') (sym e) ∙ runs.runs a

    pub plain-loops : {c x : ℕ} → r ≡ plain.Loops c x → (a : Around)
        → dos_in (world_from sees a vars') (loop_turn a.here dos c x) ≡ run_ops (env_from sees a) ops (world_from sees a vars) []
    plain-loops e a = ap (λ (x : Plain). plain_in sees a x ops vars' values') (sym e) ∙ runs.runs a

    pub plain-counts : {c v x y z : ℕ} → r ≡ plain.Counts c v x y z → (a : Around)
        → fors_in (world_from sees a vars') (count_turn a.here fors vars' c v x y z) ≡ run_ops (env_from sees a) ops (world_from sees a vars) []
    plain-counts e a = ap (λ (x : Plain). plain_in sees a x ops vars' values') (sym e) ∙ runs.runs a

    pub plain-needs : {i n : ℕ} → r ≡ plain.Needs i n → (a : Around)
        → run_ops (env_from sees a) (drop i ops) (world_from sees a vars') (stack_of values' n) ≡ run_ops (env_from sees a) ops (world_from sees a vars) []
    plain-needs e a = ap (λ (x : Plain). plain_in sees a x ops vars' values') (sym e) ∙ runs.runs a

    pub plain-within : {i n : ℕ} → r ≡ plain.Needs i n → n ≤ i
    plain-within e = subst (λ (x : Plain). plain_height x ≤ plain_at x) e runs.within
