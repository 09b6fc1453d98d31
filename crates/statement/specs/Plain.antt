-- A statement as far as it runs without the parts, in any world.
use Rattle.std.specs.Prelude.{ℕ, ◌≤◌, List, [], ◌≡◌, length, drop}
use Rattle.nibl.specs.Meaning.{World, Env, Done}
use Rattle.nibl.specs.declared.Place.{Place}
use Rattle.nibl.specs.declared.access.Sight.{Sight}
use Rattle.nibl.specs.declared.PlaceStack.{PlaceStack}
use Rattle.nibl.specs.declared.ForStack.{ForStack}
use Rattle.nibl.specs.declared.Parts.{Parts}
use Rattle.world.specs.Turns.{gosubs_in, dos_in, fors_in}
use Rattle.operation.specs.Operations.{run_ops}
use Rattle.operation.specs.Stacks.{stack_of}
use Rattle.effect.specs.Acts.{call_turn, loop_turn, count_turn}
use Rattle.effect.specs.Worlds.{env_with, world_with, did, did_in}
use Rattle.statement.specs.declared.Plain.{Plain}
use Rattle.statement.specs.declared.Plain.TheVariants as plain

-- what such a statement does not see: the limit, the input, its place, the stack of GOSUB, the positions and the output
pub record Around : Type 0 where
  pub lim : ℕ
  pub input : List ℕ
  pub here : Place
  pub gosubs : PlaceStack
  pub inpos : ℕ
  pub outpos : ℕ
  pub output : List ℕ

-- and what it sees but does not change
pub record InView : Type 0 where
  pub page : List ℕ
  pub flags : ℕ
  pub sight : Sight
  pub dos : PlaceStack
  pub fors : ForStack
  pub memory : List ℕ

module _ (s : InView) (a : Around) where
  abbrev pub env_from : Env
  env_from = env_with a.lim s.page a.input s.sight a.here

  abbrev pub parts_from : Parts
  parts_from = record { flags = s.flags; gosubs = a.gosubs; dos = s.dos; fors = s.fors; inpos = a.inpos; outpos = a.outpos }

  abbrev pub world_from : List ℕ → World
  world_from vars = world_with vars parts_from s.memory a.output

  -- where it is at its end, and what is left to do where it is not
  abbrev pub plain_in : Plain → List ℕ → List ℕ → List ℕ → Done
  plain_in (plain.Ends w) ops vars values = did_in (did w parts_from) vars s.memory a.output
  plain_in (plain.Calls c x) ops vars values = gosubs_in (world_from vars) (call_turn s.page a.here a.gosubs c x)
  plain_in (plain.Loops c x) ops vars values = dos_in (world_from vars) (loop_turn a.here s.dos c x)
  plain_in (plain.Counts c v x y z) ops vars values = fors_in (world_from vars) (count_turn a.here s.fors vars c v x y z)
  plain_in (plain.Needs i n) ops vars values = run_ops env_from (drop i ops) (world_from vars) (stack_of values n)

abbrev pub view_of : List ℕ → ℕ → Sight → PlaceStack → ForStack → List ℕ → InView
view_of page flags sight dos fors memory = record { page = page; flags = flags; sight = sight; dos = dos; fors = fors; memory = memory }

abbrev pub plain_height : Plain → ℕ
plain_height (plain.Ends w) = 0
plain_height (plain.Calls c x) = 0
plain_height (plain.Loops c x) = 0
plain_height (plain.Counts c v x y z) = 0
plain_height (plain.Needs i n) = n

abbrev pub plain_at : Plain → ℕ
plain_at (plain.Ends w) = 0
plain_at (plain.Calls c x) = 0
plain_at (plain.Loops c x) = 0
plain_at (plain.Counts c v x y z) = 0
plain_at (plain.Needs i n) = i

-- What was done and what is left to do come to what the statement does, whatever is around. How much of it is done is not said.
pub record RunsPlainly (ops page : List ℕ) (flags : ℕ) (sight : Sight) (dos : PlaceStack) (fors : ForStack) (vars memory : List ℕ) (r : Plain) (vars' values' : List ℕ) : Type 0 where
  pub runs : (a : Around) → (let s = view_of page flags sight dos fors memory in plain_in s a r ops vars' values' ≡ run_ops (env_from s a) ops (world_from s a vars) [])
  pub within : plain_height r ≤ plain_at r

-- what is left at an operation is what the list does from there on, in any world with a page of at most 65,535 bytes
pub record LeftAt (ops values : List ℕ) (at height : ℕ) (r : Plain) : Type 0 where
  pub runs : (s : InView) (a : Around) (vars : List ℕ) → length s.page ≤ 65535
      → plain_in s a r ops vars values ≡ run_ops (env_from s a) (drop at ops) (world_from s a vars) (stack_of values height)
  pub within : plain_height r ≤ plain_at r
