-- One outcome: two answers that meet the promise of `effect`, of `act` or of one of the turns for the same arguments are equal, and
-- so are the variables, the memory and the output; of the line's slots it says nothing. Assumes nothing.
use Prim.Native.Nat.{ℕ}
use Rattle.std.specs.Prelude.{Option as Opt, Some, None}
use Rattle.world.specs.declared.jump.Way.{Way}
use mathlib.Core.Path.{◌≡◌, refl, ap}
use mathlib.Core.List.{List}
use mathlib.Core.Option.{Option, none, some}
use native.Mathlib.Omega.{arith}
use Rattle.nibl.proofs.Determined.{determined}
use Rattle.nibl.specs.Meaning.{World, Next, Done, done}
use Rattle.nibl.specs.declared.Place.{Place}
use Rattle.nibl.specs.declared.PlaceStack.{PlaceStack}
use Rattle.nibl.specs.declared.ForStack.{ForStack}
use Rattle.world.specs.Turns.{way_of, turned, turned_for}
use Rattle.world.specs.declared.jump.Turn.{Turn}
use Rattle.world.proofs.jump.Determined.{way-determined, turn-determined, for-turn-determined}
use Rattle.effect.specs.Acts.{Acted, acted, way_at_once, call_turn, loop_turn, count_turn}
use Rattle.effect.specs.declared.Did.{Did}
use Rattle.effect.specs.Worlds.{did_in}

abbrev next_of : Done → Next
next_of (done n w) = n

abbrev world_left : Done → World
world_left (done n w) = w

pub effect-determined : (x : Done) (d e : Did) (vars vars' memory memory' output output' : List ℕ)
    → did_in d vars memory output ≡ x → did_in e vars' memory' output' ≡ x → (d ≡ e) × (vars ≡ vars') × (memory ≡ memory') × (output ≡ output')
effect-determined x d e vars vars' memory memory' output output' p q =
    let s = determined x (did_in d vars memory output) (did_in e vars' memory' output') p q in
    let w : d.way ≡ e.way = way-determined (way_of e.way) d.way e.way (λ i. next_of (s i)) refl in (
      λ i. record {
        way = w i;
        parts = record {
          flags = (world_left (s i)).session.flags;
          gosubs = (world_left (s i)).session.gosubs;
          dos = (world_left (s i)).session.dos;
          fors = (world_left (s i)).session.fors;
          inpos = (world_left (s i)).inpos;
          outpos = (world_left (s i)).outpos;
        };
      },
      λ i. (world_left (s i)).session.vars,
      λ i. (world_left (s i)).memory,
      λ i. (world_left (s i)).output,
    )

abbrev end_of : Option Next → Next → Next
end_of none d = d
end_of (some n) d = n

at-once-same : (a b : Opt Way) → way_at_once a ≡ way_at_once b → a ≡ b
at-once-same (Some v) (Some w) e = ap Some (way-determined (way_of w) v w (ap (λ (o : Option Next). end_of o (way_of w)) e) refl)
at-once-same None None e = refl
at-once-same (Some v) None e = let z : ◌≡◌ {A = ℕ} 0 1 = cc in absurd (omega arith)
at-once-same None (Some w) e = let z : ◌≡◌ {A = ℕ} 0 1 = cc in absurd (omega arith)

pub act-determined : (x : Acted) (a b : Opt Way) (vars vars' : List ℕ) → acted a vars ≡ x → acted b vars' ≡ x → (a ≡ b) × (vars ≡ vars')
act-determined x a b vars vars' p q =
    let e = determined x (acted a vars) (acted b vars') p q in
    (at-once-same a b (λ i. (e i).next), λ i. (e i).vars)

pub call-determined : (page : List ℕ) (here : Place) (s : PlaceStack) (code x : ℕ) (a b : Turn PlaceStack)
    → turned a ≡ call_turn page here s code x → turned b ≡ call_turn page here s code x → a ≡ b
call-determined page here s code x = turn-determined (call_turn page here s code x)

pub loop-determined : (here : Place) (s : PlaceStack) (code x : ℕ) (a b : Turn PlaceStack) → turned a ≡ loop_turn here s code x → turned b ≡ loop_turn here s code x → a ≡ b
loop-determined here s code x = turn-determined (loop_turn here s code x)

pub count-determined : (here : Place) (s : ForStack) (vars : List ℕ) (code arg x y z : ℕ) (a b : Turn ForStack) (u u' : List ℕ)
    → turned_for a u ≡ count_turn here s vars code arg x y z → turned_for b u' ≡ count_turn here s vars code arg x y z → (a ≡ b) × (u ≡ u')
count-determined here s vars code arg x y z = for-turn-determined (count_turn here s vars code arg x y z)
