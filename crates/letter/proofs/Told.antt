-- What each answer of gathering tells its caller. Assumes nothing.
use Rattle.std.specs.Prelude.{if◌then◌else◌}
use mathlib.Core.Path.{◌≡◌, refl}
use mathlib.Core.Bool.{Bool, true, false}
use mathlib.Core.List.{List}
use mathlib.Core.Option.{Option, none, some}
use Prim.Native.Nat.{ℕ, ◌+◌, ◌-◌, ◌<◌, ◌≤◌}
use native.Mathlib.Omega.{arith}
use lib.ListN.{length, take, drop, replicate, length-drop}
use lib.Seq.{take-append_seam}
use Rattle.nibl.specs.Typing.{Gathered, gather}
use Rattle.letter.specs.declared.Gathering.{Gathering}
use Rattle.letter.specs.declared.Gathering.TheVariants.{Line, TooLong, NoCr}
use Rattle.letter.specs.Slots.{answer, padded, held}
use Rattle.letter.proofs.Typed.{Fine, Taken, taken}

module _ (lim at : ℕ) (input : List ℕ) where
  -- a CR was met: what was gathered, over-long or not, and the next position, within the input
  pub record Got (next : ℕ) (g : Gathered) (long : Bool) : Type 0 where
    pub gathers : gather lim (drop at input) ≡ some g
    pub mark : g.line.long ≡ long
    pub moved : next ≡ at + g.taken
    pub ahead : at < next
    pub within : next ≤ length input
    pub fine : Fine lim g.line

  pub record GotLong (next : ℕ) : Type 0 where
    pub line : Gathered
    pub got : Got next line true

  -- of a line that is not over-long its length too, and the bytes themselves at the front of the slots
  pub record GotLine (next n : ℕ) : Type 0 where
    pub line : Gathered
    pub got : Got next line false
    pub count : n ≡ length line.line.bytes
    pub fits : n ≤ lim
    pub text : take n (held lim (gather lim (drop at input))) ≡ line.line.bytes

  data Tells : Gathering → Type 0 where
    line : {next n : ℕ} → GotLine next n → Tells (Line next n)
    too_long : {next : ℕ} → GotLong next → Tells (TooLong next)
    no-cr : gather lim (drop at input) ≡ none → Tells NoCr

  got : (g : Gathered) (long : Bool) → gather lim (drop at input) ≡ some g → g.line.long ≡ long → Got (at + g.taken) g long
  got g long e l =
      let t : Taken lim 0 (length (drop at input)) g = taken lim (drop at input) g e in
      let d = length-drop at input in
      record { gathers = e; mark = l; moved = refl; ahead = omega arith; within = omega arith; fine = t.fine }

  front : (g : Gathered) → gather lim (drop at input) ≡ some g → take (length g.line.bytes) (held lim (gather lim (drop at input))) ≡ g.line.bytes
  unfolding held padded
  front g e = rw e (take-append_seam g.line.bytes (replicate (lim - length g.line.bytes) 0))

  tells : Tells (answer at (gather lim (drop at input)))
  unfolding answer
  tells = go (gather lim (drop at input)) refl where
    by-mark : (g : Gathered) → gather lim (drop at input) ≡ some g → (t : Bool) → g.line.long ≡ t → Tells (if t then TooLong (at + g.taken) else Line (at + g.taken) (length g.line.bytes))
    by-mark g e true l = too_long (record { line = g; got = got g true e l })
    by-mark g e false l =
        let r : Got (at + g.taken) g false = got g false e l in
        line (record { line = g; got = r; count = refl; fits = r.fine.fits; text = front g e })

    go : (o : Option Gathered) → gather lim (drop at input) ≡ o → Tells (answer at o)
    go none e = no-cr e
    go (some g) e = by-mark g e g.line.long refl

  pub told_line : (next n : ℕ) → Line next n ≡ answer at (gather lim (drop at input)) → GotLine next n
  told_line next n e = go (rw e tells) where
    go : Tells (Line next n) → GotLine next n
    go (line r) = r

  pub told-long : (next : ℕ) → TooLong next ≡ answer at (gather lim (drop at input)) → GotLong next
  told-long next e = go (rw e tells) where
    go : Tells (TooLong next) → GotLong next
    go (too_long r) = r

  pub told-no-cr : NoCr ≡ answer at (gather lim (drop at input)) → gather lim (drop at input) ≡ none
  told-no-cr e = go (rw e tells) where
    go : Tells NoCr → gather lim (drop at input) ≡ none
    go (no-cr r) = r
