-- A line gathered and read: from the answers to the definition's words. Assumes nothing.
use Rattle.std.specs.Prelude.{if◌then◌else◌}
use Prim.Native.Nat.{ℕ, ◌+◌, ◌-◌, ◌≤◌}
use mathlib.Core.Bool.{Bool, true, false}
use mathlib.Core.List.{List}
use mathlib.Core.Option.{Option, none, some}
use mathlib.Core.Path.{◌≡◌, refl, sym, ap, subst, ◌∙◌}
use native.Mathlib.Omega.{arith}
use lib.ListN.{length, take, replicate, length-append}
use lib.Seq.{take_at}
use Rattle.nibl.specs.Words.{Word, keywords, commands}
use Rattle.nibl.specs.Grammar.{Line, an_immediate}
use Rattle.nibl.specs.Tree.{Stmt, immediate}
use Rattle.nibl.specs.Typing.{Gathered}
use Rattle.nibl.specs.found.Read.{typed}
use Rattle.nibl.specs.Typing.{limit}
use Rattle.nibl.proofs.Lines.{typed-sound}
use Rattle.letter.specs.Slots.{answer, held, padded}
use Rattle.letter.specs.declared.Gathering.{Gathering}
use Rattle.letter.specs.declared.Gathering.TheVariants as gathering
use Rattle.reader.specs.Code.{compile}
use Rattle.line.specs.Answers.{kind_of, line_ops}
use Rattle.line.specs.declared.LineRead.{LineRead}
use Rattle.line.proofs.Short.{statement-short}
use Rattle.line.proofs.Codes.{written-front}
use Rattle.obey.specs.ReadAs.{ReadAs}

-- an answer of gathering from a position on, and what was gathered
pub data Hears (at : ℕ) : Gathering → Option Gathered → Type 0 where
  no_cr : Hears at gathering.NoCr none
  too_long : {g : Gathered} → g.line.long ≡ true → Hears at (gathering.TooLong (at + g.taken)) (some g)
  a_line : {g : Gathered} → g.line.long ≡ false → Hears at (gathering.Line (at + g.taken) (length g.line.bytes)) (some g)

hears : (at : ℕ) (o : Option Gathered) → Hears at (answer at o) o
unfolding answer
hears at none = no_cr
hears at (some g) = by g.line.long refl where
  by : (b : Bool) → g.line.long ≡ b → Hears at (if b then gathering.TooLong (at + g.taken) else gathering.Line (at + g.taken) (length g.line.bytes)) (some g)
  by true e = too_long e
  by false e = a_line e

-- by an answer that is known
pub heard : {at : ℕ} {o : Option Gathered} {r k : Gathering} → r ≡ answer at o → r ≡ k → Hears at k o
heard {at} {o} e f = subst (λ (x : Gathering). Hears at x o) (sym e ∙ f) (hears at o)

-- the slots that hold a line of n bytes
pub record Holds (at next n : ℕ) (slots : List ℕ) (o : Option Gathered) : Type 0 where
  pub got : Gathered
  pub there : o ≡ some got
  pub whole : got.line.long ≡ false
  pub past : next ≡ at + got.taken
  pub few : n ≤ length slots
  pub bytes : take n slots ≡ got.line.bytes

pub holds : {at next n : ℕ} {o : Option Gathered} (room : ℕ) (slots : List ℕ) → Hears at (gathering.Line next n) o → slots ≡ held room o → Holds at next n slots o
unfolding held padded
holds room slots (a_line {g} w) e =
    let z : List ℕ = replicate (room - length g.line.bytes) 0 in
    let l = ap (λ (k : List ℕ). length k) e ∙ length-append g.line.bytes z in
    record { got = g; there = refl; whole = w; past = refl; few = omega arith; bytes = ap (take (length g.line.bytes)) e ∙ take_at g.line.bytes z (length g.line.bytes) refl }

-- a statement has no more operations than its line has bytes
line-short : {s : List ℕ} {q : Stmt} → Line (Word keywords) (Word commands) s (immediate q) → length (compile q) ≤ length s
line-short (an_immediate p a) = let h = statement-short p in omega arith

-- what was read, with the operations of a statement in front
pub read_as : {text after : List ℕ} (ops : List ℕ) {kind : LineRead} → length text ≤ limit → length text ≤ length ops → kind ≡ kind_of (length text) (typed text)
    → after ≡ line_ops ops (typed text) → length after ≡ length ops → ReadAs text kind after
read_as {text} {after} ops h k e f l =
    record {
      short = h;
      kind-is = e;
      codes = λ q r.
          let m = line-short (typed-sound text (immediate q) r) in
          let w = f ∙ ap (line_ops ops) r in
          (omega arith, ap (take (length (compile q))) w ∙ written-front ops (compile q) (length (compile q)) refl (omega arith));
    }
