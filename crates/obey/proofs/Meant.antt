-- From what a typed line was read as to its reading. Assumes nothing.
use Prim.Native.Nat.{ℕ, ◌-◌, ◌≤◌}
use mathlib.Core.Path.{◌≡◌, refl, sym, subst, ◌∙◌, ap}
use mathlib.Core.Bool.{Bool}
use mathlib.Core.List.{List}
use mathlib.Core.Option.{Option, none, some}
use native.Mathlib.Omega.{arith}
use lib.ListN.{length, drop}
use Rattle.nibl.specs.Words.{Word, keywords, commands}
use Rattle.nibl.specs.Grammar.{Line, a_store}
use Rattle.nibl.specs.Tree.{Stmt, Member, Typed, blank, new, clear, run, delete, list, store, immediate}
use Rattle.nibl.specs.found.Read.{typed}
use Rattle.nibl.specs.Calls.{needs_program}
use Rattle.nibl.specs.declared.LineNumber.{LineNumber}
use Rattle.nibl.proofs.Over.{word-rest}
use Rattle.nibl.proofs.Lines.{typed-sound}
use Rattle.reader.specs.Code.{compile}
use Rattle.line.specs.Answers.{kind_of}
use Rattle.line.specs.declared.LineRead.{LineRead}
use Rattle.line.specs.declared.LineRead.TheVariants as line
use Rattle.word.specs.declared.Cursor.{Cursor}

-- a line of n bytes by its answer and its reading
pub data Means (n : ℕ) : LineRead → Option Typed → Type 0 where
  nothing : Means n line.NoReading none
  a_blank : Means n line.Blank (some blank)
  a_new : Means n line.New (some new)
  a_clear : Means n line.Clear (some clear)
  a_run : Means n line.Run (some run)
  a_delete : {k : ℕ} → Means n (line.Delete (record { 0 = k })) (some (delete k))
  a_list : {k : ℕ} → Means n (line.List (record { 0 = k })) (some (list k))
  a_stored : {k : ℕ} {t : List ℕ} {ms : List Member} → Means n (line.Store (record { 0 = k }) (record { at = n - length t })) (some (store k t ms))
  a_statement : {q : Stmt} → Means n (line.Immediate (length (compile q)) (needs_program q)) (some (immediate q))

means : (n : ℕ) (o : Option Typed) → Means n (kind_of n o) o
means n none = nothing
means n (some blank) = a_blank
means n (some new) = a_new
means n (some clear) = a_clear
means n (some run) = a_run
means n (some (delete k)) = a_delete
means n (some (list k)) = a_list
means n (some (store k t ms)) = a_stored
means n (some (immediate q)) = a_statement

-- by an answer that is known
pub told : {n : ℕ} {o : Option Typed} {kind r : LineRead} → kind ≡ kind_of n o → kind ≡ r → Means n r o
told {n} {o} e f = subst (λ (x : LineRead). Means n x o) (sym e ∙ f) (means n o)

pub no-reading : {n : ℕ} {o : Option Typed} → Means n line.NoReading o → o ≡ none
no-reading nothing = refl

pub is-blank : {n : ℕ} {o : Option Typed} → Means n line.Blank o → o ≡ some blank
is-blank a_blank = refl

pub is-new : {n : ℕ} {o : Option Typed} → Means n line.New o → o ≡ some new
is-new a_new = refl

pub is-clear : {n : ℕ} {o : Option Typed} → Means n line.Clear o → o ≡ some clear
is-clear a_clear = refl

pub is-run : {n : ℕ} {o : Option Typed} → Means n line.Run o → o ≡ some run
is-run a_run = refl

pub is-delete : {n : ℕ} {k : LineNumber} {o : Option Typed} → Means n (line.Delete k) o → o ≡ some (delete k.0)
is-delete a_delete = refl

pub is-list : {n : ℕ} {k : LineNumber} {o : Option Typed} → Means n (line.List k) o → o ≡ some (list k.0)
is-list a_list = refl

-- a stored text is what stands from the cursor on
pub record IsStored (s : List ℕ) (k : ℕ) (at : ℕ) : Type 0 where
  pub members : List Member
  pub inside : at ≤ length s
  pub reads : typed s ≡ some (store k (drop at s) members)

line-stored : {s t : List ℕ} {k : ℕ} {ms : List Member} → Line (Word keywords) (Word commands) s (store k t ms) → drop (length s - length t) s ≡ t
line-stored (a_store w ms) = word-rest w

stored : {s : List ℕ} {k : LineNumber} {c : Cursor} {o : Option Typed} → Means (length s) (line.Store k c) o → o ≡ typed s → IsStored s k.0 c.at
stored {s} (a_stored {k} {t} {ms}) e =
    let d = line-stored (typed-sound s (store k t ms) (sym e)) in
    record { members = ms; inside = omega arith; reads = sym e ∙ ap (λ (u : List ℕ). some (store k u ms)) (sym d) }

pub is-stored : {s : List ℕ} {k : LineNumber} {c : Cursor} → Means (length s) (line.Store k c) (typed s) → IsStored s k.0 c.at
is-stored m = stored m refl

-- room is never lacking: an answer that says so is no answer here
pub no_room : (n : ℕ) (o : Option Typed) → line.NoRoom ≡ kind_of n o → ⊥
no_room n none e = let z : ◌≡◌ {A = ℕ} 0 1 = cc in omega arith
no_room n (some blank) e = let z : ◌≡◌ {A = ℕ} 0 1 = cc in omega arith
no_room n (some new) e = let z : ◌≡◌ {A = ℕ} 0 1 = cc in omega arith
no_room n (some clear) e = let z : ◌≡◌ {A = ℕ} 0 1 = cc in omega arith
no_room n (some run) e = let z : ◌≡◌ {A = ℕ} 0 1 = cc in omega arith
no_room n (some (delete k)) e = let z : ◌≡◌ {A = ℕ} 0 1 = cc in omega arith
no_room n (some (list k)) e = let z : ◌≡◌ {A = ℕ} 0 1 = cc in omega arith
no_room n (some (store k t ms)) e = let z : ◌≡◌ {A = ℕ} 0 1 = cc in omega arith
no_room n (some (immediate q)) e = let z : ◌≡◌ {A = ℕ} 0 1 = cc in omega arith

pub record IsImmediate (n : ℕ) (needs : Bool) (o : Option Typed) : Type 0 where
  pub tree : Stmt
  pub reads : o ≡ some (immediate tree)
  pub count : n ≡ length (compile tree)
  pub program : needs ≡ needs_program tree

pub is-immediate : {n m : ℕ} {b : Bool} {o : Option Typed} → Means n (line.Immediate m b) o → IsImmediate m b o
is-immediate (a_statement {q}) = record { tree = q; reads = refl; count = refl; program = refl }
