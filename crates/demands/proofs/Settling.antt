-- Typed lines that run nothing: blank, CLEAR, LIST, a statement that needs a program, and an immediate statement that ends the line. Assumes nothing.
use Prim.Native.Nat.{ℕ}
use mathlib.Core.Path.{◌≡◌, refl, ◌∙◌}
use mathlib.Core.Bool.{true, false}
use Rattle.nibl.specs.Tree.{Stmt, blank, clear, list, immediate}
use Rattle.nibl.specs.Page.{records_of}
use Rattle.nibl.specs.Readings.{LineReading}
use Rattle.nibl.specs.Typing.{Gathered}
use Rattle.nibl.specs.Meaning.{World, Next, on, skip, go, stop, done, exec}
use Rattle.nibl.specs.Lent.{Lent, stops}
use Rattle.nibl.specs.Typing.{limit}
use Rattle.nibl.specs.Lent.{begun, lent_env}
use Rattle.nibl.specs.Calls.{list_from, after_immediate, needs_program, obey, take_line, leaves}
use Rattle.nibl.proofs.Whole.{typed-complete}
use Rattle.demands.specs.Lent.{Typing}
use Rattle.demands.specs.Leaves.{line_taken, line_cleared}
use Rattle.demands.specs.Starts.{Settles, goes_on, skips, gives}
use Rattle.demands.proofs.Tables.{left-kept}
use Rattle.demands.proofs.Retyping.{line_read}

module _ (x : Lent) (g : Gathered) (h : Typing limit x g) where
  -- "A line of spaces only, or empty, only ends a pause"
  pub a-blank-line-only-ends-the-pause : LineReading g.line.bytes blank → leaves take_line x ≡ line_taken x 0 g.taken
  unfolding obey
  a-blank-line-only-ends-the-pause r = left-kept take_line x _ (line_read x g blank h (typed-complete r)) h.sound refl

  -- "CLEAR zeroes variables and clears stacks"
  pub clear-clears : LineReading g.line.bytes clear → leaves take_line x ≡ line_cleared x g.taken
  unfolding obey
  clear-clears r = left-kept take_line x _ (line_read x g clear h (typed-complete r)) h.sound refl

  -- "DO, UNTIL, FOR, NEXT or INPUT in an immediate line"
  pub needing-a-program-is-3 : (s : Stmt) → LineReading g.line.bytes (immediate s) → needs_program s ≡ true → leaves take_line x ≡ line_taken x 3 g.taken
  unfolding obey
  needing-a-program-is-3 s r n =
      left-kept take_line x (line_taken x 3 g.taken).outcome (line_read x g (immediate s) h (typed-complete r) ∙ rw (n, obey)) h.sound refl

  at_once : (how : Next) (n : ℕ) (w : World) → Settles how n → after_immediate x.call.budget (lent_env limit x) (done how w) ≡ stops n w x.page
  at_once on n w goes_on = refl
  at_once skip n w skips = refl
  at_once (stop m) n w gives = refl
  at_once (go _) n w h = elim h [ ]

  -- any other immediate statement is done at once, and so is the line, unless it goes to the program
  pub an-immediate-statement-is-done : (s : Stmt) (how : Next) (n : ℕ) (w : World) → LineReading g.line.bytes (immediate s) → needs_program s ≡ false
      → exec (lent_env limit x) s (begun x g.taken) ≡ done how w → Settles how n → take_line x ≡ stops n w x.page
  unfolding obey
  an-immediate-statement-is-done s how n w r p e c = line_read x g (immediate s) h (typed-complete r) ∙ rw (p, obey) (rw e (at_once how n w c))

  -- LIST writes from its number on, and the line is done
  pub list-is-done : (n : ℕ) (how : Next) (m : ℕ) (w : World) → LineReading g.line.bytes (list n) → list_from n (records_of x.page) (begun x g.taken) ≡ done how w
      → Settles how m → take_line x ≡ stops m w x.page
  unfolding obey
  list-is-done n how m w r e c = line_read x g (list n) h (typed-complete r) ∙ rw e (at_once how m w c)
