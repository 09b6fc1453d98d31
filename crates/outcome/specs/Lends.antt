-- What holds of what a call lends down, once its first refusals are past.
use Rattle.std.specs.Prelude.{ℕ, ◌≤◌, true, false, List, ◌≡◌, length, take}
use Rattle.std.proofs.Math.Option.{some}
use Rattle.nibl.specs.Tree.{Stmt, immediate}
use Rattle.nibl.specs.found.Read.{typed}
use Rattle.nibl.specs.Page.{is_good, places_of}
use Rattle.nibl.specs.Record.{nowhere}
use Rattle.nibl.specs.Calls.{needs_program}
use Rattle.nibl.specs.declared.Session.{Session}
use Rattle.record.specs.Fit.{Fit}
use Rattle.reader.specs.Code.{compile}

-- the lists that a run works in: as many slots for a reply as the limit says, an operation to each, and a value to each operation
pub record Lists (reply replies values ops : List ℕ) : Type 0 where
  pub short : length reply ≤ 251
  pub room : length reply ≤ length ops
  pub stack : length ops ≤ length values
  pub reply_ops : length reply ≤ length replies
  pub reply_values : length replies ≤ length values

-- past the first refusals: a good page, a record that fits it and has no pause, a budget of 16 bits
pub record Accepted (lim : ℕ) (page : List ℕ) (budget : ℕ) (s : Session) : Type 0 where
  pub short : length page ≤ 4096
  pub good : is_good lim page ≡ true
  pub fits : Fit (places_of page) s
  pub idle : s.paused ≡ nowhere
  pub steps : budget ≤ 65535

-- the typed line is a statement that may be typed, and the first n operations are its own
pub record IsStatement (text : List ℕ) (n : ℕ) (ops : List ℕ) : Type 0 where
  pub tree : Stmt
  pub reads : typed text ≡ some (immediate tree)
  pub free : needs_program tree ≡ false
  pub few : n ≤ length ops
  pub codes : take n ops ≡ compile tree
