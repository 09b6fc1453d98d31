-- A good page with a record that fits it.
use Rattle.std.specs.Prelude.{ℕ, ◌≡◌, true, List, length}
use Rattle.nibl.specs.Page.{is_good, fits}
use Rattle.nibl.specs.declared.Session.{Session}

-- the record's arrays have the lengths that its type says: 26 variables, the stacks' places and entries
pub record Sized (s : Session) : Type 0 where
  pub vars : length s.vars ≡ 26
  pub gosubs : length s.gosubs.places ≡ 8
  pub dos : length s.dos.places ≡ 8
  pub fors : length s.fors.entries ≡ 4

-- "a good page with a fitting record"
pub record Sound (lim : ℕ) (page : List ℕ) (s : Session) : Type 0 where
  pub good : is_good lim page ≡ true
  pub fitting : fits page s ≡ true
  pub sized : Sized s
