-- When a call stops, number by number: the refusals of a typed line, and those of the statement that ended a run.
use Rattle.std.specs.Prelude.{ℕ, ◌+◌, ◌<◌, List, [], ◌∷◌, length}
use Rattle.nibl.specs.Tree.{Expr, Stmt, until, do_loop, if_then, for, next, input, input_text, Member, list, store, immediate}
use Rattle.nibl.specs.Readings.{LineReading}
use Rattle.nibl.specs.Typing.{Gathered}
use Rattle.nibl.specs.Page.{records_of, used_by}
use Rattle.nibl.specs.Meaning.{World, Env, stop, done}
use Rattle.nibl.specs.Lent.{Lent, Outcome}
use Rattle.nibl.specs.Runs.{env_at}
use Rattle.nibl.specs.Typing.{limit}
use Rattle.nibl.specs.Lent.{lent_env, begun}
use Rattle.demands.specs.Lent.{Typing}
use Rattle.demands.specs.Leaves.{others}
use Rattle.demands.specs.Items.{ListsLines}
use Rattle.demands.specs.Steps.{world_left, OneMore}
use Rattle.demands.specs.Refusals.{Refusal}

-- "DO, UNTIL, FOR, NEXT or INPUT", by form
pub data NeedsProgram : Stmt → Type 0 where
  a_do : NeedsProgram do_loop
  an_until : {a : Expr} → NeedsProgram (until a)
  a_for : {v : ℕ} {a b c : Expr} → NeedsProgram (for v a b c)
  a_next : {v : ℕ} → NeedsProgram (next v)
  an_input : {vs : List ℕ} → NeedsProgram (input vs)
  an_input_string : {a : Expr} → NeedsProgram (input_text a)
  under_if : {a : Expr} {q : Stmt} → NeedsProgram q → NeedsProgram (if_then a q)

-- 3: ".. in an immediate line"
pub record NeedsOne (x : Lent) : Type 0 where
  pub gathered : Gathered
  pub typing : Typing limit x gathered
  pub statement : Stmt
  pub reading : LineReading gathered.line.bytes (immediate statement)
  pub needs : NeedsProgram statement

-- 2: "the edited program would not fit the page"; "a replacement's old room counts as free"
pub record DoesNotFit (x : Lent) : Type 0 where
  pub gathered : Gathered
  pub typing : Typing limit x gathered
  pub line : ℕ
  pub text : List ℕ
  pub members : List Member
  pub reading : LineReading gathered.line.bytes (store line text members)
  pub full : length x.page < used_by (others line (records_of x.page)) + (length text + 4)

-- the numbers that a statement is refused with, and END's; and those of them that a typed line gives for nothing else, which is all but 7
abbrev pub statement_numbers : List ℕ
statement_numbers = 6 ∷ 7 ∷ 8 ∷ 9 ∷ 10 ∷ 11 ∷ 12 ∷ 13 ∷ 15 ∷ 16 ∷ 17 ∷ 20 ∷ 21 ∷ []

abbrev pub own_numbers : List ℕ
own_numbers = 6 ∷ 8 ∷ 9 ∷ 10 ∷ 11 ∷ 12 ∷ 13 ∷ 15 ∷ 16 ∷ 17 ∷ 20 ∷ 21 ∷ []

-- A typed line's own refusal past its reading: an immediate statement is refused, or a line of LIST does not fit
pub data LineRefused (x : Lent) (n : ℕ) : Type 0 where
  by_statement : {g : Gathered} {s : Stmt} {u : World} → Typing limit x g → LineReading g.line.bytes (immediate s) → (NeedsProgram s → ⊥)
      → Refusal (lent_env limit x) s (begun x g.taken) n u → LineRefused x n
  by_list : {g : Gathered} {m : ℕ} {u : World} → Typing limit x g → LineReading g.line.bytes (list m)
      → ListsLines m (records_of x.page) (begun x g.taken) (done (stop n) u) → LineRefused x n

-- the last statement of a run was refused with n: o' is what the same call with one step less leaves
pub record StoppedBy (e : Env) (budget : ℕ) (o' o : Outcome) (n : ℕ) : Type 0 where
  pub more : OneMore e budget o' o
  pub refused : Refusal (env_at e more.last.place) more.last.statement (world_left o') n more.after
