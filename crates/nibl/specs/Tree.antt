-- What a text is read as.
use Rattle.std.specs.Prelude.{ℕ, List, [], Bool}

pub data Op : Type 0 where
  times divided_by and_bits plus minus or_bits : Op  -- * / AND + - OR
  equal less greater at_most at_least unequal : Op  -- = < > <= >= <>

pub data Expr : Type 0 where
  var const : ℕ → Expr
  stat top : Expr
  byte_at invert negate : Expr → Expr  -- "@", NOT, a leading minus
  modulo : Expr → Expr → Expr
  two : Op → Expr → Expr → Expr

pub data Item : Type 0 where
  text : List ℕ → Item
  stored value : Expr → Item  -- "$" factor, a relation

-- in the grammar's order
pub data Stmt : Type 0 where
  let_var : ℕ → Expr → Stmt
  let_stat : Expr → Stmt
  let_byte : Expr → Expr → Stmt  -- "@" factor = relation
  let_text : Expr → List ℕ → Stmt
  let_copy : Expr → Expr → Stmt  -- "$" factor = "$" factor
  goto gosub : Expr → Stmt
  return : Stmt
  print : List Item → Bool → Stmt  -- whether a last ";" is there
  if_then : Expr → Stmt → Stmt
  do_loop : Stmt
  until : Expr → Stmt
  for : ℕ → Expr → Expr → Expr → Stmt  -- first value, limit, step
  next : ℕ → Stmt
  input : List ℕ → Stmt
  input_text : Expr → Stmt
  remark end : Stmt

-- What a statement is to the calls and to a run, behind any IFs. In a program only: one that opens or ends a loop, FOR with the variable that
-- it counts, INPUT with the variables that a reply gives
pub data Role : Type 0 where
  anywhere in_loop : Role
  counts : ℕ → Role
  asks_for : List ℕ → Role

abbrev pub role_of : Stmt → Role
role_of (let_var v a) = anywhere
role_of (let_stat a) = anywhere
role_of (let_byte a b) = anywhere
role_of (let_text a bs) = anywhere
role_of (let_copy a b) = anywhere
role_of (goto a) = anywhere
role_of (gosub a) = anywhere
role_of return = anywhere
role_of (print is b) = anywhere
role_of (if_then a q) = role_of q
role_of do_loop = in_loop
role_of (until a) = in_loop
role_of (for v a b c) = counts v
role_of (next v) = in_loop
role_of (input vs) = asks_for vs
role_of (input_text a) = asks_for []
role_of remark = anywhere
role_of end = anywhere

-- a member of a statement list, and how many bytes of the text stand from the place that ends it on: 0 at the text's end
pub record Member : Type 0 where
  pub statement : Stmt
  pub left : ℕ

-- a typed line
pub data Typed : Type 0 where
  blank new clear run : Typed
  delete list : ℕ → Typed
  store : ℕ → List ℕ → List Member → Typed
  immediate : Stmt → Typed
