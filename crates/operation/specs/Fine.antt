-- What the grammar's readings keep to, so that an operation holds them: constants of 16 bits, letters, bytes.
use Rattle.std.specs.Prelude.{ℕ, ◌<◌, Bool, List, [], ◌∷◌}
use Rattle.nibl.specs.Bytes.{is_quotable, All}
use Rattle.nibl.specs.Tree.{Op, Expr, var, const, stat, top, byte_at, invert, negate, modulo, two}
use Rattle.nibl.specs.Tree.{Item, text, stored, value}
use Rattle.nibl.specs.Tree.{Stmt, let_var, let_stat, let_byte, let_copy, let_text, goto, gosub, until, return, do_loop, remark, end, print, if_then, for, next, input, input_text}

-- a constant has 16 bits
pub data FineExpr : Expr → Type 0 where
  a_var : {v : ℕ} → FineExpr (var v)
  a_const : {n : ℕ} → n < 65536 → FineExpr (const n)
  a_stat : FineExpr stat
  a_top : FineExpr top
  a_byte_at : {a : Expr} → FineExpr a → FineExpr (byte_at a)
  an_invert : {a : Expr} → FineExpr a → FineExpr (invert a)
  a_negate : {a : Expr} → FineExpr a → FineExpr (negate a)
  a_modulo : {a b : Expr} → FineExpr a → FineExpr b → FineExpr (modulo a b)
  a_two : {o : Op} {a b : Expr} → FineExpr a → FineExpr b → FineExpr (two o a b)

-- each of a list is so
pub data Every {A : Type 0} (P : A → Type 0) : List A → Type 0 where
  no_more : Every P []
  each : {a : A} {l : List A} → P a → Every P l → Every P (a ∷ l)

-- a string's bytes are those that quotes may enclose
pub data FineItem : Item → Type 0 where
  a_text : {bs : List ℕ} → All is_quotable bs → FineItem (text bs)
  a_stored : {a : Expr} → FineExpr a → FineItem (stored a)
  a_value : {a : Expr} → FineExpr a → FineItem (value a)

-- the variable of FOR and NEXT, which a stack holds as a byte, is a letter's
pub data FineStmt : Stmt → Type 0 where
  a_let_var : {v : ℕ} {a : Expr} → FineExpr a → FineStmt (let_var v a)
  a_let_stat : {a : Expr} → FineExpr a → FineStmt (let_stat a)
  a_let_byte : {a b : Expr} → FineExpr a → FineExpr b → FineStmt (let_byte a b)
  a_let_copy : {a b : Expr} → FineExpr a → FineExpr b → FineStmt (let_copy a b)
  a_let_text : {a : Expr} {bs : List ℕ} → FineExpr a → All is_quotable bs → FineStmt (let_text a bs)
  a_goto : {a : Expr} → FineExpr a → FineStmt (goto a)
  a_gosub : {a : Expr} → FineExpr a → FineStmt (gosub a)
  an_until : {a : Expr} → FineExpr a → FineStmt (until a)
  a_return : FineStmt return
  a_do : FineStmt do_loop
  a_remark : FineStmt remark
  an_end : FineStmt end
  a_print : {is : List Item} {b : Bool} → Every FineItem is → FineStmt (print is b)
  an_if : {a : Expr} {q : Stmt} → FineExpr a → FineStmt q → FineStmt (if_then a q)
  a_for : {v : ℕ} {a b c : Expr} → v < 26 → FineExpr a → FineExpr b → FineExpr c → FineStmt (for v a b c)
  a_next : {v : ℕ} → v < 26 → FineStmt (next v)
  an_input : {vs : List ℕ} → FineStmt (input vs)
  an_input_text : {a : Expr} → FineExpr a → FineStmt (input_text a)
