-- Readings are fine: what the grammar gives, an operation holds. Assumes nothing.
use Prim.Native.Nat.{ℕ, ◌<◌}
use mathlib.Core.Path.{◌≡◌}
use mathlib.Core.List.{List}
use mathlib.Core.Option.{some}
use native.Mathlib.Omega.{arith}
use borrow.Author.Tests.{leb-true}
use lib.Dec.{leb}
use Rattle.nibl.specs.Bytes.{is_quotable, All}
use Rattle.nibl.specs.Words.{variable, hex, string, Word, spaced, letter, hex_digits, quoted}
use Rattle.nibl.specs.Grammar.{Factor, Term, Sum, Relation, a_variable, a_constant, a_hex, a_stat, a_top, in_brackets, a_byte, a_not, a_mod, a_factor, factors, a_term, less_term, terms, a_sum, related}
use Rattle.nibl.specs.Grammar.{AnItem, a_string, a_stored, a_value, Items, one_item, more_items, AStep, no_step, some_step}
use Rattle.nibl.specs.Grammar.{Statement, a_let_var, a_let_stat, a_let_byte, a_let_text, a_let_copy, a_goto, a_gosub, a_return, a_print, an_if, a_do, an_until, a_for, a_next, an_input, an_input_text, a_remark, an_end}
use Rattle.nibl.specs.Grammar.{Reply, last_reply, enough, more_reply, Line, an_immediate}
use Rattle.nibl.specs.Tree.{Expr, Item, Stmt, Member, immediate}
use Rattle.nibl.specs.found.Read.{found, member, replied, typed}
use Rattle.nibl.proofs.Words.{and_right, decimal-small}
use Rattle.nibl.proofs.Rules.{W, it, ok-found}
use Rattle.nibl.proofs.Lines.{C, AMember, at_end, at_colon, member-same, replied-sound, typed-sound}
use Rattle.operation.specs.Fine as fine
use Rattle.operation.specs.Fine.{FineExpr, Every, no_more, each, FineItem, FineStmt}

-- Words: a letter, a constant of 16 bits, bytes that quotes may enclose
module _ {table : List (List ℕ)} where
  variable-letter : {s s' : List ℕ} {v : ℕ} → Word table s (variable v) s' → v < 26
  variable-letter (spaced w) = variable-letter w
  variable-letter (letter {c} r) = let h = leb-true c 90 (and_right (leb 65 c) (leb c 90) r.some) in omega arith

  hex-small : {s s' : List ℕ} {n : ℕ} → Word table s (hex n) s' → n < 65536
  hex-small (spaced w) = hex-small w
  hex-small (hex_digits r) = omega arith

  string-quotable : {s s' bs : List ℕ} → Word table s (string bs) s' → All is_quotable bs
  string-quotable (spaced w) = string-quotable w
  string-quotable (quoted a) = a

-- Relations
mutual
  factor-fine : {s s' : List ℕ} {a : Expr} → Factor W s a s' → FineExpr a
  factor-fine (a_variable w) = fine.a_var
  factor-fine (a_constant {n} w) = fine.a_const {n = n} (omega (arith, decimal-small w))
  factor-fine (a_hex w) = fine.a_const (hex-small w)
  factor-fine (a_stat k) = fine.a_stat
  factor-fine (a_top k) = fine.a_top
  factor-fine (in_brackets k r j) = relation-fine r
  factor-fine (a_byte k f) = fine.a_byte_at (factor-fine f)
  factor-fine (a_not k f) = fine.an_invert (factor-fine f)
  factor-fine (a_mod k i r c q j) = fine.a_modulo (relation-fine r) (relation-fine q)

  term-fine : {s s' : List ℕ} {a : Expr} → Term W s a s' → FineExpr a
  term-fine (a_factor f) = factor-fine f
  term-fine (factors t j f) = fine.a_two (term-fine t) (factor-fine f)

  sum-fine : {s s' : List ℕ} {a : Expr} → Sum W s a s' → FineExpr a
  sum-fine (a_term m t) = term-fine t
  sum-fine (less_term k t) = fine.a_negate (term-fine t)
  sum-fine (terms u j t) = fine.a_two (sum-fine u) (term-fine t)

  pub relation-fine : {s s' : List ℕ} {a : Expr} → Relation W s a s' → FineExpr a
  relation-fine (a_sum u) = sum-fine u
  relation-fine (related u j v) = fine.a_two (sum-fine u) (sum-fine v)

-- Statements
item-fine : {s s' : List ℕ} {i : Item} → AnItem W s i s' → FineItem i
item-fine (a_string w) = fine.a_text (string-quotable w)
item-fine (a_stored k f) = fine.a_stored (factor-fine f)
item-fine (a_value r) = fine.a_value (relation-fine r)

items-fine : {s s' : List ℕ} {is : List Item} → Items W s is s' → Every FineItem is
items-fine (one_item i) = each (item-fine i) no_more
items-fine (more_items i k is) = each (item-fine i) (items-fine is)

step-fine : {s s' : List ℕ} {a : Expr} → AStep W s a s' → FineExpr a
step-fine no_step = fine.a_const {n = 1} (omega arith)
step-fine (some_step k r) = relation-fine r

pub statement-fine : {s s' : List ℕ} {q : Stmt} → Statement W s q s' → FineStmt q
statement-fine (a_let_var m w k r) = fine.a_let_var (relation-fine r)
statement-fine (a_let_stat m w k r) = fine.a_let_stat (relation-fine r)
statement-fine (a_let_byte m w f k r) = fine.a_let_byte (factor-fine f) (relation-fine r)
statement-fine (a_let_text m w f k b) = fine.a_let_text (factor-fine f) (string-quotable b)
statement-fine (a_let_copy m w f k j g) = fine.a_let_copy (factor-fine f) (factor-fine g)
statement-fine (a_goto e r) = fine.a_goto (relation-fine r)
statement-fine (a_gosub e r) = fine.a_gosub (relation-fine r)
statement-fine (a_return k) = fine.a_return
statement-fine (a_print p is b) = fine.a_print (items-fine is)
statement-fine (an_if k r m q) = fine.an_if (relation-fine r) (statement-fine q)
statement-fine (a_do k) = fine.a_do
statement-fine (an_until k r) = fine.an_until (relation-fine r)
statement-fine (a_for k w j a t b c) = fine.a_for (variable-letter w) (relation-fine a) (relation-fine b) (step-fine c)
statement-fine (a_next k w) = fine.a_next (variable-letter w)
statement-fine (an_input k vs) = fine.an_input
statement-fine (an_input_text k j f) = fine.an_input_text (factor-fine f)
statement-fine (a_remark k a) = fine.a_remark
statement-fine (an_end k) = fine.an_end

-- What the readers find
a-member-fine : {s t : List ℕ} {m : Member} → AMember s m t → FineStmt m.statement
a-member-fine (at_end p a) = statement-fine p
a-member-fine (at_colon p k) = statement-fine p

pub member-fine : (s t : List ℕ) (m : Member) → member s ≡ found m t → FineStmt m.statement
member-fine s t m e = a-member-fine (ok-found (rw e at (it (member-same s))))

line-fine : {s : List ℕ} {q : Stmt} → Line W C s (immediate q) → FineStmt q
line-fine (an_immediate p a) = statement-fine p

pub typed-fine : (s : List ℕ) (q : Stmt) → typed s ≡ some (immediate q) → FineStmt q
typed-fine s q e = line-fine (typed-sound s (immediate q) e)

reply-fine : {n : ℕ} {s : List ℕ} {es : List Expr} → Reply W n s es → Every FineExpr es
reply-fine (last_reply r a) = each (relation-fine r) no_more
reply-fine (enough r k) = each (relation-fine r) no_more
reply-fine (more_reply r k es) = each (relation-fine r) (reply-fine es)

pub replied-fine : (n : ℕ) (s : List ℕ) (es : List Expr) → replied n s ≡ some es → Every FineExpr es
replied-fine n s es e = reply-fine (replied-sound n s es e)
