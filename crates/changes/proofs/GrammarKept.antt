-- The grammar asks only that words are there: a text that has a reading by a rule of words has it, the same tree of it, by every
-- rule that keeps the words of that one. Nothing is asked of either rule. Assumes nothing.
use Prim.Native.Nat.{ℕ}
use Prim.Native.String.{String}
use mathlib.Core.Bool.{Bool}
use mathlib.Core.List.{List}
use Rattle.nibl.specs.Words.{Token}
use Rattle.nibl.specs.Tree.{Op, Expr, Item, Stmt, Member, Typed}
use Rattle.nibl.specs.Grammar.{Joints, May, no_word, a_word, Joint, joint, Factor, Term, Sum, Relation, a_variable, a_constant, a_hex, a_stat, a_top, in_brackets, a_byte, a_not, a_mod, a_factor, factors, a_term, less_term, terms, a_sum, related}
use Rattle.nibl.specs.Grammar.{Either, whole, parted, PrintWord, short_print, long_print, AnItem, a_string, a_stored, a_value, Items, one_item, more_items, LastSemicolon, no_semicolon, a_semicolon, AStep, no_step, some_step, Variables, one_variable, more_variables}
use Rattle.nibl.specs.Grammar.{Statement, a_let_var, a_let_stat, a_let_byte, a_let_text, a_let_copy, a_goto, a_gosub, a_return, a_print, an_if, a_do, an_until, a_for, a_next, an_input, an_input_text, a_remark, an_end}
use Rattle.nibl.specs.Grammar.{Members, last_member, more_members, Reply, last_reply, enough, more_reply, Line, a_blank, a_delete, a_store, a_new, a_clear, a_run, a_list, a_list_from, an_immediate}
use Rattle.changes.specs.Kept.{KeepsWords}

module _ {W W' : List ℕ → Token → List ℕ → Type 0} (kept : KeepsWords W W') where
  w : {s s' : List ℕ} {v : Token} → W s v s' → W' s v s'
  w k = kept _ _ _ k

  pub keep-may : {name : String} {s s' : List ℕ} → May W name s s' → May W' name s s'
  keep-may no_word = no_word
  keep-may (a_word k) = a_word (w k)

  pub keep-joint : {js : Joints} {s s' : List ℕ} {o : Op} → Joint W js s o s' → Joint W' js s o s'
  keep-joint (joint k e) = joint (w k) e

  mutual
    pub keep-factor : {s s' : List ℕ} {a : Expr} → Factor W s a s' → Factor W' s a s'
    keep-factor (a_variable k) = a_variable (w k)
    keep-factor (a_constant k) = a_constant (w k)
    keep-factor (a_hex k) = a_hex (w k)
    keep-factor (a_stat k) = a_stat (w k)
    keep-factor (a_top k) = a_top (w k)
    keep-factor (in_brackets k r j) = in_brackets (w k) (keep-relation r) (w j)
    keep-factor (a_byte k f) = a_byte (w k) (keep-factor f)
    keep-factor (a_not k f) = a_not (w k) (keep-factor f)
    keep-factor (a_mod k i r c q j) = a_mod (w k) (w i) (keep-relation r) (w c) (keep-relation q) (w j)

    pub keep-term : {s s' : List ℕ} {a : Expr} → Term W s a s' → Term W' s a s'
    keep-term (a_factor f) = a_factor (keep-factor f)
    keep-term (factors x j f) = factors (keep-term x) (keep-joint j) (keep-factor f)

    pub keep-sum : {s s' : List ℕ} {a : Expr} → Sum W s a s' → Sum W' s a s'
    keep-sum (a_term m x) = a_term (keep-may m) (keep-term x)
    keep-sum (less_term k x) = less_term (w k) (keep-term x)
    keep-sum (terms x j y) = terms (keep-sum x) (keep-joint j) (keep-term y)

    pub keep-relation : {s s' : List ℕ} {a : Expr} → Relation W s a s' → Relation W' s a s'
    keep-relation (a_sum x) = a_sum (keep-sum x)
    keep-relation (related x j y) = related (keep-sum x) (keep-joint j) (keep-sum y)

  pub keep-either : {one first second : String} {s s' : List ℕ} → Either W one first second s s' → Either W' one first second s s'
  keep-either (whole k) = whole (w k)
  keep-either (parted k j) = parted (w k) (w j)

  pub keep-print-word : {s s' : List ℕ} → PrintWord W s s' → PrintWord W' s s'
  keep-print-word (short_print k) = short_print (w k)
  keep-print-word (long_print k) = long_print (w k)

  pub keep-item : {s s' : List ℕ} {i : Item} → AnItem W s i s' → AnItem W' s i s'
  keep-item (a_string k) = a_string (w k)
  keep-item (a_stored k f) = a_stored (w k) (keep-factor f)
  keep-item (a_value r) = a_value (keep-relation r)

  pub keep-items : {s s' : List ℕ} {is : List Item} → Items W s is s' → Items W' s is s'
  keep-items (one_item i) = one_item (keep-item i)
  keep-items (more_items i k is) = more_items (keep-item i) (w k) (keep-items is)

  pub keep-semicolon : {s s' : List ℕ} {b : Bool} → LastSemicolon W s b s' → LastSemicolon W' s b s'
  keep-semicolon no_semicolon = no_semicolon
  keep-semicolon (a_semicolon k) = a_semicolon (w k)

  pub keep-step : {s s' : List ℕ} {a : Expr} → AStep W s a s' → AStep W' s a s'
  keep-step no_step = no_step
  keep-step (some_step k r) = some_step (w k) (keep-relation r)

  pub keep-variables : {s s' vs : List ℕ} → Variables W s vs s' → Variables W' s vs s'
  keep-variables (one_variable v) = one_variable (w v)
  keep-variables (more_variables v k vs) = more_variables (w v) (w k) (keep-variables vs)

  pub keep_statement : {s s' : List ℕ} {q : Stmt} → Statement W s q s' → Statement W' s q s'
  keep_statement (a_let_var m v k r) = a_let_var (keep-may m) (w v) (w k) (keep-relation r)
  keep_statement (a_let_stat m k j r) = a_let_stat (keep-may m) (w k) (w j) (keep-relation r)
  keep_statement (a_let_byte m k f j r) = a_let_byte (keep-may m) (w k) (keep-factor f) (w j) (keep-relation r)
  keep_statement (a_let_text m k f j b) = a_let_text (keep-may m) (w k) (keep-factor f) (w j) (w b)
  keep_statement (a_let_copy m k f j i g) = a_let_copy (keep-may m) (w k) (keep-factor f) (w j) (w i) (keep-factor g)
  keep_statement (a_goto e r) = a_goto (keep-either e) (keep-relation r)
  keep_statement (a_gosub e r) = a_gosub (keep-either e) (keep-relation r)
  keep_statement (a_return k) = a_return (w k)
  keep_statement (a_print p is e) = a_print (keep-print-word p) (keep-items is) (keep-semicolon e)
  keep_statement (an_if k r m q) = an_if (w k) (keep-relation r) (keep-may m) (keep_statement q)
  keep_statement (a_do k) = a_do (w k)
  keep_statement (an_until k r) = an_until (w k) (keep-relation r)
  keep_statement (a_for k v j r i q e) = a_for (w k) (w v) (w j) (keep-relation r) (w i) (keep-relation q) (keep-step e)
  keep_statement (a_next k v) = a_next (w k) (w v)
  keep_statement (an_input k vs) = an_input (w k) (keep-variables vs)
  keep_statement (an_input_text k j f) = an_input_text (w k) (w j) (keep-factor f)
  keep_statement (a_remark k a) = a_remark (w k) a
  keep_statement (an_end k) = an_end (w k)

  pub keep-members : {s : List ℕ} {ms : List Member} → Members W s ms → Members W' s ms
  keep-members (last_member q a) = last_member (keep_statement q) a
  keep-members (more_members q k ms) = more_members (keep_statement q) (w k) (keep-members ms)

  pub keep-reply : {n : ℕ} {s : List ℕ} {es : List Expr} → Reply W n s es → Reply W' n s es
  keep-reply (last_reply r a) = last_reply (keep-relation r) a
  keep-reply (enough r k) = enough (keep-relation r) (w k)
  keep-reply (more_reply r k es) = more_reply (keep-relation r) (w k) (keep-reply es)

  module _ {C C' : List ℕ → Token → List ℕ → Type 0} (known : KeepsWords C C') where
    c : {s s' : List ℕ} {v : Token} → C s v s' → C' s v s'
    c k = known _ _ _ k

    pub grammar-kept : {s : List ℕ} {y : Typed} → Line W C s y → Line W' C' s y
    grammar-kept (a_blank a) = a_blank a
    grammar-kept (a_delete n a) = a_delete (w n) a
    grammar-kept (a_store n ms) = a_store (w n) (keep-members ms)
    grammar-kept (a_new k a) = a_new (c k) a
    grammar-kept (a_clear k a) = a_clear (c k) a
    grammar-kept (a_run k a) = a_run (c k) a
    grammar-kept (a_list k a) = a_list (c k) a
    grammar-kept (a_list_from k n a) = a_list_from (c k) (w n) a
    grammar-kept (an_immediate q a) = an_immediate (keep_statement q) a
