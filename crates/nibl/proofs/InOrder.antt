-- The words that a derivation takes stand in its text one after the other, and none is passed over, by any rule of words.
-- Assumes nothing.
use Prim.Native.Nat.{ℕ}
use Prim.Native.String.{String}
use mathlib.Core.Bool.{Bool}
use mathlib.Core.List.{List, [], ◌∷◌, ◌++◌}
use native.Mathlib.Omega.{arith}
use lib.ListN.{length}
use Rattle.nibl.specs.Bytes.{is_space, All}
use Rattle.nibl.specs.Words.{Token}
use Rattle.nibl.specs.Grammar.{Joints, May, no_word, a_word, Joint, joint, Factor, a_variable, a_constant, a_hex, a_stat, a_top, in_brackets, a_byte, a_not, a_mod, Term, a_factor, factors, Sum, a_term, less_term, terms, Relation, a_sum, related}
use Rattle.nibl.specs.Grammar.{Either, whole, parted, PrintWord, short_print, long_print, AnItem, a_string, a_stored, a_value, Items, one_item, more_items, LastSemicolon, no_semicolon, a_semicolon, AStep, no_step, some_step, Variables, one_variable, more_variables}
use Rattle.nibl.specs.Grammar.{Statement, a_let_var, a_let_stat, a_let_byte, a_let_text, a_let_copy, a_goto, a_gosub, a_return, a_print, an_if, a_do, an_until, a_for, a_next, an_input, an_input_text, a_remark, an_end}
use Rattle.nibl.specs.Grammar.{Members, last_member, more_members, Reply, last_reply, enough, more_reply, Line, a_blank, a_delete, a_store, a_new, a_clear, a_run, a_list, a_list_from, an_immediate}
use Rattle.nibl.specs.Readings.{ListReading, ReplyReading, LineReading}
use Rattle.nibl.specs.Tree.{Op, Expr, Item, Stmt, Member, Typed}
use Rattle.nibl.specs.Derivation.{Mark, by, takes, AllAlong, to_spaces, to_end, after_production, after_word, ToRemark, ToComma, OneOf, first, second, took, of_may, of_joint, of_factor, of_term, of_sum, of_relation, of_either, of_print_word, of_item, of_items, of_semicolon, of_step, of_variables, of_statement, of_members, of_reply, of_line}
use Rattle.nibl.proofs.Over.{word-short}
use Rattle.nibl.proofs.Rules.{W as Keywords}
use Rattle.nibl.proofs.Lines.{C as Commands}

abbrev Rule : Type 1
Rule = List ℕ → Token → List ℕ → Type 0

-- `Along R s ms s'`: the words of the marks stand in s one after the other, and s' follows them
data Along (R : Rule) : List ℕ → List Mark → List ℕ → Type 0 where
  ended : {s : List ℕ} → Along R s [] s
  production : {name : String} {ms : List Mark} {s s' : List ℕ} → Along R s ms s' → Along R s (by name ∷ ms) s'
  word : {w : Token} {ms : List Mark} {s t s' : List ℕ} → R s w t → Along R t ms s' → Along R s (takes (length s) w (length t) ∷ ms) s'

module _ {R : Rule} where
  infixl 20 ◌⟫◌
  ◌⟫◌ : {s t u : List ℕ} {ms ns : List Mark} → Along R s ms t → Along R t ns u → Along R s (ms ++ ns) u
  ended ⟫ q = q
  production p ⟫ q = production (p ⟫ q)
  word w p ⟫ q = word w (p ⟫ q)

module _ {R : Rule} {end : Token} {Q : List ℕ → Type 0} where
  infixl 20 ◌⟫all◌
  ◌⟫all◌ : {s t : List ℕ} {ms ns : List Mark} → Along R s ms t → AllAlong R end Q t ns → AllAlong R end Q s (ms ++ ns)
  ended ⟫all q = q
  production p ⟫all q = after_production (p ⟫all q)
  word w p ⟫all q = after_word w (p ⟫all q)

  to-spaces : {s t : List ℕ} {ms : List Mark} → Along R s ms t → All is_space t → AllAlong R end Q s ms
  to-spaces ended a = to_spaces a
  to-spaces (production p) a = after_production (to-spaces p a)
  to-spaces (word w p) a = after_word w (to-spaces p a)

-- every word of W is one of R
module _ (W R : Rule) (into : (s t : List ℕ) (w : Token) → W s w t → R s w t) where
  one : {s t : List ℕ} {w : Token} (k : W s w t) → Along R s (took W k) t
  one {s} {t} {w} k = word (into s t w k) ended

  may-along : {name : String} {s s' : List ℕ} (m : May W name s s') → Along R s (of_may W m) s'
  may-along no_word = production ended
  may-along (a_word k) = production (one k)

  joint-along : {js : Joints} {s s' : List ℕ} {o : Op} (j : Joint W js s o s') → Along R s (of_joint W j) s'
  joint-along (joint w e) = production (one w)

  mutual
    factor-along : {s s' : List ℕ} {a : Expr} (f : Factor W s a s') → Along R s (of_factor W f) s'
    factor-along (a_variable w) = production (one w)
    factor-along (a_constant w) = production (one w)
    factor-along (a_hex w) = production (one w)
    factor-along (a_stat k) = production (one k)
    factor-along (a_top k) = production (one k)
    factor-along (in_brackets k r j) = production (one k ⟫ relation-along r ⟫ one j)
    factor-along (a_byte k f) = production (one k ⟫ factor-along f)
    factor-along (a_not k f) = production (one k ⟫ factor-along f)
    factor-along (a_mod k i r c q j) = production (one k ⟫ one i ⟫ relation-along r ⟫ one c ⟫ relation-along q ⟫ one j)

    term-along : {s s' : List ℕ} {a : Expr} (x : Term W s a s') → Along R s (of_term W x) s'
    term-along (a_factor f) = production (factor-along f)
    term-along (factors x j f) = production (term-along x ⟫ joint-along j ⟫ factor-along f)

    sum-along : {s s' : List ℕ} {a : Expr} (x : Sum W s a s') → Along R s (of_sum W x) s'
    sum-along (a_term m x) = production (may-along m ⟫ term-along x)
    sum-along (less_term k x) = production (one k ⟫ term-along x)
    sum-along (terms x j y) = production (sum-along x ⟫ joint-along j ⟫ term-along y)

    relation-along : {s s' : List ℕ} {a : Expr} (r : Relation W s a s') → Along R s (of_relation W r) s'
    relation-along (a_sum x) = production (sum-along x)
    relation-along (related x j y) = production (sum-along x ⟫ joint-along j ⟫ sum-along y)

  either-along : {name start end : String} {s s' : List ℕ} (e : Either W name start end s s') → Along R s (of_either W e) s'
  either-along (whole k) = production (one k)
  either-along (parted k j) = production (one k ⟫ one j)

  print-along : {s s' : List ℕ} (p : PrintWord W s s') → Along R s (of_print_word W p) s'
  print-along (short_print k) = production (one k)
  print-along (long_print k) = production (one k)

  item-along : {s s' : List ℕ} {i : Item} (d : AnItem W s i s') → Along R s (of_item W d) s'
  item-along (a_string w) = production (one w)
  item-along (a_stored k f) = production (one k ⟫ factor-along f)
  item-along (a_value r) = production (relation-along r)

  items-along : {s s' : List ℕ} {is : List Item} (d : Items W s is s') → Along R s (of_items W d) s'
  items-along (one_item i) = production (item-along i)
  items-along (more_items i k is) = production (item-along i ⟫ one k ⟫ items-along is)

  semicolon-along : {s s' : List ℕ} {b : Bool} (l : LastSemicolon W s b s') → Along R s (of_semicolon W l) s'
  semicolon-along no_semicolon = production ended
  semicolon-along (a_semicolon k) = production (one k)

  step-along : {s s' : List ℕ} {a : Expr} (p : AStep W s a s') → Along R s (of_step W p) s'
  step-along no_step = production ended
  step-along (some_step k r) = production (one k ⟫ relation-along r)

  variables-along : {s vs s' : List ℕ} (d : Variables W s vs s') → Along R s (of_variables W d) s'
  variables-along (one_variable w) = production (one w)
  variables-along (more_variables w k vs) = production (one w ⟫ one k ⟫ variables-along vs)

  -- to the statement's end, or to a remark, which takes the rest
  data Ends (s : List ℕ) (ms : List Mark) : List ℕ → Type 0 where
    here : {s' : List ℕ} → Along R s ms s' → Ends s ms s'
    remarked : ToRemark R s ms → Ends s ms []

  onto : {s t s' : List ℕ} {ms ns : List Mark} → Along R s ms t → Ends t ns s' → Ends s (ms ++ ns) s'
  onto p (here q) = here (p ⟫ q)
  onto p (remarked q) = remarked (p ⟫all q)

  statement-along : {s s' : List ℕ} {q : Stmt} (d : Statement W s q s') → Ends s (of_statement W d) s'
  statement-along (a_let_var m w k r) = here (production (may-along m ⟫ one w ⟫ one k ⟫ relation-along r))
  statement-along (a_let_stat m w k r) = here (production (may-along m ⟫ one w ⟫ one k ⟫ relation-along r))
  statement-along (a_let_byte m w f k r) = here (production (may-along m ⟫ one w ⟫ factor-along f ⟫ one k ⟫ relation-along r))
  statement-along (a_let_text m w f k b) = here (production (may-along m ⟫ one w ⟫ factor-along f ⟫ one k ⟫ one b))
  statement-along (a_let_copy m w f k j g) = here (production (may-along m ⟫ one w ⟫ factor-along f ⟫ one k ⟫ one j ⟫ factor-along g))
  statement-along (a_goto e r) = here (production (either-along e ⟫ relation-along r))
  statement-along (a_gosub e r) = here (production (either-along e ⟫ relation-along r))
  statement-along (a_return k) = here (production (one k))
  statement-along (a_print p is l) = here (production (print-along p ⟫ items-along is ⟫ semicolon-along l))
  statement-along (an_if k r m q) = onto (production (one k ⟫ relation-along r ⟫ may-along m)) (statement-along q)
  statement-along (a_do k) = here (production (one k))
  statement-along (an_until k r) = here (production (one k ⟫ relation-along r))
  statement-along (a_for k w e r t q p) = here (production (one k ⟫ one w ⟫ one e ⟫ relation-along r ⟫ one t ⟫ relation-along q ⟫ step-along p))
  statement-along (a_next k w) = here (production (one k ⟫ one w))
  statement-along (an_input k vs) = here (production (one k ⟫ variables-along vs))
  statement-along (an_input_text k d f) = here (production (one k ⟫ one d ⟫ factor-along f))
  statement-along (a_remark {s} {t} k a) = remarked (after_production (to_end (into s t _ k) a))
  statement-along (an_end k) = here (production (one k))

  pub reply-along : {n : ℕ} {s : List ℕ} {es : List Expr} (d : Reply W n s es) → ToComma R s (of_reply W d)
  reply-along (last_reply r a) = to-spaces (production (relation-along r)) a
  reply-along (enough {t} {u} r k) = production (relation-along r) ⟫all to_end (into t u _ k) tt
  reply-along (more_reply r k es) = production (relation-along r ⟫ one k) ⟫all reply-along es

  at-end : {s t : List ℕ} {ms : List Mark} → Ends s ms t → All is_space t → ToRemark R s ms
  at-end (here p) a = to-spaces p a
  at-end (remarked p) a = p

  -- nothing follows a remark, where the empty text begins with no word
  module _ (empty : (t : List ℕ) (w : Token) → W [] w t → ⊥) where
    past_end : {s t u : List ℕ} {w : Token} {ms ns : List Mark} → Ends s ms t → (k : W t w u) → ToRemark R u ns → ToRemark R s (ms ++ took W k ++ ns)
    past_end (here p) k q = p ⟫ one k ⟫all q
    past_end {u} {w} (remarked p) k q = absurd (empty u w k)

    pub members-along : {s : List ℕ} {ms : List Member} (d : Members W s ms) → ToRemark R s (of_members W d)
    members-along (last_member p a) = after_production (at-end (statement-along p) a)
    members-along (more_members p k ms) = after_production (past_end (statement-along p) k (members-along ms))

-- a typed line, with a word of either rule at its front
module _ (W C : Rule) (empty : (t : List ℕ) (w : Token) → W [] w t → ⊥) where
  either : (s t : List ℕ) (w : Token) → W s w t → OneOf W C s w t
  either s t w k = first k

  pub line-along : {s : List ℕ} {y : Typed} (d : Line W C s y) → ToRemark (OneOf W C) s (of_line W C d)
  line-along (a_blank a) = after_production (to_spaces a)
  line-along (a_delete w a) = after_production (after_word (first w) (to_spaces a))
  line-along (a_store w ms) = after_production (after_word (first w) (members-along W (OneOf W C) either empty ms))
  line-along (a_new c a) = after_production (after_word (second c) (to_spaces a))
  line-along (a_clear c a) = after_production (after_word (second c) (to_spaces a))
  line-along (a_run c a) = after_production (after_word (second c) (to_spaces a))
  line-along (a_list c a) = after_production (after_word (second c) (to_spaces a))
  line-along (a_list_from c w a) = after_production (after_word (second c) (after_word (first w) (to_spaces a)))
  line-along (an_immediate q a) = after_production (at-end W (OneOf W C) either (statement-along W (OneOf W C) either q) a)

-- The same, of document 01's words
no-word : (t : List ℕ) (w : Token) → Keywords [] w t → ⊥
no-word t w k = omega (arith, word-short k)

pub line-in-order : {s : List ℕ} {y : Typed} (d : LineReading s y) → ToRemark (OneOf Keywords Commands) s (of_line Keywords Commands d)
line-in-order d = line-along Keywords Commands no-word d

pub list-in-order : {s : List ℕ} {ms : List Member} (d : ListReading s ms) → ToRemark Keywords s (of_members Keywords d)
list-in-order d = members-along Keywords Keywords (λ s t w k. k) no-word d

pub reply-in-order : {n : ℕ} {s : List ℕ} {es : List Expr} (d : ReplyReading n s es) → ToComma Keywords s (of_reply Keywords d)
reply-in-order d = reply-along Keywords Keywords (λ s t w k. k) d
