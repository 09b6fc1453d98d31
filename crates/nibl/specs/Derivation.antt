-- Derivations of the grammar, written out: the productions that a derivation is made of, in their order, and the words that
-- they take, each with its place. Of these a tree forgets brackets, LET, THEN, PR or PRINT, GO TO or GOTO, and "#".
use Rattle.std.specs.Prelude.{ℕ, Bool, List, [], ◌∷◌, ◌++◌, length}
use Prim.Native.String.{String}
use Rattle.nibl.specs.Bytes.{is_space, is_text, All}
use Rattle.nibl.specs.Words.{Token, sign, number}
use Rattle.nibl.specs.Grammar.{Joints, May, no_word, a_word, Joint, joint, Factor, a_variable, a_constant, a_hex, a_stat, a_top, in_brackets, a_byte, a_not, a_mod, Term, a_factor, factors, Sum, a_term, less_term, terms, Relation, a_sum, related}
use Rattle.nibl.specs.Grammar.{Either, whole, parted, PrintWord, short_print, long_print, AnItem, a_string, a_stored, a_value, Items, one_item, more_items, LastSemicolon, no_semicolon, a_semicolon, AStep, no_step, some_step, Variables, one_variable, more_variables}
use Rattle.nibl.specs.Grammar.{Statement, a_let_var, a_let_stat, a_let_byte, a_let_text, a_let_copy, a_goto, a_gosub, a_return, a_print, an_if, a_do, an_until, a_for, a_next, an_input, an_input_text, a_remark, an_end}
use Rattle.nibl.specs.Grammar.{Members, last_member, more_members, Reply, last_reply, enough, more_reply, Line, a_blank, a_delete, a_store, a_new, a_clear, a_run, a_list, a_list_from, an_immediate}
use Rattle.nibl.specs.Tree.{Op, Expr, Item, Stmt, Member, Typed}

pub data Mark : Type 0 where
  by : String → Mark  -- a production, by its name in the grammar
  takes : ℕ → Token → ℕ → Mark  -- a word; how many bytes of the text stand from its place on, spaces before it too, and how many behind it

-- `AllAlong R end Q s ms`: the words of the marks stand in the text s one after the other, by the rule of words R, up to the
-- spaces that end the text, or up to the word `end` with a text behind it that is Q
pub data AllAlong (R : List ℕ → Token → List ℕ → Type 0) (end : Token) (Q : List ℕ → Type 0) : List ℕ → List Mark → Type 0 where
  to_spaces : {s : List ℕ} → All is_space s → AllAlong R end Q s []
  to_end : {s t : List ℕ} → R s end t → Q t → AllAlong R end Q s (takes (length s) end (length t) ∷ [])
  after_production : {name : String} {ms : List Mark} {s : List ℕ} → AllAlong R end Q s ms → AllAlong R end Q s (by name ∷ ms)
  after_word : {w : Token} {ms : List Mark} {s t : List ℕ} → R s w t → AllAlong R end Q t ms → AllAlong R end Q s (takes (length s) w (length t) ∷ ms)

-- "REM takes the rest of the line"
abbrev pub ToRemark : (List ℕ → Token → List ℕ → Type 0) → List ℕ → List Mark → Type 0
ToRemark R = AllAlong R (sign (number "REM")) (All is_text)

-- "text after the comma that follows the last needed relation is ignored"
abbrev pub ToComma : (List ℕ → Token → List ℕ → Type 0) → List ℕ → List Mark → Type 0
ToComma R = AllAlong R (sign (number ",")) (λ t. Unit)

-- a word of either rule
pub data OneOf (W C : List ℕ → Token → List ℕ → Type 0) (s : List ℕ) (w : Token) (s' : List ℕ) : Type 0 where
  first : W s w s' → OneOf W C s w s'
  second : C s w s' → OneOf W C s w s'

-- the words alone
abbrev pub words_in : List Mark → List (ℕ × Token × ℕ)
words_in [] = []
words_in (by name ∷ ms) = words_in ms
words_in (takes n w m ∷ ms) = (n, w, m) ∷ words_in ms

module _ (W : List ℕ → Token → List ℕ → Type 0) where
  abbrev pub took : {s s' : List ℕ} {w : Token} → W s w s' → List Mark
  took {s} {s'} {w} k = takes (length s) w (length s') ∷ []

  abbrev pub of_may : {name : String} {s s' : List ℕ} → May W name s s' → List Mark
  of_may no_word = by "noWord" ∷ []
  of_may (a_word k) = by "aWord" ∷ took k

  abbrev pub of_joint : {js : Joints} {s s' : List ℕ} {o : Op} → Joint W js s o s' → List Mark
  of_joint (joint w e) = by "joint" ∷ took w

  abbrev mutual
    pub of_factor : {s s' : List ℕ} {a : Expr} → Factor W s a s' → List Mark
    of_factor (a_variable w) = by "aVariable" ∷ took w
    of_factor (a_constant w) = by "aConstant" ∷ took w
    of_factor (a_hex w) = by "aHex" ∷ took w
    of_factor (a_stat k) = by "aStat" ∷ took k
    of_factor (a_top k) = by "aTop" ∷ took k
    of_factor (in_brackets k r j) = by "inBrackets" ∷ took k ++ of_relation r ++ took j
    of_factor (a_byte k f) = by "aByte" ∷ took k ++ of_factor f
    of_factor (a_not k f) = by "aNot" ∷ took k ++ of_factor f
    of_factor (a_mod k i r c q j) = by "aMod" ∷ took k ++ took i ++ of_relation r ++ took c ++ of_relation q ++ took j

    pub of_term : {s s' : List ℕ} {a : Expr} → Term W s a s' → List Mark
    of_term (a_factor f) = by "aFactor" ∷ of_factor f
    of_term (factors x j f) = by "factors" ∷ of_term x ++ of_joint j ++ of_factor f

    pub of_sum : {s s' : List ℕ} {a : Expr} → Sum W s a s' → List Mark
    of_sum (a_term m x) = by "aTerm" ∷ of_may m ++ of_term x
    of_sum (less_term k x) = by "lessTerm" ∷ took k ++ of_term x
    of_sum (terms x j y) = by "terms" ∷ of_sum x ++ of_joint j ++ of_term y

    pub of_relation : {s s' : List ℕ} {a : Expr} → Relation W s a s' → List Mark
    of_relation (a_sum x) = by "aSum" ∷ of_sum x
    of_relation (related x j y) = by "related" ∷ of_sum x ++ of_joint j ++ of_sum y

  abbrev pub of_either : {one first second : String} {s s' : List ℕ} → Either W one first second s s' → List Mark
  of_either (whole k) = by "whole" ∷ took k
  of_either (parted k j) = by "parted" ∷ took k ++ took j

  abbrev pub of_print_word : {s s' : List ℕ} → PrintWord W s s' → List Mark
  of_print_word (short_print k) = by "shortPrint" ∷ took k
  of_print_word (long_print k) = by "longPrint" ∷ took k

  abbrev pub of_item : {s s' : List ℕ} {i : Item} → AnItem W s i s' → List Mark
  of_item (a_string w) = by "aString" ∷ took w
  of_item (a_stored k f) = by "aStored" ∷ took k ++ of_factor f
  of_item (a_value r) = by "aValue" ∷ of_relation r

  abbrev pub of_items : {s s' : List ℕ} {is : List Item} → Items W s is s' → List Mark
  of_items (one_item i) = by "oneItem" ∷ of_item i
  of_items (more_items i k is) = by "moreItems" ∷ of_item i ++ took k ++ of_items is

  abbrev pub of_semicolon : {s s' : List ℕ} {b : Bool} → LastSemicolon W s b s' → List Mark
  of_semicolon no_semicolon = by "noSemicolon" ∷ []
  of_semicolon (a_semicolon k) = by "aSemicolon" ∷ took k

  abbrev pub of_step : {s s' : List ℕ} {a : Expr} → AStep W s a s' → List Mark
  of_step no_step = by "noStep" ∷ []
  of_step (some_step k r) = by "someStep" ∷ took k ++ of_relation r

  abbrev pub of_variables : {s vs s' : List ℕ} → Variables W s vs s' → List Mark
  of_variables (one_variable w) = by "oneVariable" ∷ took w
  of_variables (more_variables w k vs) = by "moreVariables" ∷ took w ++ took k ++ of_variables vs

  abbrev pub of_statement : {s s' : List ℕ} {q : Stmt} → Statement W s q s' → List Mark
  of_statement (a_let_var m w k r) = by "aLetVar" ∷ of_may m ++ took w ++ took k ++ of_relation r
  of_statement (a_let_stat m w k r) = by "aLetStat" ∷ of_may m ++ took w ++ took k ++ of_relation r
  of_statement (a_let_byte m w f k r) = by "aLetByte" ∷ of_may m ++ took w ++ of_factor f ++ took k ++ of_relation r
  of_statement (a_let_text m w f k b) = by "aLetText" ∷ of_may m ++ took w ++ of_factor f ++ took k ++ took b
  of_statement (a_let_copy m w f k j g) = by "aLetCopy" ∷ of_may m ++ took w ++ of_factor f ++ took k ++ took j ++ of_factor g
  of_statement (a_goto e r) = by "aGoto" ∷ of_either e ++ of_relation r
  of_statement (a_gosub e r) = by "aGosub" ∷ of_either e ++ of_relation r
  of_statement (a_return k) = by "aReturn" ∷ took k
  of_statement (a_print p is l) = by "aPrint" ∷ of_print_word p ++ of_items is ++ of_semicolon l
  of_statement (an_if k r m q) = by "anIf" ∷ took k ++ of_relation r ++ of_may m ++ of_statement q
  of_statement (a_do k) = by "aDo" ∷ took k
  of_statement (an_until k r) = by "anUntil" ∷ took k ++ of_relation r
  of_statement (a_for k w e r t q p) = by "aFor" ∷ took k ++ took w ++ took e ++ of_relation r ++ took t ++ of_relation q ++ of_step p
  of_statement (a_next k w) = by "aNext" ∷ took k ++ took w
  of_statement (an_input k vs) = by "anInput" ∷ took k ++ of_variables vs
  of_statement (an_input_text k d f) = by "anInputText" ∷ took k ++ took d ++ of_factor f
  of_statement (a_remark k a) = by "aRemark" ∷ took k
  of_statement (an_end k) = by "anEnd" ∷ took k

  abbrev pub of_members : {s : List ℕ} {ms : List Member} → Members W s ms → List Mark
  of_members (last_member p a) = by "lastMember" ∷ of_statement p
  of_members (more_members p k ms) = by "moreMembers" ∷ of_statement p ++ took k ++ of_members ms

  abbrev pub of_reply : {n : ℕ} {s : List ℕ} {es : List Expr} → Reply W n s es → List Mark
  of_reply (last_reply r a) = by "lastReply" ∷ of_relation r
  of_reply (enough r k) = by "enough" ∷ of_relation r ++ took k
  of_reply (more_reply r k es) = by "moreReply" ∷ of_relation r ++ took k ++ of_reply es

-- a typed line, whose front may have a word of another rule
module _ (W C : List ℕ → Token → List ℕ → Type 0) where
  abbrev pub of_line : {s : List ℕ} {y : Typed} → Line W C s y → List Mark
  of_line (a_blank a) = by "aBlank" ∷ []
  of_line (a_delete w a) = by "aDelete" ∷ took W w
  of_line (a_store w ms) = by "aStore" ∷ took W w ++ of_members W ms
  of_line (a_new c a) = by "aNew" ∷ took C c
  of_line (a_clear c a) = by "aClear" ∷ took C c
  of_line (a_run c a) = by "aRun" ∷ took C c
  of_line (a_list c a) = by "aList" ∷ took C c
  of_line (a_list_from c w a) = by "aListFrom" ∷ took C c ++ took W w
  of_line (an_immediate q a) = by "anImmediate" ∷ of_statement W q
