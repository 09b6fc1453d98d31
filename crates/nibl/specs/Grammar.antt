-- The grammar, over any rule of words. `Factor s a s'`: the text s begins with a factor that is read as a, and s' follows it.
-- Nothing here looks for a reading.
use Rattle.std.specs.Prelude.{ℕ, suc, ◌≡◌, Bool, true, false, List, [], ◌∷◌, length, eqb, if◌then◌else◌}
use Prim.Native.String.{String}
use Rattle.std.proofs.Math.Option.{Option, none, some}
use Rattle.nibl.specs.Bytes.{is_space, is_text, All}
use Rattle.nibl.specs.Words.{Token, variable, decimal, hex, string, sign, number, command}
use Rattle.nibl.specs.Tree.{Op, times, divided_by, and_bits, plus, minus, or_bits, equal, less, greater, at_most, at_least, unequal}
use Rattle.nibl.specs.Tree.{Expr, var, const, stat, top, byte_at, invert, negate, modulo, two}
use Rattle.nibl.specs.Tree.{Item, text, stored, value}
use Rattle.nibl.specs.Tree.{Stmt, let_var, let_stat, let_byte, let_copy, let_text, goto, gosub, until, return, do_loop, remark, end, print, if_then, for, next, input, input_text}
use Rattle.nibl.specs.Tree.{Member, Typed, blank, new, clear, run, delete, list, store, immediate}

-- which operators join factors ("* / AND"), terms ("+ - OR") and sums ("one of = < > <= >= <>")
abbrev pub Joints : Type 0
Joints = List (ℕ × Op)

abbrev pub factor_joints : Joints
factor_joints = (number "*", times) ∷ (number "/", divided_by) ∷ (number "AND", and_bits) ∷ []

abbrev pub term_joints : Joints
term_joints = (number "+", plus) ∷ (number "-", minus) ∷ (number "OR", or_bits) ∷ []

abbrev pub sum_joints : Joints
sum_joints =
    (number "=", equal) ∷ (number "<", less) ∷ (number ">", greater) ∷ (number "<=", at_most) ∷ (number ">=", at_least) ∷ (number "<>", unequal) ∷ []

abbrev pub joint_of : Joints → ℕ → Option Op
joint_of [] k = none
joint_of (j ∷ js) k = if eqb k j.0 then some j.1 else joint_of js k

-- `W s w s'`: the text s begins with the word w
module _ (W : List ℕ → Token → List ℕ → Type 0) where
  abbrev pub Key : String → List ℕ → List ℕ → Type 0
  Key name s s' = W s (sign (number name)) s'

  -- an optional word
  pub data May (name : String) : List ℕ → List ℕ → Type 0 where
    no_word : {s : List ℕ} → May name s s
    a_word : {s s' : List ℕ} → Key name s s' → May name s s'

  pub data Joint (js : Joints) : List ℕ → Op → List ℕ → Type 0 where
    joint : {k : ℕ} {o : Op} {s s' : List ℕ} → W s (sign k) s' → joint_of js k ≡ some o → Joint js s o s'

  mutual
    -- "Factor: variable, constant, STAT, TOP; '(' relation ')'; '@' or NOT before a factor; MOD '(' relation ',' relation ')'"
    pub data Factor : List ℕ → Expr → List ℕ → Type 0 where
      a_variable : {v : ℕ} {s s' : List ℕ} → W s (variable v) s' → Factor s (var v) s'
      a_constant : {n : ℕ} {s s' : List ℕ} → W s (decimal n) s' → Factor s (const n) s'
      a_hex : {n : ℕ} {s s' : List ℕ} → W s (hex n) s' → Factor s (const n) s'
      a_stat : {s s' : List ℕ} → Key "STAT" s s' → Factor s stat s'
      a_top : {s s' : List ℕ} → Key "TOP" s s' → Factor s top s'
      in_brackets : {s t u s' : List ℕ} {a : Expr} → Key "(" s t → Relation t a u → Key ")" u s' → Factor s a s'
      a_byte : {s t s' : List ℕ} {a : Expr} → Key "@" s t → Factor t a s' → Factor s (byte_at a) s'
      a_not : {s t s' : List ℕ} {a : Expr} → Key "NOT" s t → Factor t a s' → Factor s (invert a) s'
      a_mod : {s t u v x y s' : List ℕ} {a b : Expr} → Key "MOD" s t → Key "(" t u → Relation u a v → Key "," v x → Relation x b y
          → Key ")" y s' → Factor s (modulo a b) s'

    -- "Term: factors joined by * / AND"
    pub data Term : List ℕ → Expr → List ℕ → Type 0 where
      a_factor : {s s' : List ℕ} {a : Expr} → Factor s a s' → Term s a s'
      factors : {s t u s' : List ℕ} {o : Op} {a b : Expr} → Term s a t → Joint factor_joints t o u → Factor u b s' → Term s (two o a b) s'

    -- "Sum: optional + or -, a term, then terms joined by + - OR"
    pub data Sum : List ℕ → Expr → List ℕ → Type 0 where
      a_term : {s t s' : List ℕ} {a : Expr} → May "+" s t → Term t a s' → Sum s a s'
      less_term : {s t s' : List ℕ} {a : Expr} → Key "-" s t → Term t a s' → Sum s (negate a) s'
      terms : {s t u s' : List ℕ} {o : Op} {a b : Expr} → Sum s a t → Joint term_joints t o u → Term u b s' → Sum s (two o a b) s'

    -- "Relation: a sum, or two sums around one of = < > <= >= <>"
    pub data Relation : List ℕ → Expr → List ℕ → Type 0 where
      a_sum : {s s' : List ℕ} {a : Expr} → Sum s a s' → Relation s a s'
      related : {s t u s' : List ℕ} {o : Op} {a b : Expr} → Sum s a t → Joint sum_joints t o u → Sum u b s' → Relation s (two o a b) s'

  -- two words that stand for one, as GO TO for GOTO
  pub data Either (one first second : String) : List ℕ → List ℕ → Type 0 where
    whole : {s s' : List ℕ} → Key one s s' → Either one first second s s'
    parted : {s t s' : List ℕ} → Key first s t → Key second t s' → Either one first second s s'

  -- "PR or PRINT with one or more items joined by commas and an optional last ';'"
  pub data PrintWord : List ℕ → List ℕ → Type 0 where
    short_print : {s s' : List ℕ} → Key "PR" s s' → PrintWord s s'
    long_print : {s s' : List ℕ} → Key "PRINT" s s' → PrintWord s s'

  -- "an item being a string, '$' factor or relation"
  pub data AnItem : List ℕ → Item → List ℕ → Type 0 where
    a_string : {s s' bs : List ℕ} → W s (string bs) s' → AnItem s (text bs) s'
    a_stored : {s t s' : List ℕ} {a : Expr} → Key "$" s t → Factor t a s' → AnItem s (stored a) s'
    a_value : {s s' : List ℕ} {a : Expr} → Relation s a s' → AnItem s (value a) s'

  pub data Items : List ℕ → List Item → List ℕ → Type 0 where
    one_item : {s s' : List ℕ} {i : Item} → AnItem s i s' → Items s (i ∷ []) s'
    more_items : {s t u s' : List ℕ} {i : Item} {is : List Item} → AnItem s i t → Key "," t u → Items u is s' → Items s (i ∷ is) s'

  pub data LastSemicolon : List ℕ → Bool → List ℕ → Type 0 where
    no_semicolon : {s : List ℕ} → LastSemicolon s false s
    a_semicolon : {s s' : List ℕ} → Key ";" s s' → LastSemicolon s true s'

  -- "optional STEP relation": without one the step is 1
  pub data AStep : List ℕ → Expr → List ℕ → Type 0 where
    no_step : {s : List ℕ} → AStep s (const 1) s
    some_step : {s t s' : List ℕ} {a : Expr} → Key "STEP" s t → Relation t a s' → AStep s a s'

  -- "variables joined by commas"
  pub data Variables : List ℕ → List ℕ → List ℕ → Type 0 where
    one_variable : {s s' : List ℕ} {v : ℕ} → W s (variable v) s' → Variables s (v ∷ []) s'
    more_variables : {s t u s' : List ℕ} {v : ℕ} {vs : List ℕ} → W s (variable v) t → Key "," t u → Variables u vs s' → Variables s (v ∷ vs) s'

  -- "LET (optional) then variable, STAT or '@' factor, '=', relation; LET (optional) '$' factor '=' and a quoted string or '$' factor;
  -- GOTO, GO TO, GOSUB or GO SUB with a relation; RETURN; PR or PRINT with .. items ..; IF relation, optional THEN, a statement; DO;
  -- UNTIL relation; FOR variable = relation TO relation, optional STEP relation; NEXT variable; INPUT with variables joined by
  -- commas, or '$' factor; REM; END"
  pub data Statement : List ℕ → Stmt → List ℕ → Type 0 where
    a_let_var : {s t u x s' : List ℕ} {v : ℕ} {a : Expr} → May "LET" s t → W t (variable v) u → Key "=" u x → Relation x a s'
        → Statement s (let_var v a) s'
    a_let_stat : {s t u x s' : List ℕ} {a : Expr} → May "LET" s t → Key "STAT" t u → Key "=" u x → Relation x a s' → Statement s (let_stat a) s'
    a_let_byte : {s t u x y s' : List ℕ} {a b : Expr} → May "LET" s t → Key "@" t u → Factor u a x → Key "=" x y → Relation y b s'
        → Statement s (let_byte a b) s'
    a_let_text : {s t u x y s' bs : List ℕ} {a : Expr} → May "LET" s t → Key "$" t u → Factor u a x → Key "=" x y → W y (string bs) s'
        → Statement s (let_text a bs) s'
    a_let_copy : {s t u x y z s' : List ℕ} {a b : Expr} → May "LET" s t → Key "$" t u → Factor u a x → Key "=" x y → Key "$" y z → Factor z b s'
        → Statement s (let_copy a b) s'
    a_goto : {s t s' : List ℕ} {a : Expr} → Either "GOTO" "GO" "TO" s t → Relation t a s' → Statement s (goto a) s'
    a_gosub : {s t s' : List ℕ} {a : Expr} → Either "GOSUB" "GO" "SUB" s t → Relation t a s' → Statement s (gosub a) s'
    a_return : {s s' : List ℕ} → Key "RETURN" s s' → Statement s return s'
    a_print : {s t u s' : List ℕ} {is : List Item} {b : Bool} → PrintWord s t → Items t is u → LastSemicolon u b s' → Statement s (print is b) s'
    an_if : {s t u x s' : List ℕ} {a : Expr} {q : Stmt} → Key "IF" s t → Relation t a u → May "THEN" u x → Statement x q s'
        → Statement s (if_then a q) s'
    a_do : {s s' : List ℕ} → Key "DO" s s' → Statement s do_loop s'
    an_until : {s t s' : List ℕ} {a : Expr} → Key "UNTIL" s t → Relation t a s' → Statement s (until a) s'
    a_for : {s t u x y z p s' : List ℕ} {v : ℕ} {a b c : Expr} → Key "FOR" s t → W t (variable v) u → Key "=" u x → Relation x a y
        → Key "TO" y z → Relation z b p → AStep p c s' → Statement s (for v a b c) s'
    a_next : {s t s' : List ℕ} {v : ℕ} → Key "NEXT" s t → W t (variable v) s' → Statement s (next v) s'
    an_input : {s t s' : List ℕ} {vs : List ℕ} → Key "INPUT" s t → Variables t vs s' → Statement s (input vs) s'
    an_input_text : {s t u s' : List ℕ} {a : Expr} → Key "INPUT" s t → Key "$" t u → Factor u a s' → Statement s (input_text a) s'
    a_remark : {s t : List ℕ} → Key "REM" s t → All is_text t → Statement s remark []
    an_end : {s s' : List ℕ} → Key "END" s s' → Statement s end s'

  -- "A statement list is statements joined by ':'"
  pub data Members : List ℕ → List Member → Type 0 where
    last_member : {s t : List ℕ} {q : Stmt} → Statement s q t → All is_space t → Members s (record { statement = q; left = 0 } ∷ [])
    more_members : {s t u : List ℕ} {q : Stmt} {ms : List Member} → Statement s q t → Key ":" t u → Members u ms
        → Members s (record { statement = q; left = suc (length u) } ∷ ms)

  -- a reply to INPUT for so many variables; "text after the comma that follows the last needed relation is ignored"
  pub data Reply : ℕ → List ℕ → List Expr → Type 0 where
    last_reply : {s t : List ℕ} {a : Expr} → Relation s a t → All is_space t → Reply 1 s (a ∷ [])
    enough : {s t u : List ℕ} {a : Expr} → Relation s a t → Key "," t u → Reply 1 s (a ∷ [])
    more_reply : {n : ℕ} {s t u : List ℕ} {a : Expr} {es : List Expr} → Relation s a t → Key "," t u → Reply (suc n) u es → Reply (suc (suc n)) s (a ∷ es)

  -- C is the rule of words at the front of an immediate line
  module _ (C : List ℕ → Token → List ℕ → Type 0) where
    -- "A typed line is blank, a number alone, a number and a statement list, a command, or one statement". On several statements in
    -- an immediate line "the table decides, one only"
    pub data Line : List ℕ → Typed → Type 0 where
      a_blank : {s : List ℕ} → All is_space s → Line s blank
      a_delete : {s t : List ℕ} {n : ℕ} → W s (decimal n) t → All is_space t → Line s (delete n)
      a_store : {s t : List ℕ} {n : ℕ} {ms : List Member} → W s (decimal n) t → Members t ms → Line s (store n t ms)
      a_new : {s t : List ℕ} → C s (sign (command "NEW")) t → All is_space t → Line s new
      a_clear : {s t : List ℕ} → C s (sign (command "CLEAR")) t → All is_space t → Line s clear
      a_run : {s t : List ℕ} → C s (sign (command "RUN")) t → All is_space t → Line s run
      a_list : {s t : List ℕ} → C s (sign (command "LIST")) t → All is_space t → Line s (list 0)
      a_list_from : {s t u : List ℕ} {n : ℕ} → C s (sign (command "LIST")) t → W t (decimal n) u → All is_space u → Line s (list n)
      an_immediate : {s t : List ℕ} {q : Stmt} → Statement s q t → All is_space t → Line s (immediate q)
