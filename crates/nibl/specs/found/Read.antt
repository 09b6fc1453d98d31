-- A function that finds the reading. That it finds exactly what the grammar gives is proved beside it (proofs/Exact.antt).
use Rattle.std.specs.Prelude.{ℕ, zero, suc, ◌+◌, ◌-◌, ◌*◌, ◌%◌, Bool, true, false, ◌||◌, List, [], ◌∷◌, length, take, drop, leb, eqb, if◌then◌else◌}
use Prim.Native.String.{String}
use Rattle.std.proofs.Math.Option.{Option, none, some}
use Rattle.nibl.specs.Bytes.{is_space, is_text, is_digit, is_capital, is_hex_digit, is_quotable, starts, front, past, all, decimal_value, hex_value, byte, byte_quote}
use Rattle.nibl.specs.Words.{Token, variable, decimal, hex, string, sign, keywords, commands, index_in, pairs, is_symbol, number, command}
use Rattle.nibl.specs.Grammar.{Joints, factor_joints, term_joints, sum_joints, joint_of}
use Rattle.nibl.specs.Tree.{Op, Expr, var, const, stat, top, byte_at, invert, negate, modulo, two}
use Rattle.nibl.specs.Tree.{Item, text, stored, value}
use Rattle.nibl.specs.Tree.{Stmt, let_var, let_stat, let_byte, let_copy, let_text, goto, gosub, until, return, do_loop, remark, end, print, if_then, for, next, input, input_text}
use Rattle.nibl.specs.Tree.{Member, Typed, blank, new, clear, run, delete, list, store, immediate}

-- what stands at the front of a text: nothing but spaces, no word, or a word and what follows it
pub data FrontWord : Type 0 where
  at_end wrong : FrontWord
  got : Token → List ℕ → FrontWord

abbrev pub sign_or : Option ℕ → List ℕ → FrontWord → FrontWord
sign_or none s r = r
sign_or (some k) s r = got (sign k) s

-- "a letter not followed by a letter is a variable"
abbrev pub letter_step : List ℕ → FrontWord
letter_step [] = wrong
letter_step (c ∷ s) = if starts is_capital s then wrong else got (variable (c - byte "A")) s

-- a keyword of n letters, or of fewer, but two at least; or else a letter
unfoldable pub letters_step : List (List ℕ) → ℕ → List ℕ → FrontWord
letters_step table zero s = letter_step s
letters_step table (suc zero) s = letter_step s
letters_step table (suc (suc n)) s = sign_or (index_in table (take (suc (suc n)) s)) (drop (suc (suc n)) s) (letters_step table (suc n) s)

abbrev pub digits_step : ℕ → List ℕ → FrontWord
digits_step n s = if leb n 32767 then got (decimal n) s else wrong

abbrev pub hex_step : List ℕ → List ℕ → FrontWord
hex_step [] s = wrong
hex_step (d ∷ ds) s = got (hex (hex_value 0 (d ∷ ds) % 65536)) s

-- after the opening quote: what it encloses, and the text from the closing quote on
abbrev pub quoted_step : List ℕ → List ℕ → FrontWord
quoted_step bs [] = wrong
quoted_step bs (b ∷ s) = if eqb b byte_quote then got (string bs) s else wrong

abbrev pub pair_or : Option ℕ → ℕ → ℕ → List ℕ → FrontWord
pair_or none a b s = got (sign a) (b ∷ s)
pair_or (some k) a b s = got (sign k) s

abbrev pub symbol_step : ℕ → List ℕ → FrontWord
symbol_step a [] = got (sign a) []
symbol_step a (b ∷ s) = pair_or (pairs a b) a b s

unfoldable pub word_step : List (List ℕ) → ℕ → List ℕ → FrontWord
word_step table b s =
    if is_capital b then letters_step table (length (front is_capital (b ∷ s))) (b ∷ s)
    else if is_digit b then digits_step (decimal_value 0 (front is_digit (b ∷ s))) (past is_digit (b ∷ s))
    else if eqb b (byte "#") then hex_step (front is_hex_digit s) (past is_hex_digit s)
    else if eqb b byte_quote then quoted_step (front is_quotable s) (past is_quotable s)
    else if is_symbol b then symbol_step b s
    else wrong

unfoldable pub step_in : List (List ℕ) → List ℕ → FrontWord
step_in table [] = at_end
step_in table (b ∷ s) = elim (is_space b) [ true ↦ step_in table s | false ↦ word_step table b s ]

-- Readers: what was read and what follows it, or nothing
pub data Found (A : Type 0) : Type 0 where
  nothing : Found A
  found : A → List ℕ → Found A

abbrev pub Reader : Type 0 → Type 0
Reader A = List ℕ → Found A

module _ {A : Type 0} where
  abbrev pub give : A → Reader A
  give a s = found a s

  abbrev pub fail : Reader A
  fail s = nothing

  -- by the next word
  abbrev pub on_step : FrontWord → (Token → Reader A) → Found A
  on_step at_end k = nothing
  on_step wrong k = nothing
  on_step (got w s) k = k w s

  abbrev pub by_word : (Token → Reader A) → Reader A
  by_word k s = on_step (step_in keywords s) k

  -- by the number of a sign: the case that has it, or r
  abbrev pub choose : List (ℕ × A) → A → ℕ → A
  choose [] r k = r
  choose (c ∷ cs) r k = if eqb k c.0 then c.1 else choose cs r k

  abbrev pub is_found : Found A → Bool
  is_found nothing = false
  is_found (found a s) = true

module _ {A B : Type 0} where
  infixl 20 ◌>>=◌
  abbrev pub and_then : Found A → (A → Reader B) → Found B
  and_then nothing k = nothing
  and_then (found a s) k = k a s

  unfoldable pub ◌>>=◌ : Reader A → (A → Reader B) → Reader B
  ◌>>=◌ r k s = and_then (r s) k

  -- by what stands here, if it does, with k; else by r from here
  abbrev pub or_else : Found A → (A → List ℕ → B) → (List ℕ → B) → List ℕ → B
  or_else nothing k r s = r s
  or_else (found a t) k r s = k a t

-- one word of a kind
abbrev pub variable_of : Token → Reader ℕ
variable_of (variable v) = give v
variable_of (decimal n) = fail
variable_of (hex n) = fail
variable_of (string bs) = fail
variable_of (sign k) = fail

abbrev pub decimal_of : Token → Reader ℕ
decimal_of (variable v) = fail
decimal_of (decimal n) = give n
decimal_of (hex n) = fail
decimal_of (string bs) = fail
decimal_of (sign k) = fail

abbrev pub string_of : Token → Reader (List ℕ)
string_of (variable v) = fail
string_of (decimal n) = fail
string_of (hex n) = fail
string_of (string bs) = give bs
string_of (sign k) = fail

abbrev pub sign_of : Token → Reader ℕ
sign_of (variable v) = fail
sign_of (decimal n) = fail
sign_of (hex n) = fail
sign_of (string bs) = fail
sign_of (sign k) = give k

unfoldable pub a_variable : Reader ℕ
a_variable s = by_word variable_of s

unfoldable pub a_decimal : Reader ℕ
a_decimal s = by_word decimal_of s

unfoldable pub a_string : Reader (List ℕ)
a_string s = by_word string_of s

unfoldable pub a_sign : Reader ℕ
a_sign s = by_word sign_of s

module _ {A : Type 0} where
  -- after the word of this name, if it stands here, by r; else by q from here
  unfoldable pub if_key : String → Reader A → Reader A → Reader A
  if_key name r q s = or_else (a_sign s) (choose ((number name, r) ∷ []) (λ t. q s)) q s

  -- the word must stand here; or it may
  abbrev pub key : String → Reader A → Reader A
  key name r = if_key name r fail

  abbrev pub may : String → Reader A → Reader A
  may name r = if_key name r r

-- The parts of a relation. The last three read what follows an operand that was read already.
pub data Part : Type 0 where
  factor term sum relation : Part
  factors terms related : Expr → Part

abbrev pub joint_found : Option Op → Reader Op
joint_found none = fail
joint_found (some o) = give o

unfoldable pub a_joint : Joints → Reader Op
a_joint js = a_sign >>= (λ k. joint_found (joint_of js k))

module _ (rd : Part → Reader Expr) where
  abbrev pub factor_cases : List (ℕ × Reader Expr)
  factor_cases =
      (number "STAT", give stat) ∷ (number "TOP", give top)
      ∷ (number "(", rd relation >>= (λ a. key ")" (give a)))
      ∷ (number "@", rd factor >>= (λ a. give (byte_at a))) ∷ (number "NOT", rd factor >>= (λ a. give (invert a)))
      ∷ (number "MOD", key "(" (rd relation >>= (λ a. key "," (rd relation >>= (λ b. key ")" (give (modulo a b)))))))
      ∷ []

  abbrev pub factor_of : Token → Reader Expr
  factor_of (variable v) = give (var v)
  factor_of (decimal n) = give (const n)
  factor_of (hex n) = give (const n)
  factor_of (string bs) = fail
  factor_of (sign k) = choose factor_cases fail k

  -- one more operand, by the part q, and what follows it; or none
  abbrev pub more_operands : Joints → Part → (Expr → Reader Expr) → Expr → Reader Expr
  more_operands js q go a s = or_else (a_joint js s) (λ o. rd q >>= (λ b. go (two o a b))) (give a) s

  unfoldable pub part : Part → Reader Expr
  part factor s = by_word factor_of s
  part term s = (rd factor >>= (λ a. rd (factors a))) s
  part sum s = if_key "-" (rd term >>= (λ a. rd (terms (negate a)))) (may "+" (rd term >>= (λ a. rd (terms a)))) s
  part relation s = (rd sum >>= (λ a. rd (related a))) s
  part (factors a) s = more_operands factor_joints factor (λ b. rd (factors b)) a s
  part (terms a) s = more_operands term_joints term (λ b. rd (terms b)) a s
  part (related a) s = more_operands sum_joints sum give a s

-- k bounds how deep the parts nest
unfoldable pub read_n : ℕ → Part → Reader Expr
read_n zero p s = nothing
read_n (suc k) p s = part (read_n k) p s

abbrev pub rank : Part → ℕ
rank factor = 0
rank term = 1
rank sum = 2
rank relation = 3
rank (factors a) = 0
rank (terms a) = 0
rank (related a) = 0

unfoldable pub read : Part → Reader Expr
read p s = read_n (suc (4 * length s + rank p)) p s

-- Statements
abbrev pub a_relation : (Expr → Stmt) → Reader Stmt
a_relation make = read relation >>= (λ a. give (make a))

abbrev pub assigned : (Expr → Stmt) → Reader Stmt
assigned make = key "=" (a_relation make)

abbrev pub let_cases : List (ℕ × Reader Stmt)
let_cases =
    (number "STAT", assigned let_stat)
    ∷ (number "@", read factor >>= (λ a. assigned (let_byte a)))
    ∷ (
      number "$",
      read factor >>= (λ a. key "=" (λ s.
          or_else (a_string s) (λ bs. give (let_text a bs)) (key "$" (read factor >>= (λ b. give (let_copy a b)))) s)),
    )
    ∷ []

abbrev pub let_of : Token → Reader Stmt
let_of (variable v) = assigned (let_var v)
let_of (decimal n) = fail
let_of (hex n) = fail
let_of (string bs) = fail
let_of (sign k) = choose let_cases fail k

unfoldable pub an_item : Reader Item
an_item s =
    or_else (a_string s) (λ bs. give (text bs))
    (if_key "$" (read factor >>= (λ a. give (stored a))) (read relation >>= (λ a. give (value a)))) s

-- what `one` reads, one or more joined by commas; k bounds how many
unfoldable pub joined_n : {A : Type 0} → Reader A → ℕ → Reader (List A)
joined_n one zero s = nothing
joined_n one (suc k) s = (one >>= (λ a. if_key "," (joined_n one k >>= (λ as'. give (a ∷ as'))) (give (a ∷ [])))) s

unfoldable pub joined : {A : Type 0} → Reader A → Reader (List A)
joined one s = joined_n one (suc (length s)) s

abbrev pub printing : Reader Stmt
printing = joined an_item >>= (λ is. if_key ";" (give (print is true)) (give (print is false)))

abbrev pub for_to : Reader Stmt
for_to = a_variable >>= (λ v. key "=" (read relation >>= (λ a. key "TO" (read relation >>= (λ b.
    if_key "STEP" (a_relation (for v a b)) (give (for v a b (const 1))))))))

abbrev pub inputting : Reader Stmt
inputting = if_key "$" (read factor >>= (λ a. give (input_text a))) (joined a_variable >>= (λ vs. give (input vs)))

-- "REM takes the rest of the line"
abbrev pub remarking : Reader Stmt
remarking s = if all is_text s then found remark [] else nothing

module _ (rd : Reader Stmt) where
  abbrev pub statement_cases : List (ℕ × Reader Stmt)
  statement_cases =
      (number "LET", by_word let_of)
      ∷ (number "GOTO", a_relation goto) ∷ (number "GOSUB", a_relation gosub)
      ∷ (number "GO", if_key "TO" (a_relation goto) (key "SUB" (a_relation gosub)))
      ∷ (number "RETURN", give return) ∷ (number "PR", printing) ∷ (number "PRINT", printing)
      ∷ (number "IF", read relation >>= (λ a. may "THEN" (rd >>= (λ q. give (if_then a q)))))
      ∷ (number "DO", give do_loop) ∷ (number "UNTIL", a_relation until) ∷ (number "FOR", for_to)
      ∷ (number "NEXT", a_variable >>= (λ v. give (next v))) ∷ (number "INPUT", inputting)
      ∷ (number "REM", remarking) ∷ (number "END", give end) ∷ let_cases

  abbrev pub statement_of : Token → Reader Stmt
  statement_of (variable v) = assigned (let_var v)
  statement_of (decimal n) = fail
  statement_of (hex n) = fail
  statement_of (string bs) = fail
  statement_of (sign k) = choose statement_cases fail k

  unfoldable pub a_statement : Reader Stmt
  a_statement s = by_word statement_of s

-- k bounds how many IFs nest
unfoldable pub statement_n : ℕ → Reader Stmt
statement_n zero s = nothing
statement_n (suc k) s = a_statement (statement_n k) s

unfoldable pub statement : Reader Stmt
statement s = statement_n (suc (length s)) s

-- a member ends at the text's end or at a ":"
abbrev pub ends_member : Stmt → Reader Member
ends_member q s =
    if all is_space s then found (record { statement = q; left = 0 }) []
    else key ":" (λ t. found (record { statement = q; left = suc (length t) }) t) s

unfoldable pub member : Reader Member
member = statement >>= ends_member

-- no reading
abbrev pub unread : {A : Type 0} → List ℕ → Option A
unread s = none

abbrev pub cons_some : {A : Type 0} → A → Option (List A) → Option (List A)
cons_some a none = none
cons_some a (some l) = some (a ∷ l)

-- k bounds how many members there are
unfoldable pub members_n : ℕ → List ℕ → Option (List Member)
members_n zero s = none
members_n (suc k) s =
    or_else (member s) (λ m t. elim m.left [ zero ↦ some (m ∷ []) | suc n ↦ cons_some m (members_n k t) ]) unread s

-- the reading of a statement list
unfoldable pub reading : List ℕ → Option (List Member)
reading s = members_n (suc (length s)) s

-- the reading of a reply for so many variables
abbrev pub last_reply : Expr → List ℕ → Option (List Expr)
last_reply a s = if all is_space s || is_found (key "," (give a) s) then some (a ∷ []) else none

unfoldable pub replied : ℕ → List ℕ → Option (List Expr)
replied zero s = none
replied (suc zero) s = or_else (read relation s) last_reply unread s
replied (suc (suc n)) s = or_else ((read relation >>= (λ a. key "," (give a))) s) (λ a t. cons_some a (replied (suc n) t)) unread s

-- the reading of a typed line
abbrev pub alone : Typed → List ℕ → Option Typed
alone t s = if all is_space s then some t else none

abbrev pub storing : ℕ → List ℕ → Option (List Member) → Option Typed
storing n s none = none
storing n s (some ms) = some (store n s ms)

abbrev pub numbered : ℕ → List ℕ → Option Typed
numbered n s = elim (all is_space s) [ true ↦ some (delete n) | false ↦ storing n s (reading s) ]

abbrev pub alone_statement : List ℕ → Option Typed
alone_statement s = or_else (statement s) (λ q. alone (immediate q)) unread s

abbrev pub command_cases : List (ℕ × (List ℕ → Option Typed))
command_cases =
    (command "NEW", alone new) ∷ (command "CLEAR", alone clear)
    ∷ (command "LIST", λ s. or_else (a_decimal s) (λ n. alone (list n)) (alone (list 0)) s) ∷ (command "RUN", alone run) ∷ []

abbrev pub unnumbered : List ℕ → Option Typed
unnumbered s = or_else (on_step (step_in commands s) sign_of) (choose command_cases (λ t. alone_statement s)) alone_statement s

unfoldable pub typed : List ℕ → Option Typed
typed s = elim (all is_space s) [ true ↦ some blank | false ↦ or_else (a_decimal s) numbered unnumbered s ]
