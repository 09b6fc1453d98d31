-- A function that finds the column. That it finds exactly what the grammar gives is proved beside it (`column-exact`, proofs/Spot.antt).
-- A text is taken word by word, with a stack of what may still come. Every stack can be brought to an end, so a text whose words are all
-- taken is the front of a line. A text may also end within a word: then it goes on with the rest of one that it has begun.
use Rattle.std.specs.Prelude.{ℕ, zero, suc, ◌-◌, Bool, true, false, ◌&&◌, ◌||◌, List, [], ◌∷◌, ◌++◌, map, length, take, drop, leb, eqb, if◌then◌else◌}
use Rattle.std.proofs.Math.Option.{Option, none, some}
use Rattle.nibl.specs.Bytes.{bytes, byte_quote, same, is_space, is_text, is_quotable, past, all}
use Rattle.nibl.specs.Words.{Token, variable, decimal, hex, string, sign, keywords, commands, number, command}
use Rattle.nibl.specs.Grammar.{Joints, factor_joints, term_joints, sum_joints}
use Rattle.nibl.specs.Tree.{Op}
use Rattle.nibl.specs.found.Read.{FrontWord, at_end, wrong, got, step_in, choose}
use Rattle.nibl.specs.found.GaveUp.{gave_up}

-- what a word is to the grammar: a sign's number, or one for each other kind
abbrev pub a_name : ℕ
a_name = 5

abbrev pub a_decimal : ℕ
a_decimal = 6

abbrev pub a_hex : ℕ
a_hex = 7

abbrev pub a_text : ℕ
a_text = 8

abbrev pub sort_of : Token → ℕ
sort_of (variable v) = a_name
sort_of (decimal n) = a_decimal
sort_of (hex n) = a_hex
sort_of (string bs) = a_text
sort_of (sign k) = k

-- What may come, by numbers
abbrev pub factor : ℕ
factor = 1

-- a sum's first factor, which may have a sign
abbrev pub first_factor : ℕ
first_factor = 2

abbrev pub closing : ℕ
closing = 3

-- after MOD, and after its first relation
abbrev pub mod_open : ℕ
mod_open = 4

abbrev pub mod_comma : ℕ
mod_comma = 5

-- what a value is assigned to, then the "="
abbrev pub target : ℕ
target = 6

abbrev pub equals : ℕ
equals = 7

abbrev pub text_equals : ℕ
text_equals = 8

abbrev pub text_value : ℕ
text_value = 9

abbrev pub statement : ℕ
statement = 10

abbrev pub after_go : ℕ
after_go = 11

abbrev pub item : ℕ
item = 12

-- after IF and its relation
abbrev pub consequence : ℕ
consequence = 13

abbrev pub for_variable : ℕ
for_variable = 14

abbrev pub for_equals : ℕ
for_equals = 15

abbrev pub for_to : ℕ
for_to = 16

abbrev pub one_variable : ℕ
one_variable = 17

abbrev pub input_target : ℕ
input_target = 18

abbrev pub typed_line : ℕ
typed_line = 19

abbrev pub typed_command : ℕ
typed_command = 20

abbrev pub remark : ℕ
remark = 21

-- from here on: what may come, and need not
abbrev pub more_of_relation : ℕ
more_of_relation = 22

abbrev pub more_of_sum : ℕ
more_of_sum = 23

abbrev pub more_items : ℕ
more_items = 24

abbrev pub for_step : ℕ
for_step = 25

abbrev pub more_variables : ℕ
more_variables = 26

abbrev pub more_members : ℕ
more_members = 27

abbrev pub list_number : ℕ
list_number = 28

abbrev pub is_optional : ℕ → Bool
is_optional x = leb more_of_relation x

-- by the word that is taken: what may come after it
abbrev pub Cases : Type 0
Cases = List (ℕ × List ℕ)

abbrev pub a_relation : List ℕ
a_relation = first_factor ∷ more_of_relation ∷ []

abbrev pub factor_cases : Cases
factor_cases =
    (a_name, []) ∷ (a_decimal, []) ∷ (a_hex, []) ∷ (number "STAT", []) ∷ (number "TOP", []) ∷ (number "(", a_relation ++ (closing ∷ []))
    ∷ (number "@", factor ∷ []) ∷ (number "NOT", factor ∷ []) ∷ (number "MOD", mod_open ∷ []) ∷ []

abbrev pub first_cases : Cases
first_cases = (number "+", factor ∷ []) ∷ (number "-", factor ∷ []) ∷ factor_cases

-- the same, with more after each
abbrev pub followed : List ℕ → Cases → Cases
followed r cs = map (λ (c : ℕ × List ℕ). (c.0, c.1 ++ r)) cs

abbrev pub joint_cases : List ℕ → Joints → Cases
joint_cases r js = map (λ (j : ℕ × Op). (j.0, r)) js

abbrev pub operand_cases : ℕ → Cases
operand_cases more = joint_cases (factor ∷ more ∷ []) (factor_joints ++ term_joints)

abbrev pub target_cases : Cases
target_cases =
    (a_name, equals ∷ []) ∷ (number "STAT", equals ∷ []) ∷ (number "@", factor ∷ equals ∷ []) ∷ (number "$", factor ∷ text_equals ∷ []) ∷ []

abbrev pub statement_cases : Cases
statement_cases =
    (number "LET", target ∷ []) ∷ (number "GOTO", a_relation) ∷ (number "GOSUB", a_relation) ∷ (number "GO", after_go ∷ [])
    ∷ (number "RETURN", []) ∷ (number "PR", item ∷ more_items ∷ []) ∷ (number "PRINT", item ∷ more_items ∷ [])
    ∷ (number "IF", a_relation ++ (consequence ∷ [])) ∷ (number "DO", []) ∷ (number "UNTIL", a_relation) ∷ (number "FOR", for_variable ∷ [])
    ∷ (number "NEXT", one_variable ∷ []) ∷ (number "INPUT", input_target ∷ []) ∷ (number "REM", remark ∷ []) ∷ (number "END", []) ∷ target_cases

abbrev pub rules : List (ℕ × Cases)
rules =
    (factor, factor_cases) ∷ (first_factor, first_cases) ∷ (closing, (number ")", []) ∷ [])
    ∷ (mod_open, (number "(", a_relation ++ (mod_comma ∷ [])) ∷ []) ∷ (mod_comma, (number ",", a_relation ++ (closing ∷ [])) ∷ [])
    ∷ (target, target_cases) ∷ (equals, (number "=", a_relation) ∷ []) ∷ (text_equals, (number "=", text_value ∷ []) ∷ [])
    ∷ (text_value, (a_text, []) ∷ (number "$", factor ∷ []) ∷ [])
    ∷ (statement, statement_cases) ∷ (after_go, (number "TO", a_relation) ∷ (number "SUB", a_relation) ∷ [])
    ∷ (item, (a_text, []) ∷ (number "$", factor ∷ []) ∷ followed (more_of_relation ∷ []) first_cases)
    ∷ (consequence, (number "THEN", statement ∷ []) ∷ statement_cases)
    ∷ (for_variable, (a_name, for_equals ∷ []) ∷ []) ∷ (for_equals, (number "=", a_relation ++ (for_to ∷ [])) ∷ [])
    ∷ (for_to, (number "TO", a_relation ++ (for_step ∷ [])) ∷ [])
    ∷ (one_variable, (a_name, []) ∷ []) ∷ (input_target, (number "$", factor ∷ []) ∷ (a_name, more_variables ∷ []) ∷ [])
    ∷ (typed_line, (a_decimal, statement ∷ more_members ∷ []) ∷ statement_cases)
    ∷ (typed_command, (command "NEW", []) ∷ (command "CLEAR", []) ∷ (command "RUN", []) ∷ (command "LIST", list_number ∷ []) ∷ [])
    ∷ (more_of_relation, operand_cases more_of_relation ++ joint_cases (first_factor ∷ more_of_sum ∷ []) sum_joints)
    ∷ (more_of_sum, operand_cases more_of_sum) ∷ (more_items, (number ",", item ∷ more_items ∷ []) ∷ (number ";", []) ∷ [])
    ∷ (for_step, (number "STEP", a_relation) ∷ []) ∷ (more_variables, (number ",", one_variable ∷ more_variables ∷ []) ∷ [])
    ∷ (more_members, (number ":", statement ∷ more_members ∷ []) ∷ []) ∷ (list_number, (a_decimal, []) ∷ [])
    ∷ []

abbrev pub cases_of : ℕ → Cases
cases_of x = choose rules [] x

abbrev pub case_in : Cases → ℕ → Option (List ℕ)
case_in [] k = none
case_in (c ∷ cs) k = if eqb k c.0 then some c.1 else case_in cs k

-- what may come after a word, by what may come before it; what need not come and does not begin with the word is left out
unfoldable pub turn : ℕ → List ℕ → Option (List ℕ)
turn k [] = none
turn k (x ∷ xs) = elim (case_in (cases_of x) k) [ some r ↦ some (r ++ xs) | none ↦ if is_optional x then turn k xs else none ]

abbrev pub is_some : Option (List ℕ) → Bool
is_some none = false
is_some (some r) = true

abbrev pub is_remark : List ℕ → Bool
is_remark [] = false
is_remark (x ∷ xs) = eqb x remark

-- a string that the text has begun and not closed
abbrev pub opened : List ℕ → Bool
opened [] = false
opened (b ∷ s) = eqb b byte_quote && all is_quotable s

unfoldable pub is_open_string : List ℕ → Bool
is_open_string s = opened (past is_space s)

-- a text's words were all taken; or not, and then how many of its bytes stand from the byte on at which it could not go on
pub data Verdict : Type 0 where
  alive : Verdict
  stuck : ℕ → Verdict

abbrev pub is_alive : Verdict → Bool
is_alive alive = true
is_alive (stuck n) = false

abbrev pub turned : (List ℕ → List ℕ → Verdict) → List ℕ → Option (List ℕ) → Verdict
turned go u none = stuck (length u)
turned go u (some stack) = go stack u

abbrev pub wrong_at : List (List ℕ) → List ℕ → List ℕ → Verdict
wrong_at table stack s = if is_open_string s && is_some (turn a_text stack) then alive else stuck (gave_up table s)

abbrev pub by_step : List (List ℕ) → (List ℕ → List ℕ → Verdict) → List ℕ → List ℕ → FrontWord → Verdict
by_step table go stack s at_end = alive
by_step table go stack s wrong = wrong_at table stack s
by_step table go stack s (got w u) = turned go u (turn (sort_of w) stack)

-- the first word by the table, and then as `go` says
unfoldable pub advance : List (List ℕ) → (List ℕ → List ℕ → Verdict) → List ℕ → List ℕ → Verdict
advance table go stack s = by_step table go stack s (step_in table s)

-- "REM takes the rest of the line"
abbrev pub remark_at : List ℕ → Verdict
remark_at s = if all is_text s then alive else stuck (length (past is_text s))

-- n bounds how many words there are
unfoldable pub run_n : ℕ → List ℕ → List ℕ → Verdict
run_n zero stack s = stuck (length s)
run_n (suc n) stack s = elim (is_remark stack) [ true ↦ remark_at s | false ↦ advance keywords (run_n n) stack s ]

unfoldable pub line_run : List (List ℕ) → ℕ → List ℕ → Verdict
line_run table x s = advance table (run_n (length s)) (x ∷ []) s

-- as a line by the keywords, or by a command at its front
unfoldable pub all_taken : List ℕ → Bool
all_taken s = is_alive (line_run keywords typed_line s) || is_alive (line_run commands typed_command s)

-- the words that a text may have begun; of a hex constant "#" and a digit are enough
abbrev pub spellings : List (List ℕ)
spellings =
    keywords ++ (commands ++ (
    bytes "<=" ∷ bytes ">=" ∷ bytes "<>"
    ∷ bytes "#0" ∷ bytes "#1" ∷ bytes "#2" ∷ bytes "#3" ∷ bytes "#4" ∷ bytes "#5" ∷ bytes "#6" ∷ bytes "#7"
    ∷ bytes "#8" ∷ bytes "#9" ∷ bytes "#A" ∷ bytes "#B" ∷ bytes "#C" ∷ bytes "#D" ∷ bytes "#E" ∷ bytes "#F" ∷ []))

abbrev pub ends_with : List ℕ → List ℕ → Bool
ends_with a s = leb (length a) (length s) && same a (drop (length s - length a) s)

-- the text ends with the first i bytes of the spelling, or with fewer of them but at least one, and with the others behind it all its
-- words are taken
unfoldable pub begun_by : List ℕ → List ℕ → ℕ → Bool
begun_by s z zero = false
begun_by s z (suc i) = elim (ends_with (take (suc i) z) s && all_taken (s ++ drop (suc i) z)) [ true ↦ true | false ↦ begun_by s z i ]

unfoldable pub begun_in : List (List ℕ) → List ℕ → Bool
begun_in [] s = false
begun_in (z ∷ zs) s = elim (begun_by s z (length z - 1)) [ true ↦ true | false ↦ begun_in zs s ]

unfoldable pub is_front : List ℕ → Bool
is_front s = elim (all_taken s) [ true ↦ true | false ↦ begun_in spellings s ]

-- the longest front part of at most n bytes
unfoldable pub column_down : ℕ → List ℕ → ℕ
column_down zero s = zero
column_down (suc n) s = elim (is_front (take (suc n) s)) [ true ↦ suc n | false ↦ column_down n s ]

unfoldable pub column_of : List ℕ → ℕ
column_of s = column_down (length s) s
