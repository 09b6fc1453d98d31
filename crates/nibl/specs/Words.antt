-- Words: "always the longest that fits".
use Rattle.std.specs.Prelude.{ℕ, suc, ◌-◌, ◌%◌, ◌≤◌, ◌≡◌, Bool, true, false, not, ◌&&◌, ◌||◌, List, [], ◌∷◌, ◌++◌, length, eqb, leb, if◌then◌else◌}
use Prim.Native.String.{String}
use Rattle.std.proofs.Math.Option.{Option, none, some}
use Rattle.nibl.specs.Bytes.{byte, bytes, same, is_digit, is_capital, is_hex_digit, is_quotable, All, starts, front, all, decimal_value, hex_value, byte_quote}

pub data Token : Type 0 where
  variable : ℕ → Token  -- 0 for A to 25 for Z
  decimal hex : ℕ → Token  -- a constant's value
  string : List ℕ → Token  -- what the quotes enclose
  sign : ℕ → Token  -- a keyword, a pair or a symbol, by its number

-- a keyword's number is the first one's and its index in this list
abbrev pub first_keyword : ℕ
first_keyword = 128

-- "LET GO TO SUB GOTO GOSUB RETURN PR PRINT IF THEN DO UNTIL FOR STEP NEXT INPUT REM END STAT TOP MOD AND OR NOT"
abbrev pub keywords : List (List ℕ)
keywords =
    bytes "LET" ∷ bytes "GO" ∷ bytes "TO" ∷ bytes "SUB" ∷ bytes "GOTO" ∷ bytes "GOSUB" ∷ bytes "RETURN" ∷ bytes "PR" ∷ bytes "PRINT"
    ∷ bytes "IF" ∷ bytes "THEN" ∷ bytes "DO" ∷ bytes "UNTIL" ∷ bytes "FOR" ∷ bytes "STEP" ∷ bytes "NEXT" ∷ bytes "INPUT" ∷ bytes "REM"
    ∷ bytes "END" ∷ bytes "STAT" ∷ bytes "TOP" ∷ bytes "MOD" ∷ bytes "AND" ∷ bytes "OR" ∷ bytes "NOT" ∷ []

-- "at the front of an immediate line NEW CLEAR LIST RUN"
abbrev pub commands : List (List ℕ)
commands = bytes "NEW" ∷ bytes "CLEAR" ∷ bytes "LIST" ∷ bytes "RUN" ∷ []

-- the first number whose spelling in the list is this one, counted from n; keywords and commands are counted from `first_keyword`
abbrev pub index_from : ℕ → List (List ℕ) → List ℕ → Option ℕ
index_from n [] w = none
index_from n (k ∷ ks) w = if same k w then some n else index_from (suc n) ks w

abbrev pub index_in : List (List ℕ) → List ℕ → Option ℕ
index_in = index_from first_keyword

-- a pair's number: "the pairs <= >= <> are one word"
abbrev pub pairs : ℕ → ℕ → Option ℕ
pairs a b =
    if eqb a (byte "<") && eqb b (byte "=") then some 1
    else if eqb a (byte ">") && eqb b (byte "=") then some 2
    else if eqb a (byte "<") && eqb b (byte ">") then some 3
    else none

abbrev pub there : Option ℕ → Bool
there none = false
there (some k) = true

abbrev pub pairs_with : ℕ → List ℕ → Bool
pairs_with a [] = false
pairs_with a (b ∷ s) = there (pairs a b)

-- a symbol's number is its byte
abbrev pub is_symbol : ℕ → Bool
is_symbol b =
    eqb b (byte "$") || eqb b (byte "(") || eqb b (byte ")") || eqb b (byte "*") || eqb b (byte "+") || eqb b (byte ",") || eqb b (byte "-")
    || eqb b (byte "/") || eqb b (byte ":") || eqb b (byte ";") || eqb b (byte "<") || eqb b (byte "=") || eqb b (byte ">") || eqb b (byte "@")

-- the run ds of bytes that pass stands before s, and is the longest
pub record ByteRun (p : ℕ → Bool) (ds s : List ℕ) : Type 0 where
  pub some : starts p ds ≡ true
  pub each : All p ds
  pub longest : starts p s ≡ false

-- the spelling w stands at the front of the text s
abbrev pub begins : List ℕ → List ℕ → Bool
begins [] s = true
begins (c ∷ w) [] = false
begins (c ∷ w) (b ∷ s) = eqb c b && begins w s

-- of the table's spellings none with more than n letters stands at the front of s
unfoldable pub none_over : ℕ → List (List ℕ) → List ℕ → Bool
none_over n table s = all (λ (w : List ℕ). leb (length w) n || not (begins w s)) table

-- the letters w, a keyword whose number is k, stand before s: "where a letter stands, the longest keyword that begins there is taken". A
-- longer one would be of the letters that stand there: those of w and the first of s
pub record Keyword (table : List (List ℕ)) (w : List ℕ) (k : ℕ) (s : List ℕ) : Type 0 where
  pub each : All is_capital w
  pub spelled : index_in table w ≡ some k
  pub longest : none_over (length w) table (front is_capital (w ++ s)) ≡ true

-- `Word table s w s'`: past any spaces the text s begins with the word w, and s' follows it
pub data Word (table : List (List ℕ)) : List ℕ → Token → List ℕ → Type 0 where
  spaced : {w : Token} {s s' : List ℕ} → Word table s w s' → Word table (byte " " ∷ s) w s'
  keyword : {c d k : ℕ} {cs s : List ℕ} → Keyword table (c ∷ d ∷ cs) k s → Word table (c ∷ d ∷ cs ++ s) (sign k) s
  -- "if none does, a letter not followed by a letter is a variable": a keyword has two letters or more, so none does there
  letter : {c : ℕ} {s : List ℕ} → ByteRun is_capital (c ∷ []) s → Word table (c ∷ s) (variable (c - byte "A")) s
  decimal_digits : {ds s : List ℕ} → ByteRun is_digit ds s → decimal_value 0 ds ≤ 32767 → Word table (ds ++ s) (decimal (decimal_value 0 ds)) s
  hex_digits : {ds s : List ℕ} → ByteRun is_hex_digit ds s → Word table (byte "#" ∷ ds ++ s) (hex (hex_value 0 ds % 65536)) s
  quoted : {bs s : List ℕ} → All is_quotable bs → Word table (byte_quote ∷ bs ++ byte_quote ∷ s) (string bs) s
  pair : {a b k : ℕ} {s : List ℕ} → pairs a b ≡ some k → Word table (a ∷ b ∷ s) (sign k) s
  symbol : {b : ℕ} {s : List ℕ} → is_symbol b ≡ true → pairs_with b s ≡ false → Word table (b ∷ s) (sign b) s

-- the number of a keyword, a pair or a symbol
abbrev pub number_or : ℕ → Option ℕ → ℕ
number_or n none = n
number_or n (some k) = k

abbrev pub number_in : List (List ℕ) → List ℕ → ℕ
number_in table [] = 0
number_in table (a ∷ []) = a
number_in table (a ∷ b ∷ []) = number_or (number_or 0 (pairs a b)) (index_in table (a ∷ b ∷ []))
number_in table (a ∷ b ∷ c ∷ s) = number_or 0 (index_in table (a ∷ b ∷ c ∷ s))

abbrev pub number : String → ℕ
number name = number_in keywords (bytes name)

abbrev pub command : String → ℕ
command name = number_in commands (bytes name)
