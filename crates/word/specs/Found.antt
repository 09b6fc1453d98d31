-- What the contracts of the word reader say, beyond the definition of words.
use Rattle.std.specs.Prelude.{ℕ, zero, suc, ◌+◌, ◌-◌, ◌*◌, ◌/◌, ◌%◌, ◌≤◌, ◌<◌, ◌≡◌, Bool, true, false, not, ◌&&◌, ◌||◌, List, [], ◌∷◌, map, eqb, leb, length, take, drop, if◌then◌else◌, Option, None, Some, Result, Ok, Err}
use Rattle.std.proofs.Math.Option as math
use Rattle.std.proofs.Math.Seq.{slice}
use Rattle.nibl.specs.Bytes.{is_digit, is_capital, is_hex_digit, is_quotable, front, past, decimal_value, byte, bytes}
use Rattle.nibl.specs.Words.{variable, decimal, hex, string, sign, keywords, commands, is_symbol, first_keyword, number}
use Rattle.nibl.specs.found.Read.{FrontWord, at_end, wrong, got, letters_step, digits_step, hex_step, quoted_step, symbol_step, step_in}
use Rattle.nibl.specs.found.GaveUp.{most_common, past_largest, gave_up}
use Rattle.word.specs.declared.Word.{Word}
use Rattle.word.specs.declared.Word.TheVariants.{Variable, Decimal, Hex, Text, Sign, End, Wrong}

-- a word of the code as a step of the definition
abbrev pub found_step : List ℕ → Word → FrontWord
found_step text (Variable v c) = got (variable v) (drop c.at text)
found_step text (Decimal n c) = got (decimal n) (drop c.at text)
found_step text (Hex n c) = got (hex n) (drop c.at text)
found_step text (Text from to c) = got (string (slice from to text)) (drop c.at text)
found_step text (Sign k c) = got (sign k) (drop c.at text)
found_step text End = at_end
found_step text (Wrong c) = wrong

-- the largest decimal constant
abbrev pub largest : ℕ
largest = 32767

-- the cursor past a word lies behind `at` and within a text of n bytes
abbrev pub Behind : ℕ → ℕ → Word → Type 0
Behind at n (Variable v c) = (at < c.at) × (c.at ≤ n) × (v < 26)
Behind at n (Decimal v c) = (at < c.at) × (c.at ≤ n) × (v ≤ largest)
Behind at n (Hex v c) = (at < c.at) × (c.at ≤ n)
Behind at n (Text from to c) = (at < c.at) × (c.at ≤ n) × (from ≤ to) × (to + 1 ≡ c.at)
Behind at n (Sign k c) = (at < c.at) × (c.at ≤ n)
Behind at n End = Unit {0}
Behind at n (Wrong c) = Unit {0}

-- where the reader gave up, so many bytes of the text are left as `left` says
abbrev pub Stopped : (List ℕ → ℕ) → List ℕ → ℕ → Word → Type 0
Stopped left text at (Variable v c) = Unit {0}
Stopped left text at (Decimal v c) = Unit {0}
Stopped left text at (Hex v c) = Unit {0}
Stopped left text at (Text from to c) = Unit {0}
Stopped left text at (Sign k c) = Unit {0}
Stopped left text at End = Unit {0}
Stopped left text at (Wrong c) = c.at + left (drop at text) ≡ length text

-- the word r, read at a position of a text, is what the definition's `step` finds there, or no word could go on where `left` says
pub record AnswerIs (step : List ℕ → FrontWord) (left : List ℕ → ℕ) (text : List ℕ) (at : ℕ) (r : Word) : Type 0 where
  pub same : found_step text r ≡ step (drop at text)
  pub inside : Behind at (length text) r
  pub stopped : Stopped left text at r

-- and it is so by the words of a table
abbrev pub WordIs : List (List ℕ) → List ℕ → ℕ → Word → Type 0
WordIs table = AnswerIs (step_in table) (gave_up table)

-- the most letters that a keyword has
abbrev pub longest_keyword : ℕ
longest_keyword = 6

-- what may be, as the code has it
abbrev pub perhaps : {A : Type 0} → math.Option A → Option A
perhaps math.none = None
perhaps (math.some x) = Some x

-- a spelling as one number, the first letter lowest
abbrev pub key_of : List ℕ → ℕ
key_of [] = 0
key_of (c ∷ s) = c + 256 * key_of s

-- and the other way, n letters of it at most
abbrev pub spelled_key : ℕ → ℕ → List ℕ
spelled_key zero k = []
spelled_key (suc n) k = if eqb k 0 then [] else k % 256 ∷ spelled_key n (k / 256)

-- n and the index of a key in a list of them, 0 where it is not there
abbrev pub key_index : ℕ → List ℕ → ℕ → ℕ
key_index n [] k = 0
key_index n (x ∷ xs) k = if eqb x k then n else key_index (suc n) xs k

-- how many letters a spelling, as one number, has in common with a text
abbrev pub key_common : ℕ → List ℕ → ℕ
key_common k [] = 0
key_common k (b ∷ s) = if eqb k 0 then 0 else if eqb (k % 256) b then suc (key_common (k / 256) s) else 0

-- the most that one of a list of them has, but one at least
abbrev pub most_key : List ℕ → List ℕ → ℕ
most_key [] s = 1
most_key (k ∷ ks) s = if leb (key_common k s) (most_key ks s) then most_key ks s else key_common k s

-- the words that stand at the front of an immediate line, or those of any text
abbrev pub spellings_of : Bool → List (List ℕ)
spellings_of true = commands
spellings_of false = keywords

abbrev pub keys_of : Bool → List ℕ
keys_of b = map key_of (spellings_of b)

-- a command's first three letters, as one number; and whether those of a text are a command's
abbrev pub fronts : List ℕ
fronts = map (λ (w : List ℕ). key_of (take 3 w)) commands

abbrev pub may_command : List ℕ → Bool
may_command [] = false
may_command (a ∷ []) = false
may_command (a ∷ b ∷ []) = false
may_command (a ∷ b ∷ c ∷ s) = is_capital a && not (eqb (key_index first_keyword fronts (key_of (a ∷ b ∷ c ∷ []))) 0)

abbrev pub hex_digit : ℕ → ℕ
hex_digit d = if is_digit d then d - byte "0" else d - byte "A" + 10

-- The kinds of word, each as a step, and how many bytes are left where it gives up
abbrev pub letters_at : List (List ℕ) → List ℕ → FrontWord
letters_at table s = letters_step table (length (front is_capital s)) s

abbrev pub letters_left : List (List ℕ) → List ℕ → ℕ
letters_left table s = length s - most_common table s

abbrev pub decimal_at : List ℕ → FrontWord
decimal_at s = digits_step (decimal_value 0 (front is_digit s)) (past is_digit s)

abbrev pub decimal_left : List ℕ → ℕ
decimal_left s = length (past_largest 0 s)

-- the word that digits are, by their value and the position that they were read up to, or by that alone where the value is too large;
-- and hex digits from `from` on, if there are any
abbrev pub decimal_word : Result (ℕ × ℕ) ℕ → Word
decimal_word (Ok (v, at)) = Decimal v (record { at = at })
decimal_word (Err at) = Wrong (record { at = at })

abbrev pub hex_word : ℕ → Option (ℕ × ℕ) → Word
hex_word from (Some (v, at)) = Hex v (record { at = at })
hex_word from None = Wrong (record { at = from })

-- past the "#", and past the opening quote
abbrev pub hex_at : List ℕ → FrontWord
hex_at s = hex_step (front is_hex_digit s) (past is_hex_digit s)

abbrev pub quoted_at : List ℕ → FrontWord
quoted_at s = quoted_step (front is_quotable s) (past is_quotable s)

abbrev pub quoted_left : List ℕ → ℕ
quoted_left s = length (past is_quotable s)

abbrev pub symbol_at : List ℕ → FrontWord
symbol_at [] = wrong
symbol_at (b ∷ s) = if is_symbol b then symbol_step b s else wrong

-- the first byte of a text, 0 where it has none
abbrev pub first_of : List ℕ → ℕ
first_of [] = 0
first_of (b ∷ s) = b

abbrev pub spelling : List (List ℕ) → ℕ → List ℕ
spelling [] n = []
spelling (w ∷ ws) zero = w
spelling (w ∷ ws) (suc n) = spelling ws n

-- how a sign is spelled: a keyword by its letters, a pair by its two bytes, a symbol by itself
abbrev pub spelt : ℕ → List ℕ
spelt k =
    if leb first_keyword k then spelling keywords (k - first_keyword)
    else if eqb k (number "<=") then bytes "<="
    else if eqb k (number ">=") then bytes ">="
    else if eqb k (number "<>") then bytes "<>"
    else k ∷ []

-- a symbol that begins no pair
abbrev pub is_lone : ℕ → Bool
is_lone b = is_symbol b && not (eqb b (byte "<") || eqb b (byte ">"))

-- the position past the sign k where it stands next
pub data PastIs (k : ℕ) (text : List ℕ) (from : ℕ) : Option ℕ → Type 0 where
  there : {r : ℕ} → step_in keywords (drop from text) ≡ got (sign k) (drop r text) → from < r → r ≤ length text → PastIs k text from (Some r)
  not_there : ((t : List ℕ) → step_in keywords (drop from text) ≡ got (sign k) t → ⊥) → PastIs k text from None
