-- Bytes, their classes, and runs of them.
use Rattle.std.specs.Prelude.{ℕ, if◌then◌else◌, ◌+◌, ◌-◌, ◌*◌, ◌≡◌, Bool, true, false, not, ◌&&◌, ◌||◌, List, [], ◌∷◌, leb, eqb}
use Prim.Native.String.{String, [] as nil, ◌∷◌ as ◌⊲◌}
use Prim.Native.Char.{code}

-- the bytes of a quoted text
abbrev pub bytes : String → List ℕ
bytes nil = []
bytes (c ⊲ s) = code c ∷ bytes s

-- the byte of one character
abbrev pub byte : String → ℕ
byte nil = 0
byte (c ⊲ s) = code c

-- the bytes that no character is written for here
abbrev pub byte_cr : ℕ
byte_cr = 13

abbrev pub byte_lf : ℕ
byte_lf = 10

abbrev pub byte_quote : ℕ
byte_quote = 34

abbrev pub same : List ℕ → List ℕ → Bool
same [] [] = true
same [] (y ∷ ys) = false
same (x ∷ xs) [] = false
same (x ∷ xs) (y ∷ ys) = eqb x y && same xs ys

abbrev pub is_space : ℕ → Bool
is_space b = eqb b (byte " ")

abbrev pub is_digit : ℕ → Bool
is_digit b = leb 48 b && leb b 57

abbrev pub is_capital : ℕ → Bool
is_capital b = leb 65 b && leb b 90

-- "0-9 A-F"
abbrev pub is_hex_digit : ℕ → Bool
is_hex_digit b = is_digit b || (leb 65 b && leb b 70)

-- "text bytes are 32 to 126 without 95"
abbrev pub is_text : ℕ → Bool
is_text b = leb 32 b && leb b 126 && not (eqb b 95)

-- "any text bytes but a quote"
abbrev pub is_quotable : ℕ → Bool
is_quotable b = is_text b && not (eqb b byte_quote)

abbrev pub not_cr : ℕ → Bool
not_cr b = not (eqb b byte_cr)

-- the classes of a byte, by number: "dropped, CR, erase, discard, space, digit, capital, quote, other"
abbrev pub class_dropped : ℕ
class_dropped = 0

abbrev pub class_cr : ℕ
class_cr = 1

abbrev pub class_erase : ℕ
class_erase = 2

abbrev pub class_discard : ℕ
class_discard = 3

abbrev pub class_space : ℕ
class_space = 4

abbrev pub class_digit : ℕ
class_digit = 5

abbrev pub class_capital : ℕ
class_capital = 6

abbrev pub class_quote : ℕ
class_quote = 7

abbrev pub class_other : ℕ
class_other = 8

abbrev pub class_of : ℕ → ℕ
class_of b =
    if eqb b 0 || eqb b 10 then class_dropped
    else if eqb b byte_cr then class_cr
    else if eqb b 95 then class_erase
    else if eqb b 21 then class_discard
    else if is_space b then class_space
    else if is_digit b then class_digit
    else if is_capital b then class_capital
    else if eqb b byte_quote then class_quote
    else class_other

-- every byte passes
pub data All (p : ℕ → Bool) : List ℕ → Type 0 where
  none : All p []
  each : {b : ℕ} {s : List ℕ} → p b ≡ true → All p s → All p (b ∷ s)

-- whether the first byte passes
abbrev pub starts : (ℕ → Bool) → List ℕ → Bool
starts p [] = false
starts p (b ∷ s) = p b

-- the longest run of bytes that pass, at the front, and what follows it
abbrev pub front : (ℕ → Bool) → List ℕ → List ℕ
front p [] = []
front p (b ∷ s) = if p b then b ∷ front p s else []

abbrev pub past : (ℕ → Bool) → List ℕ → List ℕ
past p [] = []
past p (b ∷ s) = if p b then past p s else b ∷ s

abbrev pub all : {A : Type 0} → (A → Bool) → List A → Bool
all p [] = true
all p (b ∷ s) = p b && all p s

-- the value of digits that follow the value n
abbrev pub decimal_value : ℕ → List ℕ → ℕ
decimal_value n [] = n
decimal_value n (d ∷ ds) = decimal_value (n * 10 + (d - byte "0")) ds

abbrev pub hex_value : ℕ → List ℕ → ℕ
hex_value n [] = n
hex_value n (d ∷ ds) = hex_value (n * 16 + (if is_digit d then d - byte "0" else d - byte "A" + 10)) ds
