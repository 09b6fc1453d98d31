-- What an expression is worth, or what it is refused with, in document 01's words. Nothing here evaluates: each rule is one sentence, and that the
-- definition keeps to them is proved (proofs/Valued.antt).
use Rattle.std.specs.Prelude.{ℕ, ◌+◌, ◌-◌, ◌*◌, ◌/◌, ◌%◌, ◌≤◌, ◌<◌, ◌≡◌, Bool, true, false, List, [], ◌∷◌, ◌++◌, length, get_or, drop}
use Rattle.std.specs.Int.Bits.{bit_and, bit_or}
use Rattle.nibl.specs.Bytes.{All, not_cr, byte_cr, byte}
use Rattle.nibl.specs.Tree.{Op, times, divided_by, and_bits, plus, minus, or_bits, equal, less, greater, at_most, at_least, unequal}
use Rattle.nibl.specs.Tree.{Expr, var, const, stat, top, byte_at, invert, negate, modulo, two}
use Rattle.nibl.specs.Tree.{Item, text, stored, value}
use Rattle.nibl.specs.Values.{Result, is, no}
use Rattle.nibl.specs.Page.{records_of, program_bytes}
use Rattle.nibl.specs.Meaning.{World, Env}
use Rattle.nibl.specs.declared.access.Access.{Access}
use Rattle.demands.specs.Whose.{MayRead, ByteRefused}

-- "Values are 16-bit signed": whether a value is below 0, and its size
pub data SignAndSize : ℕ → Bool → ℕ → Type 0 where
  from_zero : {x : ℕ} → x < 32768 → SignAndSize x false x
  below_zero : {x : ℕ} → 32768 ≤ x → SignAndSize x true (65536 - x)

-- the signed order of 16-bit values: what is below 0 comes first. By sign and size it is `Below` (`the-signed-order`)
abbrev pub order : ℕ → ℕ
order x = (x + 32768) % 65536

pub data Below (x y : ℕ) : Type 0 where
  across_zero : {m n : ℕ} → SignAndSize x true m → SignAndSize y false n → Below x y
  above_zero : {m n : ℕ} → SignAndSize x false m → SignAndSize y false n → m < n → Below x y
  under_zero : {m n : ℕ} → SignAndSize x true m → SignAndSize y true n → n < m → Below x y

-- "Relations are signed and give 1 or 0"
pub data Related : Op → ℕ → ℕ → ℕ → Type 0 where
  same : {x y : ℕ} → x ≡ y → Related equal x y 1
  not_same : {x y : ℕ} → (x ≡ y → ⊥) → Related equal x y 0
  below : {x y : ℕ} → order x < order y → Related less x y 1
  not_below : {x y : ℕ} → order y ≤ order x → Related less x y 0
  above : {x y : ℕ} → order y < order x → Related greater x y 1
  not_above : {x y : ℕ} → order x ≤ order y → Related greater x y 0
  up_to : {x y : ℕ} → order x ≤ order y → Related at_most x y 1
  not_up_to : {x y : ℕ} → order y < order x → Related at_most x y 0
  from_on : {x y : ℕ} → order y ≤ order x → Related at_least x y 1
  not_from_on : {x y : ℕ} → order x < order y → Related at_least x y 0
  other : {x y : ℕ} → (x ≡ y → ⊥) → Related unequal x y 1
  not_other : {x y : ℕ} → x ≡ y → Related unequal x y 0

-- what an operator makes of two values
pub data Operated : Op → ℕ → ℕ → Result ℕ → Type 0 where
  -- "sums, differences and products wrap on purpose, keeping the low 16 bits"
  sums : {x y : ℕ} → Operated plus x y (is ((x + y) % 65536))
  differences : {x y : ℕ} → Operated minus x y (is ((x + (65536 - y)) % 65536))
  products : {x y : ℕ} → Operated times x y (is (x * y % 65536))
  -- "Quotients truncate toward zero"; "division or MOD by 0" is 13
  quotients : {x y m n : ℕ} {s : Bool} → (y ≡ 0 → ⊥) → SignAndSize x s m → SignAndSize y s n → Operated divided_by x y (is (m / n))
  quotients_below : {x y m n : ℕ} {s t : Bool} → (y ≡ 0 → ⊥) → SignAndSize x s m → SignAndSize y t n → (s ≡ t → ⊥)
      → Operated divided_by x y (is ((65536 - m / n) % 65536))
  no_quotient : {x y : ℕ} → y ≡ 0 → Operated divided_by x y (no 13)
  -- "AND, OR .. work on all 16 bits"
  of_and : {x y : ℕ} → Operated and_bits x y (is (bit_and x y))
  of_or : {x y : ℕ} → Operated or_bits x y (is (bit_or x y))
  relates : {o : Op} {x y b : ℕ} → Related o x y b → Operated o x y (is b)

-- "MOD is the remainder's absolute value"
pub data Remains : ℕ → ℕ → Result ℕ → Type 0 where
  remainders : {x y m n : ℕ} {s t : Bool} → (y ≡ 0 → ⊥) → SignAndSize x s m → SignAndSize y t n → Remains x y (is (m % n))
  no_remainder : {x y : ℕ} → y ≡ 0 → Remains x y (no 13)

pub data ValueOf (e : Env) (w : World) : Expr → Result ℕ → Type 0 where
  of_variable : {v : ℕ} → ValueOf e w (var v) (is (get_or w.session.vars v 0))
  of_constant : {n : ℕ} → ValueOf e w (const n) (is n)
  -- "STAT reads bits 4 and 5 of the sense byte plus the flags"
  of_stat : ValueOf e w stat (is (e.sight.sense / 16 % 4 * 16 + w.session.flags))
  -- "TOP is the page's used bytes with the end mark"
  of_top : ValueOf e w top (is (length (program_bytes (records_of e.page))))
  -- "'@' reads one byte, 0 to 255, at the value read as 0 to 65,535"
  of_byte : {a : Expr} {p : ℕ} → ValueOf e w a (is p) → p < length w.memory → MayRead e.sight.access p → ValueOf e w (byte_at a) (is (get_or w.memory p 0))
  no_byte : {a : Expr} {p n : ℕ} → ValueOf e w a (is p) → ByteRefused e.sight.access (length w.memory) p n → ValueOf e w (byte_at a) (no n)
  -- "NOT works on all 16 bits"; a leading minus is a difference from 0
  of_not : {a : Expr} {x : ℕ} → ValueOf e w a (is x) → ValueOf e w (invert a) (is (65535 - x))
  of_minus : {a : Expr} {x : ℕ} → ValueOf e w a (is x) → ValueOf e w (negate a) (is ((65536 - x) % 65536))
  of_mod : {a b : Expr} {x y : ℕ} {r : Result ℕ} → ValueOf e w a (is x) → ValueOf e w b (is y) → Remains x y r → ValueOf e w (modulo a b) r
  of_two : {o : Op} {a b : Expr} {x y : ℕ} {r : Result ℕ} → ValueOf e w a (is x) → ValueOf e w b (is y) → Operated o x y r → ValueOf e w (two o a b) r
  -- "Operands are evaluated left to right, the first refusal counts"
  in_byte : {a : Expr} {n : ℕ} → ValueOf e w a (no n) → ValueOf e w (byte_at a) (no n)
  in_not : {a : Expr} {n : ℕ} → ValueOf e w a (no n) → ValueOf e w (invert a) (no n)
  in_minus : {a : Expr} {n : ℕ} → ValueOf e w a (no n) → ValueOf e w (negate a) (no n)
  left_of_mod : {a b : Expr} {n : ℕ} → ValueOf e w a (no n) → ValueOf e w (modulo a b) (no n)
  right_of_mod : {a b : Expr} {x n : ℕ} → ValueOf e w a (is x) → ValueOf e w b (no n) → ValueOf e w (modulo a b) (no n)
  left_of_two : {o : Op} {a b : Expr} {n : ℕ} → ValueOf e w a (no n) → ValueOf e w (two o a b) (no n)
  right_of_two : {o : Op} {a b : Expr} {x n : ℕ} → ValueOf e w a (is x) → ValueOf e w b (no n) → ValueOf e w (two o a b) (no n)

-- several values, in their order; and the first of them that is refused
pub data FirstRefused (e : Env) (w : World) : List Expr → ℕ → Type 0 where
  at_first : {a : Expr} {as' : List Expr} {n : ℕ} → ValueOf e w a (no n) → FirstRefused e w (a ∷ as') n
  at_later : {a : Expr} {as' : List Expr} {x n : ℕ} → ValueOf e w a (is x) → FirstRefused e w as' n → FirstRefused e w (a ∷ as') n

-- "A string in memory runs to its first CR", and all of it may be read, the CR too
pub record StringAt (x : Access) (memory : List ℕ) (p : ℕ) (bs : List ℕ) : Type 0 where
  pub rest : List ℕ
  pub stands : drop p memory ≡ bs ++ (byte_cr ∷ rest)
  pub first : All not_cr bs
  pub readable : (i : ℕ) → p ≤ i → i ≤ p + length bs → MayRead x i

-- "A string read stops at the first byte it may not read, and that byte decides the refusal": those before it are no CR
pub record StopsShort (x : Access) (memory : List ℕ) (p n : ℕ) : Type 0 where
  pub before : List ℕ
  pub rest : List ℕ
  pub stands : drop p memory ≡ before ++ rest
  pub no_cr : All not_cr before
  pub readable : (i : ℕ) → p ≤ i → i < p + length before → MayRead x i
  pub refused : ByteRefused x (length memory) (p + length before) n

-- "no CR left in the input", from a position on
abbrev pub NoCR : List ℕ → ℕ → Type 0
NoCR l p = All not_cr (drop p l)

-- decimal digits: one of a number below 10; of another those of its tenth part, and then its last
pub data Decimal : ℕ → List ℕ → Type 0 where
  one_digit : {n : ℕ} → n < 10 → Decimal n ((byte "0" + n) ∷ [])
  more_digits : {n : ℕ} {ds : List ℕ} → 10 ≤ n → Decimal (n / 10) ds → Decimal n (ds ++ ((byte "0" + n % 10) ∷ []))

-- "A number prints as a space or '-', digits, a space"
pub data PrintedAs : ℕ → List ℕ → Type 0 where
  shown : {x m : ℕ} {ds : List ℕ} → SignAndSize x false m → Decimal m ds → PrintedAs x (byte " " ∷ (ds ++ (byte " " ∷ [])))
  shown_below : {x m : ℕ} {ds : List ℕ} → SignAndSize x true m → Decimal m ds → PrintedAs x (byte "-" ∷ (ds ++ (byte " " ∷ [])))

-- the bytes of one of PRINT's items, or its refusal
pub data ItemBytes (e : Env) (w : World) : Item → Result (List ℕ) → Type 0 where
  of_text : {bs : List ℕ} → ItemBytes e w (text bs) (is bs)
  of_string : {a : Expr} {p : ℕ} {bs : List ℕ} → ValueOf e w a (is p) → StringAt e.sight.access w.memory p bs → ItemBytes e w (stored a) (is bs)
  of_number : {a : Expr} {x : ℕ} {bs : List ℕ} → ValueOf e w a (is x) → PrintedAs x bs → ItemBytes e w (value a) (is bs)
  no_string : {a : Expr} {p n : ℕ} → ValueOf e w a (is p) → StopsShort e.sight.access w.memory p n → ItemBytes e w (stored a) (no n)
  no_address : {a : Expr} {n : ℕ} → ValueOf e w a (no n) → ItemBytes e w (stored a) (no n)
  no_number : {a : Expr} {n : ℕ} → ValueOf e w a (no n) → ItemBytes e w (value a) (no n)
