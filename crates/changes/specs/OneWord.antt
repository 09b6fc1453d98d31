-- Document 01's rule of words as it was before item 1, for what item 1 is to show and nothing else: "A run of capital letters is one
-- word: one letter is a variable; longer, it must be" a keyword, or at the front of an immediate line a command. The other words are
-- those of `Word` in crate nibl.
use Rattle.std.specs.Prelude.{ℕ, ◌-◌, ◌%◌, ◌≤◌, ◌≡◌, true, false, List, [], ◌∷◌, ◌++◌}
use Rattle.std.proofs.Math.Option.{some}
use Rattle.nibl.specs.Bytes.{byte, is_digit, is_capital, is_hex_digit, is_quotable, All, decimal_value, hex_value, byte_quote}
use Rattle.nibl.specs.Words.{Token, variable, decimal, hex, string, sign, keywords, commands, index_in, pairs, pairs_with, is_symbol, ByteRun}
use Rattle.nibl.specs.Tree.{Expr, Member, Typed}
use Rattle.nibl.specs.Grammar.{Members, Reply, Line}
use Rattle.nibl.specs.Readings.{LineReading}

pub data OneWord (table : List (List ℕ)) : List ℕ → Token → List ℕ → Type 0 where
  spaced : {w : Token} {s s' : List ℕ} → OneWord table s w s' → OneWord table (byte " " ∷ s) w s'
  letter : {c : ℕ} {s : List ℕ} → ByteRun is_capital (c ∷ []) s → OneWord table (c ∷ s) (variable (c - byte "A")) s
  letters : {c d k : ℕ} {cs s : List ℕ} → ByteRun is_capital (c ∷ d ∷ cs) s → index_in table (c ∷ d ∷ cs) ≡ some k
      → OneWord table (c ∷ d ∷ cs ++ s) (sign k) s
  decimal_digits : {ds s : List ℕ} → ByteRun is_digit ds s → decimal_value 0 ds ≤ 32767 → OneWord table (ds ++ s) (decimal (decimal_value 0 ds)) s
  hex_digits : {ds s : List ℕ} → ByteRun is_hex_digit ds s → OneWord table (byte "#" ∷ ds ++ s) (hex (hex_value 0 ds % 65536)) s
  quoted : {bs s : List ℕ} → All is_quotable bs → OneWord table (byte_quote ∷ bs ++ byte_quote ∷ s) (string bs) s
  pair : {a b k : ℕ} {s : List ℕ} → pairs a b ≡ some k → OneWord table (a ∷ b ∷ s) (sign k) s
  symbol : {b : ℕ} {s : List ℕ} → is_symbol b ≡ true → pairs_with b s ≡ false → OneWord table (b ∷ s) (sign b) s

-- the grammar over that rule
abbrev pub OneListReading : List ℕ → List Member → Type 0
OneListReading s ms = Members (OneWord keywords) s ms

abbrev pub OneReplyReading : ℕ → List ℕ → List Expr → Type 0
OneReplyReading n s es = Reply (OneWord keywords) n s es

abbrev pub OneLineReading : List ℕ → Typed → Type 0
OneLineReading s y = Line (OneWord keywords) (OneWord commands) s y

-- a line that has this reading and had none
abbrev pub Gained : List ℕ → Typed → Type 0
Gained s y = LineReading s y × ((z : Typed) → OneLineReading s z → ⊥)
