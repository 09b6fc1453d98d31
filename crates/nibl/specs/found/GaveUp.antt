-- Where a reader of words gives up: how many bytes of the text stand from the byte on at which no word could go on. A text that has all
-- before that byte, and that byte, has no word at its front whatever else follows (`gave-up`, proofs/GaveUp.antt).
use Rattle.std.specs.Prelude.{ℕ, suc, ◌+◌, ◌-◌, ◌*◌, ◌&&◌, List, [], ◌∷◌, length, leb, eqb, if◌then◌else◌}
use Rattle.nibl.specs.Bytes.{is_space, is_digit, is_capital, is_quotable, past, byte, byte_quote}

-- how many bytes a spelling and a text have in common from their fronts on
unfoldable pub common : List ℕ → List ℕ → ℕ
common [] s = 0
common (c ∷ w) [] = 0
common (c ∷ w) (b ∷ s) = if eqb c b then suc (common w s) else 0

-- the most that a spelling of the table has in common with the text; a letter may always be a variable
unfoldable pub most_common : List (List ℕ) → List ℕ → ℕ
most_common [] s = 1
most_common (w ∷ ws) s = if leb (common w s) (most_common ws s) then most_common ws s else common w s

-- the text from the digit on that passes 32,767, after digits of the value n
unfoldable pub past_largest : ℕ → List ℕ → List ℕ
past_largest n [] = []
past_largest n (d ∷ s) =
    if is_digit d && leb (n * 10 + (d - byte "0")) 32767 then past_largest (n * 10 + (d - byte "0")) s else d ∷ s

unfoldable pub word_gave_up : List (List ℕ) → ℕ → List ℕ → ℕ
word_gave_up table b s =
    if is_capital b then length (b ∷ s) - most_common table (b ∷ s)
    else if is_digit b then length (past_largest 0 (b ∷ s))
    else if eqb b (byte "#") then length s
    else if eqb b byte_quote then length (past is_quotable s)
    else length (b ∷ s)

unfoldable pub gave_up : List (List ℕ) → List ℕ → ℕ
gave_up table [] = 0
gave_up table (b ∷ s) = if is_space b then gave_up table s else word_gave_up table b s
