-- "Always the longest that fits", for what is shown of words (`word-longest`, proofs/Words.antt): a text s begins with the word, s' follows
-- it, and no more of s would be one.
use Rattle.std.specs.Prelude.{ℕ, ◌-◌, Bool, true, not, List, length, leb, if◌then◌else◌}
use Rattle.nibl.specs.Bytes.{is_digit, is_capital, is_hex_digit, starts, front}
use Rattle.nibl.specs.Words.{Token, variable, decimal, hex, string, sign, pairs_with, none_over, first_keyword}

abbrev pub is_whole : List (List ℕ) → List ℕ → Token → List ℕ → Bool
is_whole table s (variable v) s' = not (starts is_capital s')
is_whole table s (decimal n) s' = not (starts is_digit s')
is_whole table s (hex n) s' = not (starts is_hex_digit s')
is_whole table s (string bs) s' = true
is_whole table s (sign k) s' = if leb first_keyword k then none_over (length s - length s') table (front is_capital s) else not (pairs_with k s')
