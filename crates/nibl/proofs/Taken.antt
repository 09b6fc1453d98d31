-- What `all_taken` says (specs/found/Column.antt), as a relation: a text's words are taken one after the other, from a stack on, to the text's
-- end or into a string that it leaves open. Assumes nothing.
use Prim.Native.Nat.{ℕ}
use mathlib.Core.Path.{◌≡◌}
use mathlib.Core.Bool.{true, false}
use mathlib.Core.List.{List, [], ◌∷◌}
use mathlib.Core.Option.{some}
use Rattle.nibl.specs.Bytes.{is_space, is_text, All}
use Rattle.nibl.specs.Words.{Token, Word, keywords, commands}
use Rattle.nibl.specs.found.Column.{sort_of, a_text, typed_line, typed_command, turn, is_some, is_remark, is_open_string}

pub data Taken : List ℕ → List ℕ → Type 0 where
  ended : {stack s : List ℕ} → All is_space s → Taken stack s
  remarked : {stack s : List ℕ} → is_remark stack ≡ true → All is_text s → Taken stack s
  in_string : {stack s : List ℕ} → is_remark stack ≡ false → is_open_string s ≡ true → is_some (turn a_text stack) ≡ true → Taken stack s
  takes : {stack next s u : List ℕ} {w : Token} → is_remark stack ≡ false → Word keywords s w u → turn (sort_of w) stack ≡ some next → Taken next u
      → Taken stack s

pub data LineTaken : List ℕ → Type 0 where
  by_keywords : {s : List ℕ} → Taken (typed_line ∷ []) s → LineTaken s
  by_command : {stack s u : List ℕ} {w : Token} → Word commands s w u → turn (sort_of w) (typed_command ∷ []) ≡ some stack → Taken stack u → LineTaken s
