-- What the contracts of the search for the column say, beyond the definition.
use Rattle.std.specs.Prelude.{ℕ, ◌+◌, ◌-◌, ◌*◌, ◌≤◌, ◌<◌, min, ◌≡◌, List, map, length, take}
use Rattle.nibl.specs.Words.{keywords, commands}
use Rattle.word.specs.Found.{longest_keyword, spelled_key}
use Rattle.nibl.specs.found.Column.{typed_line, typed_command, Verdict, alive, stuck, line_run}

-- the spellings that are handed on as numbers
abbrev pub spelled_all : List ℕ → List (List ℕ)
spelled_all keys = map (spelled_key longest_keyword) keys

-- room behind the first n bytes of a text for the rest of a word, and on the stack for what may come
abbrev pub most : ℕ
most = 5

pub record Spare (text : List ℕ) (n : ℕ) (stack : List ℕ) : Type 0 where
  pub behind : n + most ≤ length text
  pub deep : 3 * length text < length stack

-- what stays of the text when it was tried whether its first n bytes are a front
pub record Kept (text : List ℕ) (n : ℕ) (text' : List ℕ) : Type 0 where
  pub front : take n text' ≡ take n text
  pub size : length text' ≡ length text

-- from the fifth byte on behind the one at which the text could go on neither as a line nor as a command, no front part is tried
abbrev pub bytes_left : Verdict → ℕ
bytes_left alive = 0
bytes_left (stuck n) = n

-- the position at which a text could not go on, or its end
pub record ReachIs (text : List ℕ) (v : Verdict) (r : ℕ) : Type 0 where
  pub same : r + bytes_left v ≡ length text
  pub inside : r ≤ length text

unfoldable pub last_tried : List ℕ → ℕ
last_tried s = min (length s) (length s + 4 - min (bytes_left (line_run keywords typed_line s)) (bytes_left (line_run commands typed_command s)))
