-- What the contracts of a run over a text's words say, beyond the definition of the column.
use Rattle.std.specs.Prelude.{ℕ, suc, ◌+◌, ◌-◌, ◌*◌, ◌≤◌, ◌<◌, ◌≡◌, Bool, true, false, ◌&&◌, List, eqb, length, drop, if◌then◌else◌, Result, Ok, Err}
use Rattle.std.proofs.Math.Option.{Option, none, some}
use Rattle.nibl.specs.Bytes.{is_space, past, byte_quote}
use Rattle.nibl.specs.found.Read.{FrontWord, at_end, wrong, got, step_in}
use Rattle.nibl.specs.found.GaveUp.{gave_up}
use Rattle.nibl.specs.found.Column.{sort_of, a_text, typed_line, typed_command, turn, is_some, is_remark, Verdict, alive, stuck, advance, remark_at, run_n}
use Rattle.word.specs.Found.{first_of}
use Rattle.column.specs.declared.run.Next.{Next}
use Rattle.column.specs.declared.run.Next.TheVariants.{End, Wrong, Got}

-- a verdict of the code, over a text of n bytes: it has the position at which the text could not go on
abbrev pub RunEnd : Type 0
RunEnd = Result (Unit {0}) ℕ

abbrev pub verdict_of : ℕ → RunEnd → Verdict
verdict_of n (Ok u) = alive
verdict_of n (Err at) = stuck (n - at)

abbrev pub Within : ℕ → RunEnd → Type 0
Within n (Ok u) = Unit {0}
Within n (Err at) = at ≤ n

pub record VerdictIs (text : List ℕ) (v : Verdict) (r : RunEnd) : Type 0 where
  pub same : verdict_of (length text) r ≡ v
  pub inside : Within (length text) r

-- a word as the rules know it, and what follows it
abbrev pub held : FrontWord → Option (ℕ × List ℕ)
held at_end = none
held wrong = none
held (got w s) = some (sort_of w, s)

abbrev pub NextIs : List (List ℕ) → List ℕ → ℕ → Next → Type 0
NextIs table text at End = step_in table (drop at text) ≡ at_end
NextIs table text at (Wrong end) = (step_in table (drop at text) ≡ wrong) × (end + gave_up table (drop at text) ≡ length text)
NextIs table text at (Got k end) = (held (step_in table (drop at text)) ≡ some (k, drop end text)) × (at < end) × (end ≤ length text)

-- where no word stands and so many bytes are left from the byte on at which none could go on
abbrev pub wordless : ℕ → List ℕ → List ℕ → Verdict
wordless left stack s =
    if (eqb left 0 && eqb (first_of (past is_space s)) byte_quote) && is_some (turn a_text stack) then alive else stuck left

-- there are no more words than bytes
unfoldable pub runs : List ℕ → List ℕ → Verdict
runs stack s = run_n (suc (length s)) stack s

-- the first word by a table, and the others by the keywords
unfoldable pub run_by : List (List ℕ) → List ℕ → List ℕ → Verdict
run_by table stack s = elim (is_remark stack) [ true ↦ remark_at s | false ↦ advance table runs stack s ]

-- what a line is to be, as a line or as a command
abbrev pub line_symbol : Bool → ℕ
line_symbol true = typed_command
line_symbol false = typed_line

-- from a position on, room for what may come: a word takes a byte at least, and leaves at most three more
pub record Room (text : List ℕ) (at : ℕ) (stack : List ℕ) (top : ℕ) : Type 0 where
  pub inside : at ≤ length text
  pub deep : 3 * (length text - at) ≤ top
  pub within : top ≤ length stack
