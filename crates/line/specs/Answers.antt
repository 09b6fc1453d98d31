-- What the readers of lists, lines and replies answer, and what they leave in the lent list of operations.
use Rattle.std.specs.Prelude.{ℕ, ◌-◌, Bool, true, false, ◌&&◌, ◌||◌, List, [], ◌∷◌, length, drop, leb}
use Rattle.std.specs.Prelude.{Option as Opt, Some, None, Result, Ok, Err}
use Rattle.word.specs.declared.Cursor.{Cursor}
use Rattle.reader.specs.declared.Unread.{Unread}
use Rattle.reader.specs.declared.Unread.TheVariants as unread
use Rattle.std.proofs.Math.Option.{Option, none, some}
use Rattle.std.proofs.lemmas.List.Edits.{sets}
use Rattle.nibl.specs.Tree.{Expr, Member, Typed, blank, new, clear, run, delete, list, store, immediate}
use Rattle.nibl.specs.Bytes.{is_space, all}
use Rattle.nibl.specs.found.Read.{Found, nothing, found, Reader, give, may, ◌>>=◌, read, relation, a_decimal, or_else, choose, unread, numbered, alone_statement, command_cases}
use Rattle.nibl.specs.Words.{command}
use Rattle.codes.specs.Codes.{code_in, code_do, code_input_string}
use Rattle.nibl.specs.Page.{ends_from, is_among}
use Rattle.nibl.specs.Calls.{needs_program}
use Rattle.relation.specs.Code.{values}
use Rattle.reader.specs.Code.{compile}
use Rattle.reader.specs.Answers.{zeros}
use Rattle.line.specs.declared.LineRead.{LineRead}
use Rattle.line.specs.declared.LineRead.TheVariants as line

-- a statement list, or a reply
abbrev pub list_of : {A : Type 0} → Option A → Result (Unit {0}) Unread
list_of none = Err unread.NoReading
list_of (some a) = Ok tt

-- the members of a list, to the end of a text of n bytes, and whether p is the end of one of them, or else one was met before
abbrev pub members_of : Bool → ℕ → ℕ → Option (List Member) → Opt Bool
members_of met n p none = None
members_of met n p (some ms) = Some (met || is_among (ends_from 0 n ms) p)

-- NEW, CLEAR, LIST and RUN
abbrev pub is_command : ℕ → Bool
is_command k = leb (command "NEW") k && leb k (command "RUN")

-- DO, UNTIL, FOR, NEXT and INPUT have the codes from that of DO to that of INPUT's string
abbrev pub needing : ℕ → Bool
needing v = leb code_do (code_in v) && leb (code_in v) code_input_string

abbrev pub some_need : List ℕ → Bool
some_need [] = false
some_need (v ∷ vs) = needing v || some_need vs

-- a typed line of n bytes. A stored text is the end of the line: its cursor is where it begins.
abbrev pub kind_of : ℕ → Option Typed → LineRead
kind_of n none = line.NoReading
kind_of n (some blank) = line.Blank
kind_of n (some new) = line.New
kind_of n (some clear) = line.Clear
kind_of n (some run) = line.Run
kind_of n (some (delete k)) = line.Delete (record { 0 = k })
kind_of n (some (list k)) = line.List (record { 0 = k })
kind_of n (some (store k t ms)) = line.Store (record { 0 = k }) (record { at = n - length t })
kind_of n (some (immediate q)) = line.Immediate (length (compile q)) (needs_program q)

-- the operations of an immediate statement, else zeros
abbrev pub line_ops : List ℕ → Option Typed → List ℕ
line_ops ops none = zeros ops
line_ops ops (some blank) = zeros ops
line_ops ops (some new) = zeros ops
line_ops ops (some clear) = zeros ops
line_ops ops (some run) = zeros ops
line_ops ops (some (delete k)) = zeros ops
line_ops ops (some (list k)) = zeros ops
line_ops ops (some (store k t ms)) = zeros ops
line_ops ops (some (immediate q)) = sets ops 0 (compile q)

-- a line that is no command, and any line by what stands at its front
abbrev pub plain : List ℕ → Option Typed
plain s = elim (all is_space s) [ true ↦ some blank | false ↦ or_else (a_decimal s) numbered alone_statement s ]

abbrev pub by_front : List ℕ → Opt (ℕ × Cursor) → Option Typed
by_front s (Some (k, c)) = choose command_cases unread k (drop c.at s)
by_front s None = plain s

-- one relation of a reply, and the comma behind it, if one stands there
abbrev pub replying : Reader Expr
replying = read relation >>= (λ a. may "," (give a))

abbrev pub relation_of : ℕ → Found Expr → Result (ℕ × Cursor) Unread
relation_of n nothing = Err unread.NoReading
relation_of n (found a t) = Ok ((length (values a)), (record { at = n - length t }))

abbrev pub relation_ops : List ℕ → Found Expr → List ℕ
relation_ops ops nothing = zeros ops
relation_ops ops (found a t) = sets ops 0 (values a)
