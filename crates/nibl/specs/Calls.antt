-- What a typed line does, and the two calls: from all that is lent to all that is left.
use Rattle.std.specs.Prelude.{ℕ, zero, suc, Bool, true, false, ◌&&◌, List, [], ◌∷◌, ◌++◌, length, drop, leb, eqb, if◌then◌else◌}
use Rattle.std.proofs.Math.Option.{Option, none, some}
use Rattle.nibl.specs.Bytes.{byte_cr, byte_lf}
use Rattle.nibl.specs.Tree.{Stmt, anywhere, in_loop, counts, asks_for, role_of}
use Rattle.nibl.specs.Tree.{Typed, blank, new, clear, run, delete, list, store, immediate}
use Rattle.nibl.specs.found.Read.{typed}
use Rattle.nibl.specs.found.Column.{column_of}
use Rattle.nibl.specs.Values.{digits}
use Rattle.nibl.specs.Typing.{Gathered, gather, limit}
use Rattle.nibl.specs.Record.{stackless, cleared}
use Rattle.nibl.specs.Page.{Stored, records_of, program_bytes, has_line, without, with, onto}
use Rattle.nibl.specs.Table.{refilled}
use Rattle.nibl.specs.Meaning.{World, Env, with_session, on, skip, go, stop, Done, done, put, went, exec}
use Rattle.nibl.specs.Lent.{Lent, Outcome, Left, stops, refused_line, lent_world, begun, lent_env}
use Rattle.nibl.specs.Runs.{run_from, run_outcome}
use Rattle.nibl.specs.FirstRefusals.{has_table, first_refusal}
use Rattle.nibl.specs.declared.Call.{Call}

-- "DO, UNTIL, FOR, NEXT or INPUT in an immediate line"
abbrev pub needs_program : Stmt → Bool
needs_program s = elim (role_of s) [ anywhere ↦ false | in_loop ↦ true | counts v ↦ true | asks_for vs ↦ true ]

-- "2: the edited program would not fit the page"; "An edit that changes the page, or replaces a line by itself, clears the three stacks"
unfoldable pub edited : List ℕ → World → List Stored → Outcome
edited page w rs =
    if leb (length (program_bytes rs)) (length page) then stops 0 (with_session w (stackless w.session)) (onto page rs)
    else stops 2 w page

-- "digits without leading zeros, text, CR, LF"
abbrev pub listed : Stored → List ℕ
listed r = digits r.line ++ (r.text ++ (byte_cr ∷ byte_lf ∷ []))

unfoldable pub list_from : ℕ → List Stored → World → Done
list_from n [] w = done on w
list_from n (r ∷ rs) w = elim (leb n r.line) [ true ↦ went (put (listed r) w) (list_from n rs) | false ↦ list_from n rs w ]

-- after LIST, or the immediate statement, which is "not counted": a run, or the end of the line
abbrev pub after_immediate : ℕ → Env → Done → Outcome
after_immediate budget e (done on w) = stops 0 w e.page
after_immediate budget e (done skip w) = stops 0 w e.page
after_immediate budget e (done (go q) w) = run_outcome (run_from budget e q w) e.page
after_immediate budget e (done (stop n) w) = stops n w e.page

-- "A line of spaces only, or empty, only ends a pause"; "NEW puts the end mark first and clears the stacks"; "CLEAR zeroes variables
-- and clears stacks; RUN does CLEAR and starts at the first line"; "deleting an absent line keeps page and stacks"; "otherwise the
-- record is inserted, or replaces the one of that number". The immediate statement "is not counted and runs at any budget".
-- "No stop clears the stacks": only `stackless` and `cleared` do, and they stand here and in `edited` alone
unfoldable pub obey : ℕ → Env → World → Typed → Outcome
obey budget e w blank = stops 0 w e.page
obey budget e w new = edited e.page w []
obey budget e w clear = stops 0 (with_session w (cleared w.session)) e.page
obey budget e w run = run_outcome (run_from budget e 0 (with_session w (cleared w.session))) e.page
obey budget e w (delete n) =
    elim (has_line n (records_of e.page)) [ true ↦ edited e.page w (without n (records_of e.page)) | false ↦ stops 0 w e.page ]
obey budget e w (list n) = after_immediate budget e (list_from n (records_of e.page) w)
obey budget e w (store n t ms) = edited e.page w (with (record { line = n; text = t }) (records_of e.page))
obey budget e w (immediate q) = elim (needs_program q) [ true ↦ stops 3 w e.page | false ↦ after_immediate budget e (exec e q w) ]

-- the column is that of the line, for where it has no reading
abbrev pub obey_read : ℕ → Env → World → ℕ → Option Typed → Outcome
obey_read budget e w column none = refused_line column w e.page
obey_read budget e w column (some t) = obey budget e w t

-- "7: no CR left in the input; no byte is taken", and "7 at the typed line" changes nothing; the column "is 72 for an over-long line"
abbrev pub obey_line : ℕ → Lent → Option Gathered → Outcome
obey_line lim x none = stops 7 (lent_world x) x.page
obey_line lim x (some g) =
    elim g.line.long [
      | true ↦ refused_line lim (begun x g.taken) x.page
      | false ↦ obey_read x.call.budget (lent_env lim x) (begun x g.taken) (column_of g.line.bytes) (typed g.line.bytes)
    ]

-- "Two calls exist: take one typed line, and continue a paused run"
unfoldable pub take_line_in : ℕ → Lent → Outcome
take_line_in lim x =
    elim (first_refusal lim x) [ zero ↦ obey_line lim x (gather lim (drop x.call.inpos x.input)) | suc n ↦ stops (suc n) (lent_world x) x.page ]

-- "Continue with nothing paused answers 0 with 0 steps"; by the pause's number
abbrev pub continue_from : ℕ → Lent → ℕ → Outcome
continue_from lim x zero = stops 0 (begun x 0) x.page
continue_from lim x (suc q) = run_outcome (run_from x.call.budget (lent_env lim x) q (begun x 0)) x.page

unfoldable pub continue_run_in : ℕ → Lent → Outcome
continue_run_in lim x = elim (first_refusal lim x) [ zero ↦ continue_from lim x x.session.paused | suc n ↦ stops (suc n) (lent_world x) x.page ]

unfoldable pub take_line : Lent → Outcome
take_line x = take_line_in limit x

unfoldable pub continue_run : Lent → Outcome
continue_run x = continue_run_in limit x

-- the table that a call leaves past its first refusals, with this page
abbrev pub table_past : Call → List ℕ → List ℕ → List ℕ
table_past c page table = if has_table c then refilled page table else table

-- What a call leaves, the table with it: "After each edit and NEW it must be what a fresh walk of the page gives". Where no edit
-- was, that is what it held; a call that is refused at first does not touch it.
unfoldable pub table_after : ℕ → Lent → Outcome → List ℕ
table_after lim x o =
    if has_table x.call && eqb (first_refusal lim x) 0 then refilled o.page x.table
    else x.table

abbrev pub leaves : (Lent → Outcome) → Lent → Left
leaves call x = record { outcome = call x; table = table_after limit x (call x) }
