-- Document 02's item 5, the two calls that carry a rule set to another box: a save writes its form, and a load takes one. "Refused, either
-- changes nothing", the pause included. What a call does not look at is not asked for its range and comes back as it came.
use Rattle.std.specs.Prelude.{ℕ, ◌+◌, Bool, not, ◌&&◌, List, length, leb, eqb, if◌then◌else◌}
use Rattle.std.proofs.lemmas.List.Edits.{sets}
use Rattle.nibl.specs.Values.{Result, is, no}
use Rattle.nibl.specs.Typing.{limit}
use Rattle.nibl.specs.Record.{loaded_session}
use Rattle.nibl.specs.Page.{is_good, records_of, program_bytes, onto, fits}
use Rattle.nibl.specs.Saved.{RuleSet, saved_form}
use Rattle.nibl.specs.found.Form.{form_in}
use Rattle.nibl.specs.Lent.{Lent, Left, left_all, answer_of, no_line, unchanged}
use Rattle.nibl.specs.FirstRefusals.{page_in_range, memory_in_range, output_in_range, position_in_range, table_in_range}
use Rattle.nibl.specs.Calls.{table_past}

-- "program, variables and memory" of a box
abbrev pub rule_set_of : Lent → RuleSet
rule_set_of x = record { vars = x.session.vars; records = records_of x.page; memory = x.memory }

abbrev pub save_in_range : Lent → Bool
save_in_range x =
    page_in_range (length x.page) && (memory_in_range (length x.memory)
    && (output_in_range (length x.output) && position_in_range x.call.outpos (length x.output)))

-- "A save writes to the output": the form at its position, and nothing else is changed
abbrev pub saved : Lent → List ℕ → Left
saved x form =
    left_all (answer_of 0 no_line 0 x.call.inpos (x.call.outpos + length form) 0) x.session x.page x.memory
    (sets x.output x.call.outpos form) x.table

-- "for saving: 1, 18, 19, 17"
unfoldable pub saves_in : ℕ → Lent → Left
saves_in lim x =
    if not (save_in_range x) then unchanged x 1
    else if not (is_good lim x.page) then unchanged x 18
    else if not (fits x.page x.session) then unchanged x 19
    else if not (leb (x.call.outpos + length (saved_form (rule_set_of x))) (length x.output)) then unchanged x 17
    else saved x (saved_form (rule_set_of x))

abbrev pub load_in_range : Lent → Bool
load_in_range x = page_in_range (length x.page) && (memory_in_range (length x.memory) && table_in_range x.call (length x.table))

-- "Bytes after the loaded program's end mark hold what they held"; "refills a lent table"
abbrev pub loaded : Lent → RuleSet → Left
loaded x c =
    left_all (answer_of 0 no_line 0 x.call.inpos x.call.outpos 0) (loaded_session x.session c.vars) (onto x.page c.records) c.memory
    x.output (table_past x.call (onto x.page c.records) x.table)

-- "24 memory of another length, 2"
abbrev pub loads_form : Lent → Result RuleSet → Left
loads_form x (no n) = unchanged x n
loads_form x (is c) =
    if not (eqb (length c.memory) (length x.memory)) then unchanged x 24
    else if not (leb (length (program_bytes c.records)) (length x.page)) then unchanged x 2
    else loaded x c

-- "for loading: 1, then 22 .., 23 .., 24 .., 2". "A load takes a lent slice whole": its input
unfoldable pub loads_in : ℕ → Lent → Left
loads_in lim x = if not (load_in_range x) then unchanged x 1 else loads_form x (form_in lim x.input)

unfoldable pub saves : Lent → Left
saves x = saves_in limit x

unfoldable pub loads : Lent → Left
loads x = loads_in limit x
