-- The desk's starred table, by computation. Assumes nothing.
use mathlib.Core.Path.{◌≡◌, refl}
use mathlib.Core.List.{map}
use Rattle.nibl.specs.found.Read.{letters_step, word_step, step_in, ◌>>=◌, a_variable, a_decimal, a_string, a_sign, if_key, a_joint, part, read_n, read, an_item, joined_n, joined, a_statement, statement_n, statement, member, members_n, reading, replied, typed}
use Rattle.nibl.specs.Values.{mod16, apply, digits, printed}
use Rattle.nibl.specs.Typing.{keep, gather_from, gather}
use Rattle.nibl.specs.Page.{is_storable, is_record, good_n, is_good, records_n, records_of, used, find, line_of, places_of, fits}
use Rattle.nibl.specs.Meaning.{byte_of, string_from, string_at, store_at, eval, put, put_item, put_items, keep_in, gosub_to, return_by, do_here, until_by, for_here, next_by, gathered, asked, assign, exec}
use Rattle.nibl.specs.Runs.{text_from, fetch, run_from}
use Rattle.nibl.specs.FirstRefusals.{first_refusal}
use Rattle.nibl.specs.Calls.{edited, list_from, obey, take_line_in, take_line}
use Rattle.nibl.specs.Desk.{Row, desk, type_all}

pub desk-holds : map (λ (r : Row). type_all r.memory r.lines) desk ≡ map (λ (r : Row). r.seen) desk
unfolding letters_step word_step step_in ◌>>=◌ a_variable a_decimal a_string a_sign if_key a_joint part read_n read an_item joined_n joined a_statement statement_n statement member members_n reading replied typed mod16 apply digits printed keep gather_from gather is_storable is_record good_n is_good records_n records_of used find line_of places_of fits byte_of string_from string_at store_at eval put put_item put_items keep_in gosub_to return_by do_here until_by for_here next_by gathered asked assign exec text_from fetch run_from first_refusal edited list_from obey take_line_in take_line
desk-holds = refl
