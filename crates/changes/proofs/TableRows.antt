-- What typed lines leave of a table, by computation. Assumes nothing.
use mathlib.Core.Path.{◌≡◌, refl}
use mathlib.Core.List.{map}
use Rattle.nibl.specs.found.Read.{letters_step, word_step, step_in, ◌>>=◌, a_variable, a_decimal, a_string, a_sign, if_key, a_joint, part, read_n, read, an_item, joined_n, joined, a_statement, statement_n, statement, member, members_n, reading, replied, typed}
use Rattle.nibl.specs.found.GaveUp.{common, most_common, past_largest, word_gave_up, gave_up}
use Rattle.nibl.specs.found.Column.{turn, is_open_string, advance, run_n, line_run, all_taken, begun_by, begun_in, is_front, column_down, column_of}
use Rattle.nibl.specs.Values.{mod16, apply, digits, printed}
use Rattle.nibl.specs.Typing.{keep, gather_from, gather}
use Rattle.nibl.specs.Page.{is_storable, is_record, good_n, is_good, records_n, records_of, used, find, line_of, places_of, fits}
use Rattle.nibl.specs.Table.{walk_table, describes, refilled}
use Rattle.nibl.specs.Meaning.{eval, put, exec}
use Rattle.nibl.specs.Runs.{text_from, fetch, run_from}
use Rattle.nibl.specs.FirstRefusals.{first_refusal}
use Rattle.nibl.specs.Calls.{edited, obey, take_line_in, take_line, table_after}
use Rattle.changes.specs.TableRows.{replay, table_rows}

pub table-rows-hold : map replay table_rows ≡ table_rows
unfolding letters_step word_step step_in ◌>>=◌ a_variable a_decimal a_string a_sign if_key a_joint part read_n read an_item joined_n joined a_statement statement_n statement member members_n reading replied typed common most_common past_largest word_gave_up gave_up turn is_open_string advance run_n line_run all_taken begun_by begun_in is_front column_down column_of mod16 apply digits printed keep gather_from gather is_storable is_record good_n is_good records_n records_of used find line_of places_of fits walk_table describes refilled eval put exec text_from fetch run_from first_refusal edited obey take_line_in take_line table_after
table-rows-hold = refl
