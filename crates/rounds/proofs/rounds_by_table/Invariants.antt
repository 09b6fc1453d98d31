-- `rounds_by_table` is safe: the table is made of the page, and a round's stamp is no part of that.
use Rattle.std.proofs.Common.{◌≡◌, ◌<◌, length}
use Rattle.table.specs.Index.{Indexed}
use Rattle.rounds.proofs.Stamped.{behind}
use Rattle.rounds.proofs.rounds_by_table.Given as goal

abbrev pub invariant-loop-i : goal.invariant-loop-i
invariant-loop-i l = record {
  not_empty : 0 < length l.bytes;
  same_length : length l.bytes ≡ length l.initial.bytes;
  indexed : Indexed (behind l.bytes) l.table;
}
