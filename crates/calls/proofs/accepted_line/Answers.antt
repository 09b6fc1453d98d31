-- `accepted_line` meets its contract. Assumes nothing.
use Rattle.std.proofs.Common.{refl, sym, ◌∙◌, take, drop, arith}
use Rattle.std.proofs.Math.Seq.{length-take-le}
use Rattle.nibl.specs.Typing.{gather, limit}
use Rattle.table.proofs.Lent.{lent-within, table_kept}
use Rattle.calls.proofs.Tables.{obeys-by-any}
use Rattle.calls.proofs.First.{lists}
use Rattle.calls.proofs.accepted_line.Goals as goal

pub slice_bounds-typed_line-end-6 : goal.slice_bounds-typed_line-end-6
slice_bounds-typed_line-end-6 c = lent-within c.args.call c.args.table.now c.lent_entries-entries.result c.lent_entries-entries.ensures

pub slice_bounds-typed_line-end-7 : goal.slice_bounds-typed_line-end-7
slice_bounds-typed_line-end-7 c =
    let n = c.lent_entries-entries in
    sym (length-take-le n.result c.args.table.now (lent-within c.args.call c.args.table.now n.result n.ensures))

pub typed_line-requires : goal.typed_line-requires
typed_line-requires c =
    let s = c.requires.0.0.steps in
    ((lists, refl, c.requires.0.0, omega arith), rw c.lent_entries-entries.ensures c.requires.1.indexed)

pub returns : goal.returns
returns c =
    let a = c.args in
    let n = c.lent_entries-entries in
    let k = c.typed_line.ensures in
    record {
      output_after = k.output_after
          ∙ obeys-by-any a.rec a.page.now a.memory.now a.input.now a.output.now a.call (take n.result a.table.now) a.table.now limit (gather limit (drop a.call.inpos a.input.now));
      table_after = table_kept a.call c.typed_line.new.page a.table.now c.typed_line.new.table n.ensures c.requires.1.long k.table_after;
    }
