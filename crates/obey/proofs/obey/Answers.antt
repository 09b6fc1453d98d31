-- `obey` meets its contract: for each answer of the reader the law of its arm. Assumes nothing.
use mathlib.Core.Path.{refl, sym}
use mathlib.Core.Bool.{true}
use native.Mathlib.Omega.{arith}
use lib.ListN.{length}
use Rattle.nibl.specs.Record.{place, mark}
use Rattle.nibl.specs.Lent.{sight_of}
use Rattle.effect.specs.Worlds.{env_with}
use Rattle.page.specs.Standing.{Bytes}
use Rattle.table.proofs.Index.{kept_same}
use Rattle.obey.proofs.Obeyed.{Given, accepted-cleared, none_read, column-small, no-room-read, blank-read, clear-read, run-read, list_read, new-read, delete-read, stored-inside, store-read, needing-read, statement-read}
use Rattle.obey.proofs.obey.Goals.{Start, In-Store, In-Immediate, In-New, In-Delete, In-Run}
use Rattle.obey.proofs.obey.Goals as goal

-- every arm begins with what is passed
abbrev given : (s : Start) → Bytes s.args.page.now → Given
given s b =
    let a = s.args in
    record {
      env = env_with (length a.reply.now) a.page.now a.input.now (sight_of a.call) (place mark);
      budget = a.call.budget;
      session = a.session;
      memory = a.memory.now;
      output = a.output.now;
      inpos = a.call.inpos;
      outpos = a.call.outpos;
      text = a.typed.now;
      kind = a.kind;
      ops = a.ops.now;
      bytes = b;
      accepted = s.requires.0.1;
      read = s.requires.0.2;
    }

pub slice_bounds-store_line-count : goal.slice_bounds-store_line-count
slice_bounds-store_line-count c = stored-inside (given (goal.at.slice_bounds-store_line-count c).Start (λ i. omega (arith, (goal.at.slice_bounds-store_line-count c).In-Store.type_inv.page i))) c.in-Store.is

pub slice_bounds-store_line-start : goal.slice_bounds-store_line-start
slice_bounds-store_line-start c = stored-inside (given (goal.at.slice_bounds-store_line-start c).Start (λ i. omega (arith, (goal.at.slice_bounds-store_line-start c).In-Store.type_inv.page i))) c.in-Store.is

pub run_from-requires : goal.run_from-requires
run_from-requires c = ((c.requires.0.0, rw c.cleared-in-Run.ensures (accepted-cleared c.requires.0.1), refl {a = true}), c.requires.1)

pub returns-then-needs : goal.returns-then-needs
returns-then-needs c = record {
  output_after = rw c.stopped-then-needs.ensures (needing-read (given (goal.at.returns-then-needs c).Start (λ i. omega (arith, c.type_inv.page i))) _ _ c.in-Immediate.is c.if-needs.true);
  table_after = sym (kept_same c.requires.1);
}

pub immediate-requires : goal.immediate-requires
immediate-requires c = ((c.requires.0.0, c.requires.0.1, statement-read (given (goal.at.immediate-requires c).Start (λ i. omega (arith, (goal.at.immediate-requires c).In-Immediate.type_inv.page i))) _ _ c.in-Immediate.is c.if-needs.false), c.requires.1)

pub returns-else-needs : goal.returns-else-needs
returns-else-needs c = record { output_after = c.immediate.ensures; table_after = sym (kept_same c.requires.1) }

pub returns-in-Blank : goal.returns-in-Blank
returns-in-Blank c = record { output_after = rw c.stopped.ensures (blank-read (given (goal.at.returns-in-Blank c).Start (λ i. omega (arith, c.type_inv.page i))) c.in-Blank.is); table_after = sym (kept_same c.requires.1) }

pub returns-in-New : goal.returns-in-New
returns-in-New c = record {
  output_after = rw c.edited.ensures (new-read (given (goal.at.returns-in-New c).Start (λ i. omega (arith, (goal.at.returns-in-New c).In-New.type_inv.page i))) c.new_page.result _ c.in-New.is c.new_page.ensures.result_after);
  table_after = c.new_page.ensures.table_after;
}

pub returns-in-Delete : goal.returns-in-Delete
returns-in-Delete c = record {
  output_after = rw c.edited-in-Delete.ensures (delete-read (given (goal.at.returns-in-Delete c).Start (λ i. omega (arith, (goal.at.returns-in-Delete c).In-Delete.type_inv.page i))) c.delete_line.result _ _ c.in-Delete.is c.delete_line.ensures.result_after);
  table_after = c.delete_line.ensures.table_after;
}

pub returns-in-Store : goal.returns-in-Store
returns-in-Store c = record {
  output_after = rw c.edited-in-Store.ensures (store-read (given (goal.at.returns-in-Store c).Start (λ i. omega (arith, (goal.at.returns-in-Store c).In-Store.type_inv.page i))) c.store_line.result _ _ _ c.in-Store.is c.store_line.ensures.result_after);
  table_after = c.store_line.ensures.table_after;
}

pub returns-in-Clear : goal.returns-in-Clear
returns-in-Clear c = record {
  output_after = rw (c.stopped-in-Clear.ensures, c.cleared.ensures) (clear-read (given (goal.at.returns-in-Clear c).Start (λ i. omega (arith, c.type_inv.page i))) c.in-Clear.is);
  table_after = sym (kept_same c.requires.1);
}

pub returns-in-List : goal.returns-in-List
returns-in-List c = record {
  output_after = rw (c.list.ensures.value, c.list.ensures.output_after) (list_read (given (goal.at.returns-in-List c).Start (λ i. omega (arith, c.slice_known-1.given i))) _ c.in-List.is);
  table_after = sym (kept_same c.requires.1);
}

pub returns-in-Run : goal.returns-in-Run
returns-in-Run c = record {
  output_after = run-read (given (goal.at.returns-in-Run c).Start (λ i. omega (arith, (goal.at.returns-in-Run c).In-Run.type_inv.page i))) c.cleared-in-Run.result _ c.in-Run.is c.cleared-in-Run.ensures c.run_from.ensures;
  table_after = sym (kept_same c.requires.1);
}

pub column_of-requires : goal.column_of-requires
column_of-requires c = c.requires.0.2.short

pub overflow_cast-column_of : goal.overflow_cast-column_of
overflow_cast-column_of c = omega (arith, column-small (given (goal.at.overflow_cast-column_of c).Start (λ i. omega (arith, c.type_inv.page i))) c.column_of.ensures)

pub returns-in-NoReading : goal.returns-in-NoReading
returns-in-NoReading c = record {
  output_after = rw c.refused.ensures (none_read (given (goal.at.returns-in-NoReading c).Start (λ i. omega (arith, c.type_inv.page i))) c.in-NoReading.is c.column_of.ensures);
  table_after = sym (kept_same c.requires.1);
}

pub returns-in-NoRoom : goal.returns-in-NoRoom
returns-in-NoRoom c = absurd (no-room-read (given (goal.at.returns-in-NoRoom c).Start (λ i. omega (arith, c.type_inv.page i))) c.in-NoRoom.is)
