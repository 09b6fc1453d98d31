-- `find_spot` meets its contract: with a table, the seat is where the lines below end. Assumes nothing.
use Prim.Native.Nat.{ℕ}
use mathlib.Core.Path.{ap, ◌∙◌}
use native.Mathlib.Omega.{arith}
use lib.ListN.{take}
use Rattle.nibl.specs.Page.{records_of}
use Rattle.page.specs.Tables.{span_of}
use Rattle.table.proofs.Index.{described}
use Rattle.table.proofs.Below.{below-most, seat-found}
use Rattle.table.proofs.find_spot.Goals as goal

pub start_of-at-requires : goal.start_of-at-requires
start_of-at-requires c =
    record { described = described c.requires c.if-table-lt1.false; k_in_bounds = omega (arith, c.seek-index.ensures, below-most c.args.number.0 (records_of c.args.page.now)) }

pub returns : goal.returns
returns c =
    let a = c.args in
    let d = described c.requires c.if-table-lt1.false in
    let e = c.start_of-at.ensures ∙ ap (λ (j : ℕ). span_of (take j (records_of a.page.now))) c.seek-index.ensures in
    record {
      seated = seat-found a.page.now d.rising a.number.0 _ e c.gone_at-gone.ensures;
      index = λ h. c.seek-index.ensures;
    }
