-- `reader::let_form` meets its contract. Assumes nothing.
use native.Mathlib.Omega.{arith}
use Rattle.nibl.specs.found.Read.{let_cases}
use Rattle.relation.proofs.Signs.{◌but◌, none_left}
use Rattle.reader.proofs.Spending.{room-low, room-reads, room-key}
use Rattle.reader.proofs.Ways.{case_at, case-none, stat-is, byte-is, text-is}
use Rattle.reader.proofs.let_form.Goals as goal

pub copied-requires : goal.copied-requires
copied-requires c =
    room-low (omega arith) (room-key (room-reads c.requires c.read_factor-a-in-36.ensures c.read_factor-a-in-36.auto.ops) c.past_sign-e.ensures)

pub returns-in-147 : goal.returns-in-147
returns-in-147 c = case_at let_cases c.in-147.is (stat-is c.assigned.ensures)

pub returns-in-64 : goal.returns-in-64
returns-in-64 c = case_at let_cases c.in-64.is (byte-is c.read_factor-a.ensures c.assigned-in-64.ensures)

pub returns-in-36 : goal.returns-in-36
returns-in-36 c =
    case_at let_cases c.in-36.is (text-is c.read_factor-a-in-36.ensures c.past_sign-e.ensures c.copied.ensures)

pub returns-in_default : goal.returns-in_default
returns-in_default c =
    let h = c.in_default.in_default-own.rest in
    case-none _ (h.0.0.1 but h.0.1 but h.1 but none_left)
