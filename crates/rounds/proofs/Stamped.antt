-- The page behind a first byte that is stamped from round to round, and the table that is made of it.
use Rattle.std.proofs.Common.{◌≡◌, ℕ, ◌-◌, ◌≤◌, true, List, length, take, drop, ap, ◌∙◌, arith, length-drop, length-take-le}
use Rattle.nibl.specs.Page.{is_good}
use Rattle.nibl.specs.Typing.{limit}
use Rattle.page.proofs.Tables.{table_fits, refilled-true, refilled-long}
use Rattle.table.specs.Index.{Indexed, lent, kept_true}
use Rattle.table.proofs.Index.{kept-some, good-described}

-- the page behind the first byte
abbrev pub behind : List ℕ → List ℕ
behind bytes = take (length bytes - 1) (drop 1 bytes)

-- a table that was made of a good page
pub made : (page table after : List ℕ) → is_good limit page ≡ true → length page ≤ 4096 → 1025 ≤ length table → after ≡ kept_true page table → Indexed page after
made page table after g s l e =
    let f = e ∙ kept-some page table (omega arith) in
    let n : length after ≡ length table = ap length f ∙ refilled-long page table (omega (arith, table_fits page s)) in
    lent (good-described limit g s (omega arith) (rw f (refilled-true page table)))

pub short : (bytes : List ℕ) → length bytes ≤ 4097 → length (behind bytes) ≤ 4096
short bytes h = omega (arith, length-take-le (length bytes - 1) (drop 1 bytes) (omega (arith, length-drop 1 bytes)))
