-- `write_digits` meets its contract: the digits are put where they have room. Assumes nothing.
use Rattle.std.proofs.Common.{◌+◌, ◌≤◌, length, arith}
use Rattle.nibl.specs.Values.{digits}
use Rattle.value.proofs.Writing.{part-sets, room_for, writes-whole}
use Rattle.value.proofs.write_digits.Goals as goal

pub returns : goal.returns
returns c =
    let a = c.args in
    let n = c.digit_count-count.ensures in
    let h : a.at + length (digits a.n) ≤ length a.output.now = omega (arith, room_for _ _ _ _ c.has_room.ensures c.if-not-has_room.false) in
    rw (c.put_digits.ensures, part-sets a.output.now (digits a.n) a.at h, n)
    (writes-whole a.output.now (digits a.n) a.at h)
