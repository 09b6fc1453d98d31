-- `write_number` meets its contract: the sign, the digits and the space are put where they have room. Assumes nothing.
use Rattle.std.proofs.Common.{ℕ, ◌+◌, ◌-◌, ◌≤◌, List, length, set, arith, length-set}
use Rattle.nibl.specs.Values.{digits, printed, magnitude}
use Rattle.value.proofs.Digits.{printed-length}
use Rattle.value.proofs.Putting.{printed-put}
use Rattle.value.proofs.Writing.{part-sets, room_for, writes-whole}
use Rattle.value.proofs.write_number.Goals as goal

pub returns : goal.returns
returns c =
    let a = c.args in
    let h = room_for _ _ _ _ c.has_room.ensures c.if-not-has_room.false in
    let z = c.printed_length-size.ensures in
    -- the output with the sign and the space in it
    let framed : List ℕ = set (set a.output.now a.at c.sign_byte.result) (a.at + c.printed_length-size.result - 1) 32 in
    let fits : a.at + 1 + length (digits (magnitude a.v)) ≤ length framed = simp length-set (omega (arith, h, z, printed-length a.v)) in
    rw (c.put_digits.ensures, c.magnitude.ensures, part-sets framed (digits (magnitude a.v)) (a.at + 1) fits, c.sign_byte.ensures, z, printed-put a.output.now a.at a.v)
    (writes-whole a.output.now (printed a.v) a.at (omega (arith, h, z)))
