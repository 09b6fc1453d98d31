-- `write_item` meets its contract: the item is copied into the part that it fills. Assumes nothing.
use Rattle.value.proofs.Writing.{room_for, copied-sets, writes-whole}
use Rattle.value.proofs.write_item.Goals as goal

pub returns : goal.returns
returns c =
    let h = room_for _ _ _ _ c.has_room.ensures c.if-not-has_room.false in
    rw (c.put_bytes.ensures, copied-sets _ _ _ h) (writes-whole _ _ _ h)
