-- `put_counted` meets its contract: the bytes stand behind their count. Assumes nothing.
use Rattle.std.proofs.Common.{◌+◌, ◌-◌, length, ap, ◌∙◌, arith}
use borrow.Rule.Slice.PartMut.{put_mid}
use Rattle.std.proofs.Math.Seq.{length-sets}
use Rattle.nibl.specs.Saved.{two_bytes}
use Rattle.std.proofs.lemmas.List.Edits.{sets}
use Rattle.carry.proofs.Forms.{part-put, counted-put}
use Rattle.carry.proofs.put_counted.Goals as goal

pub returns : goal.returns
returns c =
    let a = c.args in
    let o = c.put_two.new.output in
    let l = length-sets a.output.now a.at (two_bytes (length a.bytes.now)) in
    ap (put_mid (a.at + 2) (a.at + 2 + length a.bytes.now - (a.at + 2)) o) c.put_bytes.ensures
    ∙ part-put o a.bytes.now (a.at + 2) (omega arith) (omega (arith, l, ap length c.put_two.ensures, c.requires.1))
    ∙ ap (λ o. sets o (a.at + 2) a.bytes.now) c.put_two.ensures
    ∙ counted-put a.output.now a.bytes.now a.at
