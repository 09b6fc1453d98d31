use Rattle.std.proofs.Common.{ℕ, ◌<◌, ◌∙◌, sym, ap, [], ◌∷◌, ◌++◌, List, length, get_or, arith}
use Rattle.std.proofs.Math.Seq.{take_all}
use Rattle.std.proofs.lemmas.List.{take_more, take_more_set}
use Rattle.value.proofs.put_bytes.Goals as goal

pub loop-i-preserved : goal.loop-i-preserved
loop-i-preserved c =
    let l = c.loop-i in
    let from : List ℕ = c.args.from.now in
    let b : ℕ = get_or from l.i 0 in
    let h : l.i < length from = omega (arith, c.loop-i-test.true) in
    take_more_set l.to l.i b (omega (arith, h, l.auto.to, c.requires)) ∙ ap (λ l. l ++ (b ∷ [])) l.invariant ∙ sym (take_more from l.i 0 h)

pub returns : goal.returns
returns c =
    let l = c.loop-i in
    let from : List ℕ = c.args.from.now in
    sym (take_all l.i l.to (omega (arith, l.auto.to, c.requires, c.loop-i-test.false))) ∙ l.invariant ∙ take_all l.i from c.loop-i-test.false
