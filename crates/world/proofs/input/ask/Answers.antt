-- `ask` meets its contract: each way out by the law of what was written and gathered. Assumes nothing.
use mathlib.Core.Path.{◌∙◌}
use native.Mathlib.Omega.{arith}
use lib.ListN.{length}
use Rattle.letter.proofs.Told.{told_line, told-long, told-no-cr}
use Rattle.world.proofs.input.Answers.{full-heard, full-slots, held-slots, none-heard, long-heard, line-heard}
use Rattle.world.proofs.input.ask.Goals as goal

pub returns-in_default-clause-answer : goal.returns-in_default-clause-answer
returns-in_default-clause-answer c =
    let a = c.args in
    let w = rw c.in_default.is at c.write_item.ensures in
    full-heard a.reply.now a.input.now a.inpos w

pub returns-in_default-clause-slots : goal.returns-in_default-clause-slots
returns-in_default-clause-slots c =
    let a = c.args in
    let w = rw c.in_default.is at c.write_item.ensures in
    full-slots a.reply.now a.input.now a.inpos w

pub returns-in-NoCr-clause-answer : goal.returns-in-NoCr-clause-answer
returns-in-NoCr-clause-answer c =
    let a = c.args in
    none-heard a.reply.now a.input.now a.inpos c.in-Some.ensures (told-no-cr (length a.reply.now) a.inpos a.input.now c.in-NoCr.ensures.answer)

pub returns-in-NoCr-clause-slots : goal.returns-in-NoCr-clause-slots
returns-in-NoCr-clause-slots c =
    let a = c.args in
    c.gather.ensures.slots ∙ held-slots a.reply.now a.input.now a.inpos c.in-Some.ensures

pub returns-in-TooLong-clause-answer : goal.returns-in-TooLong-clause-answer
returns-in-TooLong-clause-answer c =
    let a = c.args in
    long-heard a.reply.now a.input.now a.inpos c.in-Some.ensures (told-long (length a.reply.now) a.inpos a.input.now _ c.in-TooLong.ensures.answer)

pub returns-in-TooLong-clause-slots : goal.returns-in-TooLong-clause-slots
returns-in-TooLong-clause-slots c =
    let a = c.args in
    c.gather.ensures.slots ∙ held-slots a.reply.now a.input.now a.inpos c.in-Some.ensures

pub returns-in-Line-clause-answer : goal.returns-in-Line-clause-answer
returns-in-Line-clause-answer c =
    let a = c.args in
    let t = told_line (length a.reply.now) a.inpos a.input.now _ _ c.in-Line.ensures.answer in
    line-heard a.reply.now a.input.now a.inpos c.in-Some.ensures t c.gather.ensures.slots

pub returns-in-Line-clause-slots : goal.returns-in-Line-clause-slots
returns-in-Line-clause-slots c =
    let a = c.args in
    c.gather.ensures.slots ∙ held-slots a.reply.now a.input.now a.inpos c.in-Some.ensures

pub returns-in-Line-clause-room : goal.returns-in-Line-clause-room
returns-in-Line-clause-room c =
    let a = c.args in
    let t = told_line (length a.reply.now) a.inpos a.input.now _ _ c.in-Line.ensures.answer in
    omega (arith, t.fits)
