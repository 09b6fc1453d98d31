use Rattle.std.proofs.Common.{sym, ◌∙◌, arith}
use Rattle.nibl.specs.Bytes.{is_space}
use Rattle.word.specs.Found.{spellings_of}
use Rattle.word.proofs.Runs.{end-here, stops_at, stops_end}
use Rattle.word.proofs.Answers.{found-end, found-there}
use Rattle.word.proofs.word_in.Goals as goal

pub returns-then-not-is_space : goal.returns-then-not-is_space
returns-then-not-is_space c =
    let a = c.args in
    let l = c.loop-i in
    let e = end-here is_space a.text.now a.from l.i l.invariant (stops_at is_space a.text.now l.i (omega arith) (sym c.is_space.ensures ∙ c.if-not-is_space.true)) in
    found-there (spellings_of a.commands) a.text.now a.from l.i e (omega arith) _ c.word_here.ensures

pub returns : goal.returns
returns c =
    let a = c.args in
    let l = c.loop-i in
    let t = a.text.now in
    found-end (spellings_of a.commands) t a.from l.i (end-here is_space t a.from l.i l.invariant (stops_end is_space t l.i (omega arith))) (omega arith)
