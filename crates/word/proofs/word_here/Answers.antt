-- `word::word_here` meets its contract: each answer is a law of Answers. Assumes nothing.
use Rattle.std.proofs.Common.{ℕ, List, false, ◌≡◌, ◌<◌, length, get_or, sym, arith}
use Rattle.nibl.specs.Bytes.{is_space}
use Rattle.word.specs.Found.{spellings_of}
use Rattle.word.proofs.Runs.{run_end, end-stop, stops_at}
use Rattle.word.proofs.Answers.{found-letters, found-decimal, found-hex, found-quoted, found-symbol}
use Rattle.word.proofs.word_here.Goals as goal

-- no space stands here
here : (t : List ℕ) (i : ℕ) → i < length t → is_space (get_or t i 0) ≡ false → i ≡ run_end is_space t i
here t i h f = sym (end-stop is_space t i (stops_at is_space t i h f))

pub returns-in-6 : goal.returns-in-6
returns-in-6 c =
    let a = c.args in
    let k = c.class_by_range in
    found-letters (spellings_of a.commands) a.text.now a.i a.i (here a.text.now a.i c.requires.0 c.requires.1) c.requires.0 k.result k.ensures.0 c.letters.result c.in-6.is c.letters.ensures

pub returns-in-5 : goal.returns-in-5
returns-in-5 c =
    let a = c.args in
    let k = c.class_by_range in
    found-decimal (spellings_of a.commands) a.text.now a.i a.i (here a.text.now a.i c.requires.0 c.requires.1) c.requires.0 k.result k.ensures.0 c.decimal.result c.in-5.is c.decimal.ensures

pub returns-in-7 : goal.returns-in-7
returns-in-7 c =
    let a = c.args in
    let k = c.class_by_range in
    found-quoted (spellings_of a.commands) a.text.now a.i a.i (here a.text.now a.i c.requires.0 c.requires.1) c.requires.0 k.result k.ensures.0 c.quoted.result c.in-7.is c.quoted.ensures

pub returns-then-b-eq-HASH : goal.returns-then-b-eq-HASH
returns-then-b-eq-HASH c =
    let a = c.args in
    let k = c.class_by_range in
    found-hex (spellings_of a.commands) a.text.now a.i a.i (here a.text.now a.i c.requires.0 c.requires.1) c.requires.0 k.result k.ensures.0 (λ z. omega arith) (λ z. omega arith) c.hex.result c.if-b-eq-HASH.true c.hex.ensures

pub returns-else-b-eq-HASH : goal.returns-else-b-eq-HASH
returns-else-b-eq-HASH c =
    let a = c.args in
    let k = c.class_by_range in
    found-symbol (spellings_of a.commands) a.text.now a.i a.i (here a.text.now a.i c.requires.0 c.requires.1) c.requires.0 k.result k.ensures.0 (λ z. omega arith) (λ z. omega arith) c.symbol.result (λ z. omega arith) c.if-b-eq-HASH.false c.symbol.ensures
