-- `word::parting` meets its contract: the two lists are the keys of the definition's, which antt computes. Assumes nothing.
use Rattle.std.proofs.Common.{ℕ, List, ◌+◌, ◌-◌, ◌≡◌, ◌∙◌, ap, true, false, take, drop, length, length-drop, arith}
use lib.Seq.{take_all}
use Rattle.nibl.proofs.GaveUp.{most-short}
use Rattle.word.specs.Found.{most_key, spellings_of, keys_of}
use Rattle.word.proofs.Partings.{most-letters}
use Rattle.word.proofs.parting.Goals as goal

told : (text : List ℕ) (from : ℕ) {n : ℕ} (keys : List ℕ) → n ≡ most_key keys (take (length text - from) (drop from text)) → n ≡ most_key keys (drop from text)
told text from keys e = e ∙ ap (most_key keys) (take_all (length text - from) (drop from text) (omega (arith, length-drop from text)))

pub overflow_add-result : goal.overflow_add-result
overflow_add-result c =
    let a = c.args in
    let rest = drop a.from a.text.now in
    omega (arith, (told c.args.text.now c.args.from (keys_of true) c.most_common.ensures), most-letters true rest, most-short (spellings_of true) rest (omega (arith, length-drop a.from a.text.now)), length-drop a.from a.text.now)

pub overflow_add-result-else-commands : goal.overflow_add-result-else-commands
overflow_add-result-else-commands c =
    let a = c.args in
    let rest = drop a.from a.text.now in
    omega (arith, (told c.args.text.now c.args.from (keys_of false) c.most_common-else-commands.ensures), most-letters false rest, most-short (spellings_of false) rest (omega (arith, length-drop a.from a.text.now)), length-drop a.from a.text.now)

pub returns-then-commands : goal.returns-then-commands
returns-then-commands c =
    let a = c.args in
    rw c.if-commands.true (ap (λ (n : ℕ). a.from + n) ((told c.args.text.now c.args.from (keys_of true) c.most_common.ensures) ∙ most-letters true (drop a.from a.text.now)))

pub returns-else-commands : goal.returns-else-commands
returns-else-commands c =
    let a = c.args in
    rw c.if-commands.false (ap (λ (n : ℕ). a.from + n) ((told c.args.text.now c.args.from (keys_of false) c.most_common-else-commands.ensures) ∙ most-letters false (drop a.from a.text.now)))
