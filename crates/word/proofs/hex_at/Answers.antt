use Rattle.std.specs.Prelude.{Bool, true, false, not, eqb}
use Rattle.std.specs.Bool.{then_some}
use Rattle.std.proofs.Common.{ℕ, List, ◌≤◌, ◌<◌, ◌≡◌, ◌∙◌, sym, refl, length, drop, arith}
use Rattle.std.proofs.lemmas.Bool.{eqb-true, eqb-false}
use Rattle.nibl.specs.Bytes.{is_hex_digit, starts}
use Rattle.word.specs.Found.{AnswerIs, hex_at, hex_word}
use Rattle.word.proofs.Runs.{stops_at, stops_end}
use Rattle.word.proofs.Numbers.{Hexed, hexed-go, hexed-stop, hexed-none}
use Rattle.word.proofs.hex_at.Goals as goal

-- none, or some that end here
ended : {text : List ℕ} {from v i : ℕ} → from ≤ i → i ≤ length text → v < 65536 → Hexed text from v i → starts is_hex_digit (drop i text) ≡ false
    → AnswerIs hex_at length text from (hex_word from (then_some (not (eqb i from)) (v, i)))
ended {text} {from} {v} {i} h l k x f = go (eqb i from) refl
  where
    go : (t : Bool) → eqb i from ≡ t → AnswerIs hex_at length text from (hex_word from (then_some (not t) (v, i)))
    go true e = let q = eqb-true i from e in hexed-none text from (omega arith) (rw q at f)
    go false e = hexed-stop x (let q = eqb-false i from e in omega arith) l k f

pub loop-i-preserved : goal.loop-i-preserved
loop-i-preserved c =
    let l = c.loop-i in
    let digit = sym c.is_hex_digit.ensures ∙ c.if-not-is_hex_digit.false in
    (omega arith, omega arith, omega arith, hexed-go l.invariant.3 c.shifted-v.result (omega arith) digit c.shifted-v.ensures)

pub returns : goal.returns
returns c =
    let text = c.args.text.now in
    let l = c.loop-i in
    let e : l.i ≡ length text = omega arith in
    rw c.then_some-2.ensures (ended (omega arith) (omega arith) l.invariant.2 (rw e at l.invariant.3) (stops_end is_hex_digit text (length text) (omega arith)))

pub returns-then-not-is_hex_digit : goal.returns-then-not-is_hex_digit
returns-then-not-is_hex_digit c =
    let text = c.args.text.now in
    let l = c.loop-i in
    rw c.then_some.ensures (ended l.invariant.0 l.invariant.1 l.invariant.2 l.invariant.3 (stops_at is_hex_digit text l.i (omega arith) (sym c.is_hex_digit.ensures ∙ c.if-not-is_hex_digit.true)))
