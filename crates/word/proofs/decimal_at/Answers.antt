use mathlib.Core.Path.{◌≡◌, ◌∙◌, sym}
use native.Mathlib.Omega.{arith}
use Rattle.std.proofs.Common.{length}
use Rattle.nibl.specs.Bytes.{is_digit}
use Rattle.word.proofs.Runs.{stops_at, stops_end}
use Rattle.word.proofs.Numbers.{counted-go, counted_stop, counted-large}
use Rattle.word.proofs.decimal_at.Goals as goal

pub returns-then-v-gt-LARGEST : goal.returns-then-v-gt-LARGEST
returns-then-v-gt-LARGEST c =
    let l = c.loop-i in
    counted-large l.invariant.2 c.digit.result (omega arith) (sym c.is_digit.ensures ∙ c.if-not-is_digit.false) c.digit.ensures.0 c.if-v-gt-LARGEST.true

pub loop-i-preserved : goal.loop-i-preserved
loop-i-preserved c =
    let l = c.loop-i in
    (omega arith, omega arith, counted-go l.invariant.2 c.digit.result (omega arith) (sym c.is_digit.ensures ∙ c.if-not-is_digit.false) c.digit.ensures.0 (omega arith))

pub returns : goal.returns
returns c =
    let l = c.loop-i in
    let text = c.args.text.now in
    let e : l.i ≡ length text = omega arith in
    counted_stop (rw e at l.invariant.2) c.requires.0 c.requires.1 (omega arith) l.invariant.1 (stops_end is_digit text (length text) (omega arith))

pub returns-then-not-is_digit : goal.returns-then-not-is_digit
returns-then-not-is_digit c =
    let l = c.loop-i in
    counted_stop l.invariant.2 c.requires.0 c.requires.1 l.invariant.0 l.invariant.1 (stops_at is_digit c.args.text.now l.i (omega arith) (sym c.is_digit.ensures ∙ c.if-not-is_digit.true))
