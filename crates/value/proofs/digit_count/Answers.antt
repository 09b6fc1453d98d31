-- `digit_count` meets its contract: by the powers of ten. Assumes nothing.
use Rattle.std.proofs.Common.{sym, arith}
use Rattle.value.proofs.Digits.{one-digit, more-digits}
use Rattle.value.proofs.digit_count.Goals as goal

pub returns-in-0-to-9 : goal.returns-in-0-to-9
returns-in-0-to-9 c = sym (one-digit c.args.n (omega arith))

pub returns-in-0-to-99 : goal.returns-in-0-to-99
returns-in-0-to-99 c = sym (more-digits 1 c.args.n (omega arith) (omega arith) (omega arith))

pub returns-in-0-to-999 : goal.returns-in-0-to-999
returns-in-0-to-999 c = sym (more-digits 2 c.args.n (omega arith) (omega arith) (omega arith))

pub returns-in-0-to-9999 : goal.returns-in-0-to-9999
returns-in-0-to-9999 c = sym (more-digits 3 c.args.n (omega arith) (omega arith) (omega arith))

pub returns-in_default : goal.returns-in_default
returns-in_default c = sym (more-digits 4 c.args.n (omega arith) (omega arith) (omega arith))
