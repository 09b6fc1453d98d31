-- `printed_length` meets its contract. Assumes nothing.
use Rattle.std.proofs.Common.{sym, arith}
use Rattle.value.proofs.Digits.{digits-few, printed-length}
use Rattle.value.proofs.printed_length.Goals as goal

pub overflow_add-result : goal.overflow_add-result
overflow_add-result c = omega (arith, c.digit_count.ensures, digits-few c.magnitude.result)

pub returns : goal.returns
returns c = rw (c.digit_count.ensures, c.magnitude.ensures) (sym (printed-length c.args.v))
