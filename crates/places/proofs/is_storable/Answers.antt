-- `is_storable` meets its contract: the three tests in another order. Assumes nothing.
use Rattle.std.proofs.Common.{arith}
use Rattle.std.proofs.lemmas.Bool.Decides.{nat_tests}
use Rattle.value.proofs.Digits.{digits-few}
use Rattle.places.proofs.Checks.{storable-tests}
use Rattle.places.proofs.is_storable.Goals as goal

pub overflow_add-text : goal.overflow_add-text
overflow_add-text c = omega (arith, c.digit_count.ensures, digits-few c.args.line, c.requires.short)

pub returns-then-not-starts_digit : goal.returns-then-not-starts_digit
returns-then-not-starts_digit c = grind (arith, nat_tests, storable-tests)

pub returns-else-not-starts_digit : goal.returns-else-not-starts_digit
returns-else-not-starts_digit c = grind (arith, nat_tests, storable-tests)
