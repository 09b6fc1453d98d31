-- `fits` meets its contract: the depths come first, then the rest. Assumes nothing.
use Rattle.std.proofs.Common.{arith}
use Rattle.std.proofs.lemmas.Bool.Decides.{nat_tests}
use Rattle.record.proofs.Fitting.{fits-tests}
use Rattle.record.proofs.fits.Goals as goal

pub returns-then-session-le-ALL_FLAGS : goal.returns-then-session-le-ALL_FLAGS
returns-then-session-le-ALL_FLAGS c = grind (arith, nat_tests, fits-tests)

pub returns-else-session-le-ALL_FLAGS : goal.returns-else-session-le-ALL_FLAGS
returns-else-session-le-ALL_FLAGS c = grind (arith, nat_tests, fits-tests)
