-- `run_plain` meets its contract: what is left of the list, on the variables so far, does what the whole list does. Assumes
-- nothing.
-- at the head of the loop: what is seen, and the list
-- the operation that is next, and how high the stack is
-- where it does not act at once: the variables are as they were
-- where an operation acted at once, and how it ended
use Prim.Native.Nat.{◌-◌}
use mathlib.Core.Path.{◌≡◌}
use lib.ListN.{length}
use Rattle.statement.specs.Plain.{view_of}
use Rattle.statement.proofs.Plainly.{Reaches}
use Rattle.statement.proofs.run_plain.Given as goal

abbrev pub invariant-loop-stop : goal.invariant-loop-stop
invariant-loop-stop l =
    (length l.vars ≡ length l.initial.vars) × (length l.values ≡ length l.initial.values) × Reaches (view_of l.lines.page.now l.flags l.sight l.dos l.fors l.memory) l.ops l.initial.vars l.i l.vars

abbrev pub decreases-loop-stop : goal.decreases-loop-stop
decreases-loop-stop l = length l.ops - l.i
