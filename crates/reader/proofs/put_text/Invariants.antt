-- `reader::put_text` meets its contract: what is still to be written makes it the whole. Assumes nothing.
use Prim.Native.Nat.{◌+◌}
use mathlib.Core.Path.{◌≡◌}
use lib.ListN.{drop}
use lib.Seq.{sets}
use Rattle.reader.specs.Code.{texts}
use Rattle.reader.proofs.put_text.Given as goal

abbrev pub invariant-loop-i : goal.invariant-loop-i
invariant-loop-i l =
    sets l.ops (l.o + l.i) (texts l.code (drop l.i l.bytes)) ≡ sets l.initial.ops l.o (texts l.code l.bytes)
