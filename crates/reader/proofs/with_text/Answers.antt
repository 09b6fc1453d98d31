-- `reader::with_text` meets its contract. Assumes nothing.
use native.Mathlib.Omega.{arith}
use lib.ListN.{length-map}
use Rattle.codes.specs.Codes.{op}
use Rattle.reader.proofs.Ways.{put-none, put_next}
use Rattle.reader.proofs.with_text.Goals as goal

pub returns-in_err-c : goal.returns-in_err-c
returns-in_err-c c = rw c.from_residual.ensures (put-none c.in_err-c.was)

pub returns : goal.returns
returns c =
    put_next c.in_ok-c.was c.put_text.ensures (omega (arith, length-map c.args.bytes.now (λ b. op c.args.code b)))
