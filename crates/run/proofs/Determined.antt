-- One outcome: two answers that meet the promise of `run_steps` for the same arguments are equal, and so are the variables, the
-- memory and the output; the page is only read. Assumes nothing.
use Prim.Native.Nat.{ℕ}
use mathlib.Core.Path.{◌≡◌}
use mathlib.Core.List.{List}
use Rattle.nibl.proofs.Determined.{determined}
use Rattle.nibl.specs.Meaning.{World, Env}
use Rattle.nibl.specs.Runs.{run_from, run_outcome}
use Rattle.run.specs.declared.Ran.{Ran}
use Rattle.run.specs.Running.{ran_in}

pub run-determined : (budget : ℕ) (e : Env) (q : ℕ) (w : World) (page : List ℕ) (r s : Ran) (vars vars' memory memory' output output' : List ℕ)
    → ran_in r vars page memory output ≡ run_outcome (run_from budget e q w) page → ran_in s vars' page memory' output' ≡ run_outcome (run_from budget e q w) page
    → (r ≡ s) × (vars ≡ vars') × (memory ≡ memory') × (output ≡ output')
run-determined budget e q w page r s vars vars' memory memory' output output' a b =
    let x = determined (run_outcome (run_from budget e q w) page) (ran_in r vars page memory output) (ran_in s vars' page memory' output') a b in (
      λ i. record {
        stop = record { 0 = (x i).answer.stop };
        line = (x i).answer.line;
        steps = (x i).answer.steps;
        paused = (x i).session.paused;
        parts = record {
          flags = (x i).session.flags;
          gosubs = (x i).session.gosubs;
          dos = (x i).session.dos;
          fors = (x i).session.fors;
          inpos = (x i).answer.inpos;
          outpos = (x i).answer.outpos;
        };
      },
      λ i. (x i).session.vars,
      λ i. (x i).memory,
      λ i. (x i).output,
    )
