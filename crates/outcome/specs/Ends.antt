-- How a call ends, by value: the answer and the record, and with the lent bytes the definition's outcome.
use Rattle.std.specs.Prelude.{ℕ, List}
use Rattle.nibl.specs.Record.{stackless, session_of}
use Rattle.nibl.specs.Meaning.{World}
use Rattle.nibl.specs.Lent.{Outcome, outcome_with, answer_of, no_line}
use Rattle.nibl.specs.declared.Session.{Session}
use Rattle.page.specs.declared.Edited.{Edited}
use Rattle.page.specs.declared.Edited.TheVariants as edited
use Rattle.page.specs.Listing.{Shown}
use Rattle.run.specs.declared.Ran.{Ran}
use Rattle.outcome.specs.declared.Ended.{Ended}

abbrev pub ended_in : Ended → List ℕ → List ℕ → List ℕ → Outcome
ended_in e page memory output = outcome_with e.answer e.session page memory output

-- the world that a statement meets, by its parts
abbrev pub world_at : Session → List ℕ → List ℕ → ℕ → ℕ → World
world_at s memory output inpos outpos = record { session = s; memory = memory; output = output; outpos = outpos; inpos = inpos }

-- a stop that no program statement gave
abbrev pub stopped : ℕ → Session → ℕ → ℕ → Ended
stopped n s inpos outpos = record { answer = answer_of n no_line 0 inpos outpos 0; session = s }

-- a line that is refused
abbrev pub refused : ℕ → Session → ℕ → ℕ → Ended
refused column s inpos outpos = record { answer = answer_of 5 no_line 0 inpos outpos column; session = s }

-- an edit clears the stacks, unless it changed nothing: 2, or a line that was not there
abbrev pub edit_end : Edited → Session → ℕ → ℕ → Ended
edit_end edited.Done s inpos outpos = stopped 0 (stackless s) inpos outpos
edit_end edited.NoRoom s inpos outpos = stopped 2 s inpos outpos
edit_end edited.Absent s inpos outpos = stopped 0 s inpos outpos

-- a listing's stop and position
abbrev pub list_end : Session → ℕ → Shown → Ended
list_end s inpos l = stopped l.stop s inpos l.at

-- what a run left
abbrev pub ran_end : Ran → List ℕ → Ended
ran_end r vars =
    record {
      answer = answer_of r.stop.0 r.line r.steps r.parts.inpos r.parts.outpos 0;
      session = session_of r.parts vars r.paused;
    }
