-- What the sentences on sound calls speak of: the line that an answer shows, how a call answers, and a run in several calls.
use Rattle.std.specs.Prelude.{ℕ, ◌+◌, ◌≤◌, ◌<◌, ◌≡◌, true, false, List, [], ◌∷◌, ◌⊎◌, length, eqb}
use Rattle.nibl.specs.Page.{is_among, line_of, places_of}
use Rattle.nibl.specs.Meaning.{World}
use Rattle.nibl.specs.Lent.{Lent, Outcome, outcome_with, answer_of, no_line}
use Rattle.nibl.specs.Runs.{Ran, run_from, run_outcome}
use Rattle.nibl.specs.Lent.{lent_env}
use Rattle.nibl.specs.Calls.{continue_run}
use Rattle.page.specs.Standing.{Stands, LiesIn}
use Rattle.record.specs.Sound.{Sound}
use Rattle.demands.specs.Lent.{budgeted}
use Rattle.demands.specs.Listing.{lent_next}

-- the line that the answer of a run shows: it has one exactly where a statement gave the stop, for no line has the number of none. `at` is then the place
-- of the last step
pub data Shows (page : List ℕ) (r : Ran) : ℕ → Type 0 where
  without : (r.stop ≡ 0) ⊎ (r.stop ≡ 14) → Shows page r no_line
  its_line : (r.stop ≡ 0 → ⊥) → (r.stop ≡ 14 → ⊥) → 1 ≤ length r.lines → is_among (places_of page) r.at ≡ true → LiesIn page r.at (line_of page r.at)
      → line_of page r.at < no_line → Shows page r (line_of page r.at)

-- how a call answers; From is where its run begins, if it has one
pub data Answered (lim : ℕ) (x : Lent) (From : ℕ → World → Type 0) (o : Outcome) : Type 0 where
  -- with a stop that no program statement gave: it has no line, no step was counted, and it is no pause
  by_line : o.answer.line ≡ no_line → o.answer.steps ≡ 0 → (o.answer.stop ≡ 14 → ⊥) → Answered lim x From o
  -- as the run ended that it began
  by_run : (q : ℕ) (w : World) → From q w → Stands (places_of x.page) q → Sound lim x.page w.session → o ≡ run_outcome (run_from x.call.budget (lent_env lim x) q w) x.page
      → Shows x.page (run_from x.call.budget (lent_env lim x) q w) o.answer.line → Answered lim x From o

-- a call that paused, and the one that continued it, as one
abbrev pub resumed : Outcome → Outcome → Outcome
resumed o c =
    outcome_with (answer_of c.answer.stop c.answer.line (o.answer.steps + c.answer.steps) c.answer.inpos c.answer.outpos c.answer.column)
    c.session c.page c.memory c.output

-- after o, while it is paused, a continue with each budget of a list in turn, on all that was left and the rest of what x lent
unfoldable pub continued : Lent → List ℕ → Outcome → Outcome
continued x [] o = o
continued x (b ∷ bs) o =
    elim (eqb o.answer.stop 14) [ true ↦ continued x bs (resumed o (continue_run (budgeted b (lent_next x o)))) | false ↦ o ]

abbrev pub total : List ℕ → ℕ
total [] = 0
total (b ∷ bs) = b + total bs
