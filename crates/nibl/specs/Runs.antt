-- A run within its budget: what stands at a position of the page, one step, and steps up to a stop.
use Rattle.std.specs.Prelude.{ℕ, zero, suc, ◌+◌, ◌-◌, ◌&&◌, ◌||◌, List, [], ◌∷◌, length, get_or, drop, leb, eqb, if◌then◌else◌}
use Rattle.std.proofs.Math.Option.{Option, none, some}
use Rattle.nibl.specs.Bytes.{not_cr, front, byte}
use Rattle.nibl.specs.Tree.{Stmt, Member}
use Rattle.nibl.specs.found.Read.{Found, nothing, found, member}
use Rattle.nibl.specs.Record.{paused_at, with_paused}
use Rattle.nibl.specs.Page.{is_end, line_of}
use Rattle.nibl.specs.Meaning.{World, Env, with_session, on, skip, go, stop, Done, done, exec}
use Rattle.nibl.specs.Lent.{Outcome, outcome, no_line}

-- How a run ended: the stop, the lines of the members it ran, a position of the page, and the world then. The position is where
-- the run would go on, if its stop is 0 or 14; after the stop of a statement it is the place that ends that statement.
-- A run's steps are the lines' number.
pub record Ran : Type 0 where
  pub stop : ℕ
  pub lines : List ℕ
  pub at : ℕ
  pub world : World

abbrev pub ran : ℕ → ℕ → World → Ran
ran n q w = record { stop = n; lines = []; at = q; world = w }

-- one step more, before these
abbrev pub stepped : ℕ → Ran → Ran
stepped l r = record { stop = r.stop; lines = l ∷ r.lines; at = r.at; world = r.world }

-- A member as it stands in the page: its statement, the number of its record, the place that ends it, and its record's CR
pub record Standing : Type 0 where
  pub statement : Stmt
  pub line : ℕ
  pub place : ℕ
  pub cr : ℕ

-- What a run finds at a position: nothing, past the last line; a text with no member, which no good page has; or the next member
pub data Fetched : Type 0 where
  past : Fetched
  unread : ℕ → Fetched
  here : Standing → Fetched

-- Where the text begins that is next at a position: there, after a ":"; else in the record that stands there, if one does.
-- The byte before tells which: a run goes on after a place, which is a ":" within a record or the CR before a record (or the
-- end mark), or at the page's start, with no byte before it.
unfoldable pub text_from : List ℕ → ℕ → Option ℕ
text_from page q =
    if leb 1 q && eqb (get_or page (q - 1) 0) (byte ":") then some q
    else if is_end (drop q page) then none
    else some (q + 3)

abbrev pub line_from : List ℕ → ℕ → List ℕ
line_from page a = front not_cr (drop a page)

-- the first member of the text that begins at a
abbrev pub first_from : List ℕ → ℕ → Member → Standing
first_from page a m =
    let n = length (line_from page a) in
    let p = a + (n - m.left) in
    record { statement = m.statement; line = line_of page p; place = p; cr = a + n }

abbrev pub fetch_member : List ℕ → ℕ → Found Member → Fetched
fetch_member page a nothing = unread a
fetch_member page a (found m s) = here (first_from page a m)

abbrev pub fetch_text : List ℕ → Option ℕ → Fetched
fetch_text page none = past
fetch_text page (some a) = fetch_member page a (member (line_from page a))

unfoldable pub fetch : List ℕ → ℕ → Fetched
fetch page q = fetch_text page (text_from page q)

abbrev pub env_at : Env → ℕ → Env
env_at e p = record { lim = e.lim; page = e.page; input = e.input; sight = e.sight; here = p }

-- what follows a step that ended so: p is the statement's place, cr that of its record's CR
abbrev pub after_step : Done → ℕ → ℕ → (ℕ → World → Ran) → Ran
after_step (done on w) p cr k = k (suc p) w
after_step (done skip w) p cr k = k (suc cr) w
after_step (done (go q) w) p cr k = k q w
after_step (done (stop n) w) p cr k = ran n p w

-- that member is run, and then k
abbrev pub step : Env → Standing → World → (ℕ → World → Ran) → Ran
step e x w k = stepped x.line (after_step (exec (env_at e x.place) x.statement w) x.place x.cr k)

-- "Past the last line it is 0 at any budget"; "budget spent and a statement still to run: paused". On a good page 5 is never given here
unfoldable pub run_from : ℕ → Env → ℕ → World → Ran
run_from zero e q w = elim (fetch e.page q) [ past ↦ ran 0 q w | unread a ↦ ran 14 q w | here x ↦ ran 14 q w ]
run_from (suc k) e q w = elim (fetch e.page q) [ past ↦ ran 0 q w | unread a ↦ ran 5 a w | here x ↦ step e x w (run_from k e) ]

-- the line of the last statement that ran: "there is none for 0, for 14"
abbrev pub stop_at : ℕ → List ℕ → ℕ
stop_at n [] = no_line
stop_at n (l ∷ []) = if eqb n 0 || eqb n 14 then no_line else l
stop_at n (l ∷ m ∷ ls) = stop_at n (m ∷ ls)

-- "only 14 sets" a pause
abbrev pub pausing : ℕ → ℕ → World → World
pausing n q w = if eqb n 14 then with_session w (with_paused w.session (paused_at q)) else w

abbrev pub run_outcome : Ran → List ℕ → Outcome
run_outcome r page = outcome r.stop (stop_at r.stop r.lines) (length r.lines) (pausing r.stop r.at r.world) page
