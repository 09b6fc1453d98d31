-- All that a call is lent, what it begins with, and all that it leaves.
use Rattle.std.specs.Prelude.{ℕ, ◌+◌, List}
use Rattle.nibl.specs.Record.{mark, unpaused}
use Rattle.nibl.specs.Access.{every_address}
use Rattle.nibl.specs.Meaning.{World, Env, with_session, with_inpos}
use Rattle.nibl.specs.declared.Session.{Session}
use Rattle.nibl.specs.declared.access.Sight.{Sight}
use Rattle.nibl.specs.declared.Call.{Call}
use Rattle.nibl.specs.declared.Answer.{Answer}

-- All that a call is lent. The call's numbers say whether the table is: one that is not lent is not looked at
pub record Lent : Type 0 where
  pub session : Session
  pub page : List ℕ
  pub memory : List ℕ
  pub input : List ℕ
  pub output : List ℕ
  pub call : Call
  pub table : List ℕ

-- All that it leaves but the table; and with the table
pub record Outcome : Type 0 where
  pub answer : Answer
  pub session : Session
  pub page : List ℕ
  pub memory : List ℕ
  pub output : List ℕ

pub record Left : Type 0 where
  pub outcome : Outcome
  pub table : List ℕ

abbrev pub lent_all : Session → List ℕ → List ℕ → List ℕ → List ℕ → Call → List ℕ → Lent
lent_all s page memory typed' output c table =
    record { session = s; page = page; memory = memory; input = typed'; output = output; call = c; table = table }

abbrev pub outcome_with : Answer → Session → List ℕ → List ℕ → List ℕ → Outcome
outcome_with a s page memory output = record { answer = a; session = s; page = page; memory = memory; output = output }

abbrev pub left_all : Answer → Session → List ℕ → List ℕ → List ℕ → List ℕ → Left
left_all a s page memory output table = record { outcome = outcome_with a s page memory output; table = table }

-- a call's numbers with others in their place
abbrev pub with_budget : ℕ → Call → Call
with_budget k c = record { inpos = c.inpos; outpos = c.outpos; sense = c.sense; budget = k; tabled = c.tabled }

abbrev pub with_positions : ℕ → ℕ → Call → Call
with_positions i o c = record { inpos = i; outpos = o; sense = c.sense; budget = c.budget; tabled = c.tabled }

-- an answer: the stop, its line, the steps, both positions, and the column of a refused line
abbrev pub answer_of : ℕ → ℕ → ℕ → ℕ → ℕ → ℕ → Answer
answer_of n line steps inpos outpos column = record { stop = n; line = line; steps = steps; inpos = inpos; outpos = outpos; column = column }

abbrev pub lent_world : Lent → World
lent_world x = record { session = x.session; memory = x.memory; output = x.output; outpos = x.call.outpos; inpos = x.call.inpos }

-- "A call past its first refusals ends any pause"
abbrev pub begun : Lent → ℕ → World
begun x taken = with_inpos (with_session (lent_world x) (unpaused x.session)) (x.call.inpos + taken)

-- what the call's statements see: a call is a single box's
abbrev pub sight_of : Call → Sight
sight_of c = record { sense = c.sense; access = every_address }

abbrev pub lent_env : ℕ → Lent → Env
lent_env lim x = record { lim = lim; page = x.page; input = x.input; sight = sight_of x.call; here = mark }

-- the line of an answer that has none: no line has this number
abbrev pub no_line : ℕ
no_line = 65535

-- Outcomes. The column is "0 for every other stop" than that of a refused line
abbrev pub outcome : ℕ → ℕ → ℕ → World → List ℕ → Outcome
outcome n l steps w page = outcome_with (answer_of n l steps w.inpos w.outpos 0) w.session page w.memory w.output

-- a stop that no program statement gave
abbrev pub stops : ℕ → World → List ℕ → Outcome
stops n w page = outcome n no_line 0 w page

-- "A dealer sees 5 .. give the column with it"
abbrev pub refused_line : ℕ → World → List ℕ → Outcome
refused_line column w page = outcome_with (answer_of 5 no_line 0 w.inpos w.outpos column) w.session page w.memory w.output

-- everything back as it came, the positions and the table too
abbrev pub unchanged : Lent → ℕ → Left
unchanged x n = left_all (answer_of n no_line 0 x.call.inpos x.call.outpos 0) x.session x.page x.memory x.output x.table
