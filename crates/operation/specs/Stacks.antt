-- The stack of values in a lent array, and what the answers say of it.
use Rattle.std.specs.Prelude.{ℕ, zero, suc, ◌≤◌, ◌<◌, List, [], ◌∷◌, true, ◌≡◌, get_or, set, length, drop}
use Rattle.std.specs.Prelude.{Result as Res, Ok, Err}
use Rattle.nibl.specs.declared.stop.Stop.{Stop}
use Rattle.std.proofs.Math.Option.{Option, none, some}
use Rattle.nibl.specs.Tree.{Expr}
use Rattle.nibl.specs.found.Read.{replied}
use Rattle.nibl.specs.Page.{used}
use Rattle.nibl.specs.Meaning.{World, with_session, Next, on, stop, Done, done, bind}
use Rattle.nibl.specs.Record.{with_vars}
use Rattle.nibl.specs.declared.access.Sight.{Sight}
use Rattle.relation.specs.Code.{values}
use Rattle.reader.specs.Answers.{has_room}
use Rattle.world.specs.Turns.{way_of}
use Rattle.world.specs.declared.jump.Way.{Way}
use Rattle.nibl.specs.Values.{Result, is, no, Value}
use Rattle.line.specs.Answers.{list_of}
use Rattle.operation.specs.Operations.{Sources, work_out, AtEffect, at_effect}
use Rattle.operation.specs.declared.sources.Sources.{Sources as Seen}

abbrev pub sources : List ℕ → ℕ → Sight → List ℕ → List ℕ → Sources
sources vars flags sight page memory = record { vars = vars; flags = flags; sight = sight; page = page; memory = memory }

-- what the code lends for them
abbrev pub sources_of : Seen → Sources
sources_of s = sources s.vars.now s.flags s.sight s.page.now s.memory.now

-- the values that the first n places of an array hold, the top first
unfoldable pub stack_of : List ℕ → ℕ → List ℕ
stack_of values zero = []
stack_of values (suc n) = get_or values n 0 ∷ stack_of values n

-- the value on top, or 0
abbrev pub top_in : List ℕ → ℕ → ℕ
top_in values n = get_or (stack_of values n) 0 0

abbrev pub stack_after : Res (ℕ × ℕ) Stop → List ℕ → Result (List ℕ)
stack_after (Ok (n, x)) values = is (stack_of values n)
stack_after (Err s) values = no s.0

abbrev pub height_of : Res (ℕ × ℕ) Stop → ℕ
height_of (Ok (n, x)) = n
height_of (Err n) = 0

abbrev pub top_after : Res (ℕ × ℕ) Stop → ℕ
top_after (Ok (n, x)) = x
top_after (Err n) = 0

-- how far the operations on values of a list lead, and the values then
abbrev pub reached_in : Res (ℕ × ℕ × ℕ) Stop → List ℕ → List ℕ → Result AtEffect
reached_in (Ok (i, n, x)) ops values = is (at_effect (drop i ops) (stack_of values n))
reached_in (Err s) ops values = no s.0

-- the operation that is next; after a refusal the first one counts
abbrev pub reached_at : ℕ → Res (ℕ × ℕ × ℕ) Stop → ℕ
reached_at from (Ok (i, n, x)) = i
reached_at from (Err n) = from

abbrev pub reached_height : Res (ℕ × ℕ × ℕ) Stop → ℕ
reached_height (Ok (i, n, x)) = n
reached_height (Err n) = 0

abbrev pub reached_top : Res (ℕ × ℕ × ℕ) Stop → ℕ
reached_top (Ok (i, n, x)) = x
reached_top (Err n) = 0

-- the value that a list of operations leaves on top
abbrev pub worked : Sources → List ℕ → Value
worked s ops = bind (work_out s ops []) (λ vs. is (get_or vs 0 0))

-- what the lent parts hold to: room for a reply's operations and their values
pub record ReplyRoom (text page ops values : List ℕ) : Type 0 where
  pub room : has_room text ops ≡ true
  pub stack : length ops ≤ length values
  pub top : used page < 65536

pub record Assigning (n : ℕ) (text page ops values : List ℕ) : Type 0 where
  pub lends : ReplyRoom text page ops values
  pub reply : list_of (replied n text) ≡ Ok tt

-- a reply's end, and the variables then
pub record Assigned : Type 0 where
  pub next : Next
  pub vars : List ℕ

abbrev pub assigned_to : Next → List ℕ → Assigned
assigned_to n vars = record { next = n; vars = vars }

abbrev pub assigned_by : Way → List ℕ → Assigned
assigned_by w vars = assigned_to (way_of w) vars

-- what is done with a value, or its refusal with the variables as they were
abbrev pub on_value : Value → List ℕ → (ℕ → Assigned) → Assigned
on_value (is x) vars k = k x
on_value (no n) vars k = assigned_to (stop n) vars

-- what is seen after an assignment
abbrev pub with_value : Sources → ℕ → ℕ → Sources
with_value s v x = sources (set s.vars v x) s.flags s.sight s.page s.memory

-- "evaluates its relations in turn after the earlier assignments", by their operations
unfoldable pub assigning_all : Sources → List ℕ → List Expr → Assigned
assigning_all s [] es = assigned_to on s.vars
assigning_all s (v ∷ vs) [] = assigned_to on s.vars
assigning_all s (v ∷ vs) (a ∷ es) = on_value (worked s (values a)) s.vars (λ x. assigning_all (with_value s v x) vs es)

abbrev pub assigning : Sources → List ℕ → Option (List Expr) → Assigned
assigning s vs none = assigned_to (stop 6) s.vars
assigning s vs (some es) = assigning_all s vs es

-- a reply's end, in the world
abbrev pub assigned_in : World → Assigned → Done
assigned_in w a = done a.next (with_session w (with_vars w.session a.vars))
