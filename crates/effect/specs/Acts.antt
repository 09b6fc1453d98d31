-- The operations that act at once: what they do needs, besides the values, the page, the variables and a look at two stacks, and
-- changes the variables alone. The turns change one stack besides, and no other part.
use Rattle.std.specs.Prelude.{ℕ, suc, ◌%◌, List, eqb, set, if◌then◌else◌}
use Rattle.std.specs.Prelude.{Option as Opt, Some, None}
use Rattle.world.specs.declared.jump.Way.{Way}
use Rattle.std.proofs.Math.Option.{Option, none, some}
use Rattle.nibl.specs.Page.{find}
use Rattle.nibl.specs.Meaning.{Next, on, skip, go}
use Rattle.nibl.specs.declared.Place.{Place}
use Rattle.nibl.specs.declared.PlaceStack.{PlaceStack}
use Rattle.nibl.specs.declared.ForStack.{ForStack}
use Rattle.page.specs.Walk.{reached}
use Rattle.world.specs.Turns.{way_of, way_to, Turned, TurnedFor, gosub_turn, return_turn, do_turn, until_turn, for_turn, next_turn, back_of, Backed, next_back, until_back}
use Rattle.codes.specs.Codes.{code_set_variable, code_if, code_goto, code_gosub, code_do, code_until, code_for, code_next}

-- how such an operation ended, none where it is not done, and the variables then
pub record Acted : Type 0 where
  pub next : Option Next
  pub vars : List ℕ

abbrev pub acted_to : Option Next → List ℕ → Acted
acted_to next vars = record { next = next; vars = vars }

abbrev pub way_at_once : Opt Way → Option Next
way_at_once (Some w) = some (way_of w)
way_at_once None = none

abbrev pub acted : Opt Way → List ℕ → Acted
acted a vars = acted_to (way_at_once a) vars

-- behind the place of a DO or a FOR
abbrev pub back_to : Option ℕ → Option Next
back_to none = none
back_to (some q) = some (go (suc q))

abbrev pub goes_back : Opt Place → Option Next
goes_back b = back_to (back_of b)

abbrev pub back_acted : Backed → Acted
back_acted b = acted_to (back_to b.to) b.vars

unfoldable pub act_by : List ℕ → PlaceStack → ForStack → ℕ → ℕ → ℕ → List ℕ → Acted
act_by page dos fors code arg x vars =
    if eqb code code_set_variable then acted_to (some on) (set vars arg x)
    else if eqb code code_if then acted_to (some (if eqb x 0 then skip else on)) vars
    else if eqb code code_goto then acted_to (some (way_to (reached (find page x)))) vars
    else if eqb code code_until then acted_to (back_to (until_back x dos)) vars
    else if eqb code code_next then back_acted (next_back fors vars (arg % 256))
    else acted_to none vars

-- GOSUB, and RETURN for any other code; DO, and UNTIL; FOR, and NEXT
unfoldable pub call_turn : List ℕ → Place → PlaceStack → ℕ → ℕ → Turned
call_turn page here gosubs code x = if eqb code code_gosub then gosub_turn here gosubs (reached (find page x)) else return_turn gosubs

unfoldable pub loop_turn : Place → PlaceStack → ℕ → ℕ → Turned
loop_turn here dos code x = if eqb code code_do then do_turn here dos else until_turn x dos

unfoldable pub count_turn : Place → ForStack → List ℕ → ℕ → ℕ → ℕ → ℕ → ℕ → TurnedFor
count_turn here fors vars code arg x y z = if eqb code code_for then for_turn here fors vars (arg % 256) z y x else next_turn fors vars (arg % 256)
