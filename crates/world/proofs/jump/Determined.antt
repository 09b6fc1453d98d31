-- One outcome: two answers that meet a public function's promise for the same arguments are equal, and so are the
-- variables. Assumes nothing.
use Prim.Native.Nat.{ℕ, zero, suc}
use Rattle.std.specs.Prelude.{Option as Opt, Some, None}
use mathlib.Core.Path.{◌≡◌, refl, ap, sym, ◌∙◌}
use mathlib.Core.List.{List}
use mathlib.Core.Option.{Option, none, some}
use lib.ListN.{get_or, set}
use Rattle.nibl.proofs.Determined.{determined}
use Rattle.nibl.specs.Page.{find}
use Rattle.nibl.specs.Meaning.{Next, on, skip, go, stop}
use Rattle.nibl.specs.Record.{place, position_of}
use Rattle.nibl.specs.declared.Place.{Place}
use Rattle.nibl.specs.declared.Onward.{Onward}
use Rattle.nibl.specs.declared.Onward.TheVariants as onward
use Rattle.nibl.specs.declared.PlaceStack.{PlaceStack}
use Rattle.nibl.specs.declared.ForStack.{ForStack}
use Rattle.page.specs.Walk.{reached}
use Rattle.world.specs.declared.jump.Way.{Way}
use Rattle.world.specs.declared.jump.Way.TheVariants as way
use Rattle.world.specs.declared.jump.Turn.{Turn}
use Rattle.world.specs.Turns.{way_of, Turned, turned, TurnedFor, turned_for, way_to, gosub_turn, return_turn, do_turn, until_turn, for_turn, next_turn, back_of, backed, next_back, until_back}

pub var-determined : (vars : List ℕ) (v a b : ℕ) → a ≡ get_or vars v 0 → b ≡ get_or vars v 0 → a ≡ b
var-determined vars v = determined (get_or vars v 0)

pub set-determined : (vars : List ℕ) (v x : ℕ) (a b : List ℕ) → a ≡ set vars v x → b ≡ set vars v x → a ≡ b
set-determined vars v x = determined (set vars v x)

-- where a run goes on, of its position, and the way of the definition's word for it
abbrev onward_at : ℕ → Onward
onward_at zero = onward.Start
onward_at (suc p) = onward.After (place p)

onward-at : (o : Onward) → onward_at (position_of o) ≡ o
onward-at onward.Start = refl
onward-at (onward.After p) = refl

abbrev back : Next → Way
back on = way.On
back skip = way.Skip
back (go q) = way.Go (onward_at q)
back (stop n) = way.Stop (record { 0 = n })

back-of : (a : Way) → back (way_of a) ≡ a
back-of way.On = refl
back-of way.Skip = refl
back-of (way.Go o) = ap way.Go (onward-at o)
back-of (way.Stop n) = refl

way_same : (a b : Way) → way_of a ≡ way_of b → a ≡ b
way_same a b e = sym (back-of a) ∙ ap back e ∙ back-of b

pub way-determined : (n : Next) (a b : Way) → way_of a ≡ n → way_of b ≡ n → a ≡ b
way-determined n a b p q = way_same a b (determined n (way_of a) (way_of b) p q)

pub turn-determined : (t : Turned) (a b : Turn PlaceStack) → turned a ≡ t → turned b ≡ t → a ≡ b
turn-determined t a b p q =
    let e = determined t (turned a) (turned b) p q in let f = way_same a.way b.way (λ i. (e i).next) in λ i. record { way = f i; stack = (e i).stack }

pub for-turn-determined : (t : TurnedFor) (a b : Turn ForStack) (vars vars' : List ℕ) → turned_for a vars ≡ t → turned_for b vars' ≡ t → (a ≡ b) × (vars ≡ vars')
for-turn-determined t a b vars vars' p q =
    let e = determined t (turned_for a vars) (turned_for b vars') p q in
    let f = way_same a.way b.way (λ i. (e i).next) in
    (λ i. record { way = f i; stack = (e i).stack }, λ i. (e i).vars)

pub goto-determined : (page : List ℕ) (n : ℕ) (a b : Way) → way_of a ≡ way_to (reached (find page n)) → way_of b ≡ way_to (reached (find page n)) → a ≡ b
goto-determined page n = way-determined (way_to (reached (find page n)))

pub gosub-determined : (page : List ℕ) (n : ℕ) (here : Place) (s : PlaceStack) (a b : Turn PlaceStack)
    → turned a ≡ gosub_turn here s (reached (find page n)) → turned b ≡ gosub_turn here s (reached (find page n)) → a ≡ b
gosub-determined page n here s = turn-determined (gosub_turn here s (reached (find page n)))

pub return-determined : (s : PlaceStack) (a b : Turn PlaceStack) → turned a ≡ return_turn s → turned b ≡ return_turn s → a ≡ b
return-determined s = turn-determined (return_turn s)

pub do-determined : (here : Place) (s : PlaceStack) (a b : Turn PlaceStack) → turned a ≡ do_turn here s → turned b ≡ do_turn here s → a ≡ b
do-determined here s = turn-determined (do_turn here s)

pub until-determined : (x : ℕ) (s : PlaceStack) (a b : Turn PlaceStack) → turned a ≡ until_turn x s → turned b ≡ until_turn x s → a ≡ b
until-determined x s = turn-determined (until_turn x s)

pub for-determined : (here : Place) (s : ForStack) (vars : List ℕ) (v first limit step : ℕ) (a b : Turn ForStack) (u u' : List ℕ)
    → turned_for a u ≡ for_turn here s vars v first limit step → turned_for b u' ≡ for_turn here s vars v first limit step → (a ≡ b) × (u ≡ u')
for-determined here s vars v first limit step = for-turn-determined (for_turn here s vars v first limit step)

pub next-determined : (s : ForStack) (vars : List ℕ) (v : ℕ) (a b : Turn ForStack) (u u' : List ℕ)
    → turned_for a u ≡ next_turn s vars v → turned_for b u' ≡ next_turn s vars v → (a ≡ b) × (u ≡ u')
next-determined s vars v = for-turn-determined (next_turn s vars v)

-- the answer of a NEXT that may go back, of the definition's word for it
abbrev back_at : Option ℕ → Opt Place
back_at none = None
back_at (some q) = Some (place q)

back_at_lem : (b : Opt Place) → back_at (back_of b) ≡ b
back_at_lem (Some p) = refl
back_at_lem None = refl

back-same : (a b : Opt Place) → back_of a ≡ back_of b → a ≡ b
back-same a b e = sym (back_at_lem a) ∙ ap back_at e ∙ back_at_lem b

pub next-back-determined : (s : ForStack) (vars : List ℕ) (v : ℕ) (a b : Opt Place) (u u' : List ℕ)
    → backed a u ≡ next_back s vars v → backed b u' ≡ next_back s vars v → (a ≡ b) × (u ≡ u')
next-back-determined s vars v a b u u' p q =
    let e = determined (next_back s vars v) (backed a u) (backed b u') p q in
    (back-same a b (λ i. (e i).to), λ i. (e i).vars)

pub until-back-determined : (x : ℕ) (s : PlaceStack) (a b : Opt Place) → back_of a ≡ until_back x s → back_of b ≡ until_back x s → a ≡ b
until-back-determined x s a b p q = back-same a b (determined (until_back x s) (back_of a) (back_of b) p q)
