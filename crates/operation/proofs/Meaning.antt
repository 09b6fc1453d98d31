-- The assignments of a reply by operations are those of the definition. Assumes nothing.
use Prim.Native.Nat.{ℕ}
use mathlib.Core.Path.{◌≡◌, refl, ap, ◌∙◌}
use mathlib.Core.List.{List, [], ◌∷◌}
use mathlib.Core.Option.{Option, none, some}
use lib.ListN.{get_or}
use Rattle.nibl.specs.Tree.{Expr}
use Rattle.nibl.specs.Values.{Result, is, no, Value}
use Rattle.nibl.specs.found.Read.{replied}
use Rattle.nibl.specs.Meaning.{World, Env, with_session, bind, given, eval, assign, assign_reply}
use Rattle.nibl.specs.Record.{with_var}
use Rattle.relation.specs.Code.{values}
use Rattle.operation.specs.Operations.{sources_in}
use Rattle.operation.specs.Fine.{FineExpr, Every, no_more, each}
use Rattle.operation.proofs.Values.{worked-out}
use Rattle.operation.proofs.Readings.{replied-fine}
use Rattle.operation.specs.Stacks.{worked, on_value, assigning_all, assigning, assigned_in}

abbrev given_to : World → ℕ → ℕ → World
given_to w v x = with_session w (with_var w.session v x)

top-of : (r : Value) → bind (bind r (λ x. is (x ∷ []))) (λ vs. is (get_or vs 0 0)) ≡ r
top-of (is x) = refl
top-of (no n) = refl

pub worked-is : (e : Env) (w : World) {a : Expr} → FineExpr a → worked (sources_in e w) (values a) ≡ eval e w a
worked-is e w {a} f = ap (λ (r : Result (List ℕ)). bind r (λ vs. is (get_or vs 0 0))) (worked-out e w a f []) ∙ top-of (eval e w a)

-- by a relation's value, if the rest is so
by_value : (e : Env) (w : World) (v : ℕ) (vs : List ℕ) (es : List Expr) (r : Value)
    → ((x : ℕ) → assigned_in (given_to w v x) (assigning_all (sources_in e (given_to w v x)) vs es) ≡ assign e vs es (given_to w v x))
    → assigned_in w (on_value r w.session.vars (λ x. assigning_all (sources_in e (given_to w v x)) vs es)) ≡ given r w (λ x. assign e vs es (given_to w v x))
by_value e w v vs es (is x) h = h x
by_value e w v vs es (no n) h = refl

pub assign-is : (e : Env) (w : World) (vs : List ℕ) {es : List Expr} → Every FineExpr es → assigned_in w (assigning_all (sources_in e w) vs es) ≡ assign e vs es w
unfolding assigning_all assign
assign-is e w [] f = refl
assign-is e w (v ∷ vs) no_more = refl
assign-is e w (v ∷ vs) (each {a} {l} f fs) =
    ap (λ (r : Value). assigned_in w (on_value r w.session.vars (λ x. assigning_all (sources_in e (given_to w v x)) vs l))) (worked-is e w f)
    ∙ by_value e w v vs l (eval e w a) (λ x. assign-is e (given_to w v x) vs fs)

-- a reply's relations are fine
pub reply-is : (e : Env) (w : World) (vs : List ℕ) (n : ℕ) (bs : List ℕ) → assigned_in w (assigning (sources_in e w) vs (replied n bs)) ≡ assign_reply e vs w (replied n bs)
reply-is e w vs n bs = go (replied n bs) refl
  where
    go : (o : Option (List Expr)) → replied n bs ≡ o → assigned_in w (assigning (sources_in e w) vs o) ≡ assign_reply e vs w o
    go none h = refl
    go (some es) h = assign-is e w vs (replied-fine n bs es h)
