-- The operations of a relation work out its value, or refuse as it refuses. Assumes nothing.
use Prim.Native.Nat.{ℕ, ◌%◌, ◌<◌}
use mathlib.Core.Path.{◌≡◌, refl, sym, ap, ◌∙◌}
use mathlib.Core.List.{List, [], ◌∷◌, ◌++◌, append_assoc, append-nil}
use native.Mathlib.Omega.{arith}
use borrow.Author.Tests.{lt-ltb}
use lib.ListN.{get_or, drop}
use Rattle.nibl.specs.Tree.{Expr, Op, times, divided_by, and_bits, plus, minus, or_bits, equal, less, greater, at_most, at_least, unequal}
use Rattle.nibl.specs.Values.{Result, is, no, Value, not16, sub16, mod16, apply}
use Rattle.nibl.specs.Meaning.{World, Env, Done, done, stop, bind, given, byte_of, eval}
use Rattle.codes.specs.Operators.{op_of}
use Rattle.relation.specs.Code.{values}
use Rattle.codes.specs.Codes.{op, codes, code_in, argument_in, effects}
use Rattle.codes.specs.Operators.{op_number}
use Rattle.operation.specs.Operations.{sources_in, value_by, takes, value_step, work_out, run_ops}
use Rattle.operation.specs.Fine.{FineExpr, a_var, a_const, a_stat, a_top, a_byte_at, an_invert, a_negate, a_modulo, a_two}

-- An operation's code and argument
pub code_of : (code arg : ℕ) → code < codes → code_in (op code arg) ≡ code
code_of code arg h = omega arith

pub arg-of : (code arg : ℕ) → code < codes → argument_in (op code arg) ≡ arg
arg-of code arg h = omega arith

operator-of : (o : Op) → op_of (op_number o) ≡ o
unfolding op_of
operator-of times = refl
operator-of divided_by = refl
operator-of and_bits = refl
operator-of plus = refl
operator-of minus = refl
operator-of or_bits = refl
operator-of equal = refl
operator-of less = refl
operator-of greater = refl
operator-of at_most = refl
operator-of at_least = refl
operator-of unequal = refl

-- What goes on with a result, and what a refusal is
module _ {R : Type 0} (refuse : ℕ → R) where
  abbrev after : {A : Type 0} → Result A → (A → R) → R
  after (is a) k = k a
  after (no n) k = refuse n

  after_same : {A : Type 0} (r : Result A) (f g : A → R) → ((a : A) → f a ≡ g a) → after r f ≡ after r g
  after_same (is a) f g h = h a
  after_same (no n) f g h = refl

  after-bind : {A B : Type 0} (r : Result A) (k : A → Result B) (f : B → R) → after r (λ a. after (k a) f) ≡ after (bind r k) f
  after-bind (is a) k f = refl
  after-bind (no n) k f = refl

  -- Any way to do operations that does those on values as `run_ops` does
  module _ (e : Env) (w : World) (does : List ℕ → List ℕ → R)
      (step : (o : ℕ) (ops vs : List ℕ) → code_in o < effects → does (o ∷ ops) vs ≡ after (value_step (sources_in e w) o vs) (λ us. does ops us)) where
    value-op : (c arg : ℕ) (vs rest : List ℕ) → c < effects
        → does (op c arg ∷ rest) vs ≡ after (value_by (sources_in e w) c arg (get_or vs 0 0) (get_or vs 1 0)) (λ x. does rest (x ∷ drop (takes c) vs))
    unfolding value_step
    value-op c arg vs rest h =
        step (op c arg) rest vs (omega arith)
        ∙ rw (code_of c arg (omega arith), arg-of c arg (omega arith))
        (sym (after-bind (value_by (sources_in e w) c arg (get_or vs 0 0) (get_or vs 1 0)) (λ x. is (x ∷ drop (takes c) vs)) (λ us. does rest us)))

    -- a relation's value comes on top, and the rest goes on with it
    abbrev Puts : List ℕ → Value → Type 0
    Puts ops r = (vs rest : List ℕ) → does (ops ++ rest) vs ≡ after r (λ x. does rest (x ∷ vs))

    none-taken : (c arg : ℕ) (r : Value) → c < effects → takes c ≡ 0 → ((x y : ℕ) → value_by (sources_in e w) c arg x y ≡ r) → Puts (op c arg ∷ []) r
    none-taken c arg r l t g vs rest = value-op c arg vs rest l ∙ rw (t, g (get_or vs 0 0) (get_or vs 1 0)) refl

    one-taken : (a : Expr) (c : ℕ) (f : ℕ → Value) → c < effects → takes c ≡ 1 → ((x y : ℕ) → value_by (sources_in e w) c 0 x y ≡ f x)
        → Puts (values a) (eval e w a) → Puts (values a ++ (op c 0 ∷ [])) (bind (eval e w a) f)
    one-taken a c f l t g h vs rest =
        let k : ℕ → R = λ z. does rest (z ∷ vs) in
        rw (append_assoc (values a) (op c 0 ∷ []) rest)
        (h vs (op c 0 ∷ rest)
        ∙ after_same (eval e w a) _ (λ x. after (f x) k) (λ x. value-op c 0 (x ∷ vs) rest l ∙ rw (t, g x (get_or vs 0 0)) refl)
        ∙ after-bind (eval e w a) f k)

    two-taken : (a b : Expr) (c arg : ℕ) (f : ℕ → ℕ → Value) → c < effects → takes c ≡ 2 → ((x y : ℕ) → value_by (sources_in e w) c arg y x ≡ f x y)
        → Puts (values a) (eval e w a) → Puts (values b) (eval e w b)
        → Puts (values a ++ (values b ++ (op c arg ∷ []))) (bind (eval e w a) (λ x. bind (eval e w b) (λ y. f x y)))
    two-taken a b c arg f l t g h i vs rest =
        let k : ℕ → R = λ z. does rest (z ∷ vs) in
        rw (append_assoc (values a) (values b ++ (op c arg ∷ [])) rest, append_assoc (values b) (op c arg ∷ []) rest)
        (h vs (values b ++ (op c arg ∷ rest))
        ∙ after_same (eval e w a) _ (λ x. after (bind (eval e w b) (λ y. f x y)) k)
        (λ x. i (x ∷ vs) (op c arg ∷ rest)
        ∙ after_same (eval e w b) _ (λ y. after (f x y) k) (λ y. value-op c arg (y ∷ x ∷ vs) rest l ∙ rw (t, g x y) refl)
        ∙ after-bind (eval e w b) (λ y. f x y) k)
        ∙ after-bind (eval e w a) (λ x. bind (eval e w b) (λ y. f x y)) k)

    values-put : (a : Expr) → FineExpr a → Puts (values a) (eval e w a)
    unfolding values eval value_by
    values-put a (a_var {v}) = none-taken 1 v _ (omega arith) refl (λ x y. refl)
    values-put a (a_const {n} h) = let m : n % 65536 ≡ n = omega arith in none-taken 0 n _ (omega arith) refl (λ x y. ap is m)
    values-put a a_stat = none-taken 2 0 _ (omega arith) refl (λ x y. refl)
    values-put a a_top = none-taken 3 0 _ (omega arith) refl (λ x y. refl)
    values-put b (a_byte_at {a} h) = one-taken a 4 (byte_of e.sight.access w.memory) (omega arith) refl (λ x y. refl) (values-put a h)
    values-put b (an_invert {a} h) = one-taken a 5 (λ x. is (not16 x)) (omega arith) refl (λ x y. refl) (values-put a h)
    values-put b (a_negate {a} h) = one-taken a 6 (λ x. is (sub16 0 x)) (omega arith) refl (λ x y. refl) (values-put a h)
    values-put c (a_modulo {a} {b} h i) = two-taken a b 7 0 mod16 (omega arith) refl (λ x y. refl) (values-put a h) (values-put b i)
    values-put c (a_two {o} {a} {b} h i) =
        two-taken a b 8 (op_number o) (apply o) (omega arith) refl (λ x y. ap (λ p. apply p x y) (operator-of o)) (values-put a h) (values-put b i)

-- So a list of operations runs,
module _ (e : Env) (w : World) where
  given-after : {A : Type 0} (r : Result A) (k : A → Done) → given r w k ≡ after (λ n. done (stop n) w) r k
  given-after (is a) k = refl
  given-after (no n) k = refl

  run_step : (o : ℕ) (ops vs : List ℕ) → code_in o < effects → run_ops e (o ∷ ops) w vs ≡ after (λ n. done (stop n) w) (value_step (sources_in e w) o vs) (λ us. run_ops e ops w us)
  unfolding run_ops
  run_step o ops vs h = rw (lt-ltb (code_in o) effects h, run_ops) (given-after (value_step (sources_in e w) o vs) (λ us. run_ops e ops w us))

  pub values-run : (a : Expr) → FineExpr a → (vs rest : List ℕ) → run_ops e (values a ++ rest) w vs ≡ given (eval e w a) w (λ x. run_ops e rest w (x ∷ vs))
  values-run a h vs rest =
      values-put (λ n. done (stop n) w) e w (λ ops us. run_ops e ops w us) run_step a h vs rest ∙ sym (given-after (eval e w a) (λ x. run_ops e rest w (x ∷ vs)))

  -- and a list of operations on values alone is worked out
  bind-after : {A B : Type 0} (r : Result A) (k : A → Result B) → bind r k ≡ after no r k
  bind-after (is a) k = refl
  bind-after (no n) k = refl

  work_step : (o : ℕ) (ops vs : List ℕ) → code_in o < effects → work_out (sources_in e w) (o ∷ ops) vs ≡ after no (value_step (sources_in e w) o vs) (λ us. work_out (sources_in e w) ops us)
  unfolding work_out
  work_step o ops vs h = bind-after (value_step (sources_in e w) o vs) (λ us. work_out (sources_in e w) ops us)

  pub worked-out : (a : Expr) → FineExpr a → (vs : List ℕ) → work_out (sources_in e w) (values a) vs ≡ bind (eval e w a) (λ x. is (x ∷ vs))
  unfolding work_out
  worked-out a h vs =
      ap (λ ops. work_out (sources_in e w) ops vs) (sym (append-nil (values a)))
      ∙ values-put no e w (λ ops us. work_out (sources_in e w) ops us) work_step a h vs [] ∙ sym (bind-after (eval e w a) (λ x. is (x ∷ vs)))
