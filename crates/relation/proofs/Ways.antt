-- One law for each way out of the readers of a relation. Assumes nothing.
use Rattle.std.specs.Prelude.{Option, None, Some}
use Prim.Native.Nat.{ℕ, suc, ◌+◌, ◌≤◌}
use mathlib.Core.Path.{◌≡◌, refl, sym, ap, ◌∙◌}
use mathlib.Core.List.{List, [], ◌∷◌, ◌++◌}
use native.Mathlib.Nat.{add-zero}
use native.Mathlib.Numerals.{add-one}
use native.Mathlib.Omega.{arith}
use lib.ListN.{length, drop}
use Rattle.nibl.specs.Words.{number}
use Rattle.nibl.specs.Grammar.{Joints}
use Rattle.nibl.specs.Tree.{Op, Expr, negate, modulo, two}
use Rattle.nibl.specs.found.Read.{Reader, a_joint, or_else, more_operands, give, key, ◌>>=◌, Part, read, factor, term, sum, relation, terms, related}
use Rattle.nibl.proofs.Sound.{read-relation}
use Rattle.relation.specs.Code.{values}
use Rattle.codes.specs.Codes.{op, code_operator, code_negate, code_mod}
use Rattle.codes.specs.Operators.{op_number}
use Rattle.relation.specs.Makes.{ahead, need, Written, stopped, refused, Reads, Makes, Leads, onto, only, Over, Stood, stood, Absent, absent, KeyIs, waiting, Settles, nothing_waits, plainly, negated, bracketing, seconding, pairing}
use Rattle.relation.specs.Made.{Made}
use Rattle.relation.proofs.Readers.{mapped, keyed}
use Rattle.relation.proofs.Signs.{stood-over}
use Rattle.relation.proofs.States.{over-few, key-low, key-spare, key-few, written-ahead, written-need, settles-ahead, settles-need, settles-written, chain, closing, led, same, idle, single, signed, opened}

none_some : {v : ℕ} → ◌≡◌ {A = Option ℕ} None (Some v) → ⊥
none_some e = let z : ◌≡◌ {A = ℕ} 0 1 = cc in omega arith

-- an operator's operation is not 0, which is none
pub joint-waits : {v : ℕ} (q : Op) → v ≡ op code_operator (op_number q) → v ≡ 0 → ⊥
joint-waits q e z = omega arith

-- the operations of a reading
two-code : {v : ℕ} (q : Op) → v ≡ op code_operator (op_number q) → (a b : Expr) → values (two q a b) ≡ values a ++ (values b ++ (v ∷ []))
unfolding values
two-code q e a b = rw e

negate-code : (a : Expr) → values (negate a) ≡ values a ++ (op code_negate 0 ∷ [])
unfolding values
negate-code a = refl

modulo-code : (a b : Expr) → values (modulo a b) ≡ values a ++ (values b ++ (op code_mod 0 ∷ []))
unfolding values
modulo-code a b = refl

-- P stands from r₀ on, and its next operand, a part p, from s on, with the operation w that waits for it: with both, and with what R reads
-- behind them, P is read
pub record Waiting (P : Reader Expr) (p : Part) (R : Expr → Reader Expr) (text ops₀ : List ℕ) (r₀ : Made) (ops : List ℕ) (s : Made) (w : Option ℕ) : Type 0 where
  pub low : ahead text s ≤ ahead text r₀
  pub few : (k : ℕ) → need (k + waiting w) text s ≤ need k text r₀
  pub size : length ops ≡ length ops₀
  pub on : (ops1 ops2 ops3 : List ℕ) (f g t : Made) → Makes (read p) values text ops s ops1 f → Settles ops1 w f ops2 g → Reads R values values text ops2 g ops3 t
      → Makes P values text ops₀ r₀ ops3 t

-- The first sum of a relation, or the one that it is compared with
pub record Relating (text ops₀ : List ℕ) (r₀ : Made) (ops : List ℕ) (s : Made) (w : Option ℕ) : Type 0 where
  pub low : ahead text s ≤ ahead text r₀
  pub few : (k : ℕ) → need (k + waiting w) text s ≤ need k text r₀
  pub size : length ops ≡ length ops₀
  pub first : w ≡ None → Waiting (read relation) sum (λ a. read (related a)) text ops₀ r₀ ops s w
  pub second : {v : ℕ} → w ≡ Some v → Waiting (read relation) sum give text ops₀ r₀ ops s w

-- the first word of a factor was read up to m, and R reads the rest
pub record Begun (R : Reader Expr) (text : List ℕ) (r m : Made) : Type 0 where
  pub leads : Leads (only (read factor)) (only R) text r m
  pub over : Over text r m

module _ {text : List ℕ} where
  -- a reader, and what follows what it reads
  pub sequel : {A B : Type 0} {F : Reader A} {Q : A → Reader B} {P : Reader B} {code : A → List ℕ} {code' : B → List ℕ} {ops ops1 ops2 : List ℕ} {r s t : Made}
      → ((s : List ℕ) → P s ≡ (F >>= Q) s) → Makes F code text ops r ops1 s → Reads Q code code' text ops1 s ops2 t → Makes P code' text ops r ops2 t
  sequel e a b = record { low = omega arith; few = λ k. omega (arith, a.few k, b.few k); gives = same (λ x s. e s) (chain a.gives b.gives) }

  pub resting : {A : Type 0} {code : A → List ℕ} {ops : List ℕ} (s : Made) → Reads give code code text ops s ops s
  resting s = record { low = omega arith; few = λ k. omega arith; gives = idle s }

  -- no reading is passed on
  pub no-reading : {X A : Type 0} {R : X → Reader A} {pre : X → List ℕ} {code : A → List ℕ} {ops : List ℕ} {r : Made} → r ≡ None → Reads R pre code text ops r ops None
  no-reading e = rw e record { low = omega arith; few = λ k. omega arith; gives = stopped }

  -- What is joined to an operand
  module _ (js : Joints) (p : Part) (R go : Expr → Reader Expr) (law : (a : Expr) (s : List ℕ) → R a s ≡ more_operands read js p go a s) where
    joint-leads : {q : Op} {r m : Made} → Stood (a_joint js) q text r m → Leads R (λ a. read p >>= (λ b. go (two q a b))) text r m
    joint-leads (stood {c} e l h) =
        onto (λ a. law a (drop c.at text) ∙ ap (λ f. or_else f (λ q. read p >>= (λ b. go (two q a b))) (give a) (drop c.at text)) e) (λ i. h)

    alone-leads : {r : Made} → Absent (a_joint js) text r → Leads R give text r r
    alone-leads stopped = stopped
    alone-leads (absent {c} e) =
        onto (λ a. law a (drop c.at text) ∙ ap (λ f. or_else f (λ q. read p >>= (λ b. go (two q a b))) (give a) (drop c.at text)) e) (λ i. i)

    join-on : {ops ops1 ops2 ops3 : List ℕ} {r m s t u : Made} {v : ℕ} (q : Op) → v ≡ op code_operator (op_number q) → Stood (a_joint js) q text r m
        → Makes (read p) values text ops m ops1 s → Written v ops1 s ops2 t → Reads go values values text ops2 t ops3 u → Reads R values values text ops r ops3 u
    join-on q e j y w z =
        let o = stood-over j in
        record {
          low = omega (arith, written-ahead w text);
          few = λ k. omega (arith, o.spare k, y.few (suc k), written-need w text k, z.few k);
          gives = led (joint-leads j) (same (λ a s. mapped (read p) (two q a) go s) (chain (closing (two q) (two-code q e) y.gives w) z.gives));
        }

    join-end : {ops : List ℕ} {r : Made} → Absent (a_joint js) text r → Reads R values values text ops r ops r
    join-end h = record { low = omega arith; few = λ k. omega arith; gives = led (alone-leads h) (idle _) }

  module _ {P : Reader Expr} (p : Part) {R : Expr → Reader Expr} where
    -- the first operand, for which nothing waits
    first_on : ((s : List ℕ) → P s ≡ (read p >>= R) s) → {ops ops1 ops2 ops3 : List ℕ} {r f g t : Made} → Makes (read p) values text ops r ops1 f → Settles ops1 None f ops2 g
        → Reads R values values text ops2 g ops3 t → Makes P values text ops r ops3 t
    first_on law y stopped x = sequel law y x
    first_on law y nothing_waits x = sequel law y x

    pub waiting-first : ((s : List ℕ) → P s ≡ (read p >>= R) s) → (ops : List ℕ) (r : Made) → Waiting P p R text ops r ops r None
    waiting-first law ops r =
        record { low = omega arith; few = λ k. rw add-zero (omega arith); size = refl; on = λ ops1 ops2 ops3 f g t y s x. first_on law y s x }

  module _ {P : Reader Expr} {p : Part} {R : Expr → Reader Expr} where
    module _ {ops₀ ops ops1 ops2 : List ℕ} {r₀ s f g : Made} {w : Option ℕ} (h : Waiting P p R text ops₀ r₀ ops s w) (y : Makes (read p) values text ops s ops1 f) (z : Settles ops1 w f ops2 g) where
      -- another operand is joined to it, and behind that goes what `go` reads
      pub waiting-on : (js : Joints) (go : Expr → Reader Expr) → ((a : Expr) (s : List ℕ) → R a s ≡ more_operands read js p go a s) → {m : Made} {v : ℕ} (q : Op)
          → v ≡ op code_operator (op_number q) → Stood (a_joint js) q text g m → length ops2 ≡ length ops → Waiting P p go text ops₀ r₀ ops2 m (Some v)
      waiting-on js go law {m} {v} q e j l =
          let o = stood-over j in
          record {
            low = omega (arith, h.low, y.low, o.low, settles-ahead z text);
            few = λ k. rw add-one (omega (arith, h.few k, y.few (k + waiting w), settles-need z text k, o.spare k));
            size = l ∙ h.size;
            on = λ ops3 ops4 ops5 f' g' t y' z' x. h.on _ _ _ _ _ _ y z (join-on js p R go law q e j y' (settles-written z') x);
          }

      -- none is
      pub waiting-end : (js : Joints) (go : Expr → Reader Expr) → ((a : Expr) (s : List ℕ) → R a s ≡ more_operands read js p go a s) → Absent (a_joint js) text g
          → Makes P values text ops₀ r₀ ops2 g
      waiting-end js go law a = h.on _ _ _ _ _ _ y z (join-end js p R go law a)

      -- or nothing may be
      pub waiting-last : ((a : Expr) (s : List ℕ) → R a s ≡ give a s) → Makes P values text ops₀ r₀ ops2 g
      waiting-last law = h.on _ _ _ _ _ _ y z (record { low = omega arith; few = λ k. omega arith; gives = same law (idle g) })

    pub waiting_none : {ops₀ ops ops1 ops2 : List ℕ} {r₀ s f : Made} {w : Option ℕ} → Waiting P p R text ops₀ r₀ ops s w → Makes (read p) values text ops s ops1 f
        → Settles ops1 w f ops2 None → Makes P values text ops₀ r₀ ops2 None
    waiting_none h y z = h.on _ _ _ _ _ _ y z (no-reading refl)

    -- there is no operand
    pub waiting-stop : {ops₀ ops ops1 : List ℕ} {r₀ s : Made} {w : Option ℕ} → Waiting P p R text ops₀ r₀ ops s w → Makes (read p) values text ops s ops1 None
        → Makes P values text ops₀ r₀ ops1 None
    waiting-stop h y = h.on _ _ _ _ _ _ y stopped (no-reading refl)

  -- The sums of a relation
  pub relating-first : (ops : List ℕ) (r : Made) → Relating text ops r ops r None
  relating-first ops r =
      let h = waiting-first sum read-relation ops r in
      record { low = h.low; few = h.few; size = h.size; first = λ e. h; second = λ e. absurd (none_some e) }

  pub relating-second : {ops₀ ops : List ℕ} {r₀ s : Made} {v : ℕ} → Waiting (read relation) sum give text ops₀ r₀ ops s (Some v) → Relating text ops₀ r₀ ops s (Some v)
  relating-second h = record { low = h.low; few = h.few; size = h.size; first = λ e. absurd (none_some (sym e)); second = λ e. h }

  pub relating-stop : {ops₀ ops ops1 : List ℕ} {r₀ s : Made} {w : Option ℕ} → Relating text ops₀ r₀ ops s w → Makes (read sum) values text ops s ops1 None
      → Makes (read relation) values text ops₀ r₀ ops1 None
  relating-stop {w = None} h y = waiting-stop (h.first refl) y
  relating-stop {w = Some v} h y = waiting-stop (h.second refl) y

  -- The first term of a sum
  module _ {ops : List ℕ} {r m : Made} where
    pub waiting-plain : Leads (only (read sum)) (only plainly) text r m → ahead text m ≤ ahead text r → ((k : ℕ) → need k text m ≤ need k text r)
        → Waiting (read sum) term (λ a. read (terms a)) text ops r ops m None
    waiting-plain l a n =
        record {
          low = a;
          few = λ k. rw add-zero (n k);
          size = refl;
          on = λ ops1 ops2 ops3 f g t y z x.
              let u : Makes plainly values text ops m ops3 t = first_on term (λ s. refl) y z x in
              record { low = omega (arith, u.low); few = λ k. omega (arith, n k, u.few k); gives = led l u.gives };
        }

    pub waiting-minus : Leads (only (read sum)) (only negated) text r m → Over text r m → Waiting (read sum) term (λ a. read (terms a)) text ops r ops m (Some (op code_negate 0))
    waiting-minus l o =
        record {
          low = omega (arith, o.low);
          few = λ k. rw add-one (o.spare k);
          size = refl;
          on = λ ops1 ops2 ops3 f g t y z x.
              let w = settles-written z in
              record {
                low = omega (arith, o.low, y.low, written-ahead w text, x.low);
                few = λ k. omega (arith, o.spare k, y.few (suc k), written-need w text k, x.few k);
                gives = led l (same (λ u s. mapped (read term) negate (λ a. read (terms a)) s) (chain (closing (λ u a. negate a) (λ u a. negate-code a) y.gives w) x.gives));
              };
        }

  -- The factor
  pub factor-none : {ops : List ℕ} {r : Made} → Absent (read factor) text r → Makes (read factor) values text ops r ops None
  factor-none stopped = record { low = omega arith; few = λ k. omega arith; gives = stopped }
  factor-none (absent e) = record { low = omega arith; few = λ k. omega arith; gives = refused (λ x. e) }

  pub factor-whole : {ops ops1 : List ℕ} {r m s : Made} {v : ℕ} (a : Expr) → values a ≡ v ∷ [] → Begun (give a) text r m → Written v ops m ops1 s → Makes (read factor) values text ops r ops1 s
  factor-whole a e b w =
      let o = b.over in
      record {
        low = omega (arith, written-ahead w text);
        few = λ k. omega (arith, o.spare k, written-need w text k);
        gives = led b.leads (single a e w);
      }

  pub factor-prefix : {ops ops1 ops2 : List ℕ} {r m s t : Made} {v : ℕ} (f : Expr → Expr) → ((a : Expr) → values (f a) ≡ values a ++ (v ∷ []))
      → Begun (read factor >>= (λ a. give (f a))) text r m → Makes (read factor) values text ops m ops1 s → Settles ops1 (Some v) s ops2 t → Makes (read factor) values text ops r ops2 t
  factor-prefix f c b y z =
      let o = b.over in
      let w = settles-written z in
      record {
        low = omega (arith, written-ahead w text);
        few = λ k. omega (arith, o.spare k, y.few (suc k), written-need w text k);
        gives = led b.leads (closing (λ x a. f a) (λ x a. c a) y.gives w);
      }

  pub factor-bracket : {ops ops1 : List ℕ} {r m s t : Made} → Begun bracketing text r m → Makes (read relation) values text ops m ops1 s → KeyIs (number ")") text s t
      → Makes (read factor) values text ops r ops1 t
  factor-bracket b y k =
      let o = b.over in
      record {
        low = omega (arith, key-low k);
        few = λ j. omega (arith, over-few o j, y.few j, key-few k j);
        gives = led b.leads (chain y.gives (signed ")" k));
      }

  -- the two relations of MOD
  pub pair_is : {ops ops1 ops2 ops3 : List ℕ} {m a b d e f g : Made} → KeyIs (number "(") text m a → Makes (read relation) values text ops a ops1 b → KeyIs (number ",") text b d
      → Makes (read relation) values text ops1 d ops2 e → KeyIs (number ")") text e f → Written (op code_mod 0) ops2 f ops3 g → Makes pairing values text ops m ops3 g
  pair_is i y j z k w =
      record {
        low = omega (arith, key-low i, key-low j, key-low k, written-ahead w text);
        few = λ n. omega (arith, key-few i n, y.few n, key-spare j n, z.few (suc n), key-few k (suc n), written-need w text n);
        gives =
            led (opened "(" (read relation >>= (λ a. key "," (seconding a))) i)
            (same (λ x s. keyed "," (read relation) seconding s)
            (chain (chain y.gives (signed "," j))
            (same (λ a s. keyed ")" (read relation) (λ b. give (modulo a b)) s) (closing modulo modulo-code (chain z.gives (signed ")" k)) w))));
      }

  -- the first "(" is missing, or what follows a relation
  pub pair-unopened : {ops : List ℕ} {m : Made} → KeyIs (number "(") text m None → Makes pairing values text ops m ops None
  pair-unopened i = pair_is i (no-reading refl) stopped (no-reading refl) stopped stopped

  pub pair-half : {ops ops1 : List ℕ} {m a b : Made} → KeyIs (number "(") text m a → Makes (read relation) values text ops a ops1 b → KeyIs (number ",") text b None
      → Makes pairing values text ops m ops1 None
  pair-half i y j = pair_is i y j (no-reading refl) stopped stopped

  pub factor-pair : {ops ops1 : List ℕ} {r m s : Made} → Begun pairing text r m → Makes pairing values text ops m ops1 s → Makes (read factor) values text ops r ops1 s
  factor-pair b y =
      let o = b.over in
      record { low = omega arith; few = λ k. omega (arith, over-few o k, y.few k); gives = led b.leads y.gives }
