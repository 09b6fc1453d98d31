-- The parts of a relation have one derivation: two of one text that give one tree are made of the same productions, which take
-- the same words at the same places. Assumes nothing.
use Prim.Native.Nat.{ℕ, suc, ◌+◌, ◌≤◌}
use Prim.Native.String.{String}
use mathlib.Core.Path.{◌≡◌, refl, sym, ap, ◌∙◌}
use mathlib.Core.Bool.{Bool, true, false, true≢false}
use mathlib.Core.List.{List}
use native.Mathlib.Omega.{arith}
use borrow.Author.Tests.{eq-eqb}
use lib.Dec.{eqb}
use Rattle.nibl.specs.Words.{Token, variable, decimal, hex, string, sign, keywords, number, Word}
use Rattle.nibl.specs.Grammar.{Joints, factor_joints, term_joints, sum_joints, Key, May, no_word, a_word, Joint, joint, Factor, Term, Sum, Relation, a_variable, a_constant, a_hex, a_stat, a_top, in_brackets, a_byte, a_not, a_mod, a_factor, factors, a_term, less_term, terms, a_sum, related}
use Rattle.nibl.specs.Tree.{Op, Expr, var, const, stat, top, byte_at, invert, negate, modulo, two}
use Rattle.nibl.specs.Derivation.{Mark, took, of_may, of_joint, of_factor, of_term, of_sum, of_relation}
use Rattle.nibl.specs.found.Read.{Found, found, read, term as term_part, sum as sum_part}
use Rattle.nibl.proofs.Words.{word-complete}
use Rattle.nibl.proofs.Rules.{W}
use Rattle.nibl.proofs.Next.{next_is, next-at, ◌or◌, not_left, not_right, is_key, joins, joint-other}
use Rattle.nibl.proofs.Complete.{goes_on, unfit, unrelated, term-first, factors-stop, terms-stop, factor-complete, term-goes, sum_goes}

-- the same marks, and the same text behind them
abbrev pub Both : List Mark → List Mark → List ℕ → List ℕ → Type 0
Both m n s t = (m ≡ n) × (s ≡ t)

-- Words
pub word-one : (table : List (List ℕ)) {s t s' t' : List ℕ} {w v : Token} → s ≡ t → Word table s w s' → Word table t v t' → (w ≡ v) × (s' ≡ t')
word-one table h p q = let e = word-complete table p in let f = word-complete table q in (cc, cc)

pub taken : (table : List (List ℕ)) {s t s' t' : List ℕ} {w v : Token} → s ≡ t → (p : Word table s w s') (q : Word table t v t')
    → Both (took (Word table) p) (took (Word table) q) s' t'
taken table h p q = let o = word-one table h p q in let e = o.0 in let f = o.1 in (cc, f)

-- words that differ do not stand at one place
abbrev pub kind : Token → ℕ
kind (variable v) = 0
kind (decimal n) = 1
kind (hex n) = 2
kind (string bs) = 3
kind (sign k) = 4 + k

pub unlike : {A : Type 0} {s t s' t' : List ℕ} {w v : Token} → s ≡ t → W s w s' → W t v t' → eqb (kind w) (kind v) ≡ false → A
unlike {w} {v} h p q e = absurd (true≢false (sym (eq-eqb (kind w) (kind v) (ap kind (word-one keywords h p q).0)) ∙ e))

pub key-next : (name : String) {s t : List ℕ} → Key W name s t → next_is (is_key name) s ≡ true
key-next name k = next-at (is_key name) k ∙ eq-eqb (number name) (number name) refl

pub not-here : {A : Type 0} (p : Token → Bool) {s t : List ℕ} → s ≡ t → next_is p s ≡ true → next_is p t ≡ false → A
not-here p h e f = absurd (true≢false (sym e ∙ ap (next_is p) h ∙ f))

-- a word that may be left out, before one that it is not
pub may-one : (name : String) {s t u v : List ℕ} → s ≡ t → (m : May W name s u) (n : May W name t v) → next_is (is_key name) u ≡ false
    → next_is (is_key name) v ≡ false → Both (of_may W m) (of_may W n) u v
may-one name h no_word no_word f g = (refl, h)
may-one name h no_word (a_word k) f g = not-here (is_key name) (sym h) (key-next name k) f
may-one name h (a_word k) no_word f g = not-here (is_key name) h (key-next name k) g
may-one name h (a_word k) (a_word j) f g = let p = taken keywords h k j in (cc p.0, p.1)

joint-one : {js : Joints} {s t s' t' : List ℕ} {o q : Op} → s ≡ t → (j : Joint W js s o s') (i : Joint W js t q t') → Both (of_joint W j) (of_joint W i) s' t'
joint-one h (joint w e) (joint v f) = let p = taken keywords h w v in (cc p.0, p.1)

-- A tree is larger than its first operand, and what is read first is no larger than that
abbrev size : Expr → ℕ
size (var v) = 0
size (const n) = 0
size stat = 0
size top = 0
size (byte_at a) = suc (size a)
size (invert a) = suc (size a)
size (negate a) = suc (size a)
size (modulo a b) = suc (size a + size b)
size (two o a b) = suc (size a + size b)

found-size : {r r' : Found Expr} {a b : Expr} {s t : List ℕ} → r ≡ r' → r ≡ found a s → r' ≡ found b t → size a ≡ size b
found-size {a} {b} h e f = let i : a ≡ b = cc in ap size i

pub factor-ends : {s t s' t' : List ℕ} {a b : Expr} → s ≡ t → Factor W s a s' → Factor W t b t' → (a ≡ b) × (s' ≡ t')
factor-ends h f g = let e = factor-complete f in let i = factor-complete g in (cc, cc)

record FirstFactor (s : List ℕ) (a : Expr) : Type 0 where
  tree : Expr
  rest : List ℕ
  at : Factor W s tree rest
  small : size tree ≤ size a

first-factor : {s s' : List ℕ} {a : Expr} → Term W s a s' → FirstFactor s a
first-factor (a_factor {s'} {a} f) = record { tree = a; rest = s'; at = f; small = omega arith }
first-factor (factors x j f) = let g = first-factor x in record { tree = g.tree; rest = g.rest; at = g.at; small = omega (arith, g.small) }

-- a factor is no operand and more
no-factor : {A : Type 0} {s t s' t' : List ℕ} {o : Op} {a b : Expr} → s ≡ t → Factor W s (two o a b) s' → Term W t a t' → A
no-factor h f x = let g = first-factor x in absurd (omega (arith, ap size (factor-ends h f g.at).0, g.small))

-- with which sign a sum begins
data Lead (s : List ℕ) : List ℕ → Type 0 where
  plus_lead : {u : List ℕ} → May W "+" s u → Lead s u
  minus_lead : {u : List ℕ} → Key W "-" s u → Lead s u

record FirstTerm (s : List ℕ) (a : Expr) : Type 0 where
  start : List ℕ
  lead : Lead s start
  fit : next_is unfit start ≡ false
  tree : Expr
  rest : List ℕ
  at : read term_part start ≡ found tree rest
  small : size tree ≤ size a

first-term : {s s' : List ℕ} {a : Expr} → Sum W s a s' → next_is (joins factor_joints) s' ≡ false → FirstTerm s a
first-term (a_term {t} {s'} {a} m x) h =
    record { start = t; lead = plus_lead m; fit = term-first x; tree = a; rest = s'; at = term-goes x ∙ factors-stop a s' h; small = omega arith }
first-term (less_term {t} {s'} {a} k x) h =
    record { start = t; lead = minus_lead k; fit = term-first x; tree = a; rest = s'; at = term-goes x ∙ factors-stop a s' h; small = omega arith }
first-term (terms x j y) h =
    let f = first-term x (joint-other factor_joints refl j) in
    record { start = f.start; lead = f.lead; fit = f.fit; tree = f.tree; rest = f.rest; at = f.at; small = omega (arith, f.small) }

signless : (u : List ℕ) → next_is unfit u ≡ false → (next_is (is_key "-") u ≡ false) × (next_is (is_key "+") u ≡ false)
signless u h = let i = not_left (is_key "-" or is_key "+") unrelated u h in (not_left (is_key "-") (is_key "+") u i, not_right (is_key "-") (is_key "+") u i)

plus_one : {s t u v : List ℕ} → s ≡ t → (m : May W "+" s u) (n : May W "+" t v) → next_is unfit u ≡ false → next_is unfit v ≡ false → Both (of_may W m) (of_may W n) u v
plus_one {u} {v} h m n f g = may-one "+" h m n (signless u f).1 (signless v g).1

no_minus : {A : Type 0} {s t u v : List ℕ} → s ≡ t → May W "+" s u → next_is unfit u ≡ false → Key W "-" t v → A
no_minus h (no_word {s}) f k = not-here (is_key "-") (sym h) (key-next "-" k) (signless s f).0
no_minus h (a_word j) f k = unlike h j k refl

-- nor is a term
no-term : {A : Type 0} {s t u s' : List ℕ} {o : Op} {a b : Expr} → s ≡ t → May W "+" s u → next_is unfit u ≡ false → read term_part u ≡ found (two o a b) s' → FirstTerm t a → A
no-term {A} {t} {u} {o} {a} {b} h m e r f = go f.lead
  where
    go : Lead t f.start → A
    go (plus_lead n) = absurd (omega (arith, found-size (ap (read term_part) (plus_one h m n e f.fit).1) r f.at, f.small))
    go (minus_lead k) = no_minus h m e k

-- nor a sum
sum-read : {s s' : List ℕ} {a : Expr} → Sum W s a s' → next_is (joins factor_joints) s' ≡ false → next_is (joins term_joints) s' ≡ false → read sum_part s ≡ found a s'
sum-read {s'} {a} x f g = sum_goes x f ∙ terms-stop a s' g

no-sum : {A : Type 0} {s t s' t' u : List ℕ} {o q : Op} {a b : Expr} → s ≡ t → next_is (joins factor_joints) s' ≡ false → next_is (joins term_joints) s' ≡ false
    → Sum W s (two o a b) s' → Sum W t a t' → Joint W sum_joints t' q u → A
no-sum h f g x y j =
    absurd (omega (arith, found-size (ap (read sum_part) h) (sum-read x f g) (sum-read y (joint-other factor_joints refl j) (joint-other term_joints refl j))))

-- what goes on none of them goes on a relation
module _ (s : List ℕ) (h : next_is goes_on s ≡ false) where
  no-factors : next_is (joins factor_joints) s ≡ false
  no-factors = not_left (joins factor_joints) (joins term_joints) s (not_left (joins factor_joints or joins term_joints) (joins sum_joints) s h)

  no-terms : next_is (joins term_joints) s ≡ false
  no-terms = not_right (joins factor_joints) (joins term_joints) s (not_left (joins factor_joints or joins term_joints) (joins sum_joints) s h)

mutual
  pub factor-one : {s t s' t' : List ℕ} {a : Expr} → s ≡ t → (f : Factor W s a s') (g : Factor W t a t') → of_factor W f ≡ of_factor W g
  factor-one h (a_variable w) (a_variable v) = cc (taken keywords h w v).0
  factor-one h (a_variable w) (in_brackets k r j) = unlike h w k refl
  factor-one h (a_constant w) (a_constant v) = cc (taken keywords h w v).0
  factor-one h (a_constant w) (a_hex v) = unlike h w v refl
  factor-one h (a_constant w) (in_brackets k r j) = unlike h w k refl
  factor-one h (a_hex w) (a_constant v) = unlike h w v refl
  factor-one h (a_hex w) (a_hex v) = cc (taken keywords h w v).0
  factor-one h (a_hex w) (in_brackets k r j) = unlike h w k refl
  factor-one h (a_stat w) (a_stat v) = cc (taken keywords h w v).0
  factor-one h (a_stat w) (in_brackets k r j) = unlike h w k refl
  factor-one h (a_top w) (a_top v) = cc (taken keywords h w v).0
  factor-one h (a_top w) (in_brackets k r j) = unlike h w k refl
  factor-one h (in_brackets k r j) (a_variable w) = unlike h k w refl
  factor-one h (in_brackets k r j) (a_constant w) = unlike h k w refl
  factor-one h (in_brackets k r j) (a_hex w) = unlike h k w refl
  factor-one h (in_brackets k r j) (a_stat w) = unlike h k w refl
  factor-one h (in_brackets k r j) (a_top w) = unlike h k w refl
  factor-one h (in_brackets k r j) (in_brackets k' r' j') =
      let x = taken keywords h k k' in
      let y = relation-one x.1 r r' (next-at goes_on j) (next-at goes_on j') in
      cc (x.0, y.0, (taken keywords y.1 j j').0)
  factor-one h (in_brackets k r j) (a_byte w f) = unlike h k w refl
  factor-one h (in_brackets k r j) (a_not w f) = unlike h k w refl
  factor-one h (in_brackets k r j) (a_mod w i q c p l) = unlike h k w refl
  factor-one h (a_byte w f) (in_brackets k r j) = unlike h w k refl
  factor-one h (a_byte k f) (a_byte k' f') = let x = taken keywords h k k' in cc (x.0, factor-one x.1 f f')
  factor-one h (a_not w f) (in_brackets k r j) = unlike h w k refl
  factor-one h (a_not k f) (a_not k' f') = let x = taken keywords h k k' in cc (x.0, factor-one x.1 f f')
  factor-one h (a_mod w i q c p l) (in_brackets k r j) = unlike h w k refl
  factor-one h (a_mod k i r c q j) (a_mod k' i' r' c' q' j') =
      let x = taken keywords h k k' in
      let y = taken keywords x.1 i i' in
      let z = relation-one y.1 r r' (next-at goes_on c) (next-at goes_on c') in
      let u = taken keywords z.1 c c' in
      let v = relation-one u.1 q q' (next-at goes_on j) (next-at goes_on j') in
      cc (x.0, y.0, z.0, u.0, v.0, (taken keywords v.1 j j').0)

  term-one : {s t s' t' : List ℕ} {a : Expr} → s ≡ t → (x : Term W s a s') (y : Term W t a t') → Both (of_term W x) (of_term W y) s' t'
  term-one h (a_factor f) (a_factor g) = (cc (factor-one h f g), (factor-ends h f g).1)
  term-one h (a_factor f) (factors y i g) = no-factor h f y
  term-one h (factors x j f) (a_factor g) = no-factor (sym h) g x
  term-one h (factors x j f) (factors y i g) =
      let p = term-one h x y in
      let q = joint-one p.1 j i in
      (cc (p.0, q.0, factor-one q.1 f g), (factor-ends q.1 f g).1)

  sum_one : {s t s' t' : List ℕ} {a : Expr} → s ≡ t → (x : Sum W s a s') (y : Sum W t a t') → next_is (joins factor_joints) s' ≡ false
      → next_is (joins factor_joints) t' ≡ false → Both (of_sum W x) (of_sum W y) s' t'
  sum_one h (a_term m x) (a_term n y) f g =
      let p = plus_one h m n (term-first x) (term-first y) in
      let q = term-one p.1 x y in
      (cc (p.0, q.0), q.1)
  sum_one h (a_term m x) (less_term k y) f g = no_minus h m (term-first x) k
  sum_one h (a_term {s'} m x) (terms y j z) f g =
      no-term h m (term-first x) (term-goes x ∙ factors-stop _ s' f) (first-term y (joint-other factor_joints refl j))
  sum_one h (less_term k x) (a_term n y) f g = no_minus (sym h) n (term-first y) k
  sum_one h (less_term k x) (less_term j y) f g =
      let p = taken keywords h k j in
      let q = term-one p.1 x y in
      (cc (p.0, q.0), q.1)
  sum_one h (terms x j y) (a_term {s'} m z) f g =
      no-term (sym h) m (term-first z) (term-goes z ∙ factors-stop _ s' g) (first-term x (joint-other factor_joints refl j))
  sum_one h (terms x j y) (terms x' j' y') f g =
      let p = sum_one h x x' (joint-other factor_joints refl j) (joint-other factor_joints refl j') in
      let q = joint-one p.1 j j' in
      let r = term-one q.1 y y' in
      (cc (p.0, q.0, r.0), r.1)

  pub relation-one : {s t s' t' : List ℕ} {a : Expr} → s ≡ t → (r : Relation W s a s') (q : Relation W t a t') → next_is goes_on s' ≡ false
      → next_is goes_on t' ≡ false → Both (of_relation W r) (of_relation W q) s' t'
  relation-one {s'} {t'} h (a_sum x) (a_sum y) f g =
      let p = sum_one h x y (no-factors s' f) (no-factors t' g) in
      (cc p.0, p.1)
  relation-one {s'} h (a_sum x) (related y j z) f g = no-sum h (no-factors s' f) (no-terms s' f) x y j
  relation-one {t'} h (related x j y) (a_sum z) f g = no-sum (sym h) (no-factors t' g) (no-terms t' g) z x j
  relation-one {s'} {t'} h (related x j y) (related x' j' y') f g =
      let p = sum_one h x x' (joint-other factor_joints refl j) (joint-other factor_joints refl j') in
      let q = joint-one p.1 j j' in
      let r = sum_one q.1 y y' (no-factors s' f) (no-factors t' g) in
      (cc (p.0, q.0, r.0), r.1)
