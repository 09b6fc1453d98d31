-- What the readers find is a reading, and the bound of a reader does not matter. Assumes nothing.
use Prim.Native.Nat.{ℕ, zero, suc, ◌+◌, ◌*◌, ◌≤◌, ◌<◌}
use Prim.Native.String.{String}
use mathlib.Core.Path.{◌≡◌}
use mathlib.Core.List.{List}
use native.Mathlib.Omega.{arith}
use lib.ListN.{length}
use Rattle.nibl.specs.Words.{Token, variable, decimal, hex, string, sign}
use Rattle.nibl.specs.Grammar.{Joints, factor_joints, term_joints, sum_joints, May, no_word, a_word, Joint, joint, Factor, Term, Sum, Relation, a_variable, a_constant, a_hex, a_stat, a_top, in_brackets, a_byte, a_not, a_mod, a_factor, factors, a_term, less_term, terms, a_sum, related}
use Rattle.nibl.specs.Tree.{Op, Expr, negate, two}
use Rattle.nibl.specs.found.Read.{Reader, give, by_word, if_key, may, ◌>>=◌, Part, factor as factor_part, term as term_part, sum as sum_part, relation as relation_part, factors as factors_part, terms as terms_part, related as related_part, factor_cases, factor_of, more_operands, part, read_n, rank, read}
use Rattle.nibl.proofs.Over.{Outside, here, outside_trans, outside-length, Over, ◌⨾◌, word_over}
use Rattle.nibl.proofs.Rules.{same, W, Same, neither, gives, by-word, or-else, and-then, as-so, Cases, no_more, ◌and◌, chosen, Case, if-key, by_key, by_may, joint-same}

-- A reading is not empty
pub may-out : {name : String} {s s' : List ℕ} → May W name s s' → Outside s s'
may-out no_word = here
may-out (a_word k) = (word_over k).out

-- what may be empty, before what is not
pub onto : {s t u : List ℕ} → Outside s t → Over t u → Over s u
onto p q = record { out = outside_trans p q.out; short = omega (arith, outside-length p) }

joint-over : {js : Joints} {o : Op} {s s' : List ℕ} → Joint W js s o s' → Over s s'
joint-over (joint w e) = word_over w

mutual
  pub factor-over : {s s' : List ℕ} {a : Expr} → Factor W s a s' → Over s s'
  factor-over (a_variable w) = word_over w
  factor-over (a_constant w) = word_over w
  factor-over (a_hex w) = word_over w
  factor-over (a_stat k) = word_over k
  factor-over (a_top k) = word_over k
  factor-over (in_brackets k r j) = word_over k ⨾ relation-over r ⨾ word_over j
  factor-over (a_byte k f) = word_over k ⨾ factor-over f
  factor-over (a_not k f) = word_over k ⨾ factor-over f
  factor-over (a_mod k i r c q j) = word_over k ⨾ word_over i ⨾ relation-over r ⨾ word_over c ⨾ relation-over q ⨾ word_over j

  pub term-over : {s s' : List ℕ} {a : Expr} → Term W s a s' → Over s s'
  term-over (a_factor f) = factor-over f
  term-over (factors t j f) = term-over t ⨾ joint-over j ⨾ factor-over f

  pub sum_over : {s s' : List ℕ} {a : Expr} → Sum W s a s' → Over s s'
  sum_over (a_term m t) = onto (may-out m) (term-over t)
  sum_over (less_term k t) = word_over k ⨾ term-over t
  sum_over (terms u j t) = sum_over u ⨾ joint-over j ⨾ term-over t

  pub relation-over : {s s' : List ℕ} {a : Expr} → Relation W s a s' → Over s s'
  relation-over (a_sum u) = sum_over u
  relation-over (related u j v) = sum_over u ⨾ joint-over j ⨾ sum_over v

-- What a part finds at s. The last three say what they make of a reading that ends at s.
abbrev pub Reads : Part → List ℕ → Expr → List ℕ → Type 0
Reads factor_part s a s' = Factor W s a s'
Reads term_part s a s' = Term W s a s'
Reads sum_part s a s' = Sum W s a s'
Reads relation_part s a s' = Relation W s a s'
Reads (factors_part b) s a s' = Outside s s' × ((r : List ℕ) → Term W r b s → Term W r a s')
Reads (terms_part b) s a s' = Outside s s' × ((r : List ℕ) → Sum W r b s → Sum W r a s')
Reads (related_part b) s a s' = Outside s s' × ((r : List ℕ) → Sum W r b s → Relation W r a s')

abbrev pub measure : Part → List ℕ → ℕ
measure p s = 4 * length s + rank p

rank-le : (p : Part) → rank p ≤ 3
rank-le factor_part = omega arith
rank-le term_part = omega arith
rank-le sum_part = omega arith
rank-le relation_part = omega arith
rank-le (factors_part a) = omega arith
rank-le (terms_part a) = omega arith
rank-le (related_part a) = omega arith

module _ (rd rd' : Part → Reader Expr) where
  -- the two agree, and are sound, where less than n is left
  abbrev Below : ℕ → Type 0
  Below n = (p : Part) (s : List ℕ) → measure p s < n → Same (Reads p s) (rd p s) (rd' p s)

  factor-cases : (s t : List ℕ) → Below (4 * length s) → length t < length s → Cases (Case (Factor W s) s t) (factor_cases rd) (factor_cases rd')
  unfolding ◌>>=◌
  factor-cases s t h l =
      (λ k. gives (a_stat k)) and (λ k. gives (a_top k))
      and (λ k. and-then (h relation_part t (omega arith)) (λ a u r. by_key ")" u (λ v j. gives (in_brackets k r j))))
      and (λ k. and-then (h factor_part t (omega arith)) (λ a u f. gives (a_byte k f)))
      and (λ k. and-then (h factor_part t (omega arith)) (λ a u f. gives (a_not k f)))
      and (λ k. by_key "(" t (λ u i.
      and-then (h relation_part u (omega (arith, (word_over i).short))) (λ a v r.
      by_key "," v (λ x c.
      and-then (h relation_part x (omega (arith, (word_over i).short, (relation-over r).short, (word_over c).short))) (λ b y q.
      by_key ")" y (λ z j. gives (a_mod k i r c q j)))))))
      and no_more

  factor-same : (s : List ℕ) → Below (4 * length s) → (w : Token) (t : List ℕ) → W s w t → Same (Factor W s) (factor_of rd w t) (factor_of rd' w t)
  factor-same s h (variable v) t w = gives (a_variable w)
  factor-same s h (decimal n) t w = gives (a_constant w)
  factor-same s h (hex n) t w = gives (a_hex w)
  factor-same s h (string bs) t w = neither
  factor-same s h (sign k) t w = chosen k (factor-cases s t h (word_over w).short) (λ _. neither) w

  -- one more operand and what follows it; or none
  joined-on-same : (p q : Part) (js : Joints) (go go' : Expr → Reader Expr) (a : Expr) (s : List ℕ) → Reads p s a s
      → ((o : Op) (b : Expr) (t u : List ℕ) → Joint W js s o t → Reads q t b u → Same (Reads p s) (go (two o a b) u) (go' (two o a b) u))
      → Below (4 * length s) → Same (Reads p s) (more_operands rd js q go a s) (more_operands rd' js q go' a s)
  unfolding ◌>>=◌
  joined-on-same p q js go go' a s z f h =
      or-else _ _ s (joint-same js s) (λ o t j. and-then (h q t (omega (arith, rank-le q, (joint-over j).short))) (λ b u r. f o b t u j r)) (gives z)

  part_same : (p : Part) (s : List ℕ) → Below (measure p s) → Same (Reads p s) (part rd p s) (part rd' p s)
  unfolding part ◌>>=◌
  part_same factor_part s h = by-word s (factor-same s (λ p t l. h p t (omega arith)))
  part_same term_part s h =
      and-then (h factor_part s (omega arith)) (λ a t f. as-so (λ b u r. r.1 s (a_factor f)) (h (factors_part a) t (omega (arith, (factor-over f).short))))
  part_same sum_part s h =
      let go : (f : Expr → Expr) (t : List ℕ) → length t ≤ length s → ((a : Expr) (u : List ℕ) → Term W t a u → Sum W s (f a) u)
      → Same (Sum W s) ((rd term_part >>= (λ a. rd (terms_part (f a)))) t) ((rd' term_part >>= (λ a. rd' (terms_part (f a)))) t) =
      λ f t l g. and-then (h term_part t (omega arith)) (λ a u r. as-so (λ b v q. q.1 s (g a u r)) (h (terms_part (f a)) u (omega (arith, (term-over r).short)))) in
      if-key "-" s _ _ (λ t k. go negate t (omega (arith, (word_over k).short)) (λ a u r. less_term k r))
      (by_may "+" s (λ t m. go (λ a. a) t (outside-length (may-out m)) (λ a u r. a_term m r)))
  part_same relation_part s h =
      and-then (h sum_part s (omega arith)) (λ a t u. as-so (λ b v r. r.1 s u) (h (related_part a) t (omega (arith, (sum_over u).short))))
  part_same (factors_part a) s h =
      joined-on-same (factors_part a) factor_part factor_joints (λ b. rd (factors_part b)) (λ b. rd' (factors_part b)) a s (here, λ r t. t)
      (λ o b t u j f.
      let l = (joint-over j ⨾ factor-over f) in
      as-so (λ c v q. (outside_trans l.out q.0, λ r x. q.1 r (factors x j f))) (h (factors_part (two o a b)) u (omega arith)))
      (λ p t l. h p t (omega arith))
  part_same (terms_part a) s h =
      joined-on-same (terms_part a) term_part term_joints (λ b. rd (terms_part b)) (λ b. rd' (terms_part b)) a s (here, λ r t. t)
      (λ o b t u j f.
      let l = (joint-over j ⨾ term-over f) in
      as-so (λ c v q. (outside_trans l.out q.0, λ r x. q.1 r (terms x j f))) (h (terms_part (two o a b)) u (omega arith)))
      (λ p t l. h p t (omega arith))
  part_same (related_part a) s h =
      joined-on-same (related_part a) sum_part sum_joints give give a s (here, λ r u. a_sum u)
      (λ o b t u j f. gives ((joint-over j ⨾ sum_over f).out, λ r x. related x j f))
      (λ p t l. h p t (omega arith))

-- any two bounds that suffice
read_n-same : (k k' : ℕ) (p : Part) (s : List ℕ) → measure p s < k → measure p s < k' → Same (Reads p s) (read_n k p s) (read_n k' p s)
unfolding read_n
read_n-same zero k' p s h h' = absurd (omega arith)
read_n-same (suc k) zero p s h h' = absurd (omega arith)
read_n-same (suc k) (suc k') p s h h' = part_same (read_n k) (read_n k') p s (λ q t l. read_n-same k k' q t (omega arith) (omega arith))

pub read_n-eq : (k : ℕ) (p : Part) (s : List ℕ) → measure p s < k → read_n k p s ≡ read p s
unfolding read
read_n-eq k p s h = same (read_n-same k (suc (measure p s)) p s h (omega arith))

-- The reader without a bound: `read` meets its own equation
pub read-eq : (p : Part) (s : List ℕ) → read p s ≡ part read p s
read-eq p s =
    let m = measure p s in
    unfold read read_n in (same (part_same (read_n m) read p s (λ q t l. read_n-same m (suc (measure q t)) q t l (omega arith))))

pub read_same : (p : Part) (s : List ℕ) → Same (Reads p s) (read p s) (read p s)
unfolding read
read_same p s = read_n-same (suc (measure p s)) (suc (measure p s)) p s (omega arith) (omega arith)

-- and so part by part
pub read-factor : (s : List ℕ) → read factor_part s ≡ by_word (factor_of read) s
unfolding part
read-factor s = read-eq factor_part s

pub read-term : (s : List ℕ) → read term_part s ≡ (read factor_part >>= (λ a. read (factors_part a))) s
unfolding part
read-term s = read-eq term_part s

pub read-sum : (s : List ℕ)
    → read sum_part s ≡ if_key "-" (read term_part >>= (λ a. read (terms_part (negate a)))) (may "+" (read term_part >>= (λ a. read (terms_part a)))) s
unfolding part
read-sum s = read-eq sum_part s

pub read-relation : (s : List ℕ) → read relation_part s ≡ (read sum_part >>= (λ a. read (related_part a))) s
unfolding part
read-relation s = read-eq relation_part s

pub read-factors : (a : Expr) (s : List ℕ) → read (factors_part a) s ≡ more_operands read factor_joints factor_part (λ b. read (factors_part b)) a s
unfolding part
read-factors a s = read-eq (factors_part a) s

pub read-terms : (a : Expr) (s : List ℕ) → read (terms_part a) s ≡ more_operands read term_joints term_part (λ b. read (terms_part b)) a s
unfolding part
read-terms a s = read-eq (terms_part a) s

pub read-related : (a : Expr) (s : List ℕ) → read (related_part a) s ≡ more_operands read sum_joints sum_part give a s
unfolding part
read-related a s = read-eq (related_part a) s
