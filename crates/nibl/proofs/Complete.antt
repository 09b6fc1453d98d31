-- What the grammar reads, the readers find, where no word follows that would go on. Assumes nothing.
use Prim.Native.Nat.{ℕ}
use mathlib.Core.Path.{◌≡◌, refl, ◌∙◌}
use mathlib.Core.Bool.{Bool, false}
use mathlib.Core.List.{List}
use Rattle.nibl.specs.Words.{Token}
use Rattle.nibl.specs.Grammar.{Joints, factor_joints, term_joints, sum_joints, May, no_word, a_word, Joint, Factor, Term, Sum, Relation, a_variable, a_constant, a_hex, a_stat, a_top, in_brackets, a_byte, a_not, a_mod, a_factor, factors, a_term, less_term, terms, a_sum, related}
use Rattle.nibl.specs.Tree.{Op, Expr, two, negate}
use Rattle.nibl.specs.found.Read.{found, Reader, give, ◌>>=◌, Part, factor as factor_part, term as term_part, sum as sum_part, relation as relation_part, factors as factors_part, terms as terms_part, factor_of, more_operands, read}
use Rattle.nibl.proofs.Rules.{W}
use Rattle.nibl.proofs.Sound.{read-factor, read-term, read-sum, read-relation, read-factors, read-terms, read-related}
use Rattle.nibl.proofs.Next.{next_is, next-at, ◌or◌, not_left, not_right, is_key, joins, is_string, word_at, key-at, key-not, then_at, joint-at, joint-not, joint-other}

-- a word that goes on a term, a sum, a relation
abbrev pub goes_on : Token → Bool
goes_on = joins factor_joints or joins term_joints or joins sum_joints

-- no factor begins with such a word
abbrev pub unfit : Token → Bool
unfit = is_key "-" or is_key "+" or (is_key "$" or is_string)

factor-first : {s s' : List ℕ} {a : Expr} → Factor W s a s' → next_is unfit s ≡ false
factor-first (a_variable w) = next-at unfit w
factor-first (a_constant w) = next-at unfit w
factor-first (a_hex w) = next-at unfit w
factor-first (a_stat k) = next-at unfit k
factor-first (a_top k) = next-at unfit k
factor-first (in_brackets k r j) = next-at unfit k
factor-first (a_byte k f) = next-at unfit k
factor-first (a_not k f) = next-at unfit k
factor-first (a_mod k i r c q j) = next-at unfit k

pub term-first : {s s' : List ℕ} {a : Expr} → Term W s a s' → next_is unfit s ≡ false
term-first (a_factor f) = factor-first f
term-first (factors t j f) = term-first t

-- nor a relation with one of these
abbrev pub unrelated : Token → Bool
unrelated = is_key "$" or is_string

sum_first : {s s' : List ℕ} {a : Expr} → Sum W s a s' → next_is unrelated s ≡ false
sum_first (a_term {s} no_word t) = not_right (is_key "-" or is_key "+") unrelated s (term-first t)
sum_first (a_term (a_word k) t) = next-at unrelated k
sum_first (less_term k t) = next-at unrelated k
sum_first (terms u j t) = sum_first u

pub relation-first : {s s' : List ℕ} {a : Expr} → Relation W s a s' → next_is unrelated s ≡ false
relation-first (a_sum u) = sum_first u
relation-first (related u j v) = sum_first u

-- the parts, a step at a time
factor-step : {s t : List ℕ} {w : Token} → W s w t → read factor_part s ≡ factor_of read w t
factor-step {s} w = read-factor s ∙ word_at (factor_of read) w

onward-stop : (js : Joints) (q : Part) (go : Expr → Reader Expr) (a : Expr) (s : List ℕ) → next_is (joins js) s ≡ false → more_operands read js q go a s ≡ found a s
onward-stop js q go a s h = rw (joint-not js s h)

onward-go : {js : Joints} (q : Part) (go : Expr → Reader Expr) (a : Expr) {o : Op} {b : Expr} {s t u : List ℕ} → Joint W js s o t → read q t ≡ found b u → more_operands read js q go a s ≡ go (two o a b) u
onward-go q go a j e = rw (joint-at j) (then_at (read q) _ _ e)

pub factors-stop : (a : Expr) (s : List ℕ) → next_is (joins factor_joints) s ≡ false → read (factors_part a) s ≡ found a s
factors-stop a s h = read-factors a s ∙ onward-stop factor_joints factor_part (λ b. read (factors_part b)) a s h

pub terms-stop : (a : Expr) (s : List ℕ) → next_is (joins term_joints) s ≡ false → read (terms_part a) s ≡ found a s
terms-stop a s h = read-terms a s ∙ onward-stop term_joints term_part (λ b. read (terms_part b)) a s h

-- a sum from its first term on
signed-step : (f : Expr → Expr) (s : List ℕ) {t : List ℕ} {a : Expr} → read term_part s ≡ found a t → (read term_part >>= (λ b. read (terms_part (f b)))) s ≡ read (terms_part (f a)) t
signed-step f s e = then_at (read term_part) (λ b. read (terms_part (f b))) s e

sum_step : {s t u : List ℕ} {a : Expr} → May W "+" s t → next_is unfit t ≡ false → read term_part t ≡ found a u → read sum_part s ≡ read (terms_part a) u
sum_step (no_word {s}) h e =
    let i = not_left (is_key "-" or is_key "+") unrelated s h in
    read-sum s ∙ key-not "-" _ _ s (not_left (is_key "-") (is_key "+") s i) ∙ key-not "+" _ _ s (not_right (is_key "-") (is_key "+") s i) ∙ signed-step (λ a. a) _ e
sum_step (a_word {s} k) h e = read-sum s ∙ key-not "-" _ _ s (next-at (is_key "-") k) ∙ key-at "+" _ _ k ∙ signed-step (λ a. a) _ e

abbrev factor_or_term : Token → Bool
factor_or_term = joins factor_joints or joins term_joints

mutual
  pub factor-complete : {s s' : List ℕ} {a : Expr} → Factor W s a s' → read factor_part s ≡ found a s'
  factor-complete (a_variable w) = factor-step w
  factor-complete (a_constant w) = factor-step w
  factor-complete (a_hex w) = factor-step w
  factor-complete (a_stat k) = factor-step k
  factor-complete (a_top k) = factor-step k
  factor-complete (in_brackets k r j) = factor-step k ∙ then_at (read relation_part) _ _ (relation-complete r (next-at goes_on j)) ∙ key-at ")" _ _ j
  factor-complete (a_byte k f) = factor-step k ∙ then_at (read factor_part) _ _ (factor-complete f)
  factor-complete (a_not k f) = factor-step k ∙ then_at (read factor_part) _ _ (factor-complete f)
  factor-complete (a_mod k i r c q j) =
      factor-step k ∙ key-at "(" _ _ i ∙ then_at (read relation_part) _ _ (relation-complete r (next-at goes_on c)) ∙ key-at "," _ _ c
      ∙ then_at (read relation_part) _ _ (relation-complete q (next-at goes_on j)) ∙ key-at ")" _ _ j

  -- what was read so far
  pub term-goes : {s s' : List ℕ} {a : Expr} → Term W s a s' → read term_part s ≡ read (factors_part a) s'
  term-goes (a_factor {s} f) = read-term s ∙ then_at (read factor_part) _ _ (factor-complete f)
  term-goes (factors {t} {a} x j f) = term-goes x ∙ read-factors a t ∙ onward-go factor_part (λ b. read (factors_part b)) a j (factor-complete f)

  pub sum_goes : {s s' : List ℕ} {a : Expr} → Sum W s a s' → next_is (joins factor_joints) s' ≡ false → read sum_part s ≡ read (terms_part a) s'
  sum_goes (a_term {s'} {a} m t) h = sum_step m (term-first t) (term-goes t ∙ factors-stop a s' h)
  sum_goes (less_term {s} {s'} {a} k t) h = read-sum s ∙ key-at "-" _ _ k ∙ signed-step negate _ (term-goes t ∙ factors-stop a s' h)
  sum_goes (terms {t} {s'} {a} {b} x j y) h =
      sum_goes x (joint-other factor_joints refl j) ∙ read-terms a t
      ∙ onward-go term_part (λ c. read (terms_part c)) a j (term-goes y ∙ factors-stop b s' h)

  pub relation-complete : {s s' : List ℕ} {a : Expr} → Relation W s a s' → next_is goes_on s' ≡ false → read relation_part s ≡ found a s'
  relation-complete (a_sum {s} {s'} {a} x) h =
      let i = not_left factor_or_term (joins sum_joints) s' h in
      read-relation s
      ∙ then_at (read sum_part) _ _ (sum_goes x (not_left (joins factor_joints) (joins term_joints) s' i) ∙ terms-stop a s' (not_right (joins factor_joints) (joins term_joints) s' i))
      ∙ read-related a s' ∙ onward-stop sum_joints sum_part give a s' (not_right factor_or_term (joins sum_joints) s' h)
  relation-complete (related {s} {t} {s'} {a} {b} x j y) h =
      let i = not_left factor_or_term (joins sum_joints) s' h in
      read-relation s ∙ then_at (read sum_part) _ _ (sum_goes x (joint-other factor_joints refl j) ∙ terms-stop a t (joint-other term_joints refl j))
      ∙ read-related a t
      ∙ onward-go sum_part give a j
      (sum_goes y (not_left (joins factor_joints) (joins term_joints) s' i) ∙ terms-stop b s' (not_right (joins factor_joints) (joins term_joints) s' i))
