-- Statements: what the readers find is a reading, and no bound matters. Assumes nothing.
use Prim.Native.Nat.{ℕ, zero, suc, ◌<◌}
use Prim.Native.String.{String}
use mathlib.Core.Path.{◌≡◌}
use mathlib.Core.Bool.{Bool}
use mathlib.Core.List.{List, [], ◌∷◌}
use native.Mathlib.Omega.{arith}
use lib.ListN.{length}
use Rattle.nibl.specs.Bytes.{is_text, All, all}
use Rattle.nibl.specs.Words.{Token, variable, decimal, hex, string, sign}
use Rattle.nibl.specs.Grammar.{Key, May, no_word, a_word, Relation, Either, whole, parted, PrintWord, short_print, long_print, AnItem, a_string, a_stored, a_value, Items, one_item, more_items, LastSemicolon, no_semicolon, a_semicolon, AStep, no_step, some_step, Variables, one_variable, more_variables}
use Rattle.nibl.specs.Grammar.{Statement, a_let_var, a_let_stat, a_let_byte, a_let_text, a_let_copy, a_goto, a_gosub, a_return, a_print, an_if, a_do, an_until, a_for, a_next, an_input, an_input_text, a_remark, an_end}
use Rattle.nibl.specs.Tree.{Expr, Item, stored, value, Stmt, let_var, let_stat, let_byte, let_copy, goto, gosub, until, for, input_text}
use Rattle.nibl.specs.found.Read.{Reader, give, ◌>>=◌, if_key, Part, relation, factor, read, assigned, let_cases, let_of, an_item, joined_n, joined, printing, for_to, inputting, remarking, statement_cases, statement_of, a_statement, statement_n, statement}
use Rattle.nibl.specs.found.Read.{a_variable as variable_read}
use Rattle.nibl.proofs.Words.{if-split, true-all}
use Rattle.nibl.proofs.Over.{Outside, here, outside_trans, outside-passed, outside-length, Passed, passed-text, text-passed, Over, ◌⨾◌, word_over}
use Rattle.nibl.proofs.Rules.{same, W, Same, neither, gives, by-word, or-else, and-then, Cases, no_more, ◌and◌, chosen, Case, variable-same, string-same, if-key, by_key, by_may}
use Rattle.nibl.proofs.Sound.{may-out, onto, factor-over, relation-over, Reads, read_same}

-- What stands before the rest
either-over : {one first second : String} {s s' : List ℕ} → Either W one first second s s' → Over s s'
either-over (whole k) = word_over k
either-over (parted k j) = word_over k ⨾ word_over j

print_word-over : {s s' : List ℕ} → PrintWord W s s' → Over s s'
print_word-over (short_print k) = word_over k
print_word-over (long_print k) = word_over k

pub item-over : {s s' : List ℕ} {i : Item} → AnItem W s i s' → Over s s'
item-over (a_string w) = word_over w
item-over (a_stored k f) = word_over k ⨾ factor-over f
item-over (a_value r) = relation-over r

items-over : {s s' : List ℕ} {is : List Item} → Items W s is s' → Over s s'
items-over (one_item i) = item-over i
items-over (more_items i k is) = item-over i ⨾ word_over k ⨾ items-over is

variables-over : {s s' : List ℕ} {vs : List ℕ} → Variables W s vs s' → Over s s'
variables-over (one_variable w) = word_over w
variables-over (more_variables w k vs) = word_over w ⨾ word_over k ⨾ variables-over vs

-- what follows may be empty
and-on : {s t u : List ℕ} → Over s t → Outside t u → Over s u
and-on p q = record { out = outside_trans p.out q; short = omega (arith, outside-length q) }

semicolon-out : {s s' : List ℕ} {b : Bool} → LastSemicolon W s b s' → Outside s s'
semicolon-out no_semicolon = here
semicolon-out (a_semicolon k) = (word_over k).out

step-out : {s s' : List ℕ} {a : Expr} → AStep W s a s' → Outside s s'
step-out no_step = here
step-out (some_step k r) = (word_over k ⨾ relation-over r).out

-- a statement ends outside every string; a remark takes the rest
pub data Left (s : List ℕ) : List ℕ → Type 0 where
  outside : {s' : List ℕ} → Over s s' → Left s s'
  taken : 0 < length s → All is_text s → Left s []

onto-left : {s t u : List ℕ} → Over s t → Left t u → Left s u
onto-left p (outside q) = outside (p ⨾ q)
onto-left p (taken l a) = taken (omega arith) (passed-text (outside-passed p.out) a)

let-over : {s t u s' : List ℕ} → May W "LET" s t → Over t u → Over u s' → Left s s'
let-over m p q = outside (onto (may-out m) p ⨾ q)

pub statement-left : {s s' : List ℕ} {q : Stmt} → Statement W s q s' → Left s s'
statement-left (a_let_var m w k r) = let-over m (word_over w) (word_over k ⨾ relation-over r)
statement-left (a_let_stat m w k r) = let-over m (word_over w) (word_over k ⨾ relation-over r)
statement-left (a_let_byte m w f k r) = let-over m (word_over w ⨾ factor-over f) (word_over k ⨾ relation-over r)
statement-left (a_let_text m w f k b) = let-over m (word_over w ⨾ factor-over f) (word_over k ⨾ word_over b)
statement-left (a_let_copy m w f k j g) = let-over m (word_over w ⨾ factor-over f) (word_over k ⨾ word_over j ⨾ factor-over g)
statement-left (a_goto e r) = outside (either-over e ⨾ relation-over r)
statement-left (a_gosub e r) = outside (either-over e ⨾ relation-over r)
statement-left (a_return k) = outside (word_over k)
statement-left (a_print p is l) = outside (and-on (print_word-over p ⨾ items-over is) (semicolon-out l))
statement-left (an_if k r m q) = onto-left (and-on (word_over k ⨾ relation-over r) (may-out m)) (statement-left q)
statement-left (a_do k) = outside (word_over k)
statement-left (an_until k r) = outside (word_over k ⨾ relation-over r)
statement-left (a_for k w e r t q p) = outside (and-on (word_over k ⨾ word_over w ⨾ word_over e ⨾ relation-over r ⨾ word_over t ⨾ relation-over q) (step-out p))
statement-left (a_next k w) = outside (word_over k ⨾ word_over w)
statement-left (an_input k vs) = outside (word_over k ⨾ variables-over vs)
statement-left (an_input_text k d f) = outside (word_over k ⨾ word_over d ⨾ factor-over f)
statement-left (a_remark k a) = let h = word_over k in taken (omega arith) (passed-text (outside-passed h.out) a)
statement-left (an_end k) = outside (word_over k)

pub left_passed : {s s' : List ℕ} → Left s s' → Passed s s'
left_passed (outside o) = outside-passed o.out
left_passed (taken l a) = text-passed a

pub left-short : {s s' : List ℕ} → Left s s' → length s' < length s
left-short (outside o) = o.short
left-short (taken l a) = l

-- One or more joined by commas: what `one` reads is P, and the whole is Q
pub record Joins {A : Type 0} (one : Reader A) (P : List ℕ → A → List ℕ → Type 0) (Q : List ℕ → List A → List ℕ → Type 0) : Type 0 where
  pub sound : (s : List ℕ) → Same (P s) (one s) (one s)
  pub over : {s t : List ℕ} {a : A} → P s a t → Over s t
  pub last : {s t : List ℕ} {a : A} → P s a t → Q s (a ∷ []) t
  pub more : {s t u v : List ℕ} {a : A} {as' : List A} → P s a t → Key W "," t u → Q u as' v → Q s (a ∷ as') v

module _ {A : Type 0} {one : Reader A} {P : List ℕ → A → List ℕ → Type 0} {Q : List ℕ → List A → List ℕ → Type 0} (j : Joins one P Q) where
  -- one, and any two readers of the rest that agree on what is shorter
  joined_by : (r r' : Reader (List A)) (s : List ℕ) → ((u : List ℕ) → length u < length s → Same (Q u) (r u) (r' u))
      → Same (Q s) ((one >>= (λ a. if_key "," (r >>= (λ as'. give (a ∷ as'))) (give (a ∷ [])))) s) ((one >>= (λ a. if_key "," (r' >>= (λ as'. give (a ∷ as'))) (give (a ∷ [])))) s)
  unfolding ◌>>=◌
  joined_by r r' s h =
      and-then (j.sound s) (λ a t p. if-key "," t _ _ (λ u c.
      and-then (h u (j.over p ⨾ word_over c).short) (λ as' v q. gives (j.more p c q))) (gives (j.last p)))

  joined_n-same : (k k' : ℕ) (s : List ℕ) → length s < k → length s < k' → Same (Q s) (joined_n one k s) (joined_n one k' s)
  unfolding joined_n
  joined_n-same zero k' s h h' = absurd (omega arith)
  joined_n-same (suc k) zero s h h' = absurd (omega arith)
  joined_n-same (suc k) (suc k') s h h' = joined_by (joined_n one k) (joined_n one k') s (λ u l. joined_n-same k k' u (omega arith) (omega arith))

  pub joined_same : (s : List ℕ) → Same (Q s) (joined one s) (joined one s)
  unfolding joined
  joined_same s = joined_n-same (suc (length s)) (suc (length s)) s (omega arith) (omega arith)

  pub joined_n-eq : (k : ℕ) (s : List ℕ) → length s < k → joined_n one k s ≡ joined one s
  unfolding joined
  joined_n-eq k s h = same (joined_n-same k (suc (length s)) s h (omega arith))

  pub joined-eq : (s : List ℕ) → joined one s ≡ (one >>= (λ a. if_key "," (joined one >>= (λ as'. give (a ∷ as'))) (give (a ∷ [])))) s
  unfolding joined joined_n
  joined-eq s = same (joined_by (joined_n one (length s)) (joined one) s (λ u l. joined_n-same (length s) (suc (length u)) u l (omega arith)))

-- a part, and what is made of it
part_then : {A : Type 0} {P : A → List ℕ → Type 0} (p : Part) (make : Expr → A) (s : List ℕ) → ((a : Expr) (t : List ℕ) → Reads p s a t → P (make a) t)
    → Same P ((read p >>= (λ a. give (make a))) s) ((read p >>= (λ a. give (make a))) s)
unfolding ◌>>=◌
part_then p make s f = and-then (read_same p s) (λ a t r. gives (f a t r))

item-same : (s : List ℕ) → Same (AnItem W s) (an_item s) (an_item s)
unfolding an_item
item-same s =
    or-else _ _ s (string-same s) (λ bs t w. gives (a_string w))
    (if-key "$" s _ _ (λ t k. part_then factor stored t (λ a u f. a_stored k f)) (part_then relation value s (λ a t r. a_value r)))

pub items-join : Joins an_item (AnItem W) (Items W)
items-join = record { sound = item-same; over = item-over; last = one_item; more = more_items }

pub variables-join : Joins variable_read (λ s v t. W s (variable v) t) (Variables W)
variables-join = record { sound = variable-same; over = word_over; last = one_variable; more = more_variables }

-- "LET (optional)": s is what follows it, in the statement at r
assigned-same : {P : Stmt → List ℕ → Type 0} (make : Expr → Stmt) (s : List ℕ) → ((a : Expr) (t u : List ℕ) → Key W "=" s t → Relation W t a u → P (make a) u)
    → Same P (assigned make s) (assigned make s)
assigned-same make s f = by_key "=" s (λ t k. part_then relation make t (λ a u r. f a t u k r))

let-cases : (r s t : List ℕ) → May W "LET" r s → Cases (Case (Statement W r) s t) let_cases let_cases
unfolding ◌>>=◌
let-cases r s t m =
    (λ k. assigned-same let_stat t (λ a u v e x. a_let_stat m k e x))
    and (λ k. and-then (read_same factor t) (λ a u f. assigned-same (let_byte a) u (λ b v x e y. a_let_byte m k f e y)))
    and (λ k. and-then (read_same factor t) (λ a u f. by_key "=" u (λ v e.
    or-else _ _ v (string-same v) (λ bs x w. gives (a_let_text m k f e w))
    (by_key "$" v (λ x d. part_then factor (let_copy a) x (λ b y g. a_let_copy m k f e d g))))))
    and no_more

let-same : (r s : List ℕ) → May W "LET" r s → (w : Token) (t : List ℕ) → W s w t → Same (Statement W r) (let_of w t) (let_of w t)
let-same r s m (variable v) t w = assigned-same (let_var v) t (λ a u x e y. a_let_var m w e y)
let-same r s m (decimal n) t w = neither
let-same r s m (hex n) t w = neither
let-same r s m (string bs) t w = neither
let-same r s m (sign k) t w = chosen k (let-cases r s t m) (λ _. neither) w

printing-same : (s t : List ℕ) → PrintWord W s t → Same (Statement W s) (printing t) (printing t)
unfolding ◌>>=◌
printing-same s t p =
    and-then (joined_same items-join t) (λ is u q. if-key ";" u _ _ (λ v k. gives (a_print p q (a_semicolon k))) (gives (a_print p q no_semicolon)))

for-same : (s t : List ℕ) → Key W "FOR" s t → Same (Statement W s) (for_to t) (for_to t)
unfolding ◌>>=◌
for-same s t k =
    and-then (variable-same t) (λ v u w. by_key "=" u (λ x e. and-then (read_same relation x) (λ a y r. by_key "TO" y (λ z o.
    and-then (read_same relation z) (λ b p q.
    if-key "STEP" p _ _ (λ y j. part_then relation (for v a b) y (λ c x h. a_for k w e r o q (some_step j h))) (gives (a_for k w e r o q no_step)))))))

input-same : (s t : List ℕ) → Key W "INPUT" s t → Same (Statement W s) (inputting t) (inputting t)
unfolding ◌>>=◌
input-same s t k =
    if-key "$" t _ _ (λ u d. part_then factor input_text u (λ a v f. an_input_text k d f)) (and-then (joined_same variables-join t) (λ vs u h. gives (an_input k h)))

remark-same : (s t : List ℕ) → Key W "REM" s t → Same (Statement W s) (remarking t) (remarking t)
remark-same s t k = if-split (λ f. Same (Statement W s) f f) (all is_text t) (λ e. gives (a_remark k (true-all is_text t e))) (λ _. neither)

module _ (rd rd' : Reader Stmt) where
  statement-cases : (s t : List ℕ) → ((u : List ℕ) → length u < length s → Same (Statement W u) (rd u) (rd' u)) → length t < length s
      → Cases (Case (Statement W s) s t) (statement_cases rd) (statement_cases rd')
  unfolding ◌>>=◌
  statement-cases s t h l =
      (λ k. by-word t (let-same s t (a_word k)))
      and (λ k. part_then relation goto t (λ a u r. a_goto (whole k) r)) and (λ k. part_then relation gosub t (λ a u r. a_gosub (whole k) r))
      and (λ k. if-key "TO" t _ _ (λ u j. part_then relation goto u (λ a v r. a_goto (parted k j) r))
      (by_key "SUB" t (λ u j. part_then relation gosub u (λ a v r. a_gosub (parted k j) r))))
      and (λ k. gives (a_return k)) and (λ k. printing-same s t (short_print k)) and (λ k. printing-same s t (long_print k))
      and (λ k. and-then (read_same relation t) (λ a u r. by_may "THEN" u (λ x m.
      and-then (h x (omega (arith, (relation-over r).short, outside-length (may-out m)))) (λ q y b. gives (an_if k r m b)))))
      and (λ k. gives (a_do k)) and (λ k. part_then relation until t (λ a u r. an_until k r)) and (λ k. for-same s t k)
      and (λ k. and-then (variable-same t) (λ v u w. gives (a_next k w))) and (λ k. input-same s t k)
      and (λ k. remark-same s t k) and (λ k. gives (an_end k)) and let-cases s s t no_word

  statement-by : (s : List ℕ) → ((u : List ℕ) → length u < length s → Same (Statement W u) (rd u) (rd' u)) → Same (Statement W s) (a_statement rd s) (a_statement rd' s)
  unfolding a_statement
  statement-by s h = by-word s go
    where
      go : (w : Token) (t : List ℕ) → W s w t → Same (Statement W s) (statement_of rd w t) (statement_of rd' w t)
      go (variable v) t w = assigned-same (let_var v) t (λ a u x e y. a_let_var no_word w e y)
      go (decimal n) t w = neither
      go (hex n) t w = neither
      go (string bs) t w = neither
      go (sign k) t w = chosen k (statement-cases s t h (word_over w).short) (λ _. neither) w

statement_n-same : (k k' : ℕ) (s : List ℕ) → length s < k → length s < k' → Same (Statement W s) (statement_n k s) (statement_n k' s)
unfolding statement_n
statement_n-same zero k' s h h' = absurd (omega arith)
statement_n-same (suc k) zero s h h' = absurd (omega arith)
statement_n-same (suc k) (suc k') s h h' = statement-by (statement_n k) (statement_n k') s (λ u l. statement_n-same k k' u (omega arith) (omega arith))

pub statement-same : (s : List ℕ) → Same (Statement W s) (statement s) (statement s)
unfolding statement
statement-same s = statement_n-same (suc (length s)) (suc (length s)) s (omega arith) (omega arith)

pub statement_n-eq : (k : ℕ) (s : List ℕ) → length s < k → statement_n k s ≡ statement s
unfolding statement
statement_n-eq k s h = same (statement_n-same k (suc (length s)) s h (omega arith))

-- The reader of a statement without a bound
pub statement-eq : (s : List ℕ) → statement s ≡ a_statement statement s
statement-eq s = unfold statement statement_n in (same (statement-by (statement_n (length s)) statement s (λ u l. statement_n-same (length s) (suc (length u)) u l (omega arith))))
