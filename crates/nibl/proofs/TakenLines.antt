-- Every line that the grammar reads is taken word by word by the stack of specs/found/Column.antt. Assumes nothing.
use Rattle.std.specs.Prelude.{if◌then◌else◌}
use Prim.Native.Nat.{ℕ}
use mathlib.Core.Path.{◌≡◌, refl, ◌∙◌}
use mathlib.Core.Bool.{Bool, true, false}
use mathlib.Core.List.{List, [], ◌∷◌, ◌++◌, map}
use mathlib.Core.Option.{Option, some}
use native.Mathlib.Omega.{arith}
use borrow.Author.Tests.{eqb-true}
use lib.Dec.{eqb}
use Rattle.nibl.specs.Words.{Token, number}
use Rattle.nibl.specs.Grammar.{Joints, factor_joints, term_joints, sum_joints, joint_of, Key, May, no_word, a_word, Joint, joint, Factor, Term, Sum, Relation, a_variable, a_constant, a_hex, a_stat, a_top, in_brackets, a_byte, a_not, a_mod, a_factor, factors, a_term, less_term, terms, a_sum, related}
use Rattle.nibl.specs.Grammar.{whole, parted, short_print, long_print, AnItem, a_string, a_stored, a_value, Items, one_item, more_items as items_on, LastSemicolon, no_semicolon, a_semicolon, AStep, no_step, some_step, Variables, one_variable as last_variable, more_variables as variables_on}
use Rattle.nibl.specs.Grammar.{Statement, a_let_var, a_let_stat, a_let_byte, a_let_text, a_let_copy, a_goto, a_gosub, a_return, a_print, an_if, a_do, an_until, a_for, a_next, an_input, an_input_text, a_remark, an_end}
use Rattle.nibl.specs.Grammar.{Members, last_member, more_members as members_on, a_blank, a_delete, a_store, a_new, a_clear, a_run, a_list, a_list_from, an_immediate}
use Rattle.nibl.specs.Tree.{Op, Expr, Item, Stmt, Member, Typed}
use Rattle.nibl.specs.Readings.{LineReading}
use Rattle.nibl.specs.found.Column.{sort_of, a_name, factor, first_factor, target, statement, item, consequence, more_of_relation, more_of_sum, more_items, for_step, more_variables, more_members}
use Rattle.nibl.specs.found.Column.{Cases, factor_cases, first_cases, joint_cases, target_cases, statement_cases, cases_of, case_in, turn, is_remark}
use Rattle.nibl.proofs.Words.{if-split}
use Rattle.nibl.proofs.Rules.{W}
use Rattle.nibl.proofs.Taken.{Taken, ended, remarked, takes, LineTaken, by_keywords, by_command}

-- what holds of each case of a list holds of the case that a number has there
by_cases : {A : Type 0} (f : ℕ → A) (g : List ℕ → A) (cs : Cases) → map (λ (c : ℕ × List ℕ). f c.0) cs ≡ map (λ (c : ℕ × List ℕ). g c.1) cs
    → {q : List ℕ} (k : ℕ) → case_in cs k ≡ some q → f k ≡ g q
by_cases f g [] e k h = let z : ◌≡◌ {A = ℕ} 0 1 = cc in absurd (omega arith)
by_cases f g (c ∷ cs) e {q} k h =
    if-split (λ (o : Option (List ℕ)). o ≡ some q → f k ≡ g q) (eqb k c.0)
    (λ t i. let n : k ≡ c.0 = eqb-true k c.0 t in cc) (λ t i. by_cases f g cs (cc) k i) h

joint-case : (r : List ℕ) (js : Joints) {o : Op} (k : ℕ) → joint_of js k ≡ some o → case_in (joint_cases r js) k ≡ some r
joint-case r [] k h = let z : ◌≡◌ {A = ℕ} 0 1 = cc in absurd (omega arith)
joint-case r (j ∷ js) {o} k h = go (eqb k j.0) (joint-case r js k) h
  where
    go : (t : Bool) → (joint_of js k ≡ some o → case_in (joint_cases r js) k ≡ some r) → (if t then some j.1 else joint_of js k) ≡ some o
        → (if t then some r else case_in (joint_cases r js) k) ≡ some r
    go true i e = refl
    go false i e = i e

-- with `top` on the stack a word of each of the cases is taken: then comes what it has there, and `rest`
record Turns (cs : Cases) (top rest : List ℕ) : Type 0 where
  plain : is_remark top ≡ false
  turns : {q : List ℕ} (k : ℕ) → case_in cs k ≡ some q → turn k top ≡ some (q ++ rest)

turns-by : {cs : Cases} {top rest : List ℕ} → is_remark top ≡ false
    → map (λ (c : ℕ × List ℕ). turn c.0 top) cs ≡ map (λ (c : ℕ × List ℕ). some (c.1 ++ rest)) cs → Turns cs top rest
turns-by {cs} {top} {rest} p e = record { plain = p; turns = by_cases (λ k. turn k top) (λ q. some (q ++ rest)) cs e }

takes-by : {cs : Cases} {top rest q s t : List ℕ} {w : Token} → Turns cs top rest → W s w t → case_in cs (sort_of w) ≡ some q
    → Taken (q ++ rest) t → Taken top s
takes-by {w} o k e h = takes o.plain k (o.turns (sort_of w) e) h

-- some of the cases
fewer : {cs ds : Cases} {top rest : List ℕ} → map (λ (c : ℕ × List ℕ). case_in cs c.0) ds ≡ map (λ (c : ℕ × List ℕ). some c.1) ds
    → Turns cs top rest → Turns ds top rest
fewer {cs} {ds} e o = record { plain = o.plain; turns = λ k h. o.turns k (by_cases (case_in cs) some ds e k h) }

-- what is on the stack after a relation, by whether it compares two sums
data More : ℕ → Type 0 where
  of_relation : More more_of_relation
  of_sum : More more_of_sum

-- a word that goes on no relation
after_more : {m : ℕ} {rest next s t : List ℕ} {w : Token} → More m → W s w t → turn (sort_of w) (more_of_relation ∷ rest) ≡ some next
    → turn (sort_of w) (more_of_sum ∷ rest) ≡ some next → Taken next t → Taken (m ∷ rest) s
after_more of_relation w e f h = takes refl w e h
after_more of_sum w e f h = takes refl w f h

module _ {rest : List ℕ} where
  factor-turns : Turns factor_cases (factor ∷ rest) rest
  unfolding turn
  factor-turns = turns-by refl refl

  first-turns : Turns first_cases (first_factor ∷ rest) rest
  unfolding turn
  first-turns = turns-by refl refl

  joint-taken : (r : List ℕ) (js : Joints) {top s t : List ℕ} {o : Op} → Turns (joint_cases r js) top rest → Joint W js s o t
      → Taken (r ++ rest) t → Taken top s
  joint-taken r js o (joint {k} w e) h = takes-by o w (joint-case r js k e) h

  factors-on : {m : ℕ} {s t : List ℕ} {o : Op} → More m → Joint W factor_joints s o t → Taken (factor ∷ m ∷ rest) t → Taken (m ∷ rest) s
  unfolding turn
  factors-on of_relation = joint-taken (factor ∷ more_of_relation ∷ []) factor_joints (turns-by refl refl)
  factors-on of_sum = joint-taken (factor ∷ more_of_sum ∷ []) factor_joints (turns-by refl refl)

  terms-on : {m : ℕ} {s t : List ℕ} {o : Op} → More m → Joint W term_joints s o t → Taken (factor ∷ m ∷ rest) t → Taken (m ∷ rest) s
  unfolding turn
  terms-on of_relation = joint-taken (factor ∷ more_of_relation ∷ []) term_joints (turns-by refl refl)
  terms-on of_sum = joint-taken (factor ∷ more_of_sum ∷ []) term_joints (turns-by refl refl)

  sums_on : {s t : List ℕ} {o : Op} → Joint W sum_joints s o t → Taken (first_factor ∷ more_of_sum ∷ rest) t → Taken (more_of_relation ∷ rest) s
  unfolding turn
  sums_on = joint-taken (first_factor ∷ more_of_sum ∷ []) sum_joints (turns-by refl refl)

mutual
  unfolding turn

  factor-taken : {top rest s s' : List ℕ} {a : Expr} → Factor W s a s' → Turns factor_cases top rest → Taken rest s' → Taken top s
  factor-taken (a_variable w) o h = takes-by o w refl h
  factor-taken (a_constant w) o h = takes-by o w refl h
  factor-taken (a_hex w) o h = takes-by o w refl h
  factor-taken (a_stat w) o h = takes-by o w refl h
  factor-taken (a_top w) o h = takes-by o w refl h
  factor-taken (in_brackets w r c) o h = takes-by o w refl (relation-taken r first-turns (λ m i. after_more i c refl refl h))
  factor-taken (a_byte w f) o h = takes-by o w refl (factor-taken f factor-turns h)
  factor-taken (a_not w f) o h = takes-by o w refl (factor-taken f factor-turns h)
  factor-taken (a_mod w b r k q c) o h =
      takes-by o w refl (takes refl b refl (relation-taken r first-turns (λ m i.
      after_more i k refl refl (relation-taken q first-turns (λ m' i'. after_more i' c refl refl h)))))

  term-taken : {m : ℕ} {top rest s s' : List ℕ} {a : Expr} → Term W s a s' → Turns factor_cases top (m ∷ rest) → More m
      → Taken (m ∷ rest) s' → Taken top s
  term-taken (a_factor f) o m h = factor-taken f o h
  term-taken (factors t j f) o m h = term-taken t o m (factors-on m j (factor-taken f factor-turns h))

  sum-taken : {m : ℕ} {top rest s s' : List ℕ} {a : Expr} → Sum W s a s' → Turns first_cases top (m ∷ rest) → More m
      → Taken (m ∷ rest) s' → Taken top s
  sum-taken (a_term no_word t) o m h = term-taken t (fewer refl o) m h
  sum-taken (a_term (a_word w) t) o m h = takes-by o w refl (term-taken t factor-turns m h)
  sum-taken (less_term w t) o m h = takes-by o w refl (term-taken t factor-turns m h)
  sum-taken (terms u j t) o m h = sum-taken u o m (terms-on m j (term-taken t factor-turns m h))

  relation-taken : {top rest s s' : List ℕ} {a : Expr} → Relation W s a s' → Turns first_cases top (more_of_relation ∷ rest)
      → ((m : ℕ) → More m → Taken (m ∷ rest) s') → Taken top s
  relation-taken (a_sum u) o h = sum-taken u o of_relation (h more_of_relation of_relation)
  relation-taken (related u j v) o h = sum-taken u o of_relation (sums_on j (sum-taken v first-turns of_sum (h more_of_sum of_sum)))

-- a statement may end with `top` on the stack: what is there above `rest` need not come, and a ":" passes it
data Ends (rest : List ℕ) : List ℕ → Type 0 where
  ends : {top : List ℕ} → is_remark top ≡ false → turn (number ":") top ≡ turn (number ":") rest → Ends rest top

colon-taken : {rest top next s t : List ℕ} → Ends rest top → Key W ":" s t → turn (number ":") rest ≡ some next → Taken next t → Taken top s
colon-taken (ends n e) w f h = takes n w (e ∙ f) h

-- where a statement may begin
module _ {rest : List ℕ} where
  statement-turns : Turns statement_cases (statement ∷ rest) rest
  unfolding turn
  statement-turns = turns-by refl refl

  -- after IF and its relation, without THEN
  no-then : {m : ℕ} → More m → Turns statement_cases (m ∷ consequence ∷ rest) rest
  unfolding turn
  no-then of_relation = turns-by refl refl
  no-then of_sum = turns-by refl refl

-- with `rest` on the stack under the statement
module _ (rest : List ℕ) (n : is_remark rest ≡ false) where
  -- what follows the statement is taken, whatever of it may still come
  abbrev Onward : List ℕ → Type 0
  Onward s = (top : List ℕ) → Ends rest top → Taken top s

  onward : {s : List ℕ} → Onward s → Taken rest s
  onward h = h rest (ends n refl)

  value_taken : {s s' : List ℕ} {a : Expr} → Relation W s a s' → Onward s' → Taken (first_factor ∷ more_of_relation ∷ rest) s
  unfolding turn
  value_taken {s'} r h = relation-taken r first-turns go
    where
      go : (m : ℕ) → More m → Taken (m ∷ rest) s'
      go m of_relation = h (m ∷ rest) (ends refl refl)
      go m of_sum = h (m ∷ rest) (ends refl refl)

  let-taken : {top s t : List ℕ} → Turns statement_cases top rest → May W "LET" s t
      → ((x : List ℕ) → Turns target_cases x rest → Taken x t) → Taken top s
  unfolding turn
  let-taken {top} o no_word h = h top (fewer refl o)
  let-taken o (a_word w) h = takes-by o w refl (h (target ∷ rest) (turns-by refl refl))

  -- the same for an item of PRINT, where a "," or a ";" may follow
  abbrev OnwardItem : List ℕ → Type 0
  OnwardItem s = (top : List ℕ) → Turns (cases_of more_items) top rest → Ends rest top → Taken top s

  item-taken : {s s' : List ℕ} {i : Item} → AnItem W s i s' → OnwardItem s' → Taken (item ∷ more_items ∷ rest) s
  unfolding turn
  item-taken (a_string w) h = takes refl w refl (h (more_items ∷ rest) (turns-by refl refl) (ends refl refl))
  item-taken (a_stored w f) h = takes refl w refl (factor-taken f factor-turns (h (more_items ∷ rest) (turns-by refl refl) (ends refl refl)))
  item-taken (a_value {s'} r) h = relation-taken r (turns-by refl refl) go
    where
      go : (m : ℕ) → More m → Taken (m ∷ more_items ∷ rest) s'
      go m of_relation = h (m ∷ more_items ∷ rest) (turns-by refl refl) (ends refl refl)
      go m of_sum = h (m ∷ more_items ∷ rest) (turns-by refl refl) (ends refl refl)

  items-taken : {s s' : List ℕ} {is : List Item} → Items W s is s' → OnwardItem s' → Taken (item ∷ more_items ∷ rest) s
  items-taken (one_item i) h = item-taken i h
  items-taken (items_on i w is) h = item-taken i (λ top o e. takes-by o w refl (items-taken is h))

  semicolon-taken : {s s' : List ℕ} {b : Bool} → LastSemicolon W s b s' → Onward s' → OnwardItem s
  semicolon-taken no_semicolon h top o e = h top e
  semicolon-taken (a_semicolon w) h top o e = takes-by o w refl (onward h)

  step-taken : {m : ℕ} {s s' : List ℕ} {a : Expr} → AStep W s a s' → More m → Onward s' → Taken (m ∷ for_step ∷ rest) s
  unfolding turn
  step-taken {m} no_step of_relation h = h (m ∷ for_step ∷ rest) (ends refl refl)
  step-taken {m} no_step of_sum h = h (m ∷ for_step ∷ rest) (ends refl refl)
  step-taken (some_step w r) i h = after_more i w refl refl (value_taken r h)

  variables-taken : {s s' vs top : List ℕ} → is_remark top ≡ false → turn a_name top ≡ some (more_variables ∷ rest) → Variables W s vs s'
      → Onward s' → Taken top s
  unfolding turn
  variables-taken p e (last_variable w) h = takes p w e (h (more_variables ∷ rest) (ends refl refl))
  variables-taken p e (variables_on w k vs) h = takes p w e (takes refl k refl (variables-taken refl refl vs h))

  statement-taken : {s s' : List ℕ} {q : Stmt} {top : List ℕ} → Statement W s q s' → Turns statement_cases top rest → Onward s' → Taken top s
  unfolding turn
  statement-taken (a_let_var m w k r) o h = let-taken o m (λ x i. takes-by i w refl (takes refl k refl (value_taken r h)))
  statement-taken (a_let_stat m w k r) o h = let-taken o m (λ x i. takes-by i w refl (takes refl k refl (value_taken r h)))
  statement-taken (a_let_byte m w f k r) o h =
      let-taken o m (λ x i. takes-by i w refl (factor-taken f factor-turns (takes refl k refl (value_taken r h))))
  statement-taken (a_let_text m w f k b) o h =
      let-taken o m (λ x i. takes-by i w refl (factor-taken f factor-turns (takes refl k refl (takes refl b refl (onward h)))))
  statement-taken (a_let_copy m w f k d g) o h =
      let-taken o m (λ x i. takes-by i w refl (factor-taken f factor-turns (takes refl k refl (takes refl d refl (
      factor-taken g factor-turns (onward h))))))
  statement-taken (a_goto (whole w) r) o h = takes-by o w refl (value_taken r h)
  statement-taken (a_goto (parted w k) r) o h = takes-by o w refl (takes refl k refl (value_taken r h))
  statement-taken (a_gosub (whole w) r) o h = takes-by o w refl (value_taken r h)
  statement-taken (a_gosub (parted w k) r) o h = takes-by o w refl (takes refl k refl (value_taken r h))
  statement-taken (a_return w) o h = takes-by o w refl (onward h)
  statement-taken (a_print (short_print w) is l) o h = takes-by o w refl (items-taken is (semicolon-taken l h))
  statement-taken (a_print (long_print w) is l) o h = takes-by o w refl (items-taken is (semicolon-taken l h))
  statement-taken (an_if w r no_word q) o h = takes-by o w refl (relation-taken r first-turns (λ m i. statement-taken q (no-then i) h))
  statement-taken (an_if w r (a_word k) q) o h =
      takes-by o w refl (relation-taken r first-turns (λ m i. after_more i k refl refl (statement-taken q statement-turns h)))
  statement-taken (a_do w) o h = takes-by o w refl (onward h)
  statement-taken (an_until w r) o h = takes-by o w refl (value_taken r h)
  statement-taken (a_for w v e r k q j) o h =
      takes-by o w refl (takes refl v refl (takes refl e refl (relation-taken r first-turns (λ m i.
      after_more i k refl refl (relation-taken q first-turns (λ m' i'. step-taken j i' h))))))
  statement-taken (a_next w v) o h = takes-by o w refl (takes refl v refl (onward h))
  statement-taken (an_input w vs) o h = takes-by o w refl (variables-taken refl refl vs h)
  statement-taken (an_input_text w d f) o h = takes-by o w refl (takes refl d refl (factor-taken f factor-turns (onward h)))
  statement-taken (a_remark w a) o h = takes-by o w refl (remarked refl a)
  statement-taken (an_end w) o h = takes-by o w refl (onward h)

-- A statement list
members-taken : {s : List ℕ} {ms : List Member} → Members W s ms → Taken (statement ∷ more_members ∷ []) s
unfolding turn
members-taken (last_member q a) = statement-taken (more_members ∷ []) refl q statement-turns (λ top e. ended a)
members-taken (members_on q w ms) =
    statement-taken (more_members ∷ []) refl q statement-turns (λ top e. colon-taken e w refl (members-taken ms))

pub line_taken : {s : List ℕ} {y : Typed} → LineReading s y → LineTaken s
unfolding turn
line_taken (a_blank a) = by_keywords (ended a)
line_taken (a_delete w a) = by_keywords (takes refl w refl (ended a))
line_taken (a_store w ms) = by_keywords (takes refl w refl (members-taken ms))
line_taken (a_new w a) = by_command w refl (ended a)
line_taken (a_clear w a) = by_command w refl (ended a)
line_taken (a_run w a) = by_command w refl (ended a)
line_taken (a_list w a) = by_command w refl (ended a)
line_taken (a_list_from w d a) = by_command w refl (takes refl d refl (ended a))
line_taken (an_immediate q a) = by_keywords (statement-taken [] refl q (turns-by refl refl) (λ top e. ended a))
