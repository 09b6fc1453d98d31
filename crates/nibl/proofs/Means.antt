-- What a stack of what may still come (specs/found/Column.antt) means in the grammar; and a word that is taken keeps its meaning. Assumes nothing.
use Rattle.std.specs.Prelude.{if◌then◌else◌}
use Prim.Native.Nat.{ℕ}
use mathlib.Core.Path.{◌≡◌, refl, sym, ◌∙◌}
use mathlib.Core.Bool.{Bool, true, false, ◌&&◌, false≢true}
use mathlib.Core.List.{List, [], ◌∷◌, ◌++◌, append-nil}
use mathlib.Core.Option.{Option, none as nothing, some}
use native.Mathlib.Omega.{arith}
use borrow.Author.Tests.{eqb-true, ne_eqb, le-leb, lt-leb}
use lib.Dec.{leb, eqb}
use Rattle.nibl.specs.Bytes.{is_space, is_text, All, all}
use Rattle.nibl.specs.Words.{Token, variable, decimal, hex, string, sign, command, Word, spaced, keyword, pair, symbol}
use Rattle.nibl.specs.Grammar.{joint_of, factor_joints, term_joints, sum_joints, Key, May, no_word, a_word, Joint, joint, Factor, Sum, Relation, a_variable, a_constant, a_hex, a_stat, a_top, in_brackets, a_byte, a_not, a_mod, a_factor, factors, a_term, less_term, terms, a_sum, related}
use Rattle.nibl.specs.Grammar.{whole, parted, PrintWord, short_print, long_print, AnItem, a_string, a_stored, a_value, Items, one_item, LastSemicolon, no_semicolon, a_semicolon, AStep, no_step, some_step, Variables}
use Rattle.nibl.specs.Grammar.{Statement, a_let_var, a_let_stat, a_let_byte, a_let_text, a_let_copy, a_goto, a_gosub, a_return, a_print, an_if, a_do, an_until, a_for, a_next, an_input, an_input_text, a_remark, an_end, Members, last_member, Line, a_store, a_new, a_clear, a_run, a_list, a_list_from, an_immediate}
use Rattle.nibl.specs.Grammar.{more_items as item_and, one_variable as variable_alone, more_variables as variable_and, more_members as member_and}
use Rattle.nibl.specs.Tree.{Op, Expr, Item, Stmt, Member, Typed}
use Rattle.nibl.specs.found.Read.{choose}
use Rattle.nibl.specs.found.Column.{sort_of, a_name, a_decimal, a_hex as a_hex_sort, a_text, factor, first_factor, closing, mod_open, mod_comma, target, equals, text_equals, text_value, statement, after_go, item, consequence, for_variable, for_equals, for_to, one_variable, input_target, typed_line, typed_command, remark, more_of_relation, more_of_sum, more_items, for_step, more_variables, more_members, list_number}
use Rattle.nibl.specs.found.Column.{is_optional, Cases, factor_cases, first_cases, followed, operand_cases, target_cases, statement_cases, rules, cases_of, case_in, turn}
use Rattle.nibl.proofs.Keywords.{place-least}
use Rattle.nibl.proofs.Words.{if-split, and_left, and_right, of-pairs, no_symbol}
use Rattle.nibl.proofs.Rules.{W}
use Rattle.nibl.proofs.Lines.{C}

-- from a text to what follows
abbrev pub Part : Type 1
Part = List ℕ → List ℕ → Type 0

-- one after the other
infixr 30 ◌⨟◌
abbrev pub ◌⨟◌ : Part → Part → Part
(P ⨟ Q) s u = (t : List ℕ) × P s t × Q t u

-- what goes on from a P to a Q
infixr 20 ◌⇾◌
abbrev pub ◌⇾◌ : Part → Part → Part
(P ⇾ Q) s u = (r : List ℕ) → P r s → Q r u

-- the part that has the number, or r
abbrev pub pick : List (ℕ × Part) → Part → ℕ → Part
pick [] r k = r
pick (c ∷ cs) r k = elim (eqb k c.0) [ true ↦ c.1 | false ↦ pick cs r k ]

abbrev pub AFactor : Part
AFactor s u = (a : Expr) × Factor W s a u

abbrev pub ASum : Part
ASum s u = (a : Expr) × Sum W s a u

abbrev pub ARelation : Part
ARelation s u = (a : Expr) × Relation W s a u

abbrev pub AVariable : Part
AVariable s u = (v : ℕ) × W s (variable v) u

abbrev pub TheItem : Part
TheItem s u = (i : Item) × AnItem W s i u

abbrev pub TheItems : Part
TheItems s u = (is : List Item) × Items W s is u

abbrev pub AStatement : Part
AStatement s u = (q : Stmt) × Statement W s q u

abbrev pub TheLast : Part
TheLast s u = (b : Bool) × LastSemicolon W s b u

abbrev pub TheStep : Part
TheStep s u = (a : Expr) × AStep W s a u

abbrev pub TheVariables : Part
TheVariables s u = (vs : List ℕ) × Variables W s vs u

-- to the end of the line
abbrev pub TheMembers : Part
TheMembers s u = All is_space u → (ms : List Member) × Members W s ms

abbrev pub ALine : Part
ALine s u = All is_space u → (y : Typed) × Line W C s y

pub data TextValue : List ℕ → List ℕ → Type 0 where
  given : {s u bs : List ℕ} → W s (string bs) u → TextValue s u
  copied : {s t u : List ℕ} {a : Expr} → Key W "$" s t → Factor W t a u → TextValue s u

abbrev pub ModComma : Part
ModComma = Key W "," ⨟ ARelation ⨟ Key W ")"

abbrev pub ForTo : Part
ForTo = Key W "TO" ⨟ ARelation ⨟ TheStep

abbrev pub ForEquals : Part
ForEquals = Key W "=" ⨟ ARelation ⨟ ForTo

-- What each means: of what must come and of what need not
abbrev pub needed : List (ℕ × Part)
needed =
    (factor, AFactor) ∷ (first_factor, ASum) ∷ (closing, Key W ")")
    ∷ (mod_open, Key W "(" ⨟ ARelation ⨟ ModComma) ∷ (mod_comma, ModComma)
    ∷ (target, May W "LET" ⇾ AStatement) ∷ (equals, Key W "=" ⨟ ARelation) ∷ (text_equals, Key W "=" ⨟ TextValue) ∷ (text_value, TextValue)
    ∷ (statement, AStatement) ∷ (after_go, Key W "GO" ⇾ AStatement) ∷ (item, TheItem) ∷ (consequence, May W "THEN" ⨟ AStatement)
    ∷ (for_variable, AVariable ⨟ ForEquals) ∷ (for_equals, ForEquals) ∷ (for_to, ForTo) ∷ (one_variable, AVariable)
    ∷ (input_target, Key W "INPUT" ⇾ AStatement) ∷ (typed_line, ALine) ∷ (remark, λ s u. All is_text s × (u ≡ [])) ∷ []

abbrev pub optional : List (ℕ × Part)
optional =
    (more_of_relation, ASum ⇾ ARelation) ∷ (more_of_sum, ASum ⇾ ASum) ∷ (more_items, TheItem ⇾ TheItems ⨟ TheLast)
    ∷ (for_step, TheStep) ∷ (more_variables, AVariable ⇾ TheVariables) ∷ (more_members, AStatement ⇾ TheMembers)
    ∷ (list_number, (λ s u. C s (sign (command "LIST")) u) ⇾ ALine) ∷ []

-- what begins a line by a command is read with other words, and has no meaning here (`command-rules`)
abbrev pub Mean : ℕ → Part
Mean x = elim (is_optional x) [ true ↦ pick optional (λ s u. s ≡ u) x | false ↦ pick needed (λ s u. Unit) x ]

abbrev Then : ℕ → List ℕ → Part
Then x [] = Mean x
Then x (y ∷ ys) = Mean x ⨟ Then y ys

-- a word of a sort, by a rule of words
abbrev Spoken : (List ℕ → Token → List ℕ → Type 0) → ℕ → Part
Spoken D k =
    pick (
    (a_name, λ s u. (v : ℕ) × D s (variable v) u) ∷ (a_decimal, λ s u. (n : ℕ) × D s (decimal n) u)
    ∷ (a_hex_sort, λ s u. (n : ℕ) × D s (hex n) u) ∷ (a_text, λ s u. (bs : List ℕ) × D s (string bs) u) ∷ [])
    (λ s u. D s (sign k) u) k

-- A rule: a word of a sort, and what may come after it, make a part
abbrev Rule : (List ℕ → Token → List ℕ → Type 0) → Part → ℕ → List ℕ → Type 0
Rule D P k [] = (s u : List ℕ) → Spoken D k s u → P s u
Rule D P k (x ∷ xs) = (s t u : List ℕ) → Spoken D k s t → Then x xs t u → P s u

data Rules (D : List ℕ → Token → List ℕ → Type 0) (P : Part) : Cases → Type 0 where
  none : Rules D P []
  more : {c : ℕ × List ℕ} {cs : Cases} → Rule D P c.0 c.1 → Rules D P cs → Rules D P (c ∷ cs)

-- `more`, as a function: so the goal gives the rule its type
infixr 5 ◌and◌
◌and◌ : {D : List ℕ → Token → List ℕ → Type 0} {P : Part} {c : ℕ × List ℕ} {cs : Cases} → Rule D P c.0 c.1 → Rules D P cs
    → Rules D P (c ∷ cs)
◌and◌ = more

factor-rules : Rules W AFactor factor_cases
factor-rules =
    (λ s u (v, w). (_, a_variable w)) and (λ s u (n, w). (_, a_constant w)) and (λ s u (n, w). (_, a_hex w)) and (λ s u k. (_, a_stat k))
    and (λ s u k. (_, a_top k))
    and (λ s t u k (x, a, (y, f, j)). (_, in_brackets k (f t a).1 j))
    and (λ s t u k (a, f). (_, a_byte k f)) and (λ s t u k (a, f). (_, a_not k f))
    and (λ s t u k (x, i, (y, r, (z, c, (p, q, j)))). (_, a_mod k i r.1 c q.1 j))
    and none

then-last : (x : ℕ) (xs : List ℕ) (y : ℕ) (s u : List ℕ) → Then x (xs ++ (y ∷ [])) s u → (Then x xs ⨟ Mean y) s u
then-last x [] y s u m = m
then-last x (z ∷ zs) y s u m = let (v, n, l) = then-last z zs y m.0 u m.2 in (v, (m.0, m.1, n), l)

-- Rules made of rules: of what a part makes, of a part and one more after it, of two lists
module _ {D : List ℕ → Token → List ℕ → Type 0} {P Q : Part} where
  also : {cs : Cases} → ((s u : List ℕ) → P s u → Q s u) → Rules D P cs → Rules D Q cs
  also h none = none
  also h (more {c} f fs) = more (go c.1 f) (also h fs)
    where
      go : (r : List ℕ) → Rule D P c.0 r → Rule D Q c.0 r
      go [] f = λ s u w. h s u (f s u w)
      go (x ∷ xs) f = λ s t u w m. h s u (f s t u w m)

  before : {cs : Cases} (y : ℕ) → ((s t u : List ℕ) → P s t → Mean y t u → Q s u) → Rules D P cs → Rules D Q (followed (y ∷ []) cs)
  before y h none = none
  before y h (more {c} f fs) = more (go c.1 f) (before y h fs)
    where
      go : (r : List ℕ) → Rule D P c.0 r → Rule D Q c.0 (r ++ (y ∷ []))
      go [] f = λ s t u w m. h s t u (f s t w) m
      go (x ∷ xs) f = λ s t u w m. let (v, n, l) = then-last x xs y t u m in h s v u (f s t v w n) l

both : {D : List ℕ → Token → List ℕ → Type 0} {P : Part} {cs ds : Cases} → Rules D P cs → Rules D P ds → Rules D P (cs ++ ds)
both none gs = gs
both (more f fs) gs = more f (both fs gs)

first-rules : Rules W ASum first_cases
first-rules =
    (λ s t u k (a, f). (_, a_term (a_word k) (a_factor f))) and (λ s t u k (a, f). (_, less_term k (a_factor f)))
    and also (λ s u (a, f). (_, a_term no_word (a_factor f))) factor-rules

-- one more factor, of a sum's last term
with-factor : {r s t u : List ℕ} {o : Op} {a b : Expr} → Sum W r a s → Joint W factor_joints s o t → Factor W t b u → ASum r u
with-factor (a_term m p) j f = (_, a_term m (factors p j f))
with-factor (less_term k p) j f = (_, less_term k (factors p j f))
with-factor (terms q i p) j f = (_, terms q i (factors p j f))

module _ (x : ℕ) (R : Part) (h : (s u : List ℕ) → Mean x s u → (ASum ⇾ R) s u) where
  by-factor : {k : ℕ} {o : Op} → joint_of factor_joints k ≡ some o → (s t u : List ℕ) → W s (sign k) t → (AFactor ⨟ Mean x) t u → (ASum ⇾ R) s u
  by-factor e s t u k (y, (b, f), m) r (a, p) = h y u m r (with-factor p (joint k e) f)

  by-term : {k : ℕ} {o : Op} → joint_of term_joints k ≡ some o → (s t u : List ℕ) → W s (sign k) t → (AFactor ⨟ Mean x) t u → (ASum ⇾ R) s u
  by-term e s t u k (y, (b, f), m) r (a, p) = h y u m r (_, terms p (joint k e) (a_factor f))

  operand-rules : Rules W (ASum ⇾ R) (operand_cases x)
  operand-rules = by-factor refl and by-factor refl and by-factor refl and by-term refl and by-term refl and by-term refl and none

target-rules : Rules W (May W "LET" ⇾ AStatement) target_cases
target-rules =
    (λ s t u (v, w) (x, k, (a, r)) p m. (_, a_let_var m w k r)) and (λ s t u w (x, k, (a, r)) p m. (_, a_let_stat m w k r))
    and (λ s t u d (x, (a, f), (y, k, (b, r))) p m. (_, a_let_byte m d f k r)) and (λ s t u d (x, (a, f), (y, k, v)) p m. text-let m d f k v)
    and none
  where
    text-let : {p s t u v x : List ℕ} {a : Expr} → May W "LET" p s → Key W "$" s t → Factor W t a u → Key W "=" u v → TextValue v x → AStatement p x
    text-let m d f k (given w) = (_, a_let_text m d f k w)
    text-let m d f k (copied j g) = (_, a_let_copy m d f k j g)

-- a relation, after one part and before another
relation-then : (P Q : Part) (s t u : List ℕ) → P s t → (ASum ⨟ (ASum ⇾ ARelation) ⨟ Q) t u → (P ⨟ ARelation ⨟ Q) s u
relation-then P Q s t u p (x, a, (y, f, q)) = (t, p, (y, f t a, q))

printing : {s t u : List ℕ} → PrintWord W s t → (TheItem ⨟ (TheItem ⇾ TheItems ⨟ TheLast)) t u → AStatement s u
printing {t} p (x, i, m) = let (y, is, l) = m t i in (_, a_print p is.1 l.1)

statement-rules : Rules W AStatement statement_cases
statement-rules =
    (λ s t u k m. m s (a_word k))
    and (λ s t u k (x, a, f). (_, a_goto (whole k) (f t a).1)) and (λ s t u k (x, a, f). (_, a_gosub (whole k) (f t a).1))
    and (λ s t u k m. m s k) and (λ s u k. (_, a_return k))
    and (λ s t u k m. printing (short_print k) m) and (λ s t u k m. printing (long_print k) m)
    and (λ s t u k (x, a, (y, f, (z, m, (q, b)))). (_, an_if k (f t a).1 m b))
    and (λ s u k. (_, a_do k)) and (λ s t u k (x, a, f). (_, an_until k (f t a).1))
    and (λ s t u k (x, (v, w), (y, e, (z, r, (z', o, (z'', q, (c, p)))))). (_, a_for k w e r.1 o q.1 p))
    and (λ s t u k (v, w). (_, a_next k w)) and (λ s t u k m. m s k) and (λ s t u k (a, e). rw e (_, a_remark k a)) and (λ s u k. (_, an_end k))
    and also (λ s u m. m s no_word) target-rules

item-rules : Rules W TheItem (cases_of item)
item-rules =
    (λ s u (bs, w). (_, a_string w)) and (λ s t u k (a, f). (_, a_stored k f))
    and before more_of_relation (λ s t u a f. (_, a_value (f s a).1)) first-rules

related-rules : Rules W (ASum ⇾ ARelation) (cases_of more_of_relation)
related-rules =
    both (operand-rules more_of_relation ARelation (λ s u m. m))
    (go refl and go refl and go refl and go refl and go refl and go refl and none)
  where
    go : {k : ℕ} {o : Op} → joint_of sum_joints k ≡ some o → (s t u : List ℕ) → W s (sign k) t → (ASum ⨟ (ASum ⇾ ASum)) t u → (ASum ⇾ ARelation) s u
    go e s t u k (x, b, f) r (a, p) = (_, related p (joint k e) (f t b).1)

command-rules : Rules C ALine (cases_of typed_command)
command-rules =
    (λ s u c e. (_, a_new c e)) and (λ s u c e. (_, a_clear c e)) and (λ s u c e. (_, a_run c e)) and (λ s t u c m. m s c) and none

data Table : List (ℕ × Cases) → Type 0 where
  none : Table []
  more : {c : ℕ × Cases} {cs : List (ℕ × Cases)} → Rules W (Mean c.0) c.1 → Table cs → Table (c ∷ cs)

infixr 4 ◌with◌
◌with◌ : {c : ℕ × Cases} {cs : List (ℕ × Cases)} → Rules W (Mean c.0) c.1 → Table cs → Table (c ∷ cs)
◌with◌ = more

table : Table rules
table =
    factor-rules with first-rules with ((λ s u k. k) and none)
    with (relation-then (Key W "(") ModComma and none) with (relation-then (Key W ",") (Key W ")") and none) with target-rules
    with ((λ s t u k (x, a, f). (t, k, f t a)) and none) with ((λ s t u k v. (t, k, v)) and none)
    with ((λ s u (bs, w). given w) and (λ s t u k (a, f). copied k f) and none)
    with statement-rules
    with ((λ s t u j (x, a, f) r k. (_, a_goto (parted k j) (f t a).1)) and (λ s t u j (x, a, f) r k. (_, a_gosub (parted k j) (f t a).1)) and none)
    with item-rules
    with ((λ s t u k q. (t, a_word k, q)) and also (λ s u q. (s, no_word, q)) statement-rules)
    with ((λ s t u w m. (t, w, m)) and none) with (relation-then (Key W "=") ForTo and none) with (relation-then (Key W "TO") TheStep and none)
    with ((λ s u w. w) and none)
    with ((λ s t u d (a, f) r k. (_, an_input_text k d f)) and (λ s t u w m r k. (_, an_input k (m s w).1)) and none)
    with ((λ s t u (n, w) (x, q, m) e. (_, a_store w (m t q e).1)) and also (λ s u (q, p) e. (_, an_immediate p e)) statement-rules)
    with ((λ s u k. tt) and (λ s u k. tt) and (λ s u k. tt) and (λ s t u k m. tt) and none)
    with related-rules with operand-rules more_of_sum ASum (λ s u m. m)
    with ((λ s t u c (x, i, m) r (j, p). let (y, is, l) = m t i in (y, (_, item_and p c is.1), l))
    and (λ s u k r (j, p). (s, (_, one_item p), (_, a_semicolon k))) and none)
    with ((λ s t u k (x, a, f). (_, some_step k (f t a).1)) and none)
    with ((λ s t u c (x, w, m) r (v, p). (_, variable_and p c (m t w).1)) and none)
    with ((λ s t u c (x, q, m) r (i, p) e. (_, member_and p c (m t q e).1)) and none)
    with ((λ s u (n, w) r c e. (_, a_list_from c w e)) and none)
    with none

rules-of : (x : ℕ) {cs : List (ℕ × Cases)} → Table cs → Rules W (Mean x) (choose cs [] x)
rules-of x none = none
rules-of x (more {c} {cs} f fs) = if-split (λ r. Rules W (Mean x) r) (eqb x c.0) (λ e. rw (eqb-true x c.0 e) f) (λ _. rules-of x fs)

-- What need not come may be nothing
data Stays : List (ℕ × Part) → Type 1 where
  none : Stays []
  more : {c : ℕ × Part} {cs : List (ℕ × Part)} → ((s : List ℕ) → c.1 s s) → Stays cs → Stays (c ∷ cs)

infixr 5 ◌beside◌
◌beside◌ : {c : ℕ × Part} {cs : List (ℕ × Part)} → ((s : List ℕ) → c.1 s s) → Stays cs → Stays (c ∷ cs)
◌beside◌ = more

optional-stays : Stays optional
optional-stays =
    (λ s r (a, p). (_, a_sum p)) beside (λ s r m. m) beside (λ s r (i, p). (s, (_, one_item p), (_, no_semicolon))) beside (λ s. (_, no_step))
    beside (λ s r (v, w). (_, variable_alone w)) beside (λ s r (q, p) e. (_, last_member p e)) beside (λ s r c e. (_, a_list c e)) beside none

stays : {cs : List (ℕ × Part)} → Stays cs → (x : ℕ) (s : List ℕ) → pick cs (λ s u. s ≡ u) x s s
stays none x s = refl
stays (more {c} {cs} f fs) x s = go (eqb x c.0) (stays fs x s)
  where
    go : (t : Bool) → pick cs (λ s u. s ≡ u) x s s → (elim t as (λ _. Part) [ true ↦ c.1 | false ↦ pick cs (λ s u. s ≡ u) x ]) s s
    go true i = f s
    go false i = i

pub left_out : (x : ℕ) → is_optional x ≡ true → (s : List ℕ) → Mean x s s
left_out x e s = rw (e, Mean) (stays optional-stays x s)

-- A stack: one after the other, from a text to what is left
pub data Means : List ℕ → List ℕ → List ℕ → Type 0 where
  none : {s : List ℕ} → Means [] s s
  more : {x : ℕ} {xs s t u : List ℕ} → Mean x s t → Means xs t u → Means (x ∷ xs) s u

pub all-left-out : (xs s : List ℕ) → all is_optional xs ≡ true → Means xs s s
all-left-out [] s e = none
all-left-out (x ∷ xs) s e =
    more (left_out x (and_left (is_optional x) (all is_optional xs) e) s) (all-left-out xs s (and_right (is_optional x) (all is_optional xs) e))

in_order : (x : ℕ) (xs : List ℕ) {s u : List ℕ} → Means (x ∷ xs) s u → Then x xs s u
in_order x [] (more m none) = m
in_order x (y ∷ ys) (more m q) = (_, m, in_order y ys q)

record Parted (xs ys s u : List ℕ) : Type 0 where
  at : List ℕ
  first : Means xs s at
  rest : Means ys at u

parted-at : (xs : List ℕ) {ys s u : List ℕ} → Means (xs ++ ys) s u → Parted xs ys s u
parted-at [] m = record { at = _; first = none; rest = m }
parted-at (x ∷ xs) (more m q) = let r = parted-at xs q in record { at = r.at; first = more m r.first; rest = r.rest }

-- A rule whose case it is makes its part
module _ (D : List ℕ → Token → List ℕ → Type 0) (P : Part) where
  rule-makes : (k : ℕ) (r : List ℕ) {s t u : List ℕ} → Rule D P k r → Spoken D k s t → Means r t u → P s u
  rule-makes k [] f w none = f _ _ w
  rule-makes k (x ∷ xs) f w m = f _ _ _ w (in_order x xs m)

  case-makes : (k : ℕ) (r : List ℕ) {cs : Cases} {s t u : List ℕ} → Rules D P cs → case_in cs k ≡ some r → Spoken D k s t → Means r t u → P s u
  case-makes k r none e w m = let z : ◌≡◌ {A = ℕ} 0 1 = cc in absurd (omega arith)
  case-makes k r {s} {t} {u} (more {c} {cs} f fs) e w m = go (eqb k c.0) refl e (λ i. case-makes k r fs i w m)
    where
      go : (b : Bool) → eqb k c.0 ≡ b → (if b then some c.1 else case_in cs k) ≡ some r → (case_in cs k ≡ some r → P s u) → P s u
      go true h i g =
          let j : c.1 ≡ r = cc in
          let h' = eqb-true k c.0 h in
          rule-makes k r (rw (h', ← j) f) w m
      go false h i g = g i

-- A word is of its sort: no sign has a number of another sort
sign-sort : {table : List (List ℕ)} {s u : List ℕ} {k : ℕ} → Word table s (sign k) u → leb 5 k && leb k 8 ≡ false
sign-sort (spaced w) = sign-sort w
sign-sort {table} (keyword {c} {d} {k} {cs} r) = let h = place-least 128 table (c ∷ d ∷ cs) k r.spelled in rw (le-leb 5 k (omega arith), lt-leb k 8 (omega arith))
sign-sort (pair {a} {b} {k} e) = of-pairs (λ x y n. leb 5 n && leb n 8 ≡ false) a b k refl refl refl e
sign-sort (symbol {b} e n) = no_symbol (λ n. leb 5 n && leb n 8) b refl e

no-sort : (k n : ℕ) → leb 5 n && leb n 8 ≡ true → leb 5 k && leb k 8 ≡ false → eqb k n ≡ false
no-sort k n e f = ne_eqb k n (λ i. false≢true (sym f ∙ rw i e))

spoken : {table : List (List ℕ)} {s u : List ℕ} (w : Token) → Word table s w u → Spoken (Word table) (sort_of w) s u
spoken (variable v) w = (v, w)
spoken (decimal n) w = (n, w)
spoken (hex n) w = (n, w)
spoken (string bs) w = (bs, w)
spoken (sign k) w = let h = sign-sort w in rw (no-sort k 5 refl h, pick) (rw (no-sort k 6 refl h, pick) (rw (no-sort k 7 refl h, pick) (rw (no-sort k 8 refl h, pick) w)))

pub turn-means : {s t u next : List ℕ} {w : Token} (stack : List ℕ) → turn (sort_of w) stack ≡ some next → W s w t → Means next t u → Means stack s u
unfolding turn
turn-means [] e w m = let z : ◌≡◌ {A = ℕ} 0 1 = cc in absurd (omega arith)
turn-means {s} {t} {u} {next} {w = v} (x ∷ xs) e w m = go (case_in (cases_of x) (sort_of v)) refl e (λ i. turn-means xs i w m)
  where
    go : (o : Option (List ℕ)) → case_in (cases_of x) (sort_of v) ≡ o
        → elim o [ some r ↦ some (r ++ xs) | nothing ↦ if is_optional x then turn (sort_of v) xs else nothing ] ≡ some next
        → (turn (sort_of v) xs ≡ some next → Means xs s u) → Means (x ∷ xs) s u
    go (some r) h i g =
        let j : r ++ xs ≡ next = cc in
        let n : Means (r ++ xs) t u = rw j m in
        let q = parted-at r n in
        more (case-makes W (Mean x) (sort_of v) r (rules-of x table) h (spoken v w) q.first) q.rest
    go nothing h i g =
        if-split (λ o. o ≡ some next → Means (x ∷ xs) s u) (is_optional x) (λ f n. more (left_out x f s) (g n))
        (λ _ n. let z : ◌≡◌ {A = ℕ} 0 1 = cc in absurd (omega arith)) i

pub command-means : {s t u next : List ℕ} {w : Token} → turn (sort_of w) (typed_command ∷ []) ≡ some next → C s w t → Means next t u → ALine s u
unfolding turn
command-means {s} {t} {u} {next} {w = v} e w m = go (case_in (cases_of typed_command) (sort_of v)) refl e
  where
    go : (o : Option (List ℕ)) → case_in (cases_of typed_command) (sort_of v) ≡ o
        → elim o [ some r ↦ some (r ++ []) | nothing ↦ nothing ] ≡ some next → ALine s u
    go (some r) h i =
        let j : r ≡ next = sym (append-nil r) ∙ cc in
        case-makes C ALine (sort_of v) r command-rules h (spoken v w) (rw j m)
    go nothing h i = let z : ◌≡◌ {A = ℕ} 0 1 = cc in absurd (omega arith)
