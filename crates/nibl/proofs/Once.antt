-- No line has two derivations: any two are made of the same productions, which take the same words at the same places.
-- Assumes nothing.
use Prim.Native.Nat.{ℕ}
use Prim.Native.String.{String}
use mathlib.Core.Path.{◌≡◌, refl, sym, ap, ◌∙◌, path_j}
use mathlib.Core.Bool.{Bool, false}
use mathlib.Core.List.{List, []}
use native.Mathlib.Omega.{arith}
use lib.Dec.{eqb}
use Rattle.nibl.specs.Words.{Token, sign, keywords, commands, number}
use Rattle.nibl.specs.Grammar.{May, no_word, a_word, Either, whole, parted, PrintWord, short_print, long_print, AnItem, a_string, a_stored, a_value, Items, one_item, more_items, LastSemicolon, no_semicolon, a_semicolon, AStep, no_step, some_step, Variables, one_variable, more_variables}
use Rattle.nibl.specs.Grammar.{Statement, a_let_var, a_let_stat, a_let_byte, a_let_text, a_let_copy, a_goto, a_gosub, a_return, a_print, an_if, a_do, an_until, a_for, a_next, an_input, an_input_text, a_remark, an_end}
use Rattle.nibl.specs.Grammar.{Members, last_member, more_members, Reply, last_reply, enough, more_reply, Line, a_blank, a_delete, a_store, a_new, a_clear, a_run, a_list, a_list_from, an_immediate}
use Rattle.nibl.specs.Readings.{ListReading, ReplyReading, LineReading}
use Rattle.nibl.specs.Tree.{Expr, Item, Stmt, Member, Typed}
use Rattle.nibl.specs.Derivation.{words_in, took, of_may, of_either, of_print_word, of_item, of_items, of_semicolon, of_step, of_variables, of_statement, of_members, of_reply, of_line}
use Rattle.nibl.proofs.Rules.{W}
use Rattle.nibl.proofs.Lines.{C}
use Rattle.nibl.proofs.Next.{next_is, next-at, next-spaces, ◌or◌, not_left, not_right, is_key, is_decimal}
use Rattle.nibl.proofs.Complete.{goes_on}
use Rattle.nibl.proofs.Whole.{listed, continues, statement-word, statement-complete}
use Rattle.nibl.proofs.Exact.{line-unique, reply-unique}
use Rattle.nibl.proofs.Derived.{Both, taken, kind, unlike, key-next, not-here, may-one, factor-ends, factor-one, relation-one}

-- what does not go on a statement goes on none of its parts
module _ (s : List ℕ) (h : next_is continues s ≡ false) where
  no_step_lem : next_is (is_key "STEP") s ≡ false
  no_step_lem = not_right (listed or is_key ";") (is_key "STEP") s h

  no-listed : next_is listed s ≡ false
  no-listed = not_left listed (is_key ";") s (not_left (listed or is_key ";") (is_key "STEP") s h)

  no_more : next_is goes_on s ≡ false
  no_more = not_left goes_on (is_key ",") s no-listed

-- Parts of statements
either-one : {one first second : String} {s t s' t' : List ℕ} → eqb (kind (sign (number one))) (kind (sign (number first))) ≡ false → s ≡ t
    → (d : Either W one first second s s') (e : Either W one first second t t') → Both (of_either W d) (of_either W e) s' t'
either-one o h (whole k) (whole j) = let p = taken keywords h k j in (cc p.0, p.1)
either-one o h (whole k) (parted j i) = unlike h k j o
either-one o h (parted k i) (whole j) = unlike (sym h) j k o
either-one o h (parted k i) (parted k' i') =
    let p = taken keywords h k k' in
    let q = taken keywords p.1 i i' in
    (cc (p.0, q.0), q.1)

print-one : {s t s' t' : List ℕ} → s ≡ t → (d : PrintWord W s s') (e : PrintWord W t t') → Both (of_print_word W d) (of_print_word W e) s' t'
print-one h (short_print k) (short_print j) = let p = taken keywords h k j in (cc p.0, p.1)
print-one h (short_print k) (long_print j) = unlike h k j refl
print-one h (long_print k) (short_print j) = unlike h k j refl
print-one h (long_print k) (long_print j) = let p = taken keywords h k j in (cc p.0, p.1)

item-one : {s t s' t' : List ℕ} {i : Item} → s ≡ t → (d : AnItem W s i s') (e : AnItem W t i t') → next_is goes_on s' ≡ false → next_is goes_on t' ≡ false
    → Both (of_item W d) (of_item W e) s' t'
item-one h (a_string w) (a_string v) f g = let p = taken keywords h w v in (cc p.0, p.1)
item-one h (a_stored k x) (a_stored j y) f g = let p = taken keywords h k j in (cc (p.0, factor-one p.1 x y), (factor-ends p.1 x y).1)
item-one h (a_value r) (a_value q) f g = let p = relation-one h r q f g in (cc p.0, p.1)

-- there is always a first
no_items : {A : Type 0} {s s' : List ℕ} {is : List Item} → Items W s is s' → is ≡ [] → A
no_items (one_item i) e = let z : ◌≡◌ {A = ℕ} 0 1 = cc in absurd (omega arith)
no_items (more_items i k is) e = let z : ◌≡◌ {A = ℕ} 0 1 = cc in absurd (omega arith)

items-one : {s t s' t' : List ℕ} {is : List Item} → s ≡ t → (d : Items W s is s') (e : Items W t is t') → next_is listed s' ≡ false → next_is listed t' ≡ false
    → Both (of_items W d) (of_items W e) s' t'
items-one {s'} {t'} h (one_item i) (one_item j) f g =
    let p = item-one h i j (not_left goes_on (is_key ",") s' f) (not_left goes_on (is_key ",") t' g) in
    (cc p.0, p.1)
items-one h (one_item i) (more_items j k is) f g = no_items is refl
items-one h (more_items i k is) (one_item j) f g = no_items is refl
items-one h (more_items i k is) (more_items i' k' is') f g =
    let p = item-one h i i' (next-at goes_on k) (next-at goes_on k') in
    let q = taken keywords p.1 k k' in
    let r = items-one q.1 is is' f g in
    (cc (p.0, q.0, r.0), r.1)

semicolon-listed : {s s' : List ℕ} {b : Bool} → LastSemicolon W s b s' → next_is continues s' ≡ false → next_is listed s ≡ false
semicolon-listed (no_semicolon {s}) f = no-listed s f
semicolon-listed (a_semicolon k) f = next-at listed k

semicolon-one : {s t s' t' : List ℕ} {b : Bool} → s ≡ t → (d : LastSemicolon W s b s') (e : LastSemicolon W t b t') → of_semicolon W d ≡ of_semicolon W e
semicolon-one h no_semicolon no_semicolon = refl
semicolon-one h (a_semicolon k) (a_semicolon j) = cc (taken keywords h k j).0

step-goes : {s s' : List ℕ} {a : Expr} → AStep W s a s' → next_is continues s' ≡ false → next_is goes_on s ≡ false
step-goes (no_step {s}) f = no_more s f
step-goes (some_step k r) f = next-at goes_on k

step-one : {s t s' t' : List ℕ} {a : Expr} → s ≡ t → (d : AStep W s a s') (e : AStep W t a t') → next_is continues s' ≡ false → next_is continues t' ≡ false
    → of_step W d ≡ of_step W e
step-one h no_step no_step f g = refl
step-one h (no_step {s}) (some_step k r) f g = not-here (is_key "STEP") (sym h) (key-next "STEP" k) (no_step_lem s f)
step-one h (some_step k r) (no_step {s}) f g = not-here (is_key "STEP") h (key-next "STEP" k) (no_step_lem s g)
step-one {s'} {t'} h (some_step k r) (some_step j q) f g =
    let p = taken keywords h k j in
    cc (p.0, (relation-one p.1 r q (no_more s' f) (no_more t' g)).0)

no-variables : {A : Type 0} {s vs s' : List ℕ} → Variables W s vs s' → vs ≡ [] → A
no-variables (one_variable w) e = let z : ◌≡◌ {A = ℕ} 0 1 = cc in absurd (omega arith)
no-variables (more_variables w k vs) e = let z : ◌≡◌ {A = ℕ} 0 1 = cc in absurd (omega arith)

variables-one : {s t vs s' t' : List ℕ} → s ≡ t → (d : Variables W s vs s') (e : Variables W t vs t') → of_variables W d ≡ of_variables W e
variables-one h (one_variable w) (one_variable v) = cc (taken keywords h w v).0
variables-one h (one_variable w) (more_variables v k vs) = no-variables vs refl
variables-one h (more_variables w k vs) (one_variable v) = no-variables vs refl
variables-one h (more_variables w k vs) (more_variables w' k' vs') =
    let p = taken keywords h w w' in
    let q = taken keywords p.1 k k' in
    cc (p.0, q.0, variables-one q.1 vs vs')

-- Statements
-- LET, before a word that it is not
let-one : {s t u v x y : List ℕ} {w : Token} → s ≡ t → is_key "LET" w ≡ false → (m : May W "LET" s u) (n : May W "LET" t v) (p : W u w x) (q : W v w y)
    → (of_may W m ≡ of_may W n) × (took W p ≡ took W q) × (x ≡ y)
let-one h e m n p q =
    let f = may-one "LET" h m n (next-at (is_key "LET") p ∙ e) (next-at (is_key "LET") q ∙ e) in
    let g = taken keywords f.1 p q in
    (f.0, g.0, g.1)

not-then : {s s' : List ℕ} {q : Stmt} → Statement W s q s' → (next_is goes_on s ≡ false) × (next_is (is_key "THEN") s ≡ false)
not-then {s} q =
    let f = statement-word q in
    let i = not_left (goes_on or is_key "THEN") is_decimal s (next-at (goes_on or is_key "THEN" or is_decimal) f.at ∙ f.fit) in
    (not_left goes_on (is_key "THEN") s i, not_right goes_on (is_key "THEN") s i)

-- what follows IF's relation
then-goes : {s t s' : List ℕ} {q : Stmt} → May W "THEN" s t → Statement W t q s' → next_is goes_on s ≡ false
then-goes no_word q = (not-then q).0
then-goes (a_word k) q = next-at goes_on k

statement-one : {s t s' t' : List ℕ} {q : Stmt} → s ≡ t → (d : Statement W s q s') (e : Statement W t q t') → next_is continues s' ≡ false → next_is continues t' ≡ false
    → of_statement W d ≡ of_statement W e
statement-one {s'} {t'} h (a_let_var m w k r) (a_let_var m' w' k' r') f g =
    let x = let-one h refl m m' w w' in
    let y = taken keywords x.2 k k' in
    cc (x.0, x.1, y.0, (relation-one y.1 r r' (no_more s' f) (no_more t' g)).0)
statement-one {s'} {t'} h (a_let_stat m w k r) (a_let_stat m' w' k' r') f g =
    let x = let-one h refl m m' w w' in
    let y = taken keywords x.2 k k' in
    cc (x.0, x.1, y.0, (relation-one y.1 r r' (no_more s' f) (no_more t' g)).0)
statement-one {s'} {t'} h (a_let_byte m w a k r) (a_let_byte m' w' a' k' r') f g =
    let x = let-one h refl m m' w w' in
    let y = taken keywords (factor-ends x.2 a a').1 k k' in
    cc (x.0, x.1, factor-one x.2 a a', y.0, (relation-one y.1 r r' (no_more s' f) (no_more t' g)).0)
statement-one h (a_let_text m w a k b) (a_let_text m' w' a' k' b') f g =
    let x = let-one h refl m m' w w' in
    let y = taken keywords (factor-ends x.2 a a').1 k k' in
    cc (x.0, x.1, factor-one x.2 a a', y.0, (taken keywords y.1 b b').0)
statement-one h (a_let_copy m w a k j b) (a_let_copy m' w' a' k' j' b') f g =
    let x = let-one h refl m m' w w' in
    let y = taken keywords (factor-ends x.2 a a').1 k k' in
    let z = taken keywords y.1 j j' in
    cc (x.0, x.1, factor-one x.2 a a', y.0, z.0, factor-one z.1 b b')
statement-one {s'} {t'} h (a_goto d r) (a_goto d' r') f g =
    let x = either-one refl h d d' in
    cc (x.0, (relation-one x.1 r r' (no_more s' f) (no_more t' g)).0)
statement-one {s'} {t'} h (a_gosub d r) (a_gosub d' r') f g =
    let x = either-one refl h d d' in
    cc (x.0, (relation-one x.1 r r' (no_more s' f) (no_more t' g)).0)
statement-one h (a_return k) (a_return k') f g = cc (taken keywords h k k').0
statement-one h (a_print p is l) (a_print p' is' l') f g =
    let x = print-one h p p' in
    let y = items-one x.1 is is' (semicolon-listed l f) (semicolon-listed l' g) in
    cc (x.0, y.0, semicolon-one y.1 l l')
statement-one h (an_if k r m q) (an_if k' r' m' q') f g =
    let x = taken keywords h k k' in
    let y = relation-one x.1 r r' (then-goes m q) (then-goes m' q') in
    let z = may-one "THEN" y.1 m m' (not-then q).1 (not-then q').1 in
    cc (x.0, y.0, z.0, statement-one z.1 q q' f g)
statement-one h (a_do k) (a_do k') f g = cc (taken keywords h k k').0
statement-one {s'} {t'} h (an_until k r) (an_until k' r') f g =
    let x = taken keywords h k k' in
    cc (x.0, (relation-one x.1 r r' (no_more s' f) (no_more t' g)).0)
statement-one h (a_for k w e r o q p) (a_for k' w' e' r' o' q' p') f g =
    let x = taken keywords h k k' in
    let y = taken keywords x.1 w w' in
    let z = taken keywords y.1 e e' in
    let a = relation-one z.1 r r' (next-at goes_on o) (next-at goes_on o') in
    let b = taken keywords a.1 o o' in
    let c = relation-one b.1 q q' (step-goes p f) (step-goes p' g) in
    cc (x.0, y.0, z.0, a.0, b.0, c.0, step-one c.1 p p' f g)
statement-one h (a_next k w) (a_next k' w') f g = let x = taken keywords h k k' in cc (x.0, (taken keywords x.1 w w').0)
statement-one h (an_input k vs) (an_input k' vs') f g = let x = taken keywords h k k' in cc (x.0, variables-one x.1 vs vs')
statement-one h (an_input_text k d a) (an_input_text k' d' a') f g =
    let x = taken keywords h k k' in
    let y = taken keywords x.1 d d' in
    cc (x.0, y.0, factor-one y.1 a a')
statement-one h (a_remark k a) (a_remark k' a') f g = cc (taken keywords h k k').0
statement-one h (an_end k) (an_end k') f g = cc (taken keywords h k k').0

-- and of one text there is one tree
statement-same : {s t s' t' : List ℕ} {p q : Stmt} → s ≡ t → (d : Statement W s p s') (e : Statement W t q t') → next_is continues s' ≡ false
    → next_is continues t' ≡ false → Both (of_statement W d) (of_statement W e) s' t'
statement-same {t} {t'} {p} {q} h d e f g =
    let i = statement-complete d f in
    let j = statement-complete e g in
    let k : p ≡ q = cc in
    (path_j (λ (x : Stmt) (l : p ≡ x). (e : Statement W t x t') → of_statement W d ≡ of_statement W e) (λ e. statement-one h d e f g) k e, cc)

-- Statement lists
members-one : {s t : List ℕ} {ms ns : List Member} → s ≡ t → (d : Members W s ms) (e : Members W t ns) → of_members W d ≡ of_members W e
members-one h (last_member p a) (last_member q b) = cc (statement-same h p q (next-spaces continues a) (next-spaces continues b)).0
members-one h (last_member p a) (more_members q k ns) =
    not-here (is_key ":") (sym (statement-same h p q (next-spaces continues a) (next-at continues k)).1) (key-next ":" k) (next-spaces (is_key ":") a)
members-one h (more_members p k ms) (last_member q b) =
    not-here (is_key ":") (statement-same h p q (next-at continues k) (next-spaces continues b)).1 (key-next ":" k) (next-spaces (is_key ":") b)
members-one h (more_members p k ms) (more_members q j ns) =
    let x = statement-same h p q (next-at continues k) (next-at continues j) in
    let y = taken keywords x.1 k j in
    cc (x.0, y.0, members-one y.1 ms ns)

-- Replies
reply-one : {n : ℕ} {s t : List ℕ} {es : List Expr} → s ≡ t → (d : Reply W n s es) (e : Reply W n t es) → of_reply W d ≡ of_reply W e
reply-one h (last_reply r a) (last_reply q b) = cc (relation-one h r q (next-spaces goes_on a) (next-spaces goes_on b)).0
reply-one h (last_reply r a) (enough q k) =
    not-here (is_key ",") (sym (relation-one h r q (next-spaces goes_on a) (next-at goes_on k)).1) (key-next "," k) (next-spaces (is_key ",") a)
reply-one h (enough r k) (last_reply q b) =
    not-here (is_key ",") (relation-one h r q (next-at goes_on k) (next-spaces goes_on b)).1 (key-next "," k) (next-spaces (is_key ",") b)
reply-one h (enough r k) (enough q j) =
    let x = relation-one h r q (next-at goes_on k) (next-at goes_on j) in
    cc (x.0, (taken keywords x.1 k j).0)
reply-one h (more_reply r k es) (more_reply q j fs) =
    let x = relation-one h r q (next-at goes_on k) (next-at goes_on j) in
    let y = taken keywords x.1 k j in
    cc (x.0, y.0, reply-one y.1 es fs)

-- Typed lines
line-one : {s t : List ℕ} {y : Typed} → s ≡ t → (d : Line W C s y) (e : Line W C t y) → of_line W C d ≡ of_line W C e
line-one h (a_blank a) (a_blank b) = refl
line-one h (a_delete w a) (a_delete v b) = cc (taken keywords h w v).0
line-one h (a_store w ms) (a_store v ns) = let x = taken keywords h w v in cc (x.0, members-one x.1 ms ns)
line-one h (a_new c a) (a_new b d) = cc (taken commands h c b).0
line-one h (a_clear c a) (a_clear b d) = cc (taken commands h c b).0
line-one h (a_run c a) (a_run b d) = cc (taken commands h c b).0
line-one h (a_list c a) (a_list b d) = cc (taken commands h c b).0
line-one h (a_list c a) (a_list_from b w d) = not-here is_decimal (sym (taken commands h c b).1) (next-at is_decimal w) (next-spaces is_decimal a)
line-one h (a_list_from c w a) (a_list b d) = not-here is_decimal (taken commands h c b).1 (next-at is_decimal w) (next-spaces is_decimal d)
line-one h (a_list_from c w a) (a_list_from b v d) = let x = taken commands h c b in cc (x.0, (taken keywords x.1 w v).0)
line-one h (an_immediate p a) (an_immediate q b) = cc (statement-one h p q (next-spaces continues a) (next-spaces continues b))

-- No line has two derivations
pub line-derived : {s : List ℕ} {y z : Typed} (d : LineReading s y) (e : LineReading s z) → of_line W C d ≡ of_line W C e
line-derived {s} {y} d e =
    path_j (λ (x : Typed) (p : y ≡ x). (e : LineReading s x) → of_line W C d ≡ of_line W C e) (line-one refl d) (line-unique d e) e

pub list-derived : {s : List ℕ} {ms ns : List Member} (d : ListReading s ms) (e : ListReading s ns) → of_members W d ≡ of_members W e
list-derived d e = members-one refl d e

pub reply-derived : {n : ℕ} {s : List ℕ} {es fs : List Expr} (d : ReplyReading n s es) (e : ReplyReading n s fs) → of_reply W d ≡ of_reply W e
reply-derived {n} {s} {es} d e =
    path_j (λ (x : List Expr) (p : es ≡ x). (e : ReplyReading n s x) → of_reply W d ≡ of_reply W e) (reply-one refl d) (reply-unique d e) e

-- so any two take the same words at the same places
pub line-words : {s : List ℕ} {y z : Typed} (d : LineReading s y) (e : LineReading s z) → words_in (of_line W C d) ≡ words_in (of_line W C e)
line-words d e = ap words_in (line-derived d e)

pub list-words : {s : List ℕ} {ms ns : List Member} (d : ListReading s ms) (e : ListReading s ns) → words_in (of_members W d) ≡ words_in (of_members W e)
list-words d e = ap words_in (list-derived d e)

pub reply-words : {n : ℕ} {s : List ℕ} {es fs : List Expr} (d : ReplyReading n s es) (e : ReplyReading n s fs) → words_in (of_reply W d) ≡ words_in (of_reply W e)
reply-words d e = ap words_in (reply-derived d e)
