-- Statements, statement lists, replies and typed lines: what the grammar reads, the readers find. Assumes nothing.
use Prim.Native.Nat.{ℕ, suc}
use Prim.Native.String.{String}
use mathlib.Core.Path.{◌≡◌, refl, sym, ap, ◌∙◌}
use mathlib.Core.Bool.{Bool, true, false, not, ◌||◌, false≢true}
use mathlib.Core.List.{List, [], ◌∷◌, ◌++◌}
use mathlib.Core.Option.{Option, some}
use native.Mathlib.Omega.{arith}
use lib.ListN.{length}
use lib.Dec.{leb, eqb}
use borrow.Author.Tests.{eqb-true, eq-eqb, not-true}
use Rattle.nibl.specs.Bytes.{is_space, is_capital, All, front, all}
use Rattle.nibl.specs.Words.{Token, decimal, sign, keywords, commands, number, begins, none_over, Keyword, spaced, keyword, pair, symbol}
use Rattle.nibl.specs.Grammar.{Key, May, no_word, a_word, Relation, Either, whole, parted, PrintWord, short_print, long_print, AnItem, a_string, a_stored, a_value, Items, one_item, more_items, no_semicolon, a_semicolon, no_step, some_step, Variables, one_variable, more_variables}
use Rattle.nibl.specs.Grammar.{Statement, a_let_var, a_let_stat, a_let_byte, a_let_text, a_let_copy, a_goto, a_gosub, a_return, a_print, an_if, a_do, an_until, a_for, a_next, an_input, an_input_text, a_remark, an_end, Members, last_member, more_members, Reply, last_reply, enough, more_reply, Line, a_blank, a_delete, a_store, a_new, a_clear, a_run, a_list, a_list_from, an_immediate}
use Rattle.nibl.specs.Tree.{Expr, Item, Stmt, let_var, let_stat, let_byte, goto, gosub, until, for, Member, Typed, immediate}
use Rattle.nibl.specs.found.Read.{Found, nothing, found, give, ◌>>=◌, relation, factor, read, a_relation, assigned, let_of, an_item, joined, printing, statement_of, a_statement, statement, ends_member, member, reading, replied, typed, key, cons_some, or_else, choose, step_in, wrong, got, a_decimal, command_cases, alone_statement, numbered, unnumbered}
use Rattle.nibl.specs.found.Read.{a_variable as variable_read}
use Rattle.nibl.proofs.Keywords.{first_of, rest_of, run-begins, of-table}
use Rattle.nibl.proofs.Words.{and_left, and_right, or-true, all_true, word-unspaced, word-complete, word-unique, retabled, of-pairs, no_symbol, no-word}
use Rattle.nibl.proofs.Rules.{W, it, Ok, nil, one, none_found, decimal-same}
use Rattle.nibl.proofs.Statements.{joined-eq, items-join, variables-join, statement-eq}
use Rattle.nibl.proofs.Lines.{C, command-same, reading-eq, replied-one, replied-more, typed-blank, typed-other}
use Rattle.nibl.proofs.Next.{next_is, next-at, next-spaces, ◌or◌, not_left, not_right, is_key, is_string, is_decimal, word_at, variable-at, decimal-at, string-at, string-not, decimal-not, key-at, key-not, then_at}
use Rattle.nibl.proofs.Complete.{goes_on, relation-first, factor-complete, relation-complete}

-- a word that may go on a statement
abbrev pub listed : Token → Bool
listed = goes_on or is_key ","

abbrev pub continues : Token → Bool
continues = listed or is_key ";" or is_key "STEP"

-- and with which none begins
abbrev unstated : Token → Bool
unstated = goes_on or is_key "THEN" or is_decimal

pub record First (s : List ℕ) : Type 0 where
  pub word : Token
  pub rest : List ℕ
  pub at : W s word rest
  pub fit : unstated word ≡ false

first : {s t : List ℕ} {w : Token} → unstated w ≡ false → W s w t → First s
first {t} {w} e h = record { word = w; rest = t; at = h; fit = e }

either_first : {one first second : String} {s s' : List ℕ} → unstated (sign (number one)) ≡ false → unstated (sign (number first)) ≡ false → Either W one first second s s' → First s
either_first e f (whole k) = first e k
either_first e f (parted k j) = first f k

let-first : {s t u : List ℕ} {w : Token} → unstated w ≡ false → May W "LET" s t → W t w u → First s
let-first e no_word w = first e w
let-first e (a_word k) w = first refl k

-- the word with which a statement begins
pub statement-word : {s s' : List ℕ} {q : Stmt} → Statement W s q s' → First s
statement-word (a_let_var m w k r) = let-first refl m w
statement-word (a_let_stat m w k r) = let-first refl m w
statement-word (a_let_byte m w f k r) = let-first refl m w
statement-word (a_let_text m w f k b) = let-first refl m w
statement-word (a_let_copy m w f k j g) = let-first refl m w
statement-word (a_goto e r) = either_first refl refl e
statement-word (a_gosub e r) = either_first refl refl e
statement-word (a_return k) = first refl k
statement-word (a_print (short_print k) is l) = first refl k
statement-word (a_print (long_print k) is l) = first refl k
statement-word (an_if k r m q) = first refl k
statement-word (a_do k) = first refl k
statement-word (an_until k r) = first refl k
statement-word (a_for k w e r t q p) = first refl k
statement-word (a_next k w) = first refl k
statement-word (an_input k vs) = first refl k
statement-word (an_input_text k d f) = first refl k
statement-word (a_remark k a) = first refl k
statement-word (an_end k) = first refl k

statement-first : {s s' : List ℕ} {q : Stmt} → Statement W s q s' → next_is unstated s ≡ false
statement-first q = let f = statement-word q in next-at unstated f.at ∙ f.fit

-- the readers, a step at a time
statement-step : {s t : List ℕ} {w : Token} → W s w t → statement s ≡ statement_of statement w t
unfolding a_statement
statement-step {s} w = statement-eq s ∙ word_at (statement_of statement) w

let-step : {s t u : List ℕ} {w : Token} → May W "LET" s t → W t w u → statement_of statement w u ≡ let_of w u → statement s ≡ let_of w u
let-step no_word w e = statement-step w ∙ e
let-step (a_word k) w e = statement-step k ∙ word_at let_of w

print-step : {s t : List ℕ} → PrintWord W s t → statement s ≡ printing t
print-step (short_print k) = statement-step k
print-step (long_print k) = statement-step k

made : (make : Expr → Stmt) {s s' : List ℕ} {a : Expr} → Relation W s a s' → next_is goes_on s' ≡ false → a_relation make s ≡ found (make a) s'
made make r h = then_at (read relation) _ _ (relation-complete r h)

assigned-step : (make : Expr → Stmt) {s t s' : List ℕ} {a : Expr} → Key W "=" s t → Relation W t a s' → next_is goes_on s' ≡ false → assigned make s ≡ found (make a) s'
assigned-step make k r h = key-at "=" _ _ k ∙ made make r h

item-complete : {s s' : List ℕ} {i : Item} → AnItem W s i s' → next_is goes_on s' ≡ false → an_item s ≡ found i s'
unfolding an_item
item-complete (a_string w) h = rw (string-at w)
item-complete (a_stored {s} k f) h = rw (string-not s (next-at is_string k)) (key-at "$" _ _ k ∙ then_at (read factor) _ _ (factor-complete f))
item-complete (a_value {s} r) h =
    let i = relation-first r in
    rw (string-not s (not_right (is_key "$") is_string s i)) (key-not "$" _ _ s (not_left (is_key "$") is_string s i) ∙ then_at (read relation) _ _ (relation-complete r h))

items-complete : {s s' : List ℕ} {is : List Item} → Items W s is s' → next_is listed s' ≡ false → joined an_item s ≡ found is s'
items-complete (one_item {s} {s'} i) h =
    joined-eq items-join s ∙ then_at an_item _ _ (item-complete i (not_left goes_on (is_key ",") s' h)) ∙ key-not "," _ _ s' (not_right goes_on (is_key ",") s' h)
items-complete (more_items {s} i k is) h =
    joined-eq items-join s ∙ then_at an_item _ _ (item-complete i (next-at goes_on k)) ∙ key-at "," _ _ k ∙ then_at (joined an_item) _ _ (items-complete is h)

variables-complete : {s s' : List ℕ} {vs : List ℕ} → Variables W s vs s' → next_is (is_key ",") s' ≡ false → joined variable_read s ≡ found vs s'
variables-complete (one_variable {s} {s'} w) h = joined-eq variables-join s ∙ then_at variable_read _ _ (variable-at w) ∙ key-not "," _ _ s' h
variables-complete (more_variables {s} w k vs) h =
    joined-eq variables-join s ∙ then_at variable_read _ _ (variable-at w) ∙ key-at "," _ _ k ∙ then_at (joined variable_read) _ _ (variables-complete vs h)

variables-first : {s s' : List ℕ} {vs : List ℕ} → Variables W s vs s' → next_is (is_key "$") s ≡ false
variables-first (one_variable w) = next-at (is_key "$") w
variables-first (more_variables w k vs) = next-at (is_key "$") w

-- what follows a statement, taken apart
module _ (s : List ℕ) (h : next_is continues s ≡ false) where
  no_step_lem : next_is (is_key "STEP") s ≡ false
  no_step_lem = not_right (listed or is_key ";") (is_key "STEP") s h

  no-semicolon : next_is (is_key ";") s ≡ false
  no-semicolon = not_right listed (is_key ";") s (not_left (listed or is_key ";") (is_key "STEP") s h)

  no-listed : next_is listed s ≡ false
  no-listed = not_left listed (is_key ";") s (not_left (listed or is_key ";") (is_key "STEP") s h)

  no_more : next_is goes_on s ≡ false
  no_more = not_left goes_on (is_key ",") s no-listed

pub statement-complete : {s s' : List ℕ} {q : Stmt} → Statement W s q s' → next_is continues s' ≡ false → statement s ≡ found q s'
statement-complete (a_let_var {s'} {v} m w k r) h = let-step m w refl ∙ assigned-step (let_var v) k r (no_more s' h)
statement-complete (a_let_stat {s'} m w k r) h = let-step m w refl ∙ assigned-step let_stat k r (no_more s' h)
statement-complete (a_let_byte {s'} {a} m w f k r) h =
    let-step m w refl ∙ then_at (read factor) _ _ (factor-complete f) ∙ assigned-step (let_byte a) k r (no_more s' h)
statement-complete (a_let_text {s'} m w f k b) h =
    let-step m w refl ∙ then_at (read factor) _ _ (factor-complete f) ∙ key-at "=" _ _ k ∙ rw (string-at b)
statement-complete (a_let_copy {y} m w f k j g) h =
    let-step m w refl ∙ then_at (read factor) _ _ (factor-complete f) ∙ key-at "=" _ _ k
    ∙ rw (string-not y (next-at is_string j)) (key-at "$" _ _ j ∙ then_at (read factor) _ _ (factor-complete g))
statement-complete (a_goto {s'} (whole k) r) h = statement-step k ∙ made goto r (no_more s' h)
statement-complete (a_goto {s'} (parted k j) r) h = statement-step k ∙ key-at "TO" _ _ j ∙ made goto r (no_more s' h)
statement-complete (a_gosub {s'} (whole k) r) h = statement-step k ∙ made gosub r (no_more s' h)
statement-complete (a_gosub {s'} (parted {t} k j) r) h =
    statement-step k ∙ key-not "TO" _ _ t (next-at (is_key "TO") j) ∙ key-at "SUB" _ _ j ∙ made gosub r (no_more s' h)
statement-complete (a_return k) h = statement-step k
statement-complete (a_print {s'} p is no_semicolon) h =
    print-step p ∙ then_at (joined an_item) _ _ (items-complete is (no-listed s' h)) ∙ key-not ";" _ _ s' (no-semicolon s' h)
statement-complete (a_print p is (a_semicolon k)) h = print-step p ∙ then_at (joined an_item) _ _ (items-complete is (next-at listed k)) ∙ key-at ";" _ _ k
statement-complete (an_if {u} k r no_word q) h =
    let i = statement-first q in
    let j = not_left (goes_on or is_key "THEN") is_decimal u i in
    statement-step k ∙ then_at (read relation) _ _ (relation-complete r (not_left goes_on (is_key "THEN") u j)) ∙ key-not "THEN" _ _ u (not_right goes_on (is_key "THEN") u j)
    ∙ then_at statement _ _ (statement-complete q h)
statement-complete (an_if k r (a_word t) q) h =
    statement-step k ∙ then_at (read relation) _ _ (relation-complete r (next-at goes_on t)) ∙ key-at "THEN" _ _ t ∙ then_at statement _ _ (statement-complete q h)
statement-complete (a_do k) h = statement-step k
statement-complete (an_until {s'} k r) h = statement-step k ∙ made until r (no_more s' h)
statement-complete (a_for {s'} k w e r t q no_step) h =
    statement-step k ∙ then_at variable_read _ _ (variable-at w) ∙ key-at "=" _ _ e ∙ then_at (read relation) _ _ (relation-complete r (next-at goes_on t))
    ∙ key-at "TO" _ _ t ∙ then_at (read relation) _ _ (relation-complete q (no_more s' h)) ∙ key-not "STEP" _ _ s' (no_step_lem s' h)
statement-complete (a_for {s'} {v} {a} {b} k w e r t q (some_step j x)) h =
    statement-step k ∙ then_at variable_read _ _ (variable-at w) ∙ key-at "=" _ _ e ∙ then_at (read relation) _ _ (relation-complete r (next-at goes_on t))
    ∙ key-at "TO" _ _ t ∙ then_at (read relation) _ _ (relation-complete q (next-at goes_on j)) ∙ key-at "STEP" _ _ j ∙ made (for v a b) x (no_more s' h)
statement-complete (a_next k w) h = statement-step k ∙ then_at variable_read _ _ (variable-at w)
statement-complete (an_input {t} {s'} k vs) h =
    statement-step k ∙ key-not "$" _ _ t (variables-first vs) ∙ then_at (joined variable_read) _ _ (variables-complete vs (not_right goes_on (is_key ",") s' (no-listed s' h)))
statement-complete (an_input_text k d f) h = statement-step k ∙ key-at "$" _ _ d ∙ then_at (read factor) _ _ (factor-complete f)
statement-complete (a_remark k a) h = statement-step k ∙ rw (all_true a)
statement-complete (an_end k) h = statement-step k

-- Statement lists
pub member-last : {s t : List ℕ} {q : Stmt} → Statement W s q t → All is_space t → member s ≡ found (record { statement = q; left = 0 }) []
unfolding member
member-last {s} p a = then_at statement ends_member s (statement-complete p (next-spaces continues a)) ∙ rw (all_true a)

pub member-more : {s t u : List ℕ} {q : Stmt} → Statement W s q t → Key W ":" t u → member s ≡ found (record { statement = q; left = suc (length u) }) u
unfolding member
member-more {s} p k = then_at statement ends_member s (statement-complete p (next-at continues k)) ∙ rw (word-unspaced keywords k) (key-at ":" _ _ k)

pub reading-complete : {s : List ℕ} {ms : List Member} → Members W s ms → reading s ≡ some ms
reading-complete (last_member {s} p a) = reading-eq s ∙ rw (member-last p a)
reading-complete (more_members {s} {u} {q} p k ms) =
    reading-eq s ∙ rw (member-more p k) (ap (cons_some (record { statement = q; left = suc (length u) })) (reading-complete ms))

-- Replies
pub replied-complete : {n : ℕ} {s : List ℕ} {es : List Expr} → Reply W n s es → replied n s ≡ some es
replied-complete (last_reply {s} r a) = replied-one s ∙ rw (relation-complete r (next-spaces goes_on a)) (rw (all_true a))
replied-complete (enough {s} r k) = replied-one s ∙ rw (relation-complete r (next-at goes_on k)) (rw (word-unspaced keywords k, key-at "," _ _ k))
replied-complete (more_reply {n} {s} {u} {a} r k es) =
    let e : (read relation >>= (λ b. key "," (give b))) s ≡ found a u = then_at (read relation) _ _ (relation-complete r (next-at goes_on k)) ∙ key-at "," _ _ k in
    replied-more n s ∙ rw e (ap (cons_some a) (replied-complete es))

-- Typed lines
-- a command is no number
command-undecimal : {s t : List ℕ} {k : ℕ} → C s (sign k) t → a_decimal s ≡ nothing
command-undecimal {s} c =
    none_found (it (decimal-same s)) (λ n u w.
    let e = (word-unique commands c (retabled keywords commands refl w)).0 in
    let z : ◌≡◌ {A = ℕ} 0 1 = cc in omega arith)

pub command-step : {s t : List ℕ} {k : ℕ} → C s (sign k) t → typed s ≡ choose command_cases (λ u. alone_statement s) k t
command-step {s} c = typed-other s (word-unspaced commands c) ∙ rw (command-undecimal c, word-complete commands c)

-- nor the beginning of a statement: where a command stands, no keyword begins
abbrev meets : List ℕ → List ℕ → Bool
meets v w = begins v w || begins w v

both-begin : (v w s : List ℕ) → begins v s ≡ true → begins w s ≡ true → meets v w ≡ true
both-begin [] w s p q = refl
both-begin (c ∷ v) [] s p q = refl
both-begin (c ∷ v) (d ∷ w) [] p q = absurd (false≢true p)
both-begin (c ∷ v) (d ∷ w) (b ∷ s) p q =
    let e = eqb-true c b (and_left (eqb c b) (begins v s) p) in
    let f = eqb-true d b (and_left (eqb d b) (begins w s) q) in
    rw (e, f, eq-eqb b b refl) (both-begin v w s (and_right (eqb c b) (begins v s) p) (and_right (eqb d b) (begins w s) q))

apart : (w s : List ℕ) → begins w s ≡ true → (vs : List (List ℕ)) → all (λ (v : List ℕ). not (meets v w)) vs ≡ true → none_over 1 vs s ≡ true
unfolding none_over
apart w s h [] a = refl
apart w s h (v ∷ vs) a = rw (go (begins v s) refl) (apart w s h vs (and_right (not (meets v w)) _ a))
  where
    go : (t : Bool) → begins v s ≡ t → (leb (length v) 1 || not (begins v s)) ≡ true
    go true e = absurd (false≢true (sym (not-true (meets v w) (and_left (not (meets v w)) _ a)) ∙ both-begin v w s e h))
    go false e = rw (e, or-true (leb (length v) 1))

pub no-keyword : (c b k : ℕ) (cs s : List ℕ) → Keyword commands (c ∷ b ∷ cs) k s → step_in keywords (c ∷ b ∷ cs ++ s) ≡ wrong
no-keyword c b k cs s r =
    let w : List ℕ = c ∷ b ∷ cs in
    no-word keywords c (b ∷ cs ++ s) (first_of r.each) (first_of (rest_of r.each))
    (apart w (front is_capital (w ++ s)) (run-begins r.each s) keywords
    (of-table (λ x. all (λ (v : List ℕ). not (meets v x)) keywords) 128 commands w k refl r.spelled))

no-command : {s t u : List ℕ} {k : ℕ} {w : Token} (d : List ℕ → Option Typed) → C s (sign k) t → step_in keywords s ≡ got w u → choose command_cases d k ≡ d
unfolding step_in
no-command d (spaced c) e = no-command d c e
no-command d (keyword {c} {d = b} {k} {cs} {s} r) e = let f = no-keyword c b k cs s r in let z : ◌≡◌ {A = ℕ} 0 1 = cc in absurd (omega arith)
no-command d (pair {a} {b} {k} h) e = of-pairs (λ x y n. choose command_cases d n ≡ d) a b k refl refl refl h
no-command d (symbol {b} h n) e =
    rw (no_symbol (λ x. eqb x 128) b refl h, no_symbol (λ x. eqb x 129) b refl h, no_symbol (λ x. eqb x 130) b refl h, no_symbol (λ x. eqb x 131) b refl h)

-- so where a word stands the line is no command
pub uncommanded : {s u : List ℕ} {w : Token} → W s w u → unnumbered s ≡ alone_statement s
uncommanded {s} w = go (it (command-same s))
  where
    go : {f : Found ℕ} → Ok (λ k t. C s (sign k) t) f → or_else f (choose command_cases (λ t. alone_statement s)) alone_statement s ≡ alone_statement s
    go nil = refl
    go (one {s = t} c) = ap (λ (r : List ℕ → Option Typed). r t) (no-command (λ t. alone_statement s) c (word-complete keywords w))

immediate-complete : {s t : List ℕ} {q : Stmt} → Statement W s q t → All is_space t → typed s ≡ some (immediate q)
immediate-complete {s} q a =
    let f = statement-word q in
    typed-other s (word-unspaced keywords f.at) ∙ rw (decimal-not s (not_right (goes_on or is_key "THEN") is_decimal s (statement-first q)))
    (uncommanded f.at ∙ rw (statement-complete q (next-spaces continues a)) (rw (all_true a)))

numbered_step : {s t : List ℕ} {n : ℕ} → W s (decimal n) t → typed s ≡ numbered n t
numbered_step {s} w = typed-other s (word-unspaced keywords w) ∙ rw (decimal-at w)

members-unspaced : {s : List ℕ} {ms : List Member} → Members W s ms → all is_space s ≡ false
members-unspaced (last_member q a) = word-unspaced keywords (statement-word q).at
members-unspaced (more_members q k ms) = word-unspaced keywords (statement-word q).at

pub typed-complete : {s : List ℕ} {y : Typed} → Line W C s y → typed s ≡ some y
typed-complete (a_blank {s} a) = typed-blank s (all_true a)
typed-complete (a_delete w a) = numbered_step w ∙ rw (all_true a, numbered)
typed-complete (a_store w ms) = numbered_step w ∙ rw (members-unspaced ms, numbered) (rw (reading-complete ms))
typed-complete (a_new c a) = command-step c ∙ rw (all_true a)
typed-complete (a_clear c a) = command-step c ∙ rw (all_true a)
typed-complete (a_run c a) = command-step c ∙ rw (all_true a)
typed-complete (a_list {t} c a) = command-step c ∙ rw (decimal-not t (next-spaces is_decimal a)) (rw (all_true a))
typed-complete (a_list_from c w a) = command-step c ∙ rw (decimal-at w) (rw (all_true a))
typed-complete (an_immediate q a) = immediate-complete q a
