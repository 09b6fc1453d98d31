-- One law for each way out of the readers of statements. Assumes nothing.
use Rattle.std.specs.Prelude.{if◌then◌else◌}
use Rattle.std.specs.Prelude.{Some, None}
use Prim.Native.Nat.{ℕ, suc, ◌+◌, ◌-◌, ◌≤◌, ◌<◌}
use Prim.Native.String.{String}
use mathlib.Core.Path.{◌≡◌, refl, sym, ap, subst, ◌∙◌}
use mathlib.Core.Bool.{Bool, true, false}
use mathlib.Core.List.{List, [], ◌∷◌, ◌++◌, append_assoc}
use native.Mathlib.Omega.{arith}
use borrow.Author.Tests.{ne_eqb, leb-true}
use denote.Enum.Declared.{tag_of}
use types.Run.{OneOf, miss}
use lib.ListN.{length, drop, get_or, set, length-append, length-map, drop_of_length-le}
use lib.Seq.{sets, set-set, set_comm, drop-cons}
use lib.Dec.{eqb, leb}
use Rattle.nibl.specs.Bytes.{is_text, all}
use Rattle.nibl.specs.Words.{Token, variable, decimal, hex, string, sign, number, first_keyword}
use Rattle.nibl.specs.Tree.{Expr, const, Item, text as text_item, stored, value}
use Rattle.nibl.specs.Tree.{Stmt, let_var, let_stat, let_byte, let_copy, let_text, goto, gosub, until, return, do_loop, remark, end, print, if_then, for, next, input, input_text}
use Rattle.nibl.specs.found.Read.{FrontWord, Found, nothing, found, Reader, on_step, by_word, choose, and_then, ◌>>=◌, or_else, a_variable, a_string, a_sign, fail, give, if_key, key, Part, read, factor, relation, a_relation, assigned, let_cases, let_of, an_item, joined, printing, for_to, inputting, remarking, statement, a_statement, statement_of, statement_cases}
use Rattle.nibl.proofs.Words.{and_left, and_right}
use Rattle.nibl.proofs.Statements.{statement-eq, joined-eq, items-join, variables-join}
use Rattle.word.specs.declared.Cursor.{Cursor}
use Rattle.relation.specs.Code.{values}
use Rattle.codes.specs.Codes.{op, code_constant, code_copy_string, code_do, code_end, code_for, code_gosub, code_goto, code_if, code_input, code_input_string, code_input_variable, code_next, code_print_byte, code_print_end, code_print_number, code_print_room, code_print_string, code_return, code_set_byte, code_set_stat, code_set_variable, code_store_string, code_string_byte, code_until}
use Rattle.relation.specs.Makes.{ahead, need, filled, Written, written, Gives, stopped, refused, given, Makes, Leads, onto, only, bare, Over, Stood, stood, Absent, absent, KeyIs, there, SignIs}
use Rattle.relation.specs.Made.{Made}
use Rattle.relation.proofs.Readers.{then_found, then-nothing}
use Rattle.relation.proofs.Signs.{stood-over, NoneOf, none_left, ◌but◌}
use Rattle.relation.proofs.States.{filled-need, written-ahead, written-need}
use Rattle.reader.specs.Code.{texts, item_code, items_code, compile}
use Rattle.reader.specs.Forms.{halted, filled_by, Room, Spends, Heads, heads, KindIs, Unless, unless, MayIs, Puts, puts, Counted, refused as unread, counted, Countable, copying, going, ending, stepping, variables_into, iffing, RemarkIs, FrontIs, assigns, symbol, when, keyword, other, Long}
use Rattle.reader.specs.declared.StatementFront.TheVariants as front
use Rattle.reader.specs.declared.Kind.{Kind}
use Rattle.reader.specs.declared.Kind.TheVariants as kind
use Rattle.reader.specs.contracts.Kind.{the_type}
use Rattle.reader.proofs.Spending.{need-mono, after, then-on, renamed, added, spent, looser, same-as, led-by, led-here, led-over, failed, missing, past-key, if_past, if-not, if-may, all-put, puts-few, puts_none, puts_then, written-puts, room-low, room-spent, room-reads, room-over, room-may, may-low, room-written, Proceeds}
use Rattle.reader.proofs.Heads.{heads-over, heads-leads, heads-absent, headless-absent, heads-string, heads-sign, heads-size, heads-long, stood-unless}

-- Readers
module _ {A B : Type 0} (name : String) (F G : Reader A) (k : A → Reader B) (q : Reader B) (h : (s : List ℕ) → q s ≡ (G >>= k) s) where
  by-test : (b : Bool) (s t : List ℕ) → (if b then F >>= k else (λ u. q s)) t ≡ and_then ((if b then F else (λ u. G s)) t) k
  unfolding ◌>>=◌
  by-test true s t = refl
  by-test false s t = h s

  by_sign : (f : Found ℕ) (s : List ℕ) → or_else f (choose ((number name, F >>= k) ∷ []) (λ u. q s)) q s ≡ and_then (or_else f (choose ((number name, F) ∷ []) (λ u. G s)) G s) k
  unfolding ◌>>=◌
  by_sign nothing s = h s
  by_sign (found n t) s = by-test (eqb n (number name)) s t

  -- what is made of either
  if-mapped : (s : List ℕ) → if_key name (F >>= k) q s ≡ (if_key name F G >>= k) s
  unfolding if_key ◌>>=◌
  if-mapped s = by_sign (a_sign s) s

module _ {X A : Type 0} {text : List ℕ} where
  string-leads : (K : X → List ℕ → Reader A) (Q : X → Reader A) {bs : List ℕ} {r m : Made} → Stood a_string bs text r m
      → Leads (λ x s. or_else (a_string s) (K x) (Q x) s) (λ x. K x bs) text r m
  string-leads K Q (stood {c} e l h) = onto (λ x. ap (λ f. or_else f (K x) (Q x) (drop c.at text)) e) (λ i. h)

  unstring-leads : (K : X → List ℕ → Reader A) (Q : X → Reader A) {r : Made} → Absent a_string text r → Leads (λ x s. or_else (a_string s) (K x) (Q x) s) Q text r r
  unstring-leads K Q stopped = stopped
  unstring-leads K Q (absent {c} e) = onto (λ x. ap (λ f. or_else f (K x) (Q x) (drop c.at text)) e) (λ i. i)

module _ {A B : Type 0} {text : List ℕ} {F : Reader A} (K : A → Reader B) where
  stood-leads : {a : A} {r m : Made} → Stood F a text r m → Leads (only (F >>= K)) (only (K a)) text r m
  stood-leads (stood e l h) = onto (λ x. then_found F K _ e) (λ i. h)

  absent-then : {r : Made} → Absent F text r → Absent (F >>= K) text r
  absent-then stopped = stopped
  absent-then (absent e) = absent (then-nothing F K _ e)

stood-give : {A : Type 0} {text : List ℕ} {F : Reader A} {a : A} {r m : Made} → Stood F a text r m → Leads (only F) (only (give a)) text r m
stood-give (stood e l h) = onto (λ x. e) (λ i. h)

unless-key : {k : ℕ} {text : List ℕ} {r : Made} → Unless k text r → KeyIs k text r None
unless-key halted = stopped
unless-key (unless h) = refused h

-- a number in a list of cases, or in none of them
pub case_at : {A : Type 0} (cs : List (ℕ × Reader A)) {code : A → List ℕ} {text ops ops' : List ℕ} {r s : Made} {n k j : ℕ} → k ≡ j
    → Spends n (only (choose cs fail j)) bare code text ops r ops' s → Spends n (only (choose cs fail k)) bare code text ops r ops' s
case_at cs e a = rw e a

pub no-choice : {A : Type 0} {k : ℕ} {cs : List (ℕ × A)} {d : A} → NoneOf k cs → choose cs d k ≡ d
no-choice none_left = refl
no-choice {k} (◌but◌ {n} d h) = rw (ne_eqb k n d) (no-choice h)

pub case-none : {A : Type 0} {cs : List (ℕ × Reader A)} {code : A → List ℕ} {text ops ops' : List ℕ} {k n : ℕ} (r : Made) → NoneOf k cs
    → Spends n (only (choose cs fail k)) bare code text ops r ops' None
case-none r h = failed r (λ x s. ap (λ (q : Reader _). q s) (no-choice h))

filled-by : (text : List ℕ) (n : ℕ) (r : Made) → filled_by n r ≤ need n text r
filled-by text n None = omega arith
filled-by text n (Some (c, o)) = omega arith

abbrev valued : Reader Item
valued = read relation >>= (λ a. give (value a))

abbrev keyed_item : Reader Item
keyed_item = if_key "$" (read factor >>= (λ a. give (stored a))) valued

abbrev limited : ℕ → Expr → Expr → Reader Stmt
limited n a b = if_key "STEP" (a_relation (for n a b)) (give (for n a b (const 1)))

abbrev counting : ℕ → Reader Stmt
counting n = key "=" (read relation >>= (λ a. key "TO" (read relation >>= limited n a)))

module _ {text : List ℕ} where
  -- A relation or a factor, and an operation
  pub with-is : (p : Part) {ops ops1 ops2 : List ℕ} {r e s : Made} {v : ℕ} → Makes (read p) values text ops r ops1 e → Written v ops1 e ops2 s
      → Spends 1 (only (read p)) bare (λ a. values a ++ (v ∷ [])) text ops r ops2 s
  with-is p y w = added {i = 0} (omega arith) (spent y) w

  pub assigned-is : (v : ℕ) {ops ops1 : List ℕ} {r e s : Made} → KeyIs (number "=") text r e → Spends 1 (only (read relation)) bare (λ a. values a ++ (v ∷ [])) text ops e ops1 s
      → Spends 0 (only (key "=" (read relation))) bare (λ a. values a ++ (v ∷ [])) text ops r ops1 s
  assigned-is v k y = past-key "=" (omega arith) k y

  assigning : (v : ℕ) {X : Type 0} {pre : X → List ℕ} {ops ops1 : List ℕ} {r s : Made} {n : ℕ} (make : X → Expr → Stmt)
      → ((x : X) (a : Expr) → compile (make x a) ≡ pre x ++ (values a ++ (v ∷ []))) → Spends n (only (key "=" (read relation))) bare (λ a. values a ++ (v ∷ [])) text ops r ops1 s
      → Spends n (λ x. assigned (make x)) pre compile text ops r ops1 s
  unfolding ◌>>=◌
  assigning v make c y = same-as (λ x s. if-mapped "=" (read relation) fail (λ a. give (make x a)) fail (λ t. refl) s) (renamed make c y)

  -- Assignments
  module _ {ops ops1 : List ℕ} {r s : Made} where
    pub assigns-is : (n v : ℕ) → v ≡ op code_set_variable n → Spends 0 (only (key "=" (read relation))) bare (λ a. values a ++ (v ∷ [])) text ops r ops1 s
        → Spends 0 (only (assigned (let_var n))) bare compile text ops r ops1 s
    unfolding compile
    assigns-is n v e y = assigning v (λ x. let_var n) (λ x a. rw e) y

    pub stat-is : Spends 0 (only (key "=" (read relation))) bare (λ a. values a ++ (op code_set_stat 0 ∷ [])) text ops r ops1 s
        → Spends 0 (only (assigned let_stat)) bare compile text ops r ops1 s
    unfolding compile
    stat-is y = assigning (op code_set_stat 0) (λ x. let_stat) (λ x a. refl) y

    pub byte-is : {ops2 : List ℕ} {a : Made} → Makes (read factor) values text ops r ops1 a → Spends 0 (only (key "=" (read relation))) bare (λ b. values b ++ (op code_set_byte 0 ∷ [])) text ops1 a ops2 s
        → Spends 0 (only (read factor >>= (λ b. assigned (let_byte b)))) bare compile text ops r ops2 s
    unfolding compile
    byte-is x y = then-on {i = 0} {j = 0} (omega arith) (spent x) (assigning (op code_set_byte 0) let_byte (λ a b. refl) y)

    pub text-is : {ops2 : List ℕ} {a e : Made} → Makes (read factor) values text ops r ops1 a → KeyIs (number "=") text a e → Spends 0 copying values compile text ops1 e ops2 s
        → Spends 0 (only (read factor >>= (λ b. key "=" (copying b)))) bare compile text ops r ops2 s
    text-is x k y = then-on {i = 0} {j = 0} (omega arith) (spent x) (past-key "=" (omega arith) k y)

  pub copy-text : {bs ops ops1 ops2 : List ℕ} {r m t s : Made} {v : ℕ} → v ≡ op code_store_string (length bs + 1) → Heads (string bs) text r m → Puts (v ∷ texts code_string_byte bs) ops m ops1 t
      → Written (op code_string_byte 13) ops1 t ops2 s → Spends 0 copying values compile text ops r ops2 s
  unfolding compile
  copy-text {bs} e h p w =
      led-by (2 + length bs) (omega (arith, length-append (texts code_string_byte bs) (op code_string_byte 13 ∷ []), length-map bs (λ b. op code_string_byte b))) (omega (arith, (heads-over h).low)) (heads-size h)
      (string-leads (λ a cs. give (let_text a cs)) _ (heads-string h)) (all-put (λ a. let_text a bs) (λ a. rw e) (puts_then p w))

  -- the room for a string
  pub string_fits : {bs ops : List ℕ} {r m : Made} {n : ℕ} → Room n text ops r → Heads (string bs) text r m → filled_by (1 + length bs) m ≤ length ops
  string_fits {bs} {r} {m} {n} a h =
      omega (arith, a.fits, need-mono text r 0 n (omega arith), heads-size h 0, need-mono text m (1 + length bs) (2 + length bs + 0) (omega arith), filled-by text (1 + length bs) m)

  pub string-more : (code : ℕ) {bs ops ops1 : List ℕ} {r m t : Made} {n v : ℕ} → Room n text ops r → Heads (string bs) text r m → Puts (v ∷ texts code bs) ops m ops1 t
      → length ops1 ≡ length ops → filled t ≤ length ops1
  string-more code {bs} {r} {m} {t} {n} a h p e =
      omega (arith, a.fits, need-mono text r 0 n (omega arith), heads-size h 0, need-mono text m (suc (length (texts code bs)) + 1) (2 + length bs + 0) (omega (arith, length-map bs (λ b. op code b))), puts-few text p 1, filled-need text t)

  pub copy-other : {ops ops1 : List ℕ} {r d s : Made} → Absent a_string text r → KeyIs (number "$") text r d
      → Spends 1 (only (read factor)) bare (λ a. values a ++ (op code_copy_string 0 ∷ [])) text ops d ops1 s → Spends 0 copying values compile text ops r ops1 s
  unfolding compile
  copy-other h k y =
      led-here (unstring-leads (λ a cs. give (let_text a cs)) _ h) (past-key "$" (omega arith) k (renamed let_copy (λ a b. refl) y))

  -- a word that begins no assignment, or no statement
  pub unkinded : {A : Type 0} (k : Token → Reader A) → ((bs : List ℕ) → k (string bs) ≡ fail) → ((n : ℕ) → k (decimal n) ≡ fail) → ((n : ℕ) → k (hex n) ≡ fail)
      → {r : Made} (w : Kind) → KindIs text r w → OneOf (1 ∷ 3 ∷ []) (tag_of the_type w) → Absent (by_word k) text r
  unkinded k f g i (kind.Variable v m) h t = absurd (miss (1 ∷ 3 ∷ []) 0 tt t)
  unkinded k f g i (kind.Text a b m) h t = heads-absent k (f _) h.0
  unkinded k f g i (kind.Sign n m) h t = absurd (miss (1 ∷ 3 ∷ []) 2 tt t)
  unkinded k f g i kind.Other h t = headless-absent k g i h

  module _ {ops ops1 : List ℕ} {r m s : Made} where
    pub let-variable : {n : ℕ} (v : ℕ) → v ≡ op code_set_variable n → Heads (variable n) text r m → Spends 0 (only (key "=" (read relation))) bare (λ a. values a ++ (v ∷ [])) text ops m ops1 s
        → Spends 0 (only (by_word let_of)) bare compile text ops r ops1 s
    let-variable v e h y = led-over (omega arith) (heads-over h) (heads-leads (λ x. let_of) h) (assigns-is _ v e y)

    pub let-sign : {k : ℕ} → Heads (sign k) text r m → Spends 0 (only (choose let_cases fail k)) bare compile text ops m ops1 s
        → Spends 0 (only (by_word let_of)) bare compile text ops r ops1 s
    let-sign h y = led-over (omega arith) (heads-over h) (heads-leads (λ x. let_of) h) y

  pub let-none : {ops ops1 : List ℕ} {r : Made} (w : Kind) → KindIs text r w → OneOf (1 ∷ 3 ∷ []) (tag_of the_type w)
      → Spends 0 (only (by_word let_of)) bare compile text ops r ops1 None
  let-none w h t = missing (unkinded let_of (λ bs. refl) (λ n. refl) (λ n. refl) w h t)

  -- GO
  module _ {ops ops1 : List ℕ} {r m s : Made} {k : ℕ} (h : SignIs text r (Some (k, m))) where
    pub go-to-is : k ≡ number "TO" → Spends 1 (only (read relation)) bare (λ a. values a ++ (op code_goto 0 ∷ [])) text ops m ops1 s → Spends 0 (only going) bare compile text ops r ops1 s
    unfolding compile
    go-to-is e y = if_past "TO" (only (key "SUB" (a_relation gosub))) (omega arith) (rw e at h) (renamed (λ x. goto) (λ x a. refl) y)

    pub go-sub-is : k ≡ number "SUB" → Spends 1 (only (read relation)) bare (λ a. values a ++ (op code_gosub 0 ∷ [])) text ops m ops1 s → Spends 0 (only going) bare compile text ops r ops1 s
    unfolding compile
    go-sub-is e y =
        if-not "TO" (only (a_relation goto)) (stood-unless (number "TO") (omega arith) h) (past-key "SUB" (omega arith) (there (rw e at h)) (renamed (λ x. gosub) (λ x a. refl) y))

  pub go-none : {ops ops1 : List ℕ} {r : Made} → Unless (number "TO") text r → Unless (number "SUB") text r → Spends 0 (only going) bare compile text ops r ops1 None
  go-none a b = if-not "TO" (only (a_relation goto)) a (past-key "SUB" {j = 0} (omega arith) (unless-key b) (record { low = omega arith; few = λ k. omega arith; gives = stopped }))

  -- PRINT
  module _ {ops ops1 : List ℕ} {r m s : Made} where
    pub item-text : {bs : List ℕ} {v : ℕ} → v ≡ op code_print_room (length bs) → Heads (string bs) text r m → Puts (v ∷ texts code_print_byte bs) ops m ops1 s
        → Spends 1 (only an_item) bare item_code text ops r ops1 s
    unfolding an_item item_code
    item-text {bs} e h p =
        led-by (2 + length bs) (omega (arith, length-map bs (λ b. op code_print_byte b))) (omega (arith, (heads-over h).low)) (heads-size h)
        (string-leads (λ x cs. give (text_item cs)) (only keyed_item) (heads-string h)) (all-put (λ x. text_item bs) (λ x. rw e) p)

    pub item-stored : {k : ℕ} → k ≡ number "$" → Absent a_string text r → Heads (sign k) text r m → Spends 1 (only (read factor)) bare (λ a. values a ++ (op code_print_string 0 ∷ [])) text ops m ops1 s
        → Spends 1 (only an_item) bare item_code text ops r ops1 s
    unfolding an_item item_code
    item-stored e n h y =
        led-here (unstring-leads (λ x cs. give (text_item cs)) (only keyed_item) n)
        (if_past "$" (only valued) (omega arith) (rw e at (heads-sign h)) (renamed (λ x. stored) (λ x a. refl) y))

  module _ {ops ops1 : List ℕ} {r s : Made} where
    pub item-value : Absent a_string text r → Unless (number "$") text r → Spends 1 (only (read relation)) bare (λ a. values a ++ (op code_print_number 0 ∷ [])) text ops r ops1 s
        → Spends 1 (only an_item) bare item_code text ops r ops1 s
    unfolding an_item item_code
    item-value n k y =
        led-here (unstring-leads (λ x cs. give (text_item cs)) (only keyed_item) n)
        (if-not "$" (only (read factor >>= (λ a. give (stored a)))) k (renamed (λ x. value) (λ x a. refl) y))

  -- What is joined by commas
  module _ {A : Type 0} {one : Reader A} {code : A → List ℕ} {codes : List A → List ℕ}
      (law : (s : List ℕ) → joined one s ≡ (one >>= (λ a. if_key "," (joined one >>= (λ as'. give (a ∷ as'))) (give (a ∷ [])))) s)
      (each : (a : A) (as' : List A) → codes (a ∷ as') ≡ code a ++ codes as') (none : codes [] ≡ []) where
    joined-more : {ops ops1 ops2 : List ℕ} {r a m s : Made} {n : ℕ} → n ≤ 1 → Spends n (only one) bare code text ops r ops1 a → Stood a_sign (number ",") text a m
        → Spends n (only (joined one)) bare codes text ops1 m ops2 s → Spends n (only (joined one)) bare codes text ops r ops2 s
    joined-more {n} h y k z =
        same-as (λ x s. law s) (then-on {j = 0} (omega arith) y (if_past "," (λ a. give (a ∷ [])) (omega arith) k (renamed (λ a as'. a ∷ as') each z)))

    joined-last : {ops ops1 : List ℕ} {r a : Made} {n : ℕ} → Spends n (only one) bare code text ops r ops1 a → Unless (number ",") text a
        → Spends n (only (joined one)) bare codes text ops r ops1 a
    joined-last {a} y k =
        same-as (λ x s. law s) (then-on {j = 0} (omega arith) y
        (if-not "," (λ a. joined one >>= (λ as'. give (a ∷ as'))) k (all-put (λ a. a ∷ []) (λ a. each a [] ∙ ap (λ l. code a ++ l) none) (puts_none a))))

    -- a loop that reads one after another
    module _ {ops₀ ops ops1 : List ℕ} {r₀ r a : Made} {n : ℕ} (p : Proceeds n (joined one) codes text ops₀ r₀ ops r) (y : Spends n (only one) bare code text ops r ops1 a) where
      joined-on : {m : Made} → n ≤ 1 → Stood a_sign (number ",") text a m → length ops1 ≡ length ops → Proceeds n (joined one) codes text ops₀ r₀ ops1 m
      joined-on h k e =
          record {
            room = room-low (omega arith) (room-over (room-spent {j = 0} (omega arith) p.room y e) (stood-over k));
            on = λ ops2 s z. p.on ops2 s (joined-more h y k z);
            size = e ∙ p.size;
          }

      joined_end : Unless (number ",") text a → Spends n (only (joined one)) bare codes text ops₀ r₀ ops1 a
      joined_end k = p.on ops1 a (joined-last y k)

  module _ {ops₀ ops ops1 : List ℕ} {r₀ r a : Made} where
    module _ (p : Proceeds 1 (joined an_item) items_code text ops₀ r₀ ops r) (y : Spends 1 (only an_item) bare item_code text ops r ops1 a) where
      pub items-on : {m : Made} → Stood a_sign (number ",") text a m → length ops1 ≡ length ops → Proceeds 1 (joined an_item) items_code text ops₀ r₀ ops1 m
      unfolding items_code
      items-on k e = joined-on (joined-eq items-join) (λ i is. refl) refl p y (omega arith) k e

      pub items-end : Unless (number ",") text a → Spends 1 (only (joined an_item)) bare items_code text ops₀ r₀ ops1 a
      unfolding items_code
      items-end k = joined_end (joined-eq items-join) (λ i is. refl) refl p y k

    module _ (p : Proceeds 0 (joined a_variable) (texts code_input_variable) text ops₀ r₀ ops r) (y : Spends 0 (only a_variable) bare (λ v. op code_input_variable v ∷ []) text ops r ops1 a) where
      pub variables-on : {m : Made} → Stood a_sign (number ",") text a m → length ops1 ≡ length ops → Proceeds 0 (joined a_variable) (texts code_input_variable) text ops₀ r₀ ops1 m
      variables-on k e = joined-on (joined-eq variables-join) (λ v vs. refl) refl p y (omega arith) k e

      pub variables-end : Unless (number ",") text a → Spends 0 (only (joined a_variable)) bare (texts code_input_variable) text ops₀ r₀ ops1 a
      variables-end k = joined_end (joined-eq variables-join) (λ v vs. refl) refl p y k

  pub end-semicolon : {ops : List ℕ} {r s : Made} → Stood a_sign (number ";") text r s → Spends 1 ending items_code compile text ops r ops s
  unfolding compile
  end-semicolon {s} k = if_past ";" (λ is. give (print is false)) (omega arith) k (all-put (λ is. print is true) (λ is. refl) (puts_none s))

  module _ {ops ops1 : List ℕ} {r s : Made} where
    pub end_line : Unless (number ";") text r → Written (op code_print_end 0) ops r ops1 s → Spends 1 ending items_code compile text ops r ops1 s
    unfolding compile
    end_line k w = if-not ";" (λ is. give (print is true)) k (all-put (λ is. print is false) (λ is. refl) (written-puts w))

    pub print-is : {ops2 : List ℕ} {a : Made} → Spends 1 (only (joined an_item)) bare items_code text ops r ops1 a → Spends 1 ending items_code compile text ops1 a ops2 s
        → Spends 2 (only printing) bare compile text ops r ops2 s
    print-is y z = then-on {i = 1} {j = 1} (omega arith) y z

    -- FOR
    pub step-some : {m : Made} → Stood a_sign (number "STEP") text r m → Makes (read relation) values text ops m ops1 s → Spends 1 (only stepping) bare values text ops r ops1 s
    step-some k y = if_past "STEP" (only (give (const 1))) {j = 0} (omega arith) k (spent y)

    pub step-none : Unless (number "STEP") text r → Written (op code_constant 1) ops r ops1 s → Spends 1 (only stepping) bare values text ops r ops1 s
    unfolding values
    step-none k w = if-not "STEP" (only (read relation)) k (all-put (λ x. const 1) (λ x. refl) (written-puts w))

  for-step : {ops ops1 ops2 : List ℕ} {r s t : Made} {v : ℕ} (n : ℕ) → v ≡ op code_for n → Spends 1 (only stepping) bare values text ops r ops1 s → Written v ops1 s ops2 t
      → Spends 2 (λ (p : Expr × Expr). if_key "STEP" (a_relation (for n p.0 p.1)) (give (for n p.0 p.1 (const 1)))) (λ (p : Expr × Expr). values p.0 ++ values p.1)
      compile text ops r ops2 t
  unfolding ◌>>=◌ compile
  for-step n e y w =
      same-as (λ p s. if-mapped "STEP" (read relation) (give (const 1)) (λ c. give (for n p.0 p.1 c)) (give (for n p.0 p.1 (const 1))) (λ t. refl) s)
      (renamed (λ p c. for n p.0 p.1 c) (λ p c. rw e (sym (append_assoc (values p.0) (values p.1) (values c ++ (op code_for n ∷ []))))) (added (omega arith) y w))

  pub for-is : {ops ops1 ops2 ops3 ops4 : List ℕ} {r m e a f b s t : Made} {n v : ℕ} → v ≡ op code_for n → Stood a_variable n text r m → KeyIs (number "=") text m e
      → Makes (read relation) values text ops e ops1 a → KeyIs (number "TO") text a f → Makes (read relation) values text ops1 f ops2 b
      → Spends 1 (only stepping) bare values text ops2 b ops3 s → Written v ops3 s ops4 t → Spends 0 (only for_to) bare compile text ops r ops4 t
  for-is {n} u h k x l y z w =
      led-over (omega arith) (stood-over h) (stood-leads counting h)
      (past-key "=" {j = 1} {n = 0} (omega arith) k (then-on {i = 0} {j = 1} (omega arith) (spent x)
      (past-key "TO" {j = 2} (omega arith) l (after (limited n) {i = 0} {j = 2} (omega arith) (spent y) (for-step n u z w)))))

  pub for-none : {ops ops1 : List ℕ} {r : Made} → Absent a_variable text r → Spends 0 (only for_to) bare compile text ops r ops1 None
  for-none h = missing (absent-then counting h)

  -- A variable
  pub variable-is : {ops ops1 : List ℕ} {r m s : Made} {n v : ℕ} (code : ℕ) → v ≡ op code n → Stood a_variable n text r m → Written v ops m ops1 s
      → Spends 0 (only a_variable) bare (λ u. op code u ∷ []) text ops r ops1 s
  variable-is {n} code e h w = led-over (omega arith) (stood-over h) (stood-give h) (all-put (λ x. n) (λ x. rw e) (written-puts w))

-- Operations of a string
pub put-none : {w ops : List ℕ} {r : Made} → r ≡ None → Puts w ops r ops None
put-none e = rw e halted

pub put_next : {v n o : ℕ} {w ops ops' : List ℕ} {r : Made} {c : Cursor} → r ≡ Some (c, o) → ops' ≡ sets (set ops o v) (o + 1) w → n ≡ o + 1 + length w
    → Puts (v ∷ w) ops r ops' (Some (c, n))
put_next {v} {n} {o} {w} e f g =
    let i : o + 1 ≡ suc o = omega arith in
    let j : n ≡ o + length (v ∷ w) = omega arith in
    rw (e, f, i, j) puts

-- a turn of the loop over the bytes: what it writes is the first of those still to be written
pub put-on : (code : ℕ) (bs ops : List ℕ) (o i : ℕ) {v b : ℕ} → i < length bs → v ≡ op code b → b ≡ get_or bs i 0
    → sets (set ops (o + i) v) (o + (i + 1)) (texts code (drop (i + 1) bs)) ≡ sets ops (o + i) (texts code (drop i bs))
put-on code bs ops o i {v} h e f =
    let n : o + (i + 1) ≡ suc (o + i) = omega arith in
    let m : i + 1 ≡ suc i = omega arith in
    ap (λ (j : ℕ). sets (set ops (o + i) v) j (texts code (drop (i + 1) bs))) n ∙ ap (λ (j : ℕ). sets (set ops (o + i) v) (suc (o + i)) (texts code (drop j bs))) m
    ∙ ap (λ (x : ℕ). sets (set ops (o + i) x) (suc (o + i)) (texts code (drop (suc i) bs))) (e ∙ ap (op code) f) ∙ ap (λ (w : List ℕ). sets ops (o + i) (texts code w)) (sym (drop-cons bs i 0 h))

-- The variables of INPUT
pub counted_none : {ops : List ℕ} {r s : Made} → r ≡ None → Counted ops r s ops None
counted_none e = rw e halted

pub counted-unread : {ops : List ℕ} {r s : Made} → s ≡ None → Counted ops r s ops None
counted-unread e = rw e unread

pub counted_next : {ops : List ℕ} {r s : Made} {c d : Cursor} {o n v : ℕ} → r ≡ Some (c, o) → s ≡ Some (d, n) → v ≡ op code_input (n - o - 1) → Counted ops r s (set ops o v) s
counted_next {o} {n} e f g = let i : n - o - 1 ≡ n - suc o = omega arith in rw (e, f, g, i) counted

pub countable-at : (ops : List ℕ) {r s : Made} {c d : Cursor} {o n : ℕ} → r ≡ Some (c, o) → s ≡ Some (d, n) → Countable ops r s
    → (o < n) × (n ≤ length ops) × (n - suc o ≤ 65535)
countable-at ops e f h = rw (e, f) at h

set-sets : (w l : List ℕ) (i j b : ℕ) → i < j → set (sets l j w) i b ≡ sets (set l i b) j w
set-sets [] l i j b h = refl
set-sets (a ∷ w) l i j b h = set-sets w (set l j a) i (suc j) b (omega arith) ∙ ap (λ m. sets m (suc j) w) (set_comm l j i a b (λ e. omega arith))

-- what a count writes
counted-is : {ops : List ℕ} {c d : Cursor} {o n : ℕ} {ops' : List ℕ} {t : Made} → Counted ops (Some (c, o)) (Some (d, n)) ops' t
    → (ops' ≡ set ops o (op code_input (n - suc o))) × (t ≡ Some (d, n))
counted-is counted = (refl, refl)

counts : {text ops ops1 ops2 ops3 : List ℕ} {r a s t : Made} → Written (op code_input 0) ops r ops1 a → Gives (only (joined a_variable)) bare (texts code_input_variable) text ops1 ops2 a s
    → Counted ops2 r s ops3 t → Gives (only (joined a_variable)) bare variables_into text ops ops3 r t
counts stopped stopped halted = stopped
counts stopped stopped unread = stopped
counts written (refused e) unread = refused e
counts {ops} (written {o}) (given {n} grow tail e f h w) x =
    let q = counted-is x in
    let size : length (grow tt) ≡ n - suc o = omega (arith, w.pos, ap length (f tt), length-map (grow tt) (λ v. op code_input_variable v)) in
    rw (q.0, q.1)
    (given {o = o} {n = n} grow (op code_input (n - suc o) ∷ tail) e (λ x. rw (size, f tt)) h
    (record {
      pos = omega (arith, w.pos);
      buf = ap (λ l. set l o (op code_input (n - suc o))) (w.buf ∙ ap (λ i. sets (set ops o (op code_input 0)) i tail) (omega arith)) ∙ set-sets tail (set ops o (op code_input 0)) o (suc o) (op code_input (n - suc o)) (omega arith)
          ∙ ap (λ l. sets l (suc o) tail) (set-set ops o (op code_input 0) (op code_input (n - suc o)));
    }))

counted-low : (text : List ℕ) {ops ops' : List ℕ} {r s t : Made} → Counted ops r s ops' t → ahead text t ≤ ahead text s
counted-low text halted = omega arith
counted-low text unread = omega arith
counted-low text counted = omega arith

counted-need : (text : List ℕ) {ops ops' : List ℕ} {r s t : Made} → Counted ops r s ops' t → (k : ℕ) → need k text t ≤ need k text s
counted-need text halted k = omega arith
counted-need text unread k = omega arith
counted-need text counted k = omega arith

pub variables-are : {text ops ops1 ops2 ops3 : List ℕ} {r a s t : Made} → Written (op code_input 0) ops r ops1 a → Spends 0 (only (joined a_variable)) bare (texts code_input_variable) text ops1 a ops2 s
    → Counted ops2 r s ops3 t → Spends 1 (only (joined a_variable)) bare variables_into text ops r ops3 t
variables-are {text} {r} {a} w y c =
    record {
      low = omega (arith, written-ahead w text, counted-low text c);
      few = λ k. omega (arith, counted-need text c k, y.few k, written-need w text k, need-mono text a (0 + k) k (omega arith), need-mono text r (suc k) (1 + k) (omega arith));
      gives = counts w y.gives c;
    }

countable-by : {text ops ops1 ops2 : List ℕ} {r a s : Made} → Room 1 text ops r → Written (op code_input 0) ops r ops1 a → Gives (only (joined a_variable)) bare (texts code_input_variable) text ops1 ops2 a s
    → need 0 text s ≤ need 0 text a → length ops2 ≡ length ops → Countable ops2 r s
countable-by h stopped stopped l e = tt
countable-by h written (refused f) l e = tt
countable-by h written (given grow tail f g i w) l e = let m = h.fits in let n = h.small in (omega (arith, w.pos), omega arith, omega arith)

pub countable : {text ops ops1 ops2 : List ℕ} {r a s : Made} → Room 1 text ops r → Written (op code_input 0) ops r ops1 a
    → Spends 0 (only (joined a_variable)) bare (texts code_input_variable) text ops1 a ops2 s → length ops2 ≡ length ops → Countable ops2 r s
countable {text} {a} h w y e = countable-by h w y.gives (omega (arith, y.few 0)) e

-- INPUT
module _ {text ops ops1 : List ℕ} {r s : Made} where
  pub input-text : {m : Made} → Stood a_sign (number "$") text r m → Spends 1 (only (read factor)) bare (λ a. values a ++ (op code_input_string 0 ∷ [])) text ops m ops1 s
      → Spends 1 (only inputting) bare compile text ops r ops1 s
  unfolding compile
  input-text k y = if_past "$" (only (joined a_variable >>= (λ vs. give (input vs)))) (omega arith) k (renamed (λ x. input_text) (λ x a. refl) y)

  pub input-variables : Unless (number "$") text r → Spends 1 (only (joined a_variable)) bare variables_into text ops r ops1 s
      → Spends 1 (only inputting) bare compile text ops r ops1 s
  unfolding compile
  input-variables k y = if-not "$" (only (read factor >>= (λ a. give (input_text a)))) k (renamed (λ x. input) (λ x vs. refl) y)

-- REM
pub remark-rest : {text : List ℕ} {r : Made} {c d : Cursor} {o : ℕ} → r ≡ Some (c, o) → d.at ≡ length text → true ≡ all is_text (drop c.at text) → RemarkIs text r (Some (d, o))
unfolding compile
remark-rest {text} {c} {d} {o} e l h ops =
    let n : drop d.at text ≡ [] = drop_of_length-le text {i = d.at} (omega arith) in
    rw e (record {
      low = omega arith;
      few = λ k. omega arith;
      gives = given {c = c} {d = d} {o = o} {n = o} (λ x. remark) [] (λ x. rw (← h, n)) (λ x. refl) (λ i. omega arith) (record { pos = omega arith; buf = refl });
    })

pub remark-not : {text : List ℕ} {r : Made} {c : Cursor} {o : ℕ} → r ≡ Some (c, o) → false ≡ all is_text (drop c.at text) → RemarkIs text r None
remark-not {c} e h ops = rw e (record { low = omega arith; few = λ k. omega arith; gives = refused {c = c} (λ x. rw (← h)) })

pub remark-none : {text : List ℕ} {r : Made} → r ≡ None → RemarkIs text r None
remark-none e ops = rw e (record { low = omega arith; few = λ k. omega arith; gives = stopped })

-- Statements of a relation, of a variable, or of one operation
module _ {text ops ops1 : List ℕ} {r s : Made} where
  pub goto-is : Spends 1 (only (read relation)) bare (λ a. values a ++ (op code_goto 0 ∷ [])) text ops r ops1 s → Spends 2 (only (a_relation goto)) bare compile text ops r ops1 s
  unfolding compile
  goto-is y = looser (omega arith) (renamed (λ x. goto) (λ x a. refl) y)

  pub gosub-is : Spends 1 (only (read relation)) bare (λ a. values a ++ (op code_gosub 0 ∷ [])) text ops r ops1 s → Spends 2 (only (a_relation gosub)) bare compile text ops r ops1 s
  unfolding compile
  gosub-is y = looser (omega arith) (renamed (λ x. gosub) (λ x a. refl) y)

  pub until-is : Spends 1 (only (read relation)) bare (λ a. values a ++ (op code_until 0 ∷ [])) text ops r ops1 s → Spends 2 (only (a_relation until)) bare compile text ops r ops1 s
  unfolding compile
  until-is y = looser (omega arith) (renamed (λ x. until) (λ x a. refl) y)

  pub next-is : Spends 0 (only a_variable) bare (λ v. op code_next v ∷ []) text ops r ops1 s → Spends 2 (only (a_variable >>= (λ v. give (next v)))) bare compile text ops r ops1 s
  unfolding compile
  next-is y = looser (omega arith) (renamed (λ x. next) (λ x a. refl) y)

  single : (q : Stmt) {v : ℕ} → compile q ≡ v ∷ [] → Written v ops r ops1 s → Spends 2 (only (give q)) bare compile text ops r ops1 s
  single q e w = looser (omega arith) (all-put (λ x. q) (λ x. e) (written-puts w))

  pub return-is : Written (op code_return 0) ops r ops1 s → Spends 2 (only (give return)) bare compile text ops r ops1 s
  unfolding compile
  return-is w = single return refl w

  pub do-is : Written (op code_do 0) ops r ops1 s → Spends 2 (only (give do_loop)) bare compile text ops r ops1 s
  unfolding compile
  do-is w = single do_loop refl w

  pub end_is : Written (op code_end 0) ops r ops1 s → Spends 2 (only (give end)) bare compile text ops r ops1 s
  unfolding compile
  end_is w = single end refl w

-- How a statement begins
by-statement : {text : List ℕ} {r m : Made} {w : Token} → Heads w text r m → Leads (only statement) (only (statement_of statement w)) text r m
unfolding a_statement
by-statement {text} (heads {c} e l h) = onto (λ x. statement-eq (drop c.at text) ∙ ap (λ (f : FrontWord). on_step f (statement_of statement)) e) (λ i. h)

pub front-assigns : {text : List ℕ} {r m : Made} {n v : ℕ} → v ≡ op code_set_variable n → KindIs text r (kind.Variable n m) → FrontIs text r (front.Assigns v m)
front-assigns {n} e h = assigns n e (by-statement h) (heads-over h)

-- the cases before those of an assignment
abbrev pub form_cases : List (ℕ × Reader Stmt)
form_cases =
    (number "LET", by_word let_of)
    ∷ (number "GOTO", a_relation goto) ∷ (number "GOSUB", a_relation gosub)
    ∷ (number "GO", going)
    ∷ (number "RETURN", give return) ∷ (number "PR", printing) ∷ (number "PRINT", printing)
    ∷ (number "IF", iffing)
    ∷ (number "DO", give do_loop) ∷ (number "UNTIL", a_relation until) ∷ (number "FOR", for_to)
    ∷ (number "NEXT", a_variable >>= (λ v. give (next v))) ∷ (number "INPUT", inputting)
    ∷ (number "REM", remarking) ∷ (number "END", give end) ∷ []

-- a number in none of some cases is left to the others
skip : {A : Type 0} {k : ℕ} {cs : List (ℕ × A)} (ds : List (ℕ × A)) (d : A) → NoneOf k cs → choose (cs ++ ds) d k ≡ choose ds d k
skip ds r none_left = refl
skip {k} ds r (◌but◌ {n} d h) = rw (ne_eqb k n d) (skip ds r h)

pub not-form : {k : ℕ} → NoneOf k form_cases → choose (statement_cases statement) fail k ≡ choose let_cases fail k
not-form h = skip let_cases fail h

pub form-let : {text ops ops1 : List ℕ} {r s : Made} {k : ℕ} → NoneOf k form_cases → Spends 0 (only (choose let_cases fail k)) bare compile text ops r ops1 s
    → Spends 2 (only (choose (statement_cases statement) fail k)) bare compile text ops r ops1 s
form-let h y = looser (omega arith) (same-as (λ x s. ap (λ (q : Reader Stmt). q s) (not-form h)) y)

-- no symbol is a keyword
none-low : {A : Type 0} {k : ℕ} (cs : List (ℕ × A)) → k < first_keyword → all (λ (c : ℕ × A). leb first_keyword c.0) cs ≡ true → NoneOf k cs
none-low [] l h = none_left
none-low {A} {k} (c ∷ cs) l h =
    let b = leb-true first_keyword c.0 (and_left (leb first_keyword c.0) (all (λ (d : ℕ × A). leb first_keyword d.0) cs) h) in
    let d : k ≡ c.0 → ⊥ = λ e. omega arith in
    d but none-low cs l (and_right (leb first_keyword c.0) (all (λ (d : ℕ × A). leb first_keyword d.0) cs) h)

pub front-symbol : {text : List ℕ} {r m : Made} {k : ℕ} → k < first_keyword → KindIs text r (kind.Sign k m) → FrontIs text r (front.Symbol k m)
front-symbol {text} {r} {m} l h =
    symbol (subst (λ q. Leads (only statement) (only q) text r m) (not-form (none-low form_cases l refl)) (by-statement h)) (heads-over h)

pub front-if : {text : List ℕ} {r m : Made} {k : ℕ} → k ≡ number "IF" → KindIs text r (kind.Sign k m) → FrontIs text r (front.If m)
front-if e h = when (by-statement (rw e at h)) (heads-over h)

pub front-keyword : {text : List ℕ} {r m : Made} {k : ℕ} → first_keyword ≤ k → (k ≡ number "IF" → ⊥) → KindIs text r (kind.Sign k m) → FrontIs text r (front.Keyword k m)
front-keyword l d h = keyword d (by-statement h) (heads-long h l)

unstated : {text : List ℕ} {r : Made} → Absent (by_word (statement_of statement)) text r → Absent statement text r
unfolding a_statement
unstated stopped = stopped
unstated {text} (absent {c} e) = absent (statement-eq (drop c.at text) ∙ e)

pub front-none : {text : List ℕ} {r : Made} (w : Kind) → KindIs text r w → OneOf (1 ∷ 3 ∷ []) (tag_of the_type w) → FrontIs text r front.Other
front-none w h t = other (unstated (unkinded (statement_of statement) (λ bs. refl) (λ n. refl) (λ n. refl) w h t))

-- A statement
module _ {text ops ops1 : List ℕ} {r m s : Made} where
  pub by-assigns : (v : ℕ) → FrontIs text r (front.Assigns v m) → Spends 0 (only (key "=" (read relation))) bare (λ a. values a ++ (v ∷ [])) text ops m ops1 s
      → Spends 0 (only statement) bare compile text ops r ops1 s
  by-assigns v (assigns n e l o) y = led-over (omega arith) o l (assigns-is n v e y)

  pub by-symbol : (k : ℕ) → FrontIs text r (front.Symbol k m) → Spends 0 (only (choose let_cases fail k)) bare compile text ops m ops1 s
      → Spends 0 (only statement) bare compile text ops r ops1 s
  by-symbol k (symbol l o) y = led-over (omega arith) o l y

  pub by-keyword : (k : ℕ) → FrontIs text r (front.Keyword k m) → Spends 2 (only (choose (statement_cases statement) fail k)) bare compile text ops m ops1 s
      → Spends 0 (only statement) bare compile text ops r ops1 s
  by-keyword k (keyword d l o) y =
      led-by 2 {n = 0} (omega arith) (omega (arith, o.low)) (λ j. omega (arith, o.spare j, need-mono text m (2 + j) (suc (suc j)) (omega arith))) l y

module _ {text : List ℕ} {r m : Made} where
  pub if-over : FrontIs text r (front.If m) → Over text r m
  if-over (when l o) = o

  pub symbol-over : {k : ℕ} → FrontIs text r (front.Symbol k m) → Over text r m
  symbol-over (symbol l o) = o

  pub assigns-over : {v : ℕ} → FrontIs text r (front.Assigns v m) → Over text r m
  assigns-over (assigns n e l o) = o

  pub keyword-long : {k : ℕ} → FrontIs text r (front.Keyword k m) → Long text r m × (k ≡ number "IF" → ⊥)
  keyword-long (keyword d l o) = (o, d)

pub by-none : {text ops ops1 : List ℕ} {r : Made} → FrontIs text r front.Other → Spends 0 (only statement) bare compile text ops r ops1 None
by-none (other h) = missing h

-- the operation of IF stands before those of its statement
iffed-gives : {text ops ops1 ops2 : List ℕ} {r i s : Made} → Written (op code_if 0) ops r ops1 i → Gives (only statement) bare compile text ops1 ops2 i s
    → Gives (λ a. statement >>= (λ q. give (if_then a q))) values compile text ops ops2 r s
unfolding compile
iffed-gives stopped stopped = stopped
iffed-gives written (refused e) = refused (λ a. then-nothing statement _ _ (e tt))
iffed-gives {ops} (written {o}) (given {n} grow tail e f h w) =
    given {o = o} {n = n} (λ a. if_then a (grow tt)) (op code_if 0 ∷ tail) (λ a. then_found statement _ _ (e tt)) (λ a. rw (f tt)) h
    (record { pos = omega (arith, w.pos); buf = w.buf ∙ ap (λ j. sets (set ops o (op code_if 0)) j tail) (omega arith) })

iffed : {text ops ops1 ops2 : List ℕ} {r i s : Made} → Written (op code_if 0) ops r ops1 i → Spends 0 (only statement) bare compile text ops1 i ops2 s
    → Spends 1 (λ a. statement >>= (λ q. give (if_then a q))) values compile text ops r ops2 s
iffed {text} {r} {i} w y =
    record {
      low = omega (arith, written-ahead w text);
      few = λ k. omega (arith, y.few k, written-need w text k, need-mono text i (0 + k) k (omega arith), need-mono text r (suc k) (1 + k) (omega arith));
      gives = iffed-gives w y.gives;
    }

by-if : {text ops ops1 ops2 ops3 : List ℕ} {r m a t i s : Made} → FrontIs text r (front.If m) → Makes (read relation) values text ops m ops1 a → MayIs (number "THEN") text a t
    → Written (op code_if 0) ops1 t ops2 i → Spends 0 (only statement) bare compile text ops2 i ops3 s → Spends 0 (only statement) bare compile text ops r ops3 s
by-if (when l o) x k w y =
    led-over (omega arith) o l (then-on {i = 0} {j = 1} {n = 1} (omega arith) (spent x) (if-may "THEN" k (iffed w y)))

-- a loop that reads an IF, up to its operation, and goes on with the statement behind it
module _ {text ops ops1 : List ℕ} {r m a t : Made} (f : FrontIs text r (front.If m)) (x : Makes (read relation) values text ops m ops1 a) (k : MayIs (number "THEN") text a t) where
  pub if-room : Room 0 text ops r → length ops1 ≡ length ops → Room 1 text ops1 t
  if-room h e = room-may (room-reads (room-over h (if-over f)) x e) k

  module _ {ops2 : List ℕ} {i : Made} (w : Written (op code_if 0) ops1 t ops2 i) where
    pub if-falls : ahead text i < ahead text r
    if-falls = omega (arith, written-ahead w text, may-low k, x.low, (if-over f).low)

    pub if-on : {ops₀ : List ℕ} {r₀ : Made} → Proceeds 0 statement compile text ops₀ r₀ ops r → length ops1 ≡ length ops → length ops2 ≡ length ops1
        → Proceeds 0 statement compile text ops₀ r₀ ops2 i
    if-on p e g = record { room = room-written (if-room p.room e) w g; on = λ ops3 s y. p.on ops3 s (by-if f x k w y); size = g ∙ e ∙ p.size }
