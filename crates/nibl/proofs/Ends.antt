-- Which bytes a reading is of, and where its members end. Assumes nothing.
use Rattle.std.specs.Prelude.{if◌then◌else◌}
use Prim.Native.Nat.{ℕ, suc, ◌-◌, ◌≤◌, ◌<◌}
use mathlib.Core.Path.{◌≡◌, refl, sym, ap, ◌∙◌}
use mathlib.Core.Bool.{Bool, true, false, not, ◌&&◌, false≢true}
use mathlib.Core.List.{List, [], ◌∷◌, ◌++◌, append_assoc}
use mathlib.Core.Option.{some}
use native.Mathlib.Omega.{arith}
use native.Mathlib.Nat.{add-zero}
use borrow.Author.Tests.{eqb-true, leb-true, ne_eqb, not-true}
use lib.ListN.{length, take, drop, get_or, length-append, length-drop}
use lib.Seq.{take_at, get_or-drop}
use lib.Dec.{leb, eqb}
use Rattle.nibl.specs.Bytes.{is_space, is_digit, is_text, is_quotable, not_cr, All, none as done, each, starts, past}
use Rattle.nibl.specs.Words.{Token, string, sign, Word, spaced, keyword, letter, decimal_digits, hex_digits, quoted, pair, symbol}
use Rattle.nibl.specs.Grammar.{Key, Statement, an_if, a_remark, Members, last_member, more_members, Line, a_blank, a_delete, a_store, a_new, a_clear, a_run, a_list, a_list_from, an_immediate}
use Rattle.nibl.specs.Tree.{Expr, Stmt, remark, if_then, Member, Typed, store}
use Rattle.nibl.specs.found.Read.{found, member, reading}
use Rattle.nibl.proofs.Keywords.{first_of, place-least}
use Rattle.nibl.proofs.Words.{and_left, and_right, of-pairs, no_symbol, capital-other, word-unique, decimal-small}
use Rattle.nibl.proofs.Over.{Outside, here, byte, in_quotes, outside_trans, outside-passed, outside-length, Passed, passed-trans, passed-text, passed-drop, passed-rest, text-passed, word_over, word-rest}
use Rattle.nibl.proofs.Rules.{W, it, ok-found}
use Rattle.nibl.proofs.Statements.{Left, outside, taken, statement-left, left_passed}
use Rattle.nibl.proofs.Lines.{C, AMember, at_end, at_colon, member-same, reading-sound}
use Rattle.nibl.proofs.Next.{◌or◌, or_right, is_key, is_decimal}
use Rattle.nibl.proofs.Complete.{goes_on}
use Rattle.nibl.proofs.Whole.{statement-word, member-last, member-more, reading-complete}
use Rattle.nibl.proofs.Exact.{members-unique}

-- Only text bytes
all-also : {p q : ℕ → Bool} → ((b : ℕ) → p b ≡ true → q b ≡ true) → {s : List ℕ} → All p s → All q s
all-also f done = done
all-also f (each {b} e a) = each (f b e) (all-also f a)

pub spaces-text : {s : List ℕ} → All is_space s → All is_text s
spaces-text a = all-also (λ b e. rw (eqb-true b 32 e)) a

-- and so no CR
pub text-not_cr : {s : List ℕ} → All is_text s → All not_cr s
text-not_cr a = all-also (λ b e. let h = leb-true 32 b (and_left (leb 32 b) (leb b 126) (and_left (leb 32 b && leb b 126) (not (eqb b 95)) e)) in rw (ne_eqb b 13 (omega arith))) a

rest-text : {s t : List ℕ} → Passed s t → All is_text s → All is_text t
rest-text here a = a
rest-text (byte e p) (each h a) = rest-text p a

word-text : {table : List (List ℕ)} {s t : List ℕ} {w : Token} → Word table s w t → All is_text t → All is_text s
word-text w a = passed-text (outside-passed (word_over w).out) a

statement-text : {s t : List ℕ} {q : Stmt} → Statement W s q t → All is_text t → All is_text s
statement-text p a = passed-text (left_passed (statement-left p)) a

pub members-text : {s : List ℕ} {ms : List Member} → Members W s ms → All is_text s
members-text (last_member p a) = statement-text p (spaces-text a)
members-text (more_members p k ms) = statement-text p (word-text k (members-text ms))

pub line-text : {s : List ℕ} {y : Typed} → Line W C s y → All is_text s
line-text (a_blank a) = spaces-text a
line-text (a_delete w a) = word-text w (spaces-text a)
line-text (a_store w ms) = word-text w (members-text ms)
line-text (a_new c a) = word-text c (spaces-text a)
line-text (a_clear c a) = word-text c (spaces-text a)
line-text (a_run c a) = word-text c (spaces-text a)
line-text (a_list c a) = word-text c (spaces-text a)
line-text (a_list_from c w a) = word-text c (word-text w (spaces-text a))
line-text (an_immediate q a) = statement-text q (spaces-text a)

-- No statement begins with a digit, spaces aside
past_first : (b : ℕ) (s : List ℕ) → is_space b ≡ false → is_digit b ≡ false → starts is_digit (past is_space (b ∷ s)) ≡ false
past_first b s e h = rw e h

undigit : {table : List (List ℕ)} {s t : List ℕ} {w : Token} → Word table s w t → is_decimal w ≡ false → starts is_digit (past is_space s) ≡ false
undigit (spaced w) h = undigit w h
undigit (letter {c} {s} r) h = let o = capital-other c r.some in past_first c s o.0 o.1
undigit (keyword {c} {d} {cs} {s} r) h = let o = capital-other c (first_of r.each) in past_first c (d ∷ cs ++ s) o.0 o.1
undigit (decimal_digits r l) h = absurd (false≢true (sym h))
undigit (hex_digits r) h = refl
undigit (quoted a) h = refl
undigit (pair {a} {b} {k} {s} e) h = of-pairs (λ x y n. starts is_digit (past is_space (x ∷ y ∷ s)) ≡ false) a b k refl refl refl e
undigit (symbol {b} {s} e n) h = past_first b s (no_symbol is_space b refl e) (no_symbol is_digit b refl e)

statement-undigit : {s t : List ℕ} {q : Stmt} → Statement W s q t → starts is_digit (past is_space s) ≡ false
statement-undigit p = let f = statement-word p in undigit f.at (or_right ((goes_on or is_key "THEN") f.word) (is_decimal f.word) f.fit)

pub members-undigit : {s : List ℕ} {ms : List Member} → Members W s ms → starts is_digit (past is_space s) ≡ false
members-undigit (last_member p a) = statement-undigit p
members-undigit (more_members p k ms) = statement-undigit p

-- so its first byte is none
first-undigit : (s : List ℕ) → starts is_digit (past is_space s) ≡ false → starts is_digit s ≡ false
first-undigit [] h = refl
first-undigit (b ∷ s) h = go (is_space b) refl h
  where
    go : (t : Bool) → is_space b ≡ t → starts is_digit (past is_space (b ∷ s)) ≡ false → is_digit b ≡ false
    go true e h = rw (eqb-true b 32 e)
    go false e h = rw e at h

pub members-first : {s : List ℕ} {ms : List Member} → Members W s ms → starts is_digit s ≡ false
members-first {s} ms = first-undigit s (members-undigit ms)

-- Where a member ends
-- the word ":" is that byte
colon : {table : List (List ℕ)} {t u : List ℕ} {w : Token} → Word table t w u → w ≡ sign 58 → Outside t (58 ∷ u)
colon (spaced w) e = byte refl (colon w e)
colon (letter r) e = let z : ◌≡◌ {A = ℕ} 0 1 = cc in absurd (omega arith)
colon {table} (keyword {c} {d} {k} {cs} r) e = let i : k ≡ 58 = cc in absurd (omega (arith, place-least 128 table (c ∷ d ∷ cs) k r.spelled))
colon (decimal_digits r l) e = let z : ◌≡◌ {A = ℕ} 0 1 = cc in absurd (omega arith)
colon (hex_digits r) e = let z : ◌≡◌ {A = ℕ} 0 1 = cc in absurd (omega arith)
colon (quoted a) e = let z : ◌≡◌ {A = ℕ} 0 1 = cc in absurd (omega arith)
colon (pair {a} {b} {k} h) e = let i : k ≡ 58 = cc in absurd (of-pairs (λ x y n. n ≡ 58 → ⊥) a b k (omega arith) (omega arith) (omega arith) h i)
colon (symbol {b} h n) e = let i : b ≡ 58 = cc in rw i here

-- a ":" follows the statement, outside every string
statement-colon : {s t u : List ℕ} {q : Stmt} → Statement W s q t → Key W ":" t u → Outside s (58 ∷ u)
statement-colon p k = go (statement-left p) (colon k refl)
  where
    go : {s t u : List ℕ} → Left s t → Outside t (58 ∷ u) → Outside s (58 ∷ u)
    go (outside o) q = outside_trans o.out q
    go (taken l a) q = absurd (omega (arith, outside-length q))

-- the members that follow one, whose end has n bytes after it
pub data Followed : List Member → ℕ → List Member → Type 0 where
  first : {m : Member} {n : ℕ} {ms : List Member} → m.left ≡ suc n → Followed (m ∷ ms) n ms
  later : {m : Member} {n : ℕ} {ms rest : List Member} → Followed ms n rest → Followed (m ∷ ms) n rest

-- what stands from an end on: a ":", outside every string, and the members that follow
pub record After (s : List ℕ) (n : ℕ) (ms : List Member) : Type 0 where
  pub inside : n < length s
  pub colon : drop (length s - suc n) s ≡ 58 ∷ drop (length s - n) s
  pub unquoted : Outside s (drop (length s - suc n) s)
  pub reads : Members W (drop (length s - n) s) ms

at-colon : {u : List ℕ} {ms : List Member} → Members W u ms → After (58 ∷ u) (length u) ms
at-colon {u} ms =
    let a : suc (length u) - suc (length u) ≡ 0 = omega arith in
    let b : suc (length u) - length u ≡ 1 = omega arith in
    record { inside = omega arith; colon = rw (a, b); unquoted = rw a here; reads = rw b ms }

-- it is so of every text of which that is the end
after_more : {s u : List ℕ} {n : ℕ} {ms : List Member} → Outside s u → After u n ms → After s n ms
after_more {s} {u} {n} o i =
    let l = outside-length o in
    let d = passed-drop (outside-passed o) n (omega arith) in
    let e = passed-drop (outside-passed o) (suc n) i.inside in
    record {
      inside = omega arith;
      colon = e ∙ i.colon ∙ ap (λ (t : List ℕ). 58 ∷ t) (sym d);
      unquoted = rw e (outside_trans o i.unquoted);
      reads = rw d i.reads;
    }

none-follow : {A : Type 0} {n : ℕ} {l rest : List Member} → Followed l n rest → l ≡ [] → A
none-follow (first e) h = let z : ◌≡◌ {A = ℕ} 0 1 = cc in absurd (omega arith)
none-follow (later f) h = let z : ◌≡◌ {A = ℕ} 0 1 = cc in absurd (omega arith)

-- each end but the last is a ":", and what stands after it reads as the members that follow
pub after : {s : List ℕ} {n : ℕ} {ms rest : List Member} → Members W s ms → Followed ms n rest → After s n rest
after (last_member p a) (first e) = absurd (omega arith)
after (last_member p a) (later f) = none-follow f refl
after {n} (more_members {u} p k ms) (first e) = let h : length u ≡ n = omega arith in rw (← h) (after_more (statement-colon p k) (at-colon ms))
after (more_members p k ms) (later f) = after_more (outside_trans (statement-colon p k) (byte refl here)) (after ms f)

pub end-colon : {s : List ℕ} {n : ℕ} {ms rest : List Member} → Members W s ms → Followed ms n rest → get_or s (length s - suc n) 0 ≡ 58
end-colon {s} {n} ms f =
    let m = length s - suc n in
    ap (λ (k : ℕ). get_or s k 0) (sym (add-zero m)) ∙ sym (get_or-drop m s 0 0) ∙ ap (λ (l : List ℕ). get_or l 0 0) (after ms f).colon

-- the last end is the text's
pub last-left : {s : List ℕ} {m : Member} {ms : List Member} → Members W s (m ∷ ms) → m.left ≡ 0 → ms ≡ []
last-left (last_member p a) e = refl
last-left (more_members p k ms) e = absurd (omega arith)

-- The same, of the functions: what a run reads from a place on is the rest of the reading
pub reading-after : (s : List ℕ) {n : ℕ} {ms rest : List Member} → reading s ≡ some ms → Followed ms n rest → reading (drop (length s - n) s) ≡ some rest
reading-after s {ms} e f = reading-complete (after (reading-sound s ms e) f).reads

-- the first member of a reading is what `member` finds
pub data Begins (s : List ℕ) (m : Member) : List Member → Type 0 where
  alone : m.left ≡ 0 → member s ≡ found m [] → Begins s m []
  before : {u : List ℕ} {ms : List Member} → m.left ≡ suc (length u) → member s ≡ found m u → reading u ≡ some ms → Begins s m ms

members-begin : {s : List ℕ} {m : Member} {ms : List Member} → Members W s (m ∷ ms) → Begins s m ms
members-begin (last_member p a) = alone refl (member-last p a)
members-begin (more_members p k ms) = before refl (member-more p k) (reading-complete ms)

pub reading_begins : (s : List ℕ) {m : Member} {ms : List Member} → reading s ≡ some (m ∷ ms) → Begins s m ms
reading_begins s {m} {ms} e = members-begin (reading-sound s (m ∷ ms) e)

-- and what follows it is the end of the text
member-passed : {s t : List ℕ} {m : Member} → AMember s m t → Passed s t
member-passed (at_end p a) = passed-trans (left_passed (statement-left p)) (text-passed (spaces-text a))
member-passed (at_colon p k) = passed-trans (left_passed (statement-left p)) (outside-passed (word_over k).out)

pub member-rest : (s t : List ℕ) (m : Member) → member s ≡ found m t → drop (length s - length t) s ≡ t
member-rest s t m e = passed-rest (member-passed (ok-found (rw e at (it (member-same s)))))

-- the same, of the member that follows: it is what `member` finds there
pub member-after : (s : List ℕ) {n : ℕ} {m : Member} {ms rest : List Member} → reading s ≡ some ms → Followed ms n (m ∷ rest) → Begins (drop (length s - n) s) m rest
member-after s {n} e f = reading_begins (drop (length s - n) s) (reading-after s e f)

-- there is always a first
some-member : {s : List ℕ} {ms : List Member} → Members W s ms → ms ≡ [] → ⊥
some-member (last_member p a) h = let z : ◌≡◌ {A = ℕ} 0 1 = cc in omega arith
some-member (more_members p k ms) h = let z : ◌≡◌ {A = ℕ} 0 1 = cc in omega arith

pub reading-some : (s : List ℕ) → reading s ≡ some [] → ⊥
reading-some s e = some-member (reading-sound s [] e) refl

-- A stored text is the end of the line, after its number
pub record StoredLine (s : List ℕ) (n : ℕ) (t : List ℕ) (ms : List Member) : Type 0 where
  pub small : n ≤ 32767
  pub rest : drop (length s - length t) s ≡ t
  pub reads : reading t ≡ some ms
  pub text : All is_text t
  pub undigit : starts is_digit t ≡ false

pub stored-line : {s t : List ℕ} {n : ℕ} {ms : List Member} → Line W C s (store n t ms) → StoredLine s n t ms
stored-line (a_store w ms) =
    record { small = decimal-small w; rest = word-rest w; reads = reading-complete ms; text = members-text ms; undigit = members-first ms }

-- REM's rest separates nothing
pub data Remarks : Stmt → Type 0 where
  itself : Remarks remark
  in_if : {a : Expr} {q : Stmt} → Remarks q → Remarks (if_then a q)

pub remark-ends : {s t : List ℕ} {q : Stmt} → Remarks q → Statement W s q t → t ≡ []
remark-ends itself (a_remark k a) = refl
remark-ends (in_if r) (an_if k x m q) = remark-ends r q

no-colon : {table : List (List ℕ)} {u : List ℕ} {w : Token} → Word table [] w u → ⊥
no-colon w = omega (arith, (word_over w).short)

pub remark-last : {s : List ℕ} {m : Member} {ms : List Member} → Members W s (m ∷ ms) → Remarks m.statement → (m.left ≡ 0) × (ms ≡ [])
remark-last (last_member p a) r = (refl, refl)
remark-last (more_members p k ms) r = absurd (no-colon (rw (remark-ends r p) at k))

pub remark-only : {s t : List ℕ} {ms : List Member} → Key W "REM" s t → Members W s ms → ms ≡ record { statement = remark; left = 0 } ∷ []
remark-only k ms = members-unique ms (last_member (a_remark k (rest-text (outside-passed (word_over k).out) (members-text ms))) done)

-- A string's inside separates nothing: the ends of members are outside of strings. Whether one stands in a string after these bytes:
abbrev pub in_string : Bool → List ℕ → Bool
in_string t [] = t
in_string t (b ∷ s) = in_string (if eqb b 34 then not t else t) s

quotable-in : {bs : List ℕ} → All is_quotable bs → (t : Bool) (s : List ℕ) → in_string t (bs ++ s) ≡ in_string t s
quotable-in done t s = refl
quotable-in (each {b} {s = bs} e a) t s =
    ap (λ (q : Bool). in_string (if q then not t else t) (bs ++ s)) (not-true (eqb b 34) (and_right (is_text b) (not (eqb b 34)) e)) ∙ quotable-in a t s

record Unquoted (s s' : List ℕ) : Type 0 where
  passed : List ℕ
  whole : s ≡ passed ++ s'
  closed : in_string false passed ≡ false

unquoted-of : {s s' : List ℕ} → Outside s s' → Unquoted s s'
unquoted-of here = record { passed = []; whole = refl; closed = refl }
unquoted-of (byte {b} e o) =
    let u = unquoted-of o in
    record { passed = b ∷ u.passed; whole = ap (λ (l : List ℕ). b ∷ l) u.whole; closed = quotable-in (each {b = b} e done) false u.passed ∙ u.closed }
unquoted-of (in_quotes {bs} {s} {s'} a o) =
    let u = unquoted-of o in
    record { passed = 34 ∷ bs ++ 34 ∷ u.passed; whole = ap (λ (l : List ℕ). 34 ∷ bs ++ 34 ∷ l) u.whole ∙ sym (append_assoc (34 ∷ bs) (34 ∷ u.passed) s'); closed = quotable-in a true (34 ∷ u.passed) ∙ u.closed }

pub end-unquoted : {s : List ℕ} {n : ℕ} {ms rest : List Member} → Members W s ms → Followed ms n rest → in_string false (take (length s - suc n) s) ≡ false
end-unquoted {s} {n} ms f =
    let i = after ms f in
    let u = unquoted-of i.unquoted in
    let m = length s - suc n in
    let l : length u.passed ≡ m = omega (arith, i.inside, ap length u.whole, length-append u.passed (drop m s), length-drop m s) in
    ap (in_string false) (ap (take m) u.whole ∙ take_at u.passed (drop m s) m l) ∙ u.closed

-- and a string is one word, whatever it holds
pub string-whole : {table : List (List ℕ)} {bs s t : List ℕ} {w : Token} → All is_quotable bs → Word table (34 ∷ bs ++ 34 ∷ s) w t → (w ≡ string bs) × (t ≡ s)
string-whole {table} a w = word-unique table w (quoted a)
