-- A statement has no more operations than bytes. Assumes nothing.
use Prim.Native.Nat.{ℕ, suc, ◌+◌, ◌≤◌, ◌<◌}
use Prim.Native.String.{String}
use mathlib.Core.Path.{◌≡◌, refl}
use mathlib.Core.List.{List, [], ◌∷◌, ◌++◌}
use native.Mathlib.Omega.{arith}
use borrow.Author.Tests.{leb-true}
use lib.ListN.{length, length-append, length-map}
use lib.Dec.{leb}
use Rattle.nibl.specs.Words.{Token, string, sign, Word, spaced, keyword, letter, decimal_digits, hex_digits, quoted, pair, symbol, first_keyword}
use Rattle.nibl.specs.Grammar.{Joints, Joint, joint, Factor, a_variable, a_constant, a_hex, a_stat, a_top, in_brackets, a_byte, a_not, a_mod, Term, a_factor, factors, Sum, a_term, less_term, terms, Relation, a_sum, related}
use Rattle.nibl.specs.Grammar.{Either, whole, parted, PrintWord, short_print, long_print, AnItem, a_string, a_stored, a_value, Items, one_item, more_items, LastSemicolon, no_semicolon, a_semicolon, AStep, no_step, some_step, Variables, one_variable, more_variables}
use Rattle.nibl.specs.Grammar.{Statement, a_let_var, a_let_stat, a_let_byte, a_let_text, a_let_copy, a_goto, a_gosub, a_return, a_print, an_if, a_do, an_until, a_for, a_next, an_input, an_input_text, a_remark, an_end}
use Rattle.nibl.specs.Tree.{Op, Expr, Item, Stmt, Member}
use Rattle.nibl.specs.found.Read.{found, member}
use Rattle.nibl.proofs.Words.{of-symbols}
use Rattle.nibl.proofs.Over.{word-short, outside-length}
use Rattle.nibl.proofs.Rules.{W, it, ok-found}
use Rattle.nibl.proofs.Sound.{may-out}
use Rattle.nibl.proofs.Lines.{AMember, at_end, at_colon, member-same}
use Rattle.relation.specs.Code.{values}
use Rattle.codes.specs.Codes.{op, code_byte, code_copy_string, code_for, code_gosub, code_goto, code_if, code_input_string, code_input_variable, code_mod, code_negate, code_not, code_operator, code_print_byte, code_print_number, code_print_string, code_set_byte, code_set_stat, code_set_variable, code_store_string, code_string_byte, code_until}
use Rattle.codes.specs.Operators.{op_number}
use Rattle.reader.specs.Code.{texts, item_code, items_code, end_code, compile}

-- Words of more than a byte
keyword-short : {table : List (List ℕ)} {s t : List ℕ} {w : Token} {k : ℕ} → Word table s w t → w ≡ sign k → first_keyword ≤ k → 2 + length t ≤ length s
keyword-short (spaced w) e h = let i = keyword-short w e h in omega arith
keyword-short (letter r) e h = let z : ◌≡◌ {A = ℕ} 0 1 = cc in absurd (omega arith)
keyword-short (keyword {cs} {s} r) e h = omega (arith, length-append cs s)
keyword-short (decimal_digits r l) e h = let z : ◌≡◌ {A = ℕ} 0 1 = cc in absurd (omega arith)
keyword-short (hex_digits r) e h = let z : ◌≡◌ {A = ℕ} 0 1 = cc in absurd (omega arith)
keyword-short (quoted a) e h = let z : ◌≡◌ {A = ℕ} 0 1 = cc in absurd (omega arith)
keyword-short (pair i) e h = omega arith
keyword-short {k} (symbol {b} i n) e h = let d : b ≡ k = cc in absurd (omega (arith, leb-true b 127 (of-symbols (λ x. leb x 127) b refl i)))

string-short : {table : List (List ℕ)} {s t bs : List ℕ} {w : Token} → Word table s w t → w ≡ string bs → 2 + (length bs + length t) ≤ length s
string-short (spaced w) e = let i = string-short w e in omega arith
string-short (letter r) e = let z : ◌≡◌ {A = ℕ} 0 1 = cc in absurd (omega arith)
string-short (keyword r) e = let z : ◌≡◌ {A = ℕ} 0 1 = cc in absurd (omega arith)
string-short (decimal_digits r l) e = let z : ◌≡◌ {A = ℕ} 0 1 = cc in absurd (omega arith)
string-short (hex_digits r) e = let z : ◌≡◌ {A = ℕ} 0 1 = cc in absurd (omega arith)
string-short {bs} (quoted {bs = cs} {s} a) e = let d : cs ≡ bs = cc in rw (← d) (omega (arith, length-append cs (34 ∷ s)))
string-short (pair i) e = let z : ◌≡◌ {A = ℕ} 0 1 = cc in absurd (omega arith)
string-short (symbol i n) e = let z : ◌≡◌ {A = ℕ} 0 1 = cc in absurd (omega arith)

-- Operations behind values
after : (a w : List ℕ) (v : ℕ) → length (a ++ (v ∷ w)) ≡ suc (length a + length w)
after a w v = omega (arith, length-append a (v ∷ w))

after_two : (a b : List ℕ) (v : ℕ) → length (a ++ (b ++ (v ∷ []))) ≡ suc (length a + length b)
after_two a b v = omega (arith, length-append a (b ++ (v ∷ [])), length-append b (v ∷ []))

-- the reading of s is followed by t
abbrev Short : List ℕ → List ℕ → List ℕ → Type 0
Short ops s t = length ops + length t ≤ length s

joint-short : {js : Joints} {s t : List ℕ} {o : Op} → Joint W js s o t → length t < length s
joint-short (joint w e) = word-short w

mutual
  unfolding values

  factor-short : {s t : List ℕ} {a : Expr} → Factor W s a t → Short (values a) s t
  factor-short (a_variable w) = omega (arith, word-short w)
  factor-short (a_constant w) = omega (arith, word-short w)
  factor-short (a_hex w) = omega (arith, word-short w)
  factor-short (a_stat k) = omega (arith, word-short k)
  factor-short (a_top k) = omega (arith, word-short k)
  factor-short (in_brackets k r j) = omega (arith, word-short k, relation-short r, word-short j)
  factor-short (a_byte {a} k f) = omega (arith, word-short k, factor-short f, after (values a) [] (op code_byte 0))
  factor-short (a_not {a} k f) = omega (arith, word-short k, factor-short f, after (values a) [] (op code_not 0))
  factor-short (a_mod {a} {b} k i r c q j) =
      omega (arith, word-short k, word-short i, relation-short r, word-short c, relation-short q, word-short j, after_two (values a) (values b) (op code_mod 0))

  term-short : {s t : List ℕ} {a : Expr} → Term W s a t → Short (values a) s t
  term-short (a_factor f) = factor-short f
  term-short (factors {o} {a} {b} t j f) = omega (arith, term-short t, joint-short j, factor-short f, after_two (values a) (values b) (op code_operator (op_number o)))

  sum-short : {s t : List ℕ} {a : Expr} → Sum W s a t → Short (values a) s t
  sum-short (a_term m t) = omega (arith, outside-length (may-out m), term-short t)
  sum-short (less_term {a} k t) = omega (arith, word-short k, term-short t, after (values a) [] (op code_negate 0))
  sum-short (terms {o} {a} {b} u j t) = omega (arith, sum-short u, joint-short j, term-short t, after_two (values a) (values b) (op code_operator (op_number o)))

  pub relation-short : {s t : List ℕ} {a : Expr} → Relation W s a t → Short (values a) s t
  relation-short (a_sum u) = sum-short u
  relation-short (related {o} {a} {b} u j v) = omega (arith, sum-short u, joint-short j, sum-short v, after_two (values a) (values b) (op code_operator (op_number o)))

-- PRINT: an item may have one operation more than bytes, and so may the items
print-word : {s t : List ℕ} → PrintWord W s t → 2 + length t ≤ length s
print-word (short_print k) = keyword-short k refl (omega arith)
print-word (long_print k) = keyword-short k refl (omega arith)

item-short : {s t : List ℕ} {i : Item} → AnItem W s i t → length (item_code i) + length t ≤ suc (length s)
unfolding item_code
item-short (a_string {bs} w) = omega (arith, string-short w refl, length-map bs (λ (b : ℕ). op code_print_byte b))
item-short (a_stored {a} k f) = omega (arith, word-short k, factor-short f, after (values a) [] (op code_print_string 0))
item-short (a_value {a} r) = omega (arith, relation-short r, after (values a) [] (op code_print_number 0))

items-short : {s t : List ℕ} {is : List Item} → Items W s is t → length (items_code is) + length t ≤ suc (length s)
unfolding items_code
items-short (one_item {i} a) = omega (arith, item-short a, length-append (item_code i) [])
items-short (more_items {i} {is} a k r) = omega (arith, item-short a, word-short k, items-short r, length-append (item_code i) (items_code is))

end_short : {s t : List ℕ} {b : _} → LastSemicolon W s b t → length (end_code b) + length t ≤ suc (length s)
end_short no_semicolon = omega arith
end_short (a_semicolon k) = omega (arith, word-short k)

-- GO TO, FOR and INPUT
either-short : {one two three : String} {s t : List ℕ} → Either W one two three s t → length t < length s
either-short (whole k) = word-short k
either-short (parted k j) = omega (arith, word-short k, word-short j)

step-short : {s t : List ℕ} {a : Expr} → AStep W s a t → length (values a) + length t ≤ suc (length s)
unfolding values
step-short no_step = omega arith
step-short (some_step k r) = omega (arith, word-short k, relation-short r)

variables-short : {s t vs : List ℕ} → Variables W s vs t → Short vs s t
variables-short (one_variable w) = omega (arith, word-short w)
variables-short (more_variables w k r) = omega (arith, word-short w, word-short k, variables-short r)

pub statement-short : {s t : List ℕ} {q : Stmt} → Statement W s q t → Short (compile q) s t
unfolding compile
statement-short (a_let_var {v} {a} m w k r) = omega (arith, outside-length (may-out m), word-short w, word-short k, relation-short r, after (values a) [] (op code_set_variable v))
statement-short (a_let_stat {a} m k e r) = omega (arith, outside-length (may-out m), word-short k, word-short e, relation-short r, after (values a) [] (op code_set_stat 0))
statement-short (a_let_byte {a} {b} m k f e r) =
    omega (arith, outside-length (may-out m), word-short k, factor-short f, word-short e, relation-short r, after_two (values a) (values b) (op code_set_byte 0))
statement-short (a_let_text {bs} {a} m k f e w) =
    omega (
      arith,
      outside-length (may-out m),
      word-short k,
      factor-short f,
      word-short e,
      string-short w refl,
      after (values a) (texts code_string_byte bs ++ (op code_string_byte 13 ∷ [])) (op code_store_string (length bs + 1)),
      after (texts code_string_byte bs) [] (op code_string_byte 13),
      length-map bs (λ (b : ℕ). op code_string_byte b),
    )
statement-short (a_let_copy {a} {b} m k f e d g) =
    omega (arith, outside-length (may-out m), word-short k, factor-short f, word-short e, word-short d, factor-short g, after_two (values a) (values b) (op code_copy_string 0))
statement-short (a_goto {a} e r) = omega (arith, either-short e, relation-short r, after (values a) [] (op code_goto 0))
statement-short (a_gosub {a} e r) = omega (arith, either-short e, relation-short r, after (values a) [] (op code_gosub 0))
statement-short (a_return k) = omega (arith, word-short k)
statement-short (a_print {is} {b} p i e) = omega (arith, print-word p, items-short i, end_short e, length-append (items_code is) (end_code b))
statement-short (an_if {a} {q} k r m p) = omega (arith, word-short k, relation-short r, outside-length (may-out m), statement-short p, after (values a) (compile q) (op code_if 0))
statement-short (a_do k) = omega (arith, word-short k)
statement-short (an_until {a} k r) = omega (arith, word-short k, relation-short r, after (values a) [] (op code_until 0))
statement-short (a_for {v} {a} {b} {c} k w e r o p s) =
    omega (
      arith,
      word-short k,
      word-short w,
      word-short e,
      relation-short r,
      word-short o,
      relation-short p,
      step-short s,
      length-append (values a) (values b ++ (values c ++ (op code_for v ∷ []))),
      after_two (values b) (values c) (op code_for v),
    )
statement-short (a_next k w) = omega (arith, word-short k, word-short w)
statement-short (an_input {vs} k v) = omega (arith, word-short k, variables-short v, length-map vs (λ (b : ℕ). op code_input_variable b))
statement-short (an_input_text {a} k d f) = omega (arith, word-short k, word-short d, factor-short f, after (values a) [] (op code_input_string 0))
statement-short (a_remark k a) = omega arith
statement-short (an_end k) = omega (arith, word-short k)

member-fits : {s t : List ℕ} {m : Member} → AMember s m t → length (compile m.statement) ≤ length s
member-fits (at_end p a) = omega (arith, statement-short p)
member-fits (at_colon p k) = omega (arith, statement-short p)

-- so a list of operations that is as long as the text has room
pub member-short : (s t : List ℕ) (m : Member) → member s ≡ found m t → length (compile m.statement) ≤ length s
member-short s t m e = member-fits (ok-found (rw e at (it (member-same s))))
