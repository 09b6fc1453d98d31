-- Which operations belong to a statement that only a program may have: their codes tell. Assumes nothing.
use Prim.Native.Nat.{ℕ, ◌+◌, ◌≤◌, ◌<◌}
use mathlib.Core.Path.{◌≡◌, refl, ap, ◌∙◌}
use mathlib.Core.Bool.{Bool, true, false, ◌||◌}
use mathlib.Core.List.{List, [], ◌∷◌, ◌++◌}
use native.Mathlib.Omega.{arith}
use borrow.Author.Tests.{le-leb, lt-leb}
use lib.ListN.{length, take, drop}
use lib.Seq.{sets, sets-eq, take_at}
use Rattle.nibl.specs.Tree.{Expr, var, const, stat, top, byte_at, invert, negate, modulo, two, Item, text, stored, value}
use Rattle.nibl.specs.Tree.{Stmt, let_var, let_stat, let_byte, let_copy, let_text, goto, gosub, until, return, do_loop, remark, end, print, if_then, for, next, input, input_text}
use Rattle.nibl.specs.Calls.{needs_program}
use Rattle.relation.specs.Code.{values}
use Rattle.codes.specs.Codes.{codes, op, code_in, code_constant, code_do, code_for, code_input, code_input_string, code_input_variable, code_next, code_operator, code_print_byte, code_print_room, code_set_variable, code_store_string, code_string_byte, code_variable}
use Rattle.codes.specs.Operators.{op_number}
use Rattle.reader.specs.Code.{texts, item_code, items_code, end_code, compile}
use Rattle.line.specs.Answers.{needing, some_need}

code-in : (code arg : ℕ) → code < codes → code_in (op code arg) ≡ code
code-in code arg h = omega arith

-- Codes below that of DO need none
low : (code arg : ℕ) → code < code_do → needing (op code arg) ≡ false
low code arg h = rw (code-in code arg (omega arith), lt-leb code_do code h)

some_more : (t : Bool) (a b : List ℕ) → some_need (a ++ b) ≡ (some_need a || some_need b) → (t || some_need (a ++ b)) ≡ ((t || some_need a) || some_need b)
some_more true a b e = refl
some_more false a b e = e

some-append : (a b : List ℕ) → some_need (a ++ b) ≡ (some_need a || some_need b)
some-append [] b = refl
some-append (v ∷ a) b = some_more (needing v) a b (some-append a b)

-- what stands behind operations that need none
behind : (a b : List ℕ) → some_need a ≡ false → some_need (a ++ b) ≡ some_need b
behind a b h = rw (some-append a b, h)

one-low : (code arg : ℕ) (b : List ℕ) → code < code_do → some_need (op code arg ∷ b) ≡ some_need b
one-low code arg b h = rw (low code arg h)

texts-low : (code : ℕ) (bs : List ℕ) → code < code_do → some_need (texts code bs) ≡ false
texts-low code [] h = refl
texts-low code (b ∷ bs) h = one-low code b (texts code bs) h ∙ texts-low code bs h

values_low : (a : Expr) → some_need (values a) ≡ false
unfolding values
values_low (const n) = one-low code_constant n [] (omega arith)
values_low (var v) = one-low code_variable v [] (omega arith)
values_low stat = refl
values_low top = refl
values_low (byte_at a) = behind (values a) _ (values_low a)
values_low (invert a) = behind (values a) _ (values_low a)
values_low (negate a) = behind (values a) _ (values_low a)
values_low (modulo a b) = behind (values a) _ (values_low a) ∙ behind (values b) _ (values_low b)
values_low (two o a b) = behind (values a) _ (values_low a) ∙ behind (values b) _ (values_low b) ∙ one-low code_operator (op_number o) [] (omega arith)

item-low : (i : Item) → some_need (item_code i) ≡ false
unfolding item_code
item-low (text bs) = one-low code_print_room (length bs) (texts code_print_byte bs) (omega arith) ∙ texts-low code_print_byte bs (omega arith)
item-low (stored a) = behind (values a) _ (values_low a)
item-low (value a) = behind (values a) _ (values_low a)

items-low : (is : List Item) → some_need (items_code is) ≡ false
unfolding items_code
items-low [] = refl
items-low (i ∷ is) = behind (item_code i) (items_code is) (item-low i) ∙ items-low is

end_low : (b : Bool) → some_need (end_code b) ≡ false
end_low true = refl
end_low false = refl

-- a statement's last code
high : (code arg : ℕ) (b : List ℕ) → code_do ≤ code → code ≤ code_input_string → some_need (op code arg ∷ b) ≡ true
high code arg b h l = rw (code-in code arg (omega arith), le-leb code_do code h, le-leb code code_input_string l)

pub needs-exact : (q : Stmt) → some_need (compile q) ≡ needs_program q
unfolding compile
needs-exact (let_var v a) = behind (values a) _ (values_low a) ∙ one-low code_set_variable v [] (omega arith)
needs-exact (let_stat a) = behind (values a) _ (values_low a)
needs-exact (let_byte a b) = behind (values a) _ (values_low a) ∙ behind (values b) _ (values_low b)
needs-exact (let_copy a b) = behind (values a) _ (values_low a) ∙ behind (values b) _ (values_low b)
needs-exact (let_text a bs) =
    behind (values a) _ (values_low a) ∙ one-low code_store_string (length bs + 1) (texts code_string_byte bs ++ (op code_string_byte 13 ∷ [])) (omega arith) ∙ behind (texts code_string_byte bs) (op code_string_byte 13 ∷ []) (texts-low code_string_byte bs (omega arith))
needs-exact (goto a) = behind (values a) _ (values_low a)
needs-exact (gosub a) = behind (values a) _ (values_low a)
needs-exact (until a) = behind (values a) _ (values_low a)
needs-exact return = refl
needs-exact do_loop = refl
needs-exact remark = refl
needs-exact end = refl
needs-exact (print is b) = behind (items_code is) (end_code b) (items-low is) ∙ end_low b
needs-exact (if_then a q) = behind (values a) _ (values_low a) ∙ needs-exact q
needs-exact (for v a b c) =
    behind (values a) _ (values_low a) ∙ behind (values b) _ (values_low b) ∙ behind (values c) _ (values_low c) ∙ high code_for v [] (omega arith) (omega arith)
needs-exact (next v) = high code_next v [] (omega arith) (omega arith)
needs-exact (input vs) = high code_input (length vs) (texts code_input_variable vs) (omega arith) (omega arith)
needs-exact (input_text a) = behind (values a) _ (values_low a)

-- as they stand in the list
pub written-front : (ops w : List ℕ) (n : ℕ) → length w ≡ n → n ≤ length ops → take n (sets ops 0 w) ≡ w
written-front ops w n e h = ap (take n) (sets-eq w ops 0 (omega arith)) ∙ take_at w (drop (0 + length w) ops) n e
