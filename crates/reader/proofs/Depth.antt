-- A list of operations needs no more room on the stack than it has operations. Assumes nothing.
use Prim.Native.Nat.{ℕ, suc, max, ◌≤◌, ◌<◌}
use mathlib.Core.List.{List, [], ◌∷◌, ◌++◌}
use native.Mathlib.Omega.{arith}
use lib.ListN.{length, length-append}
use Rattle.nibl.specs.Tree.{Expr, var, const, stat, top, byte_at, invert, negate, modulo, two}
use Rattle.nibl.specs.Tree.{Item, text, stored, value}
use Rattle.nibl.specs.Tree.{Stmt, let_var, let_stat, let_byte, let_copy, let_text, goto, gosub, until, return, do_loop, remark, end, print, if_then, for, next, input, input_text}
use Rattle.relation.specs.Code.{values}
use Rattle.codes.specs.Codes.{op}
use Rattle.codes.specs.Operators.{op_number}
use Rattle.reader.specs.Code.{item_code, items_code, compile}
use Rattle.reader.specs.Depth.{value_depth, item_depth, items_depth, depth}

-- one operation behind a list of them, and two lists with one behind
one_more : (n : ℕ) (l : List ℕ) (v : ℕ) → n ≤ length l → n ≤ length (l ++ (v ∷ []))
one_more n l v h = omega (arith, length-append l (v ∷ []))

both : (m n : ℕ) (k l : List ℕ) (v : ℕ) → m ≤ length k → 0 < length k → n ≤ length l → max m (suc n) ≤ length (k ++ (l ++ (v ∷ [])))
both m n k l v h g i = omega (arith, length-append k (l ++ (v ∷ [])), length-append l (v ∷ []))

some-values : (a : Expr) → 0 < length (values a)
unfolding values
some-values (const n) = omega arith
some-values (var v) = omega arith
some-values stat = omega arith
some-values top = omega arith
some-values (byte_at a) = one_more 1 (values a) _ (some-values a)
some-values (invert a) = one_more 1 (values a) _ (some-values a)
some-values (negate a) = one_more 1 (values a) _ (some-values a)
some-values (modulo a b) = omega (arith, length-append (values a) (values b ++ (op 7 0 ∷ [])), some-values a)
some-values (two o a b) = omega (arith, length-append (values a) (values b ++ (op 8 (op_number o) ∷ [])), some-values a)

pub value-depth : (a : Expr) → value_depth a ≤ length (values a)
unfolding values value_depth
value-depth (const n) = omega arith
value-depth (var v) = omega arith
value-depth stat = omega arith
value-depth top = omega arith
value-depth (byte_at a) = one_more _ (values a) _ (value-depth a)
value-depth (invert a) = one_more _ (values a) _ (value-depth a)
value-depth (negate a) = one_more _ (values a) _ (value-depth a)
value-depth (modulo a b) = both _ _ (values a) (values b) _ (value-depth a) (some-values a) (value-depth b)
value-depth (two o a b) = both _ _ (values a) (values b) _ (value-depth a) (some-values a) (value-depth b)

item-depth : (i : Item) → item_depth i ≤ length (item_code i)
unfolding item_code item_depth
item-depth (text bs) = omega arith
item-depth (stored a) = one_more _ (values a) _ (value-depth a)
item-depth (value a) = one_more _ (values a) _ (value-depth a)

items-depth : (is : List Item) → items_depth is ≤ length (items_code is)
unfolding items_code items_depth
items-depth [] = omega arith
items-depth (i ∷ is) = omega (arith, length-append (item_code i) (items_code is), item-depth i, items-depth is)

front : (n : ℕ) (k l : List ℕ) → n ≤ length k → n ≤ length (k ++ l)
front n k l h = omega (arith, length-append k l)

pub statement-depth : (q : Stmt) → depth q ≤ length (compile q)
unfolding compile depth
statement-depth (let_var v a) = one_more _ (values a) _ (value-depth a)
statement-depth (let_stat a) = one_more _ (values a) _ (value-depth a)
statement-depth (let_byte a b) = both _ _ (values a) (values b) _ (value-depth a) (some-values a) (value-depth b)
statement-depth (let_copy a b) = both _ _ (values a) (values b) _ (value-depth a) (some-values a) (value-depth b)
statement-depth (let_text a bs) = front _ (values a) _ (value-depth a)
statement-depth (goto a) = one_more _ (values a) _ (value-depth a)
statement-depth (gosub a) = one_more _ (values a) _ (value-depth a)
statement-depth (until a) = one_more _ (values a) _ (value-depth a)
statement-depth return = omega arith
statement-depth do_loop = omega arith
statement-depth remark = omega arith
statement-depth end = omega arith
statement-depth (print is b) = front _ (items_code is) _ (items-depth is)
statement-depth (if_then a q) = omega (arith, length-append (values a) (op 30 0 ∷ compile q), value-depth a, statement-depth q)
statement-depth (for v a b c) =
    omega (
      arith,
      length-append (values a) (values b ++ (values c ++ (op 33 v ∷ []))),
      length-append (values b) (values c ++ (op 33 v ∷ [])),
      length-append (values c) (op 33 v ∷ []),
      value-depth a,
      value-depth b,
      value-depth c,
      some-values a,
      some-values b,
    )
statement-depth (next v) = omega arith
statement-depth (input vs) = omega arith
statement-depth (input_text a) = one_more _ (values a) _ (value-depth a)
