-- How many values lie on the stack at most while a reading's operations run.
use Rattle.std.specs.Prelude.{ℕ, suc, max, List, [], ◌∷◌}
use Rattle.nibl.specs.Tree.{Expr, var, const, stat, top, byte_at, invert, negate, modulo, two}
use Rattle.nibl.specs.Tree.{Item, text, stored, value}
use Rattle.nibl.specs.Tree.{Stmt, let_var, let_stat, let_byte, let_copy, let_text, goto, gosub, until, return, do_loop, remark, end, print, if_then, for, next, input, input_text}

-- the first operand stays while the second is worked out
unfoldable pub value_depth : Expr → ℕ
value_depth (const n) = 1
value_depth (var v) = 1
value_depth stat = 1
value_depth top = 1
value_depth (byte_at a) = value_depth a
value_depth (invert a) = value_depth a
value_depth (negate a) = value_depth a
value_depth (modulo a b) = max (value_depth a) (suc (value_depth b))
value_depth (two o a b) = max (value_depth a) (suc (value_depth b))

unfoldable pub item_depth : Item → ℕ
item_depth (text bs) = 0
item_depth (stored a) = value_depth a
item_depth (value a) = value_depth a

unfoldable pub items_depth : List Item → ℕ
items_depth [] = 0
items_depth (i ∷ is) = max (item_depth i) (items_depth is)

unfoldable pub depth : Stmt → ℕ
depth (let_var v a) = value_depth a
depth (let_stat a) = value_depth a
depth (let_byte a b) = max (value_depth a) (suc (value_depth b))
depth (let_copy a b) = max (value_depth a) (suc (value_depth b))
depth (let_text a bs) = value_depth a
depth (goto a) = value_depth a
depth (gosub a) = value_depth a
depth (until a) = value_depth a
depth return = 0
depth do_loop = 0
depth remark = 0
depth end = 0
depth (print is b) = items_depth is
depth (if_then a q) = max (value_depth a) (depth q)
depth (for v a b c) = max (value_depth a) (max (suc (value_depth b)) (suc (suc (value_depth c))))
depth (next v) = 0
depth (input vs) = 0
depth (input_text a) = value_depth a
