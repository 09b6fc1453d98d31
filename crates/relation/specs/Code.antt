-- The operations of a relation: values are taken off a stack and one is put on.
use Rattle.std.specs.Prelude.{ℕ, List, [], ◌∷◌, ◌++◌}
use Rattle.codes.specs.Codes.{op, code_constant, code_variable, code_stat, code_top, code_byte, code_not, code_negate, code_mod, code_operator}
use Rattle.codes.specs.Operators.{op_number}
use Rattle.nibl.specs.Tree.{Expr, var, const, stat, top, byte_at, invert, negate, modulo, two}

unfoldable pub values : Expr → List ℕ
values (const n) = op code_constant n ∷ []
values (var v) = op code_variable v ∷ []
values stat = op code_stat 0 ∷ []
values top = op code_top 0 ∷ []
values (byte_at a) = values a ++ (op code_byte 0 ∷ [])
values (invert a) = values a ++ (op code_not 0 ∷ [])
values (negate a) = values a ++ (op code_negate 0 ∷ [])
values (modulo a b) = values a ++ (values b ++ (op code_mod 0 ∷ []))
values (two o a b) = values a ++ (values b ++ (op code_operator (op_number o) ∷ []))
