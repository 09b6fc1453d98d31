-- The operations of a statement, and of an item of PRINT: first those of its values, then what is done with them.
use Rattle.std.specs.Prelude.{ℕ, ◌+◌, Bool, true, false, List, [], ◌∷◌, ◌++◌, map, length}
use Rattle.nibl.specs.Bytes.{byte_cr}
use Rattle.nibl.specs.Tree.{Item, text, stored, value}
use Rattle.nibl.specs.Tree.{Stmt, let_var, let_stat, let_byte, let_copy, let_text, goto, gosub, until, return, do_loop, remark, end, print, if_then, for, next, input, input_text}
use Rattle.relation.specs.Code.{values}
use Rattle.codes.specs.Codes.{op, code_set_variable, code_set_stat, code_set_byte, code_store_string, code_string_byte, code_copy_string, code_goto, code_gosub, code_return, code_print_room, code_print_byte, code_print_string, code_print_number, code_print_end, code_if, code_do, code_until, code_for, code_next, code_input, code_input_variable, code_input_string, code_end}

-- an operation for each byte of a text, or for each variable
abbrev pub texts : ℕ → List ℕ → List ℕ
texts code bs = map (λ b. op code b) bs

unfoldable pub item_code : Item → List ℕ
item_code (text bs) = op code_print_room (length bs) ∷ texts code_print_byte bs
item_code (stored a) = values a ++ (op code_print_string 0 ∷ [])
item_code (value a) = values a ++ (op code_print_number 0 ∷ [])

unfoldable pub items_code : List Item → List ℕ
items_code [] = []
items_code (i ∷ is) = item_code i ++ items_code is

abbrev pub end_code : Bool → List ℕ
end_code true = []
end_code false = op code_print_end 0 ∷ []

unfoldable pub compile : Stmt → List ℕ
compile (let_var v a) = values a ++ (op code_set_variable v ∷ [])
compile (let_stat a) = values a ++ (op code_set_stat 0 ∷ [])
compile (let_byte a b) = values a ++ (values b ++ (op code_set_byte 0 ∷ []))
compile (let_text a bs) = values a ++ (op code_store_string (length bs + 1) ∷ (texts code_string_byte bs ++ (op code_string_byte byte_cr ∷ [])))
compile (let_copy a b) = values a ++ (values b ++ (op code_copy_string 0 ∷ []))
compile (goto a) = values a ++ (op code_goto 0 ∷ [])
compile (gosub a) = values a ++ (op code_gosub 0 ∷ [])
compile return = op code_return 0 ∷ []
compile (print is b) = items_code is ++ end_code b
compile (if_then a q) = values a ++ (op code_if 0 ∷ compile q)
compile do_loop = op code_do 0 ∷ []
compile (until a) = values a ++ (op code_until 0 ∷ [])
compile (for v a b c) = values a ++ (values b ++ (values c ++ (op code_for v ∷ [])))
compile (next v) = op code_next v ∷ []
compile (input vs) = op code_input (length vs) ∷ texts code_input_variable vs
compile (input_text a) = values a ++ (op code_input_string 0 ∷ [])
compile remark = []
compile end = op code_end 0 ∷ []
