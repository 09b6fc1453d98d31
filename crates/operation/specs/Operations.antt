-- What a list of operations does: it is defined over the operations alone, without words or grammar but for replies.
-- Codes below `effects` take values off a stack and put one on; the others see the three values on top, change the world and
-- leave no values.
use Rattle.std.specs.Prelude.{ℕ, ◌%◌, ◌+◌, Bool, true, false, ◌||◌, List, [], ◌∷◌, ◌++◌, map, ltb, leb, eqb, length, get_or, drop, if◌then◌else◌}
use Rattle.nibl.specs.Bytes.{byte_cr, byte_lf}
use Rattle.nibl.specs.Values.{Result, is, Value, sub16, not16, mod16, apply, printed}
use Rattle.nibl.specs.Stack.{pop_of, pop_for}
use Rattle.nibl.specs.Page.{find, used}
use Rattle.nibl.specs.found.Read.{replied}
use Rattle.nibl.specs.Meaning.{World, Env, with_session, on, skip, go, stop, Done, done, bind, given, went, byte_of, string_at, store_at, stat_of}
use Rattle.nibl.specs.Record.{with_var, with_flags}
use Rattle.nibl.specs.Meaning.{put, keep_in, line_there, gosub_to, return_by, do_here, until_by, for_here, next_by, asked, assign_reply}
use Rattle.codes.specs.Codes.{code_in, argument_in, effects, code_constant, code_variable, code_stat, code_top, code_byte, code_not, code_negate, code_mod}
use Rattle.codes.specs.Codes.{code_set_variable, code_set_stat, code_set_byte, code_store_string, code_copy_string, code_goto, code_gosub, code_return, code_print_room, code_print_byte, code_print_string, code_print_number, code_print_end, code_if, code_do, code_until, code_for, code_next, code_input, code_input_string}
use Rattle.codes.specs.Operators.{op_of}
use Rattle.nibl.specs.declared.access.Sight.{Sight}
use Rattle.world.specs.Stores.{args_of}

-- what a value is worked out from
pub record Sources : Type 0 where
  pub vars : List ℕ
  pub flags : ℕ
  pub sight : Sight
  pub page : List ℕ
  pub memory : List ℕ

abbrev pub sources_in : Env → World → Sources
sources_in e w = record { vars = w.session.vars; flags = w.session.flags; sight = e.sight; page = e.page; memory = w.memory }

-- the value of an operation, x the value on top and y the one below; any code but these is an operator's
unfoldable pub value_by : Sources → ℕ → ℕ → ℕ → ℕ → Value
value_by s code arg x y =
    if eqb code code_constant then is (arg % 65536)
    else if eqb code code_variable then is (get_or s.vars arg 0)
    else if eqb code code_stat then is (stat_of s.sight.sense s.flags)
    else if eqb code code_top then is (used s.page)
    else if eqb code code_byte then byte_of s.sight.access s.memory x
    else if eqb code code_not then is (not16 x)
    else if eqb code code_negate then is (sub16 0 x)
    else if eqb code code_mod then mod16 y x
    else apply (op_of arg) y x

-- how many values a code takes
abbrev pub takes : ℕ → ℕ
takes code = if ltb code code_byte then 0 else if ltb code code_mod then 1 else 2

-- the values after an operation on values, the top first
unfoldable pub value_step : Sources → ℕ → List ℕ → Result (List ℕ)
value_step s o vs =
    bind (value_by s (code_in o) (argument_in o) (get_or vs 0 0) (get_or vs 1 0)) (λ v. is (v ∷ drop (takes (code_in o)) vs))

-- a list of such operations
unfoldable pub work_out : Sources → List ℕ → List ℕ → Result (List ℕ)
work_out s [] vs = is vs
work_out s (o ∷ rest) vs = bind (value_step s o vs) (λ us. work_out s rest us)

-- what the operations on values that a list begins with leave: the operations behind them, and the values
pub record AtEffect : Type 0 where
  pub rest : List ℕ
  pub stack : List ℕ

abbrev pub at_effect : List ℕ → List ℕ → AtEffect
at_effect rest stack = record { rest = rest; stack = stack }

unfoldable pub values_first : Sources → List ℕ → List ℕ → Result AtEffect
values_first s [] vs = is (at_effect [] vs)
values_first s (o ∷ rest) vs =
    elim (ltb (code_in o) effects) [
      | true ↦ bind (value_step s o vs) (λ us. values_first s rest us)
      | false ↦ is (at_effect (o ∷ rest) vs)
    ]

-- what an operation does to the world, x the value on top, y and z below it; any code but these is END's
unfoldable pub effect_by : Env → ℕ → ℕ → ℕ → ℕ → ℕ → World → Done
effect_by e code arg x y z w =
    if eqb code code_set_variable then done on (with_session w (with_var w.session arg x))
    else if eqb code code_set_stat then done on (with_session w (with_flags w.session (x % 8)))
    else if eqb code code_set_byte then keep_in w (store_at e.sight.access w.memory y (x % 256 ∷ []))
    else if eqb code code_copy_string then keep_in w (bind (string_at e.sight.access w.memory x) (λ bs. store_at e.sight.access w.memory y (bs ++ (byte_cr ∷ []))))
    else if eqb code code_goto then given (line_there (find e.page x)) w (λ q. done (go q) w)
    else if eqb code code_gosub then given (line_there (find e.page x)) w (gosub_to e w)
    else if eqb code code_return then return_by w (pop_of w.session.gosubs).top
    else if eqb code code_print_room then (if leb (w.outpos + arg) (length w.output) then done on w else done (stop 17) w)
    else if eqb code code_print_byte then put (arg % 256 ∷ []) w
    else if eqb code code_print_string then given (string_at e.sight.access w.memory x) w (λ bs. put bs w)
    else if eqb code code_print_number then put (printed x) w
    else if eqb code code_print_end then put (byte_cr ∷ byte_lf ∷ []) w
    else if eqb code code_if then (if eqb x 0 then done skip w else done on w)
    else if eqb code code_do then do_here e w
    else if eqb code code_until then until_by w x (pop_of w.session.dos).top
    else if eqb code code_for then for_here e w (arg % 256) z y x
    else if eqb code code_next then next_by w (arg % 256) (pop_for w.session.fors).top
    else if eqb code code_input_string then asked e w (λ u bs. keep_in u (store_at e.sight.access u.memory x (bs ++ (byte_cr ∷ []))))
    else done (stop 20) w

-- the variables that operations have as their arguments
abbrev pub variables_of : List ℕ → List ℕ
variables_of rest = map argument_in rest

-- one stores the bytes that the operations behind it have as arguments, the other asks for a reply for the variables that they
-- have: both end the list
unfoldable pub last_by : Env → ℕ → ℕ → List ℕ → World → Done
last_by e o x rest w =
    if eqb (code_in o) code_store_string then keep_in w (store_at e.sight.access w.memory x (args_of rest))
    else asked e w (λ u bs. assign_reply e (variables_of rest) u (replied (argument_in o) bs))

abbrev pub is_last : ℕ → Bool
is_last code = eqb code code_store_string || eqb code code_input

unfoldable pub run_ops : Env → List ℕ → World → List ℕ → Done
run_ops e [] w vs = done on w
run_ops e (o ∷ rest) w vs =
    elim (ltb (code_in o) effects) [
      | true ↦ given (value_step (sources_in e w) o vs) w (λ us. run_ops e rest w us)
      | false ↦ elim (is_last (code_in o)) [
        | true ↦ last_by e o (get_or vs 0 0) rest w
        | false ↦ went (effect_by e (code_in o) (argument_in o) (get_or vs 0 0) (get_or vs 1 0) (get_or vs 2 0) w) (λ u. run_ops e rest u [])
      ]
    ]
