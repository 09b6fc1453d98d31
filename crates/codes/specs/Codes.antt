-- The operations that a statement is read into. An operation is one number: its code below `codes`, and its argument above.
-- The codes below `effects` take values off a stack and put one on; the others change the world and leave no values.
use Rattle.std.specs.Prelude.{ℕ, ◌+◌, ◌*◌, ◌/◌, ◌%◌}

abbrev pub codes : ℕ
codes = 64

abbrev pub op : ℕ → ℕ → ℕ
op code arg = arg * codes + code

abbrev pub code_in : ℕ → ℕ
code_in o = o % codes

abbrev pub argument_in : ℕ → ℕ
argument_in o = o / codes

abbrev pub effects : ℕ
effects = 16

-- a constant: its value
abbrev pub code_constant : ℕ
code_constant = 0

-- a variable: 0 for A to 25 for Z
abbrev pub code_variable : ℕ
code_variable = 1

-- STAT
abbrev pub code_stat : ℕ
code_stat = 2

-- TOP
abbrev pub code_top : ℕ
code_top = 3

-- "@": the byte at the value on top
abbrev pub code_byte : ℕ
code_byte = 4

-- NOT
abbrev pub code_not : ℕ
code_not = 5

-- a leading minus: a difference from 0
abbrev pub code_negate : ℕ
code_negate = 6

-- MOD
abbrev pub code_mod : ℕ
code_mod = 7

-- an operator, by its number
abbrev pub code_operator : ℕ
code_operator = 8

-- an assignment to a variable: which one
abbrev pub code_set_variable : ℕ
code_set_variable = 16

-- to STAT
abbrev pub code_set_stat : ℕ
code_set_stat = 17

-- to the byte at an address
abbrev pub code_set_byte : ℕ
code_set_byte = 18

-- a string goes to an address: how many bytes with its CR, which the operations behind this one have
abbrev pub code_store_string : ℕ
code_store_string = 19

-- one of those bytes
abbrev pub code_string_byte : ℕ
code_string_byte = 20

-- a string goes from an address to another
abbrev pub code_copy_string : ℕ
code_copy_string = 21

-- GOTO
abbrev pub code_goto : ℕ
code_goto = 22

-- GOSUB
abbrev pub code_gosub : ℕ
code_gosub = 23

-- RETURN
abbrev pub code_return : ℕ
code_return = 24

-- PRINT asks for room: how many bytes
abbrev pub code_print_room : ℕ
code_print_room = 25

-- and writes a byte of a string
abbrev pub code_print_byte : ℕ
code_print_byte = 26

-- a string in memory
abbrev pub code_print_string : ℕ
code_print_string = 27

-- a number
abbrev pub code_print_number : ℕ
code_print_number = 28

-- CR LF
abbrev pub code_print_end : ℕ
code_print_end = 29

-- IF: on to the next operation, or to the next record
abbrev pub code_if : ℕ
code_if = 30

-- DO
abbrev pub code_do : ℕ
code_do = 31

-- UNTIL
abbrev pub code_until : ℕ
code_until = 32

-- FOR: its variable
abbrev pub code_for : ℕ
code_for = 33

-- NEXT: its variable
abbrev pub code_next : ℕ
code_next = 34

-- INPUT: how many variables, which the operations behind this one have
abbrev pub code_input : ℕ
code_input = 35

-- one of those variables
abbrev pub code_input_variable : ℕ
code_input_variable = 36

-- INPUT of a string
abbrev pub code_input_string : ℕ
code_input_string = 37

-- END
abbrev pub code_end : ℕ
code_end = 38
