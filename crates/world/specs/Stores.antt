-- What the answers of memory's functions say.
use Rattle.std.specs.Prelude.{ℕ, ◌+◌, ◌%◌, not, List, map, leb, if◌then◌else◌}
use Rattle.std.specs.Prelude.{Result as Res, Ok, Err}
use Rattle.nibl.specs.declared.stop.Stop.{Stop}
use Rattle.nibl.specs.Values.{Result, is, no}
use Rattle.nibl.specs.Access.{may_write}
use Rattle.nibl.specs.Meaning.{World, with_memory, Next, on, stop, Done, done}
use Rattle.nibl.specs.declared.access.Access.{Access}
use Rattle.codes.specs.Codes.{argument_in}

-- where the string ends that begins at an address, or the stop number
abbrev pub extent_of : Res ℕ Stop → Result ℕ
extent_of (Ok e) = is e
extent_of (Err s) = no s.0

-- a store of n bytes from a on into a memory of so many: whether it may be done
abbrev pub store_ends : Access → ℕ → ℕ → ℕ → Res (Unit {0}) Stop
store_ends x memory a n =
    if not (leb (a + n) memory) then Err (record { 0 = 16 })
    else if may_write x a n then Ok tt
    else Err (record { 0 = 21 })

-- a memory after a store, and how it ended
pub record AfterStore : Type 0 where
  pub next : Next
  pub memory : List ℕ

abbrev pub after_store : Next → List ℕ → AfterStore
after_store n m = record { next = n; memory = m }

-- what a store's answer says: on, or its stop number
abbrev pub store_gave : Res (Unit {0}) Stop → List ℕ → AfterStore
store_gave (Ok u) m = after_store on m
store_gave (Err s) m = after_store (stop s.0) m

-- a refused store leaves the memory as it was
abbrev pub store_leaves : List ℕ → Result (List ℕ) → AfterStore
store_leaves mem (is m) = after_store on m
store_leaves mem (no n) = after_store (stop n) mem

-- and in the world
abbrev pub after_store_in : World → AfterStore → Done
after_store_in w l = done l.next (with_memory w l.memory)

-- the bytes that operations have as their arguments
abbrev pub args_of : List ℕ → List ℕ
args_of ops = map (λ o. argument_in o % 256) ops
