-- Whose the bytes of the memory are: what a box may read, and what it may write.
use Rattle.std.specs.Prelude.{ℕ, ◌+◌, Bool, ◌&&◌, ◌||◌, ltb, leb}
use Rattle.nibl.specs.declared.access.Range.{Range}
use Rattle.nibl.specs.declared.access.Access.{Access}

-- the range's end is not in it
abbrev pub inside : Range → ℕ → Bool
inside r a = leb r.from a && ltb a r.to

-- "a range .. that only that box may read or write, and a shared range that both read and neither writes"
abbrev pub may_read : Access → ℕ → Bool
may_read x a = inside x.own a || inside x.shared a

-- n bytes from a on: all are its own
abbrev pub may_write : Access → ℕ → ℕ → Bool
may_write x a n = leb x.own.from a && leb (a + n) x.own.to

-- a single box: the whole memory is its own. A byte past the memory is not there, whose ever it were, so that the memory's length
-- is not asked for
abbrev pub every_address : Access
every_address = record { own = record { from = 0; to = 65535 }; shared = record { from = 0; to = 0 } }
