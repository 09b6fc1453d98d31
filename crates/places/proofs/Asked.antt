-- What the readers' answers say of a record's text, for which there is room.
-- Assumes nothing.
use Rattle.std.specs.Prelude.{if◌then◌else◌}
use Rattle.std.specs.Prelude.{Result, Ok, Err}
use Rattle.reader.specs.declared.Unread.{Unread}
use Rattle.reader.specs.declared.Unread.TheVariants as unread
use Prim.Native.Nat.{ℕ}
use mathlib.Core.Path.{◌≡◌, refl}
use mathlib.Core.Bool.{Bool, true, false}
use mathlib.Core.List.{List}
use mathlib.Core.Option.{Option, none, some}
use native.Mathlib.Omega.{arith}
use lib.ListN.{length}
use borrow.Author.Tests.{le-leb}
use Rattle.nibl.specs.Tree.{Member}
use Rattle.nibl.specs.Page.{has_reading}
use Rattle.reader.specs.Answers.{has_room}
use Rattle.line.specs.Answers.{list_of}
use Rattle.places.specs.Whole.{Roomy}

pub with-room : {A : Type 0} (text ops : List ℕ) (x y : A) → Roomy text ops → (if has_room text ops then x else y) ≡ x
with-room text ops x y r =
    let h = r.room in
    let s = r.short in
    rw (le-leb (length text) (length ops) h, le-leb (length text) 65535 (omega arith))

abbrev pub says_reads : Result (Unit {0}) Unread → Bool
says_reads (Ok tt) = true
says_reads (Err unread.NoReading) = false
says_reads (Err unread.NoRoom) = false

pub reads-said : (o : Option (List Member)) → says_reads (list_of o) ≡ has_reading o
reads-said none = refl
reads-said (some ms) = refl

abbrev pub says_end : Result Bool Unread → Bool
says_end (Ok b) = b
says_end (Err u) = false
