-- Where a reader is: the cursor past what was read and the number of operations so far, or no reading.
use Rattle.std.specs.Prelude.{ℕ, Option}
use Rattle.word.specs.declared.Cursor.{Cursor}

abbrev pub Made : Type 0
Made = Option (Cursor × ℕ)
