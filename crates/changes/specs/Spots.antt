-- Lines typed in fresh sessions, and where the answer points (proofs/Spots.antt).
use Rattle.std.specs.Prelude.{ℕ, List, [], ◌∷◌, ◌++◌}
use Prim.Native.String.{String}
use Rattle.nibl.specs.Record.{fresh}
use Rattle.nibl.specs.Lent.{Outcome}
use Rattle.nibl.specs.Calls.{take_line}
use Rattle.nibl.specs.Desk.{lent_for, fresh_page}

-- a line, its stop and its column
pub record Spot : Type 0 where
  pub line : String
  pub stop : ℕ
  pub column : ℕ

abbrev pub spot : String → ℕ → ℕ → Spot
spot l n c = record { line = l; stop = n; column = c }

abbrev pub spot_in : String → Outcome → Spot
spot_in l o = spot l o.answer.stop o.answer.column

abbrev pub typed_alone : String → Spot
typed_alone l = spot_in l (take_line (lent_for fresh fresh_page [] l))

-- the whole line may be a front, or end within a word that may stand there
abbrev pub unfinished : List Spot
unfinished =
    spot "PRINT" 5 5 ∷ spot "A=(1" 5 4 ∷ spot "GOSU" 5 4 ∷ spot "PRIN" 5 4 ∷ spot "A=#" 5 3 ∷ spot "PRINT \"AB" 5 9 ∷ spot "LIS" 5 3 ∷ spot "IF A<" 5 5 ∷ []

-- it may part within a word, or before one that cannot stand there
abbrev pub parted : List Spot
parted =
    spot "PRINTX  Y" 5 8 ∷ spot "32768 END" 5 4 ∷ spot "99999" 5 4 ∷ spot "10 PRINX" 5 7 ∷ spot "PRINT 32768" 5 10 ∷ spot "10 RUN" 5 4 ∷ spot "A=AN" 5 3
    ∷ spot "FOR I=1 TOPX" 5 10 ∷ spot "GOTX" 5 3 ∷ spot "A<" 5 1 ∷ spot "LIST X" 5 5 ∷ spot "10 REM \t" 5 7 ∷ []

-- "72 for an over-long line and 0 for every other stop"
abbrev pub others : List Spot
others =
    spot "REM 34567890123456789012345678901234567890123456789012345678901234567890123" 5 72
    ∷ spot "" 0 0 ∷ spot "10 END" 0 0 ∷ spot "IF 1 DO" 3 0 ∷ spot "GOTO 5" 8 0 ∷ spot "A=1/0" 13 0 ∷ []

abbrev pub spots : List Spot
spots = unfinished ++ (parted ++ others)
