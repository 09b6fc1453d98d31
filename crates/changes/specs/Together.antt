-- Lines of old dealers' rule books, written together, and what the desk sees of them (proofs/Together.antt).
use Rattle.std.specs.Prelude.{ℕ, List, [], ◌∷◌, ◌++◌}
use Prim.Native.String.{String}
use Rattle.nibl.specs.Bytes.{bytes}
use Rattle.nibl.specs.Page.{Stored, program_bytes}
use Rattle.nibl.specs.Desk.{Row, gives, prints, refused}

abbrev pub line : ℕ → String → Stored
line n t = record { line = n; text = bytes t }

-- a rule book: the lines are stored as they are typed, and run
abbrev pub book : Row
book =
    record {
      lines = "A=2" ∷ "B=1" ∷ "X=30" ∷ "10IFA>B GOTOX" ∷ "20PRINTB:END" ∷ "30REMARK" ∷ "40FORI=2TO4STEPA:PRINTI;:NEXTI" ∷ "GOTO10" ∷ [];
      memory = [];
      seen = record {
        stops = 0 ∷ 0 ∷ 0 ∷ 0 ∷ 0 ∷ 0 ∷ 0 ∷ 0 ∷ [];
        written = bytes " 2  4 ";
        a = 2;
        memory = [];
        page = program_bytes (
            line 10 "IFA>B GOTOX" ∷ line 20 "PRINTB:END" ∷ line 30 "REMARK" ∷ line 40 "FORI=2TO4STEPA:PRINTI;:NEXTI" ∷ []
            );
      };
    }

-- "the longest keyword that begins there is taken", also where a shorter one would save the line
abbrev pub longest : List Row
longest =
    gives "GOTOP" 8 "" ∷ prints "PRI" " 0 \r\n" ∷ prints "PRINTTOP" " 2 \r\n" ∷ prints "PRINTNOTA ORSTAT" "-1 \r\n" ∷ prints "PRINT#1FORB" " 31 \r\n"
    ∷ refused "GO TOP" ∷ refused "FOR I=1TOP" ∷ refused "PRIN" ∷ refused "PRINT#5AND 3" ∷ []

-- "if none does, a letter not followed by a letter is a variable; anything else has no reading"
abbrev pub single : List Row
single = refused "AANDB" ∷ refused "IFADO" ∷ refused "PRINTAANDB" ∷ refused "A=BORC" ∷ refused "PRINTAB" ∷ refused "FORI=ATO9" ∷ []

-- "Commands are still looked for only at an immediate line's front"
abbrev pub fronts : List Row
fronts = refused "NEWA=1" ∷ refused "RUNX" ∷ refused "LISTA" ∷ refused "IFA RUN" ∷ refused "10NEW" ∷ prints "LIST10" "" ∷ []

abbrev pub together : List Row
together = book ∷ (longest ++ single ++ fronts)
