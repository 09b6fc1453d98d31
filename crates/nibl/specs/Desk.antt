-- "The cases marked * form a single table, proved by one theorem about the definitions" (proofs/Desk.antt).
use Rattle.std.specs.Prelude.{ℕ, List, [], ◌∷◌, ◌++◌, take, get_or, replicate}
use Prim.Native.String.{String}
use Rattle.nibl.specs.Bytes.{bytes, byte_cr}
use Rattle.nibl.specs.Page.{used}
use Rattle.nibl.specs.Record.{fresh}
use Rattle.nibl.specs.Lent.{Lent, Outcome, lent_all}
use Rattle.nibl.specs.Calls.{take_line}
use Rattle.nibl.specs.declared.Session.{Session}

-- what the desk sees after its lines: the stops, what was written, A's value, the memory, and the page up to TOP
pub record Seen : Type 0 where
  pub stops : List ℕ
  pub written : List ℕ
  pub a : ℕ
  pub memory : List ℕ
  pub page : List ℕ

pub record Row : Type 0 where
  pub lines : List String
  pub memory : List ℕ
  pub seen : Seen

-- one line typed, with a fresh output
abbrev pub lent_for : Session → List ℕ → List ℕ → String → Lent
lent_for s page mem l =
    lent_all s page mem (bytes l ++ (byte_cr ∷ [])) (replicate 100 0) (record { inpos = 0; outpos = 0; sense = 0; budget = 10000; tabled = 0 }) []

abbrev pub look : Outcome → Seen
look o =
    record {
      stops = o.answer.stop ∷ [];
      written = take o.answer.outpos o.output;
      a = get_or o.session.vars 0 0;
      memory = o.memory;
      page = take (used o.page) o.page;
    }

abbrev pub before : Outcome → Seen → Seen
before o s =
    record { stops = o.answer.stop ∷ s.stops; written = take o.answer.outpos o.output ++ s.written; a = s.a; memory = s.memory; page = s.page }

abbrev pub type : Session → List ℕ → List ℕ → String → List String → Seen
type s page mem l [] = look (take_line (lent_for s page mem l))
type s page mem l (m ∷ ls) = let o = take_line (lent_for s page mem l) in before o (type o.session o.page o.memory m ls)

abbrev pub fresh_page : List ℕ
fresh_page = 255 ∷ 255 ∷ replicate 4094 0

abbrev pub type_all : List ℕ → List String → Seen
type_all mem [] = record { stops = []; written = []; a = 0; memory = mem; page = [] }
type_all mem (l ∷ ls) = type fresh fresh_page mem l ls

-- rows that keep the page, the memory and A
abbrev pub gives : String → ℕ → String → Row
gives l n w = record { lines = l ∷ []; memory = []; seen = record { stops = n ∷ []; written = bytes w; a = 0; memory = []; page = 255 ∷ 255 ∷ [] } }

abbrev pub prints : String → String → Row
prints l w = gives l 0 w

abbrev pub refused : String → Row
refused l = gives l 5 ""

abbrev pub desk : List Row
desk =
    prints "PRINT 7/2,-7/2,MOD(-7,2)" " 3 -3  1 \r\n"
    ∷ prints "PRINT 32767+1" "-32768 \r\n"
    ∷ prints "PRINT #8000/#FFFF" "-32768 \r\n"
    ∷ prints "PRINT #12345" " 9029 \r\n"
    ∷ prints "PRINT 300*300" " 24464 \r\n"
    ∷ prints "PRINT NOT 0=0" " 0 \r\n"
    ∷ prints "PRINT 2+3*4 OR 1" " 15 \r\n"
    ∷ refused "PRINT -32768" ∷ refused "PRINT 1<2<3" ∷ refused "IF A=B=C"
    ∷ record { lines = "A=B=C" ∷ []; memory = []; seen = record { stops = 0 ∷ []; written = []; a = 1; memory = []; page = 255 ∷ 255 ∷ [] } }
    ∷ record { lines = "@0=#1FF" ∷ []; memory = 0 ∷ 7 ∷ []; seen = record { stops = 0 ∷ []; written = []; a = 0; memory = 255 ∷ 7 ∷ []; page = 255 ∷ 255 ∷ [] } }
    ∷ record {
      lines = "10 END" ∷ "5 END" ∷ "10 REM X" ∷ "5" ∷ [];
      memory = [];
      seen = record {
        stops = 0 ∷ 0 ∷ 0 ∷ 0 ∷ [];
        written = [];
        a = 0;
        memory = [];
        page = 0 ∷ 10 ∷ 10 ∷ 32 ∷ 82 ∷ 69 ∷ 77 ∷ 32 ∷ 88 ∷ 13 ∷ 255 ∷ 255 ∷ [];
      };
    }
    ∷ []
