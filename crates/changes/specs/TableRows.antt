-- Lines typed with a table lent, and what each leaves of it (proofs/TableRows.antt).
use Rattle.std.specs.Prelude.{ℕ, ◌-◌, List, [], ◌∷◌, ◌++◌, map, length, take, replicate}
use Prim.Native.String.{String}
use Rattle.nibl.specs.Page.{Stored, records_of, onto}
use Rattle.nibl.specs.Record.{fresh, with_paused}
use Rattle.nibl.specs.Lent.{Left}
use Rattle.nibl.specs.Calls.{take_line, leaves}
use Rattle.nibl.specs.Desk.{lent_for, fresh_page}
use Rattle.nibl.specs.declared.Session.{Session}
use Rattle.changes.specs.Together.{line}
use Rattle.changes.specs.Tables.{tabled_by}

-- a typed line, its stop, the numbers of the page's lines then, and the first four entries of the table
pub record Step : Type 0 where
  pub typed : String
  pub stop : ℕ
  pub lines : List ℕ
  pub entries : List ℕ

abbrev pub step : String → ℕ → List ℕ → List ℕ → Step
step t n ls es = record { typed = t; stop = n; lines = ls; entries = es }

abbrev pub row_in : String → Left → Step
row_in t l = step t l.outcome.answer.stop (map (λ (r : Stored). r.line) (records_of l.outcome.page)) (take 4 l.table)

-- what is lent at first: a record, the lines of the page, and the first entries of a table of 1,025; and the steps
pub record TableRow : Type 0 where
  pub session : Session
  pub page : List Stored
  pub table : List ℕ
  pub steps : List Step

abbrev pub row : List Stored → List ℕ → List Step → TableRow
row rs es ts = record { session = fresh; page = rs; table = es; steps = ts }

-- the lines typed one after the other, each with all that the one before left
abbrev pub type_tabled : Session → List ℕ → List ℕ → List String → List Step
type_tabled s page table [] = []
type_tabled s page table (t ∷ ts) =
    let l = leaves take_line (tabled_by 1 table (lent_for s page [] t)) in row_in t l ∷ type_tabled l.outcome.session l.outcome.page l.table ts

abbrev pub replay : TableRow → TableRow
replay r =
    record {
      session = r.session;
      page = r.page;
      table = r.table;
      steps = type_tabled r.session (onto fresh_page r.page) (r.table ++ replicate (1025 - length r.table) 0) (map (λ (t : Step). t.typed) r.steps);
    }

-- "entries past the last line hold what they held": those that no line ever had, and after a deletion the old last one
abbrev pub stored : TableRow
stored =
    row [] (0 ∷ 901 ∷ 902 ∷ 903 ∷ []) (
    step "10 END" 0 (10 ∷ []) (1 ∷ 0 ∷ 902 ∷ 903 ∷ [])
    ∷ step "20 END" 0 (10 ∷ 20 ∷ []) (2 ∷ 0 ∷ 8 ∷ 903 ∷ [])
    ∷ step "10" 0 (20 ∷ []) (1 ∷ 0 ∷ 8 ∷ 903 ∷ [])
    ∷ []
    )

abbrev pub two : List Stored
two = line 10 " END" ∷ line 20 " END" ∷ []

-- a line of another length moves those behind it, one between two moves the later one, and only an edit that is done changes anything
abbrev pub moved : TableRow
moved =
    row two (2 ∷ 0 ∷ 8 ∷ 903 ∷ []) (
    step "10 REM A" 0 (10 ∷ 20 ∷ []) (2 ∷ 0 ∷ 10 ∷ 903 ∷ [])
    ∷ step "15 END" 0 (10 ∷ 15 ∷ 20 ∷ []) (3 ∷ 0 ∷ 10 ∷ 18 ∷ [])
    ∷ step "15" 0 (10 ∷ 20 ∷ []) (2 ∷ 0 ∷ 10 ∷ 18 ∷ [])
    ∷ step "99" 0 (10 ∷ 20 ∷ []) (2 ∷ 0 ∷ 10 ∷ 18 ∷ [])
    ∷ step "10 X" 5 (10 ∷ 20 ∷ []) (2 ∷ 0 ∷ 10 ∷ 18 ∷ [])
    ∷ step "GOTO 20" 20 (10 ∷ 20 ∷ []) (2 ∷ 0 ∷ 10 ∷ 18 ∷ [])
    ∷ step "NEW" 0 [] (0 ∷ 0 ∷ 10 ∷ 18 ∷ [])
    ∷ []
    )

-- a wrong count or entry among those of the lines: 26, and page and table are as they were
abbrev pub untrue : List TableRow
untrue =
    row [] (1 ∷ 0 ∷ 902 ∷ 903 ∷ []) (step "10 END" 26 [] (1 ∷ 0 ∷ 902 ∷ 903 ∷ []) ∷ [])
    ∷ row two (1 ∷ 0 ∷ 8 ∷ 903 ∷ []) (step "NEW" 26 (10 ∷ 20 ∷ []) (1 ∷ 0 ∷ 8 ∷ 903 ∷ []) ∷ [])
    ∷ row two (2 ∷ 0 ∷ 7 ∷ 903 ∷ []) (step "GOTO 20" 26 (10 ∷ 20 ∷ []) (2 ∷ 0 ∷ 7 ∷ 903 ∷ []) ∷ [])
    ∷ row two (2 ∷ 0 ∷ 8 ∷ 903 ∷ []) (step "GOTO 20" 20 (10 ∷ 20 ∷ []) (2 ∷ 0 ∷ 8 ∷ 903 ∷ []) ∷ [])
    ∷ []

-- a record that does not fit the page, with a true table and with a false one
abbrev pub unfit : List TableRow
unfit =
    record { session = with_paused fresh 99; page = []; table = 0 ∷ 901 ∷ []; steps = step "" 19 [] (0 ∷ 901 ∷ 0 ∷ 0 ∷ []) ∷ [] }
    ∷ record { session = with_paused fresh 99; page = []; table = 1 ∷ 901 ∷ []; steps = step "" 26 [] (1 ∷ 901 ∷ 0 ∷ 0 ∷ []) ∷ [] }
    ∷ []

abbrev pub table_rows : List TableRow
table_rows = stored ∷ moved ∷ (untrue ++ unfit)
