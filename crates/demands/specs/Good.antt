-- A good page, its places, and a session record that fits it, over the grammar: nothing here looks for a reading.
use Rattle.std.specs.Prelude.{ℕ, suc, ◌+◌, ◌-◌, ◌*◌, ◌≤◌, ◌<◌, ◌≡◌, false, List, [], ◌∷◌, ◌++◌, ◌⊎◌, length, take, drop}
use Rattle.nibl.specs.Bytes.{is_digit, is_text, All, starts, byte_cr}
use Rattle.nibl.specs.Tree.{Member}
use Rattle.nibl.specs.Readings.{ListReading}
use Rattle.nibl.specs.Values.{digits}
use Rattle.nibl.specs.Record.{position, mark, nowhere, paused_at}
use Rattle.nibl.specs.Lent.{Lent, Outcome}
use Rattle.nibl.specs.declared.Place.{Place}
use Rattle.nibl.specs.declared.ForEntry.{ForEntry}
use Rattle.nibl.specs.declared.Session.{Session}
use Rattle.demands.specs.Items.{In}
use Rattle.demands.specs.Lent.{HasTable, InRange}

-- "A record is the number (two bytes, high first, 0 to 32,767), one byte for the whole record's length, the text, and CR (13). The length is the text's length
-- plus 4": the record of number n with the text t stands at a position of the page
pub record RecordAt (page : List ℕ) (at n : ℕ) (t : List ℕ) : Type 0 where
  pub high : ℕ
  pub low : ℕ
  pub after : List ℕ
  pub bytes : drop at page ≡ high ∷ low ∷ (length t + 4) ∷ (t ++ (byte_cr ∷ after))
  pub number : n ≡ high * 256 + low
  pub small : n ≤ 32767

-- "two bytes 255"
pub record EndMark (page : List ℕ) (at : ℕ) : Type 0 where
  pub after : List ℕ
  pub bytes : drop at page ≡ 255 ∷ 255 ∷ after

-- a record boundary: the page's start, and the position behind each record that stands at one
pub data Boundary (page : List ℕ) : ℕ → Type 0 where
  start : Boundary page 0
  behind : {at n : ℕ} {t : List ℕ} → Boundary page at → RecordAt page at n t → Boundary page (at + (length t + 4))

-- where the records stand one behind the other from a position of the page on, up to the end mark
pub data RecordsAt (page : List ℕ) : ℕ → List ℕ → Type 0 where
  at_mark : {at : ℕ} → EndMark page at → RecordsAt page at []
  at_record : {at n : ℕ} {t ps : List ℕ} → RecordAt page at n t → RecordsAt page (at + (length t + 4)) ps → RecordsAt page at (at ∷ ps)

-- "the line count, then each record's position, in order". What a table holds past the last line is not looked at
pub record TrueTable (page table : List ℕ) : Type 0 where
  pub positions : List ℕ
  pub stand : RecordsAt page 0 positions
  pub rest : List ℕ
  pub entries : table ≡ length positions ∷ (positions ++ rest)

-- a table that is lent is a true one
abbrev pub LentTrue : Lent → Type 0
LentTrue x = HasTable x → TrueTable x.page x.table

-- the position of the ":" that ends a member of the text of a record, or of the record's CR, where the record stands at `at`
abbrev pub place_of : ℕ → List ℕ → Member → ℕ
place_of at t m = at + 3 + (length t - m.left)

-- over any reading of a text as a statement list
module _ (R : List ℕ → List Member → Type 0) where
  -- "Text bytes are 32 to 126 without 95; the text has a reading as a statement list; its first byte is no digit; its length plus the number's decimal digits is at
  -- most" lim
  pub record GoodTextBy (lim n : ℕ) (t : List ℕ) : Type 0 where
    pub members : List Member
    pub reads : R t members
    pub text : All is_text t
    pub undigit : starts is_digit t ≡ false
    pub short : length t + length (digits n) ≤ lim

  -- "Records in strictly rising line number, then two bytes 255", from a position on, of numbers from low on. "The first 255,255 met at a record boundary ends the
  -- program, and bytes after it are not looked at"
  pub data GoodFromBy (lim : ℕ) (page : List ℕ) : ℕ → ℕ → Type 0 where
    ends : {low at : ℕ} → EndMark page at → GoodFromBy lim page low at
    goes_on : {low at n : ℕ} {t : List ℕ} → low ≤ n → RecordAt page at n t → GoodTextBy lim n t → GoodFromBy lim page (suc n) (at + (length t + 4)) → GoodFromBy lim page low at

  abbrev pub GoodPageBy : ℕ → List ℕ → Type 0
  GoodPageBy lim page = GoodFromBy lim page 0 0

  -- "A place is the position in the page of the ':' that ends a statement or of a record's CR"
  pub data IsPlaceBy (page : List ℕ) : ℕ → Type 0 where
    ends_member : {at n : ℕ} {t : List ℕ} {ms : List Member} {m : Member} → Boundary page at → RecordAt page at n t → R t ms → In m ms
        → IsPlaceBy page (place_of at t m)

  -- "the paused place, if any, is such a position or the program's start": the run goes on there
  pub data PauseFitsBy (page : List ℕ) : ℕ → Type 0 where
    nothing_paused : PauseFitsBy page nowhere
    at_start : PauseFitsBy page (paused_at 0)
    after_place : {p : ℕ} → IsPlaceBy page p → PauseFitsBy page (paused_at (suc p))

  -- "A session record fits a page when each stack is within its depth and every saved place is such a position or the immediate mark (GOSUB stack only), each FOR
  -- entry names one of the 26 variables, the flags use bits 0 to 2 only", and the pause
  pub record FitsBy (page : List ℕ) (s : Session) : Type 0 where
    pub gosubs_deep : s.gosubs.depth ≤ 8
    pub dos_deep : s.dos.depth ≤ 8
    pub fors_deep : s.fors.depth ≤ 4
    pub gosubs : (p : Place) → In p (take s.gosubs.depth s.gosubs.places) → IsPlaceBy page (position p) ⊎ (position p ≡ mark)
    pub dos : (p : Place) → In p (take s.dos.depth s.dos.places) → IsPlaceBy page (position p)
    pub fors : (f : ForEntry) → In f (take s.fors.depth s.fors.entries) → (f.var < 26) × IsPlaceBy page (position f.place)
    pub flags : s.flags < 8
    pub paused : PauseFitsBy page s.paused

-- by the grammar
abbrev pub GoodText : ℕ → ℕ → List ℕ → Type 0
GoodText = GoodTextBy ListReading

abbrev pub GoodFrom : ℕ → List ℕ → ℕ → ℕ → Type 0
GoodFrom = GoodFromBy ListReading

abbrev pub GoodPage : ℕ → List ℕ → Type 0
GoodPage = GoodPageBy ListReading

abbrev pub IsPlace : List ℕ → ℕ → Type 0
IsPlace = IsPlaceBy ListReading

abbrev pub PauseFits : List ℕ → ℕ → Type 0
PauseFits = PauseFitsBy ListReading

abbrev pub Fits : List ℕ → Session → Type 0
Fits = FitsBy ListReading

-- "26, a table that does not describe the page", behind what 1 and 18 are for
pub record FalseTable (lim : ℕ) (x : Lent) : Type 0 where
  pub range : InRange x
  pub good : GoodPage lim x.page
  pub lent : HasTable x
  pub false : TrueTable x.page x.table → ⊥

-- what a call is lent that is past its first refusals, 1, 18, 26 and 19
pub record Unrefused (lim : ℕ) (x : Lent) : Type 0 where
  pub range : InRange x
  pub good : GoodPage lim x.page
  pub table : LentTrue x
  pub fits : Fits x.page x.session

-- "a good page with a fitting record"
abbrev pub LeftSound : ℕ → Outcome → Type 0
LeftSound lim o = GoodPage lim o.page × Fits o.page o.session
