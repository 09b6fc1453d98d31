-- The page: "Records in strictly rising line number, then two bytes 255". Places, and when a session record fits a page.
use Rattle.std.specs.Prelude.{ℕ, zero, suc, ◌+◌, ◌-◌, ◌*◌, ◌/◌, ◌%◌, Bool, true, false, not, ◌&&◌, ◌||◌, List, [], ◌∷◌, ◌++◌, length, get_or, take, drop, ltb, leb, eqb, if◌then◌else◌}
use Rattle.std.proofs.Math.Option.{Option, none, some}
use Rattle.nibl.specs.Bytes.{is_digit, starts, all, byte_cr}
use Rattle.nibl.specs.Tree.{Member}
use Rattle.nibl.specs.found.Read.{reading}
use Rattle.nibl.specs.Values.{digits}
use Rattle.nibl.specs.Record.{position, mark}
use Rattle.nibl.specs.declared.Place.{Place}
use Rattle.nibl.specs.declared.ForEntry.{ForEntry}
use Rattle.nibl.specs.declared.Session.{Session}

-- a record of the page
pub record Stored : Type 0 where
  pub line : ℕ
  pub text : List ℕ

-- "the number (two bytes, high first), one byte for the whole record's length, the text, and CR"
abbrev pub record_bytes : Stored → List ℕ
record_bytes r = (r.line / 256) ∷ (r.line % 256) ∷ (length r.text + 4) ∷ (r.text ++ (byte_cr ∷ []))

abbrev pub program_bytes : List Stored → List ℕ
program_bytes [] = 255 ∷ 255 ∷ []
program_bytes (r ∷ rs) = record_bytes r ++ program_bytes rs

-- at a record boundary
abbrev pub is_end : List ℕ → Bool
is_end q = eqb (get_or q 0 0) 255 && eqb (get_or q 1 0) 255

abbrev pub line_at : List ℕ → ℕ
line_at q = get_or q 0 0 * 256 + get_or q 1 0

abbrev pub length_at : List ℕ → ℕ
length_at q = get_or q 2 0

abbrev pub text_at : List ℕ → List ℕ
text_at q = take (length_at q - 4) (drop 3 q)

abbrev pub has_reading : Option (List Member) → Bool
has_reading none = false
has_reading (some ms) = true

-- "the text has a reading as a statement list; its first byte is no digit; its length plus the number's decimal digits is at most" lim.
-- A text with a reading has text bytes only.
unfoldable pub is_storable : ℕ → ℕ → List ℕ → Bool
is_storable lim n t = has_reading (reading t) && (not (starts is_digit t) && leb (length t + length (digits n)) lim)

-- a whole record stands here, of a number from low on
unfoldable pub is_record : ℕ → ℕ → List ℕ → Bool
is_record lim low q =
    leb low (line_at q) && (leb (line_at q) 32767 && (leb 5 (length_at q) && (leb (length_at q) (length q)
    && (eqb (get_or q (length_at q - 1) 0) byte_cr && is_storable lim (line_at q) (text_at q)))))

-- k bounds how many records there are
unfoldable pub good_n : ℕ → ℕ → ℕ → List ℕ → Bool
good_n lim zero low q = false
good_n lim (suc k) low q =
    elim (is_end q) [
      | true ↦ true
      | false ↦ elim (is_record lim low q) [ true ↦ good_n lim k (suc (line_at q)) (drop (length_at q) q) | false ↦ false ]
    ]

unfoldable pub is_good : ℕ → List ℕ → Bool
is_good lim page = good_n lim (suc (length page)) 0 page

-- the records of a good page, by their length bytes
unfoldable pub records_n : ℕ → List ℕ → List Stored
records_n zero q = []
records_n (suc k) q =
    elim (is_end q || ltb (length_at q) 5) [
      | true ↦ []
      | false ↦ record { line = line_at q; text = text_at q } ∷ records_n k (drop (length_at q) q)
    ]

unfoldable pub records_of : List ℕ → List Stored
records_of page = records_n (suc (length page)) page

abbrev pub size : Stored → ℕ
size r = length r.text + 4

-- "TOP is the page's used bytes with the end mark"
abbrev pub used_by : List Stored → ℕ
used_by [] = 2
used_by (r ∷ rs) = size r + used_by rs

unfoldable pub used : List ℕ → ℕ
used page = used_by (records_of page)

-- where the record of line n stands, from `at` on
abbrev pub position_in : ℕ → ℕ → List Stored → Option ℕ
position_in n at [] = none
position_in n at (r ∷ rs) = if eqb r.line n then some at else position_in n (at + size r) rs

unfoldable pub find : List ℕ → ℕ → Option ℕ
find page n = position_in n 0 (records_of page)

-- the line of the record that position p lies in
abbrev pub line_in : ℕ → List Stored → ℕ
line_in p [] = 0
line_in p (r ∷ rs) = if ltb p (size r) then r.line else line_in (p - size r) rs

unfoldable pub line_of : List ℕ → ℕ → ℕ
line_of page p = line_in p (records_of page)

-- "A place is the position in the page of the ':' that ends a statement or of a record's CR"
abbrev pub ends_from : ℕ → ℕ → List Member → List ℕ
ends_from at n [] = []
ends_from at n (m ∷ ms) = (at + (n - m.left)) ∷ ends_from at n ms

abbrev pub ends_of : ℕ → ℕ → Option (List Member) → List ℕ
ends_of at n none = []
ends_of at n (some ms) = ends_from at n ms

abbrev pub places_in : ℕ → List Stored → List ℕ
places_in at [] = []
places_in at (r ∷ rs) = ends_of (at + 3) (length r.text) (reading r.text) ++ places_in (at + size r) rs

unfoldable pub places_of : List ℕ → List ℕ
places_of page = places_in 0 (records_of page)

abbrev pub is_among : List ℕ → ℕ → Bool
is_among [] p = false
is_among (q ∷ qs) p = eqb p q || is_among qs p

-- "A session record fits a page when"
-- the pause: nowhere, the program's start, or after a place
abbrev pub fits_paused : List ℕ → ℕ → Bool
fits_paused ps zero = true
fits_paused ps (suc zero) = true
fits_paused ps (suc (suc p)) = is_among ps p

abbrev pub fits_with : List ℕ → Session → Bool
fits_with ps s =
    leb s.gosubs.depth 8 && (leb s.dos.depth 8 && (leb s.fors.depth 4
    && (all (λ (p : Place). is_among ps (position p) || eqb (position p) mark) (take s.gosubs.depth s.gosubs.places)
    && (all (λ (p : Place). is_among ps (position p)) (take s.dos.depth s.dos.places)
    && (all (λ (e : ForEntry). ltb e.var 26 && is_among ps (position e.place)) (take s.fors.depth s.fors.entries)
    && (ltb s.flags 8 && fits_paused ps s.paused))))))

unfoldable pub fits : List ℕ → Session → Bool
fits page s = fits_with (places_of page) s

-- Edits: n's record taken out, or this record put in, in the place of the one of its number if there is one
abbrev pub has_line : ℕ → List Stored → Bool
has_line n [] = false
has_line n (r ∷ rs) = eqb r.line n || has_line n rs

abbrev pub without : ℕ → List Stored → List Stored
without n [] = []
without n (r ∷ rs) = if eqb r.line n then rs else r ∷ without n rs

abbrev pub with : Stored → List Stored → List Stored
with q [] = q ∷ []
with q (r ∷ rs) =
    if ltb q.line r.line then q ∷ r ∷ rs
    else if eqb q.line r.line then q ∷ rs
    else r ∷ with q rs

-- the page with these records: "Every byte after the new end mark holds what it held"
abbrev pub onto : List ℕ → List Stored → List ℕ
onto page rs = program_bytes rs ++ drop (length (program_bytes rs)) page
