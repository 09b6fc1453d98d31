-- What an edit does to a page's bytes, whatever they are. On a good page it is the definition's (proofs/Good.antt).
use Rattle.std.specs.Prelude.{ℕ, ◌+◌, ◌-◌, ◌≤◌, ◌≡◌, Bool, true, false, ◌&&◌, List, [], ◌∷◌, ◌++◌, length, take, drop, ltb, leb, eqb, if◌then◌else◌}
use Rattle.std.proofs.Math.Seq.{paste}
use Rattle.nibl.specs.Page.{Stored, record_bytes, records_of, size, used, used_by, onto}
use Rattle.nibl.specs.Lent.{Outcome, stops}
use Rattle.nibl.specs.Record.{stackless}
use Rattle.nibl.specs.Meaning.{World, with_session}
use Rattle.page.specs.declared.Seat.{Seat}
use Rattle.page.specs.declared.Edited.{Edited}
use Rattle.page.specs.declared.Edited.TheVariants as edited

-- before the first record of a number that is not lower; `gone` is the size of the one of that number, or 0
abbrev pub seat_in : ℕ → ℕ → List Stored → Seat
seat_in n at [] = record { at = at; gone = 0 }
seat_in n at (r ∷ rs) =
    if ltb r.line n then seat_in n (at + size r) rs
    else record { at = at; gone = if eqb r.line n then size r else 0 }

unfoldable pub seat_of : List ℕ → ℕ → Seat
seat_of page n = seat_in n 0 (records_of page)

-- a seat at which the page can be edited: at a record's boundary, and what goes there lies before the end mark
pub record Seatable (page : List ℕ) (s : Seat) : Type 0 where
  pub inside : s.at ≤ length page + 1
  pub rest : s.at + used_by (records_of (drop s.at page)) ≡ used page
  pub room : s.at + s.gone + 2 ≤ used page

-- the seat of a line
pub record Seated (page : List ℕ) (n : ℕ) (s : Seat) : Type 0 where
  pub is : s ≡ seat_of page n
  pub sits : Seatable page s

-- n bytes from `from` on stand at `to` too, as if taken whole first
abbrev pub moved : List ℕ → ℕ → ℕ → ℕ → List ℕ
moved p from to n = paste p to (drop from p) n

-- the bytes and their new place are all in the slice
abbrev pub can_move : List ℕ → ℕ → ℕ → ℕ → Bool
can_move p from to n = leb (from + n) (length p) && leb (to + n) (length p)

-- of the `top` bytes in use the `gone` at `at` are replaced by new ones; what lies after the new end is as it was
abbrev pub spliced : List ℕ → ℕ → ℕ → ℕ → List ℕ → List ℕ
spliced p at gone top new =
    take at p ++ (new ++ (take (top - (at + gone)) (drop (at + gone) p) ++ drop (at + length new + (top - (at + gone))) p))

-- a page after an edit, the stop number, and whether the page was edited, which clears the stacks
pub record Changed : Type 0 where
  pub page : List ℕ
  pub stop : ℕ
  pub edits : Bool

-- an edit that is refused, or finds nothing to do, leaves the page as it was
abbrev pub Untouched : List ℕ → Changed → Type 0
Untouched page c = c.edits ≡ false → c.page ≡ page

-- what each answer says
abbrev pub changed : List ℕ → Edited → Changed
changed p edited.Done = record { page = p; stop = 0; edits = true }
changed p edited.NoRoom = record { page = p; stop = 2; edits = false }
changed p edited.Absent = record { page = p; stop = 0; edits = false }

-- the new record fits where the old one's room counts as free. A page that ends before its end mark has no room
abbrev pub can_store : List ℕ → Seat → ℕ → Bool
can_store page s n = leb (used page) (length page) && (leb n 255 && leb (used page - s.gone + n) (length page))

-- an edit at a seat
unfoldable pub store_at_seat : List ℕ → Seat → ℕ → List ℕ → Changed
store_at_seat page s n t =
    let p = spliced page s.at s.gone (used page) (record_bytes (record { line = n; text = t })) in
    if can_store page s (length t + 4) then changed p edited.Done else changed page edited.NoRoom

unfoldable pub delete_at : List ℕ → Seat → Changed
delete_at page s =
    if ltb s.gone 1 then changed page edited.Absent
    else if leb (used page) (length page) then changed (spliced page s.at s.gone (used page) []) edited.Done
    else changed page edited.NoRoom

-- an edit of a line
unfoldable pub store_of : List ℕ → ℕ → List ℕ → Changed
store_of page n t = store_at_seat page (seat_of page n) n t

unfoldable pub delete_of : List ℕ → ℕ → Changed
delete_of page n = delete_at page (seat_of page n)

unfoldable pub new_of : List ℕ → Changed
new_of page = if leb 2 (length page) then changed (onto page []) edited.Done else changed page edited.NoRoom

-- the call that ends with an edit
abbrev pub outcome_of : World → Changed → Outcome
outcome_of w c =
    if c.edits then stops c.stop (with_session w (stackless w.session)) c.page
    else stops c.stop w c.page
