-- One outcome: two answers that meet a public function's promise for the same arguments are equal, and so are all lent bytes. Assumes nothing.
use Rattle.std.specs.Prelude.{if◌then◌else◌}
use Rattle.std.specs.Prelude.{Option, Some, None, Result, Ok, Err}
use Rattle.nibl.specs.declared.Onward.{Onward}
use Prim.Native.Nat.{ℕ}
use mathlib.Core.Path.{◌≡◌, refl, sym, ap, ◌∙◌}
use mathlib.Core.Bool.{Bool}
use mathlib.Core.List.{List}
use mathlib.Core.Option.{some}
use lib.ListN.{length, drop}
use lib.Dec.{eqb}
use native.Mathlib.Omega.{arith}
use Rattle.nibl.proofs.Determined.{determined, onward-same}
use Rattle.nibl.specs.declared.LineNumber.{LineNumber}
use Rattle.nibl.specs.Page.{is_end, line_at, records_of, find, line_of, used}
use Rattle.nibl.specs.Record.{position_of}
use Rattle.nibl.specs.Values.{digits}
use Rattle.nibl.specs.Runs.{text_from}
use Rattle.page.specs.declared.Where.{Where}
use Rattle.page.specs.declared.Seat.{Seat}
use Rattle.page.specs.declared.Edited.{Edited}
use Rattle.page.specs.declared.Edited.TheVariants as edited
use Rattle.page.specs.Walk.{Sizes, found_at, reached, begin_of, text_of}
use Rattle.page.specs.Edits.{seat_of, Seated, Changed, changed, moved, can_move, store_at_seat, delete_at, new_of}
use Rattle.page.specs.Listing.{Shown, shown, listing}

pub end-determined : (page : List ℕ) (at : ℕ) (a b : Bool) → a ≡ is_end (drop at page) → b ≡ is_end (drop at page) → a ≡ b
end-determined page at = determined (is_end (drop at page))

pub size-determined : (page : List ℕ) (at : ℕ) (a b : Option ℕ) → Sizes (drop at page) a → Sizes (drop at page) b → a ≡ b
size-determined page at None None h j = refl
size-determined page at (Some n) (Some k) h j = ap Some (h.0 ∙ sym j.0)
size-determined page at None (Some k) h j = absurd (omega (arith, h, j.0, j.1))
size-determined page at (Some n) None h j = absurd (omega (arith, h.0, h.1, j))

pub number-determined : (page : List ℕ) (at a b : ℕ) → a ≡ line_at (drop at page) → b ≡ line_at (drop at page) → a ≡ b
number-determined page at = determined (line_at (drop at page))

pub digits-determined : (n a b : ℕ) → a ≡ length (digits n) → b ≡ length (digits n) → a ≡ b
digits-determined n = determined (length (digits n))

pub used-determined : (page : List ℕ) (a b : ℕ) → a ≡ used page → b ≡ used page → a ≡ b
used-determined page = determined (used page)

found-same : (r s : Option Onward) → found_at r ≡ found_at s → r ≡ s
found-same None None e = refl
found-same (Some o) (Some p) e = let k : position_of o ≡ position_of p = cc in let h = onward-same o p k in cc
found-same None (Some p) e = let z : ◌≡◌ {A = ℕ} 0 1 = cc in absurd (omega arith)
found-same (Some o) None e = let z : ◌≡◌ {A = ℕ} 0 1 = cc in absurd (omega arith)

pub found-determined : (at : ℕ) (r s : Option Onward) → found_at r ≡ reached (some at) → found_at s ≡ reached (some at) → r ≡ s
found-determined at r s p q = found-same r s (determined (reached (some at)) (found_at r) (found_at s) p q)

pub seat-determined : (page : List ℕ) (n : ℕ) (r s : Seat) → Seated page n r → Seated page n s → r ≡ s
seat-determined page n r s p q = determined (seat_of page n) r s p.is q.is

pub find-determined : (page : List ℕ) (n : ℕ) (r s : Option Onward) → found_at r ≡ reached (find page n) → found_at s ≡ reached (find page n) → r ≡ s
find-determined page n r s p q = found-same r s (determined (reached (find page n)) (found_at r) (found_at s) p q)

pub line-determined : (page : List ℕ) (p : ℕ) (r s : LineNumber) → r.0 ≡ line_of page p → s.0 ≡ line_of page p → r ≡ s
line-determined page p r s a b = let e : r.0 ≡ s.0 = determined (line_of page p) r.0 s.0 a b in λ i. record { 0 = e i }

pub running-determined : (page line : List ℕ) (at : Where) (a b : List ℕ) → a ≡ text_of page line at → b ≡ text_of page line at → a ≡ b
running-determined page line at = determined (text_of page line at)

begin-same : (r s : Option ℕ) → begin_of r ≡ begin_of s → r ≡ s
begin-same None None e = refl
begin-same (Some a) (Some b) e = let k : a ≡ b = cc in cc
begin-same None (Some b) e = let z : ◌≡◌ {A = ℕ} 0 1 = cc in absurd (omega arith)
begin-same (Some a) None e = let z : ◌≡◌ {A = ℕ} 0 1 = cc in absurd (omega arith)

pub begin-determined : (page : List ℕ) (q : ℕ) (r s : Option ℕ) → begin_of r ≡ text_from page q → begin_of s ≡ text_from page q → r ≡ s
begin-determined page q r s a b = begin-same r s (determined (text_from page q) (begin_of r) (begin_of s) a b)

-- an answer of an edit, from what it says
answer_of : Changed → Edited
answer_of c = if c.edits then edited.Done else if eqb c.stop 0 then edited.Absent else edited.NoRoom

answer-is : (p : List ℕ) (a : Edited) → answer_of (changed p a) ≡ a
unfolding answer_of
answer-is p edited.Done = refl
answer-is p edited.NoRoom = refl
answer-is p edited.Absent = refl

pub page-is : (p : List ℕ) (a : Edited) → (changed p a).page ≡ p
page-is p edited.Done = refl
page-is p edited.NoRoom = refl
page-is p edited.Absent = refl

-- a page and an answer
pub changed-determined : (c : Changed) (p q : List ℕ) (a b : Edited) → changed p a ≡ c → changed q b ≡ c → (p ≡ q) × (a ≡ b)
changed-determined c p q a b u v =
    let e = determined c (changed p a) (changed q b) u v in
    (sym (page-is p a) ∙ (λ i. (e i).page) ∙ page-is q b, sym (answer-is p a) ∙ ap answer_of e ∙ answer-is q b)

pub store-determined : (page : List ℕ) (s : Seat) (n : ℕ) (t p q : List ℕ) (a b : Edited) → changed p a ≡ store_at_seat page s n t → changed q b ≡ store_at_seat page s n t → (p ≡ q) × (a ≡ b)
store-determined page s n t = changed-determined (store_at_seat page s n t)

pub delete-determined : (page : List ℕ) (s : Seat) (p q : List ℕ) (a b : Edited) → changed p a ≡ delete_at page s → changed q b ≡ delete_at page s → (p ≡ q) × (a ≡ b)
delete-determined page s = changed-determined (delete_at page s)

pub new-determined : (page p q : List ℕ) (a b : Edited) → changed p a ≡ new_of page → changed q b ≡ new_of page → (p ≡ q) × (a ≡ b)
new-determined page = changed-determined (new_of page)

abbrev after-move : List ℕ → ℕ → ℕ → ℕ → List ℕ
after-move s from to n = if can_move s from to n then moved s from to n else s

pub move-determined : (s : List ℕ) (from to n : ℕ) (p q : List ℕ) (a b : Bool)
    → a ≡ can_move s from to n → p ≡ after-move s from to n → b ≡ can_move s from to n → q ≡ after-move s from to n → (p ≡ q) × (a ≡ b)
move-determined s from to n p q a b u v w x = (determined (after-move s from to n) p q v x, determined (can_move s from to n) a b u w)

-- an answer of a listing, from what it says
listed_of : Shown → Result ℕ ℕ
listed_of s = if eqb s.stop 0 then Ok s.at else Err s.at

listed-is : (o : List ℕ) (a : Result ℕ ℕ) → listed_of (shown o a) ≡ a
unfolding listed_of
listed-is o (Ok p) = refl
listed-is o (Err p) = refl

output-is : (o : List ℕ) (a : Result ℕ ℕ) → (shown o a).output ≡ o
output-is o (Ok p) = refl
output-is o (Err p) = refl

pub list-determined : (page : List ℕ) (n : ℕ) (out : List ℕ) (at : ℕ) (p q : List ℕ) (a b : Result ℕ ℕ)
    → shown p a ≡ listing n (records_of page) out at → shown q b ≡ listing n (records_of page) out at → (p ≡ q) × (a ≡ b)
list-determined page n out at p q a b u v =
    let e = determined (listing n (records_of page) out at) (shown p a) (shown q b) u v in
    (sym (output-is p a) ∙ (λ i. (e i).output) ∙ output-is q b, sym (listed-is p a) ∙ ap listed_of e ∙ listed-is q b)
