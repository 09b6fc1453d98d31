-- Where a run can stand on a good page, what it reads there, and in which record a place lies. Assumes nothing.
use Rattle.std.specs.Prelude.{if◌then◌else◌}
use Prim.Native.Nat.{ℕ, zero, suc, ◌+◌, ◌-◌, ◌≤◌, ◌<◌}
use mathlib.Core.Path.{◌≡◌, refl, sym, ap, ◌∙◌}
use mathlib.Core.Bool.{Bool, true, false, ◌&&◌, ◌||◌, false≢true}
use mathlib.Core.List.{List, [], ◌∷◌, ◌++◌}
use mathlib.Core.Option.{none, some}
use native.Mathlib.Omega.{arith}
use lib.ListN.{length, get_or, drop, length-append, length-drop}
use lib.Seq.{drop-append-le, drop-length, drop-drop}
use lib.Dec.{leb, eqb}
use borrow.Author.Tests.{eqb-true, eq-eqb, ne_eqb, le-leb, le-ltb, lt-ltb}
use Rattle.nibl.specs.Bytes.{not_cr, All, none as every-none, each, front}
use Rattle.nibl.specs.Tree.{Member}
use Rattle.nibl.specs.Grammar.{Members, last_member, more_members}
use Rattle.nibl.specs.found.Read.{nothing as unread, found, member, reading}
use Rattle.nibl.specs.Page.{Stored, is_end, length_at, is_good, records_of, size, position_in, find, line_in, line_of, ends_from, ends_of, places_in, places_of, is_among}
use Rattle.nibl.specs.Runs.{Standing, Fetched, past, unread as unreadable, here, text_from, line_from, fetch_text, fetch}
use Rattle.nibl.proofs.Words.{or_cases, front-run}
use Rattle.nibl.proofs.Over.{word_over}
use Rattle.nibl.proofs.Rules.{W}
use Rattle.nibl.proofs.Statements.{statement-left, left-short}
use Rattle.nibl.proofs.Lines.{reading-sound}
use Rattle.nibl.proofs.Ends.{text-not_cr, Followed, first, later, After, after, reading-after, Begins, alone, before, reading_begins}
use Rattle.page.specs.Standing.{Stands, LiesIn}
pub use Rattle.page.specs.Standing.{Ready, Follows, nothing, text, Readable, Fetches, over_all, one_more}
use Rattle.page.proofs.Walk.{by_cases, or_right, first-at}
use Rattle.page.proofs.Stored.{stored-read, stored-text, stored_short}
use Rattle.page.proofs.Laid.{Whole, Laid, ends, laid, laid-room, good-laid}
use Rattle.page.proofs.Edits.{used-two}

-- Lists of places
pub among-append : (ps qs : List ℕ) (p : ℕ) → is_among (ps ++ qs) p ≡ (is_among ps p || is_among qs p)
among-append [] qs p = refl
among-append (x ∷ ps) qs p = by_cases (eqb p x) (λ e. rw e) (λ e. rw e (among-append ps qs p))

abbrev Within : List ℕ → List ℕ → Type 0
Within ps qs = (p : ℕ) → is_among ps p ≡ true → is_among qs p ≡ true

within-left : (ps qs : List ℕ) → Within ps (ps ++ qs)
within-left ps qs p h = rw (among-append ps qs p, h)

within-right : (ps qs : List ℕ) → Within qs (ps ++ qs)
within-right ps qs p h = rw (among-append ps qs p) (or_right (is_among ps p) (is_among qs p) h)

among_first : (p : ℕ) (ps : List ℕ) → is_among (p ∷ ps) p ≡ true
among_first p ps = rw (eq-eqb p p refl)

-- The ends of members: a text's CR, or a ":" that others follow
data EndOf (b n p : ℕ) : List Member → Type 0 where
  at_cr : {ms : List Member} → p ≡ b + n → EndOf b n p ms
  at_colon : {k : ℕ} {ms rest : List Member} → p ≡ b + (n - suc k) → Followed ms k rest → EndOf b n p ms

end_later : {b n p : ℕ} {m : Member} {ms : List Member} → EndOf b n p ms → EndOf b n p (m ∷ ms)
end_later (at_cr e) = at_cr e
end_later (at_colon e f) = at_colon e (later f)

end_of : (b n p : ℕ) (ms : List Member) → is_among (ends_from b n ms) p ≡ true → EndOf b n p ms
end_of b n p [] h = absurd (false≢true h)
end_of b n p (m ∷ ms) h =
    or_cases (eqb p (b + (n - m.left))) (is_among (ends_from b n ms) p) h (λ e. by m.left refl (eqb-true p _ e)) (λ e. end_later (end_of b n p ms e))
  where
    by : (k : ℕ) → m.left ≡ k → p ≡ b + (n - k) → EndOf b n p (m ∷ ms)
    by zero f e = at_cr (e ∙ omega arith)
    by (suc k) f e = at_colon e (first f)

-- the last end is the text's
last_end : {s : List ℕ} {ms : List Member} (b n : ℕ) → Members W s ms → is_among (ends_from b n ms) (b + n) ≡ true
last_end b n (last_member p a) = let z : n - 0 ≡ n = omega arith in rw (z, eq-eqb (b + n) (b + n) refl)
last_end b n (more_members {u = u} {ms = ms} p k m) = or_right (eqb (b + n) (b + (n - suc (length u)))) (is_among (ends_from b n ms) (b + n)) (last_end b n m)

-- ends are counted from the text's end, so that those of its last k bytes are the same
ends-rest : {s : List ℕ} {ms : List Member} (b n k : ℕ) → k ≤ n → length s ≤ k → Members W s ms → ends_from (b + (n - k)) k ms ≡ ends_from b n ms
ends-rest b n k h l (last_member p a) = ap (λ (x : ℕ). x ∷ []) (omega arith)
ends-rest {s = s} b n k h l (more_members {t = t} {u = u} p c m) =
    let i : length u < length s = omega (arith, left-short (statement-left p), (word_over c).short) in
    let e : b + (n - k) + (k - suc (length u)) ≡ b + (n - suc (length u)) = omega arith in
    λ j. e j ∷ ends-rest b n k h (omega arith) m j

followed-within : {ms rest : List Member} {k : ℕ} (b n : ℕ) → Followed ms k rest → Within (ends_from b n rest) (ends_from b n ms)
followed-within b n (first {m = m} {ms = ms} e) p h = or_right (eqb p (b + (n - m.left))) (is_among (ends_from b n ms) p) h
followed-within b n (later {m = m} {ms = ms} f) p h = or_right (eqb p (b + (n - m.left))) (is_among (ends_from b n ms) p) (followed-within b n f p h)

members-some : {s : List ℕ} {P : Type 0} → {l : List Member} → Members W s l → ((m : Member) (ms : List Member) → l ≡ m ∷ ms → P) → P
members-some (last_member p a) f = f _ _ refl
members-some (more_members p k m) f = f _ _ refl

begins-found : {s : List ℕ} {m : Member} {ms : List Member} {P : Type 0} → Begins s m ms → ((u : List ℕ) → member s ≡ found m u → P) → P
begins-found (alone z e) f = f [] e
begins-found (before l e r) f = f _ e

module _ (lim : ℕ) (page : List ℕ) (a : ℕ) (t : List ℕ) (e : line_from page a ≡ t) (s : length t ≤ lim) (i : a + length t < length page) where
  ready : (ms : List Member) → reading t ≡ some ms → Within (ends_from a (length t) ms) (places_of page) → Ready lim page a
  ready ms r h =
      let known = reading-sound t ms r in
      members-some known (λ m rest i.
      begins-found (reading_begins t (r ∙ ap some i)) (λ u f.
      by u f (h _ (rw i (among_first (a + (length t - m.left)) (ends_from a (length t) rest)))) (h _ (last_end a (length t) known))))
    where
      by : {m : Member} (u : List ℕ) → member t ≡ found m u → is_among (places_of page) (a + (length t - m.left)) ≡ true → is_among (places_of page) (a + length t) ≡ true → Ready lim page a
      by {m = m} u f g c = record { begins = m; rest = u; finds = rw e f; end = rw e g; cr = rw e c; short = rw e s; inside = rw e i }

module _ {lim a : ℕ} {page : List ℕ} (r : Ready lim page a) where
  -- there is a member
  pub ready_read : member (line_from page a) ≡ unread → ⊥
  ready_read e = let f = r.finds in let z : ◌≡◌ {A = ℕ} 0 1 = cc in omega arith

  -- and whichever was found, its end is a place
  pub ready-end : (m : Member) (s : List ℕ) → member (line_from page a) ≡ found m s → is_among (places_of page) (a + (length (line_from page a) - m.left)) ≡ true
  ready-end m s e = let f = r.finds in let same : r.begins ≡ m = cc in rw same at r.end

-- what a text that follows is: the one that was found
follows-ready : {lim q a : ℕ} {page : List ℕ} → Follows lim page q → text_from page q ≡ some a → Ready lim page a
follows-ready (nothing n) h = let z : ◌≡◌ {A = ℕ} 0 1 = cc in absurd (omega arith)
follows-ready {a = a} (text {a = b} t r) h = let i : b ≡ a = cc in rw i at r

text-colon : (page : List ℕ) (p : ℕ) → get_or page p 0 ≡ 58 → text_from page (suc p) ≡ some (suc p)
unfolding text_from
text-colon page p e = let z : suc p - 1 ≡ p = omega arith in rw (le-leb 1 (suc p) (omega arith), z, e)

-- no ":" stands before a record
abbrev Bounds : List ℕ → ℕ → Type 0
Bounds page q = (leb 1 q && eqb (get_or page (q - 1) 0) 58) ≡ false

text-none : (page : List ℕ) (q : ℕ) → Bounds page q → is_end (drop q page) ≡ true → text_from page q ≡ none
unfolding text_from
text-none page q b e = rw (b, e)

text-record : (page : List ℕ) (q : ℕ) → Bounds page q → is_end (drop q page) ≡ false → text_from page q ≡ some (q + 3)
unfolding text_from
text-record page q b e = rw (b, e)

all_drop : {p : ℕ → Bool} {s : List ℕ} (n : ℕ) → All p s → All p (drop n s)
all_drop zero a = a
all_drop (suc n) every-none = every-none
all_drop (suc n) (each e a) = all_drop n a

-- A whole record
module _ (lim : ℕ) (page : List ℕ) (at : ℕ) (r : Stored) (w : Whole lim page at r) where
  record-drop : (n : ℕ) → n ≤ length r.text → drop (at + 3 + n) page ≡ drop n r.text ++ (13 ∷ drop (at + size r) page)
  record-drop n h = sym (drop-drop n (at + 3) page) ∙ ap (drop n) w.text ∙ drop-append-le n r.text (13 ∷ drop (at + size r) page) h

  -- what runs from within its text on
  record-line : (n : ℕ) → n ≤ length r.text → line_from page (at + 3 + n) ≡ drop n r.text
  record-line n h =
      ap (front not_cr) (record-drop n h) ∙ front-run (all_drop n (text-not_cr (stored-text w.storable))) (13 ∷ drop (at + size r) page) refl

  record-byte : (n b : ℕ) (u : List ℕ) → n ≤ length r.text → drop n r.text ++ (13 ∷ drop (at + size r) page) ≡ b ∷ u → get_or page (at + 3 + n) 0 ≡ b
  record-byte n b u h e = sym (first-at page (at + 3 + n)) ∙ ap (λ (l : List ℕ). get_or l 0 0) (record-drop n h ∙ e)

  record-cr : get_or page (at + 3 + length r.text) 0 ≡ 13
  record-cr = record-byte (length r.text) 13 (drop (at + size r) page) (omega arith) (rw (drop-length r.text))

  record-inside : at + size r ≤ length page
  record-inside = omega (arith, ap length w.text, length-drop (at + 3) page, length-append r.text (13 ∷ drop (at + size r) page))

  -- no ":" stands behind it
  record-bounds : Bounds page (at + size r)
  record-bounds =
      let z : at + size r - 1 ≡ at + 3 + length r.text = omega arith in
      rw (le-leb 1 (at + size r) (omega arith), z, record-cr)

  abbrev its : List Member
  its = (stored-read w.storable).members

  its-reading : reading r.text ≡ some its
  its-reading = (stored-read w.storable).reads

  module _ (places : Within (ends_from (at + 3) (length r.text) its) (places_of page)) where
    record-ready : Ready lim page (at + 3)
    record-ready =
        let z : at + 3 + 0 ≡ at + 3 = omega arith in
        let k = record-inside in
        ready lim page (at + 3) r.text (ap (line_from page) (sym z) ∙ record-line 0 (omega arith)) (omega (arith, stored_short w.storable)) (omega arith) its its-reading places

    -- after a ":" the members follow that the reading has
    colon-follows : {k : ℕ} {rest : List Member} → Followed its k rest → Follows lim page (suc (at + 3 + (length r.text - suc k)))
    colon-follows {k = k} {rest = rest} f =
        let t : List ℕ = r.text in
        let n : ℕ = length t in
        let i : After t k rest = after (reading-sound t its its-reading) f in
        let inside : k < n = i.inside in
        let a : suc (at + 3 + (n - suc k)) ≡ at + 3 + (n - k) = omega arith in
        let u : List ℕ = drop (n - k) t in
        let long : length u ≡ k = length-drop (n - k) t ∙ omega arith in
        let same : ends_from (at + 3 + (n - k)) k rest ≡ ends_from (at + 3) n rest = ends-rest (at + 3) n k (omega arith) (omega arith) i.reads in
        let colon = record-byte (n - suc k) 58 (u ++ (13 ∷ drop (at + size r) page)) (omega arith) (rw i.colon) in
        let short = stored_short w.storable in
        let room = record-inside in
        text (text-colon page (at + 3 + (n - suc k)) colon)
        (rw a (ready lim page (at + 3 + (n - k)) u (record-line (n - k) (omega arith)) (omega arith) (omega arith) rest (reading-after t its-reading f)
        (rw (long, same) (λ p h. places p (followed-within (at + 3) n f p h)))))

-- the places of these records are places of the page
module _ (lim : ℕ) (page : List ℕ) where
  abbrev Holds : ℕ → List Stored → Type 0
  Holds at rs = Within (places_in at rs) (places_of page)

  record-ends : (at : ℕ) (r : Stored) (rs : List Stored) (w : Whole lim page at r) → Holds at (r ∷ rs) → Within (ends_from (at + 3) (length r.text) (its lim page at r w)) (places_of page)
  record-ends at r rs w h p i =
      h p (within-left (ends_of (at + 3) (length r.text) (reading r.text)) (places_in (at + size r) rs) p (rw (its-reading lim page at r w) i))

  record-more : (at : ℕ) (r : Stored) (rs : List Stored) → Holds at (r ∷ rs) → Holds (at + size r) rs
  record-more at r rs h p i = h p (within-right (ends_of (at + 3) (length r.text) (reading r.text)) (places_in (at + size r) rs) p i)

  -- a place of these records is the end of one of the first one's members, or a place of the others
  among-records : {P : Type 0} (at : ℕ) (r : Stored) (rs : List Stored) (w : Whole lim page at r) (p : ℕ)
      → (EndOf (at + 3) (length r.text) p (its lim page at r w) → P) → (is_among (places_in (at + size r) rs) p ≡ true → P) → is_among (places_in at (r ∷ rs)) p ≡ true → P
  among-records at r rs w p f g i =
      let ends = ends_of (at + 3) (length r.text) (reading r.text) in
      or_cases (is_among ends p) (is_among (places_in (at + size r) rs) p) (sym (among-append ends (places_in (at + size r) rs) p) ∙ i)
      (λ j. f (end_of (at + 3) (length r.text) p (its lim page at r w) (rw (its-reading lim page at r w) at j))) g

  laid-start : {low at : ℕ} {rs : List Stored} → Laid lim page low at rs → Bounds page at → Holds at rs → Follows lim page at
  laid-start {at = at} (ends e) b h = nothing (text-none page at b e)
  laid-start {at = at} (laid {r = r} {rs = rs} l w p) b h =
      text (text-record page at b w.there) (record-ready lim page at r w (record-ends at r rs w h))

  laid-place : {low at : ℕ} {rs : List Stored} (p : ℕ) → Laid lim page low at rs → Holds at rs → is_among (places_in at rs) p ≡ true → Follows lim page (suc p)
  laid-place p (ends e) h i = absurd (false≢true i)
  laid-place {at = at} p (laid {r = r} {rs = rs} l w q) h i =
      let more = record-more at r rs h in
      among-records at r rs w p (λ j. by j more) (λ j. laid-place p q more j) i
    where
      by : EndOf (at + 3) (length r.text) p (its lim page at r w) → Holds (at + size r) rs → Follows lim page (suc p)
      by (at_cr f) more =
          let z : suc p ≡ at + size r = omega arith in
          rw z (laid-start q (record-bounds lim page at r w) more)
      by (at_colon f g) more = rw f (colon-follows lim page at r w (record-ends at r rs w h) g)

  -- the records' positions are the start and those after a CR
  after-record : (at : ℕ) (r : Stored) (rs : List Stored) → Whole lim page at r → Holds at (r ∷ rs) → Stands (places_of page) (at + size r)
  after-record at r rs w h =
      let z : at + size r ≡ suc (at + 3 + length r.text) = omega arith in
      rw z (record-ends at r rs w h _ (last_end (at + 3) (length r.text) (reading-sound r.text (its lim page at r w) (its-reading lim page at r w))))

  laid-find : {low at : ℕ} {rs : List Stored} (n q : ℕ) → Laid lim page low at rs → Holds at rs → Stands (places_of page) at → position_in n at rs ≡ some q → Stands (places_of page) q
  laid-find n q (ends e) h s i = let z : ◌≡◌ {A = ℕ} 0 1 = cc in absurd (omega arith)
  laid-find {at = at} n q (laid {r = r} {rs = rs} l w p) h s i =
      by (eqb r.line n) (laid-find n q p (record-more at r rs h) (after-record at r rs w h)) i
    where
      by : (b : Bool) → (position_in n (at + size r) rs ≡ some q → Stands (places_of page) q) → (if b then some at else position_in n (at + size r) rs) ≡ some q → Stands (places_of page) q
      by true f i = let z : at ≡ q = cc in rw (← z) s
      by false f i = f i

  -- where a place lies, seen from a record on; behind it stands the end mark at least
  record Lies (low at : ℕ) (rs : List Stored) (p : ℕ) : Type 0 where
    start : ℕ
    above : low ≤ line_in (p - at) rs
    found : position_in (line_in (p - at) rs) at rs ≡ some start
    ahead : at ≤ start
    behind : start + 3 ≤ p
    inside : p < start + length_at (drop start page)
    room : p + 2 < length page

  laid-lies : {low at : ℕ} {rs : List Stored} (p : ℕ) → Laid lim page low at rs → is_among (places_in at rs) p ≡ true → Lies low at rs p
  laid-lies p (ends e) i = absurd (false≢true i)
  laid-lies {low = low} {at = at} p (laid {r = r} {rs = rs} l w q) i = among-records at r rs w p here (λ j. there (laid-lies p q j)) i
    where
      inner : at + 3 ≤ p → p ≤ at + 3 + length r.text → Lies low at (r ∷ rs) p
      inner f g =
          let line : line_in (p - at) (r ∷ rs) ≡ r.line = rw (lt-ltb (p - at) (size r) (omega arith)) in
          record {
            start = at;
            above = rw line l;
            found = rw (line, eq-eqb r.line r.line refl);
            ahead = omega arith;
            behind = f;
            inside = omega (arith, w.long);
            room = omega (arith, laid-room q, used-two rs);
          }

      here : {ms : List Member} → EndOf (at + 3) (length r.text) p ms → Lies low at (r ∷ rs) p
      here (at_cr f) = inner (omega arith) (omega arith)
      here (at_colon f g) = inner (omega arith) (omega arith)

      there : Lies (suc r.line) (at + size r) rs p → Lies low at (r ∷ rs) p
      there d =
          let back : p - at - size r ≡ p - (at + size r) = omega arith in
          let line : line_in (p - at) (r ∷ rs) ≡ line_in (p - (at + size r)) rs = rw (le-ltb (p - at) (size r) (omega arith), back) in
          record {
            start = d.start;
            above = rw line (omega arith);
            found = ap (λ (n : ℕ). position_in n at (r ∷ rs)) line ∙ rw (ne_eqb r.line (line_in (p - (at + size r)) rs) (λ f. omega arith)) d.found;
            ahead = omega arith;
            behind = d.behind;
            inside = d.inside;
            room = d.room;
          }

-- a run may stand after every place: RETURN, UNTIL and NEXT go on there
pub place-stands : (ps : List ℕ) (p : ℕ) → is_among ps p ≡ true → Stands ps (suc p)
place-stands ps p h = h

-- On a good page
module _ (lim : ℕ) (page : List ℕ) (short : lim ≤ 251) (good : is_good lim page ≡ true) where
  records-laid : Laid lim page 0 0 (records_of page)
  records-laid = good-laid lim page short good

  pub stands-follows : (q : ℕ) → Stands (places_of page) q → Follows lim page q
  unfolding places_of
  stands-follows zero h = laid-start lim page records-laid refl (λ q i. i)
  stands-follows (suc p) h = laid-place lim page p records-laid (λ q i. i) h

  pub stands-ready : (q a : ℕ) → Stands (places_of page) q → text_from page q ≡ some a → Ready lim page a
  stands-ready q a h = follows-ready (stands-follows q h)

  -- what a run fetches where it may stand
  pub stands-fetches : (q : ℕ) → Stands (places_of page) q → Fetches page (fetch page q)
  unfolding fetch
  stands-fetches q h = by (stands-follows q h) where
    by : Follows lim page q → Fetches page (fetch_text page (text_from page q))
    by (nothing n) = rw n over_all
    by (text {a = a} t r) =
        rw (t, r.finds)
        (one_more (record { text = line_from page a; first = r.begins; rest = r.rest; reads = r.finds; statement = refl; line = refl; end = r.end; cr = r.cr }))

  pub fetches-here : (q : ℕ) (x : Standing) → Stands (places_of page) q → fetch page q ≡ here x → Readable page x
  fetches-here q x h e = by (fetch page q) e (stands-fetches q h) where
    by : (f : Fetched) → f ≡ here x → Fetches page f → Readable page x
    by past e s = let z : ◌≡◌ {A = ℕ} 0 1 = cc in absurd (omega arith)
    by (unreadable _) e s = elim s [ ]
    by (here y) e (one_more r) = let same : y ≡ x = cc in rw same at r

  pub fetches-read : (q a : ℕ) → Stands (places_of page) q → fetch page q ≡ unreadable a → ⊥
  fetches-read q a h e = by (fetch page q) e (stands-fetches q h) where
    by : (f : Fetched) → f ≡ unreadable a → Fetches page f → ⊥
    by past e s = let z : ◌≡◌ {A = ℕ} 0 1 = cc in omega arith
    by (unreadable _) e s = elim s [ ]
    by (here y) e s = let z : ◌≡◌ {A = ℕ} 0 1 = cc in omega arith

  pub text-short : (q a : ℕ) → Stands (places_of page) q → text_from page q ≡ some a → length (line_from page a) ≤ lim
  text-short q a h e = (stands-ready q a h e).short

  pub find-stands : (n q : ℕ) → find page n ≡ some q → Stands (places_of page) q
  unfolding find places_of
  find-stands n q h = laid-find lim page n q records-laid (λ q i. i) refl h

  pub place-lies : (p : ℕ) → is_among (places_of page) p ≡ true → LiesIn page p (line_of page p)
  unfolding find places_of line_of
  place-lies p h =
      let d = laid-lies lim page p records-laid h in
      let z : p - 0 ≡ p = omega arith in
      record { at = d.start; stands = rw z at d.found; behind = d.behind; inside = d.inside }

  -- the end mark stands behind every place, and at the last position of a run
  pub place_inside : (p : ℕ) → is_among (places_of page) p ≡ true → p + 2 < length page
  unfolding places_of
  place_inside p h = (laid-lies lim page p records-laid h).room

  pub stands-inside : (q : ℕ) → Stands (places_of page) q → q + 2 ≤ length page
  stands-inside zero h = omega (arith, laid-room records-laid, used-two (records_of page))
  stands-inside (suc p) h = omega (arith, place_inside p h)
