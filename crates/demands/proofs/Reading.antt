-- What runs is the reading: on a good page the member that a run finds at a position is the one that the grammar has next there. Assumes nothing.
use Prim.Native.Nat.{ℕ, zero, suc, ◌+◌, ◌-◌, ◌≤◌, ◌<◌}
use mathlib.Core.Path.{◌≡◌, refl, sym, ap, ◌∙◌}
use mathlib.Core.Bool.{Bool, false, ◌&&◌}
use mathlib.Core.List.{List, [], ◌∷◌, ◌++◌}
use mathlib.Core.Option.{some}
use native.Mathlib.Omega.{arith}
use lib.ListN.{length, get_or, drop, length-drop}
use lib.Seq.{drop-append-le, drop-drop, drop-length}
use lib.Dec.{leb, eqb}
use borrow.Author.Tests.{le-leb}
use Rattle.nibl.specs.Bytes.{not_cr, All, none as every-none, each, front}
use Rattle.nibl.specs.Tree.{Member}
use Rattle.nibl.specs.Grammar.{Members, last_member, more_members}
use Rattle.nibl.specs.Readings.{ListReading}
use Rattle.nibl.specs.found.Read.{found, member}
use Rattle.nibl.specs.Page.{Stored, line_of, records_of}
use Rattle.nibl.specs.Runs.{past as nothing, here, text_from, line_from, fetch}
use Rattle.nibl.specs.Record.{paused_at}
use Rattle.nibl.proofs.Words.{front-run}
use Rattle.nibl.proofs.Over.{word_over}
use Rattle.nibl.proofs.Rules.{W}
use Rattle.nibl.proofs.Statements.{statement-left, left-short}
use Rattle.nibl.proofs.Lines.{reading-sound}
use Rattle.nibl.proofs.Whole.{reading-complete}
use Rattle.nibl.proofs.Ends.{members-text, text-not_cr, Followed, after as what-follows, Begins, alone, before, reading_begins}
use Rattle.nibl.proofs.Ends as ends
use Rattle.page.proofs.Walk.{first-at}
use Rattle.page.proofs.Program.{end-bytes}
use Rattle.page.proofs.Stored.{stored-read}
use Rattle.page.proofs.Laid.{Laid, good-laid}
use Rattle.page.proofs.Laid as laid
use Rattle.demands.specs.Items.{In, first, further}
use Rattle.demands.specs.Good.{RecordAt, Boundary, start, behind, GoodPage, place_of, IsPlace, ends_member, PauseFits, at_start, after_place}
use Rattle.demands.specs.Reading.{Standing, standing, InTurn, here as in_front, later, NextAt, first_of, after, PastTheLast}
use Rattle.demands.proofs.Good.{whole-record, written-end, good-exact, record-here, boundary-onward}

-- A record's text
all_drop : {p : ℕ → Bool} {s : List ℕ} (n : ℕ) → All p s → All p (drop n s)
all_drop zero a = a
all_drop (suc n) every-none = every-none
all_drop (suc n) (each e a) = all_drop n a

module _ (page : List ℕ) (at n : ℕ) (t : List ℕ) (r : RecordAt page at n t) where
  text-drop : (i : ℕ) → i ≤ length t → drop (at + 3 + i) page ≡ drop i t ++ (13 ∷ r.after)
  text-drop i h =
      sym (drop-drop i (at + 3) page) ∙ ap (drop i) (sym (drop-drop 3 at page) ∙ ap (drop 3) r.bytes) ∙ drop-append-le i t (13 ∷ r.after) h

  -- what runs from within it on
  text-line : {ms : List Member} → ListReading t ms → (i : ℕ) → i ≤ length t → line_from page (at + 3 + i) ≡ drop i t
  text-line m i h = ap (front not_cr) (text-drop i h) ∙ front-run (all_drop i (text-not_cr (members-text m))) (13 ∷ r.after) refl

  text-byte : (i b : ℕ) (u : List ℕ) → i ≤ length t → drop i t ++ (13 ∷ r.after) ≡ b ∷ u → get_or page (at + 3 + i) 0 ≡ b
  text-byte i b u h e = sym (first-at page (at + 3 + i)) ∙ ap (λ (l : List ℕ). get_or l 0 0) (text-drop i h ∙ e)

  text-cr : get_or page (at + 3 + length t) 0 ≡ 13
  text-cr = text-byte (length t) 13 r.after (omega arith) (rw (drop-length t))

-- no ":" stands before a record boundary
boundary-before : {page : List ℕ} {q : ℕ} → Boundary page q → (leb 1 q && eqb (get_or page (q - 1) 0) 58) ≡ false
boundary-before start = refl
boundary-before {page = page} (behind {at = at} {n = n} {t = t} b r) =
    let z : at + (length t + 4) - 1 ≡ at + 3 + length t = omega arith in
    rw (le-leb 1 (at + (length t + 4)) (omega arith), z, text-cr page at n t r)

boundary-text : {page : List ℕ} {at n : ℕ} {t : List ℕ} → Boundary page at → RecordAt page at n t → text_from page at ≡ some (at + 3)
unfolding text_from
boundary-text {t = t} b r = rw (boundary-before b, r.bytes, written-end r.high r.low t r.after (omega (arith, r.number, r.small)))

pub past-fetched : {page : List ℕ} {q : ℕ} → PastTheLast page q → fetch page q ≡ nothing
unfolding text_from fetch
past-fetched p = rw (boundary-before p.boundary, p.mark.bytes)

text-colon : (page : List ℕ) (p : ℕ) → get_or page p 0 ≡ 58 → text_from page (suc p) ≡ some (suc p)
unfolding text_from
text-colon page p e = let z : suc p - 1 ≡ p = omega arith in rw (le-leb 1 (suc p) (omega arith), z, e)

-- Members
members-left : {s : List ℕ} {m : Member} {ms : List Member} → Members W s (m ∷ ms) → m.left ≤ length s
members-left (last_member p a) = omega arith
members-left (more_members p k ms) = omega (arith, left-short (statement-left p), (word_over k).short)

-- the member after another one: that ends at a ":"
record Turn (l m : Member) (ms : List Member) : Type 0 where
  left : ℕ
  rest : List Member
  ends_there : l.left ≡ suc left
  follows : Followed ms left (m ∷ rest)

no-turn : {A : Type 0} {l m : Member} {ms : List Member} → InTurn l m ms → ms ≡ [] → A
no-turn in_front h = let z : ◌≡◌ {A = ℕ} 0 1 = cc in absurd (omega arith)
no-turn (later i) h = let z : ◌≡◌ {A = ℕ} 0 1 = cc in absurd (omega arith)

in-turn : {s : List ℕ} {l m : Member} {ms : List Member} → Members W s ms → InTurn l m ms → Turn l m ms
in-turn (last_member p a) (later i) = no-turn i refl
in-turn (more_members {u = u} p k ms) (in_front {ms = rest}) = record { left = length u; rest = rest; ends_there = refl; follows = ends.first refl }
in-turn (more_members p k ms) (later i) =
    let t = in-turn ms i in record { left = t.left; rest = t.rest; ends_there = t.ends_there; follows = ends.later t.follows }

-- a member is the last, or another one follows
data Succeeds (m : Member) (ms : List Member) : Type 0 where
  is_last : m.left ≡ 0 → Succeeds m ms
  followed : (k : Member) → InTurn m k ms → Succeeds m ms

succeeds : {s : List ℕ} {m : Member} {ms : List Member} → Members W s ms → In m ms → Succeeds m ms
succeeds (last_member p a) first = is_last refl
succeeds (last_member p a) (further i) = nobody i refl where
  nobody : {A : Type 0} {m : Member} {ms : List Member} → In m ms → ms ≡ [] → A
  nobody first h = let z : ◌≡◌ {A = ℕ} 0 1 = cc in absurd (omega arith)
  nobody (further i) h = let z : ◌≡◌ {A = ℕ} 0 1 = cc in absurd (omega arith)
succeeds (more_members p k ms) first = next_of ms where
  next_of : {s : List ℕ} {l : Member} {ms : List Member} → Members W s ms → Succeeds l (l ∷ ms)
  next_of (last_member p a) = followed _ in_front
  next_of (more_members p k ms) = followed _ in_front
succeeds (more_members p k ms) (further i) = by (succeeds ms i) where
  by : {m l : Member} {ms : List Member} → Succeeds m ms → Succeeds m (l ∷ ms)
  by (is_last e) = is_last e
  by (followed k i) = followed k (later i)

-- What a run fetches at a position. Its line is that of its place
abbrev lined : List ℕ → Standing → Standing
lined page x = record { statement = x.statement; line = line_of page x.place; place = x.place; cr = x.cr }

begins-found : {s : List ℕ} {m : Member} {ms : List Member} {P : Type 0} → Begins s m ms → ((u : List ℕ) → member s ≡ found m u → P) → P
begins-found (alone z e) f = f [] e
begins-found (before l e r) f = f _ e

module _ (page : List ℕ) (at n : ℕ) (t : List ℕ) (r : RecordAt page at n t) where
  -- from i on in the text of a record
  fetched-in : {all : List Member} {m : Member} {ms : List Member} (q i : ℕ) → ListReading t all → i ≤ length t → text_from page q ≡ some (at + 3 + i) → ListReading (drop i t) (m ∷ ms)
      → fetch page q ≡ here (lined page (standing at n t m))
  unfolding fetch
  fetched-in {m = m} q i known h e reads =
      begins-found (reading_begins (drop i t) (reading-complete reads)) (λ u f.
      let text = text-line page at n t r known i h in
      let long : length (drop i t) ≡ length t - i = length-drop i t in
      let left = members-left reads in
      let place : at + 3 + i + (length (drop i t) - m.left) ≡ place_of at t m = omega arith in
      let cr : at + 3 + i + length (drop i t) ≡ at + 3 + length t = omega arith in
      rw (e, text, f, text, place, cr))

pub next-fetches : {page : List ℕ} {q : ℕ} {x : Standing} → NextAt page q x → fetch page q ≡ here (lined page x)
next-fetches {page = page} (first_of {at = at} {n = n} {t = t} b r reads) =
    let z : at + 3 + 0 ≡ at + 3 = omega arith in
    fetched-in page at n t r at 0 reads (omega arith) (boundary-text b r ∙ ap some (sym z)) reads
next-fetches {page = page} (after {at = at} {n = n} {t = t} {l = l} b r reads i) =
    let u = in-turn reads i in
    let f = what-follows reads u.follows in
    let k : ℕ = u.left in
    let inside : k < length t = f.inside in
    let same : length t - l.left ≡ length t - suc k = ap (λ (j : ℕ). length t - j) u.ends_there in
    let colon = text-byte page at n t r (length t - suc k) 58 (drop (length t - k) t ++ (13 ∷ r.after)) (omega arith) (rw f.colon) in
    let next : suc (at + 3 + (length t - suc k)) ≡ at + 3 + (length t - k) = omega arith in
    fetched-in page at n t r (suc (place_of at t l)) (length t - k) reads (omega arith)
    (rw same (text-colon page (at + 3 + (length t - suc k)) colon ∙ ap some next)) f.reads

-- what stands at a position: the end mark, or a member
pub data Stood (page : List ℕ) (q : ℕ) : Type 0 where
  past : PastTheLast page q → Stood page q
  next : {x : Standing} → NextAt page q x → Stood page q

-- On a good page
module _ (lim : ℕ) (page : List ℕ) (short : lim ≤ 251) (good : GoodPage lim page) where
  known : Laid lim page 0 0 (records_of page)
  known = good-laid lim page short ((good-exact lim page short).1 good)

  member-line : {at n : ℕ} {t : List ℕ} (m : Member) → Boundary page at → RecordAt page at n t → n ≡ line_of page (place_of at t m)
  member-line {at = at} {n = n} {t = t} m b r =
      sym ((record-here lim page at n t r (boundary-onward lim page known b)).line (place_of at t m) (omega arith) (omega arith))

  -- its line is the one of the record that its place lies in
  pub next-line : {q : ℕ} {x : Standing} → NextAt page q x → x.line ≡ line_of page x.place
  next-line (first_of {m = m} b r reads) = member-line m b r
  next-line (after {m = m} b r reads i) = member-line m b r

  -- so it is the one that is fetched, and one member at most is next
  pub next-fetched : {q : ℕ} {x : Standing} → NextAt page q x → fetch page q ≡ here x
  next-fetched {x = x} i =
      next-fetches i ∙ sym (ap (λ (l : ℕ). here (record { statement = x.statement; line = l; place = x.place; cr = x.cr })) (next-line i))

  pub next-unique : {q : ℕ} {x y : Standing} → NextAt page q x → NextAt page q y → x ≡ y
  next-unique i j = let f = next-fetched i in let g = next-fetched j in cc

  at-boundary : {q : ℕ} → Boundary page q → Stood page q
  at-boundary {q = q} b = by (boundary-onward lim page known b).laid where
    by : {low : ℕ} {rs : List Stored} → Laid lim page low q rs → Stood page q
    by (laid.ends e) = past (record { boundary = b; mark = record { after = drop 2 (drop q page); bytes = end-bytes (drop q page) e } })
    by (laid.laid {r = r} l w p) =
        let read = stored-read w.storable in
        some_first (reading-sound r.text read.members read.reads)
      where
        some_first : {ms : List Member} → Members W r.text ms → Stood page q
        some_first (last_member s a) = next (first_of b (whole-record w) (last_member s a))
        some_first (more_members s k more) = next (first_of b (whole-record w) (more_members s k more))

  at_place : {p : ℕ} → IsPlace page p → Stood page (suc p)
  at_place (ends_member {at = at} {n = n} {t = t} {ms = ms} {m = m} b r reads i) = by (succeeds reads i) where
    by : Succeeds m ms → Stood page (suc (place_of at t m))
    by (is_last e) =
        let z : suc (place_of at t m) ≡ at + (length t + 4) = omega arith in
        rw z (at-boundary (behind b r))
    by (followed k j) = next (after b r reads j)

  pub stood-at : {q : ℕ} → PauseFits page (paused_at q) → Stood page q
  stood-at at_start = at-boundary start
  stood-at (after_place i) = at_place i

  -- so that what a run fetches where it may stand is the member that is next there
  pub fetched-next : {q : ℕ} {x : Standing} → PauseFits page (paused_at q) → fetch page q ≡ here x → NextAt page q x
  fetched-next {q = q} {x = x} h e = by (stood-at h) where
    by : Stood page q → NextAt page q x
    by (past i) = let g = past-fetched i in let c : ◌≡◌ {A = ℕ} 0 1 = cc in absurd (omega arith)
    by (next {x = y} i) = let g = next-fetched i in let it : y ≡ x = cc in rw it at i

  pub fetched-past : {q : ℕ} → PauseFits page (paused_at q) → fetch page q ≡ nothing → PastTheLast page q
  fetched-past {q = q} h e = by (stood-at h) where
    by : Stood page q → PastTheLast page q
    by (past i) = i
    by (next i) = let g = next-fetched i in let c : ◌≡◌ {A = ℕ} 0 1 = cc in absurd (omega arith)
