-- What edits keep: a good page stays good, bytes stay bytes, and a refused edit changes nothing. What the finder finds. Assumes nothing.
use Rattle.std.specs.Prelude.{if◌then◌else◌}
use Prim.Native.Nat.{ℕ, zero, suc, ◌+◌, ◌-◌, ◌/◌, ◌%◌, ◌≤◌, ◌<◌}
use mathlib.Core.Path.{◌≡◌, refl, sym, ap, ◌∙◌}
use mathlib.Core.Bool.{true, ◌&&◌}
use mathlib.Core.List.{List, [], ◌∷◌, ◌++◌}
use mathlib.Core.Option.{Option, none, some}
use native.Mathlib.Omega.{arith}
use lib.ListN.{length, take, drop}
use lib.Seq.{get_or-drop}
use lib.Dec.{ltb, leb, eqb}
use borrow.Author.Tests.{leb-true, eqb-true, lt-ltb}
use Rattle.nibl.specs.Bytes.{is_text, All, none as no_byte, each as each-byte}
use Rattle.nibl.specs.Page.{Stored, record_bytes, program_bytes, is_good, records_of, line_at, size, used, has_line, with, position_in, find, onto}
use Rattle.nibl.proofs.Words.{if-split}
use Rattle.page.specs.Walk.{stops_at, size_at, reached, LineRecord, is_there}
use Rattle.page.specs.declared.Seat.{Seat}
use Rattle.page.specs.declared.Edited.TheVariants as edited
use Rattle.page.specs.Edits.{seat_of, spliced, Changed, changed, can_store, store_at_seat, delete_at, store_of, delete_of, new_of, Untouched}
use Rattle.page.proofs.Walk.{by_cases, stop, size-some, met}
use Rattle.page.proofs.Program.{both, Bytes, Storable, Program, none as empty, each}
use Rattle.page.proofs.Laid.{good-program}
use Rattle.page.proofs.Changes.{with-program, without-program, onto-good}
use Rattle.page.proofs.Stored.{stored-text}
use Rattle.page.proofs.Good.{store_is, delete-is}

module _ (lim : ℕ) (page : List ℕ) (bytes : Bytes page) (good : is_good lim page ≡ true) where
  pub store_keeps : (n : ℕ) (t : List ℕ) → Storable lim (record { line = n; text = t }) → is_good lim (store_of page n t).page ≡ true
  store_keeps n t s =
      let q : Stored = record { line = n; text = t } in
      let rs : List Stored = with q (records_of page) in
      rw (store_is lim page bytes good n t s.short)
      (by_cases (leb (length (program_bytes rs)) (length page))
      (λ e. rw (e, if◌then◌else◌) (onto-good page (with-program q s (omega arith) (good-program lim page bytes good))))
      (λ e. rw (e, if◌then◌else◌) good))

  pub delete-keeps : (n : ℕ) → is_good lim (delete_of page n).page ≡ true
  delete-keeps n =
      rw (delete-is lim page bytes good n)
      (by_cases (has_line n (records_of page))
      (λ e. rw (e, if◌then◌else◌) (onto-good page (without-program n (good-program lim page bytes good))))
      (λ e. rw (e, if◌then◌else◌) good))

  pub new-keeps : is_good lim (new_of page).page ≡ true
  unfolding new_of
  new-keeps = if-split (λ (c : Changed). is_good lim c.page ≡ true) (leb 2 (length page)) (λ e. onto-good page empty) (λ e. good)

-- bytes
bytes_take : (n : ℕ) (l : List ℕ) → Bytes l → Bytes (take n l)
bytes_take zero l b i = omega arith
bytes_take (suc n) [] b i = omega arith
bytes_take (suc n) (x ∷ l) b zero = b 0
bytes_take (suc n) (x ∷ l) b (suc i) = bytes_take n l (λ j. b (suc j)) i

bytes_drop : (n : ℕ) (l : List ℕ) → Bytes l → Bytes (drop n l)
bytes_drop n l b i = rw (get_or-drop n l i 0) (b (n + i))

bytes-append : (a b : List ℕ) → Bytes a → Bytes b → Bytes (a ++ b)
bytes-append [] b u v i = v i
bytes-append (x ∷ a) b u v zero = u 0
bytes-append (x ∷ a) b u v (suc i) = bytes-append a b (λ j. u (suc j)) v i

bytes-cons : (x : ℕ) (l : List ℕ) → x < 256 → Bytes l → Bytes (x ∷ l)
bytes-cons x l h b zero = h
bytes-cons x l h b (suc i) = b i

bytes-spliced : (p : List ℕ) (at gone top : ℕ) (new : List ℕ) → Bytes p → Bytes new → Bytes (spliced p at gone top new)
bytes-spliced p at gone top new b v =
    let rest = bytes-append (take (top - (at + gone)) (drop (at + gone) p)) (drop (at + length new + (top - (at + gone))) p)
    (bytes_take (top - (at + gone)) (drop (at + gone) p) (bytes_drop (at + gone) p b)) (bytes_drop (at + length new + (top - (at + gone))) p b) in
    bytes-append (take at p) _ (bytes_take at p b) (bytes-append new _ v rest)

bytes-record : (n : ℕ) (t : List ℕ) → n < 65536 → length t + 4 < 256 → Bytes t → Bytes (record_bytes (record { line = n; text = t }))
bytes-record n t h k b =
    let body : List ℕ = t ++ (13 ∷ []) in
    let low : Bytes body = bytes-append t (13 ∷ []) b (bytes-cons 13 [] (omega arith) (λ i. omega arith)) in
    bytes-cons (n / 256) ((n % 256) ∷ (length t + 4) ∷ body) (omega arith)
    (bytes-cons (n % 256) ((length t + 4) ∷ body) (omega arith) (bytes-cons (length t + 4) body k low))

module _ (page : List ℕ) (bytes : Bytes page) where
  pub store_bytes : (n : ℕ) (t : List ℕ) → n < 65536 → Bytes t → Bytes (store_of page n t).page
  unfolding store_of store_at_seat
  store_bytes n t h b =
      let s : Seat = seat_of page n in
      by_cases (can_store page s (length t + 4))
      (λ e.
      let k = leb-true (length t + 4) 255 (both (leb (length t + 4) 255) _ (both (leb (used page) (length page)) _ e).1).0 in
      rw (e, if◌then◌else◌) (bytes-spliced page s.at s.gone (used page) (record_bytes (record { line = n; text = t })) bytes (bytes-record n t h (omega arith) b)))
      (λ e. rw (e, if◌then◌else◌) bytes)

  pub delete-bytes : (n : ℕ) → Bytes (delete_of page n).page
  unfolding delete_of delete_at
  delete-bytes n =
      let s : Seat = seat_of page n in
      by_cases (ltb s.gone 1) (λ e. rw (e, if◌then◌else◌) bytes)
      (λ e. by_cases (leb (used page) (length page))
      (λ f. rw (e, f, if◌then◌else◌) (bytes-spliced page s.at s.gone (used page) [] bytes (λ i. omega arith)))
      (λ f. rw (e, f, if◌then◌else◌) bytes))

-- a text's bytes are bytes, and so are a program's
text-bytes : {t : List ℕ} → All is_text t → Bytes t
text-bytes no_byte i = omega arith
text-bytes (each-byte {b = b} e a) zero =
    let h = leb-true b 126 (both (leb 32 b) (leb b 126) (both (leb 32 b && leb b 126) _ e).0).1 in omega arith
text-bytes (each-byte e a) (suc i) = text-bytes a i

program-bytes : {lim low : ℕ} {rs : List Stored} → Program lim low rs → Bytes (program_bytes rs)
program-bytes empty = bytes-cons 255 (255 ∷ []) (omega arith) (bytes-cons 255 [] (omega arith) (λ i. omega arith))
program-bytes (each {r = r} {rs = rs} l s p) =
    let n = s.number in
    let t = s.short in
    bytes-append (record_bytes r) (program_bytes rs)
    (bytes-record r.line r.text (omega arith) (omega arith) (text-bytes (stored-text s))) (program-bytes p)

pub onto-bytes : {lim : ℕ} {rs : List Stored} (page : List ℕ) → Bytes page → Program lim 0 rs → Bytes (onto page rs)
onto-bytes {rs = rs} page b p =
    bytes-append (program_bytes rs) _ (program-bytes p) (bytes_drop (length (program_bytes rs)) page b)

pub new-bytes : (page : List ℕ) → Bytes page → Bytes (new_of page).page
unfolding new_of
new-bytes page b = if-split (λ (c : Changed). Bytes c.page) (leb 2 (length page)) (λ e. onto-bytes {lim = 0} page b empty) (λ e. b)

-- An edit that is refused, or finds nothing to do, leaves the page as it was
undone : (page p : List ℕ) → Untouched page (changed p edited.Done)
undone page p e = let z : ◌≡◌ {A = ℕ} 0 1 = cc in absurd (omega arith)

module _ (page : List ℕ) where
  pub store-untouched : (n : ℕ) (t : List ℕ) → Untouched page (store_of page n t)
  unfolding store_of store_at_seat
  store-untouched n t =
      if-split (Untouched page) (can_store page (seat_of page n) (length t + 4)) (λ e. undone page _) (λ e f. refl)

  pub delete-untouched : (n : ℕ) → Untouched page (delete_of page n)
  unfolding delete_of delete_at
  delete-untouched n =
      if-split (Untouched page) (ltb (seat_of page n).gone 1) (λ e f. refl)
      (λ e. if-split (Untouched page) (leb (used page) (length page)) (λ f. undone page _) (λ f g. refl))

  pub new-untouched : Untouched page (new_of page)
  unfolding new_of
  new-untouched = if-split (Untouched page) (leb 2 (length page)) (λ e. undone page _) (λ e f. refl)

  pub no-room-untouched : (n : ℕ) (t : List ℕ) → (store_of page n t).stop ≡ 2 → (store_of page n t).page ≡ page
  unfolding store_of store_at_seat
  no-room-untouched n t =
      if-split (λ (c : Changed). c.stop ≡ 2 → c.page ≡ page) (can_store page (seat_of page n) (length t + 4)) (λ e f. absurd (omega arith)) (λ e f. refl)

found : (k : ℕ) (page : List ℕ) (n at q : ℕ) → length page - at < k → position_in n at (records_of (drop at page)) ≡ some q → LineRecord page n q
found zero page n at q h e = absurd (omega arith)
found (suc k) page n at q h e =
    by_cases (stops_at (drop at page)) (λ f. let g : none ≡ some q = sym (ap (position_in n at) (stop (drop at page) f)) ∙ e in let z : ◌≡◌ {A = ℕ} 0 1 = cc in absurd (omega arith))
    (λ f.
    let m = met page at (size_at (drop at page)) refl (omega (arith, size-some (drop at page) f)) in
    by_cases (eqb (line_at (drop at page)) n)
    (λ g.
    let is : some at ≡ some q = sym (rw (m.records, g)) ∙ e in
    let at-q : at ≡ q = cc in
    rw (← at-q) (record { inside = m.inside; line = eqb-true (line_at (drop at page)) n g; there = f }))
    (λ g.
    let next = at + size_at (drop at page) in
    let on : position_in n at (records_of (drop at page)) ≡ position_in n next (records_of (drop next page)) = rw (m.records, g, m.long) in
    found k page n next q (omega (arith, size-some (drop at page) f, m.inside)) (sym on ∙ e)))

pub find-record : (page : List ℕ) (n q : ℕ) → find page n ≡ some q → LineRecord page n q
unfolding find
find-record page n q e = found (suc (length page)) page n 0 q (omega arith) e

-- on a page as long as a call's, every line stands at the program's start or after a place
pub reached-all : (page : List ℕ) (n : ℕ) → length page ≤ 65535 → reached (find page n) ≡ find page n
reached-all page n h = go (find page n) (λ q e. find-record page n q e)
  where
    go : (o : Option ℕ) → ((q : ℕ) → o ≡ some q → LineRecord page n q) → reached o ≡ o
    go none k = refl
    go (some q) k = rw (lt-ltb q 65536 (omega (arith, (k q refl).inside)))

-- and it finds the lines that are there
there_has : (n at : ℕ) (rs : List Stored) → is_there (position_in n at rs) ≡ has_line n rs
there_has n at [] = refl
there_has n at (r ∷ rs) =
    by_cases (eqb r.line n) (λ f. rw (f, if◌then◌else◌)) (λ f. rw (f, if◌then◌else◌) (there_has n (at + size r) rs))

pub find-has : (page : List ℕ) (n : ℕ) → is_there (find page n) ≡ has_line n (records_of page)
unfolding find
find-has page n = there_has n 0 (records_of page)
