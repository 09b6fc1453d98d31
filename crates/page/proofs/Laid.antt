-- The records of a good page, each at the position where it lies; so that a good page is a program's bytes, and what lies after them.
-- Assumes nothing.
use Prim.Native.Nat.{ℕ, zero, suc, ◌+◌, ◌-◌, ◌/◌, ◌%◌, ◌≤◌, ◌<◌}
use mathlib.Core.Path.{◌≡◌, refl, sym, ap, ◌∙◌}
use mathlib.Core.Bool.{true, false, false≢true}
use mathlib.Core.List.{List, [], ◌∷◌, ◌++◌, append_assoc}
use native.Mathlib.Nat.{zero-add}
use native.Mathlib.Omega.{arith}
use lib.ListN.{length, get_or, take, drop, length-append, length-drop, length-take, take-append-drop}
use lib.Seq.{drop-cons, drop-drop, length-take-le, get_or-drop}
use borrow.Author.Tests.{le-ltb}
use Rattle.nibl.specs.Page.{Stored, record_bytes, program_bytes, is_end, line_at, length_at, text_at, is_storable, is_record, good_n, is_good, records_n, records_of, size, used_by, used}
use Rattle.page.specs.Walk.{stops_at, record_at}
use Rattle.page.proofs.Walk.{by_cases, records-some, records-none}
use Rattle.page.proofs.Program.{Bytes, Storable, Program, none, each, end-bytes, record-known, good-step}
use Rattle.page.proofs.Stored.{storable-short}

-- the record r stands at `at`, whole
pub record Whole (lim : ℕ) (page : List ℕ) (at : ℕ) (r : Stored) : Type 0 where
  pub there : is_end (drop at page) ≡ false
  pub storable : Storable lim r
  pub line : line_at (drop at page) ≡ r.line
  pub long : length_at (drop at page) ≡ size r
  pub text : drop (at + 3) page ≡ r.text ++ (13 ∷ drop (at + size r) page)

-- from `at` on stand these records, whose numbers rise from low on, and then the end mark
pub data Laid (lim : ℕ) (page : List ℕ) : ℕ → ℕ → List Stored → Type 0 where
  ends : {low at : ℕ} → is_end (drop at page) ≡ true → Laid lim page low at []
  laid : {low at : ℕ} {r : Stored} {rs : List Stored} → low ≤ r.line → Whole lim page at r → Laid lim page (suc r.line) (at + size r) rs → Laid lim page low at (r ∷ rs)

pub laid-program : {lim : ℕ} {page : List ℕ} {low at : ℕ} {rs : List Stored} → Laid lim page low at rs → Program lim low rs
laid-program (ends e) = none
laid-program (laid l w p) = each l w.storable (laid-program p)

pub laid-room : {lim : ℕ} {page : List ℕ} {low at : ℕ} {rs : List Stored} → Laid lim page low at rs → at + used_by rs ≤ length page
laid-room {page = page} {at = at} (ends e) = omega (arith, ap length (end-bytes (drop at page) e), length-drop at page)
laid-room (laid l w p) = omega (arith, laid-room p)

-- the text of a whole record, its CR, and what follows
pub whole-text : (q : List ℕ) → 5 ≤ length_at q → length_at q ≤ length q → get_or q (length_at q - 1) 0 ≡ 13 → drop 3 q ≡ text_at q ++ (13 ∷ drop (length_at q) q)
whole-text q h l e =
    let n : ℕ = length_at q - 4 in
    let s : List ℕ = drop 3 q in
    let inside : n < length s = omega (arith, length-drop 3 q) in
    let last : 3 + n ≡ length_at q - 1 = omega arith in
    let past : 3 + suc n ≡ length_at q = omega arith in
    let cr : get_or s n 0 ≡ 13 = get_or-drop 3 q n 0 ∙ ap (λ (i : ℕ). get_or q i 0) last ∙ e in
    let rest : drop (suc n) s ≡ drop (length_at q) q = drop-drop (suc n) 3 q ∙ ap (λ (i : ℕ). drop i q) past in
    sym (take-append-drop n s) ∙ ap (λ (r : List ℕ). take n s ++ r) (drop-cons s n 0 inside ∙ (λ i. cr i ∷ rest i))

-- A length byte has room for every text that the page's records may hold: within such a limit, or where the page holds bytes
abbrev Room : ℕ → List ℕ → Type 0
Room lim page = (at n : ℕ) → is_storable lim n (text_at (drop at page)) ≡ true → length (text_at (drop at page)) ≤ 251

pub text-room : (q : List ℕ) → length_at q < 256 → length (text_at q) ≤ 251
text-room q h = omega (arith, length-take (length_at q - 4) (drop 3 q))

limit-room : (lim : ℕ) (page : List ℕ) → lim ≤ 251 → Room lim page
limit-room lim page h at n e = omega (arith, storable-short lim n (text_at (drop at page)) e)

bytes-room : (lim : ℕ) (page : List ℕ) → Bytes page → Room lim page
bytes-room lim page b at n e = text-room (drop at page) (omega (arith, get_or-drop at page 2 0, b (at + 2)))

module _ (lim : ℕ) (page : List ℕ) (room : Room lim page) where
  whole-at : (low at : ℕ) → is_end (drop at page) ≡ false → is_record lim low (drop at page) ≡ true → Whole lim page at (record_at (drop at page))
  whole-at low at e h =
      let q : List ℕ = drop at page in
      let know = record-known lim low q h in
      let five : 5 ≤ length_at q = know.1.1.0 in
      let inside : length_at q ≤ length q = know.1.1.1.0 in
      let good = know.1.1.1.1.1 in
      let long : length (text_at q) ≡ length_at q - 4 = length-take-le (length_at q - 4) (drop 3 q) (omega (arith, length-drop 3 q)) in
      let is : length_at q ≡ size (record_at q) = omega arith in
      let next : drop (length_at q) q ≡ drop (at + size (record_at q)) page = drop-drop (length_at q) at page ∙ ap (λ (n : ℕ). drop (at + n) page) is in
      record {
        there = e;
        storable = record { number = know.1.0; some = omega arith; short = room at (line_at q) good; text = good };
        line = refl;
        long = is;
        text = sym (drop-drop 3 at page) ∙ whole-text q five inside know.1.1.1.1.0 ∙ ap (λ (l : List ℕ). text_at q ++ (13 ∷ l)) next;
      }

  laid_from : (k low at : ℕ) → good_n lim k low (drop at page) ≡ true → Laid lim page low at (records_n k (drop at page))
  unfolding good_n
  laid_from zero low at h = absurd (false≢true h)
  laid_from (suc k) low at h =
      by_cases (is_end (drop at page)) (λ e. rw (records-none (suc k) (drop at page) (rw e)) (ends e))
      (λ e. one e (good-step lim k low (drop at page) e h) (λ n g. laid_from k (suc (line_at (drop at page))) n g))
    where
      one : is_end (drop at page) ≡ false
          → (is_record lim low (drop at page) ≡ true) × (good_n lim k (suc (line_at (drop at page))) (drop (length_at (drop at page)) (drop at page)) ≡ true)
          → ((n : ℕ) → good_n lim k (suc (line_at (drop at page))) (drop n page) ≡ true → Laid lim page (suc (line_at (drop at page))) n (records_n k (drop n page)))
          → Laid lim page low at (records_n (suc k) (drop at page))
      one e g more =
          let q : List ℕ = drop at page in
          let know = record-known lim low q g.0 in
          let w = whole-at low at e g.0 in
          let next : drop (length_at q) q ≡ drop (at + size (record_at q)) page = drop-drop (length_at q) at page ∙ ap (λ (n : ℕ). drop (at + n) page) w.long in
          let stopless : stops_at q ≡ false = rw (e, le-ltb (length_at q) 5 know.1.1.0) in
          rw (records-some k q stopless, next) (laid know.0 w (more (at + size (record_at q)) (rw next at g.1)))

  all_laid : is_good lim page ≡ true → Laid lim page 0 0 (records_of page)
  unfolding is_good records_of
  all_laid good = laid_from (suc (length page)) 0 0 good

pub good-laid : (lim : ℕ) (page : List ℕ) → lim ≤ 251 → is_good lim page ≡ true → Laid lim page 0 0 (records_of page)
good-laid lim page short good = all_laid lim page (limit-room lim page short) good

-- the bytes of a whole record
pub record-bytes : (q : List ℕ) (r : Stored) (rest : List ℕ) → Bytes q → line_at q ≡ r.line → length_at q ≡ size r → drop 3 q ≡ r.text ++ (13 ∷ rest) → q ≡ record_bytes r ++ rest
record-bytes [] r rest b l n t = absurd (omega (arith, ap length t, length-append r.text (13 ∷ rest)))
record-bytes (x ∷ []) r rest b l n t = absurd (omega (arith, ap length t, length-append r.text (13 ∷ rest)))
record-bytes (x ∷ y ∷ []) r rest b l n t = absurd (omega (arith, ap length t, length-append r.text (13 ∷ rest)))
record-bytes (x ∷ y ∷ m ∷ s) r rest b l n t =
    let low : y < 256 = b 1 in
    let a : x ≡ r.line / 256 = omega arith in
    let c : y ≡ r.line % 256 = omega arith in
    λ i. a i ∷ c i ∷ n i ∷ (t ∙ sym (append_assoc r.text (13 ∷ []) rest)) i

laid-bytes : {lim : ℕ} {page : List ℕ} {low at : ℕ} {rs : List Stored} → Bytes page → Laid lim page low at rs → drop at page ≡ program_bytes rs ++ drop (at + used_by rs) page
laid-bytes {page = page} {at = at} b (ends e) = end-bytes (drop at page) e ∙ ap (λ (l : List ℕ). 255 ∷ 255 ∷ l) (drop-drop 2 at page)
laid-bytes {page = page} {at = at} b (laid {r = r} {rs = rs} l w p) =
    let past : at + size r + used_by rs ≡ at + (size r + used_by rs) = omega arith in
    record-bytes (drop at page) r (drop (at + size r) page) (λ i. rw (get_or-drop at page i 0) (b (at + i))) w.line w.long (drop-drop 3 at page ∙ w.text)
    ∙ ap (λ (q : List ℕ). record_bytes r ++ q) (laid-bytes b p ∙ ap (λ (n : ℕ). program_bytes rs ++ drop n page) past)
    ∙ sym (append_assoc (record_bytes r) (program_bytes rs) _)

-- A good page, whatever its limit
module _ (lim : ℕ) (page : List ℕ) (bytes : Bytes page) (good : is_good lim page ≡ true) where
  records-laid : Laid lim page 0 0 (records_of page)
  records-laid = all_laid lim page (bytes-room lim page bytes) good

  -- its records rise and may be stored
  pub good-program : Program lim 0 (records_of page)
  good-program = laid-program records-laid

  -- its bytes are those of its records, and what lies after them
  pub good-bytes : page ≡ program_bytes (records_of page) ++ drop (used page) page
  unfolding used
  good-bytes = laid-bytes bytes records-laid ∙ ap (λ (n : ℕ). program_bytes (records_of page) ++ drop n page) (zero-add (used_by (records_of page)))

  pub good-fits : used page ≤ length page
  unfolding used
  good-fits = omega (arith, laid-room records-laid)
