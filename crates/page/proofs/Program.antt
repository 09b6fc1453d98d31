-- A program's bytes: they are a good page, and give its records back; and what is known of each step along a good page.
-- Assumes nothing.
use Prim.Native.Nat.{ℕ, zero, suc, ◌+◌, ◌-◌, ◌/◌, ◌%◌, ◌≤◌, ◌<◌}
use mathlib.Core.Path.{◌≡◌, refl, ap, ◌∙◌}
use mathlib.Core.Bool.{Bool, true, false, ◌&&◌, false≢true}
use mathlib.Core.List.{List, [], ◌∷◌, ◌++◌, append_assoc}
use native.Mathlib.Nat.{div-add-mod'}
use native.Mathlib.Omega.{arith}
use lib.ListN.{length, get_or, take, drop, length-append}
use lib.Seq.{drop_at, take_at, get_or_at}
use lib.Dec.{leb, eqb}
use borrow.Author.Tests.{le-leb, leb-true, eqb-true, ne_eqb, le-ltb}
use Rattle.nibl.specs.Page.{Stored, record_bytes, program_bytes, is_end, line_at, length_at, text_at, is_storable, is_record, good_n, is_good, records_of, size, used_by}
use Rattle.page.specs.Walk.{stops_at, record_at}
pub use Rattle.page.specs.Standing.{Bytes, Storable}
use Rattle.page.proofs.Walk.{by_cases, stop, step, size_is}

-- the records of a good page, which rise from low on
pub data Program (lim : ℕ) : ℕ → List Stored → Type 0 where
  none : {low : ℕ} → Program lim low []
  each : {low : ℕ} {r : Stored} {rs : List Stored} → low ≤ r.line → Storable lim r → Program lim (suc r.line) rs → Program lim low (r ∷ rs)

-- Lengths
pub record-length : (r : Stored) → length (record_bytes r) ≡ size r
record-length r = omega (arith, length-append r.text (13 ∷ []))

pub program-length : (rs : List Stored) → length (program_bytes rs) ≡ used_by rs
program-length [] = refl
program-length (r ∷ rs) = length-append (record_bytes r) (program_bytes rs) ∙ omega (arith, record-length r, program-length rs)

-- the record whose bytes stand first
module _ (r : Stored) (rest : List ℕ) where
  pub front-line : line_at (record_bytes r ++ rest) ≡ r.line
  front-line = div-add-mod' r.line 256

  pub front-text : text_at (record_bytes r ++ rest) ≡ r.text
  front-text =
      ap (λ (l : List ℕ). take (length r.text + 4 - 4) l) (append_assoc r.text (13 ∷ []) rest)
      ∙ take_at r.text (13 ∷ rest) (length r.text + 4 - 4) (omega arith)

  pub front_rest : drop (size r) (record_bytes r ++ rest) ≡ rest
  front_rest = drop_at (record_bytes r) rest (size r) (record-length r)

  front-end : r.line ≤ 32767 → is_end (record_bytes r ++ rest) ≡ false
  front-end h = rw (ne_eqb (r.line / 256) 255 (λ e. omega arith))

  front-stop : r.line ≤ 32767 → 1 ≤ length r.text → stops_at (record_bytes r ++ rest) ≡ false
  front-stop h n = rw (front-end h, le-ltb (length r.text + 4) 5 (omega arith))

  pub front-is : record_at (record_bytes r ++ rest) ≡ r
  front-is = λ i. record { line = front-line i; text = front-text i }

  pub front-step : r.line ≤ 32767 → 1 ≤ length r.text → records_of (record_bytes r ++ rest) ≡ r ∷ records_of rest
  front-step h n =
      let e = front-stop h n in
      step (record_bytes r ++ rest) e
      ∙ (λ i. front-is i ∷ records_of (drop ((size_is (record_bytes r ++ rest) e ∙ ap size front-is) i) (record_bytes r ++ rest)))
      ∙ ap (λ (q : List ℕ). r ∷ records_of q) front_rest

  front-cr : get_or (record_bytes r ++ rest) (size r - 1) 0 ≡ 13
  front-cr =
      let head : List ℕ = (r.line / 256) ∷ (r.line % 256) ∷ size r ∷ r.text in
      ap (λ (l : List ℕ). get_or ((r.line / 256) ∷ (r.line % 256) ∷ size r ∷ l) (size r - 1) 0) (append_assoc r.text (13 ∷ []) rest)
      ∙ get_or_at head 13 rest 0 (size r - 1) (omega arith)

  pub front-record : (lim low : ℕ) → low ≤ r.line → Storable lim r → is_record lim low (record_bytes r ++ rest) ≡ true
  unfolding is_record
  front-record lim low h s =
      let whole : length (record_bytes r ++ rest) ≡ size r + length rest = length-append (record_bytes r) rest ∙ omega (arith, record-length r) in
      rw (front-line, le-leb low r.line h, le-leb r.line 32767 s.number, le-leb 5 (size r) (omega arith), le-leb (size r) (length (record_bytes r ++ rest)) (omega arith), front-cr, front-text) s.text

-- Records whose fields are in range
pub data Ranged : List Stored → Type 0 where
  none : Ranged []
  each : {r : Stored} {rs : List Stored} → r.line ≤ 32767 → 1 ≤ length r.text → Ranged rs → Ranged (r ∷ rs)

pub ranged : {lim low : ℕ} {rs : List Stored} → Program lim low rs → Ranged rs
ranged none = none
ranged (each l s p) = each s.number s.some (ranged p)

-- a program's bytes give its records back
pub records-back : {rs : List Stored} (rest : List ℕ) → Ranged rs → records_of (program_bytes rs ++ rest) ≡ rs
records-back rest none = stop (255 ∷ 255 ∷ rest) refl
records-back rest (each {r = r} {rs = rs} h n g) =
    ap records_of (append_assoc (record_bytes r) (program_bytes rs) rest)
    ∙ front-step r (program_bytes rs ++ rest) h n
    ∙ ap (λ (l : List Stored). r ∷ l) (records-back rest g)

-- such bytes are good
good-back : {lim low : ℕ} {rs : List Stored} (k : ℕ) (rest : List ℕ) → length (program_bytes rs) < k → Program lim low rs
    → good_n lim k low (program_bytes rs ++ rest) ≡ true
unfolding good_n
good-back zero rest h none = absurd (omega arith)
good-back (suc k) rest h none = refl
good-back zero rest h (each l s p) = absurd (omega arith)
good-back {lim = lim} {low = low} (suc k) rest h (each {r = r} {rs = rs} l s p) =
    let more : List ℕ = program_bytes rs ++ rest in
    let short : length (program_bytes rs) < k = omega (arith, length-append (record_bytes r) (program_bytes rs), record-length r) in
    let is : is_record lim low (record_bytes r ++ more) ≡ true = front-record r more lim low l s in
    ap (good_n lim (suc k) low) (append_assoc (record_bytes r) (program_bytes rs) rest)
    ∙ rw (front-end r more s.number, is, good_n, front-line r more, front_rest r more) (good-back k rest short p)

pub program-good : {lim : ℕ} {rs : List Stored} (rest : List ℕ) → Program lim 0 rs → is_good lim (program_bytes rs ++ rest) ≡ true
unfolding is_good
program-good {rs = rs} rest p =
    good-back (suc (length (program_bytes rs ++ rest))) rest (omega (arith, length-append (program_bytes rs) rest)) p

-- What a good page is made of
pub both : (a b : Bool) → (a && b) ≡ true → (a ≡ true) × (b ≡ true)
both true b e = (refl, e)
both false b e = absurd (false≢true e)

pub end-bytes : (q : List ℕ) → is_end q ≡ true → q ≡ 255 ∷ 255 ∷ drop 2 q
end-bytes [] e = absurd (false≢true e)
end-bytes (x ∷ []) e = absurd (false≢true (both (eqb x 255) false e).1)
end-bytes (x ∷ y ∷ l) e =
    let h = both (eqb x 255) (eqb y 255) e in λ i. eqb-true x 255 h.0 i ∷ eqb-true y 255 h.1 i ∷ l

module _ (lim : ℕ) where
  -- what is known of a record that was found whole
  pub record-known : (low : ℕ) (q : List ℕ) → is_record lim low q ≡ true
      → (low ≤ line_at q) × ((line_at q ≤ 32767) × ((5 ≤ length_at q) × ((length_at q ≤ length q) × ((get_or q (length_at q - 1) 0 ≡ 13) × (is_storable lim (line_at q) (text_at q) ≡ true)))))
  unfolding is_record
  record-known low q e =
      let a = both (leb low (line_at q)) _ e in
      let b = both (leb (line_at q) 32767) _ a.1 in
      let c = both (leb 5 (length_at q)) _ b.1 in
      let d = both (leb (length_at q) (length q)) _ c.1 in
      let f = both (eqb (get_or q (length_at q - 1) 0) 13) _ d.1 in
      (leb-true _ _ a.0, (leb-true _ _ b.0, (leb-true _ _ c.0, (leb-true _ _ d.0, (eqb-true _ _ f.0, f.1)))))

  pub good-step : (k low : ℕ) (q : List ℕ) → is_end q ≡ false → good_n lim (suc k) low q ≡ true
      → (is_record lim low q ≡ true) × (good_n lim k (suc (line_at q)) (drop (length_at q) q) ≡ true)
  unfolding good_n
  good-step k low q e h =
      by_cases (is_record lim low q) (λ f. (f, rw (e, f, good_n) at h)) (λ f. absurd (false≢true (rw (e, f, good_n) at h)))
