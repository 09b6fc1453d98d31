-- The way along a page's records from one position to another: the records on it, and that it stays where what comes after it changes.
-- Assumes nothing.
use Prim.Native.Nat.{ℕ, zero, suc, ◌+◌, ◌-◌, ◌*◌, ◌≤◌, ◌<◌}
use mathlib.Core.Path.{◌≡◌, refl, sym, ap, subst, ◌∙◌}
use mathlib.Core.Bool.{false, ◌&&◌, ◌||◌}
use mathlib.Core.List.{List, [], ◌∷◌, ◌++◌}
use native.Mathlib.Nat.{add-zero, zero-add}
use native.Mathlib.Omega.{arith}
use lib.ListN.{length, get_or, take, drop, length-append, length-drop, get_or-append}
use lib.Seq.{drop-append-le, take-append-le, length-take-le, drop_at, drop-drop}
use lib.Dec.{ltb, leb, eqb}
use borrow.Author.Tests.{leb-true, leb-false}
use Rattle.nibl.specs.Page.{Stored, length_at, text_at, records_of, size}
use Rattle.page.specs.Walk.{stops_at, record_at, size_at}
use Rattle.page.specs.Tables.{span_of}
use Rattle.page.proofs.Walk.{by_cases, long, size_is, size-whole, size-cut, size-most, size-some, stop, step}

-- The records from position q up to position `at`
pub data Way (page : List ℕ) : ℕ → ℕ → List Stored → Type 0 where
  here : {at : ℕ} → Way page at at []
  on : {q at : ℕ} {rs : List Stored} → stops_at (drop q page) ≡ false → Way page (q + size_at (drop q page)) at rs → Way page q at (record_at (drop q page) ∷ rs)

pub way-span : {page : List ℕ} {q at : ℕ} {rs : List Stored} → Way page q at rs → at ≡ q + span_of rs
way-span {q = q} here = sym (add-zero q)
way-span {page = page} {q = q} (on e w) = omega (arith, way-span w, size_is (drop q page) e)

pub way-records : {page : List ℕ} {q at : ℕ} {rs : List Stored} → Way page q at rs → records_of (drop q page) ≡ rs ++ records_of (drop at page)
way-records here = refl
way-records {page = page} {q = q} (on e w) =
    let p : List ℕ = drop q page in
    step p e ∙ ap (λ (l : List Stored). record_at p ∷ l) (ap records_of (drop-drop (size_at p) q page) ∙ way-records w)

pub way-inside : {page : List ℕ} {q at : ℕ} {rs : List Stored} → q ≤ length page + 1 → Way page q at rs → at ≤ length page + 1
way-inside h here = h
way-inside {page = page} {q = q} h (on e w) =
    let d = length-drop q page in
    let l = long (drop q page) e in
    let m = size-most (drop q page) e in
    way-inside (omega arith) w

-- the way to the k-th record, or to where it would stand
way-from : (k q : ℕ) (page : List ℕ) → k ≤ length (records_of (drop q page))
    → Way page q (q + span_of (take k (records_of (drop q page)))) (take k (records_of (drop q page)))
way-from zero q page h = rw (add-zero q) here
way-from (suc k) q page h =
    by_cases (stops_at (drop q page)) (λ e. absurd (omega (arith, ap length (stop (drop q page) e))))
    (λ e.
    let p : List ℕ = drop q page in
    let next : records_of p ≡ record_at p ∷ records_of (drop (q + size_at p) page) = step p e ∙ ap (λ (l : List ℕ). record_at p ∷ records_of l) (drop-drop (size_at p) q page) in
    let w = way-from k (q + size_at p) page (omega (arith, ap length next)) in
    let s : q + size_at p + span_of (take k (records_of (drop (q + size_at p) page))) ≡ q + (size (record_at p) + span_of (take k (records_of (drop (q + size_at p) page)))) =
    omega (arith, size_is p e) in
    rw next (rw s at (on e w)))

pub way-to : (k : ℕ) (page : List ℕ) → k ≤ length (records_of page) → Way page 0 (span_of (take k (records_of page))) (take k (records_of page))
way-to k page h = rw (zero-add (span_of (take k (records_of page)))) at (way-from k 0 page h)

-- the records of bytes that stand first, whatever follows them
module _ (d x : List ℕ) (h : 3 ≤ length d) where
  front-byte : (i : ℕ) → i < 3 → get_or (d ++ x) i 0 ≡ get_or d i 0
  front-byte i j = get_or-append d x 0 i (omega arith)

  front-stops : stops_at (d ++ x) ≡ stops_at d
  front-stops = λ i. (eqb (front-byte 0 (omega arith) i) 255 && eqb (front-byte 1 (omega arith) i) 255) || ltb (front-byte 2 (omega arith) i) 5

  front-record : length_at d ≤ length d → record_at (d ++ x) ≡ record_at d
  front-record l =
      let m : ℕ = length_at d - 4 in
      let text : text_at (d ++ x) ≡ text_at d =
      ap (λ (n : ℕ). take (n - 4) (drop 3 (d ++ x))) (front-byte 2 (omega arith))
      ∙ ap (take m) (drop-append-le 3 d x h)
      ∙ take-append-le m (drop 3 d) x (omega (arith, length-drop 3 d)) in
      λ i. record { line = front-byte 0 (omega arith) i * 256 + front-byte 1 (omega arith) i; text = text i }

-- the way up to `at` stays where the bytes before `at` do
pub way-kept : (b x y : List ℕ) {q at : ℕ} {rs : List Stored} → at ≤ length b → Way (b ++ x) q at rs → Way (b ++ y) q at rs
way-kept b x y h here = here
way-kept b x y {q = q} {at = at} h (on {rs = rs} e w) =
    let u : List ℕ = drop q (b ++ x) in
    let v : List ℕ = drop q (b ++ y) in
    let d : List ℕ = drop q b in
    let up = way-span w in
    let some = size-some u e in
    let inside : q ≤ length b = omega arith in
    let ux : u ≡ d ++ x = drop-append-le q b x inside in
    let vy : v ≡ d ++ y = drop-append-le q b y inside in
    let three : 3 ≤ length d = omega (arith, length-drop q b) in
    let short : size_at u ≤ length d = omega (arith, length-drop q b) in
    let byte : length_at u ≡ length_at d = ap length_at ux ∙ front-byte d x three 2 (omega arith) in
    let fits : length_at d ≤ length d =
    by_cases (leb (length_at u) (length u)) (λ f. let g = leb-true (length_at u) (length u) f in omega (arith, size-whole u e (omega arith)))
    (λ f. let g = leb-false (length_at u) (length u) f in omega (arith, size-cut u e g, ap length ux, length-append d x)) in
    let same : record_at v ≡ record_at u = ap record_at vy ∙ front-record d y three fits ∙ sym (front-record d x three fits) ∙ ap record_at (sym ux) in
    let there : stops_at v ≡ false = ap stops_at vy ∙ front-stops d y three ∙ sym (front-stops d x three) ∙ ap stops_at (sym ux) ∙ e in
    let long : size_at u ≡ size_at v = size_is u e ∙ ap size (sym same) ∙ sym (size_is v there) in
    let more : Way (b ++ y) (q + size_at v) at rs = subst (λ (n : ℕ). Way (b ++ y) (q + n) at rs) long (way-kept b x y h w) in
    subst (λ (r : Stored). Way (b ++ y) q at (r ∷ rs)) same (on there more)

-- what stands at its end
pub way-rest : {page : List ℕ} {at : ℕ} (k : ℕ) → k ≤ length (records_of page) → Way page 0 at (take k (records_of page)) → records_of (drop at page) ≡ drop k (records_of page)
way-rest {page = page} {at = at} k h w =
    let rs : List Stored = records_of page in
    sym (ap (drop k) (way-records w) ∙ drop_at (take k rs) (records_of (drop at page)) k (length-take-le k rs h))
