-- The records of a page, one step at a time: what the walk by the length bytes meets, with no bound on the steps to carry.
-- Assumes nothing.
use Prim.Native.Nat.{ℕ, zero, suc, ◌+◌, ◌-◌, ◌≤◌, ◌<◌, min}
use mathlib.Core.Path.{◌≡◌, refl, sym, ap, ◌∙◌}
use mathlib.Core.Bool.{Bool, true, false, not, ◌&&◌, ◌||◌, and-false, true≢false}
use mathlib.Core.List.{List, [], ◌∷◌}
use native.Mathlib.Nat.{add-zero}
use native.Mathlib.Omega.{arith}
use lib.ListN.{length, get_or, drop, length-drop, get_or-eq_default, drop_of_length-le}
use lib.Seq.{length-take-le, take_all, drop-drop, get_or-drop}
use lib.Dec.{ltb, leb, eqb}
use borrow.Author.Tests.{ltb-true, ltb-false, leb-true, leb-false, le-leb, lt-leb}
use Rattle.nibl.specs.Page.{Stored, is_end, length_at, records_n, records_of, size}
use Rattle.std.specs.Prelude.{Option, Some, None}
use Rattle.std.specs.Option.{unwrap_or}
use Rattle.page.specs.Walk.{Sizes, Steps, stops_at, record_at, size_at, cut}

-- a test holds or fails: what follows in both cases is so
pub by_cases : {P : Type 0} (t : Bool) → (t ≡ true → P) → (t ≡ false → P) → P
by_cases true f g = f refl
by_cases false f g = g refl

pub or-false : (a b : Bool) → (a || b) ≡ false → (a ≡ false) × (b ≡ false)
or-false false b e = (refl, e)
or-false true b e = absurd (true≢false e)

pub not-true : (a : Bool) → not a ≡ true → a ≡ false
not-true false e = refl
not-true true e = absurd (true≢false (sym e))

pub not-false : (a : Bool) → not a ≡ false → a ≡ true
not-false true e = refl
not-false false e = absurd (true≢false e)

pub or_right : (a b : Bool) → b ≡ true → (a || b) ≡ true
or_right true b e = refl
or_right false b e = e

-- the bytes at a position of the page
module _ (p : List ℕ) (at : ℕ) where
  pub first-at : get_or (drop at p) 0 0 ≡ get_or p at 0
  first-at = get_or-drop at p 0 0 ∙ ap (λ (i : ℕ). get_or p i 0) (add-zero at)

  pub end-at : is_end (drop at p) ≡ (eqb (get_or p at 0) 255 && eqb (get_or p (at + 1) 0) 255)
  end-at = λ i. eqb (first-at i) 255 && eqb (get_or-drop at p 1 0 i) 255

  pub end-past : length p ≤ at + 1 → is_end (drop at p) ≡ false
  end-past h = end-at ∙ ap (λ (b : ℕ). eqb (get_or p at 0) 255 && eqb b 255) (get_or-eq_default p 0 {n = at + 1} h) ∙ and-false (eqb (get_or p at 0) 255)

-- where the number, the length byte and more are missing no record begins
pub stops-short : (q : List ℕ) → length q ≤ 2 → stops_at q ≡ true
stops-short q h = or_right (is_end q) (ltb (length_at q) 5) (rw (get_or-eq_default q 0 {n = 2} h))

-- where the end mark is not, the length byte decides
pub stops_at_lem : (q : List ℕ) → is_end q ≡ false → not (stops_at q) ≡ leb 5 (length_at q)
stops_at_lem q e = rw e (by_cases (ltb (length_at q) 5) (λ f. let g = ltb-true (length_at q) 5 f in rw (f, lt-leb 5 (length_at q) g)) (λ f. let g = ltb-false (length_at q) 5 f in rw (f, le-leb 5 (length_at q) g)))

module _ (q : List ℕ) (e : stops_at q ≡ false) where
  pub length-byte : 5 ≤ length_at q
  length-byte = ltb-false (length_at q) 5 (or-false (is_end q) (ltb (length_at q) 5) e).1

  pub long : 3 ≤ length q
  long = by_cases (ltb 2 (length q)) (λ f. ltb-true 2 (length q) f) (λ f. absurd (true≢false (sym (stops-short q (ltb-false 2 (length q) f)) ∙ e)))

  pub size_is : size_at q ≡ size (record_at q)
  unfolding size_at
  size_is = rw e

  -- the length byte is the size, but of a record that the page's end cuts off
  pub size-whole : length_at q ≤ length q + 1 → size_at q ≡ length_at q
  size-whole h =
      let l = length-byte in
      let m = long in
      let f : length_at q - 4 ≤ length (drop 3 q) = omega (arith, length-drop 3 q) in
      size_is ∙ omega (arith, length-take-le (length_at q - 4) (drop 3 q) f)

  pub size-cut : length q < length_at q → size_at q ≡ length q + 1
  size-cut h =
      let m = long in
      let f : length (drop 3 q) ≤ length_at q - 4 = omega (arith, length-drop 3 q) in
      size_is ∙ omega (arith, ap length (take_all (length_at q - 4) (drop 3 q) f), length-drop 3 q)

  pub size_least : size_at q ≡ min (length_at q) (length q + 1)
  size_least =
      by_cases (leb (length_at q) (length q)) (λ f. let g = leb-true (length_at q) (length q) f in omega (arith, size-whole (omega arith)))
      (λ f. let g = leb-false (length_at q) (length q) f in omega (arith, size-cut g))

  pub size-most : size_at q ≤ length q + 1
  size-most = omega (arith, size_least)

  pub drop-size : drop (length_at q) q ≡ drop (size_at q) q
  drop-size =
      by_cases (leb (length_at q) (length q)) (λ f. let g = leb-true (length_at q) (length q) f in ap (λ (n : ℕ). drop n q) (sym (size-whole (omega arith))))
      (λ f. let g = leb-false (length_at q) (length q) f in
      drop_of_length-le q {i = length_at q} (omega arith) ∙ sym (drop_of_length-le q {i = size_at q} (omega (arith, size-cut g))))

pub size_none : (q : List ℕ) → stops_at q ≡ true → size_at q ≡ 0
unfolding size_at
size_none q e = rw e

pub size-some : (q : List ℕ) → stops_at q ≡ false → 4 ≤ size_at q
size-some q e = omega (arith, size_is q e)

pub none-size : (q : List ℕ) → size_at q ≡ 0 → stops_at q ≡ true
none-size q h = by_cases (stops_at q) (λ e. e) (λ e. let m = size-some q e in absurd (omega arith))

pub some_size : (q : List ℕ) → 0 < size_at q → stops_at q ≡ false
some_size q h = by_cases (stops_at q) (λ e. let m = size_none q e in absurd (omega arith)) (λ e. e)

pub records-some : (k : ℕ) (q : List ℕ) → stops_at q ≡ false → records_n (suc k) q ≡ record_at q ∷ records_n k (drop (length_at q) q)
unfolding records_n
records-some k q e = rw (e, records_n)

pub records-none : (k : ℕ) (q : List ℕ) → stops_at q ≡ true → records_n k q ≡ []
unfolding records_n
records-none zero q e = refl
records-none (suc k) q e = rw (e, records_n)

-- any bound above the length will do
records-enough : (k m : ℕ) (q : List ℕ) → length q < k → length q < m → records_n k q ≡ records_n m q
records-enough zero m q h j = absurd (omega arith)
records-enough (suc k) zero q h j = absurd (omega arith)
records-enough (suc k) (suc m) q h j =
    by_cases (stops_at q) (λ e. records-none (suc k) q e ∙ sym (records-none (suc m) q e))
    (λ e.
    let l = length-byte q e in
    let n = long q e in
    let d = length-drop (length_at q) q in
    records-some k q e
    ∙ ap (λ (rs : List Stored). record_at q ∷ rs) (records-enough k m (drop (length_at q) q) (omega arith) (omega arith))
    ∙ sym (records-some m q e))

-- the walk: it stops, or meets a record and goes on after it
pub stop : (q : List ℕ) → stops_at q ≡ true → records_of q ≡ []
unfolding records_of
stop q e = records-none (suc (length q)) q e

pub step : (q : List ℕ) → stops_at q ≡ false → records_of q ≡ record_at q ∷ records_of (drop (size_at q) q)
unfolding records_of
step q e =
    let l = length-byte q e in
    let n = long q e in
    let d = length-drop (length_at q) q in
    records-some (length q) q e
    ∙ ap (λ (rs : List Stored). record_at q ∷ rs)
    (records-enough (length q) (suc (length (drop (length_at q) q))) (drop (length_at q) q) (omega arith) (omega arith)
    ∙ ap (λ (p : List ℕ). records_n (suc (length p)) p) (drop-size q e))

-- what a turn of the walk knows: a record of n bytes stands at `at`
pub record Met (p : List ℕ) (at n : ℕ) : Type 0 where
  pub inside : at + 3 ≤ length p
  pub next : at + n ≤ length p + 1
  pub long : size (record_at (drop at p)) ≡ n
  pub records : records_of (drop at p) ≡ record_at (drop at p) ∷ records_of (drop (at + n) p)

pub met : (p : List ℕ) (at n : ℕ) → n ≡ size_at (drop at p) → 0 < n → Met p at n
met p at n e h =
    let q : List ℕ = drop at p in
    let f = some_size q (omega arith) in
    let l = length-drop at p in
    let m = long q f in
    let o = size-most q f in
    record {
      inside = omega arith;
      next = omega arith;
      long = sym (size_is q f) ∙ sym e;
      records = step q f ∙ ap (λ (r : List ℕ). record_at q ∷ records_of r) (ap (λ (k : ℕ). drop k q) (sym e) ∙ drop-drop n at p);
    }

pub past : (p : List ℕ) (at n : ℕ) → n ≡ size_at (drop at p) → n ≤ 0 → records_of (drop at p) ≡ []
past p at n e h = stop (drop at p) (none-size (drop at p) (omega arith))

-- what a turn of the walk by the length bytes knows: a record stands at `at`, and n is its length byte
pub record Stood (p : List ℕ) (at n : ℕ) : Type 0 where
  pub inside : at + 3 ≤ length p
  pub some : 5 ≤ n
  pub here : cut p at ≡ at
  pub next : cut p (at + n) ≡ at + size (record_at (drop at p))
  pub records : records_of (drop at p) ≡ record_at (drop at p) ∷ records_of (drop (at + n) p)

module _ (p : List ℕ) where
  pub cut_in : (x : ℕ) → x ≤ length p + 1 → cut p x ≡ x
  cut_in x h = by_cases (leb x (length p)) (λ e. rw e) (λ e. let f = leb-false x (length p) e in rw e (omega arith))

  pub cut_most : (x : ℕ) → cut p x ≤ length p + 1
  cut_most x = by_cases (leb x (length p)) (λ e. let f = leb-true x (length p) e in rw e (omega arith)) (λ e. rw e (omega arith))

  pub drop-cut : (x : ℕ) → drop (cut p x) p ≡ drop x p
  drop-cut x =
      by_cases (leb x (length p)) (λ e. rw e)
      (λ e.
      let f = leb-false x (length p) e in
      rw e (drop_of_length-le p {i = length p + 1} (omega arith) ∙ sym (drop_of_length-le p {i = x} (omega arith))))

  cut_out : (x : ℕ) → length p < x → cut p x ≡ length p + 1
  cut_out x h = rw (lt-leb x (length p) h)

  pub stood : (at n : ℕ) → n ≡ length_at (drop at p) → not (stops_at (drop at p)) ≡ true → Stood p at n
  stood at n e h =
      let q : List ℕ = drop at p in
      let f = not-true (stops_at q) h in
      let d = length-drop at p in
      let m = long q f in
      let s = size_is q f in
      let b = length-byte q f in
      record {
        inside = omega arith;
        some = omega arith;
        here = cut_in at (omega arith);
        next =
            by_cases (leb (at + n) (length p)) (λ g.
            let i = leb-true (at + n) (length p) g in
            cut_in (at + n) (omega arith) ∙ omega (arith, size-whole q f (omega arith)))
            (λ g. let i = leb-false (at + n) (length p) g in cut_out (at + n) (omega arith) ∙ omega (arith, size-cut q f (omega arith)));
        records = step q f ∙ ap (λ (r : List ℕ). record_at q ∷ records_of r) (sym (drop-size q f) ∙ ap (λ (k : ℕ). drop k q) (sym e) ∙ drop-drop n at p);
      }

  -- where the walk ends there are no more records
  pub stops : (at : ℕ) → not (stops_at (drop at p)) ≡ false → records_of (drop at p) ≡ []
  stops at h = stop (drop at p) (not-false (stops_at (drop at p)) h)

-- what a step of the walk says
pub stepped : {page p later : List ℕ} {at next i n : ℕ} → p ≡ page → Steps p at (Some (i, n)) later next → Met page at n
stepped {page = page} {at = at} {n = n} e s = met page at n (s.1.1.0.0 ∙ ap (λ (q : List ℕ). size_at (drop at q)) e) s.1.1.0.1

pub stayed : {page p later : List ℕ} {at next : ℕ} → p ≡ page → Steps p at None later next → records_of (drop at page) ≡ []
stayed {page = page} {at = at} e s = past page at 0 (sym s.1.0 ∙ ap (λ (q : List ℕ). size_at (drop at q)) e) (omega arith)

-- the number that an answer for the size says, where nothing says 0
pub size-said : (q : List ℕ) (r : Option ℕ) → Sizes q r → unwrap_or r 0 ≡ size_at q
size-said q None h = sym h
size-said q (Some n) h = h.0
