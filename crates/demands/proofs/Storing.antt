-- A typed line that is read as one to store gives a record that a page may hold. Assumes nothing.
use Prim.Native.Nat.{ℕ, zero, suc, ◌+◌, ◌-◌, ◌*◌, ◌/◌, ◌%◌, ◌≤◌}
use mathlib.Core.Path.{◌≡◌, ap}
use mathlib.Core.Bool.{Bool, true, false, false≢true}
use mathlib.Core.List.{List, [], ◌∷◌}
use native.Mathlib.Omega.{arith}
use lib.ListN.{length, length-append}
use lib.Dec.{ltb, leb}
use borrow.Author.Tests.{le-leb, leb-true}
use Rattle.nibl.specs.Bytes.{is_digit, All, none, each, decimal_value}
use Rattle.nibl.specs.Words.{decimal, ByteRun, Word, spaced, decimal_digits}
use Rattle.nibl.specs.Grammar.{a_store}
use Rattle.nibl.specs.Tree.{Member, store}
use Rattle.nibl.specs.Readings.{LineReading}
use Rattle.nibl.specs.Values.{digits_n, digits}
use Rattle.nibl.specs.Page.{is_storable}
use Rattle.nibl.proofs.Ends.{members-first}
use Rattle.nibl.proofs.Whole.{reading-complete}
use Rattle.page.specs.Standing.{Storable}
use Rattle.page.proofs.Program.{both}
use Rattle.page.proofs.Changes.{storable}
use Rattle.value.proofs.Digits.{digits-before, one-digit}

-- No number has more digits than those it was typed with
one-bound-more : (k n : ℕ) (ds : List ℕ) → length (digits_n k n ds) ≤ length (digits_n (suc k) n ds)
one-bound-more zero n ds = by (ltb n 10) where
  by : (b : Bool) → length ds ≤ length {A = ℕ} (elim b [ true ↦ (48 + n) ∷ ds | false ↦ (48 + n % 10) ∷ ds ])
  by true = omega arith
  by false = omega arith
one-bound-more (suc k) n ds = by (λ m es. one-bound-more k m es) (ltb n 10) where
  by : ((m : ℕ) (es : List ℕ) → length (digits_n k m es) ≤ length (digits_n (suc k) m es)) → (b : Bool)
      → length {A = ℕ} (elim b [ true ↦ (48 + n) ∷ ds | false ↦ digits_n k (n / 10) ((48 + n % 10) ∷ ds) ])
      ≤ length {A = ℕ} (elim b [ true ↦ (48 + n) ∷ ds | false ↦ digits_n (suc k) (n / 10) ((48 + n % 10) ∷ ds) ])
  by f true = omega arith
  by f false = f (n / 10) ((48 + n % 10) ∷ ds)

one_digit_more : (k n c : ℕ) → c ≤ 9 → length (digits_n k (n * 10 + c) []) ≤ suc (length (digits_n k n []))
one_digit_more zero n c h = omega arith
one_digit_more (suc k) n c h = by (ltb (n * 10 + c) 10) where
  x : ℕ
  x = 48 + (n * 10 + c) % 10

  q : (n * 10 + c) / 10 ≡ n
  q = omega arith

  by : (b : Bool) → length {A = ℕ} (elim b [ true ↦ (48 + (n * 10 + c)) ∷ [] | false ↦ digits_n k ((n * 10 + c) / 10) (x ∷ []) ]) ≤ suc (length (digits_n (suc k) n []))
  by true = omega arith
  by false =
      omega (arith, ap (λ (m : ℕ). length (digits_n k m (x ∷ []))) q, ap length (digits-before k n [] (x ∷ [])), length-append (digits_n k n []) (x ∷ []), one-bound-more k n [])

shorter : {ds : List ℕ} → All is_digit ds → (n : ℕ) → length (digits (decimal_value n ds)) ≤ length (digits n) + length ds
unfolding digits
shorter none n = omega arith
shorter (each {b = d} {s = ds} e a) n =
    let h = both (leb 48 d) (leb d 57) e in
    let l = leb-true d 57 h.1 in
    omega (arith, shorter a (n * 10 + (d - 48)), one_digit_more 5 n (d - 48) (omega arith))

pub digits-shortest : {ds s : List ℕ} → ByteRun is_digit ds s → length (digits (decimal_value 0 ds)) ≤ length ds
digits-shortest {ds = []} r = absurd (false≢true r.some)
digits-shortest {ds = d ∷ ds} r = by r.each where
  by : All is_digit (d ∷ ds) → length (digits (decimal_value 0 (d ∷ ds))) ≤ suc (length ds)
  by (each e a) =
      let h = both (leb 48 d) (leb d 57) e in
      let l = leb-true d 57 h.1 in
      omega (arith, shorter a (0 * 10 + (d - 48)), one-digit (0 * 10 + (d - 48)) (omega arith))

-- a number's word has room for its digits
pub record NumberWord (n : ℕ) (s t : List ℕ) : Type 0 where
  pub low : n ≤ 32767
  pub room : length t + length (digits n) ≤ length s

pub number_word : {table : List (List ℕ)} {n : ℕ} {s t : List ℕ} → Word table s (decimal n) t → NumberWord n s t
number_word (spaced w) = let h = number_word w in record { low = h.low; room = omega arith }
number_word (decimal_digits {ds = ds} {s = s} r l) = record { low = l; room = omega (arith, digits-shortest r, length-append ds s) }

-- within a limit that a record's length byte has room for
pub stored-storable : {s t : List ℕ} {n : ℕ} {ms : List Member} (lim : ℕ) → lim ≤ 251 → LineReading s (store n t ms) → length s ≤ lim → Storable lim (record { line = n; text = t })
unfolding is_storable
stored-storable {t = t} {n = n} lim r (a_store w ms) h =
    let k = number_word w in
    let l : length t + length (digits n) ≤ lim = omega arith in
    storable lim n t r k.low (rw (reading-complete ms, members-first ms, le-leb (length t + length (digits n)) lim l))
