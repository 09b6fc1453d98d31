-- Laws of the definition's gathering, for any limit, that callers and the demands cite.
--     typed, typed-lf    a plain line typed within the limit, with or without the LF of the line before, comes back as it is
--     taken              a gathered line is plain and within the limit, and its bytes were there to take
--     no-cr, no-cr-left  nothing is gathered exactly where no byte is a CR
--     all-text           text is plain
-- Assumes nothing.
use mathlib.Core.Path.{◌≡◌, ◌∙◌, refl, ap, sym}
use mathlib.Core.Logic.{⊎_elim}
use mathlib.Core.Bool.{Bool, true, false, not}
use mathlib.Core.List.{List, [], ◌∷◌, ◌++◌, append_assoc, append-nil}
use mathlib.Core.Option.{none, some}
use Prim.Native.Nat.{ℕ, zero, suc, ◌+◌, ◌-◌, ◌<◌, ◌≤◌}
use native.Mathlib.Omega.{arith}
use Rattle.std.proofs.lemmas.Bool.{cases_eq, cases_lt}
use lib.Dec.{eqb}
use lib.ListN.{length, take, length-append, length-take}
use borrow.Author.Tests.{lt-ltb, ltb-true, eqb-false, ne_eqb, not-true}
use Rattle.nibl.specs.Bytes.{class_of, All, none as every-none, each, is_text, not_cr}
use Rattle.nibl.specs.Typing.{Kept, kept, keep, Gathered, gather_from, gather}
use Rattle.letter.proofs.Classes.{is_plain, text-plain, plain-not, cr}
use Rattle.letter.proofs.Keeping.{Keepable, drops, erases, discards, keeps, overflows}
use Rattle.letter.proofs.Gathers.{cr-first, other-first}

-- a byte test that follows from another, on every byte
pub all_of : {p q : ℕ → Bool} {s : List ℕ} → ((b : ℕ) → p b ≡ true → q b ≡ true) → All p s → All q s
all_of f every-none = every-none
all_of f (each e a) = each (f _ e) (all_of f a)

pub all_append : {p : ℕ → Bool} {s t : List ℕ} → All p s → All p t → All p (s ++ t)
all_append every-none b = b
all_append (each e a) b = each e (all_append a b)

pub all-text : {s : List ℕ} → All is_text s → All is_plain s
all-text a = all_of text-plain a

pub all-not-cr : {s : List ℕ} → All is_plain s → All not_cr s
all-not-cr a = all_of (plain-not 13 refl) a

-- a plain byte has none of the four classes that gathering acts on
plain_other : (b k : ℕ) → k ≤ 3 → is_plain b ≡ true → class_of b ≡ k → ⊥
plain_other b k h p e = let l = ltb-true 3 (class_of b) p in omega arith

plain-keepable : (b : ℕ) → is_plain b ≡ true → Keepable b
plain-keepable b p =
    record { drop = plain_other b 0 (omega arith) p; erase = plain_other b 2 (omega arith) p; discard = plain_other b 3 (omega arith) p }

-- what a plain line adds to the kept bytes, up to its CR
from : (lim : ℕ) (k : Kept) (n : ℕ) (line rest : List ℕ) → All is_plain line → length k.bytes + length line ≤ lim →
    gather_from lim k n (line ++ 13 ∷ rest) ≡ some (record { line = kept (k.bytes ++ line) k.long; taken = suc (n + length line) })
from lim k n [] rest a h =
    let z : n + 0 ≡ n = omega arith in
    rw (append-nil k.bytes, z) (cr-first lim k n 13 rest refl)
from lim k n (b ∷ line) rest (each p a) h =
    let s : n + suc (length line) ≡ suc n + length line = omega arith in
    let l : length (k.bytes ++ (b ∷ [])) + length line ≤ lim = omega (arith, length-append k.bytes (b ∷ [])) in
    let room : length k.bytes < lim = omega arith in
    rw (s, ← append_assoc k.bytes (b ∷ []) line)
    (other-first lim k n b (line ++ 13 ∷ rest) (plain_other b 1 (omega arith) p) ∙ rw (keeps lim k b (plain-keepable b p) room) (from lim (kept (k.bytes ++ (b ∷ [])) k.long) (suc n) line rest a l))

module _ (lim : ℕ) (line rest : List ℕ) (a : All is_plain line) (h : length line ≤ lim) where
  pub typed : gather lim (line ++ 13 ∷ rest) ≡ some (record { line = kept line false; taken = length line + 1 })
  unfolding gather
  typed =
      let z : length line + 1 ≡ suc (0 + length line) = omega arith in
      rw z (from lim (kept [] false) 0 line rest a (omega arith))

  pub typed-lf : gather lim (10 ∷ line ++ 13 ∷ rest) ≡ some (record { line = kept line false; taken = length line + 2 })
  unfolding gather
  typed-lf =
      let z : length line + 2 ≡ suc (1 + length line) = omega arith in
      rw z
      (other-first lim (kept [] false) 0 10 (line ++ 13 ∷ rest) (λ e. omega arith) ∙ rw (drops lim (kept [] false) 10 refl) (from lim (kept [] false) 1 line rest a (omega arith)))

-- what is kept is plain and within the limit, whatever byte comes
pub record Fine (lim : ℕ) (k : Kept) : Type 0 where
  pub plain : All is_plain k.bytes
  pub fits : length k.bytes ≤ lim

nothing : (lim : ℕ) → Fine lim (kept [] false)
nothing lim = record { plain = every-none; fits = omega arith }

all_take : {p : ℕ → Bool} {s : List ℕ} (n : ℕ) → All p s → All p (take n s)
all_take zero a = every-none
all_take (suc n) every-none = every-none
all_take (suc n) (each e a) = each e (all_take n a)

module _ (lim : ℕ) (k : Kept) (b : ℕ) (f : Fine lim k) where
  shorter : Fine lim (kept (take (length k.bytes - 1) k.bytes) k.long)
  shorter =
      record { plain = all_take (length k.bytes - 1) f.plain; fits = omega (arith, f.fits, length-take (length k.bytes - 1) k.bytes) }

  longer : (class_of b ≡ 1 → ⊥) → Keepable b → length k.bytes < lim → Fine lim (kept (k.bytes ++ (b ∷ [])) k.long)
  longer o c r =
      let p : 3 < class_of b = omega (arith, o, c.drop, c.erase, c.discard) in
      record { plain = all_append f.plain (each (lt-ltb 3 (class_of b) p) every-none); fits = omega (arith, length-append k.bytes (b ∷ [])) }

  keep-fine : (class_of b ≡ 1 → ⊥) → Fine lim (keep lim k b)
  keep-fine o =
      ⊎_elim (λ e. rw (drops lim k b e) f)
      (λ z. ⊎_elim (λ e. rw (erases lim k b e) shorter)
      (λ y. ⊎_elim (λ e. rw (discards lim k b e) (nothing lim))
      (λ x. let c : Keepable b = record { drop = z; erase = y; discard = x } in
      ⊎_elim (λ r. rw (keeps lim k b c r) (longer o c r)) (λ r. rw (overflows lim k b c r) (record { plain = f.plain; fits = f.fits })) (cases_lt (length k.bytes) lim))
      (cases_eq (class_of b) 3)) (cases_eq (class_of b) 2)) (cases_eq (class_of b) 0)

-- a gathered line is fine, and its bytes were taken from those that were there
pub record Taken (lim n room : ℕ) (g : Gathered) : Type 0 where
  pub fine : Fine lim g.line
  pub some_byte : n < g.taken
  pub there : g.taken ≤ n + room

taken-from : (lim : ℕ) (k : Kept) (n : ℕ) (s : List ℕ) (g : Gathered) → Fine lim k → gather_from lim k n s ≡ some g → Taken lim n (length s) g
unfolding gather_from
taken-from lim k n [] g f e = let z : ◌≡◌ {A = ℕ} 0 1 = cc in absurd (omega arith)
taken-from lim k n (b ∷ s) g f e =
    ⊎_elim
    (λ c. let q : some (record { line = k; taken = suc n }) ≡ some g = sym (cr-first lim k n b s c) ∙ e in
    let p : record { line = k; taken = suc n } ≡ g = cc in
    rw (← p) (record { fine = f; some_byte = omega arith; there = omega arith }))
    (λ c. let t = taken-from lim (keep lim k b) (suc n) s g (keep-fine lim k b f c) (sym (other-first lim k n b s c) ∙ e) in record { fine = t.fine; some_byte = omega arith; there = omega arith })
    (cases_eq (class_of b) 1)

pub taken : (lim : ℕ) (s : List ℕ) (g : Gathered) → gather lim s ≡ some g → Taken lim 0 (length s) g
unfolding gather
taken lim s g e = taken-from lim (kept [] false) 0 s g (nothing lim) e

-- "no CR left": exactly where there is none, whatever the limit
none_from : (lim : ℕ) (k : Kept) (n : ℕ) (s : List ℕ) → All not_cr s → gather_from lim k n s ≡ none
unfolding gather_from
none_from lim k n [] a = refl
none_from lim k n (b ∷ s) (each e a) =
    other-first lim k n b s (eqb-false (class_of b) 1 (cr b ∙ not-true (eqb b 13) e)) ∙ none_from lim (keep lim k b) (suc n) s a

pub no-cr : (lim : ℕ) (s : List ℕ) → All not_cr s → gather lim s ≡ none
unfolding gather
no-cr lim s a = none_from lim (kept [] false) 0 s a

all_from : (lim : ℕ) (k : Kept) (n : ℕ) (s : List ℕ) → gather_from lim k n s ≡ none → All not_cr s
all_from lim k n [] e = every-none
all_from lim k n (b ∷ s) e =
    ⊎_elim (λ c. let q : some (record { line = k; taken = suc n }) ≡ none = sym (cr-first lim k n b s c) ∙ e in
    let z : ◌≡◌ {A = ℕ} 0 1 = cc in
    absurd (omega arith))
    (λ c. each (ap not (sym (cr b) ∙ ne_eqb (class_of b) 1 c)) (all_from lim (keep lim k b) (suc n) s (sym (other-first lim k n b s c) ∙ e)))
    (cases_eq (class_of b) 1)

pub no-cr-left : (lim : ℕ) (s : List ℕ) → gather lim s ≡ none → All not_cr s
unfolding gather
no-cr-left lim s e = all_from lim (kept [] false) 0 s e
