-- A key on its way to the letters that it is. Assumes nothing.
use Prim.Native.Nat.{ℕ, zero, suc, ◌+◌, ◌-◌, ◌/◌, ◌%◌, ◌≤◌, ◌<◌}
use mathlib.Core.Path.{◌≡◌, refl, sym, ap, ◌∙◌}
use mathlib.Core.List.{List, [], ◌∷◌}
use native.Mathlib.Numerals.{add-one}
use native.Mathlib.Omega.{arith}
use borrow.Author.Tests.{eq-eqb, ne_eqb}
use lib.ListN.{length, set, length-set}
use lib.Seq.{sets}
use Rattle.word.specs.Found.{spelled_key}

-- of the letters of k those before n are put, and those of `rest` are still to be put
pub record Spelling (before : List ℕ) (k : ℕ) (room : List ℕ) (rest n : ℕ) : Type 0 where
  pub within : n ≤ length before
  pub long : length room ≡ length before
  pub letters : n + length (spelled_key (length before - n) rest) ≡ length (spelled_key (length before) k)
  pub done : sets room n (spelled_key (length before - n) rest) ≡ sets before 0 (spelled_key (length before) k)

pub spelling-none : (before : List ℕ) (k : ℕ) → Spelling before k before k 0
spelling-none before k =
    let e : length before - 0 ≡ length before = omega arith in
    record { within = omega arith; long = refl; letters = rw e (omega arith); done = rw e refl }

module _ {before room : List ℕ} {k rest n : ℕ} (p : Spelling before k room rest n) where
  -- a letter more
  pub spelling-turn : n < length room → (rest ≡ 0 → ⊥) → {b : ℕ} → b ≡ rest % 256 → Spelling before k (set room n b) (rest / 256) (n + 1)
  spelling-turn h z {b} e =
      let more : length before - n ≡ suc (length before - (n + 1)) = omega (arith, p.long) in
      let next : spelled_key (length before - n) rest ≡ b ∷ spelled_key (length before - (n + 1)) (rest / 256) = rw (more, ne_eqb rest 0 z, e) in
      record {
        within = omega (arith, p.long);
        long = length-set room n b ∙ p.long;
        letters = omega (arith, p.letters, ap length next);
        done =
            (λ i. sets (set room n b) (add-one n i) (spelled_key (length before - (n + 1)) (rest / 256))) ∙ ap (sets room n) (sym next) ∙ p.done;
      }

  none_left : (m : ℕ) → rest ≡ 0 → spelled_key m rest ≡ []
  none_left zero e = refl
  none_left (suc m) e = rw (eq-eqb rest 0 e)

  over : spelled_key (length before - n) rest ≡ [] → (n ≡ length (spelled_key (length before) k)) × (room ≡ sets before 0 (spelled_key (length before) k))
  over e = (omega (arith, p.letters, ap length e), ap (sets room n) (sym e) ∙ p.done)

  pub spelling-spelt : rest ≡ 0 → (n ≡ length (spelled_key (length before) k)) × (room ≡ sets before 0 (spelled_key (length before) k))
  spelling-spelt e = over (none_left (length before - n) e)

  pub spelling-full : length room ≤ n → (n ≡ length (spelled_key (length before) k)) × (room ≡ sets before 0 (spelled_key (length before) k))
  spelling-full h = let e : length before - n ≡ 0 = omega (arith, p.long) in over (rw e)
