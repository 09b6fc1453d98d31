-- Where spellings, as numbers, part from a text. Assumes nothing.
use Rattle.std.specs.Prelude.{if◌then◌else◌}
use Prim.Native.Nat.{ℕ, suc, ◌+◌, ◌*◌, ◌/◌, ◌%◌, ◌≤◌, ◌<◌}
use mathlib.Core.Path.{◌≡◌, refl, ap}
use mathlib.Core.Bool.{Bool, true, false, ◌&&◌}
use mathlib.Core.List.{List, [], ◌∷◌, map}
use native.Mathlib.Omega.{arith}
use borrow.Author.Tests.{eq-eqb, ne_eqb, leb-false}
use lib.Dec.{eqb, leb}
use lib.ListN.{length, drop, get_or, drop_of_length-le}
use Rattle.nibl.specs.Bytes.{is_capital, all}
use Rattle.nibl.specs.found.GaveUp.{common, most_common}
use Rattle.word.specs.Found.{key_of, key_common, most_key, spellings_of, keys_of}
use Rattle.word.proofs.Runs.{and_left, and_right, between, at_byte}
use Rattle.word.proofs.Keys.{short, table-short}

-- Along a text: k is what is left of the spelling at i
module _ (text : List ℕ) (k i : ℕ) where
  pub part_end : length text ≤ i → key_common k (drop i text) ≡ 0
  part_end h = rw (drop_of_length-le text h)

  module _ (h : i < length text) where
    pub part-spelled : k ≡ 0 → key_common k (drop i text) ≡ 0
    part-spelled e = rw (at_byte text i h, eq-eqb k 0 e)

    module _ (n : k ≡ 0 → ⊥) where
      pub part-other : (k % 256 ≡ get_or text i 0 → ⊥) → key_common k (drop i text) ≡ 0
      part-other e = rw (at_byte text i h, ne_eqb k 0 n, ne_eqb (k % 256) (get_or text i 0) e)

      pub part-go : k % 256 ≡ get_or text i 0 → i + 1 + key_common (k / 256) (drop (i + 1) text) ≡ i + key_common k (drop i text)
      part-go e = rw (at_byte text i h, ne_eqb k 0 n, eq-eqb (k % 256) (get_or text i 0) e) (omega arith)

-- one at least
pub most_one : (ks s : List ℕ) → 1 ≤ most_key ks s
most_one [] s = omega arith
most_one (k ∷ ks) s = go (leb (key_common k s) (most_key ks s)) refl (most_one ks s)
  where
    go : (t : Bool) → leb (key_common k s) (most_key ks s) ≡ t → 1 ≤ most_key ks s → 1 ≤ (if t then most_key ks s else key_common k s)
    go true e h = h
    go false e h = omega (arith, leb-false (key_common k s) (most_key ks s) e)

-- A spelling's number has in common with a text what the spelling has
key-common : (w s : List ℕ) → all is_capital w ≡ true → key_common (key_of w) s ≡ common w s
unfolding common
key-common [] [] h = refl
key-common [] (b ∷ s) h = refl
key-common (c ∷ w) [] h = refl
key-common (c ∷ w) (b ∷ s) h =
    let range = between 65 90 c (and_left (is_capital c) (all is_capital w) h) in
    let k = c + 256 * key_of w in
    let low : k % 256 ≡ c = omega arith in
    let high : k / 256 ≡ key_of w = omega arith in
    rw (ne_eqb k 0 (λ e. omega arith), low, high) (ap (λ (n : ℕ). if eqb c b then suc n else 0) (key-common w s (and_right (is_capital c) (all is_capital w) h)))

most-common : (ws : List (List ℕ)) (s : List ℕ) → short ws ≡ true → most_key (map key_of ws) s ≡ most_common ws s
unfolding most_common
most-common [] s h = refl
most-common (w ∷ ws) s h =
    let here = and_left (all is_capital w && leb (length w) 6) (short ws) h in
    let rest = and_right (all is_capital w && leb (length w) 6) (short ws) h in
    rw (key-common w s (and_left (all is_capital w) (leb (length w) 6) here), most-common ws s rest)

pub most-letters : (b : Bool) (s : List ℕ) → most_key (keys_of b) s ≡ most_common (spellings_of b) s
most-letters b s = most-common (spellings_of b) s (table-short b)
