-- The text from a position on, up to the next CR. Assumes nothing.
use Rattle.std.specs.Prelude.{if◌then◌else◌, ◌==◌}
use Rattle.std.specs.List.{position, prefix_len, position_or_len}
use Rattle.std.specs.Option.{unwrap_or}
use Prim.Native.Nat.{ℕ, suc, ◌+◌, ◌-◌, ◌≤◌, min}
use mathlib.Core.Path.{◌≡◌, refl, sym, ap, ◌∙◌}
use mathlib.Core.Bool.{Bool, true, false, cond}
use mathlib.Core.List.{List, [], ◌∷◌}
use native.Mathlib.Omega.{arith}
use lib.ListN.{length, take, drop, drop_of_length-le, length-drop}
use lib.Seq.{take_all}
use lib.Dec.{leb, ltb}
use borrow.Author.Tests.{leb-true, leb-false, ltb-false}
use Rattle.nibl.specs.Bytes.{not_cr, front}
use Rattle.nibl.specs.Runs.{line_from}
use Rattle.page.proofs.Walk.{by_cases}

-- the run of bytes that pass is a part from the front
pub front_length : (p : ℕ → Bool) (s : List ℕ) → length (front p s) ≤ length s
front_length p [] = omega arith
front_length p (b ∷ s) = go (p b) (front_length p s)
  where
    go : (t : Bool) → length (front p s) ≤ length s → length (if t then b ∷ front p s else []) ≤ suc (length s)
    go true h = omega arith
    go false h = omega arith

pub front-part : (p : ℕ → Bool) (s : List ℕ) → take (length (front p s)) s ≡ front p s
front-part p [] = refl
front-part p (b ∷ s) = go (p b) (front-part p s)
  where
    go : (t : Bool) → take (length (front p s)) s ≡ front p s → take (length (if t then b ∷ front p s else [])) (b ∷ s) ≡ (if t then b ∷ front p s else [])
    go true e = ap (λ (l : List ℕ). b ∷ l) e
    go false e = refl

pub line-inside : (s : List ℕ) (at : ℕ) → at ≤ length s → at + length (line_from s at) ≤ length s
line-inside s at h = omega (arith, front_length not_cr (drop at s), length-drop at s)

front_first : (p : ℕ → Bool) (s : List ℕ) → prefix_len p s ≡ length (front p s)
front_first p [] = refl
front_first p (b ∷ s) = go (p b) (front_first p s)
  where
    go : (t : Bool) → prefix_len p s ≡ length (front p s) → cond t (1 + prefix_len p s) 0 ≡ length (if t then b ∷ front p s else [])
    go true e = omega arith
    go false e = refl

-- what stands before the first CR, or all
pub first-part : (s : List ℕ) → take (unwrap_or (position (λ (b : ℕ). b == 13) s) (length s)) s ≡ front not_cr s
first-part s =
    let e = front_first not_cr s in
    let h = front_length not_cr s in
    by_cases (ltb (position_or_len (λ (b : ℕ). b == 13) s) (length s))
    (λ f. rw (f, e, cond, unwrap_or) (front-part not_cr s))
    (λ f. let g = ltb-false _ _ f in rw (f, cond, unwrap_or) (let k : length s ≡ length (front not_cr s) = omega arith in rw k (front-part not_cr s)))

-- what stands from a position on, which may lie past the end
pub rest_is : (s : List ℕ) (at : ℕ) → take (length s - min at (length s)) (drop (min at (length s)) s) ≡ drop at s
rest_is s at =
    let e = take_all (length s - min at (length s)) (drop (min at (length s)) s) (omega (arith, length-drop (min at (length s)) s)) in
    e ∙ by_cases (leb at (length s))
    (λ f. let g = leb-true at (length s) f in ap (λ (n : ℕ). drop n s) (let k : min at (length s) ≡ at = omega arith in k))
    (λ f. let g = leb-false at (length s) f in drop_of_length-le s {i = min at (length s)} (omega arith) ∙ sym (drop_of_length-le s {i = at} (omega arith)))
