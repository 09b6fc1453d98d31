-- The variables of a form while they are written, and while they are read. Assumes nothing.
use Prim.Native.Nat.{ℕ, zero, suc, ◌+◌, ◌-◌, ◌*◌, ◌≤◌, ◌<◌}
use mathlib.Core.Path.{◌≡◌, refl, sym, ap, ◌∙◌}
use mathlib.Core.List.{List, ◌++◌, append-nil}
use native.Mathlib.Omega.{arith}
use lib.ListN.{length, get_or, drop, set, length-set, drop_of_length-le}
use lib.Seq.{sets, sets-eq, length-sets, drop-cons, drop-drop}
use Rattle.nibl.specs.Page.{line_at}
use Rattle.nibl.specs.Saved.{two_bytes, values_bytes}
use Rattle.nibl.specs.found.Form.{values_in}

-- i of the variables are written: with the others behind them all are
pub record Putting (before vars : List ℕ) (at : ℕ) (output : List ℕ) (i : ℕ) : Type 0 where
  pub within : i ≤ 26
  pub long : length output ≡ length before
  pub done : sets output (at + 2 * i) (values_bytes (drop i vars)) ≡ sets before at (values_bytes vars)

pub putting-none : (before vars : List ℕ) (at : ℕ) → Putting before vars at before 0
putting-none before vars at =
    let e : at + 2 * 0 ≡ at = omega arith in
    record { within = omega arith; long = refl; done = ap (λ (k : ℕ). sets before k (values_bytes vars)) e }

module _ {before vars output : List ℕ} {at i : ℕ} (p : Putting before vars at output i) where
  pub putting-turn : i < length vars → length vars ≡ 26 → Putting before vars at (sets output (at + 2 * i) (two_bytes (get_or vars i 0))) (i + 1)
  putting-turn h n =
      let next : suc (suc (at + 2 * i)) ≡ at + 2 * (i + 1) = omega arith in
      let one : suc i ≡ i + 1 = omega arith in
      let v : ℕ = get_or vars i 0 in
      record {
        within = omega arith;
        long = length-sets output (at + 2 * i) (two_bytes v) ∙ p.long;
        done =
            (λ j. sets (sets output (at + 2 * i) (two_bytes v)) (sym next j) (values_bytes (drop (sym one j) vars)))
            ∙ ap (λ (vs : List ℕ). sets output (at + 2 * i) (values_bytes vs)) (sym (drop-cons vars i 0 h))
            ∙ p.done;
      }

  pub putting-end : length vars ≤ i → output ≡ sets before at (values_bytes vars)
  putting-end h = ap (λ (vs : List ℕ). sets output (at + 2 * i) (values_bytes vs)) (sym (drop_of_length-le vars h)) ∙ p.done

-- i of the values are read: with the others behind them all are
pub record Taking (s vars : List ℕ) (i : ℕ) : Type 0 where
  pub within : i ≤ 26
  pub long : length vars ≡ 26
  pub done : sets vars i (values_in (26 - i) (drop (2 + 2 * i) s)) ≡ values_in 26 (drop 2 s)

values-count : (k : ℕ) (s : List ℕ) → length (values_in k s) ≡ k
values-count zero s = refl
values-count (suc k) s = ap suc (values-count k (drop 2 s))

-- what is written over the whole of a list is all of it
pub sets-all : (l v : List ℕ) → length v ≡ length l → sets l 0 v ≡ v
sets-all l v e = sets-eq v l 0 (omega arith) ∙ ap (λ (r : List ℕ). v ++ r) (drop_of_length-le l {i = 0 + length v} (omega arith)) ∙ append-nil v

pub taking-none : (s vars : List ℕ) → length vars ≡ 26 → Taking s vars 0
taking-none s vars n = record { within = omega arith; long = n; done = sets-all vars (values_in 26 (drop 2 s)) (values-count 26 (drop 2 s) ∙ sym n) }

module _ {s vars : List ℕ} {i : ℕ} (t : Taking s vars i) where
  pub taking-turn : i < 26 → Taking s (set vars i (line_at (drop (2 + 2 * i) s))) (i + 1)
  taking-turn h =
      let more : 26 - i ≡ suc (26 - (i + 1)) = omega arith in
      let next : 2 + 2 * i + 2 ≡ 2 + 2 * (i + 1) = omega arith in
      let one : suc i ≡ i + 1 = omega arith in
      let v : ℕ = line_at (drop (2 + 2 * i) s) in
      record {
        within = omega arith;
        long = length-set vars i v ∙ t.long;
        done =
            (λ j. sets (set vars i v) (sym one j) (values_in (26 - (i + 1)) ((ap (λ (k : ℕ). drop k s) (sym next) ∙ sym (drop-drop 2 (2 + 2 * i) s)) j)))
            ∙ ap (λ (k : ℕ). sets vars i (values_in k (drop (2 + 2 * i) s))) (sym more)
            ∙ t.done;
      }

  pub taking-end : 26 ≤ i → vars ≡ values_in 26 (drop 2 s)
  taking-end h = let none : 26 - i ≡ 0 = omega arith in ap (λ (k : ℕ). sets vars i (values_in k (drop (2 + 2 * i) s))) (sym none) ∙ t.done
