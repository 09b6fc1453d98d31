-- The column is exact: the first `column_of s` bytes of s are the front of some line with a reading, and no longer front part is.
-- Assumes nothing.
use Prim.Native.Nat.{ℕ, zero, suc, ◌≤◌, ◌<◌}
use mathlib.Core.Path.{◌≡◌, refl, sym, subst, ◌∙◌}
use mathlib.Core.Bool.{Bool, true, false, false≢true}
use mathlib.Core.List.{List, []}
use mathlib.Core.Logic.{◌↔◌}
use native.Mathlib.Omega.{arith}
use borrow.Author.Tests.{ltb-true, ltb-false, eqb-true, eqb-false}
use lib.Dec.{ltb, eqb}
use lib.ListN.{length, take}
use Rattle.nibl.specs.Bytes.{none}
use Rattle.nibl.specs.Grammar.{a_blank}
use Rattle.nibl.specs.Tree.{blank}
use Rattle.nibl.specs.Fronts.{Front, IsColumn}
use Rattle.nibl.specs.found.Column.{is_front, column_down, column_of}
use Rattle.nibl.proofs.TakenLines.{line_taken}
use Rattle.nibl.proofs.CutLine.{taken-cut}
use Rattle.nibl.proofs.FrontSound.{front-sound}

front-complete : (s : List ℕ) → Front s → is_front s ≡ true
front-complete s f = taken-cut s f.more (line_taken f.reading)

-- The function sees exactly the fronts of the grammar's lines
pub front-exact : (s : List ℕ) → (is_front s ≡ true) ↔ Front s
front-exact s = (front-sound s, front-complete s)

no_front : Front []
no_front = record { more = []; line = blank; reading = a_blank none }

column-down : (n : ℕ) (s : List ℕ) → n ≤ length s → ((m : ℕ) → n < m → m ≤ length s → Front (take m s) → ⊥) → IsColumn s (column_down n s)
unfolding column_down
column-down zero s h longer = record { within = h; front = no_front; longest = longer }
column-down (suc n) s h longer = go (is_front (take (suc n) s)) refl (column-down n s (omega arith))
  where
    past : is_front (take (suc n) s) ≡ false → (m : ℕ) → n < m → m ≤ length s → Front (take m s) → ⊥
    past e m l k f = by (eqb m (suc n)) refl
      where
        by : (t : Bool) → eqb m (suc n) ≡ t → ⊥
        by true q = false≢true (sym e ∙ subst (λ (i : ℕ). is_front (take i s) ≡ true) (eqb-true m (suc n) q) (front-complete (take m s) f))
        by false q = longer m (omega (arith, eqb-false m (suc n) q)) k f

    go : (t : Bool) → is_front (take (suc n) s) ≡ t
        → (((m : ℕ) → n < m → m ≤ length s → Front (take m s) → ⊥) → IsColumn s (column_down n s))
        → IsColumn s (elim t [ true ↦ suc n | false ↦ column_down n s ])
    go true e below = record { within = h; front = front-sound (take (suc n) s) e; longest = longer }
    go false e below = below (past e)

pub column-exact : (s : List ℕ) → IsColumn s (column_of s)
unfolding column_of
column-exact s = column-down (length s) s (omega arith) (λ m l k f. absurd (omega arith))

-- A line has one column
pub column-unique : {s : List ℕ} {n m : ℕ} → IsColumn s n → IsColumn s m → n ≡ m
column-unique {s} {n} {m} p q = go (ltb n m) (ltb m n) refl refl
  where
    go : (t b : Bool) → ltb n m ≡ t → ltb m n ≡ b → n ≡ m
    go true b e f = absurd (p.longest m (ltb-true n m e) q.within q.front)
    go false true e f = absurd (q.longest n (ltb-true m n f) p.within p.front)
    go false false e f = omega (arith, ltb-false n m e, ltb-false m n f)
