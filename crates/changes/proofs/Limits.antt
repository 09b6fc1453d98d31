-- A line gathered within two limits is the same line, or over-long for the smaller one. Assumes nothing.
use Rattle.std.specs.Prelude.{if◌then◌else◌}
use Prim.Native.Nat.{ℕ, suc, ◌-◌, ◌≤◌}
use mathlib.Core.Path.{◌≡◌, refl, sym, ap, subst}
use mathlib.Core.Bool.{Bool, true, false}
use mathlib.Core.List.{List, [], ◌∷◌, ◌++◌}
use mathlib.Core.Option.{Option, some}
use mathlib.Core.Logic.{◌⊎◌, inl, inr}
use native.Mathlib.Omega.{arith}
use lib.ListN.{length, take}
use lib.Dec.{ltb, eqb}
use borrow.Author.Tests.{ltb-true, lt-ltb}
use Rattle.nibl.specs.Bytes.{class_dropped, class_cr, class_erase, class_discard, class_of}
use Rattle.nibl.specs.Typing.{Kept, kept, keep, Gathered, gather_from, gather}
use Rattle.changes.specs.Alike.{LongLine}

-- by what a byte is: a dropped, b erasing, c discarding, d whether there is room for it
abbrev kept_by : (a b c d : Bool) → Kept → ℕ → Kept
kept_by a b c d k x =
    if a then k
    else if b then kept (take (length k.bytes - 1) k.bytes) k.long
    else if c then kept [] false
    else if d then kept (k.bytes ++ (x ∷ [])) k.long
    else kept k.bytes true

-- the same bytes kept, or one more than the smaller limit
data Tracks (k k' : Kept) : Type 0 where
  same : k ≡ k' → Tracks k k'
  long : k.long ≡ true → Tracks k k'

same_kept : (a b c d d' : Bool) (k : Kept) (x : ℕ) → (d ≡ true → d' ≡ true) → Tracks (kept_by a b c d k x) (kept_by a b c d' k x)
same_kept true b c d d' k x f = same refl
same_kept false true c d d' k x f = same refl
same_kept false false true d d' k x f = same refl
same_kept false false false false d' k x f = long refl
same_kept false false false true d' k x f = same (sym (rw (f refl)))

long_kept : (a b c d d' : Bool) (k k' : Kept) (x : ℕ) → k.long ≡ true → Tracks (kept_by a b c d k x) (kept_by a b c d' k' x)
long_kept true b c d d' k k' x e = long e
long_kept false true c d d' k k' x e = long e
long_kept false false true d d' k k' x e = same refl
long_kept false false false true d' k k' x e = long e
long_kept false false false false d' k k' x e = long refl

module _ (small large : ℕ) (h : small ≤ large) where
  keep-tracks : (k k' : Kept) (x : ℕ) → Tracks k k' → Tracks (keep small k x) (keep large k' x)
  unfolding keep
  keep-tracks k k' x (same e) =
      subst (λ (z : Kept). Tracks (keep small k x) (keep large z x)) e
      (same_kept (eqb (class_of x) class_dropped) (eqb (class_of x) class_erase) (eqb (class_of x) class_discard) (ltb (length k.bytes) small) (ltb (length k.bytes) large) k x
      (λ l. lt-ltb (length k.bytes) large (omega (arith, ltb-true (length k.bytes) small l))))
  keep-tracks k k' x (long e) =
      long_kept (eqb (class_of x) class_dropped) (eqb (class_of x) class_erase) (eqb (class_of x) class_discard) (ltb (length k.bytes) small) (ltb (length k'.bytes) large) k k' x e

  data Gathers (o o' : Option Gathered) : Type 0 where
    alike : o ≡ o' → Gathers o o'
    over : (g : Gathered) → o ≡ some g → g.line.long ≡ true → Gathers o o'

  from-tracks : (s : List ℕ) (k k' : Kept) (n : ℕ) → Tracks k k' → Gathers (gather_from small k n s) (gather_from large k' n s)
  unfolding gather_from
  from-tracks [] k k' n t = alike refl
  from-tracks (x ∷ s) k k' n t = by (eqb (class_of x) class_cr) t (from-tracks s (keep small k x) (keep large k' x) (suc n) (keep-tracks k k' x t)) where
    by : (b : Bool) → Tracks k k' → Gathers (gather_from small (keep small k x) (suc n) s) (gather_from large (keep large k' x) (suc n) s)
        → Gathers (elim b [ true ↦ some (record { line = k; taken = suc n }) | false ↦ gather_from small (keep small k x) (suc n) s ])
        (elim b [ true ↦ some (record { line = k'; taken = suc n }) | false ↦ gather_from large (keep large k' x) (suc n) s ])
    by true (same e) r = alike (ap (λ (z : Kept). some (record { line = z; taken = suc n })) e)
    by true (long e) r = over (record { line = k; taken = suc n }) refl e
    by false t r = r

  pub two-limits : (s : List ℕ) → (gather small s ≡ gather large s) ⊎ LongLine small s
  unfolding gather
  two-limits s = by (from-tracks s (kept [] false) (kept [] false) 0 (same refl)) where
    by : Gathers (gather_from small (kept [] false) 0 s) (gather_from large (kept [] false) 0 s) → (gather small s ≡ gather large s) ⊎ LongLine small s
    by (alike e) = inl e
    by (over g e l) = inr (record { gathered = g; is = e; long = l })
