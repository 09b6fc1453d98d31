-- A page that is good by a reading of its texts is good by every one that keeps it, and a record that fits it fits it; where no text
-- is read in two ways, its lines are the same. Assumes nothing.
use Prim.Native.Nat.{ℕ}
use mathlib.Core.Path.{◌≡◌, refl, sym, ap, ◌∙◌}
use mathlib.Core.List.{List, ◌∷◌}
use mathlib.Core.Logic.{◌⊎◌, inl, inr}
use native.Mathlib.Omega.{arith}
use lib.ListN.{length, get_or, take, drop}
use lib.Seq.{take_at}
use Rattle.nibl.specs.Tree.{Member}
use Rattle.nibl.specs.Record.{mark}
use Rattle.nibl.specs.declared.Session.{Session}
use Rattle.demands.specs.Good.{RecordAt, EndMark, GoodTextBy, GoodFromBy, ends, goes_on, IsPlaceBy, ends_member, PauseFitsBy, nothing_paused, at_start, after_place, FitsBy}
use Rattle.changes.specs.Kept.{KeepsLists, lines_in}

module _ {R R' : List ℕ → List Member → Type 0} (kept : KeepsLists R R') where
  keep-text : {lim n : ℕ} {t : List ℕ} → GoodTextBy R lim n t → GoodTextBy R' lim n t
  keep-text {t = t} g =
      record {
        members = g.members;
        reads = kept t g.members g.reads;
        text = g.text;
        undigit = g.undigit;
        short = g.short;
      }

  pub keep-good : {page : List ℕ} {lim low at : ℕ} → GoodFromBy R lim page low at → GoodFromBy R' lim page low at
  keep-good (ends m) = ends m
  keep-good (goes_on l r g more) = goes_on l r (keep-text g) (keep-good more)

  pub keep-place : {page : List ℕ} {p : ℕ} → IsPlaceBy R page p → IsPlaceBy R' page p
  keep-place (ends_member b r l i) = ends_member b r (kept _ _ l) i

  keep-pause : {page : List ℕ} {q : ℕ} → PauseFitsBy R page q → PauseFitsBy R' page q
  keep-pause nothing_paused = nothing_paused
  keep-pause at_start = at_start
  keep-pause (after_place i) = after_place (keep-place i)

  keep-saved : {page : List ℕ} {p : ℕ} → IsPlaceBy R page p ⊎ (p ≡ mark) → IsPlaceBy R' page p ⊎ (p ≡ mark)
  keep-saved (inl i) = inl (keep-place i)
  keep-saved (inr e) = inr e

  pub keep-fits : {page : List ℕ} {s : Session} → FitsBy R page s → FitsBy R' page s
  keep-fits f =
      record {
        gosubs_deep = f.gosubs_deep;
        dos_deep = f.dos_deep;
        fors_deep = f.fors_deep;
        gosubs = λ p i. keep-saved (f.gosubs p i);
        dos = λ p i. keep-place (f.dos p i);
        fors = λ e i. let h = f.fors e i in (h.0, keep-place h.1);
        flags = f.flags;
        paused = keep-pause f.paused;
      }

-- the bytes at a position are one record's at most, and no end mark's then
module _ {page : List ℕ} {at at' : ℕ} (same : at ≡ at') where
  pub one-record : {n m : ℕ} {t u : List ℕ} → RecordAt page at n t → RecordAt page at' m u → (n ≡ m) × (t ≡ u)
  one-record {t = t} {u = u} r q =
      let e = sym r.bytes ∙ ap (λ (a : ℕ). drop a page) same ∙ q.bytes in
      let long : length t ≡ length u = omega (arith, ap (λ (l : List ℕ). get_or l 2 0) e) in
      let high : r.high ≡ q.high = ap (λ (l : List ℕ). get_or l 0 0) e in
      let low : r.low ≡ q.low = ap (λ (l : List ℕ). get_or l 1 0) e in (
        omega (arith, high, low, r.number, q.number),
        sym (take_at t (13 ∷ r.after) (length t) refl) ∙ ap (λ (l : List ℕ). take (length t) (drop 3 l)) e ∙ take_at u (13 ∷ q.after) (length t) (sym long),
      )

  pub no_end : {n : ℕ} {t : List ℕ} → RecordAt page at n t → EndMark page at' → ⊥
  no_end r m = omega (arith, ap (λ (l : List ℕ). get_or l 0 0) (sym r.bytes ∙ ap (λ (a : ℕ). drop a page) same ∙ m.bytes), r.number, r.small)

module _ {R R' : List ℕ → List Member → Type 0} (one : (t : List ℕ) (ms ns : List Member) → R t ms → R' t ns → ms ≡ ns) {page : List ℕ} where
  pub same_lines : {lim lim' low low' at at' : ℕ} → at ≡ at' → (g : GoodFromBy R lim page low at) (h : GoodFromBy R' lim' page low' at') → lines_in g ≡ lines_in h
  same_lines s (ends m) (ends k) = refl
  same_lines s (ends m) (goes_on l r h more) = absurd (no_end (sym s) r m)
  same_lines s (goes_on l r g more) (ends m) = absurd (no_end s r m)
  same_lines s (goes_on {t} l r g more) (goes_on {t = t'} l' r' h more') =
      let e = one-record s r r' in
      let n = e.0 in
      let u = e.1 in
      let m = one t' g.members h.members (rw u at g.reads) h.reads in
      let rest = same_lines (omega (arith, s, ap length u)) more more' in cc
