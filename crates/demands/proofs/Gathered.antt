-- A line is gathered as document 01 says, and in no other way. Assumes nothing.
use Prim.Native.Nat.{ℕ, suc, ◌+◌}
use mathlib.Core.Path.{◌≡◌, refl, sym, ap, subst, ◌∙◌}
use mathlib.Core.Bool.{Bool, true, false, ◌||◌, true≢false}
use mathlib.Core.List.{List, [], ◌∷◌}
use mathlib.Core.Logic.{◌↔◌, ◌⊎◌, inl, inr}
use mathlib.Core.Option.{some}
use native.Mathlib.Nat.{zero-add}
use native.Mathlib.Omega.{arith}
use lib.ListN.{length}
use lib.Dec.{ltb, eqb}
use borrow.Author.Tests.{eqb-true, eqb-false, eq-eqb, ne_eqb, ltb-true, ltb-false}
use Rattle.nibl.specs.Bytes.{class_of}
use Rattle.nibl.specs.Typing.{Kept, kept, keep, Gathered, gather_from, gather}
use Rattle.letter.proofs.Classes.{cr, erase, discard, dropped}
use Rattle.letter.proofs.Keeping as keeping
use Rattle.letter.proofs.Gathers.{cr-first, other-first}
use Rattle.page.proofs.Walk.{by_cases}
use Rattle.demands.specs.Gathered.{Keepable, Gathers, at_cr, drops, erases, discards, keeps, overflows}

-- a byte that has not a class, by its test
not-class : (b k : ℕ) (t : Bool) → eqb (class_of b) k ≡ t → t ≡ false → class_of b ≡ k → ⊥
not-class b k t e f c = true≢false (sym (eq-eqb (class_of b) k c) ∙ e ∙ f)

module _ (b : ℕ) (o : Keepable b) where
  no-cr : class_of b ≡ 1 → ⊥
  no-cr = not-class b 1 (eqb b 13) (cr b) (ne_eqb b 13 o.cr)

  kept_byte : keeping.Keepable b
  kept_byte =
      record {
        drop = not-class b 0 (eqb b 0 || eqb b 10) (dropped b) (rw (ne_eqb b 0 o.nul, ne_eqb b 10 o.lf));
        erase = not-class b 2 (eqb b 95) (erase b) (ne_eqb b 95 o.erase);
        discard = not-class b 3 (eqb b 21) (discard b) (ne_eqb b 21 o.discard);
      }

-- From the definition
record Took (lim : ℕ) (k : Kept) (n : ℕ) (s : List ℕ) (g : Gathered) : Type 0 where
  count : ℕ
  gathers : Gathers lim k.bytes k.long s g.line.bytes g.line.long count
  taken : g.taken ≡ n + count

module _ (lim : ℕ) (k : Kept) (n b : ℕ) (s : List ℕ) (g : Gathered) where
  -- one byte more, that left this kept
  more : (k' : Kept) → keep lim k b ≡ k'
      → ((m : ℕ) → Gathers lim k'.bytes k'.long s g.line.bytes g.line.long m → Gathers lim k.bytes k.long (b ∷ s) g.line.bytes g.line.long (suc m))
      → Took lim (keep lim k b) (suc n) s g → Took lim k n (b ∷ s) g
  more k' e f t =
      record {
        count = suc t.count;
        gathers = f t.count (subst (λ (z : Kept). Gathers lim z.bytes z.long s g.line.bytes g.line.long t.count) e t.gathers);
        taken = t.taken ∙ omega arith;
      }

  byte-took : (eqb b 13 ≡ false) → Took lim (keep lim k b) (suc n) s g → Took lim k n (b ∷ s) g
  byte-took c =
      by_cases (eqb b 0) (λ z. let e = eqb-true b 0 z in more k (keeping.drops lim k b (rw e refl)) (λ m. drops (inl e)))
      (λ z. by_cases (eqb b 10) (λ l. let e = eqb-true b 10 l in more k (keeping.drops lim k b (rw e refl)) (λ m. drops (inr e)))
      (λ l. by_cases (eqb b 95) (λ r. let e = eqb-true b 95 r in more _ (keeping.erases lim k b (rw e refl)) (λ m h. rw e (erases h)))
      (λ r. by_cases (eqb b 21) (λ d. let e = eqb-true b 21 d in more (kept [] false) (keeping.discards lim k b (rw e refl)) (λ m h. rw e (discards h)))
      (λ d. kept_of (record { cr = eqb-false b 13 c; nul = eqb-false b 0 z; lf = eqb-false b 10 l; erase = eqb-false b 95 r; discard = eqb-false b 21 d })))))
    where
      kept_of : Keepable b → Took lim (keep lim k b) (suc n) s g → Took lim k n (b ∷ s) g
      kept_of o =
          by_cases (ltb (length k.bytes) lim)
          (λ h. more _ (keeping.keeps lim k b (kept_byte b o) (ltb-true _ _ h)) (λ m. keeps o (ltb-true _ _ h)))
          (λ h. more _ (keeping.overflows lim k b (kept_byte b o) (ltb-false _ _ h)) (λ m. overflows o (ltb-false _ _ h)))

took_of : (lim : ℕ) (k : Kept) (n : ℕ) (s : List ℕ) (g : Gathered) → gather_from lim k n s ≡ some g → Took lim k n s g
unfolding gather_from
took_of lim k n [] g h = let z : ◌≡◌ {A = ℕ} 0 1 = cc in absurd (omega arith)
took_of lim k n (b ∷ s) g h = by (λ i. took_of lim (keep lim k b) (suc n) s g i) (eqb b 13) refl where
  by : (gather_from lim (keep lim k b) (suc n) s ≡ some g → Took lim (keep lim k b) (suc n) s g) → (t : Bool) → eqb b 13 ≡ t → Took lim k n (b ∷ s) g
  by f true t =
      let e = eqb-true b 13 t in
      let i = sym (cr-first lim k n b s (rw e refl)) ∙ h in
      let same : record { line = k; taken = suc n } ≡ g = cc in
      rw (e, ← same) (record { count = 1; gathers = at_cr; taken = omega arith })
  by f false t = byte-took lim k n b s g t (f (sym (other-first lim k n b s (not-class b 1 (eqb b 13) (cr b) t)) ∙ h))

-- And from the rules: one byte, and those behind it
step : (lim : ℕ) (k k' r : Kept) (b n m : ℕ) (s : List ℕ) → (class_of b ≡ 1 → ⊥) → keep lim k b ≡ k' → gather_from lim k' (suc n) s ≡ some (record { line = r; taken = suc n + m })
    → gather_from lim k n (b ∷ s) ≡ some (record { line = r; taken = n + suc m })
step lim k k' r b n m s o e h =
    let i : suc n + m ≡ n + suc m = omega arith in
    other-first lim k n b s o ∙ ap (λ (z : Kept). gather_from lim z (suc n) s) e ∙ h ∙ ap (λ (j : ℕ). some (record { line = r; taken = j })) i

dropped-class : (b : ℕ) → (b ≡ 0) ⊎ (b ≡ 10) → class_of b ≡ 0
dropped-class b (inl e) = rw e refl
dropped-class b (inr e) = rw e refl

took_one : (lim : ℕ) {ks s ks' : List ℕ} {l l' : Bool} {m : ℕ} → Gathers lim ks l s ks' l' m → (n : ℕ)
    → gather_from lim (kept ks l) n s ≡ some (record { line = kept ks' l'; taken = n + m })
took_one lim (at_cr {ks = ks} {s = s} {l = l}) n =
    let e : suc n ≡ n + 1 = omega arith in
    cr-first lim (kept ks l) n 13 s refl ∙ ap (λ (i : ℕ). some (record { line = kept ks l; taken = i })) e
took_one lim (drops {ks = ks} {s = s} {l = l} {b = b} {n = m} i h) n =
    let c = dropped-class b i in step lim (kept ks l) (kept ks l) _ b n m s (λ e. omega arith) (keeping.drops lim (kept ks l) b c) (took_one lim h (suc n))
took_one lim (erases {ks = ks} {s = s} {l = l} {n = m} h) n =
    let c : class_of 95 ≡ 2 = refl in step lim (kept ks l) _ _ 95 n m s (λ e. omega arith) (keeping.erases lim (kept ks l) 95 c) (took_one lim h (suc n))
took_one lim (discards {ks = ks} {s = s} {l = l} {n = m} h) n =
    let c : class_of 21 ≡ 3 = refl in step lim (kept ks l) _ _ 21 n m s (λ e. omega arith) (keeping.discards lim (kept ks l) 21 c) (took_one lim h (suc n))
took_one lim (keeps {ks = ks} {s = s} {l = l} {b = b} {n = m} o r h) n =
    step lim (kept ks l) _ _ b n m s (no-cr b o) (keeping.keeps lim (kept ks l) b (kept_byte b o) r) (took_one lim h (suc n))
took_one lim (overflows {ks = ks} {s = s} {l = l} {b = b} {n = m} o r h) n =
    step lim (kept ks l) _ _ b n m s (no-cr b o) (keeping.overflows lim (kept ks l) b (kept_byte b o) r) (took_one lim h (suc n))

pub gather-exactly : (lim : ℕ) (s : List ℕ) (g : Gathered) → (gather lim s ≡ some g) ↔ Gathers lim [] false s g.line.bytes g.line.long g.taken
unfolding gather
gather-exactly lim s g = (
  λ h. let t = took_of lim (kept [] false) 0 s g h in subst (Gathers lim [] false s g.line.bytes g.line.long) (sym (t.taken ∙ zero-add t.count)) t.gathers,
  λ h. took_one lim h 0 ∙ ap (λ (i : ℕ). some (record { line = g.line; taken = i })) (zero-add g.taken),
)
