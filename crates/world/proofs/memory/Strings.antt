-- A string in memory: how it is found a byte at a time, and what its end says of its bytes. Assumes nothing.
use Rattle.std.specs.Prelude.{if◌then◌else◌}
use Rattle.std.specs.Prelude.{Result as Res, Ok, Err}
use Rattle.nibl.specs.declared.stop.Stop.{Stop}
use Prim.Native.Nat.{ℕ, suc, ◌+◌, ◌-◌, ◌≤◌, ◌<◌}
use mathlib.Core.Path.{◌≡◌, refl, sym, ap, ◌∙◌}
use mathlib.Core.Bool.{Bool, true, false, not}
use mathlib.Core.List.{List, [], ◌∷◌, ◌++◌}
use native.Mathlib.Numerals.{add-one}
use native.Mathlib.Omega.{arith}
use lib.ListN.{length, get_or, take, drop, drop_of_length-le, length-drop}
use lib.Seq.{drop-cons}
use lib.Dec.{eqb}
use borrow.Author.Tests.{eqb-true, eq-eqb, ne_eqb}
use Rattle.nibl.specs.Values.{Result, is, no}
use Rattle.nibl.specs.Access.{may_read}
use Rattle.nibl.specs.Meaning.{bind, string_from, string_at}
use Rattle.nibl.specs.declared.access.Access.{Access}
use Rattle.world.specs.Stores.{extent_of}

-- where the definition's string ends
abbrev pub ending : Access → List ℕ → ℕ → Result ℕ
ending x mem a = bind (string_at x mem a) (λ bs. is (a + length bs))

-- ---- a byte at a time

module _ (x : Access) (mem : List ℕ) (i : ℕ) where
  pub string-past : length mem ≤ i → string_at x mem i ≡ no 16
  unfolding string_at string_from
  string-past h = rw (drop_of_length-le mem {i = i} h)

  pub string-foreign : i < length mem → may_read x i ≡ false → string_at x mem i ≡ no 21
  unfolding string_at string_from
  string-foreign h m = rw (drop-cons mem i 0 h, m)

  pub string-ends : i < length mem → may_read x i ≡ true → get_or mem i 0 ≡ 13 → string_at x mem i ≡ is []
  unfolding string_at string_from
  string-ends h m e = rw (drop-cons mem i 0 h, m, eq-eqb (get_or mem i 0) 13 e)

  -- a byte that is no CR is one of the string
  string-goes : i < length mem → may_read x i ≡ true → (get_or mem i 0 ≡ 13 → ⊥) → string_at x mem i ≡ bind (string_at x mem (i + 1)) (λ bs. is (get_or mem i 0 ∷ bs))
  unfolding string_at string_from
  string-goes h m e = rw (drop-cons mem i 0 h, m, ne_eqb (get_or mem i 0) 13 e, add-one)

  pub end_goes : i < length mem → may_read x i ≡ true → (get_or mem i 0 ≡ 13 → ⊥) → ending x mem (i + 1) ≡ ending x mem i
  end_goes h m e = go (string_at x mem (i + 1)) ∙ sym (ap (λ r. bind r (λ bs. is (i + length bs))) (string-goes h m e))
    where
      go : (r : Result (List ℕ)) → bind r (λ bs. is (i + 1 + length bs)) ≡ bind (bind r (λ bs. is (get_or mem i 0 ∷ bs))) (λ bs. is (i + length bs))
      go (is bs) = let k : i + 1 + length bs ≡ i + suc (length bs) = omega arith in ap (λ (n : ℕ). is n) k
      go (no n) = refl

-- ---- what the end says

-- a string is a front part of what it is read from, and its CR is next
record Fronted (s bs : List ℕ) : Type 0 where
  part : take (length bs) s ≡ bs
  whole : bs ++ (13 ∷ []) ≡ take (suc (length bs)) s
  inside : length bs < length s

string-fronted : (x : Access) (a : ℕ) (s bs : List ℕ) → string_from x a s ≡ is bs → Fronted s bs
unfolding string_from
string-fronted x a [] bs h = let z : ◌≡◌ {A = ℕ} 0 1 = cc in absurd (omega arith)
string-fronted x a (b ∷ s) bs h = go (may_read x a) (eqb b 13) refl (string_from x (suc a) s) (string-fronted x (suc a) s) h
  where
    go : (m t : Bool) → eqb b 13 ≡ t → (r : Result (List ℕ)) → ((cs : List ℕ) → r ≡ is cs → Fronted s cs)
        → (if not m then no 21 else if t then is [] else bind r (λ cs. is (b ∷ cs))) ≡ is bs → Fronted (b ∷ s) bs
    go false t q r f h = let z : ◌≡◌ {A = ℕ} 0 1 = cc in absurd (omega arith)
    go true true q r f h =
        let k : bs ≡ [] = cc in rw k (record { part = refl; whole = ap (λ (c : ℕ). c ∷ []) (sym (eqb-true b 13 q)); inside = omega arith })
    go true false q (no n) f h = let z : ◌≡◌ {A = ℕ} 0 1 = cc in absurd (omega arith)
    go true false q (is cs) f h =
        let k : bs ≡ b ∷ cs = cc in
        let p = f cs refl in
        rw k (record { part = ap (λ (l : List ℕ). b ∷ l) p.part; whole = ap (λ (l : List ℕ). b ∷ l) p.whole; inside = omega (arith, p.inside) })

-- a string runs from an address to e, where its CR stands
pub record StringRuns (x : Access) (mem : List ℕ) (a e : ℕ) : Type 0 where
  pub ahead : a ≤ e
  pub inside : e < length mem
  pub string : string_at x mem a ≡ is (take (e - a) (drop a mem))
  pub whole : take (e - a) (drop a mem) ++ (13 ∷ []) ≡ take (e + 1 - a) (drop a mem)

module _ (x : Access) (mem : List ℕ) (a : ℕ) where
  runs : (bs : List ℕ) → string_at x mem a ≡ is bs → StringRuns x mem a (a + length bs)
  unfolding string_at
  runs bs h =
      let f = string-fronted x a (drop a mem) bs h in
      let size : a + length bs - a ≡ length bs = omega arith in
      let more : a + length bs + 1 - a ≡ suc (length bs) = omega arith in
      record {
        ahead = omega arith;
        inside = omega (arith, f.inside, length-drop a mem);
        string = rw (h, size, f.part);
        whole = rw (size, more, f.part) f.whole;
      }

  -- an end that was found
  pub string-to : {r : Res ℕ Stop} (e : ℕ) → r ≡ Ok e → extent_of r ≡ ending x mem a → StringRuns x mem a e
  string-to e q h = go (string_at x mem a) refl (sym (ap extent_of q) ∙ h)
    where
      go : (s : Result (List ℕ)) → string_at x mem a ≡ s → is e ≡ bind s (λ bs. is (a + length bs)) → StringRuns x mem a e
      go (is bs) q h = let k : e ≡ a + length bs = cc in rw k (runs bs q)
      go (no n) q h = let z : ◌≡◌ {A = ℕ} 0 1 = cc in absurd (omega arith)

  -- and one that was not
  pub string-no : {r : Res ℕ Stop} (n : Stop) → r ≡ Err n → extent_of r ≡ ending x mem a → string_at x mem a ≡ no n.0
  string-no n q h = go (string_at x mem a) (sym (ap extent_of q) ∙ h)
    where
      go : (s : Result (List ℕ)) → no n.0 ≡ bind s (λ bs. is (a + length bs)) → s ≡ no n.0
      go (is bs) h = let z : ◌≡◌ {A = ℕ} 0 1 = cc in absurd (omega arith)
      go (no m) h = let k : n.0 ≡ m = cc in cc
