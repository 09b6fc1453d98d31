-- Reads and stores of a box in two memories that it sees alike, and items in two outputs. Assumes nothing.
use Rattle.std.specs.Prelude.{if◌then◌else◌}
use Prim.Native.Nat.{ℕ, suc, ◌+◌, ◌≤◌, ◌<◌}
use mathlib.Core.Path.{◌≡◌, refl, sym, ◌∙◌, subst}
use mathlib.Core.Bool.{Bool, true, false, not}
use mathlib.Core.List.{List, [], ◌∷◌}
use mathlib.Core.Logic.{◌⊎◌, inl, inr}
use native.Mathlib.Omega.{arith}
use lib.ListN.{length, get_or, drop, set, length-set, length-drop, get_or-eq_default}
use lib.Seq.{sets, get_or-drop, get_or-set_same, get_or-set_other, set_out}
use lib.Dec.{ltb, leb, eqb}
use borrow.Author.Tests.{ltb-true, ltb-false, eqb-true, eqb-false}
use Rattle.nibl.specs.Values.{is, no}
use Rattle.nibl.specs.Access.{may_read, may_write}
use Rattle.nibl.specs.Meaning.{byte_of, string_from, string_at, store_at}
use Rattle.nibl.specs.declared.access.Access.{Access}
use Rattle.page.proofs.Walk.{by_cases}
use Rattle.demands.proofs.Whose.{readable_of}
use Rattle.changes.specs.Alike.{ResultsAlike, given, refused}
use Rattle.changes.specs.Boxes.{Sees, Printed}

module _ (x : Access) where
  pub byte-seen : (m m' : List ℕ) → Sees x m m' → (a : ℕ) → byte_of x m a ≡ byte_of x m' a
  unfolding byte_of
  byte-seen m m' h a = by_cases (may_read x a) (λ t. rw (t, h.same a (readable_of x a t), h.long)) (λ t. rw (t, h.long))

  string-seen : (a : ℕ) (s s' : List ℕ) → length s ≡ length s' → ((j : ℕ) → may_read x (a + j) ≡ true → get_or s j 0 ≡ get_or s' j 0) → string_from x a s ≡ string_from x a s'
  unfolding string_from
  string-seen a [] [] l f = refl
  string-seen a [] (b ∷ s') l f = absurd (omega arith)
  string-seen a (b ∷ s) [] l f = absurd (omega arith)
  string-seen a (b ∷ s) (c ∷ s') l f =
      let more = string-seen (suc a) s s' (omega arith) (λ j t. f (suc j) (subst (λ (k : ℕ). may_read x k ≡ true) (omega arith) t)) in
      by_cases (may_read x a) (λ t. rw (t, f 0 (subst (λ (k : ℕ). may_read x k ≡ true) (omega arith) t), more)) (λ t. rw t)

  pub strings-seen : (m m' : List ℕ) → Sees x m m' → (a : ℕ) → string_at x m a ≡ string_at x m' a
  unfolding string_at
  strings-seen m m' h a =
      string-seen a (drop a m) (drop a m') (omega (arith, length-drop a m, length-drop a m', h.long))
      (λ j t. get_or-drop a m j 0 ∙ h.same (a + j) (readable_of x (a + j) t) ∙ sym (get_or-drop a m' j 0))

  set-seen : (m m' : List ℕ) → Sees x m m' → (i b : ℕ) → Sees x (set m i b) (set m' i b)
  set-seen m m' h i b =
      record {
        long = length-set m i b ∙ h.long ∙ sym (length-set m' i b);
        same = λ a t.
            by_cases (eqb a i)
            (λ e. let q = eqb-true a i e in
            by_cases (ltb i (length m))
            (λ l. let k = ltb-true i (length m) l in
            rw q (get_or-set_same m i b 0 k ∙ sym (get_or-set_same m' i b 0 (omega (arith, h.long)))))
            (λ l. let k = ltb-false i (length m) l in rw (set_out m i b k, set_out m' i b (omega (arith, h.long))) (h.same a t)))
            (λ e. let q = eqb-false a i e in get_or-set_other m i a b 0 q ∙ h.same a t ∙ sym (get_or-set_other m' i a b 0 q));
      }

  sets-seen : (bs m m' : List ℕ) → Sees x m m' → (i : ℕ) → Sees x (sets m i bs) (sets m' i bs)
  sets-seen [] m m' h i = h
  sets-seen (b ∷ bs) m m' h i = sets-seen bs (set m i b) (set m' i b) (set-seen m m' h i b) (suc i)

  pub stores-seen : (m m' : List ℕ) → Sees x m m' → (a : ℕ) (bs : List ℕ) → ResultsAlike (Sees x) (store_at x m a bs) (store_at x m' a bs)
  unfolding store_at
  stores-seen m m' h a bs = rw h.long (by (leb (a + length bs) (length m')) (may_write x a (length bs))) where
    by : (b c : Bool) → ResultsAlike (Sees x) (if not b then no 16 else if c then is (sets m a bs) else no 21) (if not b then no 16 else if c then is (sets m' a bs) else no 21)
    by false c = refused
    by true true = given (sets-seen bs m m' h a)
    by true false = refused

-- a byte more in both
other_byte : (a p i : ℕ) → a ≤ p → (i < a) ⊎ (suc p ≤ i) → i ≡ p → ⊥
other_byte a p i l (inl h) e = omega arith
other_byte a p i l (inr h) e = omega arith

outside-less : (a p i : ℕ) → (i < a) ⊎ (suc p ≤ i) → (i < a) ⊎ (p ≤ i)
outside-less a p i (inl h) = inl h
outside-less a p i (inr h) = inr (omega arith)

module _ (a : ℕ) (lent lent' : List ℕ) where
  byte-printed : (p b : ℕ) (o o' : List ℕ) → Printed a lent lent' p o o' → Printed a lent lent' (suc p) (set o p b) (set o' p b)
  byte-printed p b o o' h =
      record {
        long = length-set o p b ∙ h.long ∙ sym (length-set o' p b);
        ahead = omega (arith, h.ahead);
        same = λ i l k.
            by_cases (eqb i p)
            (λ e. let q = eqb-true i p e in
            by_cases (ltb p (length o))
            (λ t. let u = ltb-true p (length o) t in rw q (get_or-set_same o p b 0 u ∙ sym (get_or-set_same o' p b 0 (omega (arith, h.long)))))
            (λ t.
            let u = ltb-false p (length o) t in
            rw (q, get_or-eq_default (set o p b) 0 {n = p} (omega (arith, length-set o p b)), get_or-eq_default (set o' p b) 0 {n = p} (omega (arith, length-set o' p b, h.long)))))
            (λ e. let q = eqb-false i p e in get_or-set_other o p i b 0 q ∙ h.same i l (omega arith) ∙ sym (get_or-set_other o' p i b 0 q));
        held = λ i s. get_or-set_other o p i b 0 (other_byte a p i h.ahead s) ∙ h.held i (outside-less a p i s);
        held' = λ i s. get_or-set_other o' p i b 0 (other_byte a p i h.ahead s) ∙ h.held' i (outside-less a p i s);
      }

  pub item-printed : (p : ℕ) (bs o o' : List ℕ) → Printed a lent lent' p o o' → Printed a lent lent' (p + length bs) (sets o p bs) (sets o' p bs)
  item-printed p [] o o' h = subst (λ (n : ℕ). Printed a lent lent' n o o') (omega arith) h
  item-printed p (b ∷ bs) o o' h =
      subst (λ (n : ℕ). Printed a lent lent' n (sets (set o p b) (suc p) bs) (sets (set o' p b) (suc p) bs)) (omega arith)
      (item-printed (suc p) bs (set o p b) (set o' p b) (byte-printed p b o o' h))
