-- The tests of who may read and who may write say what the words say. Assumes nothing.
use Prim.Native.Nat.{ℕ, ◌+◌, ◌-◌, ◌≤◌}
use mathlib.Core.Path.{◌≡◌, refl, sym, ◌∙◌}
use mathlib.Core.Bool.{Bool, true, false, ◌||◌, true≢false}
use native.Mathlib.Omega.{arith}
use lib.Dec.{leb, ltb}
use borrow.Author.Tests.{leb-true, leb-false, le-leb, ltb-true, lt-ltb}
use Rattle.nibl.specs.Access.{inside, may_read, may_write}
use Rattle.nibl.specs.declared.access.Range.{Range}
use Rattle.nibl.specs.declared.access.Access.{Access}
use Rattle.nibl.proofs.Words.{and_left, and_right}
use Rattle.page.proofs.Walk.{by_cases}
use Rattle.demands.specs.Whose.{Inside, MayRead, of_own, of_shared, AllOwn, OneForeign}

inside_of : (r : Range) (p : ℕ) → inside r p ≡ true → Inside r p
inside_of r p h =
    record {
      from = leb-true r.from p (and_left (leb r.from p) (ltb p r.to) h);
      to = ltb-true p r.to (and_right (leb r.from p) (ltb p r.to) h);
    }

inside_one : {r : Range} {p : ℕ} → Inside r p → inside r p ≡ true
inside_one {r} {p} i = rw (le-leb r.from p i.from) (lt-ltb p r.to i.to)

or-second : (b : Bool) {c : Bool} → c ≡ true → (b || c) ≡ true
or-second true h = refl
or-second false h = h

module _ (x : Access) (p : ℕ) where
  pub readable_of : may_read x p ≡ true → MayRead x p
  readable_of h = by (inside x.own p) (inside_of x.own p) h where
    by : (b : Bool) → (b ≡ true → Inside x.own p) → (b || inside x.shared p) ≡ true → MayRead x p
    by true f h = of_own (f refl)
    by false f h = of_shared (inside_of x.shared p h)

  pub readable-one : MayRead x p → may_read x p ≡ true
  readable-one (of_own i) = rw (inside_one i)
  readable-one (of_shared i) = or-second (inside x.own p) (inside_one i)

  pub unreadable-of : may_read x p ≡ false → MayRead x p → ⊥
  unreadable-of h m = true≢false (sym (readable-one m) ∙ h)

  pub unreadable-one : (MayRead x p → ⊥) → may_read x p ≡ false
  unreadable-one f = by_cases (may_read x p) (λ h. absurd (f (readable_of h))) (λ h. h)

  module _ (n : ℕ) where
    pub own_of : may_write x p n ≡ true → AllOwn x p n
    own_of h i a b =
        let f = leb-true x.own.from p (and_left (leb x.own.from p) (leb (p + n) x.own.to) h) in
        let t = leb-true (p + n) x.own.to (and_right (leb x.own.from p) (leb (p + n) x.own.to) h) in
        record { from = omega arith; to = omega arith }

    pub own-one : 1 ≤ n → AllOwn x p n → may_write x p n ≡ true
    own-one l f =
        let a = f p (omega arith) (omega arith) in
        let b = f (p + n - 1) (omega arith) (omega arith) in
        let t : p + n ≤ x.own.to = omega (arith, b.to) in
        rw (le-leb x.own.from p a.from) (le-leb (p + n) x.own.to t)

    pub foreign-one : OneForeign x p n → may_write x p n ≡ false
    foreign-one f = by_cases (may_write x p n) (λ h. absurd (f.foreign (own_of h f.at f.from f.to))) (λ h. h)

    pub foreign-of : 1 ≤ n → may_write x p n ≡ false → OneForeign x p n
    foreign-of l h =
        by_cases (leb x.own.from p)
        (λ f. by_cases (leb (p + n) x.own.to)
        (λ t. absurd (true≢false (sym (rw f t) ∙ h)))
        (λ t. let k = leb-false (p + n) x.own.to t in record { at = p + n - 1; from = omega arith; to = omega arith; foreign = λ i. omega (arith, i.to) }))
        (λ f. let k = leb-false x.own.from p f in record { at = p; from = omega arith; to = omega arith; foreign = λ i. omega (arith, i.from) })
