-- An expression is worth what document 01 says, and nothing else. Assumes nothing.
use Rattle.std.specs.Prelude.{if◌then◌else◌}
use Prim.Native.Nat.{ℕ, zero, suc, ◌+◌, ◌-◌, ◌*◌, ◌/◌, ◌%◌, ◌^◌, ◌≤◌, ◌<◌}
use mathlib.Core.Path.{◌≡◌, refl, sym, ap, subst, ◌∙◌}
use mathlib.Core.Bool.{Bool, true, false, not}
use mathlib.Core.List.{List, [], ◌∷◌, ◌++◌, append-nil}
use mathlib.Core.Logic.{◌↔◌}
use native.Mathlib.Nat.{zero-add, add-zero, pow-suc}
use native.Mathlib.Omega.{arith}
use lib.ListN.{length, drop, length-append, length-drop}
use lib.Dec.{ltb, eqb}
use borrow.Author.Tests.{ltb-true, ltb-false, lt-ltb, le-ltb, eqb-true, eqb-false, eq-eqb, ne_eqb, not-true}
use Rattle.nibl.specs.Bytes.{All, none, each, not_cr}
use Rattle.nibl.specs.Tree.{Op, times, divided_by, and_bits, plus, minus, or_bits, equal, less, greater, at_most, at_least, unequal}
use Rattle.nibl.specs.Tree.{Expr, var, const, stat, top, byte_at, invert, negate, modulo, two}
use Rattle.nibl.specs.Tree.{Item, text, stored, value}
use Rattle.nibl.specs.Values.{Result, is, no, Value, is_negative, magnitude, less16, bit, differ, sub16, mod16, apply, digits_n, digits, printed}
use Rattle.nibl.specs.Page.{is_among, records_of, used}
use Rattle.nibl.specs.Access.{may_read}
use Rattle.nibl.specs.Meaning.{World, Env, bind, byte_of, string_from, string_at, eval}
use Rattle.nibl.specs.declared.access.Access.{Access}
use Rattle.nibl.proofs.Words.{if-split}
use Rattle.value.proofs.Digits.{digits-before}
use Rattle.page.proofs.Walk.{by_cases}
use Rattle.page.proofs.Program.{program-length}
use Rattle.demands.specs.Items.{item_bytes}
use Rattle.demands.specs.Whose.{MayRead, ByteRefused, not_there, not_its_own}
use Rattle.demands.specs.Valued.{SignAndSize, from_zero, below_zero, order, Below, across_zero, above_zero, under_zero, Related, same, not_same, below, not_below, above, not_above, up_to, not_up_to, from_on, not_from_on, other, not_other, Operated, sums, differences, products, quotients, quotients_below, no_quotient, of_and, of_or, relates, Remains, remainders, no_remainder, ValueOf, of_variable, of_constant, of_stat, of_top, of_byte, no_byte, of_not, of_minus, of_mod, of_two, in_byte, in_not, in_minus, left_of_mod, right_of_mod, left_of_two, right_of_two, StringAt, StopsShort, Decimal, one_digit, more_digits, PrintedAs, shown, shown_below, ItemBytes, of_text, of_string, of_number, no_string, no_address, no_number}
use Rattle.demands.proofs.Whose.{readable_of, readable-one, unreadable-of, unreadable-one}

-- Sign and size
pub signed_of : (x : ℕ) → SignAndSize x (is_negative x) (magnitude x)
signed_of x = by_cases (ltb x 32768) (λ h. rw h (from_zero (ltb-true x 32768 h))) (λ h. rw h (below_zero (ltb-false x 32768 h)))

pub signed-one : {x m : ℕ} {s : Bool} → SignAndSize x s m → (is_negative x ≡ s) × (magnitude x ≡ m)
signed-one (from_zero {x = x} h) = (rw (lt-ltb x 32768 h), rw (lt-ltb x 32768 h))
signed-one (below_zero {x = x} h) = (rw (le-ltb x 32768 h), rw (le-ltb x 32768 h))

-- the order by sign and size
pub the-signed-order : (x y : ℕ) → x < 65536 → y < 65536 → (order x < order y) ↔ Below x y
the-signed-order x y a b = (λ h. by h (ltb x 32768) refl (ltb y 32768) refl, back) where
  by : order x < order y → (s : Bool) → ltb x 32768 ≡ s → (t : Bool) → ltb y 32768 ≡ t → Below x y
  by h true s true t = above_zero (from_zero (ltb-true _ _ s)) (from_zero (ltb-true _ _ t)) (omega (arith, ltb-true x 32768 s, ltb-true y 32768 t))
  by h true s false t = absurd (omega (arith, ltb-true x 32768 s, ltb-false y 32768 t))
  by h false s true t = across_zero (below_zero (ltb-false _ _ s)) (from_zero (ltb-true _ _ t))
  by h false s false t = under_zero (below_zero (ltb-false _ _ s)) (below_zero (ltb-false _ _ t)) (omega (arith, ltb-false x 32768 s, ltb-false y 32768 t))

  back : Below x y → order x < order y
  back (across_zero (below_zero h) (from_zero g)) = omega arith
  back (above_zero (from_zero h) (from_zero g) l) = omega arith
  back (under_zero (below_zero h) (below_zero g) l) = omega arith

-- A test's bit
bit-of : (P : ℕ → Type 0) (t : Bool) → (t ≡ true → P 1) → (t ≡ false → P 0) → P (bit t)
bit-of P true f g = f refl
bit-of P false f g = g refl

not-bit : (P : ℕ → Type 0) (t : Bool) → (t ≡ false → P 1) → (t ≡ true → P 0) → P (bit (not t))
not-bit P true f g = g refl
not-bit P false f g = f refl

quotient-of : (x y : ℕ) (s t : Bool) {m n : ℕ} → (y ≡ 0 → ⊥) → SignAndSize x s m → SignAndSize y t n
    → Operated divided_by x y (is (if differ s t then sub16 0 (m / n) else m / n))
quotient-of x y true true z a b = quotients z a b
quotient-of x y true false {m} {n} z a b = rw (zero-add (65536 - m / n)) (quotients_below z a b (λ e. let c : ◌≡◌ {A = ℕ} 0 1 = cc in omega arith))
quotient-of x y false true {m} {n} z a b = rw (zero-add (65536 - m / n)) (quotients_below z a b (λ e. let c : ◌≡◌ {A = ℕ} 0 1 = cc in omega arith))
quotient-of x y false false z a b = quotients z a b

pub operated-of : (o : Op) (x y : ℕ) → Operated o x y (apply o x y)
unfolding apply
operated-of times x y = products
operated-of divided_by x y =
    if-split (Operated divided_by x y) (eqb y 0) (λ h. no_quotient (eqb-true y 0 h)) (λ h. quotient-of x y (is_negative x) (is_negative y) (eqb-false y 0 h) (signed_of x) (signed_of y))
operated-of and_bits x y = of_and
operated-of plus x y = sums
operated-of minus x y = differences
operated-of or_bits x y = of_or
operated-of equal x y = relates (bit-of (Related equal x y) (eqb x y) (λ h. same (eqb-true x y h)) (λ h. not_same (eqb-false x y h)))
operated-of less x y = relates (bit-of (Related less x y) (less16 x y) (λ h. below (ltb-true _ _ h)) (λ h. not_below (ltb-false _ _ h)))
operated-of greater x y = relates (bit-of (Related greater x y) (less16 y x) (λ h. above (ltb-true _ _ h)) (λ h. not_above (ltb-false _ _ h)))
operated-of at_most x y = relates (not-bit (Related at_most x y) (less16 y x) (λ h. up_to (ltb-false _ _ h)) (λ h. not_up_to (ltb-true _ _ h)))
operated-of at_least x y = relates (not-bit (Related at_least x y) (less16 x y) (λ h. from_on (ltb-false _ _ h)) (λ h. not_from_on (ltb-true _ _ h)))
operated-of unequal x y = relates (not-bit (Related unequal x y) (eqb x y) (λ h. other (eqb-false x y h)) (λ h. not_other (eqb-true x y h)))

remains-of : (x y : ℕ) → Remains x y (mod16 x y)
unfolding mod16
remains-of x y = if-split (Remains x y) (eqb y 0) (λ h. no_remainder (eqb-true y 0 h)) (λ h. remainders (eqb-false y 0 h) (signed_of x) (signed_of y))

related-one : {o : Op} {x y b : ℕ} → Related o x y b → apply o x y ≡ is b
unfolding apply
related-one (same {x} {y} h) = rw (eq-eqb x y h)
related-one (not_same {x} {y} h) = rw (ne_eqb x y h)
related-one (below {x} {y} h) = rw (lt-ltb (order x) (order y) h)
related-one (not_below {x} {y} h) = rw (le-ltb (order x) (order y) h)
related-one (above {x} {y} h) = rw (lt-ltb (order y) (order x) h)
related-one (not_above {x} {y} h) = rw (le-ltb (order y) (order x) h)
related-one (up_to {x} {y} h) = rw (le-ltb (order y) (order x) h)
related-one (not_up_to {x} {y} h) = rw (lt-ltb (order y) (order x) h)
related-one (from_on {x} {y} h) = rw (le-ltb (order x) (order y) h)
related-one (not_from_on {x} {y} h) = rw (lt-ltb (order x) (order y) h)
related-one (other {x} {y} h) = rw (ne_eqb x y h)
related-one (not_other {x} {y} h) = rw (eq-eqb x y h)

same_sign : (s : Bool) → differ s s ≡ false
same_sign true = refl
same_sign false = refl

other_sign : (s t : Bool) → (s ≡ t → ⊥) → differ s t ≡ true
other_sign true true h = absurd (h refl)
other_sign true false h = refl
other_sign false true h = refl
other_sign false false h = absurd (h refl)

pub operated-one : {o : Op} {x y : ℕ} {r : Value} → Operated o x y r → apply o x y ≡ r
unfolding apply
operated-one sums = refl
operated-one differences = refl
operated-one products = refl
operated-one (quotients {x} {y} {m} {n} {s} z a b) =
    rw (ne_eqb y 0 z, (signed-one a).1, (signed-one b).1, (signed-one a).0, (signed-one b).0, same_sign s)
operated-one (quotients_below {x} {y} {m} {n} {s} {t} z a b h) =
    rw (ne_eqb y 0 z, (signed-one a).1, (signed-one b).1, (signed-one a).0, (signed-one b).0, other_sign s t h, zero-add (65536 - m / n))
operated-one (no_quotient {x} {y} z) = rw (eq-eqb y 0 z)
operated-one of_and = refl
operated-one of_or = refl
operated-one (relates h) = related-one h

remains-one : {x y : ℕ} {r : Value} → Remains x y r → mod16 x y ≡ r
unfolding mod16
remains-one (remainders {x} {y} {m} {n} z a b) = rw (ne_eqb y 0 z, (signed-one a).1, (signed-one b).1)
remains-one (no_remainder {x} {y} z) = rw (eq-eqb y 0 z)

abbrev pub value_numbers : List ℕ
value_numbers = 13 ∷ 16 ∷ 21 ∷ []

pub byte-number : {x : Access} {memory p n : ℕ} → ByteRefused x memory p n → is_among value_numbers n ≡ true
byte-number (not_there h) = refl
byte-number (not_its_own h f) = refl

module _ (e : Env) (w : World) where
  byte-of : {a : Expr} (r : Value) → ValueOf e w a r → ValueOf e w (byte_at a) (bind r (λ x. byte_of e.sight.access w.memory x))
  unfolding byte_of
  byte-of (is p) h =
      by_cases (ltb p (length w.memory))
      (λ l. by_cases (may_read e.sight.access p)
      (λ m. rw (l, m) (of_byte h (ltb-true _ _ l) (readable_of _ p m))) (λ m. rw (l, m) (no_byte h (not_its_own (ltb-true _ _ l) (unreadable-of _ p m)))))
      (λ l. rw l (no_byte h (not_there (ltb-false _ _ l))))
  byte-of (no n) h = in_byte h

  not-of : {a : Expr} (r : Value) → ValueOf e w a r → ValueOf e w (invert a) (bind r (λ x. is (65535 - x)))
  not-of (is x) h = of_not h
  not-of (no n) h = in_not h

  minus-of : {a : Expr} (r : Value) → ValueOf e w a r → ValueOf e w (negate a) (bind r (λ x. is (sub16 0 x)))
  minus-of (is x) h = rw (zero-add (65536 - x)) (of_minus h)
  minus-of (no n) h = in_minus h

  mod-of : {a b : Expr} (r q : Value) → ValueOf e w a r → ValueOf e w b q → ValueOf e w (modulo a b) (bind r (λ x. bind q (λ y. mod16 x y)))
  mod-of (is x) (is y) h g = of_mod h g (remains-of x y)
  mod-of (is x) (no n) h g = right_of_mod h g
  mod-of (no n) q h g = left_of_mod h

  two-of : {a b : Expr} (o : Op) (r q : Value) → ValueOf e w a r → ValueOf e w b q → ValueOf e w (two o a b) (bind r (λ x. bind q (λ y. apply o x y)))
  two-of o (is x) (is y) h g = of_two h g (operated-of o x y)
  two-of o (is x) (no n) h g = right_of_two h g
  two-of o (no n) q h g = left_of_two h

  pub value_of : (a : Expr) → ValueOf e w a (eval e w a)
  unfolding eval used
  value_of (var v) = of_variable
  value_of (const n) = of_constant
  value_of stat = of_stat
  value_of top = rw (← (program-length (records_of e.page))) of_top
  value_of (byte_at a) = byte-of (eval e w a) (value_of a)
  value_of (invert a) = not-of (eval e w a) (value_of a)
  value_of (negate a) = minus-of (eval e w a) (value_of a)
  value_of (modulo a b) = mod-of (eval e w a) (eval e w b) (value_of a) (value_of b)
  value_of (two o a b) = two-of o (eval e w a) (eval e w b) (value_of a) (value_of b)

  pub value-one : {a : Expr} {r : Value} → ValueOf e w a r → eval e w a ≡ r
  unfolding eval byte_of used
  value-one of_variable = refl
  value-one of_constant = refl
  value-one of_stat = refl
  value-one of_top = ap is (sym (program-length (records_of e.page)))
  value-one (of_byte {p = p} h l m) = rw (value-one h, lt-ltb p (length w.memory) l, readable-one _ p m)
  value-one (no_byte {p = p} h (not_there l)) = rw (value-one h, le-ltb p (length w.memory) l)
  value-one (no_byte {p = p} h (not_its_own l m)) = rw (value-one h, lt-ltb p (length w.memory) l, unreadable-one _ p m)
  value-one (of_not h) = rw (value-one h)
  value-one (of_minus {x = x} h) = rw (value-one h, zero-add (65536 - x))
  value-one (of_mod h g r) = rw (value-one h, value-one g) (remains-one r)
  value-one (of_two h g r) = rw (value-one h, value-one g) (operated-one r)
  value-one (in_byte h) = rw (value-one h)
  value-one (in_not h) = rw (value-one h)
  value-one (in_minus h) = rw (value-one h)
  value-one (left_of_mod h) = rw (value-one h)
  value-one (right_of_mod h g) = rw (value-one h, value-one g)
  value-one (left_of_two h) = rw (value-one h)
  value-one (right_of_two h g) = rw (value-one h, value-one g)

  -- the definition's value is document 01's
  pub value-exactly : (a : Expr) (r : Value) → (eval e w a ≡ r) ↔ ValueOf e w a r
  value-exactly a r = (λ h. rw h at (value_of a), value-one)

  -- a value is refused with 13, 16 or 21 alone
  pub refused-number : {a : Expr} {n : ℕ} → ValueOf e w a (no n) → is_among value_numbers n ≡ true
  refused-number (no_byte h r) = byte-number r
  refused-number (of_mod h g (no_remainder z)) = refl
  refused-number (of_two h g (no_quotient z)) = refl
  refused-number (in_byte h) = refused-number h
  refused-number (in_not h) = refused-number h
  refused-number (in_minus h) = refused-number h
  refused-number (left_of_mod h) = refused-number h
  refused-number (right_of_mod h g) = refused-number g
  refused-number (left_of_two h) = refused-number h
  refused-number (right_of_two h g) = refused-number g

-- Strings in memory
bind_is : {A : Type 0} (r : Result A) → bind r (λ a. is a) ≡ r
bind_is (is a) = refl
bind_is (no n) = refl

module _ (x : Access) where
  -- bytes that may be read and are no CR are passed
  string-goes : (a : ℕ) (bs : List ℕ) → All not_cr bs → ((i : ℕ) → a ≤ i → i < a + length bs → MayRead x i) → (rest : List ℕ)
      → string_from x a (bs ++ rest) ≡ bind (string_from x (a + length bs) rest) (λ cs. is (bs ++ cs))
  unfolding string_from
  string-goes a [] n f rest = rw (add-zero a) (sym (bind_is (string_from x a rest)))
  string-goes a (b ∷ bs) (each h n) f rest =
      rw (readable-one x a (f a (omega arith) (omega arith)), not-true (eqb b 13) h, string-goes (suc a) bs n (λ i k l. f i (omega arith) (omega arith)) rest)
      (by (string_from x (suc a + length bs) rest) ∙ ap (λ (q : ℕ). bind (string_from x q rest) (λ cs. is (b ∷ (bs ++ cs)))) (omega arith))
    where
      by : (r : Result (List ℕ)) → bind (bind r (λ cs. is (bs ++ cs))) (λ cs. is (b ∷ cs)) ≡ bind r (λ cs. is (b ∷ (bs ++ cs)))
      by (is cs) = refl
      by (no n) = refl

  -- what a look for the CR comes to, in what stands from a on: the string, or the first byte that may not be read, at q
  data Breaks (q : ℕ) : List ℕ → ℕ → Type 0 where
    over : Breaks q [] 16
    foreign : {b : ℕ} {s : List ℕ} → (MayRead x q → ⊥) → Breaks q (b ∷ s) 21

  data Looks (a : ℕ) (s : List ℕ) : Result (List ℕ) → Type 0 where
    ends : {bs : List ℕ} (q : ℕ) (rest : List ℕ) → s ≡ bs ++ (13 ∷ rest) → All not_cr bs → ((i : ℕ) → a ≤ i → i < q → MayRead x i) → q ≡ a + length bs + 1 → Looks a s (is bs)
    breaks : {n : ℕ} (q : ℕ) (bs rest : List ℕ) → s ≡ bs ++ rest → All not_cr bs → ((i : ℕ) → a ≤ i → i < q → MayRead x i) → q ≡ a + length bs → Breaks q rest n → Looks a s (no n)

  one_more : (a q : ℕ) → MayRead x a → ((i : ℕ) → suc a ≤ i → i < q → MayRead x i) → (i : ℕ) → a ≤ i → i < q → MayRead x i
  one_more a q m f i h l = by_cases (eqb i a) (λ e. subst (MayRead x) (sym (eqb-true i a e)) m) (λ e. let k = eqb-false i a e in f i (omega arith) l)

  looks : (a : ℕ) (s : List ℕ) → Looks a s (string_from x a s)
  unfolding string_from
  looks a [] = breaks a [] [] refl none (λ i h l. absurd (omega arith)) (sym (add-zero a)) over
  looks a (b ∷ s) = by (may_read x a) refl (eqb b 13) refl (string_from x (suc a) s) (looks (suc a) s) where
    by : (m : Bool) → may_read x a ≡ m → (t : Bool) → eqb b 13 ≡ t → (r : Result (List ℕ)) → Looks (suc a) s r
        → Looks a (b ∷ s) (if not m then no 21 else if t then is [] else bind r (λ bs. is (b ∷ bs)))
    by false m t c r l = breaks a [] (b ∷ s) refl none (λ i h k. absurd (omega arith)) (sym (add-zero a)) (foreign (unreadable-of x a m))
    by true m true c r l =
        ends (suc a) s (ap (λ (d : ℕ). d ∷ s) (eqb-true b 13 c)) none (one_more a (suc a) (readable_of x a m) (λ i h k. absurd (omega arith))) (omega arith)
    by true m false c (is bs) (ends q rest e n f k) =
        let g : not_cr b ≡ true = rw c in ends q rest (ap (λ (l : List ℕ). b ∷ l) e) (each g n) (one_more a q (readable_of x a m) f) (omega arith)
    by true m false c (no k) (breaks q bs rest e n f g z) =
        let h : not_cr b ≡ true = rw c in breaks q (b ∷ bs) rest (ap (λ (l : List ℕ). b ∷ l) e) (each h n) (one_more a q (readable_of x a m) f) (omega arith) z

module _ (x : Access) (memory : List ℕ) (p : ℕ) where
  pub string-of : (P : Result (List ℕ) → Type 0) → ((bs : List ℕ) → StringAt x memory p bs → P (is bs)) → ((n : ℕ) → StopsShort x memory p n → P (no n))
      → P (string_at x memory p)
  unfolding string_at
  string-of P f g = by (string_from x p (drop p memory)) (looks x p (drop p memory)) where
    refused : {n : ℕ} (q : ℕ) (bs rest : List ℕ) → drop p memory ≡ bs ++ rest → q ≡ p + length bs → Breaks x q rest n → ByteRefused x (length memory) (p + length bs) n
    refused q bs rest e k over = not_there (omega (arith, length-drop p memory, ap length e, length-append bs []))
    refused q bs rest e k (foreign {b = b} {s = s} h) =
        not_its_own (omega (arith, length-drop p memory, ap length e, length-append bs (b ∷ s))) (λ m. h (subst (MayRead x) (sym k) m))

    by : (r : Result (List ℕ)) → Looks x p (drop p memory) r → P r
    by (is bs) (ends q rest e n h k) = f bs (record { rest = rest; stands = e; first = n; readable = λ i a l. h i a (omega arith) })
    by (no n) (breaks q bs rest e c h k z) =
        g n (record { before = bs; rest = rest; stands = e; no_cr = c; readable = λ i a l. h i a (omega arith); refused = refused q bs rest e k z })

  pub string-one : {bs : List ℕ} → StringAt x memory p bs → string_at x memory p ≡ is bs
  unfolding string_at string_from
  string-one {bs} s =
      rw s.stands (string-goes x p bs s.first (λ i a l. s.readable i a (omega arith)) (13 ∷ s.rest)
      ∙ rw (readable-one x (p + length bs) (s.readable (p + length bs) (omega arith) (omega arith))) (ap is (append-nil bs)))

  -- k bytes on stands the byte that may not be read
  string-breaks : {n : ℕ} (rest : List ℕ) (k : ℕ) → length (drop p memory) ≡ k + length rest → ByteRefused x (length memory) (p + k) n → string_from x (p + k) rest ≡ no n
  unfolding string_from
  string-breaks [] k e (not_there h) = refl
  string-breaks [] k e (not_its_own h f) = absurd (omega (arith, length-drop p memory))
  string-breaks (b ∷ t) k e (not_there h) = absurd (omega (arith, length-drop p memory))
  string-breaks (b ∷ t) k e (not_its_own h f) = rw (unreadable-one x (p + k) f)

  pub string-none : {n : ℕ} → StopsShort x memory p n → string_at x memory p ≡ no n
  unfolding string_at
  string-none s =
      rw s.stands (string-goes x p s.before s.no_cr s.readable s.rest
      ∙ ap (λ (r : Result (List ℕ)). bind r (λ cs. is (s.before ++ cs))) (string-breaks s.rest (length s.before) (ap length s.stands ∙ length-append s.before s.rest) s.refused))

-- Digits
decimal-of : (k n : ℕ) → n < 10 ^ suc k → Decimal n (digits_n (suc k) n [])
decimal-of zero n h = let l : n < 10 = omega arith in rw (lt-ltb n 10 l, digits_n) (one_digit l)
decimal-of (suc k) n h = by (decimal-of k (n / 10)) (ltb n 10) refl where
  p : 10 ^ suc (suc k) ≡ 10 ^ suc k * 10
  p = pow-suc 10 (suc k)

  by : (n / 10 < 10 ^ suc k → Decimal (n / 10) (digits_n (suc k) (n / 10) [])) → (t : Bool) → ltb n 10 ≡ t
      → Decimal n (elim t [ true ↦ (48 + n) ∷ [] | false ↦ digits_n (suc k) (n / 10) ((48 + n % 10) ∷ []) ])
  by f true t = one_digit (ltb-true n 10 t)
  by f false t =
      subst (Decimal n) (sym (digits-before (suc k) (n / 10) [] ((48 + n % 10) ∷ []))) (more_digits (ltb-false n 10 t) (f (omega (arith, p))))

-- the digits that LIST writes and a text's room counts
pub a-lines-digits : (n : ℕ) → n ≤ 32767 → Decimal n (digits n)
unfolding digits
a-lines-digits n h = decimal-of 4 n (omega arith)

decimal-unique : {n : ℕ} {ds es : List ℕ} → Decimal n ds → Decimal n es → ds ≡ es
decimal-unique (one_digit h) (one_digit g) = refl
decimal-unique (one_digit h) (more_digits g e) = absurd (omega arith)
decimal-unique (more_digits h d) (one_digit g) = absurd (omega arith)
decimal-unique (more_digits {n = n} h d) (more_digits g e) = ap (λ (l : List ℕ). l ++ ((48 + n % 10) ∷ [])) (decimal-unique d e)

signed-small : {x m : ℕ} {s : Bool} → SignAndSize x s m → m < 10 ^ 5
signed-small (from_zero h) = omega arith
signed-small (below_zero h) = omega arith

-- Items
shown_of : (x : ℕ) → PrintedAs x (printed x)
unfolding printed digits
shown_of x = by (is_negative x) (signed_of x) where
  by : (s : Bool) → SignAndSize x s (magnitude x) → PrintedAs x ((if s then 45 else 32) ∷ (digits (magnitude x) ++ (32 ∷ [])))
  by true h = shown_below h (decimal-of 4 (magnitude x) (signed-small h))
  by false h = shown h (decimal-of 4 (magnitude x) (signed-small h))

shown-one : {x : ℕ} {bs : List ℕ} → PrintedAs x bs → printed x ≡ bs
unfolding printed digits
shown-one (shown {m = m} h d) = rw ((signed-one h).1, (signed-one h).0, decimal-unique (decimal-of 4 m (signed-small h)) d)
shown-one (shown_below {m = m} h d) = rw ((signed-one h).1, (signed-one h).0, decimal-unique (decimal-of 4 m (signed-small h)) d)

module _ (e : Env) (w : World) where
  pub item_of : (i : Item) → ItemBytes e w i (item_bytes e w i)
  item_of (text bs) = of_text
  item_of (stored a) = by (eval e w a) (value_of e w a) where
    by : (r : Value) → ValueOf e w a r → ItemBytes e w (stored a) (bind r (string_at e.sight.access w.memory))
    by (is p) h = string-of e.sight.access w.memory p (ItemBytes e w (stored a)) (λ bs s. of_string h s) (λ n s. no_string h s)
    by (no n) h = no_address h
  item_of (value a) = by (eval e w a) (value_of e w a) where
    by : (r : Value) → ValueOf e w a r → ItemBytes e w (value a) (bind r (λ x. is (printed x)))
    by (is x) h = of_number h (shown_of x)
    by (no n) h = no_number h

  pub item-one : {i : Item} {r : Result (List ℕ)} → ItemBytes e w i r → item_bytes e w i ≡ r
  item-one of_text = refl
  item-one (of_string {p = p} h s) = rw (value-one e w h) (string-one e.sight.access w.memory p s)
  item-one (of_number h s) = rw (value-one e w h) (ap is (shown-one s))
  item-one (no_string {p = p} h s) = rw (value-one e w h) (string-none e.sight.access w.memory p s)
  item-one (no_address h) = rw (value-one e w h)
  item-one (no_number h) = rw (value-one e w h)

  pub item-exactly : (i : Item) (r : Result (List ℕ)) → (item_bytes e w i ≡ r) ↔ ItemBytes e w i r
  item-exactly i r = (λ h. rw h at (item_of i), item-one)
