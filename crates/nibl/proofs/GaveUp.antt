-- Where a reader of words gave up, no text that agrees with its text up to and with that byte has a word at its front. Assumes nothing.
use Rattle.std.specs.Prelude.{if◌then◌else◌}
use Prim.Native.Nat.{ℕ, zero, suc, ◌+◌, ◌-◌, ◌*◌, ◌≤◌, ◌<◌}
use mathlib.Core.Path.{◌≡◌, refl, sym, ap, ◌∙◌}
use mathlib.Core.Bool.{Bool, true, false, not, ◌&&◌, ◌||◌}
use mathlib.Core.List.{List, [], ◌∷◌, ◌++◌}
use mathlib.Core.Option.{Option, none, some}
use native.Mathlib.Omega.{arith}
use borrow.Author.Tests.{leb-true, leb-false, lt-leb, eqb-true}
use lib.Dec.{leb, eqb}
use lib.ListN.{length, take, drop}
use Rattle.nibl.specs.Bytes.{is_space, is_digit, is_capital, is_hex_digit, is_quotable, none as done, each, starts, front, past, all, decimal_value}
use Rattle.nibl.specs.Words.{Token, string, pairs, is_symbol, begins, none_over, index_in, Word, letter}
use Rattle.nibl.specs.found.Read.{FrontWord, wrong, got, sign_or, letters_step, digits_step, hex_step, quoted_step, pair_or, symbol_step, word_step, step_in}
use Rattle.nibl.specs.found.GaveUp.{common, most_common, past_largest, word_gave_up, gave_up}
use Rattle.nibl.specs.found.Column.{opened, is_open_string}
use Rattle.nibl.proofs.Tests.{if-split, and_left, and_right, or-true, capital-other}
use Rattle.nibl.proofs.Keywords.{take-run, over-all, over-step}
use Rattle.nibl.proofs.Words.{step-word, word-capital, word-complete, no-word}

-- The byte stands within the text
pub past-short : (p : ℕ → Bool) (s : List ℕ) → length (past p s) ≤ length s
past-short p [] = omega arith
past-short p (b ∷ s) = if-split (λ (l : List ℕ). length l ≤ suc (length s)) (p b) (λ _. omega (arith, past-short p s)) (λ _. omega arith)

largest-short : (v : ℕ) (s : List ℕ) → length (past_largest v s) ≤ length s
unfolding past_largest
largest-short v [] = omega arith
largest-short v (d ∷ s) =
    if-split (λ (l : List ℕ). length l ≤ suc (length s)) (is_digit d && leb (v * 10 + (d - 48)) 32767)
    (λ _. omega (arith, largest-short (v * 10 + (d - 48)) s)) (λ _. omega arith)

word-within : (table : List (List ℕ)) (b : ℕ) (s : List ℕ) → word_gave_up table b s ≤ suc (length s)
unfolding word_gave_up
word-within table b s =
    let P : ℕ → Type 0 = λ k. k ≤ suc (length s) in
    if-split P (is_capital b) (λ _. omega arith) (λ _.
    if-split P (is_digit b) (λ _. largest-short 0 (b ∷ s)) (λ _.
    if-split P (eqb b 35) (λ _. omega arith) (λ _.
    if-split P (eqb b 34) (λ _. omega (arith, past-short is_quotable s)) (λ _. omega arith))))

pub gave-up-within : (table : List (List ℕ)) (s : List ℕ) → gave_up table s ≤ length s
unfolding gave_up
gave-up-within table [] = omega arith
gave-up-within table (b ∷ s) =
    if-split (λ k. k ≤ suc (length s)) (is_space b) (λ _. omega (arith, gave-up-within table s)) (λ _. word-within table b s)

-- Bytes behind a run: what stands at the end of the run stands there in every text that agrees up to and with it
same_end : (p q : ℕ → Bool) (s : List ℕ) (n : ℕ) → length s < n + length (past p s) → n ≤ length s → (t : List ℕ)
    → starts q (past p (take n s ++ t)) ≡ starts q (past p s)
same_end p q [] n h l t = absurd (omega arith)
same_end p q (b ∷ s) zero h l t = absurd (omega (arith, past-short p (b ∷ s)))
same_end p q (b ∷ s) (suc n) h l t = go (p b) (λ i. same_end p q s n i (omega arith) t) h
  where
    go : (x : Bool) → (length s < n + length (past p s) → starts q (past p (take n s ++ t)) ≡ starts q (past p s))
        → suc (length s) < suc n + length (if x then past p s else b ∷ s)
        → starts q (if x then past p (take n s ++ t) else b ∷ take n s ++ t) ≡ starts q (if x then past p s else b ∷ s)
    go true ih k = ih (omega arith)
    go false ih k = refl

-- and the run is not all of such a text
pub run_ends : (p : ℕ → Bool) (s : List ℕ) (n : ℕ) → length s < n + length (past p s) → n ≤ length s → (t : List ℕ) → all p (take n s ++ t) ≡ false
run_ends p [] n h l t = absurd (omega arith)
run_ends p (b ∷ s) zero h l t = absurd (omega (arith, past-short p (b ∷ s)))
run_ends p (b ∷ s) (suc n) h l t = go (p b) (λ i. run_ends p s n i (omega arith) t) h
  where
    go : (x : Bool) → (length s < n + length (past p s) → all p (take n s ++ t) ≡ false)
        → suc (length s) < suc n + length (if x then past p s else b ∷ s) → x && all p (take n s ++ t) ≡ false
    go true ih k = ih (omega arith)
    go false ih k = refl

-- Digits
value-least : (v : ℕ) (ds : List ℕ) → v ≤ decimal_value v ds
value-least v [] = omega arith
value-least v (d ∷ ds) = omega (arith, value-least (v * 10 + (d - 48)) ds)

digits-pass : (v : ℕ) (s : List ℕ) (n : ℕ) → v ≤ 32767 → 32767 < decimal_value v (front is_digit s) → length s < n + length (past_largest v s) → n ≤ length s
    → (t : List ℕ) → 32767 < decimal_value v (front is_digit (take n s ++ t))
unfolding past_largest
digits-pass v [] n i j h l t = absurd (omega arith)
digits-pass v (d ∷ s) zero i j h l t = absurd (omega (arith, largest-short v (d ∷ s)))
digits-pass v (d ∷ s) (suc n) i j h l t = go (is_digit d) j (leb w 32767) refl h (λ a b c. digits-pass w s n a b c (omega arith) t)
  where
    w : ℕ
    w = v * 10 + (d - 48)

    go : (x : Bool) → 32767 < decimal_value v (if x then d ∷ front is_digit s else []) → (y : Bool) → leb w 32767 ≡ y
        → suc (length s) < suc n + length (if x && y then past_largest w s else d ∷ s)
        → (w ≤ 32767 → 32767 < decimal_value w (front is_digit s) → length s < n + length (past_largest w s) → 32767 < decimal_value w (front is_digit (take n s ++ t)))
        → 32767 < decimal_value v (if x then d ∷ front is_digit (take n s ++ t) else [])
    go true j true e k ih = ih (leb-true w 32767 e) j (omega arith)
    go true j false e k ih = omega (arith, value-least w (front is_digit (take n s ++ t)), leb-false w 32767 e)
    go false j y e k ih = absurd (omega arith)

-- Letters
most-least : (table : List (List ℕ)) (s : List ℕ) → 1 ≤ most_common table s
unfolding most_common
most-least [] s = omega arith
most-least (w ∷ ws) s =
    if-split (λ k. 1 ≤ k) (leb (common w s) (most_common ws s)) (λ _. most-least ws s) (λ e. omega (arith, leb-false (common w s) (most_common ws s) e, most-least ws s))

common-short : (w s : List ℕ) → common w s ≤ length s
unfolding common
common-short [] s = omega arith
common-short (c ∷ w) [] = omega arith
common-short (c ∷ w) (b ∷ s) = if-split (λ k. k ≤ suc (length s)) (eqb c b) (λ _. omega (arith, common-short w s)) (λ _. omega arith)

pub most-short : (table : List (List ℕ)) (s : List ℕ) → 1 ≤ length s → most_common table s ≤ length s
unfolding most_common
most-short [] s h = h
most-short (w ∷ ws) s h =
    if-split (λ k. k ≤ length s) (leb (common w s) (most_common ws s)) (λ _. most-short ws s h) (λ _. common-short w s)

-- a spelling that parts from the text before the n-th byte begins the one text if it begins the other
both-begin : (w s : List ℕ) (n : ℕ) → common w s < n → n ≤ length s → (t : List ℕ) → begins w (front is_capital (take n s ++ t)) ≡ true
    → begins w (front is_capital s) ≡ true
unfolding common
both-begin [] s n h l t e = refl
both-begin (c ∷ w) s zero h l t e = absurd (omega arith)
both-begin (c ∷ w) [] (suc n) h l t e = absurd (omega arith)
both-begin (c ∷ w) (b ∷ s) (suc n) h l t e = go (is_capital b) (λ i. both-begin w s n i (omega arith) t) e
  where
    inner : (y : Bool) → (common w s < n → begins w (front is_capital (take n s ++ t)) ≡ true → begins w (front is_capital s) ≡ true)
        → (if y then suc (common w s) else 0) < suc n → y && begins w (front is_capital (take n s ++ t)) ≡ true → y && begins w (front is_capital s) ≡ true
    inner true ih i f = ih (omega arith) f
    inner false ih i f = f

    go : (x : Bool) → (common w s < n → begins w (front is_capital (take n s ++ t)) ≡ true → begins w (front is_capital s) ≡ true)
        → begins (c ∷ w) (if x then b ∷ front is_capital (take n s ++ t) else []) ≡ true → begins (c ∷ w) (if x then b ∷ front is_capital s else []) ≡ true
    go true ih f = inner (eqb c b) ih h f
    go false ih f = f

none-begins : (table : List (List ℕ)) (s : List ℕ) (n : ℕ) → most_common table s < n → n ≤ length s → (t : List ℕ)
    → none_over 1 table (front is_capital s) ≡ true → none_over 1 table (front is_capital (take n s ++ t)) ≡ true
unfolding none_over most_common
none-begins [] s n h l t o = refl
none-begins (w ∷ ws) s n h l t o =
    let k : (common w s < n) × (most_common ws s < n) = most (leb (common w s) (most_common ws s)) refl h in
    rw (go (begins w (front is_capital (take n s ++ t))) refl (and_left (leb (length w) 1 || not (begins w (front is_capital s))) _ o) k.0)
    (none-begins ws s n k.1 l t (and_right (leb (length w) 1 || not (begins w (front is_capital s))) _ o))
  where
    most : (x : Bool) → leb (common w s) (most_common ws s) ≡ x → (if x then most_common ws s else common w s) < n → (common w s < n) × (most_common ws s < n)
    most true e i = (omega (arith, leb-true (common w s) (most_common ws s) e), i)
    most false e i = (i, omega (arith, leb-false (common w s) (most_common ws s) e))

    go : (x : Bool) → begins w (front is_capital (take n s ++ t)) ≡ x → leb (length w) 1 || not (begins w (front is_capital s)) ≡ true → common w s < n
        → leb (length w) 1 || not (begins w (front is_capital (take n s ++ t))) ≡ true
    go true e f i = rw e (rw (both-begin w s n i l t e) at f)
    go false e f i = rw (e, or-true (leb (length w) 1))

-- where letters have no word, no spelling of two letters or more begins them
letters-none : (table : List (List ℕ)) (n : ℕ) (s : List ℕ) → suc n ≤ length (front is_capital s) → none_over (suc n) table (front is_capital s) ≡ true
    → letters_step table (suc n) s ≡ wrong → none_over 1 table (front is_capital s) ≡ true
unfolding letters_step
letters-none table zero s h o e = o
letters-none table (suc n) s h o e = go (index_in table (take (suc (suc n)) s)) refl e (letters-none table n s (omega arith))
  where
    go : (r : Option ℕ) → index_in table (take (suc (suc n)) s) ≡ r → sign_or r (drop (suc (suc n)) s) (letters_step table (suc n) s) ≡ wrong
        → (none_over (suc n) table (front is_capital s) ≡ true → letters_step table (suc n) s ≡ wrong → none_over 1 table (front is_capital s) ≡ true)
        → none_over 1 table (front is_capital s) ≡ true
    go none i f ih = ih (over-step (suc n) 128 table (front is_capital s) o (rw (← take-run is_capital (suc (suc n)) s h) i)) f
    go (some k) i f ih = let z : ◌≡◌ {A = ℕ} 0 1 = cc in absurd (omega arith)

letters-wrong : (table : List (List ℕ)) (b : ℕ) (s : List ℕ) → is_capital b ≡ true → step_in table (b ∷ s) ≡ wrong
    → (starts is_capital s ≡ true) × (none_over 1 table (front is_capital (b ∷ s)) ≡ true)
letters-wrong table b s c e = (go (starts is_capital s) refl, none)
  where
    step : step_in table (b ∷ s) ≡ letters_step table (length (front is_capital (b ∷ s))) (b ∷ s)
    step = step-word table b s (capital-other b c).0 ∙ word-capital table b s c

    run : front is_capital (b ∷ s) ≡ b ∷ front is_capital s
    run = rw c

    none : none_over 1 table (front is_capital (b ∷ s)) ≡ true
    none =
        letters-none table (length (front is_capital s)) (b ∷ s) (rw run (omega arith)) (rw (← ap length run) (over-all table (front is_capital (b ∷ s))))
        (rw (← ap length run) (sym step ∙ e))

    go : (x : Bool) → starts is_capital s ≡ x → x ≡ true
    go true i = refl
    go false i =
        let f = word-complete table (letter {c = b} {s = s} (record { some = c; each = each c done; longest = i })) in
        let z : ◌≡◌ {A = ℕ} 0 1 = cc in absurd (omega arith)

-- what a step that found no word tells of the text, and the other way round
first-same : (p : ℕ → Bool) (s : List ℕ) (n : ℕ) → 1 ≤ n → n ≤ length s → (t : List ℕ) → starts p (take n s ++ t) ≡ starts p s
first-same p s zero h l t = absurd (omega arith)
first-same p [] (suc n) h l t = absurd (omega arith)
first-same p (b ∷ s) (suc n) h l t = refl

digits-over : (v : ℕ) (u : List ℕ) → digits_step v u ≡ wrong → 32767 < v
digits-over v u =
    if-split (λ r. r ≡ wrong → 32767 < v) (leb v 32767) (λ _ e. let z : ◌≡◌ {A = ℕ} 0 1 = cc in absurd (omega arith)) (λ f e. leb-false v 32767 f)

unhexed : (s u : List ℕ) → hex_step (front is_hex_digit s) u ≡ wrong → starts is_hex_digit s ≡ false
unhexed [] u e = refl
unhexed (b ∷ s) u e = go (is_hex_digit b) e
  where
    go : (x : Bool) → hex_step (if x then b ∷ front is_hex_digit s else []) u ≡ wrong → x ≡ false
    go true e = let z : ◌≡◌ {A = ℕ} 0 1 = cc in absurd (omega arith)
    go false e = refl

hex-wrong : (s u : List ℕ) → starts is_hex_digit s ≡ false → hex_step (front is_hex_digit s) u ≡ wrong
hex-wrong [] u e = refl
hex-wrong (b ∷ s) u e = rw e

unquoted : (bs u : List ℕ) → quoted_step bs u ≡ wrong → starts (λ b. eqb b 34) u ≡ false
unquoted bs [] e = refl
unquoted bs (b ∷ u) e = go (eqb b 34) e
  where
    go : (x : Bool) → (if x then got (string bs) u else wrong) ≡ wrong → x ≡ false
    go true e = let z : ◌≡◌ {A = ℕ} 0 1 = cc in absurd (omega arith)
    go false e = refl

quoted-wrong : (bs u : List ℕ) → starts (λ b. eqb b 34) u ≡ false → quoted_step bs u ≡ wrong
quoted-wrong bs [] e = refl
quoted-wrong bs (b ∷ u) e = rw e

symbol-found : (b : ℕ) (s : List ℕ) → symbol_step b s ≡ wrong → ⊥
symbol-found b [] e = let z : ◌≡◌ {A = ℕ} 0 1 = cc in omega arith
symbol-found b (c ∷ s) e = go (pairs b c) e
  where
    go : (o : Option ℕ) → pair_or o b c s ≡ wrong → ⊥
    go none e = let z : ◌≡◌ {A = ℕ} 0 1 = cc in omega arith
    go (some k) e = let z : ◌≡◌ {A = ℕ} 0 1 = cc in omega arith

-- one choice in three places
module _ (P : FrontWord → ℕ → FrontWord → Type 0) where
  if-three : (x : Bool) {r r' : FrontWord} {k k' : ℕ} {q q' : FrontWord} → (x ≡ true → P r k q) → (x ≡ false → P r' k' q')
      → P (if x then r else r') (if x then k else k') (if x then q else q')
  if-three true f g = f refl
  if-three false f g = g refl

-- By the first byte
module _ (table : List (List ℕ)) (b : ℕ) (s : List ℕ) (n : ℕ) (l : n ≤ length s) (t : List ℕ) where
  -- the step there is r, gave up k bytes before the end, and the step at the other text is q
  abbrev Stays : FrontWord → ℕ → FrontWord → Type 0
  Stays r k q = r ≡ wrong → suc (length s) < suc n + k → q ≡ wrong

  capital-stays : is_capital b ≡ true
      → Stays (letters_step table (length (front is_capital (b ∷ s))) (b ∷ s)) (suc (length s) - most_common table (b ∷ s))
      (letters_step table (length (front is_capital (b ∷ take n s ++ t))) (b ∷ take n s ++ t))
  capital-stays c e h =
      let o = (capital-other b c).0 in
      let w = letters-wrong table b s c (step-word table b s o ∙ word-capital table b s c ∙ e) in
      sym (step-word table b (take n s ++ t) o ∙ word-capital table b (take n s ++ t) c)
      ∙ no-word table b (take n s ++ t) c (first-same is_capital s n (omega (arith, most-least table (b ∷ s))) l t ∙ w.0)
      (none-begins table (b ∷ s) (suc n) (omega arith) (omega arith) t w.1)

  digit-stays : Stays (digits_step (decimal_value 0 (front is_digit (b ∷ s))) (past is_digit (b ∷ s))) (length (past_largest 0 (b ∷ s)))
      (digits_step (decimal_value 0 (front is_digit (b ∷ take n s ++ t))) (past is_digit (b ∷ take n s ++ t)))
  digit-stays e h =
      rw (lt-leb (decimal_value 0 (front is_digit (b ∷ take n s ++ t))) 32767
      (digits-pass 0 (b ∷ s) (suc n) (omega arith) (digits-over (decimal_value 0 (front is_digit (b ∷ s))) (past is_digit (b ∷ s)) e) h (omega arith) t))

  hex-stays : Stays (hex_step (front is_hex_digit s) (past is_hex_digit s)) (length s)
      (hex_step (front is_hex_digit (take n s ++ t)) (past is_hex_digit (take n s ++ t)))
  hex-stays e h = hex-wrong (take n s ++ t) _ (first-same is_hex_digit s n (omega arith) l t ∙ unhexed s (past is_hex_digit s) e)

  quoted-stays : Stays (quoted_step (front is_quotable s) (past is_quotable s)) (length (past is_quotable s))
      (quoted_step (front is_quotable (take n s ++ t)) (past is_quotable (take n s ++ t)))
  quoted-stays e h =
      quoted-wrong _ (past is_quotable (take n s ++ t))
      (same_end is_quotable (λ c. eqb c 34) s n (omega arith) l t ∙ unquoted (front is_quotable s) (past is_quotable s) e)

  other-stays : Stays (if is_symbol b then symbol_step b s else wrong) (suc (length s)) (if is_symbol b then symbol_step b (take n s ++ t) else wrong)
  other-stays = go (is_symbol b)
    where
      go : (x : Bool) → Stays (if x then symbol_step b s else wrong) (suc (length s)) (if x then symbol_step b (take n s ++ t) else wrong)
      go true e h = absurd (symbol-found b s e)
      go false e h = refl

  word-stays : Stays (word_step table b s) (word_gave_up table b s) (word_step table b (take n s ++ t))
  unfolding word_step word_gave_up
  word-stays =
      if-three Stays (is_capital b) (λ c. capital-stays c) (λ _.
      if-three Stays (is_digit b) (λ _. digit-stays) (λ _.
      if-three Stays (eqb b 35) (λ _. hex-stays) (λ _.
      if-three Stays (eqb b 34) (λ _. quoted-stays) (λ _. other-stays))))

-- "no text that agrees up to and with that byte has a word here"
pub gave-up : (table : List (List ℕ)) (s : List ℕ) → step_in table s ≡ wrong → (n : ℕ) → length s < n + gave_up table s → n ≤ length s
    → (t : List ℕ) → step_in table (take n s ++ t) ≡ wrong
unfolding step_in gave_up
gave-up table [] e n h l t = let z : ◌≡◌ {A = ℕ} 0 1 = cc in absurd (omega arith)
gave-up table (b ∷ s) e zero h l t = absurd (omega (arith, gave-up-within table (b ∷ s)))
gave-up table (b ∷ s) e (suc n) h l t = go (is_space b) (λ e i. gave-up table s e n i (omega arith) t) e h
  where
    go : (x : Bool) → (step_in table s ≡ wrong → length s < n + gave_up table s → step_in table (take n s ++ t) ≡ wrong)
        → elim x [ true ↦ step_in table s | false ↦ word_step table b s ] ≡ wrong
        → suc (length s) < suc n + (if x then gave_up table s else word_gave_up table b s)
        → elim x [ true ↦ step_in table (take n s ++ t) | false ↦ word_step table b (take n s ++ t) ] ≡ wrong
    go true ih f i = ih f (omega arith)
    go false ih f i = word-stays table b s n (omega arith) t f i

pub gave-up-word : (table : List (List ℕ)) (s : List ℕ) → step_in table s ≡ wrong → (n : ℕ) → length s < n + gave_up table s → n ≤ length s
    → (t : List ℕ) {w : Token} {u : List ℕ} → Word table (take n s ++ t) w u → ⊥
gave-up-word table s e n h l t p =
    let f = gave-up table s e n h l t in let g = word-complete table p in let z : ◌≡◌ {A = ℕ} 0 1 = cc in omega arith

pub quote-at : (table : List (List ℕ)) (b : ℕ) (s : List ℕ) → eqb b 34 ≡ true → word_gave_up table b s ≡ length (past is_quotable s)
unfolding word_gave_up
quote-at table b s e = rw (eqb-true b 34 e)

-- nor an open string: where the reader gave up within one, that byte is none that a string may have
string-stays : (table : List (List ℕ)) (b : ℕ) (s : List ℕ) (n : ℕ) → n ≤ length s → (t : List ℕ) → suc (length s) < suc n + word_gave_up table b s
    → opened (b ∷ take n s ++ t) ≡ false
string-stays table b s n l t h = go (eqb b 34) refl
  where
    go : (x : Bool) → eqb b 34 ≡ x → x && all is_quotable (take n s ++ t) ≡ false
    go true e = run_ends is_quotable s n (omega (arith, quote-at table b s e)) l t
    go false e = refl

pub gave-up-string : (table : List (List ℕ)) (s : List ℕ) → step_in table s ≡ wrong → (n : ℕ) → length s < n + gave_up table s → n ≤ length s
    → (t : List ℕ) → is_open_string (take n s ++ t) ≡ false
unfolding step_in gave_up is_open_string
gave-up-string table [] e n h l t = let z : ◌≡◌ {A = ℕ} 0 1 = cc in absurd (omega arith)
gave-up-string table (b ∷ s) e zero h l t = absurd (omega (arith, gave-up-within table (b ∷ s)))
gave-up-string table (b ∷ s) e (suc n) h l t = go (is_space b) (λ e i. gave-up-string table s e n i (omega arith) t) e h
  where
    go : (x : Bool) → (step_in table s ≡ wrong → length s < n + gave_up table s → opened (past is_space (take n s ++ t)) ≡ false)
        → elim x [ true ↦ step_in table s | false ↦ word_step table b s ] ≡ wrong
        → suc (length s) < suc n + (if x then gave_up table s else word_gave_up table b s)
        → opened (if x then past is_space (take n s ++ t) else b ∷ take n s ++ t) ≡ false
    go true ih f i = ih f (omega arith)
    go false ih f i = string-stays table b s n (omega arith) t i
