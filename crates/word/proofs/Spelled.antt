-- The sign whose spelling stands at the front of a text, and the spelling of the sign that stands there. Assumes nothing.
use Rattle.std.specs.Prelude.{if◌then◌else◌, Some, None}
use Prim.Native.Nat.{ℕ, zero, suc, ◌+◌, ◌-◌, ◌≤◌, ◌<◌}
use mathlib.Core.Path.{◌≡◌, ◌∙◌, refl, ap, sym, subst}
use mathlib.Core.Bool.{Bool, true, false, not, ◌||◌, false≢true}
use mathlib.Core.List.{List, [], ◌∷◌, ◌++◌}
use mathlib.Core.Option.{some}
use native.Mathlib.Omega.{arith}
use borrow.Author.Tests.{eqb-true, eq-eqb, ne_eqb, leb-true, leb-false, le-leb}
use lib.Dec.{eqb, leb}
use lib.ListN.{length, drop, get_or, length-drop, take-append-drop, drop_of_length-le, get_or-eq_default}
use lib.Seq.{drop-drop}
use Rattle.nibl.specs.Bytes.{same, is_space, starts}
use Rattle.nibl.specs.Words.{Token, variable, decimal, hex, string, sign, keywords, first_keyword, index_from, index_in, is_symbol, pairs, pairs_with, begins, Keyword, Word, spaced, keyword, letter, decimal_digits, hex_digits, quoted, pair, symbol}
use Rattle.nibl.specs.found.Read.{got, step_in}
use Rattle.nibl.proofs.Keywords.{begins-short, begins-taken}
use Rattle.nibl.proofs.Words.{and_left, and_right, of-symbols, of-pairs, word_sound, word-complete}
use Rattle.word.specs.Found.{spelling, spelt, is_lone, PastIs, there, not_there}
use Rattle.word.proofs.Runs.{at_byte, parted, run_end, rest_at}
use Rattle.word.proofs.Answers.{at-word}
use Rattle.word.proofs.Standing.{Read}

-- How the signs are spelled
same-eq : (v w : List ℕ) → same v w ≡ true → v ≡ w
same-eq [] [] e = refl
same-eq [] (y ∷ w) e = absurd (false≢true e)
same-eq (x ∷ v) [] e = absurd (false≢true e)
same-eq (x ∷ v) (y ∷ w) e =
    let h = eqb-true x y (and_left (eqb x y) (same v w) e) in
    let i = same-eq v w (and_right (eqb x y) (same v w) e) in cc

record Indexed (n : ℕ) (ks : List (List ℕ)) (w : List ℕ) (k : ℕ) : Type 0 where
  high : n ≤ k
  whole : spelling ks (k - n) ≡ w

indexed : (n : ℕ) (ks : List (List ℕ)) (w : List ℕ) (k : ℕ) → index_from n ks w ≡ some k → Indexed n ks w k
indexed n [] w k e = let i : ◌≡◌ {A = ℕ} 0 1 = cc in absurd (omega arith)
indexed n (x ∷ ks) w k e = go (same x w) refl (indexed (suc n) ks w k) e
  where
    go : (t : Bool) → same x w ≡ t → (index_from (suc n) ks w ≡ some k → Indexed (suc n) ks w k) → (if t then some n else index_from (suc n) ks w) ≡ some k
        → Indexed n (x ∷ ks) w k
    go true s ih f =
        let q : n ≡ k = cc in
        let z : k - n ≡ zero = omega arith in
        record { high = omega arith; whole = rw z (same-eq x w s) }
    go false s ih f =
        let h = ih f in
        let z : k - n ≡ suc (k - suc n) = omega (arith, h.high) in
        record { high = omega (arith, h.high); whole = rw z h.whole }

spelt-keyword : (w : List ℕ) (k : ℕ) → index_in keywords w ≡ some k → spelt k ≡ w
spelt-keyword w k e = let h = indexed first_keyword keywords w k e in rw (le-leb first_keyword k h.high) h.whole

spelt-pair : (a b k : ℕ) → pairs a b ≡ some k → spelt k ≡ a ∷ b ∷ []
spelt-pair a b k = of-pairs (λ x y n. spelt n ≡ x ∷ y ∷ []) a b k refl refl refl

spelt-symbol : (b : ℕ) → is_symbol b ≡ true → spelt b ≡ b ∷ []
spelt-symbol b e = same-eq (spelt b) (b ∷ []) (of-symbols (λ x. same (spelt x) (x ∷ [])) b refl e)

-- what a word says of the text that begins with it
abbrev Spells : List ℕ → List ℕ → Token → Type 0
Spells s t (variable v) = Unit {0}
Spells s t (decimal n) = Unit {0}
Spells s t (hex n) = Unit {0}
Spells s t (string bs) = Unit {0}
Spells s t (sign k) = s ≡ spelt k ++ t

spells : {s t : List ℕ} {w : Token} → starts is_space s ≡ false → Word keywords s w t → Spells s t w
spells h (spaced w) = absurd (false≢true (sym h))
spells h (keyword {c} {d} {k} {cs} {s} r) = ap (λ l. l ++ s) (sym (spelt-keyword (c ∷ d ∷ cs) k r.spelled))
spells h (letter r) = tt
spells h (decimal_digits r l) = tt
spells h (hex_digits r) = tt
spells h (quoted a) = tt
spells h (pair {a} {b} {k} {s} e) = ap (λ l. l ++ s) (sym (spelt-pair a b k e))
spells h (symbol {b} {s} e n) = ap (λ l. l ++ s) (sym (spelt-symbol b e))

begins-front : (w t : List ℕ) → begins w (w ++ t) ≡ true
begins-front [] t = refl
begins-front (c ∷ w) t = rw (eq-eqb c c refl) (begins-front w t)

-- where a sign stands its spelling does
pub sign-spelt : (s : List ℕ) {t : List ℕ} {k : ℕ} → starts is_space s ≡ false → step_in keywords s ≡ got (sign k) t → begins (spelt k) s ≡ true
sign-spelt s {t} {k} h e = rw (spells h (word_sound keywords s t (sign k) e)) (begins-front (spelt k) t)

-- A spelling and a text, a byte at a time
module _ (w text : List ℕ) (i k : ℕ) where
  pub stands_on : i < length w → k < length text → get_or text k 0 ≡ get_or w i 0 → begins (drop i w) (drop k text) ≡ begins (drop (i + 1) w) (drop (k + 1) text)
  stands_on h l e = rw (at_byte w i h, at_byte text k l) (rw (eq-eqb (get_or w i 0) (get_or text k 0) (sym e)) refl)

  pub stands-not : i < length w → k < length text → (get_or text k 0 ≡ get_or w i 0 → ⊥) → begins (drop i w) (drop k text) ≡ false
  stands-not h l n = rw (at_byte w i h, at_byte text k l) (rw (ne_eqb (get_or w i 0) (get_or text k 0) (λ e. n (sym e))) refl)

  pub stands-short : i < length w → length text ≤ k → begins (drop i w) (drop k text) ≡ false
  stands-short h l = rw (at_byte w i h, drop_of_length-le text l) refl

  pub stands-whole : length w ≤ i → begins (drop i w) (drop k text) ≡ true
  stands-whole h = rw (drop_of_length-le w h) refl

-- where it stands it has room
pub stands-inside : (w text : List ℕ) (i : ℕ) → 0 < length w → begins w (drop i text) ≡ true → i + length w ≤ length text
stands-inside w text i h e = omega (arith, begins-short w (drop i text) e, length-drop i text)

-- Where a spelling stands the sign does, if no longer word begins there
split : (w s : List ℕ) → begins w s ≡ true → w ++ drop (length w) s ≡ s
split w s e = ap (λ l. l ++ drop (length w) s) (sym (begins-taken w s e)) ∙ take-append-drop (length w) s

pub keyword-there : (c d k : ℕ) (cs : List ℕ) → ((t : List ℕ) → Keyword keywords (c ∷ d ∷ cs) k t) → (s : List ℕ) → begins (c ∷ d ∷ cs) s ≡ true
    → step_in keywords s ≡ got (sign k) (drop (length (c ∷ d ∷ cs)) s)
keyword-there c d k cs r s e =
    let t = drop (length (c ∷ d ∷ cs)) s in
    subst (λ l. step_in keywords l ≡ got (sign k) t) (split (c ∷ d ∷ cs) s e) (word-complete keywords (keyword (r t)))

pub pair-there : (a b k : ℕ) → pairs a b ≡ some k → (s : List ℕ) → begins (a ∷ b ∷ []) s ≡ true → step_in keywords s ≡ got (sign k) (drop 2 s)
pair-there a b k h s e = subst (λ l. step_in keywords l ≡ got (sign k) (drop 2 s)) (split (a ∷ b ∷ []) s e) (word-complete keywords (pair h))

pub symbol-there : (b : ℕ) (s : List ℕ) → is_symbol b ≡ true → pairs_with b (drop 1 s) ≡ false → begins (b ∷ []) s ≡ true
    → step_in keywords s ≡ got (sign b) (drop 1 s)
symbol-there b s h n e = subst (λ l. step_in keywords l ≡ got (sign b) (drop 1 s)) (split (b ∷ []) s e) (word-complete keywords (symbol h n))

-- a symbol that begins no pair
lone-pair : (b c : ℕ) (t u : Bool) → eqb b 60 ≡ t → eqb b 62 ≡ u → not (t || u) ≡ true → pairs_with b (c ∷ []) ≡ false
lone-pair b c false false e f h = rw (e, f) refl
lone-pair b c true u e f h = absurd (false≢true h)
lone-pair b c false true e f h = absurd (false≢true h)

pub lone-pairs : (b : ℕ) (s : List ℕ) → is_lone b ≡ true → pairs_with b s ≡ false
lone-pairs b [] h = refl
lone-pairs b (c ∷ s) h = lone-pair b c (eqb b 60) (eqb b 62) refl refl (and_right (is_symbol b) (not (eqb b 60 || eqb b 62)) h)

-- At a position, past spaces
module _ (text : List ℕ) (from i : ℕ) (e : i ≡ run_end is_space text from) where
  pub unspaced : starts is_space (drop i text) ≡ false
  unspaced = rw (← rest_at is_space text from i e) (parted is_space (drop from text)).stops

  pub sign_at : (w : List ℕ) (k : ℕ) → 0 < length w → begins w (drop i text) ≡ true → step_in keywords (drop i text) ≡ got (sign k) (drop (length w) (drop i text))
      → Read (step_in keywords) text from (sign k) (record { at = i + length w })
  sign_at w k l b f =
      let h = begins-short w (drop i text) b in
      record {
        word = at-word keywords text from i e ∙ f ∙ ap (got (sign k)) (drop-drop (length w) i text);
        on = omega arith;
        within = omega (arith, length-drop i text);
      }

  pub sign-not : (k : ℕ) → begins (spelt k) (drop i text) ≡ false → (t : List ℕ) → step_in keywords (drop from text) ≡ got (sign k) t → ⊥
  sign-not k b t f = false≢true (sym b ∙ sign-spelt (drop i text) unspaced (sym (at-word keywords text from i e) ∙ f))

-- A byte at a position: one that is not 0 stands in the text
pub byte_inside : (text : List ℕ) (i : ℕ) → (get_or text i 0 ≡ 0 → ⊥) → i < length text
byte_inside text i n = go (leb (length text) i) refl
  where
    go : (t : Bool) → leb (length text) i ≡ t → i < length text
    go true h = absurd (n (get_or-eq_default text 0 (leb-true (length text) i h)))
    go false h = leb-false (length text) i h

byte-not : (text : List ℕ) (i b : ℕ) → (get_or text i 0 ≡ b → ⊥) → begins (b ∷ []) (drop i text) ≡ false
byte-not text i b n = go (leb (length text) i) refl
  where
    go : (t : Bool) → leb (length text) i ≡ t → begins (b ∷ []) (drop i text) ≡ false
    go true h = stands-short (b ∷ []) text 0 i (omega arith) (leb-true (length text) i h)
    go false h = stands-not (b ∷ []) text 0 i (omega arith) (leb-false (length text) i h) n

lone-symbol : (b : ℕ) → is_lone b ≡ true → is_symbol b ≡ true
lone-symbol b h = and_left (is_symbol b) (not (eqb b 60 || eqb b 62)) h

-- a symbol is no 0
symbol-some : (b : ℕ) → is_symbol b ≡ true → b ≡ 0 → ⊥
symbol-some b h e = false≢true (rw e at h)

module _ (text : List ℕ) (from i b : ℕ) (e : i ≡ run_end is_space text from) (h : is_lone b ≡ true) where
  pub symbol-inside : get_or text i 0 ≡ b → i < length text
  symbol-inside f = byte_inside text i (λ z. symbol-some b (lone-symbol b h) (sym f ∙ z))

  pub past-there : get_or text i 0 ≡ b → PastIs b text from (Some (i + 1))
  past-there f =
      let k = symbol-inside f in
      let here : begins (b ∷ []) (drop i text) ≡ true = stands_on (b ∷ []) text 0 i (omega arith) k f in
      let r = sign_at text from i e (b ∷ []) b (omega arith) here (symbol-there b (drop i text) (lone-symbol b h) (lone-pairs b (drop 1 (drop i text)) h) here) in
      there r.word r.on r.within

  pub past-other : (get_or text i 0 ≡ b → ⊥) → PastIs b text from None
  past-other n = not_there (sign-not text from i e b (ap (λ w. begins w (drop i text)) (spelt-symbol b (lone-symbol b h)) ∙ byte-not text i b n))
