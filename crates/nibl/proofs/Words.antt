-- The function of words finds exactly the words of the rule; so a text begins with at most one word. Assumes nothing.
use Prim.Native.Nat.{ℕ, zero, suc, ◌-◌, ◌%◌, ◌≤◌}
use mathlib.Core.Path.{◌≡◌, refl, sym, ap, ◌∙◌, subst}
use mathlib.Core.Bool.{Bool, true, false, false≢true}
use mathlib.Core.List.{List, [], ◌∷◌, ◌++◌}
use mathlib.Core.Option.{Option, none, some}
use native.Mathlib.Omega.{arith}
use borrow.Author.Tests.{leb-true, le-leb, eqb-true}
use lib.Dec.{leb, eqb}
use lib.ListN.{length, take, drop, take-append-drop, length-append}
use lib.Seq.{length-take-le, take-append_seam, drop-append_seam}
use Rattle.nibl.specs.Bytes.{is_space, is_digit, is_capital, is_hex_digit, is_quotable, All, none as done, each, starts, front, past, all, decimal_value, hex_value}
use Rattle.nibl.specs.Words.{Token, variable, decimal, hex, string, sign, index_in, pairs, there, pairs_with, is_symbol, ByteRun, none_over, Keyword, Word, spaced, keyword, letter, decimal_digits, hex_digits, quoted, pair, symbol}
use Rattle.nibl.specs.Longest.{is_whole}
use Rattle.nibl.specs.found.Read.{FrontWord, at_end, wrong, got, sign_or, letter_step, letters_step, digits_step, hex_step, quoted_step, pair_or, symbol_step, word_step, step_in}
pub use Rattle.nibl.proofs.Tests.{if-split, and_left, and_right, or_cases, or-true, of-symbols, no_symbol, of-pairs, between, capital-other, digit-other, all_true, true-all, front-run}
use Rattle.nibl.proofs.Tests.{front-all, past-stops, front-past, past-run, longest}
use Rattle.nibl.proofs.Keywords.{place-least, take-run, first_of, run-least, over-all, letters-down, all-taken, run_short, over-step}

-- Sound: what a step says of the text s
pub data Says (table : List (List ℕ)) (s : List ℕ) : FrontWord → Type 0 where
  spaces : All is_space s → Says table s at_end
  no_word : Says table s wrong
  a_word : {w : Token} {s' : List ℕ} → Word table s w s' → Says table s (got w s')

module _ (table : List (List ℕ)) where
  letter-says : (s : List ℕ) → starts is_capital s ≡ true → Says table s (letter_step s)
  letter-says [] c = no_word
  letter-says (b ∷ s) c =
      if-split (Says table (b ∷ s)) (starts is_capital s) (λ _. no_word) (λ e. a_word (letter (record { some = c; each = each c done; longest = e })))

  keyword-says : (n k : ℕ) (s : List ℕ) → suc (suc n) ≤ length (front is_capital s) → none_over (suc (suc n)) table (front is_capital s) ≡ true
      → index_in table (take (suc (suc n)) s) ≡ some k → Says table s (got (sign k) (drop (suc (suc n)) s))
  keyword-says n k [] h o e = absurd (omega arith)
  keyword-says n k (c ∷ []) h o e = absurd (if-split (λ (l : List ℕ). suc (suc n) ≤ length l → ⊥) (is_capital c) (λ _. omega arith) (λ _. omega arith) h)
  keyword-says n k (c ∷ d ∷ s) h o e =
      let text : List ℕ = c ∷ d ∷ s in
      let whole : c ∷ d ∷ (take n s ++ drop n s) ≡ text = rw (take-append-drop n s) in
      let size : length (c ∷ d ∷ take n s) ≡ suc (suc n) = length-take-le (suc (suc n)) text (omega (arith, run_short is_capital text)) in
      subst (λ (l : List ℕ). Says table l (got (sign k) (drop n s))) whole
      (a_word (keyword {c = c} {d = d} {k = k} {cs = take n s} {s = drop n s} (record {
        each = rw (take-run is_capital (suc (suc n)) text h) (all-taken (suc (suc n)) (front-all is_capital text));
        spelled = e;
        longest = rw (size, take-append-drop n s) o;
      })))

  -- n letters and fewer are left to try
  letters-says : (n : ℕ) (s : List ℕ) → starts is_capital s ≡ true → n ≤ length (front is_capital s) → none_over n table (front is_capital s) ≡ true
      → Says table s (letters_step table n s)
  unfolding letters_step
  letters-says zero s c h o = letter-says s c
  letters-says (suc zero) s c h o = letter-says s c
  letters-says (suc (suc n)) s c h o = go (index_in table (take (suc (suc n)) s)) refl (letters-says (suc n) s c (omega arith))
    where
      go : (r : Option ℕ) → index_in table (take (suc (suc n)) s) ≡ r
          → (none_over (suc n) table (front is_capital s) ≡ true → Says table s (letters_step table (suc n) s))
          → Says table s (sign_or r (drop (suc (suc n)) s) (letters_step table (suc n) s))
      go none e ih = ih (over-step (suc n) 128 table (front is_capital s) o (rw (← take-run is_capital (suc (suc n)) s h) e))
      go (some k) e ih = keyword-says n k s h o e

  digits-says : (ds s : List ℕ) → ByteRun is_digit ds s → Says table (ds ++ s) (digits_step (decimal_value 0 ds) s)
  digits-says ds s r =
      if-split (Says table (ds ++ s)) (leb (decimal_value 0 ds) 32767) (λ e. a_word (decimal_digits r (leb-true (decimal_value 0 ds) 32767 e))) (λ _. no_word)

  hex-says : (ds s : List ℕ) → All is_hex_digit ds → starts is_hex_digit s ≡ false → Says table (35 ∷ ds ++ s) (hex_step ds s)
  hex-says [] s a e = no_word
  hex-says (d ∷ ds) s (each h a) e = a_word (hex_digits (record { some = h; each = each h a; longest = e }))

  quoted-says : (bs s : List ℕ) → All is_quotable bs → Says table (34 ∷ bs ++ s) (quoted_step bs s)
  quoted-says bs [] a = no_word
  quoted-says bs (b ∷ s) a =
      if-split (Says table (34 ∷ bs ++ b ∷ s)) (eqb b 34) (λ e. rw (eqb-true b 34 e) (a_word (quoted a))) (λ _. no_word)

  symbol-says : (b : ℕ) (s : List ℕ) → is_symbol b ≡ true → Says table (b ∷ s) (symbol_step b s)
  symbol-says b [] e = a_word (symbol e refl)
  symbol-says b (c ∷ s) e = go (pairs b c) refl
    where
      go : (o : Option ℕ) → pairs b c ≡ o → Says table (b ∷ c ∷ s) (pair_or o b c s)
      go none h = a_word (symbol {b = b} {s = c ∷ s} e (rw h))
      go (some k) h = a_word (pair h)

  -- what is said of a run and what follows is said of the text that they are
  of-run : (p : ℕ → Bool) (f : List ℕ → List ℕ) (s : List ℕ) (r : FrontWord) → Says table (f (front p s ++ past p s)) r → Says table (f s) r
  of-run p f s r h = rw (front-past p s) at h

  word-says : (b : ℕ) (s : List ℕ) → Says table (b ∷ s) (word_step table b s)
  unfolding word_step
  word-says b s =
      let P = Says table (b ∷ s) in
      if-split P (is_capital b) (λ e. letters-says _ (b ∷ s) e (omega arith) (over-all table (front is_capital (b ∷ s)))) (λ _.
      if-split P (is_digit b) (λ e. of-run is_digit (λ l. l) (b ∷ s) _ (digits-says _ _ (longest is_digit b s e))) (λ _.
      if-split P (eqb b 35) (λ e. rw (eqb-true b 35 e) (of-run is_hex_digit (λ l. 35 ∷ l) s _ (hex-says _ _ (front-all is_hex_digit s) (past-stops is_hex_digit s)))) (λ _.
      if-split P (eqb b 34) (λ e. rw (eqb-true b 34 e) (of-run is_quotable (λ l. 34 ∷ l) s _ (quoted-says _ _ (front-all is_quotable s)))) (λ _.
      if-split P (is_symbol b) (λ e. symbol-says b s e) (λ _. no_word)))))

  space-says : (s : List ℕ) {r : FrontWord} → Says table s r → Says table (32 ∷ s) r
  space-says s (spaces a) = spaces (each refl a)
  space-says s no_word = no_word
  space-says s (a_word w) = a_word (spaced w)

  pub step-says : (s : List ℕ) → Says table s (step_in table s)
  unfolding step_in
  step-says [] = spaces done
  step-says (b ∷ s) = go (is_space b) refl (step-says s)
    where
      go : (t : Bool) → is_space b ≡ t → Says table s (step_in table s) → Says table (b ∷ s) (elim t [ true ↦ step_in table s | false ↦ word_step table b s ])
      go true e h = rw (eqb-true b 32 e) (space-says s h)
      go false e h = word-says b s

  word-said : {s s' : List ℕ} {w : Token} → Says table s (got w s') → Word table s w s'
  word-said (a_word w) = w

  spaces-said : {s : List ℕ} → Says table s at_end → All is_space s
  spaces-said (spaces a) = a

  pub word_sound : (s s' : List ℕ) (w : Token) → step_in table s ≡ got w s' → Word table s w s'
  word_sound s s' w e = word-said (rw e at (step-says s))

  pub ended-sound : (s : List ℕ) → step_in table s ≡ at_end → All is_space s
  ended-sound s e = spaces-said (rw e at (step-says s))

-- The function, by the first byte
module _ (table : List (List ℕ)) where
  pub step-space : (b : ℕ) (s : List ℕ) → is_space b ≡ true → step_in table (b ∷ s) ≡ step_in table s
  unfolding step_in
  step-space b s e = rw (e, step_in)

  pub step-word : (b : ℕ) (s : List ℕ) → is_space b ≡ false → step_in table (b ∷ s) ≡ word_step table b s
  unfolding step_in
  step-word b s e = rw (e, step_in)

  pub word-capital : (b : ℕ) (s : List ℕ) → is_capital b ≡ true → word_step table b s ≡ letters_step table (length (front is_capital (b ∷ s))) (b ∷ s)
  unfolding word_step
  word-capital b s e = rw (e, word_step)

  pub word-digit : (b : ℕ) (s : List ℕ) → is_digit b ≡ true → word_step table b s ≡ digits_step (decimal_value 0 (front is_digit (b ∷ s))) (past is_digit (b ∷ s))
  unfolding word_step
  word-digit b s e = rw ((digit-other b e).1, word_step) (rw e)

  pub word-symbol : (b : ℕ) (s : List ℕ) → is_symbol b ≡ true → word_step table b s ≡ symbol_step b s
  unfolding word_step
  word-symbol b s e =
      rw (no_symbol is_capital b refl e, word_step) (rw (no_symbol is_digit b refl e)
      (rw (no_symbol (λ x. eqb x 35) b refl e) (rw (no_symbol (λ x. eqb x 34) b refl e) (rw e))))

-- Complete
module _ (table : List (List ℕ)) where
  -- where a capital stands, from any length on over which there is no keyword
  letters-at : (b a : ℕ) (s : List ℕ) → is_capital b ≡ true → none_over a table (front is_capital (b ∷ s)) ≡ true → 1 ≤ a
      → a ≤ length (front is_capital (b ∷ s)) → step_in table (b ∷ s) ≡ letters_step table a (b ∷ s)
  letters-at b a s c o h l =
      step-word table b s (capital-other b c).0 ∙ word-capital table b s c ∙ letters-down table (b ∷ s) a _ o h l (omega arith)

  -- "anything else has no reading"
  pub no-word : (b : ℕ) (s : List ℕ) → is_capital b ≡ true → starts is_capital s ≡ true → none_over 1 table (front is_capital (b ∷ s)) ≡ true
      → step_in table (b ∷ s) ≡ wrong
  unfolding letters_step
  no-word b s c e o = letters-at b 1 s c o (omega arith) (run-least {p = is_capital} {w = b ∷ []} (each c done) s) ∙ rw e

  letter_at : (c : ℕ) (s : List ℕ) → ByteRun is_capital (c ∷ []) s → step_in table (c ∷ s) ≡ got (variable (c - 65)) s
  unfolding letters_step
  letter_at c s r =
      let e = front-run r.each s r.longest in
      letters-at c 1 s r.some (rw e (over-all table (c ∷ []))) (omega arith) (omega (arith, ap length e)) ∙ rw r.longest

  keyword-at : (c d k : ℕ) (cs s : List ℕ) → Keyword table (c ∷ d ∷ cs) k s → step_in table (c ∷ d ∷ cs ++ s) ≡ got (sign k) s
  unfolding letters_step
  keyword-at c d k cs s r =
      letters-at c (suc (suc (length cs))) (d ∷ cs ++ s) (first_of r.each) r.longest (omega arith) (run-least r.each s)
      ∙ rw (take-append_seam cs s, drop-append_seam cs s, r.spelled)

  digits-at : (ds s : List ℕ) → ByteRun is_digit ds s → step_in table (ds ++ s) ≡ digits_step (decimal_value 0 ds) s
  digits-at [] s r = absurd (false≢true r.some)
  digits-at (b ∷ ds) s r =
      let c : is_digit b ≡ true = r.some in
      step-word table b (ds ++ s) (digit-other b c).0 ∙ word-digit table b (ds ++ s) c
      ∙ rw (front-run r.each s r.longest, past-run r.each s r.longest)

  hex-at : (ds s : List ℕ) → ByteRun is_hex_digit ds s → step_in table (35 ∷ ds ++ s) ≡ got (hex (hex_value 0 ds % 65536)) s
  hex-at [] s r = absurd (false≢true r.some)
  hex-at (d ∷ ds) s r =
      unfold step_in word_step in (rw (front-run r.each s r.longest, past-run r.each s r.longest))

  symbol-at : (b : ℕ) (s : List ℕ) → pairs_with b s ≡ false → symbol_step b s ≡ got (sign b) s
  symbol-at b [] n = refl
  symbol-at b (c ∷ s) n = go (pairs b c) n
    where
      go : (o : Option ℕ) → there o ≡ false → pair_or o b c s ≡ got (sign b) (c ∷ s)
      go none e = refl
      go (some k) e = absurd (false≢true (sym e))

  pub word-complete : {s s' : List ℕ} {w : Token} → Word table s w s' → step_in table s ≡ got w s'
  unfolding step_in
  word-complete (spaced w) = word-complete w
  word-complete (keyword {c} {d} {k} {cs} {s} r) = keyword-at c d k cs s r
  word-complete (letter {c} {s} r) = letter_at c s r
  word-complete (decimal_digits {ds} {s} r l) = digits-at ds s r ∙ rw (le-leb (decimal_value 0 ds) 32767 l)
  word-complete (hex_digits {ds} {s} r) = hex-at ds s r
  word-complete (quoted {bs} {s} a) = unfold word_step in (rw (front-run a (34 ∷ s) refl, past-run a (34 ∷ s) refl))
  word-complete (pair {a} {b} {k} {s} e) =
      of-pairs (λ x y n. step_in table (x ∷ y ∷ s) ≡ got (sign n) s) a b k (unfold word_step in refl) (unfold word_step in refl) (unfold word_step in refl) e
  word-complete (symbol {b} {s} e n) = step-word table b s (no_symbol is_space b refl e) ∙ word-symbol table b s e ∙ symbol-at b s n

  pub ended-complete : {s : List ℕ} → All is_space s → step_in table s ≡ at_end
  unfolding step_in
  ended-complete done = refl
  ended-complete (each {b} {s} e a) = step-space table b s e ∙ ended-complete a

  -- a text begins with at most one word, and one text follows it
  pub word-unique : {s s' s'' : List ℕ} {w v : Token} → Word table s w s' → Word table s v s'' → (w ≡ v) × (s' ≡ s'')
  word-unique p q = let e = word-complete p in let f = word-complete q in (cc, cc)

  -- a text that begins with a word is no text of spaces
  pub word-unspaced : {s s' : List ℕ} {w : Token} → Word table s w s' → all is_space s ≡ false
  word-unspaced {s} {s'} {w} p = go (all is_space s) refl
    where
      go : (t : Bool) → all is_space s ≡ t → t ≡ false
      go true h =
          let e = word-complete p in
          let f = ended-complete (true-all is_space s h) in
          let z : ◌≡◌ {A = ℕ} 0 1 = cc in absurd (omega arith)
      go false h = refl

-- only the spelling of a sign depends on the table
module _ (table other : List (List ℕ)) where
  abbrev is_sign : Token → Bool
  is_sign (variable v) = false
  is_sign (decimal n) = false
  is_sign (hex n) = false
  is_sign (string bs) = false
  is_sign (sign k) = true

  pub retabled : {s s' : List ℕ} {w : Token} → is_sign w ≡ false → Word table s w s' → Word other s w s'
  retabled e (spaced w) = spaced (retabled e w)
  retabled e (keyword r) = absurd (false≢true (sym e))
  retabled e (letter r) = letter r
  retabled e (decimal_digits r l) = decimal_digits r l
  retabled e (hex_digits r) = hex_digits r
  retabled e (quoted a) = quoted a
  retabled e (pair h) = absurd (false≢true (sym e))
  retabled e (symbol h n) = absurd (false≢true (sym e))

-- a pair is no first byte of one
pair-whole : (table : List (List ℕ)) (t : List ℕ) (a b k : ℕ) (s : List ℕ) → pairs a b ≡ some k → is_whole table t (sign k) s ≡ true
pair-whole table t a b k [] = of-pairs (λ x y n. is_whole table t (sign n) [] ≡ true) a b k refl refl refl
pair-whole table t a b k (c ∷ s) = of-pairs (λ x y n. is_whole table t (sign n) (c ∷ s) ≡ true) a b k refl refl refl

keyword-whole : (table : List (List ℕ)) (c d k : ℕ) (cs s : List ℕ) → Keyword table (c ∷ d ∷ cs) k s
    → is_whole table (past is_space (c ∷ d ∷ cs ++ s)) (sign k) s ≡ true
keyword-whole table c d k cs s r =
    let size : suc (suc (length (cs ++ s))) - length s ≡ suc (suc (length cs)) = omega (arith, length-append cs s) in
    rw (le-leb 128 k (place-least 128 table (c ∷ d ∷ cs) k r.spelled), (capital-other c (first_of r.each)).0) (rw size r.longest)

pub word-longest : {table : List (List ℕ)} {s s' : List ℕ} {w : Token} → Word table s w s' → is_whole table (past is_space s) w s' ≡ true
word-longest (spaced w) = word-longest w
word-longest {table} (keyword {c} {d} {k} {cs} {s} r) = keyword-whole table c d k cs s r
word-longest (letter r) = rw r.longest
word-longest (decimal_digits r l) = rw r.longest
word-longest (hex_digits r) = rw r.longest
word-longest (quoted a) = refl
word-longest {table} (pair {a} {b} {k} {s} e) = pair-whole table (past is_space (a ∷ b ∷ s)) a b k s e
word-longest (symbol {b} e n) = rw (no_symbol (leb 128) b refl e) (rw n)

-- "A run of digits is a constant, at most 32,767"
pub decimal-small : {table : List (List ℕ)} {n : ℕ} {s s' : List ℕ} → Word table s (decimal n) s' → n ≤ 32767
decimal-small (spaced w) = decimal-small w
decimal-small (decimal_digits r l) = l
