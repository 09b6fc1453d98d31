-- One law for each answer of the word reader. Assumes nothing.
use Prim.Native.Nat.{ℕ, ◌+◌, ◌≤◌, ◌<◌}
use mathlib.Core.Path.{◌≡◌, ◌∙◌, refl, ap, sym}
use mathlib.Core.Bool.{Bool, true, false}
use mathlib.Core.List.{List, [], ◌∷◌}
use native.Mathlib.Omega.{arith}
use borrow.Author.Tests.{eq-eqb, ne_eqb, eqb-true, eqb-false}
use lib.Dec.{eqb}
use lib.ListN.{length, drop, get_or, length-drop, drop_of_length-le}
use Rattle.nibl.specs.Bytes.{class_of, class_digit, class_capital, class_quote, is_space, is_capital, is_digit, is_quotable, starts, past}
use Rattle.nibl.specs.found.Read.{FrontWord, at_end, word_step, step_in}
use Rattle.nibl.specs.found.GaveUp.{word_gave_up, gave_up}
use Rattle.letter.proofs.Classes.{capital, digit, quote}
use Rattle.word.specs.declared.Word.{Word}
use Rattle.word.specs.declared.Word.TheVariants.{Variable, Decimal, Hex, Text, Sign, End, Wrong}
use Rattle.word.specs.Found.{Behind, Stopped, AnswerIs, WordIs, letters_at, letters_left, decimal_at, decimal_left, hex_at, quoted_at, quoted_left, symbol_at}
use Rattle.word.proofs.Runs.{at_byte, past-go, past_stop, parted, run_end, run_at, rest_at}

-- A string
module _ (text : List ℕ) (from to : ℕ) (e : to ≡ run_end is_quotable text from) where
  pub quoted-end : length text ≤ to → AnswerIs quoted_at quoted_left text from (Wrong (record { at = length text }))
  quoted-end h =
      let none : past is_quotable (drop from text) ≡ [] = rest_at is_quotable text from to e ∙ drop_of_length-le text h in
      record { same = rw none refl; inside = tt; stopped = rw none (omega arith) }

  pub quoted-other : to < length text → eqb (class_of (get_or text to 0)) class_quote ≡ false → AnswerIs quoted_at quoted_left text from (Wrong (record { at = to }))
  quoted-other h f =
      record {
        same = rw (rest_at is_quotable text from to e, at_byte text to h, sym (quote (get_or text to 0)) ∙ f) refl;
        inside = tt;
        stopped = rw (rest_at is_quotable text from to e) (omega (arith, length-drop to text));
      }

  pub quoted-closed : to < length text → eqb (class_of (get_or text to 0)) class_quote ≡ true → AnswerIs quoted_at quoted_left text from (Text from to (record { at = to + 1 }))
  quoted-closed h f =
      record { same = rw (rest_at is_quotable text from to e, at_byte text to h, sym (quote (get_or text to 0)) ∙ f, run_at is_quotable text from to e) refl; inside = (omega arith, omega arith, omega arith, refl); stopped = tt }

-- Any word, past spaces
step-blank : (table : List (List ℕ)) (b : ℕ) (s : List ℕ) → is_space b ≡ true → step_in table (b ∷ s) ≡ step_in table s
unfolding step_in
step-blank table b s e = rw (e, step_in) refl

pub step-word : (table : List (List ℕ)) (b : ℕ) (s : List ℕ) → is_space b ≡ false → step_in table (b ∷ s) ≡ word_step table b s
unfolding step_in
step-word table b s e = rw (e, step_in) refl

past-blank : (table : List (List ℕ)) (b : ℕ) (s : List ℕ) → step_in table s ≡ step_in table (past is_space s) → (t : Bool) → is_space b ≡ t
    → step_in table (b ∷ s) ≡ step_in table (past is_space (b ∷ s))
past-blank table b s ih true e = step-blank table b s e ∙ ih ∙ ap (step_in table) (sym (past-go is_space b s e))
past-blank table b s ih false e = ap (step_in table) (sym (past_stop is_space (b ∷ s) e))

pub step_past : (table : List (List ℕ)) (s : List ℕ) → step_in table s ≡ step_in table (past is_space s)
step_past table [] = refl
step_past table (b ∷ s) = past-blank table b s (step_past table s) (is_space b) refl

pub step_end : (table : List (List ℕ)) → step_in table [] ≡ at_end
unfolding step_in
step_end table = refl

-- where a reader gave up, past spaces too
left-blank : (table : List (List ℕ)) (b : ℕ) (s : List ℕ) → is_space b ≡ true → gave_up table (b ∷ s) ≡ gave_up table s
unfolding gave_up
left-blank table b s e = rw (e, gave_up) refl

left_word : (table : List (List ℕ)) (b : ℕ) (s : List ℕ) → is_space b ≡ false → gave_up table (b ∷ s) ≡ word_gave_up table b s
unfolding gave_up
left_word table b s e = rw (e, gave_up) refl

left-past : (table : List (List ℕ)) (s : List ℕ) → gave_up table s ≡ gave_up table (past is_space s)
left-past table [] = refl
left-past table (b ∷ s) = go (left-past table s) (is_space b) refl
  where
    go : gave_up table s ≡ gave_up table (past is_space s) → (t : Bool) → is_space b ≡ t → gave_up table (b ∷ s) ≡ gave_up table (past is_space (b ∷ s))
    go ih true e = left-blank table b s e ∙ ih ∙ ap (gave_up table) (sym (past-go is_space b s e))
    go ih false e = ap (gave_up table) (sym (past_stop is_space (b ∷ s) e))

-- the first byte tells the kind
module _ (table : List (List ℕ)) (b : ℕ) (s : List ℕ) where
  word-letters : is_capital b ≡ true → (word_step table b s ≡ letters_at table (b ∷ s)) × (word_gave_up table b s ≡ letters_left table (b ∷ s))
  unfolding word_step word_gave_up
  word-letters e = (rw (e, word_step) refl, rw (e, word_gave_up) refl)

  module _ (c : is_capital b ≡ false) where
    word-decimal : is_digit b ≡ true → (word_step table b s ≡ decimal_at (b ∷ s)) × (word_gave_up table b s ≡ decimal_left (b ∷ s))
    unfolding word_step word_gave_up
    word-decimal e = (rw (c, word_step) (rw e refl), rw (c, word_gave_up) (rw e refl))

    module _ (d : is_digit b ≡ false) where
      word-hex : b ≡ 35 → (word_step table b s ≡ hex_at s) × (word_gave_up table b s ≡ length s)
      unfolding word_step word_gave_up
      word-hex e = (rw (c, word_step) (rw (d, eq-eqb b 35 e) refl), rw (c, word_gave_up) (rw (d, eq-eqb b 35 e) refl))

      word-quoted : b ≡ 34 → (word_step table b s ≡ quoted_at s) × (word_gave_up table b s ≡ quoted_left s)
      unfolding word_step word_gave_up
      word-quoted e =
          let n = ne_eqb b 35 (λ f. omega arith) in
          (rw (c, word_step) (rw (d, n, eq-eqb b 34 e) refl), rw (c, word_gave_up) (rw (d, n, eq-eqb b 34 e) refl))

      word-symbol : (b ≡ 35 → ⊥) → (b ≡ 34 → ⊥) → (word_step table b s ≡ symbol_at (b ∷ s)) × (word_gave_up table b s ≡ length (b ∷ s))
      unfolding word_step word_gave_up
      word-symbol e f =
          (rw (c, word_step) (rw (d, ne_eqb b 35 e, ne_eqb b 34 f) refl), rw (c, word_gave_up) (rw (d, ne_eqb b 35 e, ne_eqb b 34 f) refl))

-- the cursor past a word lies behind an earlier position too
earlier : (n from i : ℕ) → from ≤ i → (r : Word) → Behind i n r → Behind from n r
earlier n from i h (Variable v c) w = omega arith
earlier n from i h (Decimal v c) w = omega arith
earlier n from i h (Hex v c) w = omega arith
earlier n from i h (Text f t c) w = omega arith
earlier n from i h (Sign k c) w = omega arith
earlier n from i h End w = tt
earlier n from i h (Wrong c) w = tt

-- and where a reader gave up, so did the one that asked it
asked : (f g : List ℕ → ℕ) (text : List ℕ) (from i : ℕ) → g (drop from text) ≡ f (drop i text) → (r : Word) → Stopped f text i r → Stopped g text from r
asked f g text from i e (Variable v c) w = tt
asked f g text from i e (Decimal v c) w = tt
asked f g text from i e (Hex v c) w = tt
asked f g text from i e (Text a b c) w = tt
asked f g text from i e (Sign k c) w = tt
asked f g text from i e End w = tt
asked f g text from i e (Wrong c) w = rw e w

module _ (table : List (List ℕ)) (text : List ℕ) (from i : ℕ) (e : i ≡ run_end is_space text from) where
  pub at-word : step_in table (drop from text) ≡ step_in table (drop i text)
  at-word = step_past table (drop from text) ∙ ap (step_in table) (rest_at is_space text from i e)

  at_left : gave_up table (drop from text) ≡ gave_up table (drop i text)
  at_left = left-past table (drop from text) ∙ ap (gave_up table) (rest_at is_space text from i e)

  pub found-end : length text ≤ i → WordIs table text from End
  found-end h = record { same = sym (at-word ∙ ap (step_in table) (drop_of_length-le text h) ∙ step_end table); inside = tt; stopped = tt }

  module _ (h : i < length text) where
    stops : is_space (get_or text i 0) ≡ false
    stops = sym (ap (starts is_space) (rest_at is_space text from i e ∙ at_byte text i h)) ∙ (parted is_space (drop from text)).stops

    -- a word that was read at i
    pub found-there : (r : Word) → WordIs table text i r → WordIs table text from r
    found-there r w =
        record {
          same = w.same ∙ sym at-word;
          inside = earlier (length text) from i (omega arith) r w.inside;
          stopped = asked (gave_up table) (gave_up table) text from i at_left r w.stopped;
        }

    -- a word that was read at i or behind it, as the step that the first byte calls for
    found : (step : List ℕ → FrontWord) (left : List ℕ → ℕ) (j : ℕ) (r : Word)
        → (word_step table (get_or text i 0) (drop (i + 1) text) ≡ step (drop j text)) × (word_gave_up table (get_or text i 0) (drop (i + 1) text) ≡ left (drop j text))
        → i ≤ j → AnswerIs step left text j r → WordIs table text from r
    found step left j r f l w =
        let b = get_or text i 0 in
        let s = drop (i + 1) text in
        record {
          same = w.same ∙ sym (at-word ∙ ap (step_in table) (at_byte text i h) ∙ step-word table b s stops ∙ f.0);
          inside = earlier (length text) from j (omega arith) r w.inside;
          stopped = asked left (gave_up table) text from j (at_left ∙ ap (gave_up table) (at_byte text i h) ∙ left_word table b s stops ∙ f.1) r w.stopped;
        }

    whole : (step : List ℕ → FrontWord) (left : List ℕ → ℕ) (r : Word)
        → (word_step table (get_or text i 0) (drop (i + 1) text) ≡ step (get_or text i 0 ∷ drop (i + 1) text))
        × (word_gave_up table (get_or text i 0) (drop (i + 1) text) ≡ left (get_or text i 0 ∷ drop (i + 1) text))
        → AnswerIs step left text i r → WordIs table text from r
    whole step left r f = found step left i r (f.0 ∙ ap step (sym (at_byte text i h)), f.1 ∙ ap left (sym (at_byte text i h))) (omega arith)

    -- by the class k of the first byte
    module _ (k : ℕ) (f : k ≡ class_of (get_or text i 0)) where
      pub is-capital : k ≡ class_capital → is_capital (get_or text i 0) ≡ true
      is-capital q = sym (capital (get_or text i 0)) ∙ ap (λ (n : ℕ). eqb n class_capital) (sym f ∙ q)

      pub is_digit_lem : k ≡ class_digit → is_digit (get_or text i 0) ≡ true
      is_digit_lem q = sym (digit (get_or text i 0)) ∙ ap (λ (n : ℕ). eqb n class_digit) (sym f ∙ q)

      no-capital : (k ≡ class_capital → ⊥) → is_capital (get_or text i 0) ≡ false
      no-capital q = sym (capital (get_or text i 0)) ∙ ne_eqb (class_of (get_or text i 0)) class_capital (λ g. q (f ∙ g))

      no_digit : (k ≡ class_digit → ⊥) → is_digit (get_or text i 0) ≡ false
      no_digit q = sym (digit (get_or text i 0)) ∙ ne_eqb (class_of (get_or text i 0)) class_digit (λ g. q (f ∙ g))

      pub found-letters : (r : Word) → k ≡ class_capital → AnswerIs (letters_at table) (letters_left table) text i r → WordIs table text from r
      found-letters r q = whole (letters_at table) (letters_left table) r (word-letters table (get_or text i 0) (drop (i + 1) text) (is-capital q))

      pub found-decimal : (r : Word) → k ≡ class_digit → AnswerIs decimal_at decimal_left text i r → WordIs table text from r
      found-decimal r q = whole decimal_at decimal_left r (word-decimal table (get_or text i 0) (drop (i + 1) text) (no-capital (λ e. omega arith)) (is_digit_lem q))

      pub found-quoted : (r : Word) → k ≡ class_quote → AnswerIs quoted_at quoted_left text (i + 1) r → WordIs table text from r
      found-quoted r q =
          let b = get_or text i 0 in
          let mark : b ≡ 34 = eqb-true b 34 (sym (quote b) ∙ ap (λ (n : ℕ). eqb n class_quote) (sym f ∙ q)) in
          found quoted_at quoted_left (i + 1) r (word-quoted table b (drop (i + 1) text) (no-capital (λ e. omega arith)) (no_digit (λ e. omega arith)) mark) (omega arith)

      module _ (c : k ≡ class_capital → ⊥) (d : k ≡ class_digit → ⊥) where
        pub found-hex : (r : Word) → get_or text i 0 ≡ 35 → AnswerIs hex_at length text (i + 1) r → WordIs table text from r
        found-hex r h = found hex_at length (i + 1) r (word-hex table (get_or text i 0) (drop (i + 1) text) (no-capital c) (no_digit d) h) (omega arith)

        pub found-symbol : (r : Word) → (k ≡ class_quote → ⊥) → (get_or text i 0 ≡ 35 → ⊥) → AnswerIs symbol_at length text i r → WordIs table text from r
        found-symbol r q h =
            let b = get_or text i 0 in
            let mark : eqb b 34 ≡ false = sym (quote b) ∙ ne_eqb (class_of b) class_quote (λ g. q (f ∙ g)) in
            whole symbol_at length r (word-symbol table b (drop (i + 1) text) (no-capital c) (no_digit d) h (eqb-false b 34 mark))
