-- How a factor begins: one law for each first word, and that no other does. Assumes nothing.
use Rattle.std.specs.Prelude.{Option, None, Some, is_some}
use Prim.Native.Nat.{ℕ, ◌+◌, ◌-◌, ◌≤◌, ◌<◌}
use mathlib.Core.Path.{◌≡◌, refl, sym, ap, subst, ◌∙◌}
use mathlib.Core.Bool.{Bool, true, false, not, ◌&&◌, false≢true, true≢false}
use mathlib.Core.List.{List, [], ◌∷◌, ◌++◌}
use native.Mathlib.Nat.{add-zero}
use native.Mathlib.Omega.{arith}
use borrow.Author.Tests.{not-true, leb-true, leb-false}
use lib.Dec.{leb}
use lib.ListN.{length, drop, get_or, set}
use lib.Seq.{drop-drop, get_or-drop}
use Rattle.nibl.specs.Bytes.{is_space, is_digit, is_capital, starts, none as done, each}
use Rattle.nibl.specs.Words.{Token, variable, decimal, hex, string, sign, keywords, is_symbol, begins, ByteRun, Keyword, Word, spaced, keyword, letter, decimal_digits, hex_digits, quoted, pair, symbol}
use Rattle.nibl.specs.Tree.{Expr, var, const, stat, top, byte_at, invert}
use Rattle.nibl.specs.found.Read.{FrontWord, at_end, wrong, got, step_in, word_step, nothing, Reader, on_step, choose, fail, give, factor_cases, factor_of, read, factor, term, sum, terms}
use Rattle.nibl.proofs.Sound.{read-factor}
use Rattle.nibl.proofs.Words.{and_left, and_right, digit-other, step-word, word-digit, word_sound, word-complete}
use Rattle.word.specs.declared.Word.TheVariants.{Decimal, Hex, Wrong}
use Rattle.word.specs.Found.{AnswerIs, decimal_at, decimal_left, hex_at, spelt, is_lone}
use Rattle.word.proofs.Runs.{at_byte, run_end, end-within, end-stop, stops_at, stops_end}
use Rattle.word.proofs.Answers.{at-word}
use Rattle.word.proofs.Standing.{Read, decimal-read, hex-read, wrong-read}
use Rattle.word.proofs.Firsts.{starts-in}
use Rattle.word.proofs.Spelled.{sign-spelt, keyword-there, symbol-there, lone-pairs, byte_inside, sign_at}
use Rattle.codes.specs.Codes.{op, code_constant, code_variable, code_stat, code_top, code_byte, code_not}
use Rattle.relation.specs.Code.{values}
use Rattle.relation.specs.Made.{Made}
use Rattle.relation.specs.Makes.{onto, absent, Makes, standing, MakesAt, LeadIs, minus, plain, is_operand, OperandIs, operand, no_operand, Rest, FormIs, form, no_form}
use Rattle.relation.proofs.Signs.{over-here, NoneOf, none_left, ◌but◌, no-case}
use Rattle.relation.proofs.States.{written-here, led}
use Rattle.relation.proofs.Ways.{Waiting, waiting-plain, waiting-minus, Begun, factor-none, factor-whole}

factor-step : (s : List ℕ) {w : FrontWord} → step_in keywords s ≡ w → read factor s ≡ on_step w (factor_of read)
factor-step s e = read-factor s ∙ ap (λ x. on_step x (factor_of read)) e

module _ {text : List ℕ} where
  -- by a word that stands at a position
  pub begun : {at d : ℕ} {w : Token} {R : Reader Expr} (o : ℕ) → Read (step_in keywords) text at w (record { at = d }) → factor_of read w ≡ R
      → Begun R text (standing at o) (standing d o)
  begun {at} {d} o r e =
      record { leads = onto (λ x. factor-step (drop at text) r.word ∙ ap (λ S. S (drop d text)) e) (λ i. r.within); over = over-here r.on r.within }

  -- past spaces
  pub from-spaces : {from i : ℕ} {ops ops' : List ℕ} {o : ℕ} {s : Made} → i ≡ run_end is_space text from → Makes (read factor) values text ops (standing i o) ops' s
      → Makes (read factor) values text ops (standing from o) ops' s
  from-spaces {from} {i} {o = o} e y =
      let f : read factor (drop from text) ≡ read factor (drop i text)
      = factor-step (drop from text) (at-word keywords text from i e) ∙ sym (factor-step (drop i text) refl) in
      record {
        low = omega (arith, y.low);
        few = λ k. omega (arith, y.few k);
        gives = led (onto (λ x. f) (λ h. rw e (end-within is_space text from h))) y.gives;
      }

  -- the whole factor is one word, and its operation was written
  pub one_word : {at d o n v : ℕ} {w : Token} {ops ops' : List ℕ} (a : Expr) → values a ≡ v ∷ [] → factor_of read w ≡ give a → Read (step_in keywords) text at w (record { at = d })
      → ops' ≡ set ops o v → n ≡ o + 1 → MakesAt factor text ops at o ops' (Some d) n
  one_word {o = o} a c f r e g = factor-whole a c (begun o r f) (written-here e g)

-- how a sum begins
pub lead-waiting : {text ops : List ℕ} {from o r : ℕ} {w : Option ℕ} → LeadIs text from r w → Waiting (read sum) term (λ a. read (terms a)) text ops (standing from o) ops (standing r o) w
lead-waiting {o = o} (minus h) = let l = h o in waiting-minus l.0 l.1
lead-waiting {o = o} (plain h l) = waiting-plain (h o) (omega arith) (λ k. omega arith)

-- the operations of those that have no operand, or one
pub stat-code : values stat ≡ op code_stat 0 ∷ []
unfolding values
stat-code = refl

pub top-code : values top ≡ op code_top 0 ∷ []
unfolding values
top-code = refl

pub byte-code : (a : Expr) → values (byte_at a) ≡ values a ++ (op code_byte 0 ∷ [])
unfolding values
byte-code a = refl

pub not_code : (a : Expr) → values (invert a) ≡ values a ++ (op code_not 0 ∷ [])
unfolding values
not_code a = refl

-- what a step finds another finds, where both are the same at a position
restep : {step : List ℕ → FrontWord} {text : List ℕ} {at from d : ℕ} {w : Token} → step_in keywords (drop at text) ≡ step (drop from text) → at ≤ from
    → Read step text from w (record { at = d }) → Read (step_in keywords) text at w (record { at = d })
restep e h r = let k = r.on in record { word = e ∙ r.word; on = omega arith; within = r.within }

-- A decimal constant
module _ (text : List ℕ) (at : ℕ) (h : at < length text) (e : is_digit (get_or text at 0) ≡ true) where
  digit-step : step_in keywords (drop at text) ≡ decimal_at (drop at text)
  digit-step =
      let b = get_or text at 0 in
      let s = drop (at + 1) text in
      ap (step_in keywords) (at_byte text at h) ∙ step-word keywords b s (digit-other b e).0 ∙ word-digit keywords b s e ∙ ap decimal_at (sym (at_byte text at h))

  pub decimal-there : {v d : ℕ} → AnswerIs decimal_at decimal_left text at (Decimal v (record { at = d })) → Read (step_in keywords) text at (decimal v) (record { at = d })
  decimal-there a = restep digit-step (omega arith) (decimal-read a refl).0

  pub decimal-large : {d : ℕ} → AnswerIs decimal_at decimal_left text at (Wrong (record { at = d })) → is_operand (step_in keywords (drop at text)) ≡ false
  decimal-large a = ap is_operand (digit-step ∙ (wrong-read a refl).0)

pub decimal-operand : {text ops ops' : List ℕ} {at o d n v w : ℕ} → Read (step_in keywords) text at (decimal v) (record { at = d }) → w ≡ op code_constant v
    → ops' ≡ set ops o w → n ≡ o + 1 → OperandIs text ops at o ops' (Some d) n
unfolding values
decimal-operand {v = v} r q e f = operand (one_word (const v) refl refl r (rw q at e) f)

-- A variable
module _ (text : List ℕ) (at : ℕ) (e : (starts is_capital (drop at text) && not (starts is_capital (drop (at + 1) text))) ≡ true) where
  pub variable-inside : at < length text
  variable-inside = starts-in is_capital text at (and_left (starts is_capital (drop at text)) _ e)

  pub variable-capital : is_capital (get_or text at 0) ≡ true
  variable-capital = sym (ap (starts is_capital) (at_byte text at variable-inside)) ∙ and_left (starts is_capital (drop at text)) _ e

  pub variable-there : Read (step_in keywords) text at (variable (get_or text at 0 - 65)) (record { at = at + 1 })
  variable-there =
      let h = variable-inside in
      let last = not-true (starts is_capital (drop (at + 1) text)) (and_right (starts is_capital (drop at text)) _ e) in
      record {
        word = ap (step_in keywords) (at_byte text at h) ∙ word-complete keywords (letter (record { some = variable-capital; each = each variable-capital done; longest = last }));
        on = omega arith;
        within = omega arith;
      }

pub variable-operand : {text ops ops' : List ℕ} {at o n v w : ℕ} → Read (step_in keywords) text at (variable v) (record { at = at + 1 }) → w ≡ op code_variable v
    → ops' ≡ set ops o w → n ≡ o + 1 → OperandIs text ops at o ops' (Some (at + 1)) n
unfolding values
variable-operand {v = v} r q e f = operand (one_word (var v) refl refl r (rw q at e) f)

-- Neither
starts-not : (p : ℕ → Bool) (text : List ℕ) (at : ℕ) → p 0 ≡ false → p (get_or text at 0) ≡ false → starts p (drop at text) ≡ false
starts-not p text at z e = go (leb (length text) at) refl
  where
    go : (t : Bool) → leb (length text) at ≡ t → starts p (drop at text) ≡ false
    go true h = stops_end p text at (leb-true (length text) at h)
    go false h = stops_at p text at (leb-false (length text) at h) e

abbrev lone : List ℕ → Bool
lone s = starts is_capital s && not (starts is_capital (drop 1 s))

digits-first : (ds s : List ℕ) → ByteRun is_digit ds s → starts is_digit (ds ++ s) ≡ false → ⊥
digits-first [] s r d = false≢true r.some
digits-first (b ∷ ds) s r d = true≢false (sym r.some ∙ d)

neither-word : {s t : List ℕ} {w : Token} → starts is_space s ≡ false → lone s ≡ false → starts is_digit s ≡ false → Word keywords s w t → is_operand (got w t) ≡ false
neither-word u l d (spaced w) = absurd (true≢false u)
neither-word u l d (keyword r) = refl
neither-word u l d (letter {c} {s} r) = absurd (true≢false (rw (r.some, r.longest) at l))
neither-word u l d (decimal_digits {ds} {s} r k) = absurd (digits-first ds s r d)
neither-word u l d (hex_digits r) = refl
neither-word u l d (quoted a) = refl
neither-word u l d (pair e) = refl
neither-word u l d (symbol e n) = refl

module _ (s : List ℕ) (u : starts is_space s ≡ false) (l : lone s ≡ false) (d : starts is_digit s ≡ false) where
  neither-step : (w : FrontWord) → step_in keywords s ≡ w → is_operand w ≡ false
  neither-step at_end e = refl
  neither-step wrong e = refl
  neither-step (got w t) e = neither-word u l d (word_sound keywords s t w e)

pub no-operand : {text ops : List ℕ} {at o : ℕ} → starts is_space (drop at text) ≡ false → (is_digit (get_or text at 0) ≡ false)
    → (starts is_capital (drop at text) && not (starts is_capital (drop (at + 1) text))) ≡ false → OperandIs text ops at o ops None o
no-operand {text} {at = at} u d l =
    let s = drop at text in
    no_operand (neither-step s u (rw (drop-drop 1 at text) l) (starts-not is_digit text at refl d) (step_in keywords s) refl)

-- what an operand's answer says
pub operand_read : {text ops ops' : List ℕ} {at o n : ℕ} {r : Option ℕ} → OperandIs text ops at o ops' r n → is_some r ≡ true → MakesAt factor text ops at o ops' r n
operand_read (operand y) z = y
operand_read (no_operand h) z = absurd (false≢true z)

pub record Unread (text ops : List ℕ) (at o : ℕ) (ops' : List ℕ) (n : ℕ) : Type 0 where
  pub list : ops' ≡ ops
  pub count : n ≡ o
  pub other : is_operand (step_in keywords (drop at text)) ≡ false

pub operand-unread : {text ops ops' : List ℕ} {at o n : ℕ} {r : Option ℕ} → OperandIs text ops at o ops' r n → is_some r ≡ false → Unread text ops at o ops' n
operand-unread (operand y) z = absurd (true≢false z)
operand-unread (no_operand h) z = record { list = refl; count = refl; other = h }

-- what is read where none was is read from there
pub unread-read : {text ops ops1 ops' : List ℕ} {at o n : ℕ} {s : Made} → Unread text ops at o ops1 n → Makes (read factor) values text ops1 (standing at n) ops' s
    → Makes (read factor) values text ops (standing at o) ops' s
unread-read u y = rw (u.list, u.count) at y

-- A hex constant
module _ (text : List ℕ) (at : ℕ) (e : get_or text at 0 ≡ 35) where
  pub hash-inside : at < length text
  hash-inside = byte_inside text at (λ z. omega arith)

  hash-step : step_in keywords (drop at text) ≡ hex_at (drop (at + 1) text)
  unfolding word_step
  hash-step =
      let s = drop (at + 1) text in
      ap (step_in keywords) (at_byte text at hash-inside ∙ ap (λ b. b ∷ s) e) ∙ step-word keywords 35 s refl

  pub hex-there : {v d : ℕ} → AnswerIs hex_at length text (at + 1) (Hex v (record { at = d })) → Read (step_in keywords) text at (hex v) (record { at = d })
  hex-there a = restep hash-step (omega arith) (hex-read a refl)

  pub hex-none : {ops : List ℕ} {o d : ℕ} → AnswerIs hex_at length text (at + 1) (Wrong (record { at = d })) → MakesAt factor text ops at o ops None o
  hex-none a = factor-none (absent (factor-step (drop at text) (hash-step ∙ (wrong-read a refl).0)))

pub hex-makes : {text ops ops' : List ℕ} {at o d n v w : ℕ} → Read (step_in keywords) text at (hex v) (record { at = d }) → w ≡ op code_constant v
    → ops' ≡ set ops o w → n ≡ o + 1 → MakesAt factor text ops at o ops' (Some d) n
unfolding values
hex-makes {v = v} r q e f = one_word (const v) refl refl r (rw q at e) f

-- A sign
module _ (text : List ℕ) (at : ℕ) (u : starts is_space (drop at text) ≡ false) where
  here : at ≡ run_end is_space text at
  here = sym (end-stop is_space text at u)

  pub form-symbol : (b : ℕ) → is_lone b ≡ true → length (spelt b) ≡ 1 → begins (b ∷ []) (drop at text) ≡ true → FormIs text at (Some b)
  form-symbol b h l s =
      let r = sign_at text at at here (b ∷ []) b (omega arith) s (symbol-there b (drop at text) (and_left (is_symbol b) _ h) (lone-pairs b (drop 1 (drop at text)) h) s) in
      form {k = b} (rw l r.word) (rw l r.within)

  pub form-keyword : (c d k : ℕ) (cs : List ℕ) → ((t : List ℕ) → Keyword keywords (c ∷ d ∷ cs) k t) → length (spelt k) ≡ length (c ∷ d ∷ cs)
      → begins (c ∷ d ∷ cs) (drop at text) ≡ true → FormIs text at (Some k)
  form-keyword c d k cs h l s =
      let r = sign_at text at at here (c ∷ d ∷ cs) k (omega arith) s (keyword-there c d k cs h (drop at text) s) in
      form {k = k} (rw l r.word) (rw l r.within)

  -- another sign is spelled in another way
  other_sign : (n k : ℕ) (t : List ℕ) → begins (spelt n) (drop at text) ≡ false → step_in keywords (drop at text) ≡ got (sign k) t → k ≡ n → ⊥
  other_sign n k t b e f = false≢true (sym b ∙ sym (ap (λ j. begins (spelt j) (drop at text)) f) ∙ sign-spelt (drop at text) u e)

  pub form-none : begins (spelt 147) (drop at text) ≡ false → begins (spelt 148) (drop at text) ≡ false → begins (spelt 40) (drop at text) ≡ false
      → begins (spelt 64) (drop at text) ≡ false → begins (spelt 152) (drop at text) ≡ false → begins (spelt 149) (drop at text) ≡ false → FormIs text at None
  form-none a b c d e f =
      no_form (λ k t h. no-case (other_sign 147 k t a h but other_sign 148 k t b h but other_sign 40 k t c h but other_sign 64 k t d h but other_sign 152 k t e h
      but other_sign 149 k t f h but none_left))

found_here : {text : List ℕ} {at k d : ℕ} → step_in keywords (drop at text) ≡ got (sign k) (drop (at + d) text) → at + d ≤ length text → 0 < d
    → Read (step_in keywords) text at (sign k) (record { at = at + d })
found_here e l h = record { word = e; on = omega arith; within = l }

pub form-read : {text : List ℕ} {at k : ℕ} (n : ℕ) → FormIs text at (Some k) → k ≡ n → 0 < length (spelt n)
    → Read (step_in keywords) text at (sign n) (record { at = at + length (spelt n) })
form-read {text} {at} {k} n (form e l) f h = subst (λ j. Read (step_in keywords) text at (sign j) (record { at = at + length (spelt j) })) f (found_here e l (rw f h))

-- No factor
abbrev HashFirst : List ℕ → Token → Type 0
HashFirst s (variable v) = Unit {0}
HashFirst s (decimal n) = Unit {0}
HashFirst s (hex n) = get_or s 0 0 ≡ 35
HashFirst s (string bs) = Unit {0}
HashFirst s (sign k) = Unit {0}

hash-first : {s t : List ℕ} {w : Token} → starts is_space s ≡ false → Word keywords s w t → HashFirst s w
hash-first u (spaced w) = absurd (true≢false u)
hash-first u (keyword r) = tt
hash-first u (letter r) = tt
hash-first u (decimal_digits r k) = tt
hash-first u (hex_digits r) = refl
hash-first u (quoted a) = tt
hash-first u (pair e) = tt
hash-first u (symbol e n) = tt

module _ (s : List ℕ) (u : starts is_space s ≡ false) (o : is_operand (step_in keywords s) ≡ false) (b : get_or s 0 0 ≡ 35 → ⊥)
    (h : (k : ℕ) (t : List ℕ) → step_in keywords s ≡ got (sign k) t → choose (factor_cases read) fail k ≡ fail) where
  none-step : (w : FrontWord) → step_in keywords s ≡ w → on_step w (factor_of read) ≡ nothing
  none-step at_end e = refl
  none-step wrong e = refl
  none-step (got (variable v) t) e = absurd (true≢false (sym (ap is_operand e) ∙ o))
  none-step (got (decimal n) t) e = absurd (true≢false (sym (ap is_operand e) ∙ o))
  none-step (got (hex n) t) e = absurd (b (hash-first u (word_sound keywords s t (hex n) e)))
  none-step (got (string bs) t) e = refl
  none-step (got (sign k) t) e = ap (λ R. R t) (h k t e)

  factor-not : read factor s ≡ nothing
  factor-not = factor-step s refl ∙ none-step (step_in keywords s) refl

pub rest-other : {text ops : List ℕ} {at o k : ℕ} → FormIs text at (Some k) → NoneOf k (factor_cases read) → MakesAt factor text ops at o ops None o
rest-other {text} {at = at} {k = k} (form e l) n = factor-none (absent (factor-step (drop at text) e ∙ ap (λ R. R (drop (at + length (spelt k)) text)) (no-case n)))

pub rest-none : {text ops : List ℕ} {at o : ℕ} → Rest text at → (get_or text at 0 ≡ 35 → ⊥) → FormIs text at None → MakesAt factor text ops at o ops None o
rest-none {text} {at = at} r b (no_form h) =
    let first_byte : get_or text at 0 ≡ get_or (drop at text) 0 0 = rw (get_or-drop at text 0 0, add-zero) refl in
    factor-none (absent (factor-not (drop at text) r.unspaced r.other (λ f. b (first_byte ∙ f)) h))
