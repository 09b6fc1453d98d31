-- What a caller learns from the promise of `word_at` and `command_at`: for each answer the definition's step, and where
-- the next cursor lies. And the promise determines the answer. Assumes nothing.
use Prim.Native.Nat.{ℕ, ◌+◌, ◌-◌, ◌≤◌, ◌<◌}
use mathlib.Core.Path.{◌≡◌, ◌∙◌, refl, ap, sym}
use mathlib.Core.List.{List}
use native.Mathlib.Omega.{arith}
use lib.ListN.{length, drop, length-drop}
use lib.Seq.{slice, length-slice}
use Rattle.nibl.specs.Words.{Token, variable, decimal, hex, string, sign}
use Rattle.nibl.specs.found.Read.{FrontWord, at_end, wrong, got}
use Rattle.word.specs.declared.Cursor.{Cursor}
use Rattle.word.specs.declared.Word.{Word}
use Rattle.word.specs.declared.Word.TheVariants.{Variable, Decimal, Hex, Text, Sign, End, Wrong}
use Rattle.word.specs.Found.{found_step, Behind, Stopped, AnswerIs}

-- at a position stands the word w, and the next cursor moves on and stays within the text
pub record Read (step : List ℕ → FrontWord) (text : List ℕ) (at : ℕ) (w : Token) (next : Cursor) : Type 0 where
  pub word : step (drop at text) ≡ got w (drop next.at text)
  pub on : at < next.at
  pub within : next.at ≤ length text

-- so what is left falls
pub falls : {step : List ℕ → FrontWord} {text : List ℕ} {at : ℕ} {w : Token} {next : Cursor} → Read step text at w next → length text - next.at < length text - at
falls {text = text} {at = at} {next = next} r = let h = r.on in let k = r.within in omega arith

-- The laws take the promise and what a match showed of the answer
module _ {step : List ℕ → FrontWord} {left : List ℕ → ℕ} {text : List ℕ} {at : ℕ} {r : Word} (w : AnswerIs step left text at r) where
  told : (q : Word) → r ≡ q → AnswerIs step left text at q
  told q e = rw e at w

  pub variable-read : {v : ℕ} {c : Cursor} → r ≡ Variable v c → Read step text at (variable v) c × (v < 26)
  variable-read {v} {c} e = let t = told (Variable v c) e in (record { word = sym t.same; on = t.inside.0; within = t.inside.1 }, t.inside.2)

  pub decimal-read : {n : ℕ} {c : Cursor} → r ≡ Decimal n c → Read step text at (decimal n) c × (n ≤ 32767)
  decimal-read {n} {c} e = let t = told (Decimal n c) e in (record { word = sym t.same; on = t.inside.0; within = t.inside.1 }, t.inside.2)

  pub hex-read : {n : ℕ} {c : Cursor} → r ≡ Hex n c → Read step text at (hex n) c
  hex-read {n} {c} e = let t = told (Hex n c) e in record { word = sym t.same; on = t.inside.0; within = t.inside.1 }

  pub text-read : {from to : ℕ} {c : Cursor} → r ≡ Text from to c → Read step text at (string (slice from to text)) c × (from ≤ to) × (to + 1 ≡ c.at)
  text-read {from} {to} {c} e =
      let t = told (Text from to c) e in (record { word = sym t.same; on = t.inside.0; within = t.inside.1 }, t.inside.2, t.inside.3)

  pub sign_read : {k : ℕ} {c : Cursor} → r ≡ Sign k c → Read step text at (sign k) c
  sign_read {k} {c} e = let t = told (Sign k c) e in record { word = sym t.same; on = t.inside.0; within = t.inside.1 }

  pub end_read : r ≡ End → step (drop at text) ≡ at_end
  end_read e = sym (told End e).same

  pub wrong-read : {c : Cursor} → r ≡ Wrong c → (step (drop at text) ≡ wrong) × (c.at + left (drop at text) ≡ length text)
  wrong-read {c} e = let t = told (Wrong c) e in (sym t.same, t.stopped)

-- The answer that a step calls for, in a text of n bytes: positions are told by what is left, with `up` bytes where it gave up
abbrev token_word : ℕ → Token → ℕ → Word
token_word n (variable v) left = Variable v (record { at = n - left })
token_word n (decimal v) left = Decimal v (record { at = n - left })
token_word n (hex v) left = Hex v (record { at = n - left })
token_word n (string bs) left = Text (n - left - 1 - length bs) (n - left - 1) (record { at = n - left })
token_word n (sign k) left = Sign k (record { at = n - left })

abbrev pub word_of : ℕ → ℕ → FrontWord → Word
word_of n up at_end = End
word_of n up wrong = Wrong (record { at = n - up })
word_of n up (got w s) = token_word n w (length s)

back : (text : List ℕ) (p : ℕ) → p ≤ length text → p ≡ length text - length (drop p text)
back text p h = omega (arith, length-drop p text)

stands-for : (left : List ℕ → ℕ) (text : List ℕ) (at : ℕ) (r : Word) → Behind at (length text) r → Stopped left text at r
    → r ≡ word_of (length text) (left (drop at text)) (found_step text r)
stands-for left text at (Variable v c) i k = ap (λ (p : ℕ). Variable v (record { at = p })) (back text c.at i.1)
stands-for left text at (Decimal v c) i k = ap (λ (p : ℕ). Decimal v (record { at = p })) (back text c.at i.1)
stands-for left text at (Hex v c) i k = ap (λ (p : ℕ). Hex v (record { at = p })) (back text c.at i.1)
stands-for left text at (Text from to c) i k =
    let next = back text c.at i.1 in
    let size = length-slice from to text (omega arith) in
    let t : to ≡ length text - length (drop c.at text) - 1 = omega arith in
    let f : from ≡ length text - length (drop c.at text) - 1 - length (slice from to text) = omega arith in
    rw (← f, ← t, ← next) refl
stands-for left text at (Sign n c) i k = ap (λ (p : ℕ). Sign n (record { at = p })) (back text c.at i.1)
stands-for left text at End i k = refl
stands-for left text at (Wrong c) i k = ap (λ (p : ℕ). Wrong (record { at = p })) (omega arith)

-- the promise as an equation
module _ (step : List ℕ → FrontWord) (left : List ℕ → ℕ) (text : List ℕ) (at : ℕ) where
  pub exact : (r : Word) → AnswerIs step left text at r → r ≡ word_of (length text) (left (drop at text)) (step (drop at text))
  exact r w = stands-for left text at r w.inside w.stopped ∙ ap (word_of (length text) (left (drop at text))) w.same

  -- two answers that meet it are equal
  pub one : (q r : Word) → AnswerIs step left text at q → AnswerIs step left text at r → q ≡ r
  one q r v w = exact q v ∙ sym (exact r w)
