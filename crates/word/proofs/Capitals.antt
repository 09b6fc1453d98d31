-- The word at a capital: the longest keyword that begins there, tried from its most letters down, or a letter. Assumes nothing.
use Rattle.std.specs.Prelude.{Some, None, position, ◌==◌}
use Prim.Native.Nat.{ℕ, zero, suc, ◌+◌, ◌-◌, ◌≤◌, ◌<◌}
use mathlib.Core.Path.{◌≡◌, ◌∙◌, refl, ap, sym}
use mathlib.Core.Bool.{Bool, true, false}
use mathlib.Core.List.{List, [], ◌∷◌}
use native.Mathlib.Omega.{arith}
use borrow.Author.Tests.{ne_eqb}
use lib.ListN.{length, take, drop, get_or, length-drop}
use lib.Seq.{drop-drop, take_all}
use Rattle.nibl.specs.Bytes.{is_capital, starts, front, all}
use Rattle.nibl.specs.Words.{index_in}
use Rattle.nibl.specs.found.Read.{sign_or, letter_step, letters_step}
use Rattle.nibl.specs.found.GaveUp.{most_common}
use Rattle.nibl.proofs.Keywords.{take-run, letters-down}
use Rattle.nibl.proofs.GaveUp.{most-short}
use Rattle.word.specs.declared.Word.TheVariants.{Variable, Sign, Wrong}
use Rattle.word.specs.Found.{AnswerIs, spellings_of, keys_of, key_of, key_index, letters_at, letters_left}
use Rattle.word.proofs.Runs.{and_left, and_right, at_byte, between, parted, slice_front, run-cons, end-within}
use Rattle.word.proofs.Keys.{key_there, no_key, table-short, sign_by, index_key, none_over_lem}

-- Of the longest run at the front of s, within its first m bytes
record Few (p : ℕ → Bool) (m : ℕ) (s : List ℕ) : Type 0 where
  run : length (front p (take m s)) ≤ length (front p s)
  most : length (front p (take m s)) ≤ m
  least : (k : ℕ) → k ≤ m → k ≤ length (front p s) → k ≤ length (front p (take m s))

few-step : (p : ℕ → Bool) (m b : ℕ) (s : List ℕ) → Few p m s → (t : Bool) → p b ≡ t → Few p (suc m) (b ∷ s)
few-step p m b s f true e =
    record { run = rw e (omega (arith, f.run)); most = rw e (omega (arith, f.most)); least = rw e (λ k h l. omega (arith, f.least (k - 1) (omega arith) (omega arith))) }
few-step p m b s f false e = record { run = rw e (omega arith); most = rw e (omega arith); least = rw e (λ k h l. l) }

few : (p : ℕ → Bool) (m : ℕ) (s : List ℕ) → Few p m s
few p zero s = record { run = omega arith; most = omega arith; least = λ k h l. h }
few p (suc m) [] = record { run = omega arith; most = omega arith; least = λ k h l. l }
few p (suc m) (b ∷ s) = few-step p m b s (few p m s) (p b) refl

-- where no byte passes there is no run
stays : (p : ℕ → Bool) (s : List ℕ) → starts p s ≡ false → length (front p s) ≡ 0
stays p [] e = refl
stays p (b ∷ s) e = rw e refl

-- the definition at a length
letters-try : (table : List (List ℕ)) (s : List ℕ) (n : ℕ) → 1 ≤ n
    → letters_step table (suc n) s ≡ sign_or (index_in table (take (suc n) s)) (drop (suc n) s) (letters_step table n s)
unfolding letters_step
letters-try table s zero h = absurd (omega arith)
letters-try table s (suc n) h = refl

letters-last : (table : List (List ℕ)) (s : List ℕ) (n : ℕ) → n ≤ 1 → letters_step table n s ≡ letter_step s
unfolding letters_step
letters-last table s zero h = refl
letters-last table s (suc zero) h = refl
letters-last table s (suc (suc n)) h = absurd (omega arith)

all_take : (p : ℕ → Bool) (n : ℕ) (s : List ℕ) → all p s ≡ true → all p (take n s) ≡ true
all_take p zero s h = refl
all_take p (suc n) [] h = refl
all_take p (suc n) (b ∷ s) h = rw (and_left (p b) (all p s) h) (all_take p n s (and_right (p b) (all p s) h))

-- how many letters stand at `from`
abbrev size : List ℕ → ℕ → ℕ
size text from = length (front is_capital (drop from text))

-- what stands at `from` is what is found there once the keywords that end behind `to` are left out
pub record Tried (table : List (List ℕ)) (text : List ℕ) (from to : ℕ) : Type 0 where
  pub some : from < to
  pub run : to ≤ from + size text from
  pub most : to ≤ from + 6
  pub same : letters_at table (drop from text) ≡ letters_step table (to - from) (drop from text)

module _ (b : Bool) (text : List ℕ) (from : ℕ) (h : from < length text) (c : is_capital (get_or text from 0) ≡ true) where
  sized : size text from ≡ suc (size text (from + 1))
  sized = ap length (run-cons is_capital text from h c)

  pub tried-first : {end : ℕ} → end ≡ from + length (front is_capital (take 6 (drop from text))) → Tried (spellings_of b) text from end
  tried-first {end} e =
      let here = drop from text in
      let f = few is_capital 6 here in
      let n = length (front is_capital (take 6 here)) in
      let one = f.least 1 (omega arith) (omega (arith, sized)) in
      let over = none_over_lem n (front is_capital here) f.least (spellings_of b) (table-short b) in
      let left : n ≡ end - from = omega arith in
      record {
        some = omega arith;
        run = omega (arith, f.run);
        most = omega (arith, f.most);
        same = letters-down (spellings_of b) here n (size text from) over one f.run (omega arith) ∙ ap (λ (m : ℕ). letters_step (spellings_of b) m here) left;
      }

  pub letters-one : starts is_capital (drop (from + 1) text) ≡ false → AnswerIs (letters_at (spellings_of b)) (letters_left (spellings_of b)) text from (Variable (get_or text from 0 - 65) (record { at = from + 1 }))
  letters-one e =
      let range = between 65 90 (get_or text from 0) c in
      record {
        same = sym (letters-last (spellings_of b) (drop from text) (size text from) (omega (arith, sized, stays is_capital (drop (from + 1) text) e)) ∙ rw (at_byte text from h) (rw e refl));
        inside = (omega arith, omega arith, omega arith);
        stopped = tt;
      }

  pub letters-wrong : starts is_capital (drop (from + 1) text) ≡ true → {to : ℕ} → Tried (spellings_of b) text from to → to - from ≤ 1
      → {p : ℕ} → p ≡ from + most_common (spellings_of b) (drop from text) → AnswerIs (letters_at (spellings_of b)) (letters_left (spellings_of b)) text from (Wrong (record { at = p }))
  letters-wrong e {to} t l {p} f =
      let size = length-drop from text in
      record {
        same = sym (t.same ∙ letters-last (spellings_of b) (drop from text) (to - from) l ∙ rw (at_byte text from h) (rw e refl));
        inside = tt;
        stopped = omega (arith, most-short (spellings_of b) (drop from text) (omega arith));
      }

  -- the keywords that end at `to`, by the number of their key
  module _ {to : ℕ} (t : Tried (spellings_of b) text from to) (m : 1 < to - from) {q : ℕ} (f : q ≡ key_of (take (to - from) (drop from text))) where
    named : (k : ℕ) → key_index 128 (keys_of b) q ≡ k
        → letters_at (spellings_of b) (drop from text) ≡ sign_by k (drop to text) (letters_step (spellings_of b) (to - 1 - from) (drop from text))
    named k g =
        let here = drop from text in
        let n = to - 1 - from in
        let next : from + suc n ≡ to = omega (arith, t.some) in
        let left : suc n ≡ to - from = omega arith in
        let rest : drop (suc n) here ≡ drop to text = drop-drop (suc n) from text ∙ ap (λ (x : ℕ). drop x text) next in
        let letters : all is_capital (take (suc n) here) ≡ true =
        rw (take-run is_capital (suc n) here (omega (arith, t.run))) (all_take is_capital (suc n) (front is_capital here) (parted is_capital here).each) in
        let number : key_index 128 (keys_of b) (key_of (take (suc n) here)) ≡ k = rw (left, ← f) g in
        t.same ∙ ap (λ (x : ℕ). letters_step (spellings_of b) x here) (sym left) ∙ letters-try (spellings_of b) here n (omega arith)
        ∙ index_key (take (suc n) here) (drop (suc n) here) (letters_step (spellings_of b) n here) letters 128 (spellings_of b) (omega arith) (table-short b)
        ∙ rw (number, rest) refl

    pub tried-on : None ≡ position (λ x. x == q) (keys_of b) → Tried (spellings_of b) text from (to - 1)
    tried-on z = record { some = omega arith; run = omega (arith, t.run); most = omega (arith, t.most); same = named 0 (no_key 128 (keys_of b) q z) }

    pub letters-sign : (i : ℕ) → Some i ≡ position (λ x. x == q) (keys_of b)
        → AnswerIs (letters_at (spellings_of b)) (letters_left (spellings_of b)) text from (Sign (128 + i) (record { at = to }))
    letters-sign i z =
        let high = end-within is_capital text from (omega arith) in
        record {
          same = sym (named (128 + i) (key_there 128 (keys_of b) q i z).0 ∙ rw (ne_eqb (128 + i) 0 (λ e. omega arith)) refl);
          inside = (t.some, omega (arith, t.run));
          stopped = tt;
        }

-- where the letters that are looked at end
pub end-near : (text : List ℕ) (from : ℕ) {end : ℕ} → length text - from ≤ 6 → end ≡ from + size text from
    → end ≡ from + length (front is_capital (take 6 (drop from text)))
end-near text from h e = rw (take_all 6 (drop from text) (omega (arith, length-drop from text))) e

pub end-far : (text : List ℕ) (from : ℕ) {end : ℕ} → end ≡ from + size (take (from + 6) text) from
    → end ≡ from + length (front is_capital (take 6 (drop from text)))
end-far text from e = rw (← slice_front from 6 text) e
