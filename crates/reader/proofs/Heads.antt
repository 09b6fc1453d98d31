-- The word that stands next, for the readers of statements. Assumes nothing.
use Prim.Native.Nat.{ℕ, ◌+◌, ◌-◌, ◌≤◌}
use Rattle.std.specs.Prelude.{true, false, Some, None, is_some}
use Rattle.std.specs.Option.{option_or}
use mathlib.Core.Path.{◌≡◌, refl, sym, ap, ◌∙◌}
use mathlib.Core.List.{List, [], ◌∷◌}
use native.Mathlib.Omega.{arith}
use borrow.Author.Tests.{ne_eqb, leb-false}
use denote.Enum.Declared.{tag_of}
use types.Run.{OneOf, miss}
use lib.ListN.{length, take, drop, length-append, length-drop}
use lib.Seq.{slice}
use lib.Dec.{leb}
use Rattle.nibl.specs.Words.{Token, variable, decimal, hex, string, sign, keywords, Word, spaced, keyword, letter, decimal_digits, hex_digits, quoted, pair, symbol, first_keyword}
use Rattle.nibl.specs.found.Read.{FrontWord, nothing, Reader, on_step, by_word, variable_of, string_of, sign_of, a_variable, a_string, a_sign, fail}
use Rattle.nibl.proofs.Words.{word_sound, of-pairs, no_symbol}
use Rattle.word.specs.declared.Cursor.{Cursor}
use Rattle.word.specs.declared.Word.{Word as Read}
use Rattle.word.specs.declared.Word.TheVariants as word
use Rattle.word.specs.contracts.Word.{the_type as word-type}
use Rattle.word.specs.Found.{found_step, WordIs}
use Rattle.word.proofs.Runs.{slice_front}
use Rattle.relation.specs.Makes.{need, Leads, onto, Over, Stood, stood, Absent, stopped, refused, absent, KeyIs, there, nowhere, another}
use Rattle.relation.specs.Made.{Made}
use Rattle.relation.proofs.Signs.{over-here}
use Rattle.reader.specs.Forms.{halted, Heads, heads, Unkind, text_end, no_word, a_decimal, a_hex, Headless, headless, KindIs, Unless, unless, MayIs, gone, kept, Long}
use Rattle.reader.specs.declared.Kind.{Kind}
use Rattle.reader.specs.declared.Kind.TheVariants as kind
use Rattle.reader.specs.contracts.Kind.{the_type}

-- What `kind_at` answers
unkind : (text : List ℕ) (w : Read) → OneOf (1 ∷ 2 ∷ 5 ∷ 6 ∷ []) (tag_of word-type w) → Unkind (found_step text w)
unkind text (word.Variable v p) k = absurd (miss (1 ∷ 2 ∷ 5 ∷ 6 ∷ []) 0 tt k)
unkind text (word.Decimal n p) k = a_decimal
unkind text (word.Hex n p) k = a_hex
unkind text (word.Text i j p) k = absurd (miss (1 ∷ 2 ∷ 5 ∷ 6 ∷ []) 3 tt k)
unkind text (word.Sign n p) k = absurd (miss (1 ∷ 2 ∷ 5 ∷ 6 ∷ []) 4 tt k)
unkind text word.End k = text_end
unkind text (word.Wrong p) k = no_word

module _ {text : List ℕ} {r : Made} {c : Cursor} {o : ℕ} (e : r ≡ Some (c, o)) where
  pub kind-variable : {v : ℕ} {p : Cursor} → WordIs keywords text c.at (word.Variable v p) → KindIs text r (kind.Variable v (Some (p, o)))
  kind-variable h = rw e (heads (sym h.same) h.inside.0 h.inside.1)

  pub kind-text : {i j : ℕ} {p : Cursor} → WordIs keywords text c.at (word.Text i j p) → KindIs text r (kind.Text i j (Some (p, o)))
  kind-text h = rw e (heads (sym h.same) h.inside.0 h.inside.1, h.inside.2, omega (arith, h.inside.1, h.inside.3))

  pub kind-sign : {k : ℕ} {p : Cursor} → WordIs keywords text c.at (word.Sign k p) → KindIs text r (kind.Sign k (Some (p, o)))
  kind-sign h = rw e (heads (sym h.same) h.inside.0 h.inside.1)

  pub kind-other : (w : Read) → WordIs keywords text c.at w → OneOf (1 ∷ 2 ∷ 5 ∷ 6 ∷ []) (tag_of word-type w) → KindIs text r kind.Other
  kind-other w h k = rw e (headless (rw h.same at (unkind text w k)))

pub kind-none : {text : List ℕ} {r : Made} → r ≡ None → KindIs text r kind.Other
kind-none e = rw e halted

-- Readers by the next word
no_kind : {A : Type 0} (k : Token → Reader A) {s : FrontWord} → ((n : ℕ) → k (decimal n) ≡ fail) → ((n : ℕ) → k (hex n) ≡ fail) → Unkind s → on_step s k ≡ nothing
no_kind k f g text_end = refl
no_kind k f g no_word = refl
no_kind k f g (a_decimal {n} {s}) = ap (λ (q : Reader _). q s) (f n)
no_kind k f g (a_hex {n} {s}) = ap (λ (q : Reader _). q s) (g n)

module _ {text : List ℕ} where
  pub heads-over : {w : Token} {r m : Made} → Heads w text r m → Over text r m
  heads-over (heads e l h) = over-here l h

  module _ {X A : Type 0} (k : X → Token → Reader A) where
    pub heads-leads : {w : Token} {r m : Made} → Heads w text r m → Leads (λ x. by_word (k x)) (λ x. k x w) text r m
    heads-leads (heads e l h) = onto (λ x. ap (λ (s : FrontWord). on_step s (k x)) e) (λ i. h)

  -- a word that the reader does not take
  pub heads-absent : {A : Type 0} (k : Token → Reader A) {w : Token} {r m : Made} → k w ≡ fail → Heads w text r m → Absent (by_word k) text r
  heads-absent k f (heads {d} e l h) = absent (ap (λ (s : FrontWord). on_step s k) e ∙ ap (λ (q : Reader _). q (drop d.at text)) f)

  pub headless-absent : {A : Type 0} (k : Token → Reader A) {r : Made} → ((n : ℕ) → k (decimal n) ≡ fail) → ((n : ℕ) → k (hex n) ≡ fail) → Headless text r
      → Absent (by_word k) text r
  headless-absent k f g halted = stopped
  headless-absent k f g (headless u) = absent (no_kind k f g u)

  -- no string
  pub unstring : {r : Made} (w : Kind) → KindIs text r w → OneOf (0 ∷ 2 ∷ 3 ∷ []) (tag_of the_type w) → Absent a_string text r
  unfolding a_string
  unstring (kind.Variable v m) h k = heads-absent string_of refl h
  unstring (kind.Text i j m) h k = absurd (miss (0 ∷ 2 ∷ 3 ∷ []) 1 tt k)
  unstring (kind.Sign n m) h k = heads-absent string_of refl h
  unstring kind.Other h k = headless-absent string_of (λ n. refl) (λ n. refl) h

  -- no variable
  pub unvariable : {r : Made} (w : Kind) → KindIs text r w → OneOf (1 ∷ 2 ∷ 3 ∷ []) (tag_of the_type w) → Absent a_variable text r
  unfolding a_variable
  unvariable (kind.Variable v m) h k = absurd (miss (1 ∷ 2 ∷ 3 ∷ []) 0 tt k)
  unvariable (kind.Text i j m) h k = heads-absent variable_of refl h.0
  unvariable (kind.Sign n m) h k = heads-absent variable_of refl h
  unvariable kind.Other h k = headless-absent variable_of (λ n. refl) (λ n. refl) h

  pub heads-variable : {v : ℕ} {r m : Made} → Heads (variable v) text r m → Stood a_variable v text r m
  unfolding a_variable
  heads-variable (heads e l h) = stood (ap (λ (s : FrontWord). on_step s variable_of) e) l h

  pub heads-string : {bs : List ℕ} {r m : Made} → Heads (string bs) text r m → Stood a_string bs text r m
  unfolding a_string
  heads-string (heads e l h) = stood (ap (λ (s : FrontWord). on_step s string_of) e) l h

  -- the bytes of a string, as a part of the text
  pub text-heads : {i j : ℕ} {r m : Made} → KindIs text r (kind.Text i j m) → Heads (string (take (j - i) (drop i text))) text r m
  text-heads {i} {j} h =
      let e : slice i j text ≡ take (j - i) (drop i text) = ap (λ (k : ℕ). slice i k text) (omega (arith, h.1)) ∙ slice_front i (j - i) text in
      rw e at h.0

  pub heads-sign : {k : ℕ} {r m : Made} → Heads (sign k) text r m → Stood a_sign k text r m
  unfolding a_sign
  heads-sign (heads e l h) = stood (ap (λ (s : FrontWord). on_step s sign_of) e) l h

  -- another sign than k, or none
  pub stood-unless : (k : ℕ) {j : ℕ} {r m : Made} → (j ≡ k → ⊥) → Stood a_sign j text r m → Unless k text r
  stood-unless k d (stood {c} e l h) = unless {c = c} (rw e (another (ne_eqb _ k d)))

  pub absent-unless : (k : ℕ) {r : Made} → Absent a_sign text r → Unless k text r
  absent-unless k stopped = halted
  absent-unless k (absent {c} e) = unless {c = c} (rw e nowhere)

  -- neither a string nor a sign
  pub plain : (n : ℕ) {r : Made} (w : Kind) → KindIs text r w → OneOf (0 ∷ 3 ∷ []) (tag_of the_type w) → Absent a_string text r × Unless n text r
  unfolding a_string a_sign
  plain n (kind.Variable v m) h k = (heads-absent string_of refl h, absent-unless n (heads-absent sign_of refl h))
  plain n (kind.Text i j m) h k = absurd (miss (0 ∷ 3 ∷ []) 1 tt k)
  plain n (kind.Sign j m) h k = absurd (miss (0 ∷ 3 ∷ []) 2 tt k)
  plain n kind.Other h k = (headless-absent string_of (λ n. refl) (λ n. refl) h, absent-unless n (headless-absent sign_of (λ n. refl) (λ n. refl) h))

  pub sign-unstring : {k : ℕ} {r m : Made} → Heads (sign k) text r m → Absent a_string text r
  unfolding a_string
  sign-unstring h = heads-absent string_of refl h

  -- What `past_sign` answers: the sign stood next, or it did not
  pub key-stood : {r m : Made} {k : ℕ} → is_some m ≡ true → KeyIs k text r m → Stood a_sign k text r m
  key-stood e stopped = let z : ◌≡◌ {A = ℕ} 0 1 = cc in absurd (omega arith)
  key-stood e (refused h) = let z : ◌≡◌ {A = ℕ} 0 1 = cc in absurd (omega arith)
  key-stood e (there h) = h

  pub key-unless : {r m : Made} {k : ℕ} → is_some m ≡ false → KeyIs k text r m → Unless k text r
  key-unless e stopped = halted
  key-unless e (refused {c} h) = unless {c = c} h
  key-unless e (there (stood a l h)) = let z : ◌≡◌ {A = ℕ} 0 1 = cc in absurd (omega arith)

  pub key-may : {r m : Made} {k : ℕ} → KeyIs k text r m → MayIs k text r (option_or m r)
  key-may stopped = kept halted
  key-may (refused {c} h) = kept (unless {c = c} h)
  key-may (there (stood e l h)) = gone (stood e l h)

-- How many bytes a word takes
keyword-size : {s t : List ℕ} {w : Token} (k : ℕ) → Word keywords s w t → w ≡ sign k → first_keyword ≤ k → length t + 2 ≤ length s
keyword-size k (spaced w) e h = omega (arith, keyword-size k w e h)
keyword-size k (letter r) e h = let z : ◌≡◌ {A = ℕ} 0 1 = cc in absurd (omega arith)
keyword-size k (keyword {cs} {s} r) e h = omega (arith, length-append cs s)
keyword-size k (decimal_digits r l) e h = let z : ◌≡◌ {A = ℕ} 0 1 = cc in absurd (omega arith)
keyword-size k (hex_digits r) e h = let z : ◌≡◌ {A = ℕ} 0 1 = cc in absurd (omega arith)
keyword-size k (quoted a) e h = let z : ◌≡◌ {A = ℕ} 0 1 = cc in absurd (omega arith)
keyword-size k (pair {a} {b} {k = j} p) e h =
    let i : j ≡ k = cc in absurd (of-pairs (λ x y n. first_keyword ≤ n → ⊥) a b j (omega arith) (omega arith) (omega arith) p (omega arith))
keyword-size k (symbol {b} p n) e h =
    let i : b ≡ k = cc in let l = leb-false first_keyword b (no_symbol (λ x. leb first_keyword x) b refl p) in absurd (omega arith)

string-size : {s t : List ℕ} {w : Token} (bs : List ℕ) → Word keywords s w t → w ≡ string bs → length t + length bs + 2 ≤ length s
string-size bs (spaced w) e = omega (arith, string-size bs w e)
string-size bs (letter r) e = let z : ◌≡◌ {A = ℕ} 0 1 = cc in absurd (omega arith)
string-size bs (keyword r) e = let z : ◌≡◌ {A = ℕ} 0 1 = cc in absurd (omega arith)
string-size bs (decimal_digits r l) e = let z : ◌≡◌ {A = ℕ} 0 1 = cc in absurd (omega arith)
string-size bs (hex_digits r) e = let z : ◌≡◌ {A = ℕ} 0 1 = cc in absurd (omega arith)
string-size bs (quoted {bs = cs} {s} a) e = let i : cs ≡ bs = cc in rw (← i) (omega (arith, length-append cs (34 ∷ s)))
string-size bs (pair p) e = let z : ◌≡◌ {A = ℕ} 0 1 = cc in absurd (omega arith)
string-size bs (symbol p n) e = let z : ◌≡◌ {A = ℕ} 0 1 = cc in absurd (omega arith)

module _ {text : List ℕ} where
  pub heads-long : {k : ℕ} {r m : Made} → Heads (sign k) text r m → first_keyword ≤ k → Long text r m
  heads-long {k} (heads {c} {d} e l h) g =
      let n = keyword-size k (word_sound keywords _ _ _ e) refl g in
      record { low = omega arith; spare = λ j. omega (arith, length-drop c.at text, length-drop d.at text) }

  pub heads-size : {bs : List ℕ} {r m : Made} → Heads (string bs) text r m → (k : ℕ) → need (2 + length bs + k) text m ≤ need k text r
  heads-size {bs} (heads {c} {d} e l h) k =
      let n = string-size bs (word_sound keywords _ _ _ e) refl in omega (arith, length-drop c.at text, length-drop d.at text)
