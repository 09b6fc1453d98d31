-- The word that stands next, and what each reader does at it. Assumes nothing.
use Rattle.std.specs.Prelude.{if◌then◌else◌}
use Prim.Native.Nat.{ℕ}
use Prim.Native.String.{String}
use mathlib.Core.Path.{◌≡◌, refl, sym, ap, ◌∙◌}
use mathlib.Core.Bool.{Bool, true, false, not, ◌&&◌, ◌||◌, true≢false, false≢true}
use mathlib.Core.List.{List, [], ◌∷◌}
use mathlib.Core.Option.{Option, none, some}
use native.Mathlib.Omega.{arith}
use borrow.Author.Tests.{eqb-true, eq-eqb, not-true}
use lib.Dec.{eqb}
use Rattle.nibl.specs.Bytes.{is_space, All}
use Rattle.nibl.specs.Words.{Token, variable, decimal, hex, string, sign, keywords, number}
use Rattle.nibl.specs.Grammar.{Joints, joint_of, Key, Joint, joint}
use Rattle.nibl.specs.Tree.{Op}
use Rattle.nibl.specs.found.Read.{FrontWord, at_end, wrong, got, step_in, Found, nothing, found, Reader, on_step, by_word, choose, and_then, ◌>>=◌, or_else, variable_of, decimal_of, string_of, sign_of, a_variable, a_decimal, a_string, a_sign, if_key, a_joint}
use Rattle.nibl.proofs.Words.{and_left, and_right, word-complete, ended-complete}
use Rattle.nibl.proofs.Rules.{it, Ok, nil, one, none_found, W, string-same, decimal-same, sign_same, joint-same}

-- whether a word of a kind stands next
abbrev pub is_next : (Token → Bool) → FrontWord → Bool
is_next p at_end = false
is_next p wrong = false
is_next p (got w s) = p w

unfoldable pub next_is : (Token → Bool) → List ℕ → Bool
next_is p s = is_next p (step_in keywords s)

pub next-at : (p : Token → Bool) {s t : List ℕ} {w : Token} → W s w t → next_is p s ≡ p w
unfolding next_is
next-at p h = ap (is_next p) (word-complete keywords h)

pub next-spaces : (p : Token → Bool) {s : List ℕ} → All is_space s → next_is p s ≡ false
unfolding next_is
next-spaces p a = ap (is_next p) (ended-complete keywords a)

-- one kind or another
infixl 30 ◌or◌
abbrev pub ◌or◌ : (Token → Bool) → (Token → Bool) → Token → Bool
(p or q) w = p w || q w

or_left : (a b : Bool) → (a || b) ≡ false → a ≡ false
or_left true b e = e
or_left false b e = refl

pub or_right : (a b : Bool) → (a || b) ≡ false → b ≡ false
or_right true b e = absurd (false≢true (sym e))
or_right false b e = e

module _ (p q : Token → Bool) (s : List ℕ) (h : next_is (p or q) s ≡ false) where
  neither-of : (r : FrontWord) → is_next (p or q) r ≡ false → (is_next p r ≡ false) × (is_next q r ≡ false)
  neither-of at_end e = (refl, refl)
  neither-of wrong e = (refl, refl)
  neither-of (got w t) e = (or_left (p w) (q w) e, or_right (p w) (q w) e)

  pub not_left : next_is p s ≡ false
  unfolding next_is
  not_left = (neither-of (step_in keywords s) h).0

  pub not_right : next_is q s ≡ false
  unfolding next_is
  not_right = (neither-of (step_in keywords s) h).1

-- kinds of words
abbrev pub is_sign : (ℕ → Bool) → Token → Bool
is_sign p (variable v) = false
is_sign p (decimal n) = false
is_sign p (hex n) = false
is_sign p (string bs) = false
is_sign p (sign k) = p k

abbrev pub is_key : String → Token → Bool
is_key name = is_sign (λ k. eqb k (number name))

abbrev pub is_op : Option Op → Bool
is_op none = false
is_op (some o) = true

abbrev pub joins : Joints → Token → Bool
joins js = is_sign (λ k. is_op (joint_of js k))

abbrev pub is_string : Token → Bool
is_string (variable v) = false
is_string (decimal n) = false
is_string (hex n) = false
is_string (string bs) = true
is_string (sign k) = false

abbrev pub is_decimal : Token → Bool
is_decimal (variable v) = false
is_decimal (decimal n) = true
is_decimal (hex n) = false
is_decimal (string bs) = false
is_decimal (sign k) = false

-- The readers at the word that stands next
module _ {A : Type 0} where
  pub word_at : (k : Token → Reader A) {s t : List ℕ} {w : Token} → W s w t → by_word k s ≡ k w t
  word_at k h = ap (λ (r : FrontWord). on_step r k) (word-complete keywords h)

pub sign_at : {s t : List ℕ} {k : ℕ} → W s (sign k) t → a_sign s ≡ found k t
unfolding a_sign
sign_at h = word_at sign_of h

pub variable-at : {s t : List ℕ} {v : ℕ} → W s (variable v) t → a_variable s ≡ found v t
unfolding a_variable
variable-at h = word_at variable_of h

pub decimal-at : {s t : List ℕ} {n : ℕ} → W s (decimal n) t → a_decimal s ≡ found n t
unfolding a_decimal
decimal-at h = word_at decimal_of h

pub string-at : {s t bs : List ℕ} → W s (string bs) t → a_string s ≡ found bs t
unfolding a_string
string-at h = word_at string_of h

-- a word of a kind that does not stand next is not found
pub string-not : (s : List ℕ) → next_is is_string s ≡ false → a_string s ≡ nothing
string-not s h = none_found (it (string-same s)) (λ bs t w. true≢false (sym (next-at is_string w) ∙ h))

pub decimal-not : (s : List ℕ) → next_is is_decimal s ≡ false → a_decimal s ≡ nothing
decimal-not s h = none_found (it (decimal-same s)) (λ n t w. true≢false (sym (next-at is_decimal w) ∙ h))

pub joint-not : (js : Joints) (s : List ℕ) → next_is (joins js) s ≡ false → a_joint js s ≡ nothing
joint-not js s h = none_found (it (joint-same js s)) go
  where
    go : (o : Op) (t : List ℕ) → Joint W js s o t → ⊥
    go o t (joint w e) = true≢false (sym (next-at (joins js) w ∙ rw e) ∙ h)

module _ {A : Type 0} (name : String) (r q : Reader A) where
  pub key-at : {s t : List ℕ} → Key W name s t → if_key name r q s ≡ r t
  unfolding if_key
  key-at h = rw (sign_at h) (rw (eq-eqb (number name) (number name) refl))

  pub key-not : (s : List ℕ) → next_is (is_key name) s ≡ false → if_key name r q s ≡ q s
  unfolding if_key
  key-not s h = go (it (sign_same s))
    where
      go : {f : Found ℕ} → Ok (λ k t. W s (sign k) t) f → or_else f (choose ((number name, r) ∷ []) (λ t. q s)) q s ≡ q s
      go nil = refl
      go (one w) = rw (sym (next-at (is_key name) w) ∙ h)

pub then_at : {A B : Type 0} (r : Reader A) (k : A → Reader B) (s : List ℕ) {t : List ℕ} {a : A} → r s ≡ found a t → (r >>= k) s ≡ k a t
unfolding ◌>>=◌
then_at r k s e = ap (λ f. and_then f k) e

pub joint-at : {js : Joints} {o : Op} {s t : List ℕ} → Joint W js s o t → a_joint js s ≡ found o t
unfolding a_joint
joint-at {js} (joint {k} h e) = then_at a_sign _ _ (sign_at h) ∙ rw e

-- the signs of one list are none of another's
abbrev pub apart : Joints → Joints → Bool
apart [] js = true
apart (i ∷ is) js = not (is_op (joint_of js i.0)) && apart is js

none_of : (is js : Joints) (k : ℕ) (o : Op) → apart is js ≡ true → joint_of is k ≡ some o → is_op (joint_of js k) ≡ false
none_of [] js k o a e = let z : ◌≡◌ {A = ℕ} 0 1 = cc in absurd (omega arith)
none_of (i ∷ is) js k o a e = go (eqb k i.0) refl (none_of is js k o (and_right (not (is_op (joint_of js i.0))) (apart is js) a)) e
  where
    go : (t : Bool) → eqb k i.0 ≡ t → (joint_of is k ≡ some o → is_op (joint_of js k) ≡ false) → (if t then some i.1 else joint_of is k) ≡ some o → is_op (joint_of js k) ≡ false
    go true e f h = rw (eqb-true k i.0 e) (not-true (is_op (joint_of js i.0)) (and_left (not (is_op (joint_of js i.0))) (apart is js) a))
    go false e f h = f h

pub joint-other : {is : Joints} {o : Op} {s t : List ℕ} (js : Joints) → apart is js ≡ true → Joint W is s o t → next_is (joins js) s ≡ false
joint-other {is} {o} js a (joint {k} h e) = next-at (joins js) h ∙ none_of is js k o a e
