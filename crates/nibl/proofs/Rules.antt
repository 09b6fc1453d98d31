-- Laws of the ways in which readers are made of readers. Each says of two readers at once that they find the same and that
-- what they find is so: with one reader twice this is soundness, with two bounds of one reader it is that the bound does not matter.
-- Assumes nothing.
use Rattle.std.specs.Prelude.{if◌then◌else◌}
use Prim.Native.Nat.{ℕ}
use Prim.Native.String.{String}
use mathlib.Core.Path.{◌≡◌, refl}
use mathlib.Core.Bool.{Bool, true, false}
use mathlib.Core.List.{List, [], ◌∷◌}
use mathlib.Core.Option.{Option, none, some}
use borrow.Author.Tests.{eqb-true}
use lib.Dec.{eqb}
use Rattle.nibl.specs.Words.{Token, variable, decimal, hex, string, sign, keywords, Word}
use Rattle.nibl.specs.Grammar.{Joints, joint_of, Key, May, no_word, a_word, Joint, joint}
use Rattle.nibl.specs.Tree.{Op}
use Rattle.nibl.specs.found.Read.{FrontWord, step_in, Found, nothing, found, Reader, fail, on_step, by_word, choose, and_then, ◌>>=◌, or_else, variable_of, decimal_of, string_of, sign_of, a_variable, a_decimal, a_string, a_sign, if_key, key, may, joint_found, a_joint}
use Rattle.nibl.proofs.Words.{Says, spaces, a_word as said, no_word as none_said, step-says}

-- two things are the same, and it is so
pub data Alike {B : Type 0} (Q : B → Type 0) : B → B → Type 0 where
  alike : {x : B} → Q x → Alike Q x x

module _ {B : Type 0} {Q : B → Type 0} where
  pub it : {x y : B} → Alike Q x y → Q x
  it (alike q) = q

  pub same : {x y : B} → Alike Q x y → x ≡ y
  same (alike q) = refl

-- what is found, if anything is, is so
pub data Ok {A : Type 0} (P : A → List ℕ → Type 0) : Found A → Type 0 where
  nil : Ok P nothing
  one : {a : A} {s : List ℕ} → P a s → Ok P (found a s)

pub data OkSome {A : Type 0} (P : A → Type 0) : Option A → Type 0 where
  nil : OkSome P none
  one : {a : A} → P a → OkSome P (some a)

pub ok-found : {A : Type 0} {P : A → List ℕ → Type 0} {a : A} {s : List ℕ} → Ok P (found a s) → P a s
ok-found (one p) = p

pub ok-some : {A : Type 0} {P : A → Type 0} {a : A} → OkSome P (some a) → P a
ok-some (one p) = p

-- nothing that cannot be is found
pub none_found : {A : Type 0} {P : A → List ℕ → Type 0} {f : Found A} → Ok P f → ((a : A) (t : List ℕ) → P a t → ⊥) → f ≡ nothing
none_found nil h = refl
none_found (one {a} {s = t} p) h = absurd (h a t p)

abbrev pub W : List ℕ → Token → List ℕ → Type 0
W = Word keywords

abbrev pub Same : {A : Type 0} → (A → List ℕ → Type 0) → Found A → Found A → Type 0
Same P = Alike (Ok P)

module _ {A : Type 0} {P : A → List ℕ → Type 0} where
  pub neither : Same P nothing nothing
  neither = alike nil

  pub gives : {a : A} {s : List ℕ} → P a s → Same P (found a s) (found a s)
  gives p = alike (one p)

  -- by the next word
  pub by-step : (table : List (List ℕ)) (s : List ℕ) {k k' : Token → Reader A} → ((w : Token) (t : List ℕ) → Word table s w t → Same P (k w t) (k' w t))
      → Same P (on_step (step_in table s) k) (on_step (step_in table s) k')
  by-step table s {k} {k'} f = go (step-says table s)
    where
      go : {r : FrontWord} → Says table s r → Same P (on_step r k) (on_step r k')
      go (spaces a) = neither
      go none_said = neither
      go (said {w} {s' = t} h) = f w t h

  pub by-word : (s : List ℕ) {k k' : Token → Reader A} → ((w : Token) (t : List ℕ) → W s w t → Same P (k w t) (k' w t)) → Same P (by_word k s) (by_word k' s)
  by-word = by-step keywords

-- the ways on from what is found
module _ {A B : Type 0} {P : A → List ℕ → Type 0} where
  pub or-else : {Q : B → Type 0} {f g : Found A} {k k' : A → List ℕ → B} (r r' : List ℕ → B) (s : List ℕ) → Same P f g
      → ((a : A) (t : List ℕ) → P a t → Alike Q (k a t) (k' a t)) → Alike Q (r s) (r' s) → Alike Q (or_else f k r s) (or_else g k' r' s)
  or-else r r' s (alike nil) h i = i
  or-else r r' s (alike (one {a} {s = t} p)) h i = h a t p

  pub or_ok : {Q : B → Type 0} {f : Found A} {k : A → List ℕ → Option B} (r : List ℕ → Option B) (s : List ℕ) → Same P f f
      → ((a : A) (t : List ℕ) → P a t → OkSome Q (k a t)) → OkSome Q (r s) → OkSome Q (or_else f k r s)
  or_ok {Q} {k = k} r s x h i = go x h where
    go : {f g : Found A} → Same P f g → ((a : A) (t : List ℕ) → P a t → OkSome Q (k a t)) → OkSome Q (or_else f k r s)
    go (alike nil) h = i
    go (alike (one {a} {s = t} p)) h = h a t p

  pub and-then : {Q : B → List ℕ → Type 0} {f g : Found A} {k k' : A → Reader B} → Same P f g
      → ((a : A) (t : List ℕ) → P a t → Same Q (k a t) (k' a t)) → Same Q (and_then f k) (and_then g k')
  and-then (alike nil) h = neither
  and-then (alike (one {a} {s = t} p)) h = h a t p

pub as-so : {A : Type 0} {P Q : A → List ℕ → Type 0} {f g : Found A} → ((a : A) (t : List ℕ) → P a t → Q a t) → Same P f g → Same Q f g
as-so h (alike nil) = neither
as-so h (alike (one {a} {s = t} p)) = gives (h a t p)

-- cases by a number
module _ {C : Type 0} where
  infixr 5 ◌and◌
  pub data Cases (Q : ℕ → C → C → Type 0) : List (ℕ × C) → List (ℕ × C) → Type 0 where
    no_more : Cases Q [] []
    ◌and◌ : {n : ℕ} {a b : C} {cs ds : List (ℕ × C)} → Q n a b → Cases Q cs ds → Cases Q ((n, a) ∷ cs) ((n, b) ∷ ds)

  pub chosen : {Q : ℕ → C → C → Type 0} {cs ds : List (ℕ × C)} {r r' : C} (k : ℕ) → Cases Q cs ds → Q k r r' → Q k (choose cs r k) (choose ds r' k)
  chosen k no_more q = q
  chosen {Q} {r} {r'} k (◌and◌ {n} {a} {b} {cs} {ds} h c) q = go (eqb k n) refl (chosen k c q)
    where
      go : (t : Bool) → eqb k n ≡ t → Q k (choose cs r k) (choose ds r' k) → Q k (if t then a else choose cs r k) (if t then b else choose ds r' k)
      go true e i = rw (eqb-true k n e) h
      go false e i = i

-- a reader for what follows the sign of a number
abbrev pub Case : {A : Type 0} → (A → List ℕ → Type 0) → List ℕ → List ℕ → ℕ → Reader A → Reader A → Type 0
Case P s t n r r' = W s (sign n) t → Same P (r t) (r' t)

-- one word of a kind
module _ (D : List ℕ → Token → List ℕ → Type 0) (s : List ℕ) where
  abbrev pub Kind : {A : Type 0} → (A → Token) → Found A → Type 0
  Kind make f = Same (λ a t. D s (make a) t) f f

  pub kinds : (w : Token) (t : List ℕ) → D s w t → Kind variable (variable_of w t) × Kind decimal (decimal_of w t) × Kind string (string_of w t) × Kind sign (sign_of w t)
  kinds (variable v) t h = (gives h, neither, neither, neither)
  kinds (decimal n) t h = (neither, gives h, neither, neither)
  kinds (hex n) t h = (neither, neither, neither, neither)
  kinds (string bs) t h = (neither, neither, gives h, neither)
  kinds (sign k) t h = (neither, neither, neither, gives h)

pub variable-same : (s : List ℕ) → Same (λ v t. W s (variable v) t) (a_variable s) (a_variable s)
unfolding a_variable
variable-same s = by-word s (λ w t h. (kinds W s w t h).0)

pub decimal-same : (s : List ℕ) → Same (λ n t. W s (decimal n) t) (a_decimal s) (a_decimal s)
unfolding a_decimal
decimal-same s = by-word s (λ w t h. (kinds W s w t h).1)

pub string-same : (s : List ℕ) → Same (λ bs t. W s (string bs) t) (a_string s) (a_string s)
unfolding a_string
string-same s = by-word s (λ w t h. (kinds W s w t h).2)

pub sign_same : (s : List ℕ) → Same (λ k t. W s (sign k) t) (a_sign s) (a_sign s)
unfolding a_sign
sign_same s = by-word s (λ w t h. (kinds W s w t h).3)

-- a word of a name, that stands here or not
module _ {A : Type 0} {P : A → List ℕ → Type 0} (name : String) (s : List ℕ) where
  pub if-key : {r r' : Reader A} (q q' : Reader A) → ((t : List ℕ) → Key W name s t → Same P (r t) (r' t)) → Same P (q s) (q' s) → Same P (if_key name r q s) (if_key name r' q' s)
  unfolding if_key
  if-key q q' f g =
      or-else q q' s (sign_same s) (λ k t h. chosen {Q = Case P s t} k (f t and no_more) (λ _. g) h) g

  pub by_key : {r r' : Reader A} → ((t : List ℕ) → Key W name s t → Same P (r t) (r' t)) → Same P (key name r s) (key name r' s)
  by_key f = if-key fail fail f neither

  pub by_may : {r r' : Reader A} → ((t : List ℕ) → May W name s t → Same P (r t) (r' t)) → Same P (may name r s) (may name r' s)
  by_may {r} {r'} f = if-key r r' (λ t k. f t (a_word k)) (f s no_word)

pub joint-same : (js : Joints) (s : List ℕ) → Same (λ o t. Joint W js s o t) (a_joint js s) (a_joint js s)
unfolding a_joint ◌>>=◌
joint-same js s = and-then (sign_same s) (λ k t h. go (joint_of js k) k t h refl)
  where
    go : (o : Option Op) (k : ℕ) (t : List ℕ) → W s (sign k) t → joint_of js k ≡ o → Same (λ o t. Joint W js s o t) (joint_found o t) (joint_found o t)
    go none k t h e = neither
    go (some o) k t h e = gives (joint h e)
