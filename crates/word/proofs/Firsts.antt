-- The first byte, and a command's first three: what a look at them tells of the word that stands there. Assumes nothing.
use Rattle.std.specs.Prelude.{if◌then◌else◌, Option, Some, None, is_some, position, ◌==◌}
use Prim.Native.Nat.{ℕ, ◌+◌, ◌-◌, ◌≤◌, ◌<◌}
use mathlib.Core.Path.{◌≡◌, ◌∙◌, refl, ap, sym}
use mathlib.Core.Bool.{Bool, true, false, not, ◌&&◌, false≢true}
use mathlib.Core.List.{List, [], ◌∷◌, ◌++◌}
use mathlib.Core.Option.{some}
use native.Mathlib.Omega.{arith}
use borrow.Author.Tests.{ne_eqb, leb-true, leb-false}
use lib.Dec.{eqb, leb}
use lib.ListN.{length, take, drop, get_or, length-drop, drop_of_length-le, get_or-eq_default}
use Rattle.nibl.specs.Bytes.{is_space, is_capital, starts, past, all}
use Rattle.nibl.specs.Words.{commands, index_in, first_keyword}
use Rattle.nibl.proofs.Keywords.{of-table}
use Rattle.word.specs.Found.{key_of, key_index, fronts, may_command, first_of}
use Rattle.word.proofs.Keys.{key_there, no_key}
use Rattle.word.proofs.Runs.{at_byte, run_end, rest_at}

-- The byte that `first_at` finds
module _ (text : List ℕ) (from i : ℕ) (e : i ≡ run_end is_space text from) where
  pub first_byte : get_or text i 0 ≡ first_of (past is_space (drop from text))
  first_byte = go (leb (length text) i) refl
    where
      go : (t : Bool) → leb (length text) i ≡ t → get_or text i 0 ≡ first_of (past is_space (drop from text))
      go true h = let l = leb-true (length text) i h in rw (rest_at is_space text from i e, drop_of_length-le text l, get_or-eq_default text 0 l) refl
      go false h = rw (rest_at is_space text from i e, at_byte text i (leb-false (length text) i h)) refl

-- Whether there is one, by where the run of spaces ends
all-ends : (p : ℕ → Bool) (s : List ℕ) → past p s ≡ [] → all p s ≡ true
all-ends p [] e = refl
all-ends p (b ∷ s) e = go (p b) (all-ends p s) e
  where
    go : (t : Bool) → (past p s ≡ [] → all p s ≡ true) → (if t then past p s else b ∷ s) ≡ [] → t && all p s ≡ true
    go true i h = i h
    go false i h = let z : ◌≡◌ {A = ℕ} 0 1 = cc in absurd (omega arith)

all-stops : (p : ℕ → Bool) (s : List ℕ) {c : ℕ} {t : List ℕ} → past p s ≡ c ∷ t → all p s ≡ false
all-stops p [] e = let z : ◌≡◌ {A = ℕ} 0 1 = cc in absurd (omega arith)
all-stops p (b ∷ s) {c} {t} e = go (p b) (all-stops p s) e
  where
    go : (q : Bool) → (past p s ≡ c ∷ t → all p s ≡ false) → (if q then past p s else b ∷ s) ≡ c ∷ t → q && all p s ≡ false
    go true i h = i h
    go false i h = refl

module _ (text : List ℕ) (from i : ℕ) (e : i ≡ run_end is_space text from) where
  blank-all : length text ≤ i → true ≡ all is_space (drop from text)
  blank-all h = sym (all-ends is_space (drop from text) (rest_at is_space text from i e ∙ drop_of_length-le text h))

  blank-not : i < length text → false ≡ all is_space (drop from text)
  blank-not h = sym (all-stops is_space (drop from text) (rest_at is_space text from i e ∙ at_byte text i h))

  pub blank : leb (length text) i ≡ all is_space (drop from text)
  blank = go (leb (length text) i) refl
    where
      go : (t : Bool) → leb (length text) i ≡ t → t ≡ all is_space (drop from text)
      go true h = blank-all (leb-true (length text) i h)
      go false h = blank-not (leb-false (length text) i h)

-- Whether three letters are a command's
may-capital : (s : List ℕ) → starts is_capital s ≡ false → may_command s ≡ false
may-capital [] e = refl
may-capital (a ∷ []) e = refl
may-capital (a ∷ b ∷ []) e = refl
may-capital (a ∷ b ∷ c ∷ s) e = rw e refl

may-short : (s : List ℕ) → length s < 3 → may_command s ≡ false
may-short [] h = refl
may-short (a ∷ []) h = refl
may-short (a ∷ b ∷ []) h = refl
may-short (a ∷ b ∷ c ∷ s) h = absurd (omega arith)

may-key : (s : List ℕ) → 3 ≤ length s → starts is_capital s ≡ true → may_command s ≡ not (eqb (key_index first_keyword fronts (key_of (take 3 s))) 0)
may-key [] h e = absurd (omega arith)
may-key (a ∷ []) h e = absurd (omega arith)
may-key (a ∷ b ∷ []) h e = absurd (omega arith)
may-key (a ∷ b ∷ c ∷ s) h e = rw e refl

-- a key that stands in a list, by its index from the first keyword's number on
key-some : (keys : List ℕ) (k : ℕ) (o : Option ℕ) → o ≡ position (λ x. x == k) keys → is_some o ≡ not (eqb (key_index first_keyword keys k) 0)
key-some keys k None e = rw (no_key first_keyword keys k e) refl
key-some keys k (Some i) e = rw ((key_there first_keyword keys k i e).0, ne_eqb (first_keyword + i) 0 (λ z. omega arith)) refl

pub starts-in : (p : ℕ → Bool) (text : List ℕ) (i : ℕ) → starts p (drop i text) ≡ true → i < length text
starts-in p text i e = go (leb (length text) i) refl
  where
    go : (t : Bool) → leb (length text) i ≡ t → i < length text
    go true h = absurd (false≢true (sym (ap (starts p) (drop_of_length-le text (leb-true (length text) i h))) ∙ e))
    go false h = leb-false (length text) i h

module _ (text : List ℕ) (from i : ℕ) (e : i ≡ run_end is_space text from) where
  may_at : may_command (past is_space (drop from text)) ≡ may_command (drop i text)
  may_at = ap may_command (rest_at is_space text from i e)

  pub front-other : starts is_capital (drop i text) ≡ false → false ≡ may_command (past is_space (drop from text))
  front-other h = sym (may_at ∙ may-capital (drop i text) h)

  pub front-short : length text - i < 3 → false ≡ may_command (past is_space (drop from text))
  front-short h = sym (may_at ∙ may-short (drop i text) (omega (arith, length-drop i text)))

  pub front_at : {k : ℕ} {o : Option ℕ} → 3 ≤ length text - i → starts is_capital (drop i text) ≡ true → k ≡ key_of (take (i + 3 - i) (drop i text))
      → o ≡ position (λ x. x == k) fronts → is_some o ≡ may_command (past is_space (drop from text))
  front_at {k} {o} h c f g =
      let three : i + 3 - i ≡ 3 = omega arith in
      let word : key_of (take 3 (drop i text)) ≡ k = ap (λ (n : ℕ). key_of (take n (drop i text))) (sym three) ∙ sym f in
      key-some fronts k o g ∙ ap (λ (m : ℕ). not (eqb (key_index first_keyword fronts m) 0)) (sym word) ∙ sym (may_at ∙ may-key (drop i text) (omega (arith, length-drop i text)) c)

-- where a command stands, they are
pub front-stands : (w s : List ℕ) (k : ℕ) → index_in commands w ≡ some k → may_command (past is_space (w ++ s)) ≡ true
front-stands w s k e = of-table (λ v. may_command (past is_space (v ++ s))) first_keyword commands w k refl e
