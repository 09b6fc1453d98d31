-- What stands next: one law for each answer. Assumes nothing.
use Rattle.std.specs.Prelude.{Option, None, Some}
use Prim.Native.Nat.{ℕ, ◌+◌, ◌≤◌, ◌<◌}
use mathlib.Core.Path.{◌≡◌, refl, sym, ap, ◌∙◌}
use mathlib.Core.Bool.{Bool, true, false, not, ◌&&◌, false≢true}
use mathlib.Core.List.{List, [], ◌∷◌}
use mathlib.Core.Option.{none, some}
use native.Mathlib.Omega.{arith}
use borrow.Author.Tests.{eqb-true, eqb-false, ne_eqb}
use lib.Dec.{eqb}
use lib.ListN.{length, drop}
use Rattle.nibl.specs.Bytes.{bytes, is_space, starts, none as done, each}
use Rattle.nibl.specs.Words.{variable, decimal, hex, string, sign, keywords, number, is_symbol, pairs, pairs_with, begins, none_over, Keyword}
use Rattle.nibl.specs.Grammar.{Joints, joint_of}
use Rattle.nibl.specs.Tree.{Op, Expr}
use Rattle.nibl.specs.found.Read.{FrontWord, at_end, wrong, got, step_in, nothing, found, Reader, on_step, sign_of, a_sign, joint_found, a_joint, choose, fail, may, and_then, ◌>>=◌}
use Rattle.nibl.proofs.Sound.{read-sum}
use Rattle.nibl.proofs.Words.{and_left, and_right}
use Rattle.word.specs.declared.Cursor.{Cursor}
use Rattle.word.specs.declared.Word.{Word}
use Rattle.word.specs.declared.Word.TheVariants.{Variable, Decimal, Hex, Text, Sign, End, Wrong}
use Rattle.word.specs.Found.{found_step, WordIs, spelt, is_lone, PastIs, there as past_there, not_there}
use Rattle.word.proofs.Runs.{run_end}
use Rattle.word.proofs.Answers.{at-word}
use Rattle.word.proofs.Standing.{Read}
use Rattle.word.proofs.Spelled.{sign-spelt, keyword-there, pair-there, symbol-there, lone-pairs, unspaced, sign_at, sign-not}
use Rattle.codes.specs.Codes.{op, code_operator, code_negate}
use Rattle.codes.specs.Operators.{op_number}
use Rattle.relation.specs.Makes.{stopped, refused, onto, Over, Stood, stood, Absent, absent, SignIs, Otherwise, nowhere, another, KeyIs, there, standing, made_of, JointIs, joint, alone, plainly, negated, LeadIs, minus, plain}
use Rattle.relation.specs.Made.{Made}
use Rattle.relation.proofs.Readers.{then_found, then-nothing, if-there, if-other}

pub over-here : {text : List ℕ} {c d : Cursor} {o : ℕ} → c.at < d.at → d.at ≤ length text → Over text (Some (c, o)) (Some (d, o))
over-here l h = record { low = omega arith; spare = λ k. omega arith }

pub stood-over : {A : Type 0} {F : Reader A} {a : A} {text : List ℕ} {r s : Made} → Stood F a text r s → Over text r s
stood-over (stood e l h) = over-here l h

-- The word at a cursor
module _ {text : List ℕ} {r : Made} {c : Cursor} {o : ℕ} (w : Word) (e : r ≡ Some (c, o)) (h : WordIs keywords text c.at w) where
  sign-step : a_sign (drop c.at text) ≡ on_step (found_step text w) sign_of
  unfolding a_sign
  sign-step = ap (λ (s : FrontWord). on_step s sign_of) (sym h.same)

-- a word of another kind
no_sign : (text : List ℕ) (w : Word) → ((k : ℕ) (p : Cursor) → w ≡ Sign k p → ⊥) → on_step (found_step text w) sign_of ≡ nothing
no_sign text (Variable v p) h = refl
no_sign text (Decimal n p) h = refl
no_sign text (Hex n p) h = refl
no_sign text (Text i j p) h = refl
no_sign text (Sign n p) h = absurd (h n p refl)
no_sign text End h = refl
no_sign text (Wrong p) h = refl

pub sign-none : {text : List ℕ} {r : Made} {c : Cursor} {o : ℕ} (w : Word) → r ≡ Some (c, o) → WordIs keywords text c.at w
    → ((k : ℕ) (p : Cursor) → w ≡ Sign k p → ⊥) → SignIs text r None
sign-none {text} w e h k = rw e (absent (sign-step w e h ∙ no_sign text w k))

pub sign-found : {text : List ℕ} {r : Made} {c p : Cursor} {o k : ℕ} → r ≡ Some (c, o) → WordIs keywords text c.at (Sign k p) → SignIs text r (Some (k, Some (p, o)))
sign-found e h = rw e (stood (sign-step _ e h) h.inside.0 h.inside.1)

pub halted : {A : Type 0} {F : Reader A} {text : List ℕ} {r : Made} → r ≡ None → Absent F text r
halted e = rw e stopped

-- The sign that must stand next
pub key-found : {text : List ℕ} {r m : Made} {j k : ℕ} → j ≡ k → SignIs text r (Some (j, m)) → KeyIs k text r m
key-found e h = there (rw e at h)

pub key-none : {text : List ℕ} {r : Made} (k : ℕ) → SignIs text r None → KeyIs k text r None
key-none k stopped = stopped
key-none k (absent {c} e) = refused {c = c} (rw e nowhere)

pub key-other : {text : List ℕ} {r m : Made} {j : ℕ} (k : ℕ) → (j ≡ k → ⊥) → SignIs text r (Some (j, m)) → KeyIs k text r None
key-other k d (stood {c} e l h) = refused {c = c} (rw e (another (ne_eqb _ k d)))

-- Signs by their spelling
module _ (s : List ℕ) where
  pub sign-of : (w : FrontWord) → step_in keywords s ≡ w → a_sign s ≡ on_step w sign_of
  unfolding a_sign
  sign-of w e = ap (λ (x : FrontWord). on_step x sign_of) e

  other_step : (k : ℕ) → ((t : List ℕ) → step_in keywords s ≡ got (sign k) t → ⊥) → (w : FrontWord) → step_in keywords s ≡ w → Otherwise k (on_step w sign_of)
  other_step k h at_end e = nowhere
  other_step k h wrong e = nowhere
  other_step k h (got (variable v) t) e = nowhere
  other_step k h (got (decimal n) t) e = nowhere
  other_step k h (got (hex n) t) e = nowhere
  other_step k h (got (string bs) t) e = nowhere
  other_step k h (got (sign j) t) e = another (ne_eqb j k (λ f. h t (e ∙ ap (λ n. got (sign n) t) f)))

  pub other_sign : (k : ℕ) → ((t : List ℕ) → step_in keywords s ≡ got (sign k) t → ⊥) → Otherwise k (a_sign s)
  other_sign k h = rw (sign-of (step_in keywords s) refl) (other_step k h (step_in keywords s) refl)

-- past a symbol
pub key-past : {text : List ℕ} {k from : ℕ} {r : Option ℕ} (o : ℕ) → PastIs k text from r → KeyIs k text (standing from o) (made_of r o)
key-past {text} {k} {from} o (past_there {r} e l h) = there (stood (sign-of (drop from text) (got (sign k) (drop r text)) e) l h)
key-past {text} {k} {from} o (not_there h) = refused (other_sign (drop from text) k h)

pub past-inside : {text : List ℕ} {k from r : ℕ} → PastIs k text from (Some r) → (from < r) × (r ≤ length text)
past-inside (past_there e l h) = (l, h)

-- Operators
module _ (js : Joints) where
  joint-of : (s : List ℕ) {t : List ℕ} {k : ℕ} {q : Op} → step_in keywords s ≡ got (sign k) t → joint_of js k ≡ some q → a_joint js s ≡ found q t
  unfolding a_joint
  joint-of s {t} {k} e f = then_found a_sign _ s (sign-of s (got (sign k) t) e) ∙ ap (λ x. joint_found x t) f

-- none of a list's operators is spelled at the front of a text
abbrev none_spelt : Joints → List ℕ → Bool
none_spelt [] s = true
none_spelt (j ∷ js) s = not (begins (spelt j.0) s) && none_spelt js s

no-joint : (js : Joints) (s : List ℕ) (k : ℕ) → begins (spelt k) s ≡ true → none_spelt js s ≡ true → joint_of js k ≡ none
no-joint [] s k b h = refl
no-joint (j ∷ js) s k b h = go (eqb k j.0) refl (no-joint js s k b (and_right (not (begins (spelt j.0) s)) (none_spelt js s) h))
  where
    go : (t : Bool) → eqb k j.0 ≡ t → joint_of js k ≡ none → joint_of (j ∷ js) k ≡ none
    go true e ih =
        let f : begins (spelt j.0) s ≡ true = sym (ap (λ n. begins (spelt n) s) (eqb-true k j.0 e)) ∙ b in
        absurd (false≢true (rw f at (and_left (not (begins (spelt j.0) s)) (none_spelt js s) h)))
    go false e ih = rw e ih

module _ (js : Joints) (s : List ℕ) (u : starts is_space s ≡ false) (h : none_spelt js s ≡ true) where
  joint-step : (w : FrontWord) → step_in keywords s ≡ w → a_joint js s ≡ nothing
  unfolding a_joint
  joint-step at_end e = then-nothing a_sign _ s (sign-of s at_end e)
  joint-step wrong e = then-nothing a_sign _ s (sign-of s wrong e)
  joint-step (got (variable v) t) e = then-nothing a_sign _ s (sign-of s (got (variable v) t) e)
  joint-step (got (decimal n) t) e = then-nothing a_sign _ s (sign-of s (got (decimal n) t) e)
  joint-step (got (hex n) t) e = then-nothing a_sign _ s (sign-of s (got (hex n) t) e)
  joint-step (got (string bs) t) e = then-nothing a_sign _ s (sign-of s (got (string bs) t) e)
  joint-step (got (sign k) t) e = then_found a_sign _ s (sign-of s (got (sign k) t) e) ∙ ap (λ q. joint_found q t) (no-joint js s k (sign-spelt s u e) h)

joint-past : (js : Joints) (s t : List ℕ) → step_in keywords s ≡ step_in keywords t → a_joint js s ≡ a_joint js t
unfolding a_joint ◌>>=◌ a_sign
joint-past js s t e = ap (λ (x : FrontWord). and_then (on_step x sign_of) (λ k. joint_found (joint_of js k))) e

-- a pair's first symbol stands alone
less-alone : (s : List ℕ) → begins (60 ∷ []) s ≡ true → begins (60 ∷ 61 ∷ []) s ≡ false → begins (60 ∷ 62 ∷ []) s ≡ false → pairs_with 60 (drop 1 s) ≡ false
less-alone [] b f g = refl
less-alone (a ∷ []) b f g = refl
less-alone (a ∷ c ∷ s) b f g = go (eqb 60 a) (eqb 61 c) (eqb 62 c) refl refl b f g
  where
    go : (x y z : Bool) → eqb 61 c ≡ y → eqb 62 c ≡ z → x && true ≡ true → x && (y && true) ≡ false → x && (z && true) ≡ false → pairs_with 60 (c ∷ s) ≡ false
    go true false false e i b f g = rw (ne_eqb c 61 (λ q. eqb-false 61 c e (sym q)), ne_eqb c 62 (λ q. eqb-false 62 c i (sym q))) refl
    go true true z e i b f g = absurd (false≢true (sym f))
    go true false true e i b f g = absurd (false≢true (sym g))
    go false y z e i b f g = absurd (false≢true b)

greater-alone : (s : List ℕ) → begins (62 ∷ []) s ≡ true → begins (62 ∷ 61 ∷ []) s ≡ false → pairs_with 62 (drop 1 s) ≡ false
greater-alone [] b f = refl
greater-alone (a ∷ []) b f = refl
greater-alone (a ∷ c ∷ s) b f = go (eqb 62 a) (eqb 61 c) refl b f
  where
    go : (x y : Bool) → eqb 61 c ≡ y → x && true ≡ true → x && (y && true) ≡ false → pairs_with 62 (c ∷ s) ≡ false
    go true false e b f = rw (ne_eqb c 61 (λ q. eqb-false 61 c e (sym q))) refl
    go true true e b f = absurd (false≢true (sym f))
    go false y e b f = absurd (false≢true b)

module _ (js : Joints) (text : List ℕ) (from i : ℕ) (e : i ≡ run_end is_space text from) where
  pub joint-none : none_spelt js (drop i text) ≡ true → JointIs js text from None
  joint-none h = alone (joint-past js (drop from text) (drop i text) (at-word keywords text from i e) ∙ joint-step js (drop i text) (unspaced text from i e) h (step_in keywords (drop i text)) refl)

  module _ {r : Option (ℕ × ℕ)} (q : Op) where
    joint-read : (k n : ℕ) → joint_of js k ≡ some q → Read (step_in keywords) text from (sign k) (record { at = i + n })
        → r ≡ Some (i + n, op code_operator (op_number q)) → JointIs js text from r
    joint-read k n f d g = rw g (joint q refl (λ o. stood (joint-of js (drop from text) d.word f) d.on d.within))

    pub joint-symbol : (b : ℕ) → is_lone b ≡ true → joint_of js b ≡ some q → begins (b ∷ []) (drop i text) ≡ true → r ≡ Some (i + 1, op code_operator (op_number q)) → JointIs js text from r
    joint-symbol b h f s g =
        joint-read b 1 f (sign_at text from i e (b ∷ []) b (omega arith) s (symbol-there b (drop i text) (and_left (is_symbol b) _ h) (lone-pairs b (drop 1 (drop i text)) h) s)) g

    pub joint-pair : (a b k : ℕ) → pairs a b ≡ some k → joint_of js k ≡ some q → begins (a ∷ b ∷ []) (drop i text) ≡ true → r ≡ Some (i + 2, op code_operator (op_number q)) → JointIs js text from r
    joint-pair a b k h f s g = joint-read k 2 f (sign_at text from i e (a ∷ b ∷ []) k (omega arith) s (pair-there a b k h (drop i text) s)) g

    pub joint-less : joint_of js 60 ≡ some q → begins (60 ∷ 61 ∷ []) (drop i text) ≡ false → begins (60 ∷ 62 ∷ []) (drop i text) ≡ false
        → begins (60 ∷ []) (drop i text) ≡ true → r ≡ Some (i + 1, op code_operator (op_number q)) → JointIs js text from r
    joint-less f x y s g = joint-read 60 1 f (sign_at text from i e (60 ∷ []) 60 (omega arith) s (symbol-there 60 (drop i text) refl (less-alone (drop i text) s x y) s)) g

    pub joint-greater : joint_of js 62 ≡ some q → begins (62 ∷ 61 ∷ []) (drop i text) ≡ false → begins (62 ∷ []) (drop i text) ≡ true → r ≡ Some (i + 1, op code_operator (op_number q)) → JointIs js text from r
    joint-greater f x s g = joint-read 62 1 f (sign_at text from i e (62 ∷ []) 62 (omega arith) s (symbol-there 62 (drop i text) refl (greater-alone (drop i text) s x) s)) g

    pub joint-keyword : (a b k : ℕ) (cs : List ℕ) → ((t : List ℕ) → Keyword keywords (a ∷ b ∷ cs) k t) → joint_of js k ≡ some q
        → begins (a ∷ b ∷ cs) (drop i text) ≡ true → r ≡ Some (i + length (a ∷ b ∷ cs), op code_operator (op_number q)) → JointIs js text from r
    joint-keyword a b k cs h f s g =
        joint-read k (length (a ∷ b ∷ cs)) f (sign_at text from i e (a ∷ b ∷ cs) k (omega arith) s (keyword-there a b k cs h (drop i text) s)) g

-- what the answer says: an operator, or that there is none
pub record JoinedBy (js : Joints) (text : List ℕ) (at r v : ℕ) : Type 0 where
  pub operator : Op
  pub number : v ≡ op code_operator (op_number operator)
  pub next : (o : ℕ) → Stood (a_joint js) operator text (standing at o) (standing r o)

pub joint-by : {js : Joints} {text : List ℕ} {at r v : ℕ} → JointIs js text at (Some (r, v)) → JoinedBy js text at r v
joint-by (joint q e s) = record { operator = q; number = e; next = s }

pub joint-absent : {js : Joints} {text : List ℕ} {at : ℕ} (o : ℕ) → JointIs js text at None → Absent (a_joint js) text (standing at o)
joint-absent o (alone e) = absent e

-- the keywords with which no longer one begins
pub and_word : (t : List ℕ) → Keyword keywords (bytes "AND") (number "AND") t
and_word t = record { each = each refl (each refl (each refl done)); spelled = refl; longest = unfold none_over in refl }

pub or_word : (t : List ℕ) → Keyword keywords (bytes "OR") (number "OR") t
or_word t = record { each = each refl (each refl done); spelled = refl; longest = unfold none_over in refl }

pub stat-word : (t : List ℕ) → Keyword keywords (bytes "STAT") (number "STAT") t
stat-word t = record { each = each refl (each refl (each refl (each refl done))); spelled = refl; longest = unfold none_over in refl }

pub top-word : (t : List ℕ) → Keyword keywords (bytes "TOP") (number "TOP") t
top-word t = record { each = each refl (each refl (each refl done)); spelled = refl; longest = unfold none_over in refl }

pub not-word : (t : List ℕ) → Keyword keywords (bytes "NOT") (number "NOT") t
not-word t = record { each = each refl (each refl (each refl done)); spelled = refl; longest = unfold none_over in refl }

pub mod-word : (t : List ℕ) → Keyword keywords (bytes "MOD") (number "MOD") t
mod-word t = record { each = each refl (each refl (each refl done)); spelled = refl; longest = unfold none_over in refl }

-- A number in none of a list of cases
infixr 5 ◌but◌
pub data NoneOf {C : Type 0} (k : ℕ) : List (ℕ × C) → Type 0 where
  none_left : NoneOf k []
  ◌but◌ : {n : ℕ} {a : C} {cs : List (ℕ × C)} → (k ≡ n → ⊥) → NoneOf k cs → NoneOf k ((n, a) ∷ cs)

pub no-case : {k : ℕ} {cs : List (ℕ × Reader Expr)} → NoneOf k cs → choose cs fail k ≡ fail
no-case none_left = refl
no-case {k} (◌but◌ {n} d h) = rw (ne_eqb k n d) (no-case h)

-- How a sum begins
module _ (text : List ℕ) (from i : ℕ) (e : i ≡ run_end is_space text from) where
  symbol-read : (b : ℕ) → is_lone b ≡ true → begins (b ∷ []) (drop i text) ≡ true → Read (step_in keywords) text from (sign b) (record { at = i + 1 })
  symbol-read b h s = sign_at text from i e (b ∷ []) b (omega arith) s (symbol-there b (drop i text) (and_left (is_symbol b) _ h) (lone-pairs b (drop 1 (drop i text)) h) s)

  other-here : (b : ℕ) → begins (spelt b) (drop i text) ≡ false → Otherwise b (a_sign (drop from text))
  other-here b s = other_sign (drop from text) b (sign-not text from i e b s)

  pub lead-minus : begins (45 ∷ []) (drop i text) ≡ true → LeadIs text from (i + 1) (Some (op code_negate 0))
  lead-minus s =
      let d = symbol-read 45 refl s in
      let f = sign-of (drop from text) (got (sign 45) (drop (i + 1) text)) d.word in
      minus (λ o. (onto (λ x. read-sum (drop from text) ∙ if-there "-" negated (may "+" plainly) (drop from text) f) (λ j. d.within), over-here d.on d.within))

  module _ (m : begins (45 ∷ []) (drop i text) ≡ false) where
    pub lead-plus : begins (43 ∷ []) (drop i text) ≡ true → LeadIs text from (i + 1) None
    lead-plus s =
        let d = symbol-read 43 refl s in
        let f = sign-of (drop from text) (got (sign 43) (drop (i + 1) text)) d.word in
        let h = d.on in
        plain (λ o. onto (λ x. read-sum (drop from text) ∙ if-other "-" negated (may "+" plainly) (drop from text) (other-here 45 m) ∙ if-there "+" plainly plainly (drop from text) f) (λ j. d.within)) (omega arith)

    pub lead-none : begins (43 ∷ []) (drop i text) ≡ false → LeadIs text from from None
    lead-none s =
        plain (λ o. onto (λ x. read-sum (drop from text) ∙ if-other "-" negated (may "+" plainly) (drop from text) (other-here 45 m) ∙ if-other "+" plainly plainly (drop from text) (other-here 43 s)) (λ j. j)) (omega arith)
