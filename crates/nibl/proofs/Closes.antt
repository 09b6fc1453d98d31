-- Every stack that comes of a line (specs/found/Column.antt) can be brought to an end: its ending, and that the stack then means the text.
-- Assumes nothing.
use Rattle.std.specs.Prelude.{if◌then◌else◌}
use Prim.Native.Nat.{ℕ, zero, suc}
use mathlib.Core.Path.{◌≡◌, refl, sym, ◌∙◌}
use mathlib.Core.Bool.{Bool, true, false, not, ◌&&◌, ◌||◌, false≢true}
use mathlib.Core.List.{List, [], ◌∷◌, ◌++◌, append-nil}
use mathlib.Core.Option.{Option, none, some}
use native.Mathlib.Omega.{arith}
use borrow.Author.Tests.{eqb-true}
use lib.Dec.{eqb}
use Rattle.nibl.specs.Bytes.{bytes, is_space, is_text, All, none as done, starts, all}
use Rattle.nibl.specs.Words.{Token, keywords}
use Rattle.nibl.specs.Grammar.{a_blank}
use Rattle.nibl.specs.found.Read.{FrontWord, at_end, wrong, got, letters_step, word_step, step_in, choose}
use Rattle.nibl.specs.found.Column.{sort_of, factor, first_factor, closing, mod_open, mod_comma, target, equals, text_equals, text_value, statement, after_go, item, consequence, for_variable, for_equals, for_to, one_variable, input_target, typed_line, typed_command, remark, more_members, is_optional, Cases, rules, cases_of, case_in, turn}
use Rattle.nibl.proofs.Words.{if-split, and_left, and_right, or_cases, word_sound}
use Rattle.nibl.proofs.Rules.{W}
use Rattle.nibl.proofs.Ends.{line-text}
use Rattle.nibl.proofs.Joined.{Apart, nothing, a_space, word-joined, word-spaced}
use Rattle.nibl.proofs.Means.{Mean, left_out, Means, none as no_more, more, all-left-out, turn-means}

-- Endings, of what must come
abbrev endings : List (ℕ × List ℕ)
endings =
    (factor, bytes " 1") ∷ (first_factor, bytes " 1") ∷ (closing, bytes " )") ∷ (mod_open, bytes " ( 1 , 1 )") ∷ (mod_comma, bytes " , 1 )")
    ∷ (target, bytes " A = 1") ∷ (equals, bytes " = 1") ∷ (text_equals, bytes " = \"\"") ∷ (text_value, bytes " \"\"") ∷ (statement, bytes " END")
    ∷ (after_go, bytes " TO 1") ∷ (item, bytes " 1") ∷ (consequence, bytes " END") ∷ (for_variable, bytes " A = 1 TO 1")
    ∷ (for_equals, bytes " = 1 TO 1") ∷ (for_to, bytes " TO 1") ∷ (one_variable, bytes " A") ∷ (input_target, bytes " A") ∷ (typed_line, bytes " END") ∷ []

abbrev is_empty : List ℕ → Bool
is_empty [] = true
is_empty (b ∷ s) = false

is-empty : (s : List ℕ) → is_empty s ≡ true → s ≡ []
is-empty [] e = refl
is-empty (b ∷ s) e = absurd (false≢true e)

-- the text's words bring the stack to what need not come
abbrev by_turn : (List ℕ → List ℕ → Bool) → List ℕ → Option (List ℕ) → Bool
by_turn go u none = false
by_turn go u (some stack) = go stack u

abbrev by_step : (List ℕ → List ℕ → Bool) → List ℕ → List ℕ → FrontWord → Bool
by_step go stack s at_end = is_empty s && all is_optional stack
by_step go stack s wrong = false
by_step go stack s (got w u) = by_turn go u (turn (sort_of w) stack)

ends : ℕ → List ℕ → List ℕ → Bool
ends zero stack s = false
ends (suc n) stack s = by_step (ends n) stack s (step_in keywords s)

is_ending : ℕ × List ℕ → Bool
is_ending c = starts is_space c.1 && ends 8 (c.0 ∷ []) c.1

endings-end : all is_ending endings ≡ true
unfolding is_ending ends letters_step word_step step_in turn
endings-end = refl

-- t is the text s with e behind it, perhaps with spaces before it
ends-means : (n : ℕ) (stack s t e : List ℕ) → Apart e → ((w : Token) (u : List ℕ) → W s w u → W t w (u ++ e)) → (s ≡ [] → t ≡ e) → ends n stack s ≡ true
    → Means stack t e
unfolding ends
ends-means zero stack s t e a f g h = absurd (false≢true h)
ends-means (suc n) stack s t e a f g h =
    go (step_in keywords s) refl (λ next u. ends-means n next u (u ++ e) e a (λ w v p. word-joined p a) (λ k. rw k)) h
  where
    by : (w : Token) (u : List ℕ) (o : Option (List ℕ)) → turn (sort_of w) stack ≡ o → W s w u
        → ((next u : List ℕ) → ends n next u ≡ true → Means next (u ++ e) e) → by_turn (ends n) u o ≡ true → Means stack t e
    by w u none j p m h = absurd (false≢true h)
    by w u (some next) j p m h = turn-means stack j (f w u p) (m next u h)

    go : (r : FrontWord) → step_in keywords s ≡ r → ((next u : List ℕ) → ends n next u ≡ true → Means next (u ++ e) e)
        → by_step (ends n) stack s r ≡ true → Means stack t e
    go at_end i m h = rw (g (is-empty s (and_left (is_empty s) (all is_optional stack) h))) (all-left-out stack e (and_right (is_empty s) (all is_optional stack) h))
    go wrong i m h = absurd (false≢true h)
    go (got w u) i m h = by w u (turn (sort_of w) stack) refl (word_sound keywords s u w i) m h

-- Stacks that come of a line. A remark takes the rest of the line: behind what it may come of, nothing stands that must come
abbrev takes_all : ℕ → Bool
takes_all x = eqb x statement || eqb x consequence || eqb x typed_line || eqb x remark || eqb x more_members

abbrev is_in : List (ℕ × List ℕ) → ℕ → Bool
is_in [] x = false
is_in (c ∷ cs) x = eqb x c.0 || is_in cs x

-- there is a way to end it
abbrev is_known : ℕ → Bool
is_known x = is_optional x || eqb x remark || is_in endings x

pub data Fits : List ℕ → Type 0 where
  nil : Fits []
  and : {x : ℕ} {xs : List ℕ} → is_known x ≡ true → (takes_all x ≡ true → all is_optional xs ≡ true) → Fits xs → Fits (x ∷ xs)

-- the same of a rule's stack, by a test
abbrev none_takes : List ℕ → Bool
none_takes [] = true
none_takes (x ∷ xs) = not (takes_all x) && none_takes xs

abbrev fits : List ℕ → Bool
fits [] = true
fits (x ∷ xs) = is_known x && ((not (takes_all x) || all is_optional xs) && fits xs)

abbrev is_fit : ℕ → List ℕ → Bool
is_fit x r = fits r && (takes_all x || none_takes r)

abbrev all_fit : ℕ → Cases → Bool
all_fit x cs = all (λ (c : ℕ × List ℕ). is_fit x c.1) cs

rules-fit : all (λ (c : ℕ × Cases). all_fit c.0 c.1) rules ≡ true
rules-fit = refl

fit_of : (p : ℕ → Cases → Bool) (x : ℕ) (cs : List (ℕ × Cases)) → p x [] ≡ true → all (λ (c : ℕ × Cases). p c.0 c.1) cs ≡ true
    → p x (choose cs [] x) ≡ true
fit_of p x [] e h = e
fit_of p x (c ∷ cs) e h =
    let a = and_left (p c.0 c.1) (all (λ (c : ℕ × Cases). p c.0 c.1) cs) h in
    let b = and_right (p c.0 c.1) (all (λ (c : ℕ × Cases). p c.0 c.1) cs) h in
    if-split (λ r. p x r ≡ true) (eqb x c.0) (λ i. rw (eqb-true x c.0 i) a) (λ _. fit_of p x cs e b)

case-fit : (p : List ℕ → Bool) (k : ℕ) (r : List ℕ) (cs : Cases) → all (λ (c : ℕ × List ℕ). p c.1) cs ≡ true → case_in cs k ≡ some r → p r ≡ true
case-fit p k r [] h e = let z : ◌≡◌ {A = ℕ} 0 1 = cc in absurd (omega arith)
case-fit p k r (c ∷ cs) h e =
    let a = and_left (p c.1) (all (λ (c : ℕ × List ℕ). p c.1) cs) h in
    let b = and_right (p c.1) (all (λ (c : ℕ × List ℕ). p c.1) cs) h in
    if-split (λ o. o ≡ some r → p r ≡ true) (eqb k c.0) (λ _ i. let j : c.1 ≡ r = cc in rw (← j) a) (λ _ i. case-fit p k r cs b i) e

all_append : (xs ys : List ℕ) → all is_optional xs ≡ true → all is_optional ys ≡ true → all is_optional (xs ++ ys) ≡ true
all_append [] ys e f = f
all_append (x ∷ xs) ys e f =
    rw (and_left (is_optional x) (all is_optional xs) e) (all_append xs ys (and_right (is_optional x) (all is_optional xs) e) f)

not-and : (a b : Bool) → b ≡ false → not a && b ≡ false
not-and true b e = refl
not-and false b e = e

fits-append : (r xs : List ℕ) → fits r ≡ true → Fits xs → (none_takes r ≡ false → all is_optional xs ≡ true) → Fits (r ++ xs)
fits-append [] xs e f g = f
fits-append (x ∷ r) xs e f g =
    let h = and_right (is_known x) ((not (takes_all x) || all is_optional r) && fits r) e in
    and {x = x} (and_left (is_known x) ((not (takes_all x) || all is_optional r) && fits r) e)
    (λ i. all_append r xs
    (or_cases (not (takes_all x)) (all is_optional r) (and_left (not (takes_all x) || all is_optional r) (fits r) h) (λ j. absurd (false≢true (rw i at j))) (λ j. j))
    (g (rw i)))
    (fits-append r xs (and_right (not (takes_all x) || all is_optional r) (fits r) h) f (λ i. g (not-and (takes_all x) (none_takes r) i)))

first_fits : (k x : ℕ) {xs next : List ℕ} → (takes_all x ≡ true → all is_optional xs ≡ true) → Fits xs → (turn k xs ≡ some next → Fits next)
    → turn k (x ∷ xs) ≡ some next → Fits next
unfolding turn
first_fits k x {xs} {next} t f q e = go (case_in (cases_of x) k) refl q e
  where
    go : (o : Option (List ℕ)) → case_in (cases_of x) k ≡ o → (turn k xs ≡ some next → Fits next)
        → elim o [ some r ↦ some (r ++ xs) | none ↦ if is_optional x then turn k xs else none ] ≡ some next → Fits next
    go (some r) i g h =
        let j : r ++ xs ≡ next = cc in
        let m : is_fit x r ≡ true = case-fit (is_fit x) k r (cases_of x) (fit_of all_fit x rules refl rules-fit) i in
        rw (← j) (fits-append r xs (and_left (fits r) (takes_all x || none_takes r) m) f
        (λ n. t (or_cases (takes_all x) (none_takes r) (and_right (fits r) (takes_all x || none_takes r) m) (λ o. o) (λ o. absurd (false≢true (sym n ∙ o))))))
    go none i g h = if-split (λ o. o ≡ some next → Fits next) (is_optional x) (λ _ n. g n) (λ _ n. let z : ◌≡◌ {A = ℕ} 0 1 = cc in absurd (omega arith)) h

pub turn-fits : (k : ℕ) {stack next : List ℕ} → Fits stack → turn k stack ≡ some next → Fits next
unfolding turn
turn-fits k nil e = let z : ◌≡◌ {A = ℕ} 0 1 = cc in absurd (omega arith)
turn-fits k (and {x} h t f) e = first_fits k x t f (turn-fits k f) e

pub line-fits : Fits (typed_line ∷ [])
line-fits = and refl (λ _. refl) nil

pub command-fits : (k : ℕ) {next : List ℕ} → turn k (typed_command ∷ []) ≡ some next → Fits next
command-fits k e = first_fits k typed_command (λ _. refl) nil (turn-fits k nil) e

-- A stack's text, with nothing but spaces after it
pub record Ended (stack s : List ℕ) : Type 0 where
  pub left : List ℕ
  pub means : Means stack s left
  pub spaces : All is_space left

-- what ends it, after any spaces
pub record Closed (stack : List ℕ) : Type 0 where
  pub ending : List ℕ
  pub apart : Apart ending
  pub made : (p : List ℕ) → All is_space p → Ended stack (p ++ ending)

all_end : (xs : List ℕ) → all is_optional xs ≡ true → Ended xs []
all_end xs e = record { left = []; means = all-left-out xs [] e; spaces = done }

pub remark-ends : {x : ℕ} {xs s : List ℕ} → eqb x remark ≡ true → (takes_all x ≡ true → all is_optional xs ≡ true) → All is_text s → Ended (x ∷ xs) s
remark-ends {x} {xs} {s} e t a =
    let i = eqb-true x remark e in
    let q = all_end xs (t (rw i)) in
    rw i (record { left = q.left; means = more {x = remark} (a, refl) q.means; spaces = q.spaces })

ending_of : (p : ℕ × List ℕ → Bool) (x : ℕ) (cs : List (ℕ × List ℕ)) → is_in cs x ≡ true → all p cs ≡ true → p (x, choose cs [] x) ≡ true
ending_of p x [] e h = absurd (false≢true e)
ending_of p x (c ∷ cs) e h = go (eqb x c.0) refl e (λ i. ending_of p x cs i (and_right (p c) (all p cs) h))
  where
    go : (t : Bool) → eqb x c.0 ≡ t → t || is_in cs x ≡ true → (is_in cs x ≡ true → p (x, choose cs [] x) ≡ true)
        → p (x, if t then c.1 else choose cs [] x) ≡ true
    go true i e g = rw (eqb-true x c.0 i) (and_left (p c) (all p cs) h)
    go false i e g = g e

apart-append : (a s : List ℕ) → starts is_space a ≡ true → Apart (a ++ s)
apart-append [] s e = absurd (false≢true e)
apart-append (b ∷ a) s e = rw (eqb-true b 32 e) a_space

pub one : {x : ℕ} {s u : List ℕ} → Means (x ∷ []) s u → Mean x s u
one (more m no_more) = m

with-ending : (x : ℕ) (e : List ℕ) {xs : List ℕ} → Closed xs → is_ending (x, e) ≡ true → Closed (x ∷ xs)
unfolding is_ending
with-ending x e c h =
    let f = and_left (starts is_space e) (ends 8 (x ∷ []) e) h in
    let r = c.made [] done in
    record {
      ending = e ++ c.ending;
      apart = apart-append e c.ending f;
      made = λ p a. record {
        left = r.left;
        means = more (one (ends-means 8 (x ∷ []) e (p ++ (e ++ c.ending)) c.ending c.apart (λ w u q. word-spaced a (word-joined q c.apart))
            (λ i. absurd (false≢true (rw i at f))) (and_right (starts is_space e) (ends 8 (x ∷ []) e) h))) r.means;
        spaces = r.spaces;
      };
    }

pub closes : {stack : List ℕ} → Fits stack → Closed stack
closes nil = record { ending = []; apart = nothing; made = λ p a. record { left = p; means = rw append-nil no_more; spaces = a } }
closes (and {x} {xs} k t f) = go (closes f)
  where
    go : Closed xs → Closed (x ∷ xs)
    go c =
        or_cases (is_optional x || eqb x remark) (is_in endings x) k
        (λ h. or_cases (is_optional x) (eqb x remark) h
        (λ e. record {
          ending = c.ending;
          apart = c.apart;
          made = λ p a. let q = c.made p a in record { left = q.left; means = more (left_out x e (p ++ c.ending)) q.means; spaces = q.spaces };
        })
        (λ e. record { ending = []; apart = nothing; made = λ p a. remark-ends e t (rw append-nil (line-text (a_blank a))) }))
        (λ h. with-ending x (choose endings [] x) c (ending_of is_ending x endings h endings-end))
