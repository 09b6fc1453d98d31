-- A front part of a text whose words are taken is found to be a front: its own words are taken, or those of it and the rest of a word that
-- it has begun (`is_front`, specs/found/Column.antt). Assumes nothing.
use Rattle.std.specs.Prelude.{if◌then◌else◌}
use Prim.Native.Nat.{ℕ, zero, suc, ◌-◌, ◌≤◌, ◌<◌}
use mathlib.Core.Path.{◌≡◌, refl, sym, ◌∙◌}
use mathlib.Core.Bool.{Bool, true, false, not, ◌&&◌, ◌||◌, false≢true}
use mathlib.Core.List.{List, [], ◌∷◌, ◌++◌, append-nil}
use mathlib.Core.Option.{Option, none, some}
use native.Mathlib.Omega.{arith}
use borrow.Author.Tests.{le-leb, eqb-true, eqb-false}
use lib.Dec.{eqb}
use lib.ListN.{length, take, drop, length-append}
use lib.Seq.{take-append_seam, drop-append_seam}
use Rattle.nibl.specs.Bytes.{is_space, is_text, is_quotable, All, none as done, past, all}
use Rattle.nibl.specs.Words.{Token, Word, index_in, there, keywords, commands}
use Rattle.nibl.specs.found.Read.{wrong, word_step, step_in}
use Rattle.nibl.specs.found.Column.{sort_of, a_text, typed_line, typed_command, turn, is_some, is_remark, opened, is_open_string, Verdict, alive, is_alive, advance, run_n, line_run, all_taken, spellings, ends_with, begun_by, begun_in, is_front}
use Rattle.nibl.proofs.Tests.{and_left, and_right, or_cases, or-true, all_true, true-all, past-run}
use Rattle.nibl.proofs.Keywords.{same_self, of-table}
use Rattle.nibl.proofs.Words.{step-space, step-word, word-complete, ended-complete}
use Rattle.nibl.proofs.Over.{word-short}
use Rattle.nibl.proofs.Ends.{spaces-text}
use Rattle.nibl.proofs.Taken.{Taken, ended, remarked, in_string, takes, LineTaken, by_keywords, by_command}
use Rattle.nibl.proofs.CutWord.{all_first, is_listed, Begun, whole, part, begun-behind, Cut, spaces, within, left_open, begun, word_cut}

-- The relation, cut

-- P holds of s, cut before t, or of s and a front part of t that ends the word that s has begun
record Shorter (P : List ℕ → Type 0) (s t : List ℕ) : Type 0 where
  pub more : List ℕ
  pub left : List ℕ
  pub parted : t ≡ more ++ left
  pub front : Begun s more
  pub taken : P (s ++ more)

uncut : (P : List ℕ → Type 0) {s : List ℕ} (t : List ℕ) → P s → Shorter P s t
uncut P {s} t h = record { more = []; left = t; parted = refl; front = whole; taken = rw (append-nil s) h }

open-cut : (s t : List ℕ) → is_open_string (s ++ t) ≡ true → (all is_space s || is_open_string s) ≡ true
unfolding is_open_string
open-cut [] t e = refl
open-cut (b ∷ s) t e = go (is_space b) (open-cut s t) e
  where
    go : (r : Bool) → (is_open_string (s ++ t) ≡ true → (all is_space s || is_open_string s) ≡ true)
        → opened (if r then past is_space (s ++ t) else b ∷ s ++ t) ≡ true
        → ((r && all is_space s) || opened (if r then past is_space s else b ∷ s)) ≡ true
    go true f h = f h
    go false f h =
        let a = true-all is_quotable (s ++ t) (and_right (eqb b 34) (all is_quotable (s ++ t)) h) in
        rw (and_left (eqb b 34) (all is_quotable (s ++ t)) h) (all_true (all_first s t a))

some_turn : (o : Option (List ℕ)) (next : List ℕ) → o ≡ some next → is_some o ≡ true
some_turn none next e = let z : ◌≡◌ {A = ℕ} 0 1 = cc in absurd (omega arith)
some_turn (some r) next e = refl

keywords-known : all is_listed keywords ≡ true
unfolding is_listed
keywords-known = refl

commands-known : all is_listed commands ≡ true
unfolding is_listed
commands-known = refl

-- P by a word of the sort of w and then Q: from the word's own cut and that of Q
module _ (P Q : List ℕ → Type 0) {table : List (List ℕ)} {s t u : List ℕ} {w : Token}
    (by : (x y : List ℕ) (v : Token) → Word table x v y → sort_of v ≡ sort_of w → Q y → P x) where
  word-shorter : (All is_space s → P s) → (is_open_string s ≡ true → sort_of w ≡ a_text → P s) → Q [] → ((x : List ℕ) → u ≡ x ++ t → Shorter Q x t)
      → Cut table s t w u → Shorter P s t
  word-shorter f g k r (spaces a) = uncut P t (f a)
  word-shorter f g k r (within q x i j h) =
      let m = r x j in
      record {
        more = m.more;
        left = m.left;
        parted = m.parted;
        front = rw i (begun-behind q m.front);
        taken = by _ _ w (h m.more m.left m.parted) refl m.taken;
      }
  word-shorter f g k r (left_open i j) = uncut P t (g i j)
  word-shorter f g k r (begun c d i b x j) = record { more = c; left = d; parted = i; front = b; taken = by _ _ _ x j k }

taken-shorter : (s t : List ℕ) {stack l : List ℕ} → Taken stack l → l ≡ s ++ t → Shorter (Taken stack) s t
taken-shorter s t (ended {stack} a) h = uncut (Taken stack) t (ended (all_first s t (rw h at a)))
taken-shorter s t (remarked {stack} r a) h = uncut (Taken stack) t (remarked r (all_first s t (rw h at a)))
taken-shorter s t (in_string {stack} r o e) h = uncut (Taken stack) t
    (or_cases (all is_space s) (is_open_string s) (open-cut s t (rw h at o)) (λ a. ended (true-all is_space s a)) (λ i. in_string r i e))
taken-shorter s t (takes {stack} {next} r v e k) h =
    word-shorter (Taken stack) (Taken next) (λ x y v' f i. takes {stack = stack} {next = next} r f (rw i e)) ended
    (λ i j. in_string r i (some_turn _ next (rw j at e))) (ended done) (λ x. taken-shorter x t k) (word_cut keywords keywords-known s t v h)

line-shorter : (s t : List ℕ) {l : List ℕ} → LineTaken l → l ≡ s ++ t → Shorter LineTaken s t
unfolding turn
line-shorter s t (by_keywords k) h =
    let m = taken-shorter s t k h in
    record { more = m.more; left = m.left; parted = m.parted; front = m.front; taken = by_keywords m.taken }
line-shorter s t (by_command {stack} v e k) h =
    word-shorter LineTaken (Taken stack) (λ x y v' f i. by_command {stack = stack} f (rw i e)) (λ a. by_keywords (ended a))
    (λ i j. absurd (no-string (rw j at e))) (ended done) (λ x. taken-shorter x t k) (word_cut commands commands-known s t v h)
  where
    no-string : none ≡ some stack → ⊥
    no-string n = let z : ◌≡◌ {A = ℕ} 0 1 = cc in omega arith

-- The relation gives what the function finds

quote-wrong : (table : List (List ℕ)) (s : List ℕ) → All is_quotable s → word_step table 34 s ≡ wrong
unfolding word_step
quote-wrong table s a = let e : past is_quotable s ≡ [] = rw append-nil at (past-run a [] refl) in rw e

-- a string that is left open is no word
open-wrong : (table : List (List ℕ)) (s : List ℕ) → is_open_string s ≡ true → step_in table s ≡ wrong
unfolding is_open_string
open-wrong table [] e = absurd (false≢true e)
open-wrong table (b ∷ s) e = go (is_space b) refl (open-wrong table s) e
  where
    go : (r : Bool) → is_space b ≡ r → (is_open_string s ≡ true → step_in table s ≡ wrong) → opened (if r then past is_space s else b ∷ s) ≡ true
        → step_in table (b ∷ s) ≡ wrong
    go true i f h = step-space table b s i ∙ f h
    go false i f h =
        let a = true-all is_quotable s (and_right (eqb b 34) (all is_quotable s) h) in
        step-word table b s i ∙ rw (eqb-true b 34 (and_left (eqb b 34) (all is_quotable s) h)) (quote-wrong table s a)

module _ (table : List (List ℕ)) (go : List ℕ → List ℕ → Verdict) (stack s : List ℕ) where
  advance-ended : All is_space s → advance table go stack s ≡ alive
  unfolding advance
  advance-ended a = rw (ended-complete table a)

  advance-open : is_open_string s ≡ true → is_some (turn a_text stack) ≡ true → advance table go stack s ≡ alive
  unfolding advance
  advance-open o e = rw (open-wrong table s o) (rw (o, e))

  advance-word : {u next : List ℕ} {w : Token} → Word table s w u → turn (sort_of w) stack ≡ some next → advance table go stack s ≡ go next u
  unfolding advance
  advance-word v e = rw (word-complete table v) (rw e)

run-word : (n : ℕ) (stack s : List ℕ) → is_remark stack ≡ false → run_n (suc n) stack s ≡ advance keywords (run_n n) stack s
unfolding run_n
run-word n stack s e = rw (e, run_n)

run-remark : (n : ℕ) (stack s : List ℕ) → is_remark stack ≡ true → All is_text s → run_n (suc n) stack s ≡ alive
unfolding run_n
run-remark n stack s e a = rw (e, run_n) (rw (all_true a))

-- every word takes a byte, so a text's length bounds them
run-taken : (n : ℕ) {stack s : List ℕ} → Taken stack s → length s < n → run_n n stack s ≡ alive
run-taken zero t h = absurd (omega arith)
run-taken (suc n) (ended {stack} {s} a) h = go (is_remark stack) refl
  where
    go : (r : Bool) → is_remark stack ≡ r → run_n (suc n) stack s ≡ alive
    go true e = run-remark n stack s e (spaces-text a)
    go false e = run-word n stack s e ∙ advance-ended keywords (run_n n) stack s a
run-taken (suc n) (remarked {stack} {s} r a) h = run-remark n stack s r a
run-taken (suc n) (in_string {stack} {s} r o e) h = run-word n stack s r ∙ advance-open keywords (run_n n) stack s o e
run-taken (suc n) (takes {stack} {next} {s} r v e k) h =
    run-word n stack s r ∙ advance-word keywords (run_n n) stack s v e ∙ run-taken n k (omega (arith, word-short v))

pub taken-complete : {s : List ℕ} → LineTaken s → all_taken s ≡ true
unfolding all_taken line_run
taken-complete (by_keywords {s} k) = rw (sym (run-word (length s) (typed_line ∷ []) s refl) ∙ run-taken (suc (length s)) k (omega arith))
taken-complete (by_command {s} v e k) =
    rw (advance-word commands (run_n (length s)) (typed_command ∷ []) s v e ∙ run-taken (length s) k (word-short v))
    (or-true (is_alive (line_run keywords typed_line s)))

-- What is begun is found

ends-behind : (p a : List ℕ) → ends_with a (p ++ a) ≡ true
ends-behind p a =
    let e : length (p ++ a) - length a ≡ length p = omega (arith, length-append p a) in
    rw (le-leb (length a) (length (p ++ a)) (omega (arith, length-append p a)), e, drop-append_seam p a) (same_self a)

or-else : (t b : Bool) → b ≡ true → elim t as (λ _. Bool) [ true ↦ true | false ↦ b ] ≡ true
or-else true b e = refl
or-else false b e = e

begun-here : (s z : List ℕ) (i : ℕ) → ends_with (take (suc i) z) s && all_taken (s ++ drop (suc i) z) ≡ true → begun_by s z (suc i) ≡ true
unfolding begun_by
begun-here s z i e = rw (e, begun_by)

-- of the spelling a ++ c the first i bytes are tried, and fewer, down to a
begun-by : (p a c : List ℕ) (i : ℕ) → 1 ≤ length a → length a ≤ i → all_taken (p ++ a ++ c) ≡ true → begun_by (p ++ a) (a ++ c) i ≡ true
unfolding begun_by
begun-by p a c zero l h t = absurd (omega arith)
begun-by p a c (suc i) l h t = go (eqb (length a) (suc i)) refl (λ k. begun-by p a c i l k t)
  where
    go : (r : Bool) → eqb (length a) (suc i) ≡ r → (length a ≤ i → begun_by (p ++ a) (a ++ c) i ≡ true) → begun_by (p ++ a) (a ++ c) (suc i) ≡ true
    go true e f =
        let j = eqb-true (length a) (suc i) e in
        begun-here (p ++ a) (a ++ c) i (rw (← j, take-append_seam a c, drop-append_seam a c, ends-behind p a) t)
    go false e f =
        let d = eqb-false (length a) (suc i) e in
        or-else (ends_with (take (suc i) (a ++ c)) (p ++ a) && all_taken (p ++ a ++ drop (suc i) (a ++ c))) _ (f (omega arith))

-- where none is found, none is begun
none-begun : (zs : List (List ℕ)) (s : List ℕ) → begun_in zs s ≡ false → all (λ (z : List ℕ). not (begun_by s z (length z - 1))) zs ≡ true
unfolding begun_in
none-begun [] s e = refl
none-begun (z ∷ zs) s e = go (begun_by s z (length z - 1)) (none-begun zs s) e
  where
    go : (t : Bool) → (begun_in zs s ≡ false → all (λ (z : List ℕ). not (begun_by s z (length z - 1))) zs ≡ true)
        → elim t as (λ _. Bool) [ true ↦ true | false ↦ begun_in zs s ] ≡ false → not t && all (λ (z : List ℕ). not (begun_by s z (length z - 1))) zs ≡ true
    go true f h = absurd (false≢true (sym h))
    go false f h = f h

begun-in : (s z : List ℕ) → is_listed z ≡ true → begun_by s z (length z - 1) ≡ true → begun_in spellings s ≡ true
unfolding is_listed
begun-in s z e b = go (begun_in spellings s) refl (index_in spellings z) refl e
  where
    go : (t : Bool) → begun_in spellings s ≡ t → (o : Option ℕ) → index_in spellings z ≡ o → there o ≡ true → t ≡ true
    go true h o i j = refl
    go false h none i j = j
    go false h (some k) i j =
        absurd (false≢true (rw b at (of-table (λ z. not (begun_by s z (length z - 1))) 128 spellings z k (none-begun spellings s h) i)))

front-found : (s : List ℕ) {c : List ℕ} → Begun s c → all_taken (s ++ c) ≡ true → is_front s ≡ true
unfolding is_front
front-found s whole t = let e : all_taken s ≡ true = rw append-nil at t in rw (e, is_front)
front-found s (part p a c x y e) t = or-else (all_taken (p ++ (x ∷ a))) _ (begun-in (p ++ (x ∷ a)) ((x ∷ a) ++ (y ∷ c)) e
    (begun-by p (x ∷ a) (y ∷ c) _ (omega arith) (omega (arith, length-append a (y ∷ c))) t))

pub taken-cut : (s t : List ℕ) → LineTaken (s ++ t) → is_front s ≡ true
taken-cut s t k = let m = line-shorter s t k refl in front-found s m.front (taken-complete m.taken)
