-- How long a front part need be tried: from the fifth byte on behind the one at which a line could not go on, no front part of it is the
-- front of a line (`stuck-bound`). Assumes nothing.
use Rattle.std.specs.Prelude.{if◌then◌else◌}
use Prim.Native.Nat.{ℕ, zero, suc, ◌+◌, ◌-◌, ◌≤◌, ◌<◌}
use mathlib.Core.Path.{◌≡◌, refl, sym, ap, ◌∙◌, subst}
use mathlib.Core.Bool.{Bool, true, false, ◌&&◌}
use mathlib.Core.List.{List, [], ◌∷◌, ◌++◌, append-nil, append_assoc}
use mathlib.Core.Option.{Option, none, some}
use native.Mathlib.Omega.{arith}
use borrow.Author.Tests.{leb-true, leb-false}
use lib.Dec.{leb}
use lib.ListN.{length, take, drop, length-append}
use lib.Seq.{length-take-le, take-append-le, take-append-add, take-take}
use Rattle.nibl.specs.Bytes.{is_text, is_capital, starts, front, past, all}
use Rattle.nibl.specs.Words.{Token, keywords, commands, pairs_with, begins, none_over, Word, spaced, keyword, letter, decimal_digits, hex_digits, quoted, pair, symbol}
use Rattle.nibl.specs.found.Read.{FrontWord, at_end, wrong, got, step_in}
use Rattle.nibl.specs.found.GaveUp.{gave_up}
use Rattle.nibl.specs.found.Column.{sort_of, a_text, turn, is_some, is_remark, is_open_string, Verdict, alive, stuck, is_alive, turned, by_step, advance, remark_at, run_n, line_run, all_taken, spellings, ends_with, begun_by, begun_in, is_front, column_down, column_of, typed_line, typed_command}
use Rattle.nibl.proofs.Words.{if-split, and_left, and_right, word_sound, word-complete}
use Rattle.nibl.proofs.Over.{word-short}
use Rattle.nibl.proofs.GaveUp.{past-short, run_ends, gave-up-within, gave-up, gave-up-string}

-- Words: four bytes behind a word decide it
abbrev is_short : List ℕ → Bool
is_short w = leb (length w) 6

starts-taken : (p : ℕ → Bool) (n : ℕ) (s : List ℕ) → starts p (take (suc n) s) ≡ starts p s
starts-taken p n [] = refl
starts-taken p n (b ∷ s) = refl

pairs-taken : (a n : ℕ) (s : List ℕ) → pairs_with a (take (suc n) s) ≡ pairs_with a s
pairs-taken a n [] = refl
pairs-taken a n (b ∷ s) = refl

-- a run's first bytes are those of the text's
begins-taken : (p : ℕ → Bool) (w s : List ℕ) (n : ℕ) → length w ≤ n → begins w (front p (take n s)) ≡ begins w (front p s)
begins-taken p [] s n h = refl
begins-taken p (c ∷ w) s zero h = absurd (omega arith)
begins-taken p (c ∷ w) [] (suc n) h = refl
begins-taken p (c ∷ w) (b ∷ s) (suc n) h = go (p b) (begins-taken p w s n (omega arith))
  where
    go : (x : Bool) → begins w (front p (take n s)) ≡ begins w (front p s)
        → begins (c ∷ w) (if x then b ∷ front p (take n s) else []) ≡ begins (c ∷ w) (if x then b ∷ front p s else [])
    go true e = rw e
    go false e = refl

none-taken : (n : ℕ) (table : List (List ℕ)) (s : List ℕ) → all is_short table ≡ true
    → none_over n table (front is_capital (take 6 s)) ≡ none_over n table (front is_capital s)
unfolding none_over
none-taken n [] s a = refl
none-taken n (w ∷ ws) s a =
    rw (begins-taken is_capital w s 6 (leb-true (length w) 6 (and_left (is_short w) (all is_short ws) a)), none-taken n ws s (and_right (is_short w) (all is_short ws) a))

-- a text in which the word w stands, with any other text behind it that begins as the one that follows it
record Settled (table : List (List ℕ)) (s : List ℕ) (w : Token) (u : List ℕ) : Type 0 where
  before : List ℕ
  whole : before ++ u ≡ s
  again : (v : List ℕ) → take 4 u ≡ take 4 v → Word table (before ++ v) w v

agree : (n m : ℕ) (xs u v : List ℕ) → m ≤ n → take n u ≡ take n v → take m (xs ++ u) ≡ take m (xs ++ v)
agree n m [] u v h e = sym (take-take m n u h) ∙ ap (take m) e ∙ take-take m n v h
agree n zero (x ∷ xs) u v h e = refl
agree n (suc m) (x ∷ xs) u v h e = ap (λ (l : List ℕ). x ∷ l) (agree n m xs u v (omega arith) e)

starts-agree : (p : ℕ → Bool) (u v : List ℕ) → take 4 u ≡ take 4 v → starts p v ≡ starts p u
starts-agree p u v e = sym (starts-taken p 3 v) ∙ ap (starts p) (sym e) ∙ starts-taken p 3 u

module _ (table : List (List ℕ)) (short : all is_short table ≡ true) where
  settled : {s u : List ℕ} {w : Token} → Word table s w u → Settled table s w u
  settled (spaced w) =
      let r = settled w in
      record { before = 32 ∷ r.before; whole = ap (λ (l : List ℕ). 32 ∷ l) r.whole; again = λ v e. spaced (r.again v e) }
  settled (keyword {c} {d} {k} {cs} {s} r) = record {
    before = c ∷ d ∷ cs;
    whole = refl;
    again = λ v e. keyword (record {
      each = r.each;
      spelled = r.spelled;
      longest =
          sym (none-taken (length (c ∷ d ∷ cs)) table (c ∷ d ∷ cs ++ v) short)
          ∙ ap (λ (l : List ℕ). none_over (length (c ∷ d ∷ cs)) table (front is_capital (c ∷ d ∷ l))) (sym (agree 4 4 cs s v (omega arith) e))
          ∙ none-taken (length (c ∷ d ∷ cs)) table (c ∷ d ∷ cs ++ s) short ∙ r.longest;
    });
  }
  settled (letter {c} {s} r) = record {
    before = c ∷ [];
    whole = refl;
    again = λ v e. letter (record { some = r.some; each = r.each; longest = starts-agree _ s v e ∙ r.longest });
  }
  settled (decimal_digits {ds} {s} r l) = record {
    before = ds;
    whole = refl;
    again = λ v e. decimal_digits (record { some = r.some; each = r.each; longest = starts-agree _ s v e ∙ r.longest }) l;
  }
  settled (hex_digits {ds} {s} r) = record {
    before = 35 ∷ ds;
    whole = refl;
    again = λ v e. hex_digits (record { some = r.some; each = r.each; longest = starts-agree _ s v e ∙ r.longest });
  }
  settled (quoted {bs} {s} a) = record {
    before = 34 ∷ bs ++ (34 ∷ []);
    whole = rw (append_assoc bs (34 ∷ []) s);
    again = λ v e. rw (append_assoc bs (34 ∷ []) v) (quoted a);
  }
  settled (pair {a} {b} {k} {s} h) = record { before = a ∷ b ∷ []; whole = refl; again = λ v e. pair h }
  settled (symbol {b} {s} h n) = record {
    before = b ∷ [];
    whole = refl;
    again = λ v e. symbol h (sym (pairs-taken b 3 v) ∙ ap (pairs_with b) (sym e) ∙ pairs-taken b 3 s ∙ n);
  }

  -- so a front part that goes on four bytes or more behind the word has it too
  word-settled : (s u : List ℕ) (w : Token) → step_in table s ≡ got w u → (n : ℕ) → n ≤ length s → length s + 4 < n + length u → (t : List ℕ)
      → step_in table (take n s ++ t) ≡ got w (take (n - (length s - length u)) u ++ t)
  word-settled s u w e n l h t =
      let r = settled (word_sound table s u w e) in
      let j : ℕ = n - (length s - length u) in
      let size : length s ≡ length r.before + length u = sym (ap length r.whole) ∙ length-append r.before u in
      let m : n ≡ length r.before + j = omega arith in
      let kept : take n s ≡ r.before ++ take j u = ap (take n) (sym r.whole) ∙ ap (λ (k : ℕ). take k (r.before ++ u)) m ∙ take-append-add r.before u j in
      let first : take 4 u ≡ take 4 (take j u ++ t) = sym (take-append-le 4 (take j u) t (omega (arith, length-take-le j u (omega arith))) ∙ take-take 4 j u (omega arith)) in
      rw (kept, append_assoc r.before (take j u) t) (word-complete table (r.again (take j u ++ t) first))

-- Runs: the byte at which one could not go on stands within the text
abbrev Within : ℕ → Verdict → Type 0
Within n alive = Unit {0}
Within n (stuck m) = m ≤ n

within-less : (v : Verdict) {n m : ℕ} → m ≤ n → Within m v → Within n v
within-less alive h w = tt
within-less (stuck k) h w = omega arith

module _ (table : List (List ℕ)) (go : List ℕ → List ℕ → Verdict) (ih : (stack s : List ℕ) → Within (length s) (go stack s)) where
  advance-within : (stack s : List ℕ) → Within (length s) (advance table go stack s)
  unfolding advance
  advance-within stack s = step (step_in table s) refl
    where
      taken : (u : List ℕ) → length u < length s → (o : Option (List ℕ)) → Within (length s) (turned go u o)
      taken u h none = omega arith
      taken u h (some next) = within-less (go next u) (omega arith) (ih next u)

      step : (r : FrontWord) → step_in table s ≡ r → Within (length s) (by_step table go stack s r)
      step at_end e = tt
      step wrong e = if-split (Within (length s)) (is_open_string s && is_some (turn a_text stack)) (λ _. tt) (λ _. gave-up-within table s)
      step (got w u) e = taken u (word-short (word_sound table s u w e)) (turn (sort_of w) stack)

run-within : (f : ℕ) (stack s : List ℕ) → Within (length s) (run_n f stack s)
unfolding run_n
run-within zero stack s = omega arith
run-within (suc f) stack s = go (is_remark stack) (advance-within keywords (run_n f) (run-within f) stack s)
  where
    go : (x : Bool) → Within (length s) (advance keywords (run_n f) stack s)
        → Within (length s) (elim x [ true ↦ remark_at s | false ↦ advance keywords (run_n f) stack s ])
    go true h = if-split (Within (length s)) (all is_text s) (λ _. tt) (λ _. past-short is_text s)
    go false h = h

-- and from the fifth byte behind it on, a front part of the text has it too
abbrev Bounded : (List ℕ → List ℕ → Verdict) → (List ℕ → List ℕ → Verdict) → ℕ → Type 0
Bounded go go' k =
    (stack s t : List ℕ) (n m : ℕ) → length s < k → go stack s ≡ stuck m → n ≤ length s → length s + 4 < n + m → is_alive (go' stack (take n s ++ t)) ≡ false

module _ (table : List (List ℕ)) (short : all is_short table ≡ true) (f g : ℕ) (ih : Bounded (run_n f) (run_n g) f) where
  advance-bound : Bounded (advance table (run_n f)) (advance table (run_n g)) (suc f)
  unfolding advance
  advance-bound stack s t n m l e b h = step (step_in table s) refl e
    where
      no : alive ≡ stuck m → ⊥
      no i = let z : ◌≡◌ {A = ℕ} 0 1 = cc in omega arith

      taken : (w : Token) (u : List ℕ) → step_in table s ≡ got w u → (o : Option (List ℕ)) → turn (sort_of w) stack ≡ o → turned (run_n f) u o ≡ stuck m
          → is_alive (by_step table (run_n g) stack (take n s ++ t) (step_in table (take n s ++ t))) ≡ false
      taken w u i none j k =
          let d : m ≡ length u = cc in
          rw (word-settled table short s u w i n b (omega arith) t, j)
      taken w u i (some next) j k =
          let d : m ≤ length u = subst (Within (length u)) k (run-within f next u) in
          let o = word-short (word_sound table s u w i) in
          rw (word-settled table short s u w i n b (omega arith) t, j) (ih next u t (n - (length s - length u)) m (omega arith) k (omega arith) (omega arith))

      step : (r : FrontWord) → step_in table s ≡ r → by_step table (run_n f) stack s r ≡ stuck m
          → is_alive (by_step table (run_n g) stack (take n s ++ t) (step_in table (take n s ++ t))) ≡ false
      step at_end i k = absurd (no k)
      step wrong i k =
          let d : gave_up table s ≡ m = if-split (λ v. v ≡ stuck m → gave_up table s ≡ m) (is_open_string s && is_some (turn a_text stack)) (λ _ q. absurd (no q)) (λ _ q. cc) k in
          rw (gave-up table s i n (omega arith) b t, gave-up-string table s i n (omega arith) b t)
      step (got w u) i k = taken w u i (turn (sort_of w) stack) refl k

run-bound : (f g : ℕ) → Bounded (run_n f) (run_n g) f
unfolding run_n
run-bound zero g stack s t n m l e b h = absurd (omega arith)
run-bound (suc f) zero stack s t n m l e b h = refl
run-bound (suc f) (suc g) stack s t n m l e b h = go (is_remark stack) e (advance-bound keywords refl f g (run-bound f g) stack s t n m l)
  where
    remarked : (x : Bool) → (if x then alive else stuck (length (past is_text s))) ≡ stuck m → is_alive (remark_at (take n s ++ t)) ≡ false
    remarked true k = let z : ◌≡◌ {A = ℕ} 0 1 = cc in absurd (omega arith)
    remarked false k = let d : length (past is_text s) ≡ m = cc in rw (run_ends is_text s n (omega arith) b t)

    go : (x : Bool) → elim x [ true ↦ remark_at s | false ↦ advance keywords (run_n f) stack s ] ≡ stuck m
        → (advance keywords (run_n f) stack s ≡ stuck m → n ≤ length s → length s + 4 < n + m → is_alive (advance keywords (run_n g) stack (take n s ++ t)) ≡ false)
        → is_alive (elim x [ true ↦ remark_at (take n s ++ t) | false ↦ advance keywords (run_n g) stack (take n s ++ t) ]) ≡ false
    go true k ih = remarked (all is_text s) k
    go false k ih = ih k b h

line-bound : (table : List (List ℕ)) → all is_short table ≡ true → (x : ℕ) (s : List ℕ) (m : ℕ) → line_run table x s ≡ stuck m → (n : ℕ) → n ≤ length s
    → length s + 4 < n + m → (t : List ℕ) → is_alive (line_run table x (take n s ++ t)) ≡ false
unfolding line_run
line-bound table short x s m e n b h t =
    advance-bound table short (length s) (length (take n s ++ t)) (run-bound (length s) (length (take n s ++ t))) (x ∷ []) s t n m (omega arith) e b h

-- The search for the column, a step at a time
module _ (s z : List ℕ) (i : ℕ) where
  pub begun-hit : (ends_with (take (suc i) z) s && all_taken (s ++ drop (suc i) z)) ≡ true → begun_by s z (suc i) ≡ true
  unfolding begun_by
  begun-hit e = rw (e, begun_by)

  pub begun-miss : (ends_with (take (suc i) z) s && all_taken (s ++ drop (suc i) z)) ≡ false → begun_by s z (suc i) ≡ begun_by s z i
  unfolding begun_by
  begun-miss e = rw (e, begun_by)

module _ (z : List ℕ) (zs : List (List ℕ)) (s : List ℕ) where
  pub begun-here : begun_by s z (length z - 1) ≡ true → begun_in (z ∷ zs) s ≡ true
  unfolding begun_in
  begun-here e = rw (e, begun_in)

  pub begun-later : begun_by s z (length z - 1) ≡ false → begun_in (z ∷ zs) s ≡ begun_in zs s
  unfolding begun_in
  begun-later e = rw (e, begun_in)

pub front-taken : (s : List ℕ) → all_taken s ≡ true → is_front s ≡ true
unfolding is_front
front-taken s e = rw (e, is_front)

pub front-begun : (s : List ℕ) → all_taken s ≡ false → is_front s ≡ begun_in spellings s
unfolding is_front
front-begun s e = rw (e, is_front)

pub column-hit : (n : ℕ) (s : List ℕ) → is_front (take (suc n) s) ≡ true → column_down (suc n) s ≡ suc n
unfolding column_down
column-hit n s e = rw (e, column_down)

pub column-miss : (n : ℕ) (s : List ℕ) → is_front (take (suc n) s) ≡ false → column_down (suc n) s ≡ column_down n s
unfolding column_down
column-miss n s e = rw (e, column_down)

-- Fronts
pub and-false : (a : Bool) → (a && false) ≡ false
and-false true = refl
and-false false = refl

module _ (s : List ℕ) (none : (t : List ℕ) → all_taken (s ++ t) ≡ false) where
  not-begun : (z : List ℕ) (i : ℕ) → begun_by s z i ≡ false
  not-begun z zero = unfold begun_by in refl
  not-begun z (suc i) = begun-miss s z i (rw (none (drop (suc i) z)) (and-false (ends_with (take (suc i) z) s))) ∙ not-begun z i

  none-begun : (zs : List (List ℕ)) → begun_in zs s ≡ false
  none-begun [] = unfold begun_in in refl
  none-begun (z ∷ zs) = begun-later z zs s (not-begun z (length z - 1)) ∙ none-begun zs

  no_front : is_front s ≡ false
  no_front = front-begun s (rw append-nil at (none [])) ∙ none-begun spellings

pub stuck-bound : (s : List ℕ) (m k : ℕ) → line_run keywords typed_line s ≡ stuck m → line_run commands typed_command s ≡ stuck k → (n : ℕ) → n ≤ length s
    → length s + 4 < n + m → length s + 4 < n + k → is_front (take n s) ≡ false
stuck-bound s m k e f n b h i =
    no_front (take n s) (λ t. unfold all_taken in (rw (line-bound keywords refl typed_line s m e n b h t, line-bound commands refl typed_command s k f n b i t)))

-- So the search may begin there
column-from : (s : List ℕ) (hi n : ℕ) → hi ≤ n → ((j : ℕ) → hi < j → j ≤ n → is_front (take j s) ≡ false) → column_down n s ≡ column_down hi s
column-from s hi zero h f = let e : hi ≡ zero = omega arith in rw e
column-from s hi (suc n) h f = go (leb (suc n) hi) refl (λ l. column-from s hi n l (λ j i k. f j i (omega arith)))
  where
    go : (x : Bool) → leb (suc n) hi ≡ x → (hi ≤ n → column_down n s ≡ column_down hi s) → column_down (suc n) s ≡ column_down hi s
    go true e ih = let d : hi ≡ suc n = omega (arith, leb-true (suc n) hi e) in rw d
    go false e ih = let d = leb-false (suc n) hi e in column-miss n s (f (suc n) d (omega arith)) ∙ ih (omega arith)

pub column-bound : (s : List ℕ) (m k : ℕ) → line_run keywords typed_line s ≡ stuck m → line_run commands typed_command s ≡ stuck k → (hi : ℕ) → hi ≤ length s
    → length s + 4 ≤ hi + m → length s + 4 ≤ hi + k → column_of s ≡ column_down hi s
unfolding column_of
column-bound s m k e f hi l h i = column-from s hi (length s) l (λ j a b. stuck-bound s m k e f j b (omega arith) (omega arith))
