-- What is found to be a front (specs/found/Column.antt) is one (specs/Fronts.antt): a text whose words are taken goes on to a line with a reading.
-- Assumes nothing.
use Rattle.std.specs.Prelude.{if◌then◌else◌}
use Prim.Native.Nat.{ℕ, zero, suc, ◌-◌}
use mathlib.Core.Path.{◌≡◌, refl}
use mathlib.Core.Bool.{Bool, true, false, ◌&&◌, false≢true}
use mathlib.Core.List.{List, [], ◌∷◌, ◌++◌, append-nil, append_assoc}
use mathlib.Core.Option.{Option, none, some}
use borrow.Author.Tests.{eqb-true}
use lib.Dec.{eqb}
use lib.ListN.{length, take, drop}
use Rattle.nibl.specs.Bytes.{is_space, is_text, is_quotable, none as done, past, all}
use Rattle.nibl.specs.Words.{Token, string, spaced, quoted, keywords, commands}
use Rattle.nibl.specs.found.Read.{FrontWord, at_end, wrong, got, step_in}
use Rattle.nibl.specs.Fronts.{Front}
use Rattle.nibl.specs.found.Column.{sort_of, a_text, typed_line, typed_command, turn, is_some, is_remark, opened, is_open_string, Verdict, is_alive, turned, by_step, advance, remark_at, run_n, line_run, all_taken, spellings, ends_with, begun_by, begun_in, is_front}
use Rattle.nibl.proofs.Words.{if-split, and_left, and_right, or_cases, true-all, word_sound, ended-sound}
use Rattle.nibl.proofs.Rules.{W}
use Rattle.nibl.proofs.Taken.{Taken, ended, remarked, in_string, takes, LineTaken, by_keywords, by_command}
use Rattle.nibl.proofs.Joined.{Apart, nothing, a_quote, word-joined}
use Rattle.nibl.proofs.Means.{turn-means, command-means}
use Rattle.nibl.proofs.Closes.{Fits, nil, and, turn-fits, line-fits, command-fits, Ended, closes, remark-ends, one}

-- the text goes on to one that the stack means
record Brought (stack s : List ℕ) : Type 0 where
  on : List ℕ
  apart : Apart on
  ends : Ended stack (s ++ on)

-- a string that is open is closed by a quote
record Shut (s e : List ℕ) : Type 0 where
  inside : List ℕ
  word : W (s ++ 34 ∷ e) (string inside) e

shut : (s e : List ℕ) → is_open_string s ≡ true → Shut s e
unfolding is_open_string
shut [] e h = absurd (false≢true h)
shut (b ∷ s) e h = go (is_space b) refl h (λ i. shut s e i)
  where
    go : (t : Bool) → is_space b ≡ t → opened (if t then past is_space s else b ∷ s) ≡ true → (opened (past is_space s) ≡ true → Shut s e) → Shut (b ∷ s) e
    go true i h f = let q = f h in record { inside = q.inside; word = rw (eqb-true b 32 i) (spaced q.word) }
    go false i h f =
        let j = eqb-true b 34 (and_left (eqb b 34) (all is_quotable s) h) in
        record { inside = s; word = rw j (quoted (true-all is_quotable s (and_right (eqb b 34) (all is_quotable s) h))) }

-- one step on
after-word : {stack next s u : List ℕ} {w : Token} → W s w u → turn (sort_of w) stack ≡ some next → Brought next u → Brought stack s
after-word {stack} w e b =
    let q = b.ends in
    record { on = b.on; apart = b.apart; ends = record { left = q.left; means = turn-means stack e (word-joined w b.apart) q.means; spaces = q.spaces } }

brought : {stack s : List ℕ} → Fits stack → Taken stack s → Brought stack s
brought {stack} {s} f (ended a) = let c = closes f in record { on = c.ending; apart = c.apart; ends = c.made s a }
brought {stack} {s} f (remarked h a) = by-remark f h
  where
    by-remark : {stack : List ℕ} → Fits stack → is_remark stack ≡ true → Brought stack s
    by-remark nil h = absurd (false≢true h)
    by-remark (and k t f) h = record { on = []; apart = nothing; ends = rw append-nil (remark-ends h t a) }
brought {stack} {s} f (in_string h o i) = go (turn a_text stack) refl i
  where
    go : (n : Option (List ℕ)) → turn a_text stack ≡ n → is_some n ≡ true → Brought stack s
    go none e i = absurd (false≢true i)
    go (some next) e i =
        let c = closes (turn-fits a_text f e) in
        let q = c.made [] done in
        let w = shut s c.ending o in
        record { on = 34 ∷ c.ending; apart = a_quote; ends = record { left = q.left; means = turn-means stack e w.word q.means; spaces = q.spaces } }
brought f (takes {w} h p e k) = after-word p e (brought (turn-fits (sort_of w) f e) k)

pub taken-front : {s : List ℕ} → LineTaken s → Front s
taken-front (by_keywords k) =
    let b = brought line-fits k in
    let y = one b.ends.means b.ends.spaces in
    record { more = b.on; line = y.0; reading = y.1 }
taken-front (by_command {w} p e k) =
    let b = brought (command-fits (sort_of w) e) k in
    let y = command-means e (word-joined p b.apart) b.ends.means b.ends.spaces in
    record { more = b.on; line = y.0; reading = y.1 }

-- From the function to the relation
module _ (go : List ℕ → List ℕ → Verdict) (sound : (stack s : List ℕ) → is_alive (go stack s) ≡ true → Taken stack s) where
  turned-sound : {P : Type 0} (u : List ℕ) (o : Option (List ℕ)) → ((next : List ℕ) → o ≡ some next → Taken next u → P) → is_alive (turned go u o) ≡ true → P
  turned-sound u none f h = absurd (false≢true h)
  turned-sound u (some next) f h = f next refl (sound next u h)

  advance-sound : (stack s : List ℕ) → is_remark stack ≡ false → is_alive (advance keywords go stack s) ≡ true → Taken stack s
  unfolding advance
  advance-sound stack s n h = by (step_in keywords s) refl h
    where
      by : (r : FrontWord) → step_in keywords s ≡ r → is_alive (by_step keywords go stack s r) ≡ true → Taken stack s
      by at_end e h = ended (ended-sound keywords s e)
      by wrong e h =
          if-split (λ v. is_alive v ≡ true → Taken stack s) (is_open_string s && is_some (turn a_text stack))
          (λ i _. in_string n (and_left (is_open_string s) (is_some (turn a_text stack)) i) (and_right (is_open_string s) (is_some (turn a_text stack)) i))
          (λ _ j. absurd (false≢true j)) h
      by (got w u) e h = turned-sound u (turn (sort_of w) stack) (λ next i k. takes n (word_sound keywords s u w e) i k) h

  command-sound : (s : List ℕ) → is_alive (advance commands go (typed_command ∷ []) s) ≡ true → LineTaken s
  unfolding advance
  command-sound s h = by (step_in commands s) refl h
    where
      by : (r : FrontWord) → step_in commands s ≡ r → is_alive (by_step commands go (typed_command ∷ []) s r) ≡ true → LineTaken s
      by at_end e h = by_keywords (ended (ended-sound commands s e))
      by wrong e h =
          if-split (λ v. is_alive v ≡ true → LineTaken s) (is_open_string s && is_some (turn a_text (typed_command ∷ [])))
          (λ i _. absurd (false≢true (unfold turn in (and_right (is_open_string s) false i)))) (λ _ j. absurd (false≢true j)) h
      by (got w u) e h = turned-sound u (turn (sort_of w) (typed_command ∷ [])) (λ next i k. by_command (word_sound commands s u w e) i k) h

run_sound : (n : ℕ) (stack s : List ℕ) → is_alive (run_n n stack s) ≡ true → Taken stack s
unfolding run_n
run_sound zero stack s h = absurd (false≢true h)
run_sound (suc n) stack s h = go (is_remark stack) refl (advance-sound (run_n n) (run_sound n) stack s) h
  where
    go : (t : Bool) → is_remark stack ≡ t → (is_remark stack ≡ false → is_alive (advance keywords (run_n n) stack s) ≡ true → Taken stack s)
        → is_alive (elim t [ true ↦ remark_at s | false ↦ advance keywords (run_n n) stack s ]) ≡ true → Taken stack s
    go true e f h =
        if-split (λ v. is_alive v ≡ true → Taken stack s) (all is_text s) (λ i _. remarked e (true-all is_text s i)) (λ _ j. absurd (false≢true j)) h
    go false e f h = f e h

pub taken-sound : (s : List ℕ) → all_taken s ≡ true → LineTaken s
unfolding all_taken line_run
taken-sound s e =
    or_cases (is_alive (line_run keywords typed_line s)) (is_alive (line_run commands typed_command s)) e
    (λ h. by_keywords (advance-sound (run_n (length s)) (run_sound (length s)) (typed_line ∷ []) s refl h))
    (λ h. command-sound (run_n (length s)) (run_sound (length s)) s h)

-- A front of a front
pub front-of-front : (s c : List ℕ) → Front (s ++ c) → Front s
front-of-front s c f = record { more = c ++ f.more; line = f.line; reading = rw (← (append_assoc s c f.more)) f.reading }

begun-front : (s z : List ℕ) (i : ℕ) → begun_by s z i ≡ true → Front s
unfolding begun_by
begun-front s z zero e = absurd (false≢true e)
begun-front s z (suc i) e = go (ends_with (take (suc i) z) s && all_taken (s ++ drop (suc i) z)) refl e (begun-front s z i)
  where
    go : (t : Bool) → (ends_with (take (suc i) z) s && all_taken (s ++ drop (suc i) z)) ≡ t → elim t [ true ↦ true | false ↦ begun_by s z i ] ≡ true
        → (begun_by s z i ≡ true → Front s) → Front s
    go true h e f =
        front-of-front s (drop (suc i) z)
        (taken-front (taken-sound (s ++ drop (suc i) z) (and_right (ends_with (take (suc i) z) s) (all_taken (s ++ drop (suc i) z)) h)))
    go false h e f = f e

begun-fronts : (zs : List (List ℕ)) (s : List ℕ) → begun_in zs s ≡ true → Front s
unfolding begun_in
begun-fronts [] s e = absurd (false≢true e)
begun-fronts (z ∷ zs) s e = go (begun_by s z (length z - 1)) refl e (begun-fronts zs s)
  where
    go : (t : Bool) → begun_by s z (length z - 1) ≡ t → elim t [ true ↦ true | false ↦ begun_in zs s ] ≡ true → (begun_in zs s ≡ true → Front s) → Front s
    go true h e f = begun-front s z (length z - 1) h
    go false h e f = f e

pub front-sound : (s : List ℕ) → is_front s ≡ true → Front s
unfolding is_front
front-sound s e = go (all_taken s) refl e
  where
    go : (t : Bool) → all_taken s ≡ t → elim t [ true ↦ true | false ↦ begun_in spellings s ] ≡ true → Front s
    go true h e = taken-front (taken-sound s h)
    go false h e = begun-fronts spellings s e
