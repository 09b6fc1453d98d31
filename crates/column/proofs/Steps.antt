-- A run over a text, a word at a time. Assumes nothing.
use Rattle.std.specs.Prelude.{if◌then◌else◌, cond, not, None, Some, Ok, Err}
use Rattle.std.specs.List.{position_or_len}
use Prim.Native.Nat.{ℕ, zero, suc, ◌+◌, ◌-◌, ◌*◌, ◌≤◌, ◌<◌}
use mathlib.Core.Path.{◌≡◌, refl, sym, ap, ◌∙◌}
use mathlib.Core.Bool.{Bool, true, false, ◌&&◌}
use mathlib.Core.List.{List, [], ◌∷◌, ◌++◌}
use mathlib.Core.Option.{Option, none, some}
use native.Mathlib.Omega.{arith}
use borrow.Author.Tests.{eq-eqb, ne_eqb, ltb-true, ltb-false}
use Rattle.std.proofs.lemmas.Option.{none-some, same_Some}
use lib.Dec.{eqb, ltb}
use lib.ListN.{length, take, drop, set, length-drop, length-set, drop_of_length-le}
use lib.Seq.{take_all, lt-length-set, get_or-set_same}
use Rattle.nibl.specs.Bytes.{is_space, is_quotable, is_text, past, all}
use Rattle.nibl.specs.Words.{keywords, commands}
use Rattle.nibl.specs.found.Read.{FrontWord, at_end, wrong, got, step_in}
use Rattle.nibl.specs.found.GaveUp.{gave_up, word_gave_up}
use Rattle.nibl.specs.found.Column.{sort_of, turn, is_some, is_remark, opened, is_open_string, Verdict, alive, stuck, turned, by_step, advance, remark_at, run_n, line_run}
use Rattle.nibl.proofs.Words.{word_sound}
use Rattle.nibl.proofs.Over.{word-short}
use Rattle.nibl.proofs.GaveUp.{quote-at}
use Rattle.nibl.proofs.Bound.{and-false}
use Rattle.word.specs.declared.Word.{Word}
use Rattle.word.specs.declared.Word.TheVariants.{Variable, Decimal, Hex, Text, Sign, End as WordEnd, Wrong as WordWrong}
use Rattle.word.specs.Found.{first_of, spellings_of, WordIs}
use Rattle.word.proofs.Runs.{at_byte}
use Rattle.column.specs.Rules.{SeekIs, Pushed}
use Rattle.column.specs.Runs.{RunEnd, VerdictIs, held, NextIs, wordless, runs, run_by, line_symbol, Room}
use Rattle.column.specs.declared.rules.Turn.{Turn}
use Rattle.column.specs.declared.run.Next.{Next}
use Rattle.column.specs.declared.run.Next.TheVariants.{End as NextEnd, Wrong as NextWrong, Got}

-- The bound on how many words there are does not matter once it is as large as the text
advance-same : (table : List (List ℕ)) (go go' : List ℕ → List ℕ → Verdict) (stack s : List ℕ)
    → ((next u : List ℕ) → length u < length s → go next u ≡ go' next u) → advance table go stack s ≡ advance table go' stack s
unfolding advance
advance-same table go go' stack s same = step (step_in table s) refl
  where
    taken : (u : List ℕ) → length u < length s → (o : Option (List ℕ)) → turned go u o ≡ turned go' u o
    taken u h none = refl
    taken u h (some next) = same next u h

    step : (r : FrontWord) → step_in table s ≡ r → by_step table go stack s r ≡ by_step table go' stack s r
    step at_end e = refl
    step wrong e = refl
    step (got w u) e = taken u (word-short (word_sound table s u w e)) (turn (sort_of w) stack)

run-enough : (n m : ℕ) (stack s : List ℕ) → length s < n → length s < m → run_n n stack s ≡ run_n m stack s
unfolding run_n
run-enough zero m stack s h l = absurd (omega arith)
run-enough (suc n) zero stack s h l = absurd (omega arith)
run-enough (suc n) (suc m) stack s h l =
    go (is_remark stack) (advance-same keywords (run_n n) (run_n m) stack s (λ next u k. run-enough n m next u (omega arith) (omega arith)))
  where
    go : (x : Bool) → advance keywords (run_n n) stack s ≡ advance keywords (run_n m) stack s
        → ◌≡◌ {A = Verdict} (elim x [ true ↦ remark_at s | false ↦ advance keywords (run_n n) stack s ])
        (elim x [ true ↦ remark_at s | false ↦ advance keywords (run_n m) stack s ])
    go true e = refl
    go false e = e

advance-runs : (table : List (List ℕ)) (stack s : List ℕ) → advance table (run_n (length s)) stack s ≡ advance table runs stack s
advance-runs table stack s =
    advance-same table (run_n (length s)) runs stack s (λ next u h. unfold runs in (run-enough (length s) (suc (length u)) next u h (omega arith)))

runs_by : (stack s : List ℕ) → runs stack s ≡ run_by keywords stack s
unfolding runs run_n run_by
runs_by stack s = go (is_remark stack)
  where
    go : (x : Bool) → ◌≡◌ {A = Verdict} (elim x [ true ↦ remark_at s | false ↦ advance keywords (run_n (length s)) stack s ])
        (elim x [ true ↦ remark_at s | false ↦ advance keywords runs stack s ])
    go true = refl
    go false = advance-runs keywords stack s

pub line-by : (b : Bool) (s : List ℕ) → run_by (spellings_of b) (line_symbol b ∷ []) s ≡ line_run (spellings_of b) (line_symbol b) s
unfolding run_by line_run
line-by true s = sym (advance-runs commands (line_symbol true ∷ []) s)
line-by false s = sym (advance-runs keywords (line_symbol false ∷ []) s)

-- By what stands next
module _ (table : List (List ℕ)) (stack s : List ℕ) where
  pub by-remark : is_remark stack ≡ true → run_by table stack s ≡ remark_at s
  unfolding run_by
  by-remark e = rw (e, run_by)

  by-step : is_remark stack ≡ false → (r : FrontWord) → step_in table s ≡ r → run_by table stack s ≡ by_step table runs stack s r
  unfolding run_by advance
  by-step e r h = rw (e, run_by) (ap (by_step table runs stack s) h)

  pub by_end : is_remark stack ≡ false → step_in table s ≡ at_end → run_by table stack s ≡ alive
  by_end e h = by-step e at_end h

  by-held : {k : ℕ} {u : List ℕ} (r : FrontWord) → held r ≡ some (k, u) → by_step table runs stack s r ≡ turned runs u (turn k stack)
  by-held {k} {u} at_end e = let z : ◌≡◌ {A = ℕ} 0 1 = cc in absurd (omega arith)
  by-held {k} {u} wrong e = let z : ◌≡◌ {A = ℕ} 0 1 = cc in absurd (omega arith)
  by-held {k} {u} (got w u') e =
      let i : ◌≡◌ {A = ℕ × List ℕ} (sort_of w, u') (k, u) = cc in
      ap (λ (p : ℕ × List ℕ). turned runs p.1 (turn p.0 stack)) i

  pub by-word : is_remark stack ≡ false → {k : ℕ} {u : List ℕ} → held (step_in table s) ≡ some (k, u) → run_by table stack s ≡ turned runs u (turn k stack)
  by-word e h = by-step e (step_in table s) refl ∙ by-held (step_in table s) h

-- no word: a string is open if nothing is left and a quote stands first
all_left : (p : ℕ → Bool) (s : List ℕ) → all p s ≡ eqb (length (past p s)) 0
all_left p [] = refl
all_left p (b ∷ s) = go (p b) (all_left p s)
  where
    go : (x : Bool) → all p s ≡ eqb (length (past p s)) 0 → (x && all p s) ≡ eqb (length (if x then past p s else b ∷ s)) 0
    go true e = e
    go false e = sym (ne_eqb (suc (length s)) 0 (λ d. omega arith))

and-true : (a : Bool) → (a && true) ≡ a
and-true true = refl
and-true false = refl

module _ (table : List (List ℕ)) where
  quote-left : (b : ℕ) (s : List ℕ) → opened (b ∷ s) ≡ (eqb (word_gave_up table b s) 0 && eqb b 34)
  quote-left b s = go (eqb b 34) refl
    where
      go : (x : Bool) → eqb b 34 ≡ x → (x && all is_quotable s) ≡ (eqb (word_gave_up table b s) 0 && x)
      go true e = all_left is_quotable s ∙ ap (λ (n : ℕ). eqb n 0) (sym (quote-at table b s e)) ∙ sym (and-true (eqb (word_gave_up table b s) 0))
      go false e = sym (and-false (eqb (word_gave_up table b s) 0))

  open-left : (s : List ℕ) → is_open_string s ≡ (eqb (gave_up table s) 0 && eqb (first_of (past is_space s)) 34)
  unfolding is_open_string gave_up
  open-left [] = refl
  open-left (b ∷ s) = go (is_space b) (open-left s)
    where
      go : (x : Bool) → opened (past is_space s) ≡ (eqb (gave_up table s) 0 && eqb (first_of (past is_space s)) 34)
          → opened (if x then past is_space s else b ∷ s)
          ≡ (eqb (if x then gave_up table s else word_gave_up table b s) 0 && eqb (first_of (if x then past is_space s else b ∷ s)) 34)
      go true e = e
      go false e = quote-left b s

  pub by-nothing : (stack s : List ℕ) → is_remark stack ≡ false → step_in table s ≡ wrong → run_by table stack s ≡ wordless (gave_up table s) stack s
  by-nothing stack s e h = by-step table stack s e wrong h ∙ rw (open-left s)

-- What the code found is what stands next
abbrev pub next_of : Word → Next
next_of (Variable v c) = Got 5 c.at
next_of (Decimal n c) = Got 6 c.at
next_of (Hex n c) = Got 7 c.at
next_of (Text i j c) = Got 8 c.at
next_of (Sign k c) = Got k c.at
next_of WordEnd = NextEnd
next_of (WordWrong c) = NextWrong c.at

module _ (table : List (List ℕ)) (text : List ℕ) (at : ℕ) where
  pub next-is : {w : Word} → WordIs table text at w → NextIs table text at (next_of w)
  next-is {w = Variable v c} h = (ap held (sym h.same), h.inside.0, h.inside.1)
  next-is {w = Decimal n c} h = (ap held (sym h.same), h.inside.0, h.inside.1)
  next-is {w = Hex n c} h = (ap held (sym h.same), h.inside.0, h.inside.1)
  next-is {w = Text i j c} h = (ap held (sym h.same), h.inside.0, h.inside.1)
  next-is {w = Sign k c} h = (ap held (sym h.same), h.inside.0, h.inside.1)
  next-is {w = WordEnd} h = sym h.same
  next-is {w = WordWrong c} h = (sym h.same, h.stopped)

-- A remark goes on to the first byte that is none of a text
abbrev pub bad_at : List ℕ → ℕ
bad_at s = position_or_len (λ b. not (is_text b)) s

bad-left : (s : List ℕ) → length (past is_text s) + bad_at s ≡ length s
bad-left [] = refl
bad-left (b ∷ s) = go (is_text b) (bad-left s)
  where
    go : (t : Bool) → length (past is_text s) + bad_at s ≡ length s → length (if t then past is_text s else b ∷ s) + cond (not (not t)) (1 + bad_at s) 0 ≡ suc (length s)
    go true e = omega arith
    go false e = omega arith

module _ (text : List ℕ) (at : ℕ) (l : at ≤ length text) where
  rest : length (drop at text) ≡ length text - at
  rest = length-drop at text

  pub from-here : take (length text - at) (drop at text) ≡ drop at text
  from-here = take_all (length text - at) (drop at text) (omega (arith, rest))

  pub remark-stuck : (n : ℕ) → Some n ≡ cond (ltb (bad_at (drop at text)) (length (drop at text))) (Some (bad_at (drop at text))) None
      → VerdictIs text (remark_at (drop at text)) (Err (at + n))
  remark-stuck n e = go (ltb (bad_at (drop at text)) (length (drop at text))) refl e
    where
      go : (t : Bool) → ltb (bad_at (drop at text)) (length (drop at text)) ≡ t → Some n ≡ cond t (Some (bad_at (drop at text))) None
          → VerdictIs text (remark_at (drop at text)) (Err (at + n))
      go true h e =
          let i : n ≡ bad_at (drop at text) = same_Some n (bad_at (drop at text)) e in
          let k = ltb-true (bad_at (drop at text)) (length (drop at text)) h in
          let f : all is_text (drop at text) ≡ false
          = all_left is_text (drop at text) ∙ ne_eqb (length (past is_text (drop at text))) 0 (λ z. omega (arith, bad-left (drop at text))) in
          let d : length text - (at + n) ≡ length (past is_text (drop at text)) = omega (arith, bad-left (drop at text), rest) in
          record { same = rw f (ap stuck d); inside = omega (arith, rest) }
      go false h e = absurd (none-some n (sym e))

  pub remark-alive : None ≡ cond (ltb (bad_at (drop at text)) (length (drop at text))) (Some (bad_at (drop at text))) None
      → VerdictIs text (remark_at (drop at text)) (Ok tt)
  remark-alive e = go (ltb (bad_at (drop at text)) (length (drop at text))) refl e
    where
      go : (t : Bool) → ltb (bad_at (drop at text)) (length (drop at text)) ≡ t → None ≡ cond t (Some (bad_at (drop at text))) None
          → VerdictIs text (remark_at (drop at text)) (Ok tt)
      go true h e = absurd (none-some (bad_at (drop at text)) e)
      go false h e =
          let k = ltb-false (bad_at (drop at text)) (length (drop at text)) h in
          let d : length (past is_text (drop at text)) ≡ 0 = omega (arith, bad-left (drop at text)) in
          let f : all is_text (drop at text) ≡ true = all_left is_text (drop at text) ∙ eq-eqb (length (past is_text (drop at text))) 0 d in
          record { same = rw f; inside = tt }

-- Without a word
module _ (text : List ℕ) (at end : ℕ) (stack : List ℕ) (top : ℕ) (l : end ≤ length text) where
  abbrev Wordless : RunEnd → Type 0
  Wordless = VerdictIs text (wordless (length text - end) (drop top stack) (drop at text))

  stuck-here : (eqb (length text - end) 0 && eqb (first_of (past is_space (drop at text))) 34) && is_some (turn 8 (drop top stack)) ≡ false → Wordless (Err end)
  stuck-here e = record { same = rw e; inside = l }

  pub wordless-within : end < length text → Wordless (Err end)
  wordless-within h = stuck-here (rw (ne_eqb (length text - end) 0 (λ z. omega arith)))

  pub wordless-unquoted : (first_of (past is_space (drop at text)) ≡ 34 → ⊥) → Wordless (Err end)
  wordless-unquoted h = stuck-here (rw (ne_eqb (first_of (past is_space (drop at text))) 34 h, and-false (eqb (length text - end) 0)))

  pub wordless-refused : SeekIs stack top 8 None → Wordless (Err end)
  wordless-refused s =
      let e : turn 8 (drop top stack) ≡ none = sym s.same in
      stuck-here (rw (e, and-false (eqb (length text - end) 0 && eqb (first_of (past is_space (drop at text))) 34)))

  pub wordless-open : {t : Turn} → end ≡ length text → first_of (past is_space (drop at text)) ≡ 34 → SeekIs stack top 8 (Some t) → Wordless (Ok tt)
  wordless-open {t} h q s =
      let e : turn 8 (drop top stack) ≡ some (t.next.now ++ drop (t.at + 1) stack) = sym s.same in
      record { same = rw (eq-eqb (length text - end) 0 (omega arith), eq-eqb (first_of (past is_space (drop at text))) 34 q, e); inside = tt }

-- A run of the code: from here on, the text's words lead to the verdict v
pub record Running (text : List ℕ) (v : Verdict) (before stack : List ℕ) (at : ℕ) (by : Bool) (top : ℕ) : Type 0 where
  pub room : Room text at stack top
  pub same : run_by (spellings_of by) (drop top stack) (drop at text) ≡ v
  pub size : length stack ≡ length before

verdict-is : {text : List ℕ} {v v' : Verdict} {x : RunEnd} → v' ≡ v → VerdictIs text v' x → VerdictIs text v x
verdict-is e h = record { same = h.same ∙ e; inside = h.inside }

module _ {text : List ℕ} {v : Verdict} {before stack : List ℕ} {at : ℕ} {by : Bool} {top : ℕ} (r : Running text v before stack at by top) where
  pub running-remark : {x : RunEnd} → is_remark (drop top stack) ≡ true → VerdictIs text (remark_at (drop at text)) x → VerdictIs text v x
  running-remark e h = verdict-is (sym (by-remark (spellings_of by) (drop top stack) (drop at text) e) ∙ r.same) h

  module _ (e : is_remark (drop top stack) ≡ false) where
    pub running-end : NextIs (spellings_of by) text at NextEnd → VerdictIs text v (Ok tt)
    running-end h = record { same = sym (by_end (spellings_of by) (drop top stack) (drop at text) e h) ∙ r.same; inside = tt }

    pub running-wrong : (end : ℕ) {x : RunEnd} → NextIs (spellings_of by) text at (NextWrong end)
        → VerdictIs text (wordless (length text - end) (drop top stack) (drop at text)) x → VerdictIs text v x
    running-wrong end h y =
        let d : length text - end ≡ gave_up (spellings_of by) (drop at text) = omega (arith, h.1) in
        verdict-is (ap (λ (n : ℕ). wordless n (drop top stack) (drop at text)) d ∙ sym (by-nothing (spellings_of by) (drop top stack) (drop at text) e h.0) ∙ r.same) y

    module _ {k end : ℕ} (h : NextIs (spellings_of by) text at (Got k end)) where
      by_turn : (o : Option (List ℕ)) → turn k (drop top stack) ≡ o → turned runs (drop end text) o ≡ v
      by_turn o i = ap (turned runs (drop end text)) (sym i) ∙ sym (by-word (spellings_of by) (drop top stack) (drop at text) e h.0) ∙ r.same

      pub running-stuck : SeekIs stack top k None → VerdictIs text v (Err end)
      running-stuck s = record { same = ap stuck (sym (length-drop end text)) ∙ by_turn none (sym s.same); inside = h.2 }

      module _ {t : Turn} (s : SeekIs stack top k (Some t)) where
        -- a word is there, so there is room for what may come after it
        pub running-room : length t.next.now ≤ t.at + 1
        running-room = omega (arith, r.room.deep, h.1, h.2, s.at.low, s.at.short)

        pub running-within : t.at + 1 ≤ length stack
        running-within = omega (arith, s.at.inside)

        pub running-on : {stack' : List ℕ} {top' : ℕ} → Pushed stack (t.at + 1) t.next.now stack' top' → Running text v before stack' end false top'
        running-on {stack'} {top'} p =
            let i : turn k (drop top stack) ≡ some (drop top' stack') = sym s.same ∙ ap some (sym p.same) in
            record {
              room = record { inside = h.2; deep = omega (arith, r.room.deep, h.1, h.2, s.at.low, s.at.short, p.at); within = omega (arith, p.at, p.size, s.at.inside) };
              same = sym (runs_by (drop top' stack') (drop end text)) ∙ by_turn (some (drop top' stack')) i;
              size = p.size ∙ r.size;
            }

-- From the bottom of the stack on
bottom : (stack : List ℕ) (x : ℕ) → 0 < length stack → drop (length stack - 1) (set stack (length stack - 1) x) ≡ x ∷ []
bottom stack x h =
    let t = length stack - 1 in
    let k : t < length stack = omega arith in
    at_byte (set stack t x) t (lt-length-set stack t x k)
    ∙ rw (get_or-set_same stack t x 0 k, drop_of_length-le (set stack t x) {i = t + 1} (omega (arith, length-set stack t x)))

pub whole_run : (b : Bool) (text stack : List ℕ) {x : ℕ} {r : RunEnd} → 0 < length stack → x ≡ line_symbol b
    → VerdictIs text (run_by (spellings_of b) (drop (length stack - 1) (set stack (length stack - 1) x)) text) r → VerdictIs text (line_run (spellings_of b) (line_symbol b) text) r
whole_run b text stack {x} h e v =
    verdict-is (ap (λ (l : List ℕ). run_by (spellings_of b) l text) (bottom stack x h) ∙ ap (λ (y : ℕ). run_by (spellings_of b) (y ∷ []) text) e ∙ line-by b text) v

pub whole_room : (text stack : List ℕ) (x : ℕ) → 3 * length text < length stack → Room text 0 (set stack (length stack - 1) x) (length stack - 1)
whole_room text stack x h = record { inside = omega arith; deep = omega arith; within = omega (arith, length-set stack (length stack - 1) x) }
