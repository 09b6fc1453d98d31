-- A reader of words gives up no sooner than it must: up to the byte at which it gave up some word could still go on. With `gave-up`, which
-- says that with that byte none can, the byte is the first at which no word could go on. Assumes nothing.
use Rattle.std.specs.Prelude.{if◌then◌else◌}
use Prim.Native.Nat.{ℕ, suc, ◌+◌, ◌-◌, ◌*◌, ◌≤◌}
use mathlib.Core.Path.{◌≡◌, refl, ap, subst}
use mathlib.Core.Bool.{Bool, true, false, ◌&&◌, false≢true}
use mathlib.Core.List.{List, [], ◌∷◌, ◌++◌, append_assoc}
use mathlib.Core.Logic.{◌⊎◌, inl, inr}
use mathlib.Core.Option.{Option, none, some}
use native.Mathlib.Omega.{arith}
use borrow.Author.Tests.{leb-true, le-leb, eqb-true}
use lib.Dec.{leb, eqb}
use lib.ListN.{length, take, drop, take-append-drop, length-append}
use lib.Seq.{take-append_seam}
use Rattle.nibl.specs.Bytes.{is_space, is_digit, is_capital, is_quotable, same, All, none as done, each, front, past, all, decimal_value}
use Rattle.nibl.specs.Words.{keywords, commands, index_from, index_in, there, spaced, keyword, letter, decimal_digits, hex_digits, quoted}
use Rattle.nibl.specs.found.GaveUp.{common, most_common, past_largest, word_gave_up, gave_up}
use Rattle.nibl.proofs.Tests.{if-split, and_left, and_right, between, true-all, front-all, front-past, front-run}
use Rattle.nibl.proofs.Keywords.{same_self, over-all}
use Rattle.nibl.proofs.GaveUp.{gave-up-within, most-short}
use Rattle.changes.specs.Pointed.{is_spelling, GoesOn}

-- Digits: those before the one that passes 32,767
record Fits (v : ℕ) (s r : List ℕ) : Type 0 where
  digits : List ℕ
  parted : digits ++ r ≡ s
  every : All is_digit digits
  small : decimal_value v digits ≤ 32767

digits-fit : (v : ℕ) (s : List ℕ) → v ≤ 32767 → Fits v s (past_largest v s)
unfolding past_largest
digits-fit v [] h = record { digits = []; parted = refl; every = done; small = h }
digits-fit v (d ∷ s) h =
    let w : ℕ = v * 10 + (d - 48) in
    if-split (Fits v (d ∷ s)) (is_digit d && leb w 32767)
    (λ e.
    let f = digits-fit w s (leb-true w 32767 (and_right (is_digit d) (leb w 32767) e)) in
    record {
      digits = d ∷ f.digits;
      parted = ap (λ (l : List ℕ). d ∷ l) f.parted;
      every = each (and_left (is_digit d) (leb w 32767) e) f.every;
      small = f.small;
    })
    (λ _. record { digits = []; parted = refl; every = done; small = h })

-- Letters: the spelling that has most in common with the text, if one has more than a letter
record Nearest (n : ℕ) (table : List (List ℕ)) (s : List ℕ) (m : ℕ) : Type 0 where
  spelling : List ℕ
  fine : is_spelling spelling ≡ true
  listed : there (index_from n table spelling) ≡ true
  shared : common spelling s ≡ m

nearest : (n : ℕ) (table : List (List ℕ)) (s : List ℕ) → all is_spelling table ≡ true → (most_common table s ≡ 1) ⊎ Nearest n table s (most_common table s)
unfolding most_common
nearest n [] s a = inl refl
nearest n (w ∷ ws) s a =
    if-split (λ m. (m ≡ 1) ⊎ Nearest n (w ∷ ws) s m) (leb (common w s) (most_common ws s))
    (λ _. later (most_common ws s) (nearest (suc n) ws s (and_right (is_spelling w) (all is_spelling ws) a)))
    (λ _. inr (record { spelling = w; fine = and_left (is_spelling w) (all is_spelling ws) a; listed = rw (same_self w); shared = refl }))
  where
    later : (m : ℕ) → (m ≡ 1) ⊎ Nearest (suc n) ws s m → (m ≡ 1) ⊎ Nearest n (w ∷ ws) s m
    later m (inl e) = inl e
    later m (inr z) =
        inr (record {
          spelling = z.spelling;
          fine = z.fine;
          listed = if-split (λ o. there o ≡ true) (same w z.spelling) (λ _. refl) (λ _. z.listed);
          shared = z.shared;
        })

common-same : (w s : List ℕ) → take (common w s) s ≡ take (common w s) w
unfolding common
common-same [] s = refl
common-same (c ∷ w) [] = refl
common-same (c ∷ w) (b ∷ s) =
    if-split (λ n. take n (b ∷ s) ≡ take n (c ∷ w)) (eqb c b) (λ e. let f = eqb-true c b e in let g = common-same w s in cc) (λ _. refl)

-- the front of a text before what follows it
front-taken : (f r : List ℕ) {s : List ℕ} → f ++ r ≡ s → take (length s - length r) s ≡ f
front-taken f r e =
    let size : length (f ++ r) - length r ≡ length f = omega (arith, length-append f r) in
    subst (λ (l : List ℕ). take (length l - length r) l ≡ f) e (rw size (take-append_seam f r))

module _ (table : List (List ℕ)) where
  -- a keyword alone: none longer begins in its letters
  spelling-word : (z : List ℕ) → is_spelling z ≡ true → (o : Option ℕ) → index_in table z ≡ o → there o ≡ true → GoesOn table z
  spelling-word z f none i h = absurd (false≢true h)
  spelling-word [] f (some k) i h = absurd (false≢true f)
  spelling-word (c ∷ []) f (some k) i h = absurd (false≢true f)
  spelling-word (c ∷ d ∷ cs) f (some k) i h =
      let z : List ℕ = c ∷ d ∷ cs in
      let a = true-all is_capital z (and_right (leb 2 (length z)) (all is_capital z) f) in
      record {
        rest = [];
        word = _;
        after = [];
        begun = keyword {c = c} {d = d} {k = k} {cs = cs} {s = []} (record { each = a; spelled = i; longest = rw (front-run a [] refl) (over-all table z) });
      }

  -- what goes on after more goes on
  sooner : (s t : List ℕ) → GoesOn table (s ++ t) → GoesOn table s
  sooner s t g =
      record { rest = t ++ g.rest; word = g.word; after = g.after; begun = rw (← append_assoc s t g.rest) g.begun }

  letter-alone : (b : ℕ) → is_capital b ≡ true → GoesOn table (b ∷ [])
  letter-alone b c = record { rest = []; word = _; after = []; begun = letter {c = b} {s = []} (record { some = c; each = each c done; longest = refl }) }

  letters-late : (b : ℕ) (s : List ℕ) → all is_spelling table ≡ true → is_capital b ≡ true → GoesOn table (take (most_common table (b ∷ s)) (b ∷ s))
  letters-late b s a c = go (most_common table (b ∷ s)) (nearest 128 table (b ∷ s) a)
    where
      go : (m : ℕ) → (m ≡ 1) ⊎ Nearest 128 table (b ∷ s) m → GoesOn table (take m (b ∷ s))
      go m (inl e) = rw e (letter-alone b c)
      go m (inr z) =
          let w : List ℕ = z.spelling in
          let e : take m (b ∷ s) ≡ take m w = subst (λ (n : ℕ). take n (b ∷ s) ≡ take n w) z.shared (common-same w (b ∷ s)) in
          rw e (sooner (take m w) (drop m w) (rw (take-append-drop m w) (spelling-word w z.fine (index_in table w) refl z.listed)))

  digits-late : (b : ℕ) (s : List ℕ) → is_digit b ≡ true → GoesOn table (take (suc (length s) - length (past_largest 0 (b ∷ s))) (b ∷ s))
  unfolding past_largest
  digits-late b s e =
      let h = between 48 57 b e in
      rw (e, le-leb v 32767 (omega arith)) (go (digits-fit v s (omega arith)))
    where
      v : ℕ
      v = 0 * 10 + (b - 48)

      go : Fits v s (past_largest v s) → GoesOn table (take (suc (length s) - length (past_largest v s)) (b ∷ s))
      go f =
          rw (front-taken (b ∷ f.digits) (past_largest v s) (ap (λ (l : List ℕ). b ∷ l) f.parted))
          (record {
            rest = [];
            word = _;
            after = [];
            begun = decimal_digits {ds = b ∷ f.digits} {s = []} (record { some = e; each = each e f.every; longest = refl }) f.small;
          })

  hex-late : (s : List ℕ) → GoesOn table (take (suc (length s) - length s) (35 ∷ s))
  hex-late s =
      rw (front-taken (35 ∷ []) s refl)
      (record {
        rest = 48 ∷ [];
        word = _;
        after = [];
        begun = hex_digits {ds = 48 ∷ []} {s = []} (record { some = refl; each = each refl done; longest = refl });
      })

  quoted-late : (s : List ℕ) → GoesOn table (take (suc (length s) - length (past is_quotable s)) (34 ∷ s))
  quoted-late s =
      rw (front-taken (34 ∷ front is_quotable s) (past is_quotable s) (ap (λ (l : List ℕ). 34 ∷ l) (front-past is_quotable s)))
      (record { rest = 34 ∷ []; word = _; after = []; begun = quoted {bs = front is_quotable s} {s = []} (front-all is_quotable s) })

  nothing-late : GoesOn table []
  nothing-late = sooner [] (65 ∷ []) (letter-alone 65 refl)

  word-late : all is_spelling table ≡ true → (b : ℕ) (s : List ℕ) → GoesOn table (take (suc (length s) - word_gave_up table b s) (b ∷ s))
  unfolding word_gave_up
  word-late a b s =
      let P : ℕ → Type 0 = λ k. GoesOn table (take (suc (length s) - k) (b ∷ s)) in
      if-split P (is_capital b) (λ c.
      let m : ℕ = most_common table (b ∷ s) in
      let e : suc (length s) - (suc (length s) - m) ≡ m = omega (arith, most-short table (b ∷ s) (omega arith)) in
      rw e (letters-late b s a c)) (λ _.
      if-split P (is_digit b) (λ c. digits-late b s c) (λ _.
      if-split P (eqb b 35) (λ e. rw (eqb-true b 35 e) (hex-late s)) (λ _.
      if-split P (eqb b 34) (λ e. rw (eqb-true b 34 e) (quoted-late s)) (λ _. rw (front-taken [] (b ∷ s) refl) nothing-late))))

  space-late : (s : List ℕ) → GoesOn table s → GoesOn table (32 ∷ s)
  space-late s g = record { rest = g.rest; word = g.word; after = g.after; begun = spaced g.begun }

  -- up to that byte some word could still go on. This holds of every text, so also where no word was found, which is where the byte counts
  pub gave-up-late : all is_spelling table ≡ true → (s : List ℕ) → GoesOn table (take (length s - gave_up table s) s)
  unfolding gave_up
  gave-up-late a [] = nothing-late
  gave-up-late a (b ∷ s) = go (is_space b) refl (gave-up-late a s)
    where
      go : (x : Bool) → is_space b ≡ x → GoesOn table (take (length s - gave_up table s) s)
          → GoesOn table (take (suc (length s) - (if x then gave_up table s else word_gave_up table b s)) (b ∷ s))
      go true e g =
          let n : suc (length s) - gave_up table s ≡ suc (length s - gave_up table s) = omega (arith, gave-up-within table s) in
          rw (n, eqb-true b 32 e) (space-late _ g)
      go false e g = word-late a b s

pub keyword-late : (s : List ℕ) → GoesOn keywords (take (length s - gave_up keywords s) s)
keyword-late = gave-up-late keywords refl

pub command-late : (s : List ℕ) → GoesOn commands (take (length s - gave_up commands s) s)
command-late = gave-up-late commands refl
