-- Whether a text is the front of a line, a spelling and a byte at a time. Assumes nothing.
use Rattle.std.specs.Prelude.{if◌then◌else◌, Ok, Err}
use Prim.Native.Nat.{ℕ, zero, suc, ◌+◌, ◌-◌, ◌/◌, ◌%◌, ◌≤◌, ◌<◌, min, max}
use mathlib.Core.Path.{◌≡◌, refl, sym, ap, ◌∙◌}
use mathlib.Core.Bool.{Bool, true, false, false≢true, ◌&&◌, ◌||◌}
use mathlib.Core.List.{List, [], ◌∷◌, ◌++◌}
use native.Mathlib.Omega.{arith}
use borrow.Author.Tests.{leb-true, leb-false, le-leb}
use lib.Dec.{eqb, leb}
use lib.ListN.{length, length-append, take, drop, get_or, length-drop, drop_of_length-le, take-append-drop}
use Rattle.std.specs.Cmp.Lexicographic.{pointwise}
use Rattle.std.specs.Prelude.{nat_eq}
use Rattle.std.proofs.lemmas.Slice.{take-put_mid}
use borrow.Rule.Slice.PartMut.{put_mid}
use lib.Seq.{sets, sets-eq, length-sets, take-append_seam, take-take, take-append-le}
use Rattle.nibl.specs.Bytes.{same}
use Rattle.nibl.specs.Words.{keywords, commands}
use Rattle.nibl.specs.found.Column.{typed_line, typed_command, Verdict, alive, stuck, is_alive, line_run, all_taken, spellings, ends_with, begun_by, begun_in, is_front, column_down, column_of}
use Rattle.nibl.proofs.Bound.{begun-hit, begun-miss, begun-here, begun-later, front-taken, front-begun, column-hit, column-miss, column-bound}
use Rattle.nibl.proofs.FrontSound.{front-of-front}
use Rattle.nibl.proofs.Spot.{front-exact}
use Rattle.word.specs.Found.{spellings_of, longest_keyword, spelled_key}
use Rattle.word.proofs.Runs.{at_byte}
use Rattle.column.specs.Runs.{VerdictIs, line_symbol}
use Rattle.column.specs.Fronts.{spelled_all, Spare, Kept, bytes_left, ReachIs, last_tried}

-- What a verdict says
module _ {text : List ℕ} {v : Verdict} where
  pub taken-alive : VerdictIs text v (Ok tt) → true ≡ is_alive v
  taken-alive h = ap is_alive h.same

  pub taken-stuck : {at : ℕ} → VerdictIs text v (Err at) → false ≡ is_alive v
  taken-stuck h = ap is_alive h.same

  pub reach-alive : VerdictIs text v (Ok tt) → ReachIs text v (length text)
  reach-alive h = record { same = omega (arith, ap bytes_left h.same); inside = omega arith }

  pub reach-stuck : {at : ℕ} → VerdictIs text v (Err at) → ReachIs text v at
  reach-stuck h = record { same = omega (arith, ap bytes_left h.same, h.inside); inside = h.inside }

pub all-taken-line : (s : List ℕ) → true ≡ is_alive (line_run (spellings_of false) (line_symbol false) s) → true ≡ all_taken s
unfolding all_taken
all-taken-line s e = rw (← e)

pub all-taken-command : (s : List ℕ) {b : Bool} → false ≡ is_alive (line_run (spellings_of false) (line_symbol false) s)
    → b ≡ is_alive (line_run (spellings_of true) (line_symbol true) s) → b ≡ all_taken s
unfolding all_taken
all-taken-command s e f = rw (← e) f

-- The longest front part that need be tried
module _ (text : List ℕ) {a b : ℕ} (p : ReachIs text (line_run (spellings_of false) (line_symbol false) text) a) (q : ReachIs text (line_run (spellings_of true) (line_symbol true) text) b) where
  pub last-part : {far : ℕ} → far ≡ max a b → min (length text) (far + 4) ≡ last_tried text
  unfolding last_tried
  last-part e = omega (arith, p.same, q.same, p.inside, q.inside)

-- the code's test of an end is the definition's
same-pairs : (xs ys : List ℕ) → pointwise nat_eq xs ys ≡ same xs ys
same-pairs [] [] = refl
same-pairs [] (y ∷ ys) = refl
same-pairs (x ∷ xs) [] = refl
same-pairs (x ∷ xs) (y ∷ ys) = ap (λ (b : Bool). eqb x y && b) (same-pairs xs ys)

pub ends-found : {front end : List ℕ} (s : List ℕ) → front ≡ end → true ≡ pointwise nat_eq front (drop (length s - length front) s) → length front ≤ length s
    → ends_with end s ≡ true
ends-found {front} {end} s e f l =
    ap (λ (x : List ℕ). ends_with x s) (sym e) ∙ rw (le-leb (length front) (length s) l) (sym (same-pairs front (drop (length s - length front) s)) ∙ sym f)

-- the rest of a spelling laid behind the first n bytes
pub begun-laid : (text : List ℕ) (n k : ℕ) (z : List ℕ) (i : ℕ) {b : Bool} {rest part : List ℕ} → n ≤ length text
    → ends_with (take i z) (take n text) ≡ true → rest ≡ drop i z → part ≡ rest
    → b ≡ all_taken (take (n + length rest) (put_mid n k text part)) → b ≡ (ends_with (take i z) (take n text) && all_taken (take n text ++ drop i z))
begun-laid text n k z i {part = part} l e f g h =
    rw e (h ∙ ap all_taken (rw (← f, ← g) (take-put_mid n k text part (n + length part) refl l)))

pub begun-not : {x : Bool} (y : Bool) → x ≡ false → false ≡ (x && y)
begun-not y e = rw e

pub kept-all : (text : List ℕ) (n : ℕ) → Kept text n text
kept-all text n = record { front = refl; size = refl }

pub kept_then : {a b c : List ℕ} {n : ℕ} → Kept a n b → Kept b n c → Kept a n c
kept_then p q = record { front = q.front ∙ p.front; size = q.size ∙ p.size }

pub kept-spare : {a b stack stack' : List ℕ} {n : ℕ} → Spare a n stack → Kept a n b → length stack' ≡ length stack → Spare b n stack'
kept-spare p k e = record { behind = omega (arith, p.behind, k.size); deep = omega (arith, p.deep, k.size) }

-- One spelling, from the most of it that the text may end with down
pub record Beginning (before : List ℕ) (n : ℕ) (z bottom text stack : List ℕ) (i : ℕ) : Type 0 where
  pub kept : Kept before n text
  pub size : length stack ≡ length bottom
  pub high : i ≤ length z
  pub same : begun_by (take n before) z (i - 1) ≡ begun_by (take n before) z (length z - 1)

pub beginning-first : (text : List ℕ) (n : ℕ) (z stack : List ℕ) → Beginning text n z stack text stack (length z)
beginning-first text n z stack = record { kept = kept-all text n; size = refl; high = omega arith; same = refl }

module _ {before : List ℕ} {n : ℕ} {z bottom text stack : List ℕ} {i : ℕ} (p : Beginning before n z bottom text stack i) where
  abbrev Ends : Bool → Type 0
  Ends b = b ≡ (ends_with (take (i - 1) z) (take n text) && all_taken (take n text ++ drop (i - 1) z))

  module _ (h : 1 < i) {b : Bool} (a : Ends b) where
    less : i - 1 ≡ suc (i - 2)
    less = omega arith

    ends : (ends_with (take (suc (i - 2)) z) (take n before) && all_taken (take n before ++ drop (suc (i - 2)) z)) ≡ b
    ends = rw (less, p.kept.front) at (sym a)

    pub beginning-hit : true ≡ b → true ≡ begun_by (take n before) z (length z - 1)
    beginning-hit e = sym (begun-hit (take n before) z (i - 2) (ends ∙ sym e)) ∙ ap (begun_by (take n before) z) (sym less) ∙ p.same

    pub beginning-on : false ≡ b → {text' stack' : List ℕ} → Kept text n text' → length stack' ≡ length stack → Beginning before n z bottom text' stack' (i - 1)
    beginning-on e k q =
        let d : i - 1 - 1 ≡ i - 2 = omega arith in
        record {
          kept = kept_then p.kept k;
          size = q ∙ p.size;
          high = omega (arith, p.high);
          same = rw d (sym (begun-miss (take n before) z (i - 2) (ends ∙ sym e)) ∙ ap (begun_by (take n before) z) (sym less) ∙ p.same);
        }

  pub beginning-last : i ≤ 1 → false ≡ begun_by (take n before) z (length z - 1)
  unfolding begun_by
  beginning-last h = let d : i - 1 ≡ 0 = omega arith in rw d at p.same

-- All spellings of a list, one after the other
pub record Trying (before : List ℕ) (n : ℕ) (keys bottom text stack : List ℕ) (i : ℕ) : Type 0 where
  pub kept : Kept before n text
  pub size : length stack ≡ length bottom
  pub same : begun_in (spelled_all (drop i keys)) (take n before) ≡ begun_in (spelled_all keys) (take n before)

pub trying-first : (text : List ℕ) (n : ℕ) (keys stack : List ℕ) → Trying text n keys stack text stack 0
trying-first text n keys stack = record { kept = kept-all text n; size = refl; same = refl }

-- no spelling is longer than its room
spelled-more : (m k : ℕ) (t : Bool) → length (spelled_key m (k / 256)) ≤ m → length (if t then [] else k % 256 ∷ spelled_key m (k / 256)) ≤ suc m
spelled-more m k true h = omega arith
spelled-more m k false h = omega arith

pub spelled-short : (m k : ℕ) → length (spelled_key m k) ≤ m
spelled-short zero k = omega arith
spelled-short (suc m) k = spelled-more m k (eqb k 0) (spelled-short m (k / 256))

-- a key spelled into an empty room stands at its front
abbrev pub empty_room : List ℕ
empty_room = 0 ∷ 0 ∷ 0 ∷ 0 ∷ 0 ∷ 0 ∷ []

module _ (k : ℕ) {room : List ℕ} {to : ℕ} (e : to ≡ length (spelled_key longest_keyword k)) (f : room ≡ sets empty_room 0 (spelled_key longest_keyword k)) where
  pub spelled_at : take to room ≡ spelled_key longest_keyword k
  spelled_at =
      let z : List ℕ = spelled_key longest_keyword k in
      rw (e, f, sets-eq z empty_room 0 (omega (arith, spelled-short longest_keyword k))) (take-append_seam z (drop (0 + length z) empty_room))

  pub spelled-within : (to ≤ longest_keyword) × (length room ≡ longest_keyword)
  spelled-within = (omega (arith, spelled-short longest_keyword k), ap length f ∙ length-sets empty_room 0 (spelled_key longest_keyword k))

module _ {before : List ℕ} {n : ℕ} {keys bottom text stack : List ℕ} {i : ℕ} (p : Trying before n keys bottom text stack i) where
  module _ (h : i < length keys) where
    -- the spelling, and those behind it
    here-first : begun_in (spelled_key longest_keyword (get_or keys i 0) ∷ spelled_all (drop (i + 1) keys)) (take n before) ≡ begun_in (spelled_all keys) (take n before)
    here-first = rw (at_byte keys i h) at p.same

    module _ {b : Bool} {z : List ℕ} (e : z ≡ spelled_key longest_keyword (get_or keys i 0)) (a : b ≡ begun_by (take n text) z (length z - 1)) where
      answer : begun_by (take n before) z (length z - 1) ≡ b
      answer = rw p.kept.front at (sym a)

      pub trying-hit : true ≡ b → true ≡ begun_in (spelled_all keys) (take n before)
      trying-hit t = sym (begun-here z (spelled_all (drop (i + 1) keys)) (take n before) (answer ∙ sym t)) ∙ (rw e here-first)

      pub trying-on : false ≡ b → {text' stack' : List ℕ} → Kept text n text' → length stack' ≡ length stack
          → Trying before n keys bottom text' stack' (i + 1)
      trying-on t k q = record {
        kept = kept_then p.kept k;
        size = q ∙ p.size;
        same = sym (begun-later z (spelled_all (drop (i + 1) keys)) (take n before) (answer ∙ sym t)) ∙ (rw e here-first);
      }

  pub trying-last : length keys ≤ i → false ≡ begun_in (spelled_all keys) (take n before)
  unfolding begun_in
  trying-last h = let d : drop i keys ≡ [] = drop_of_length-le keys h in rw d at p.same

-- Fronts
-- two lists of spellings, one behind the other
begun-both : (ys zs : List (List ℕ)) (s : List ℕ) → begun_in (ys ++ zs) s ≡ (begun_in ys s || begun_in zs s)
unfolding begun_in
begun-both [] zs s = refl
begun-both (y ∷ ys) zs s = go (begun_by s y (length y - 1)) (begun-both ys zs s)
  where
    go : (t : Bool) → begun_in (ys ++ zs) s ≡ (begun_in ys s || begun_in zs s)
        → elim t as (λ _. Bool) [ true ↦ true | false ↦ begun_in (ys ++ zs) s ] ≡ (elim t as (λ _. Bool) [ true ↦ true | false ↦ begun_in ys s ] || begun_in zs s)
    go true ih = refl
    go false ih = ih

-- keywords, commands, and the others
abbrev pub others : List (List ℕ)
others = drop (length keywords + length commands) spellings

or-both : (a b c : Bool) → (a || (b || c)) ≡ ((a || b) || c)
or-both true b c = refl
or-both false b c = refl

front_by : (s : List ℕ) → is_front s ≡ (((all_taken s || begun_in keywords s) || begun_in commands s) || begun_in others s)
front_by s = go (all_taken s) refl
  where
    go : (t : Bool) → all_taken s ≡ t → is_front s ≡ (((t || begun_in keywords s) || begun_in commands s) || begun_in others s)
    go true e = front-taken s e
    go false e =
        front-begun s e ∙ begun-both keywords (commands ++ others) s ∙ ap (λ (b : Bool). begun_in keywords s || b) (begun-both commands others s)
        ∙ or-both (begun_in keywords s) (begun_in commands s) (begun_in others s)

-- what was found of the first n bytes so far, and that they are left as they were
pub record Found (text : List ℕ) (n : ℕ) (x v : Bool) (text' : List ℕ) : Type 0 where
  pub same : v ≡ x
  pub kept : Kept text n text'

module _ {text a : List ℕ} {n : ℕ} {x v : Bool} (f : Found text n x v a) (keys : List (List ℕ)) where
  pub found-then : {u : Bool} {b : List ℕ} → v ≡ true → u ≡ v → b ≡ a → Found text n (x || begun_in keys (take n text)) u b
  found-then e d i = record { same = rw (sym f.same ∙ e) (d ∙ e); kept = rw i f.kept }

  pub found-else : {u r : Bool} {b c : List ℕ} → v ≡ false → u ≡ r → r ≡ begun_in keys (take n a) → b ≡ c → Kept a n c → Found text n (x || begun_in keys (take n text)) u b
  found-else e d g i k =
      record { same = rw (sym f.same ∙ e) (d ∙ g ∙ ap (begun_in keys) f.kept.front); kept = rw i (kept_then f.kept k) }

pub front-found : {text a : List ℕ} {n : ℕ} {v : Bool}
    → Found text n (((all_taken (take n text) || begun_in keywords (take n text)) || begun_in commands (take n text)) || begun_in others (take n text)) v a → v ≡ is_front (take n text)
front-found {text} {n} f = f.same ∙ sym (front_by (take n text))

-- A front part of a front is a front; so behind one that is none there is none
front-part : (s : List ℕ) (n m : ℕ) → n ≤ m → is_front (take m s) ≡ true → is_front (take n s) ≡ true
front-part s n m l e =
    let d : take n s ++ drop n (take m s) ≡ take m s
    = ap (λ (x : List ℕ). x ++ drop n (take m s)) (sym (take-take n m s l)) ∙ take-append-drop n (take m s) in
    (front-exact (take n s)).1 (front-of-front (take n s) (drop n (take m s)) (rw d ((front-exact (take m s)).0 e)))

column-past : (s : List ℕ) (n k : ℕ) → is_front (take (suc n) s) ≡ false → column_down (k + n) s ≡ column_down n s
column-past s n zero e = let d : zero + n ≡ n = omega arith in rw d
column-past s n (suc k) e =
    let d : suc k + n ≡ suc (k + n) = omega arith in rw d (column-miss (k + n) s (go (is_front (take (suc (k + n)) s)) refl) ∙ column-past s n k e)
  where
    go : (x : Bool) → is_front (take (suc (k + n)) s) ≡ x → is_front (take (suc (k + n)) s) ≡ false
    go true f = absurd (false≢true (sym e ∙ front-part s (suc n) (suc (k + n)) (omega arith) f))
    go false f = f

-- The search by halves
pub record Searching (text : List ℕ) (from : ℕ) (room₀ stack₀ room stack : List ℕ) (lo hi : ℕ) : Type 0 where
  pub size : length room ≡ length room₀
  pub deep : length stack ≡ length stack₀
  pub low : lo ≤ hi
  pub high : hi ≤ from
  pub front : 0 < lo → is_front (take lo text) ≡ true
  pub same : column_down hi text ≡ column_down from text

pub searching-first : (text : List ℕ) (from : ℕ) (room stack : List ℕ) → Searching text from room stack room stack 0 from
searching-first text from room stack =
    record { size = refl; deep = refl; low = omega arith; high = omega arith; front = λ h. absurd (omega arith); same = refl }

module _ {text : List ℕ} {from : ℕ} {room₀ stack₀ room stack : List ℕ} {lo hi : ℕ} (p : Searching text from room₀ stack₀ room stack lo hi)
    (s : Spare room₀ (length text) stack₀) (l : from ≤ length text) where
  -- whatever stood in the room, the text laid into it can be tried
  module _ {part laid : List ℕ} (e : part ≡ text) (j : laid ≡ part ++ drop (length text) room) {n : ℕ} (h : n ≤ hi) where
    laid-part : length part ≡ length text
    laid-part = ap (λ (x : List ℕ). length x) e

    laid-size : length laid ≡ length room₀
    laid-size = ap (λ (x : List ℕ). length x) j ∙ length-append part (drop (length text) room) ∙ omega (arith, laid-part, length-drop (length text) room, s.behind, p.size)

    pub searching-spare : Spare laid n stack
    searching-spare = record { behind = omega (arith, s.behind, p.high, laid-size); deep = omega (arith, s.deep, p.deep, laid-size) }

    laid-front : take n laid ≡ take n text
    laid-front =
        ap (take n) j ∙ take-append-le n part (drop (length text) room) (omega (arith, p.high, laid-part)) ∙ ap (take n) e

    module _ {b : Bool} (a : b ≡ is_front (take n laid)) {room' stack' : List ℕ} (k : Kept laid n room') (q : length stack' ≡ length stack) where
      pub searching-up : true ≡ b → Searching text from room₀ stack₀ room' stack' n hi
      searching-up t = record {
        size = k.size ∙ laid-size;
        deep = q ∙ p.deep;
        low = h;
        high = p.high;
        front = λ _. ap is_front (sym laid-front) ∙ sym a ∙ sym t;
        same = p.same;
      }

      pub searching-down : false ≡ b → lo < n → Searching text from room₀ stack₀ room' stack' lo (n - 1)
      searching-down f g =
          let one : n ≡ suc (n - 1) = omega arith in
          let gap : hi ≡ hi - (n - 1) + (n - 1) = omega arith in
          record {
            size = k.size ∙ laid-size;
            deep = q ∙ p.deep;
            low = omega arith;
            high = omega (arith, p.high);
            front = p.front;
            same =
                sym (column-past text (n - 1) (hi - (n - 1)) (ap (λ (i : ℕ). is_front (take i text)) (sym one) ∙ ap is_front (sym laid-front) ∙ sym a ∙ sym f))
                ∙ ap (λ (i : ℕ). column_down i text) (sym gap) ∙ p.same;
          }

column-top : (s : List ℕ) (n : ℕ) → (0 < n → is_front (take n s) ≡ true) → n ≡ column_down n s
column-top s zero f = unfold column_down in refl
column-top s (suc n) f = sym (column-hit n s (f (omega arith)))

pub searching-last : {text : List ℕ} {from : ℕ} {room₀ stack₀ room stack : List ℕ} {lo hi : ℕ}
    → Searching text from room₀ stack₀ room stack lo hi → hi ≤ lo → lo ≡ column_down from text
searching-last {text} {lo} {hi} p h =
    let d : lo ≡ hi = omega (arith, p.low) in column-top text lo p.front ∙ ap (λ (i : ℕ). column_down i text) d ∙ p.same

last_within : (s : List ℕ) → last_tried s ≤ length s
unfolding last_tried
last_within s = omega arith

pub column-last : (s : List ℕ) → column_of s ≡ column_down (last_tried s) s
unfolding last_tried column_of
column-last s = go (line_run keywords typed_line s) refl (line_run commands typed_command s) refl
  where
    -- little is left: the search begins at the end
    short : (k : ℕ) → k ≤ 4 → column_down (length s) s ≡ column_down (min (length s) (length s + 4 - k)) s
    short k h = let e : min (length s) (length s + 4 - k) ≡ length s = omega arith in rw e

    both : (m k : ℕ) → line_run keywords typed_line s ≡ stuck m → line_run commands typed_command s ≡ stuck k → (t : Bool) → leb (min m k) 4 ≡ t
        → column_down (length s) s ≡ column_down (min (length s) (length s + 4 - min m k)) s
    both m k e f true t = short (min m k) (leb-true (min m k) 4 t)
    both m k e f false t =
        let h = leb-false (min m k) 4 t in
        column-bound s m k e f (min (length s) (length s + 4 - min m k)) (omega arith) (omega arith) (omega arith)

    go : (v : Verdict) → line_run keywords typed_line s ≡ v → (w : Verdict) → line_run commands typed_command s ≡ w
        → column_down (length s) s ≡ column_down (min (length s) (length s + 4 - min (bytes_left v) (bytes_left w))) s
    go alive e w f = short (min 0 (bytes_left w)) (omega arith)
    go (stuck m) e alive f = short (min m 0) (omega arith)
    go (stuck m) e (stuck k) f = both m k e f (leb (min m k) 4) refl

module _ (text : List ℕ) {from : ℕ} (e : from ≡ last_tried text) where
  pub last_fits : from ≤ length text
  last_fits = omega (arith, last_within text)

  pub column-found : {r : ℕ} → r ≡ column_down from text → r ≡ column_of text
  column-found f = f ∙ ap (λ (k : ℕ). column_down k text) e ∙ sym (column-last text)
