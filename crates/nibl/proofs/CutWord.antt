-- A word of a text that is cut somewhere: it stands before the cut, or is a string that the cut leaves open, or what is left of it is a
-- word of the same sort, or the front of a spelling whose rest stands behind the cut. Assumes nothing.
use Rattle.std.specs.Prelude.{if◌then◌else◌}
use Prim.Native.Nat.{ℕ, zero, suc, ◌+◌, ◌-◌, ◌*◌, ◌%◌, ◌≤◌, ◌<◌}
use mathlib.Core.Path.{◌≡◌, refl, sym, ap, ◌∙◌}
use mathlib.Core.Bool.{Bool, true, false, not, ◌&&◌, ◌||◌, false≢true}
use mathlib.Core.List.{List, [], ◌∷◌, ◌++◌, append-nil, append_assoc}
use mathlib.Core.Option.{some}
use native.Mathlib.Omega.{arith}
use borrow.Author.Tests.{eqb-true, eqb-false}
use lib.Dec.{leb, eqb}
use lib.ListN.{length}
use Rattle.nibl.specs.Bytes.{is_space, is_digit, is_capital, is_hex_digit, is_quotable, All, none as done, each, starts, front, all, decimal_value, hex_value}
use Rattle.nibl.specs.Words.{Token, variable, decimal, hex, string, sign, index_in, there, pairs, pairs_with, is_symbol, ByteRun, begins, none_over, Keyword, Word, spaced, keyword, letter, decimal_digits, hex_digits, quoted, pair, symbol}
use Rattle.nibl.specs.found.Column.{sort_of, a_text, is_open_string, spellings}
use Rattle.nibl.proofs.Tests.{and_left, and_right, or_cases, or-true, of-pairs, between, all_true}
use Rattle.nibl.proofs.Keywords.{of-table, first_of}

-- One text, p ++ u and s ++ t: p ends within s, or s within p
data Split (p u s t : List ℕ) : Type 0 where
  before : (v : List ℕ) → s ≡ p ++ v → u ≡ v ++ t → Split p u s t
  across : (b : ℕ) (e : List ℕ) → p ≡ s ++ (b ∷ e) → t ≡ (b ∷ e) ++ u → Split p u s t

split : (p u s t : List ℕ) → p ++ u ≡ s ++ t → Split p u s t
split [] u s t h = before s refl h
split (x ∷ p) u [] t h = across x p refl (sym h)
split (x ∷ p) u (y ∷ s) t h = let i : p ++ u ≡ s ++ t = cc in let j : x ≡ y = cc in go j (split p u s t i)
  where
    go : x ≡ y → Split p u s t → Split (x ∷ p) u (y ∷ s) t
    go j (before v e f) = before v (cc) f
    go j (across b e f g) = across b e (cc) g

pub all_first : {p : ℕ → Bool} (s t : List ℕ) → All p (s ++ t) → All p s
all_first [] t a = done
all_first (b ∷ s) t (each e a) = each e (all_first s t a)

-- What a word asks of what follows it holds of a front part of that
starts-shorter : (p : ℕ → Bool) (s t : List ℕ) → starts p (s ++ t) ≡ false → starts p s ≡ false
starts-shorter p [] t e = refl
starts-shorter p (b ∷ s) t e = e

pairs-shorter : (a : ℕ) (s t : List ℕ) → pairs_with a (s ++ t) ≡ false → pairs_with a s ≡ false
pairs-shorter a [] t e = refl
pairs-shorter a (b ∷ s) t e = e

begins-longer : (p : ℕ → Bool) (w s t : List ℕ) → begins w (front p s) ≡ true → begins w (front p (s ++ t)) ≡ true
begins-longer p [] s t e = refl
begins-longer p (c ∷ w) [] t e = absurd (false≢true e)
begins-longer p (c ∷ w) (b ∷ s) t e = go (p b) (begins-longer p w s t) e
  where
    go : (r : Bool) → (begins w (front p s) ≡ true → begins w (front p (s ++ t)) ≡ true) → begins (c ∷ w) (if r then b ∷ front p s else []) ≡ true
        → begins (c ∷ w) (if r then b ∷ front p (s ++ t) else []) ≡ true
    go true f h = rw (and_left (eqb c b) (begins w (front p s)) h) (f (and_right (eqb c b) (begins w (front p s)) h))
    go false f h = absurd (false≢true h)

over-shorter : (p : ℕ → Bool) (n : ℕ) (table : List (List ℕ)) (s t : List ℕ) → none_over n table (front p (s ++ t)) ≡ true
    → none_over n table (front p s) ≡ true
unfolding none_over
over-shorter p n [] s t o = refl
over-shorter p n (w ∷ ws) s t o =
    rw (go (begins w (front p s)) refl) (over-shorter p n ws s t (and_right (leb (length w) n || not (begins w (front p (s ++ t)))) _ o))
  where
    go : (r : Bool) → begins w (front p s) ≡ r → (leb (length w) n || not (begins w (front p s))) ≡ true
    go true e = rw e (rw (begins-longer p w s t e) at (and_left (leb (length w) n || not (begins w (front p (s ++ t)))) _ o))
    go false e = rw (e, or-true (leb (length w) n))

over-before : (n : ℕ) (table : List (List ℕ)) (w u s t : List ℕ) → u ≡ s ++ t → none_over n table (front is_capital (w ++ u)) ≡ true
    → none_over n table (front is_capital (w ++ s)) ≡ true
over-before n table w u s t e o = over-shorter is_capital n table (w ++ s) t (rw (append_assoc w s t, ← e) o)

-- fewer digits have no greater value
value_grows : (n : ℕ) (ds : List ℕ) → n ≤ decimal_value n ds
value_grows n [] = omega arith
value_grows n (d ∷ ds) = omega (arith, value_grows (n * 10 + (d - 48)) ds)

value-shorter : (n : ℕ) (s t : List ℕ) → decimal_value n s ≤ decimal_value n (s ++ t)
value-shorter n [] t = value_grows n t
value-shorter n (d ∷ s) t = value-shorter (n * 10 + (d - 48)) s t

-- A word that a text may have begun
unfoldable pub is_listed : List ℕ → Bool
is_listed z = there (index_in spellings z)

-- what holds of each of n numbers from lo on
abbrev count : ℕ → ℕ → List ℕ
count lo zero = []
count lo (suc n) = lo ∷ count (suc lo) n

of-count : (p : ℕ → Bool) (lo n b : ℕ) → lo ≤ b → b < lo + n → all p (count lo n) ≡ true → p b ≡ true
of-count p lo zero b h l a = absurd (omega arith)
of-count p lo (suc n) b h l a =
    go (eqb lo b) refl (λ i. of-count p (suc lo) n b i (omega arith) (and_right (p lo) (all p (count (suc lo) n)) a))
  where
    go : (t : Bool) → eqb lo b ≡ t → (lo < b → p b ≡ true) → p b ≡ true
    go true e f = rw (← eqb-true lo b e) (and_left (p lo) (all p (count (suc lo) n)) a)
    go false e f = let d = eqb-false lo b e in f (omega arith)

-- "#" and a digit
hex-spelling : (d : ℕ) → is_hex_digit d ≡ true → is_listed (35 ∷ d ∷ []) ≡ true
unfolding is_listed
hex-spelling d e =
    let p : ℕ → Bool = λ x. is_listed (35 ∷ x ∷ []) in
    or_cases (is_digit d) (leb 65 d && leb d 70) e
    (λ h. let i = between 48 57 d h in of-count p 48 10 d i.0 (omega arith) refl)
    (λ h. let i = between 65 70 d h in of-count p 65 6 d i.0 (omega arith) refl)

-- the text ends with a word, or with the front of a spelling of which c is the rest
pub data Begun : List ℕ → List ℕ → Type 0 where
  whole : {s : List ℕ} → Begun s []
  part : (p a c : List ℕ) (x y : ℕ) → is_listed ((x ∷ a) ++ (y ∷ c)) ≡ true → Begun (p ++ (x ∷ a)) (y ∷ c)

pub begun-behind : (q : List ℕ) {s c : List ℕ} → Begun s c → Begun (q ++ s) c
begun-behind [] h = h
begun-behind (b ∷ q) h = go (begun-behind q h)
  where
    go : {s c : List ℕ} → Begun s c → Begun (b ∷ s) c
    go whole = whole
    go (part p a c x y e) = part (b ∷ p) a c x y e

-- Of s ++ t the word w is the first, and u follows it: what s, cut before t, has of it. Where w stands within s, it does with any front
-- part of t behind s
pub data Cut (table : List (List ℕ)) (s t : List ℕ) (w : Token) (u : List ℕ) : Type 0 where
  spaces : All is_space s → Cut table s t w u
  within : (q v : List ℕ) → s ≡ q ++ v → u ≡ v ++ t → ((c d : List ℕ) → t ≡ c ++ d → Word table (s ++ c) w (v ++ c)) → Cut table s t w u
  left_open : is_open_string s ≡ true → sort_of w ≡ a_text → Cut table s t w u
  begun : (c d : List ℕ) {w' : Token} → t ≡ c ++ d → Begun s c → Word table (s ++ c) w' [] → sort_of w' ≡ sort_of w → Cut table s t w u

module _ (table : List (List ℕ)) (known : all is_listed table ≡ true) where
  space-cut : {s t u : List ℕ} {w : Token} → Cut table s t w u → Cut table (32 ∷ s) t w u
  unfolding is_open_string
  space-cut (spaces a) = spaces (each refl a)
  space-cut (within q v e f g) = within (32 ∷ q) v (cc) f (λ c d h. spaced (g c d h))
  space-cut (left_open e f) = left_open e f
  space-cut (begun c d e b w f) = begun c d e (begun-behind (32 ∷ []) b) (spaced w) f

  -- the word stands before the cut, if it stands before any front part of what follows it
  before-cut : (q v s t u : List ℕ) (w : Token) → s ≡ q ++ v → u ≡ v ++ t → ((y z : List ℕ) → u ≡ y ++ z → Word table (q ++ y) w y) → Cut table s t w u
  before-cut q v s t u w e f g = within q v e f λ c d h.
      rw (e, append_assoc q v c) (g (v ++ c) d (f ∙ ap (λ (l : List ℕ). v ++ l) h ∙ sym (append_assoc v c d)))

  keyword-cut : (c d k : ℕ) (cs u : List ℕ) → Keyword table (c ∷ d ∷ cs) k u → (b : ℕ) (s t : List ℕ) → Split (c ∷ d ∷ cs) u (b ∷ s) t
      → Cut table (b ∷ s) t (sign k) u
  keyword-cut c d k cs u r b s t h = go h
    where
      shorter : (y z : List ℕ) → u ≡ y ++ z → Word table (c ∷ d ∷ cs ++ y) (sign k) y
      shorter y z e = keyword {s = y} (record {
        each = r.each;
        spelled = r.spelled;
        longest = over-before (length (c ∷ d ∷ cs)) table (c ∷ d ∷ cs) u y z e r.longest;
      })

      go : Split (c ∷ d ∷ cs) u (b ∷ s) t → Cut table (b ∷ s) t (sign k) u
      go (before v e f) = before-cut (c ∷ d ∷ cs) v (b ∷ s) t u (sign k) e f shorter
      go (across x y e f) =
          begun (x ∷ y) u {w' = sign k} f (part [] s y b x (rw (← e) (of-table is_listed 128 table (c ∷ d ∷ cs) k known r.spelled)))
          (rw (← e) (rw append-nil at (shorter [] u refl))) refl

  letter-cut : (c : ℕ) (u : List ℕ) → ByteRun is_capital (c ∷ []) u → (b : ℕ) (s t : List ℕ) → c ∷ u ≡ b ∷ s ++ t → Cut table (b ∷ s) t (variable (c - 65)) u
  letter-cut c u r b s t h = before-cut (c ∷ []) s (b ∷ s) t u (variable (c - 65)) (cc) (cc) λ y z e.
      letter (record { some = r.some; each = r.each; longest = starts-shorter is_capital y z (rw e at r.longest) })

  symbol-cut : (c : ℕ) (u : List ℕ) → is_symbol c ≡ true → pairs_with c u ≡ false → (b : ℕ) (s t : List ℕ) → c ∷ u ≡ b ∷ s ++ t
      → Cut table (b ∷ s) t (sign c) u
  symbol-cut c u r n b s t h = before-cut (c ∷ []) s (b ∷ s) t u (sign c) (cc) (cc) λ y z e. symbol r (pairs-shorter c y z (rw e at n))

  decimal-cut : (ds u : List ℕ) → ByteRun is_digit ds u → decimal_value 0 ds ≤ 32767 → (b : ℕ) (s t : List ℕ) → Split ds u (b ∷ s) t
      → Cut table (b ∷ s) t (decimal (decimal_value 0 ds)) u
  decimal-cut ds u r l b s t (before v e f) = before-cut ds v (b ∷ s) t u (decimal (decimal_value 0 ds)) e f λ y z g.
      decimal_digits (record { some = r.some; each = r.each; longest = starts-shorter is_digit y z (rw g at r.longest) }) l
  decimal-cut ds u r l b s t (across x y e f) =
      let a : All is_digit (b ∷ s) = all_first (b ∷ s) (x ∷ y) (rw e at r.each) in
      let m : decimal_value 0 (b ∷ s) ≤ 32767 = omega (arith, value-shorter 0 (b ∷ s) (x ∷ y), ap (decimal_value 0) e) in
      begun [] t refl whole (decimal_digits {ds = b ∷ s} {s = []} (record { some = first_of a; each = a; longest = refl }) m) refl

  hex-cut : (ds u : List ℕ) → ByteRun is_hex_digit ds u → (s t : List ℕ) → Split ds u s t → Cut table (35 ∷ s) t (hex (hex_value 0 ds % 65536)) u
  hex-cut ds u r s t (before v e f) = before-cut (35 ∷ ds) v (35 ∷ s) t u (hex (hex_value 0 ds % 65536)) (cc) f λ y z g.
      hex_digits (record { some = r.some; each = r.each; longest = starts-shorter is_hex_digit y z (rw g at r.longest) })
  hex-cut ds u r s t (across x y e f) = go s (rw e at r.each)
    where
      go : (s : List ℕ) → All is_hex_digit (s ++ (x ∷ y)) → Cut table (35 ∷ s) t (hex (hex_value 0 ds % 65536)) u
      go [] (each h a) =
          begun (x ∷ []) (y ++ u) f (part [] [] [] 35 x (hex-spelling x h))
          (hex_digits {ds = x ∷ []} {s = []} (record { some = h; each = each h done; longest = refl })) refl
      go (b ∷ s) a =
          let h = all_first (b ∷ s) (x ∷ y) a in
          begun [] t refl whole (hex_digits {ds = b ∷ s} {s = []} (record { some = first_of h; each = h; longest = refl })) refl

  quoted-cut : (bs u : List ℕ) → All is_quotable bs → (s t : List ℕ) → Split bs (34 ∷ u) s t → Cut table (34 ∷ s) t (string bs) u
  unfolding is_open_string
  quoted-cut bs u a s t (before [] e f) = left_open (rw (e, append-nil bs) (all_true a)) refl
  quoted-cut bs u a s t (before (x ∷ v) e f) =
      let h : x ≡ 34 = cc in
      before-cut (34 ∷ bs ++ (34 ∷ [])) v (34 ∷ s) t u (string bs) (rw (e, h, append_assoc bs (34 ∷ []) v)) (cc) λ y z g.
      rw (append_assoc bs (34 ∷ []) y) (quoted a)
  quoted-cut bs u a s t (across x y e f) = left_open (all_true (all_first s (x ∷ y) (rw e at a))) refl

  pair-cut : (a c k : ℕ) (u : List ℕ) → pairs a c ≡ some k → (b : ℕ) (s t : List ℕ) → a ∷ c ∷ u ≡ b ∷ s ++ t → Cut table (b ∷ s) t (sign k) u
  unfolding is_listed
  pair-cut a c k u e b [] t h =
      let i : a ≡ b = cc in
      let z : is_listed (b ∷ c ∷ []) ≡ true = rw (← i) (of-pairs (λ x y n. is_listed (x ∷ y ∷ []) ≡ true) a c k refl refl refl e) in
      begun (c ∷ []) u {w' = sign k} (cc) (part [] [] [] b c z) (rw (← i) (pair e)) refl
  pair-cut a c k u e b (x ∷ s) t h = before-cut (a ∷ c ∷ []) s (b ∷ x ∷ s) t u (sign k) (cc) (cc) λ y z g. pair e

  -- a word of s ++ t, cut before t
  pub word_cut : (s t : List ℕ) {l u : List ℕ} {w : Token} → Word table l w u → l ≡ s ++ t → Cut table s t w u
  word_cut [] t w h = spaces done
  word_cut (b ∷ s) t (spaced w) h = let e : b ≡ 32 = cc in rw e (space-cut (word_cut s t w (cc)))
  word_cut (b ∷ s) t (keyword {c} {d} {k} {cs} {s = u} r) h = keyword-cut c d k cs u r b s t (split (c ∷ d ∷ cs) u (b ∷ s) t h)
  word_cut (b ∷ s) t (letter {c} {s = u} r) h = letter-cut c u r b s t h
  word_cut (b ∷ s) t (decimal_digits {ds} {s = u} r l) h = decimal-cut ds u r l b s t (split ds u (b ∷ s) t h)
  word_cut (b ∷ s) t (hex_digits {ds} {s = u} r) h = let e : b ≡ 35 = cc in rw e (hex-cut ds u r s t (split ds u s t (cc)))
  word_cut (b ∷ s) t (quoted {bs} {s = u} a) h = let e : b ≡ 34 = cc in rw e (quoted-cut bs u a s t (split bs (34 ∷ u) s t (cc)))
  word_cut (b ∷ s) t (pair {a} {b = c} {k} {s = u} e) h = pair-cut a c k u e b s t h
  word_cut (b ∷ s) t (symbol {b = c} {s = u} e n) h = symbol-cut c u e n b s t h
