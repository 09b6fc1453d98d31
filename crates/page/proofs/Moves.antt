-- What a step of each mover does to the list, and how an edit of a part is one of the page.
-- Assumes nothing.
use mathlib.Core.Path.{◌≡◌, sym, ap, subst, ◌∙◌}
use mathlib.Core.List.{List, [], ◌∷◌, ◌++◌, append_assoc, append-nil}
use Prim.Native.Nat.{ℕ, suc, ◌+◌, ◌-◌, ◌≤◌, ◌<◌}
use native.Mathlib.Nat.{add-suc, zero-add}
use native.Mathlib.Numerals.{add-one}
use native.Mathlib.Omega.{arith}
use lib.ListN.{length, take, drop, get_or, set, length-drop, length-append, drop_of_length-le, get_or-append}
use lib.Seq.{paste, paste-suc, drop-paste, get_or-drop, get_or-take, length-take-le, take-suc, drop-cons, set_at, append_snoc, drop-drop, take-length, take_all, drop_at}
use Rattle.page.specs.Edits.{moved, spliced}

-- past what was pasted the list is as it was
pub get_d_past : (d s : List ℕ) (at n k : ℕ) → at ≤ length d → n ≤ length s → at + n ≤ k → get_or (paste d at s n) k 0 ≡ get_or d k 0
get_d_past d s at n k hd hs h =
    let e : at + n + (k - (at + n)) ≡ k = omega arith in
    sym (ap (λ (m : ℕ). get_or (paste d at s n) m 0) e)
    ∙ sym (get_or-drop (at + n) (paste d at s n) (k - (at + n)) 0)
    ∙ ap (λ (l : List ℕ). get_or l (k - (at + n)) 0) (drop-paste d at s n hd hs)
    ∙ get_or-drop (at + n) d (k - (at + n)) 0
    ∙ ap (λ (m : ℕ). get_or d m 0) e

-- and before it
pub get_or-before : (d r : List ℕ) (at k : ℕ) → at ≤ length d → k < at → get_or (take at d ++ r) k 0 ≡ get_or d k 0
get_or-before d r at k hd h =
    get_or-append (take at d) r 0 k (subst (λ (m : ℕ). k < m) (sym (length-take-le at d hd)) h) ∙ get_or-take at d k 0 h

-- a turn of `move_left`
pub left_step : (p : List ℕ) (from to i : ℕ) → to ≤ from → from + i < length p
    → set (moved p from to i) (to + i) (get_or (moved p from to i) (from + i) 0) ≡ moved p from to (i + 1)
left_step p from to i h hl =
    let a : to ≤ length p = omega arith in
    let b : i ≤ length (drop from p) = omega (arith, length-drop from p) in
    let c : i < length (drop from p) = omega (arith, length-drop from p) in
    let d : to + i < length p = omega arith in
    let e : to + i ≤ from + i = omega arith in
    ap (λ (v : ℕ). set (moved p from to i) (to + i) v) (get_d_past p (drop from p) to i (from + i) a b e ∙ sym (get_or-drop from p i 0))
    ∙ paste-suc p to (drop from p) i 0 d c
    ∙ ap (λ (m : ℕ). moved p from to m) (sym (add-one i))

-- a turn of `move_right`, to the place j from the one after it
pub right-step : (p : List ℕ) (from to j m : ℕ) → from ≤ to → to + j < length p
    → set (paste p (to + (j + 1)) (drop (from + (j + 1)) p) m) (to + j) (get_or (paste p (to + (j + 1)) (drop (from + (j + 1)) p) m) (from + j) 0)
    ≡ paste p (to + j) (drop (from + j) p) (m + 1)
right-step p from to j m h hl =
    let P : List ℕ = paste p (to + (j + 1)) (drop (from + (j + 1)) p) m in
    let X : List ℕ = take m (drop (from + (j + 1)) p) in
    let Y : List ℕ = drop (to + (j + 1) + m) p in
    let v : ℕ = get_or p (from + j) 0 in
    let hf : from + j < length p = omega arith in
    let e1 : to + (j + 1) ≡ suc (to + j) = ap (λ (k : ℕ). to + k) (add-one j) ∙ add-suc to j in
    let e2 : from + (j + 1) ≡ suc (from + j) = ap (λ (k : ℕ). from + k) (add-one j) ∙ add-suc from j in
    let read : get_or P (from + j) 0 ≡ v =
    ap (λ (l : List ℕ). get_or l (from + j) 0) (append_assoc (take (to + (j + 1)) p) X Y)
    ∙ get_or-before p (X ++ Y) (to + (j + 1)) (from + j) (omega arith) (omega arith) in
    let shape : P ≡ take (to + j) p ++ (get_or p (to + j) 0 ∷ (X ++ Y)) =
    append_assoc (take (to + (j + 1)) p) X Y
    ∙ ap (λ (l : List ℕ). l ++ (X ++ Y)) (ap (λ (k : ℕ). take k p) e1 ∙ take-suc p (to + j) 0 hl)
    ∙ append_snoc (take (to + j) p) (get_or p (to + j) 0) (X ++ Y) in
    let there : take (m + 1) (drop (from + j) p) ≡ v ∷ X =
    ap (λ (k : ℕ). take k (drop (from + j) p)) (add-one m)
    ∙ ap (λ (l : List ℕ). take (suc m) l) (drop-cons p (from + j) 0 hf)
    ∙ ap (λ (k : ℕ). v ∷ take m (drop k p)) (sym e2) in
    let past : to + j + (m + 1) ≡ to + (j + 1) + m = omega arith in
    ap (λ (w : ℕ). set P (to + j) w) read
    ∙ ap (λ (l : List ℕ). set l (to + j) v) shape
    ∙ set_at (take (to + j) p) (get_or p (to + j) 0) (X ++ Y) v (to + j) (length-take-le (to + j) p (omega arith))
    ∙ sym (append_assoc (take (to + j) p) (v ∷ X) Y)
    ∙ ap (λ (l : List ℕ). take (to + j) p ++ l ++ Y) (sym there)
    ∙ ap (λ (k : ℕ). take (to + j) p ++ take (m + 1) (drop (from + j) p) ++ drop k p) (sym past)

-- a record's bytes, stored one part after the other
pub record_is : (p t : List ℕ) (a b c : ℕ) → length t + 4 ≤ length p
    → set (paste (set ((a ∷ (b ∷ [])) ++ drop 2 p) 2 c) 3 t (length t)) (3 + length t) 13 ≡ (a ∷ (b ∷ (c ∷ (t ++ (13 ∷ []))))) ++ drop (length t + 4) p
record_is p t a b c h =
    let n : ℕ = length t in
    let Q : List ℕ = a ∷ (b ∷ (c ∷ drop 3 p)) in
    let hl : 3 + n < length p = omega arith in
    let e : 3 + n + 1 ≡ n + 4 = omega arith in
    let stored : set ((a ∷ (b ∷ [])) ++ drop 2 p) 2 c ≡ Q = ap (λ (l : List ℕ). set ((a ∷ (b ∷ [])) ++ l) 2 c) (drop-cons p 2 0 (omega arith)) in
    let rest : drop (3 + n) Q ≡ get_or p (3 + n) 0 ∷ drop (n + 4) p =
    sym (drop-drop n 3 Q) ∙ drop-drop n 3 p ∙ drop-cons p (3 + n) 0 hl ∙ ap (λ (k : ℕ). get_or p (3 + n) 0 ∷ drop k p) (sym (add-one (3 + n)) ∙ e) in
    ap (λ (l : List ℕ). set (paste l 3 t n) (3 + n) 13) stored
    ∙ (λ i. set ((a ∷ (b ∷ (c ∷ take-length t i))) ++ rest i) (3 + n) 13)
    ∙ set_at (a ∷ (b ∷ (c ∷ t))) (get_or p (3 + n) 0) (drop (n + 4) p) 13 (3 + n) (omega (arith, length-append (a ∷ (b ∷ (c ∷ []))) t))
    ∙ ap (λ (l : List ℕ). a ∷ (b ∷ (c ∷ l))) (sym (append_snoc t 13 (drop (n + 4) p)))

-- what lies from the place of a paste on
pub drop-pasted : (d s : List ℕ) (at n : ℕ) → at ≤ length d → drop at (paste d at s n) ≡ take n s ++ drop (at + n) d
drop-pasted d s at n h =
    ap (drop at) (append_assoc (take at d) (take n s) (drop (at + n) d)) ∙ drop_at (take at d) (take n s ++ drop (at + n) d) at (length-take-le at d h)

-- an edit at the front
pub front-spliced : (q r : List ℕ) (gone top : ℕ) → r ++ (take (top - gone) (drop gone q) ++ drop (length r + (top - gone)) q) ≡ spliced q 0 gone top r
front-spliced q r gone top = sym (rw (zero-add, zero-add))

-- an edit of the page from `at` on is one of the page
pub part-spliced : (p r last : List ℕ) (at gone top : ℕ) → at ≤ length p → last ≡ spliced (take (length p - at) (drop at p)) 0 gone (top - at) r
    → take at p ++ (last ++ drop (length p - at) (drop at p)) ≡ spliced p at gone top r
part-spliced p r last at gone top h e =
    let n : ℕ = top - at - gone in
    let short : length (drop at p) ≤ length p - at = omega (arith, length-drop at p) in
    let none : drop (length p - at) (drop at p) ≡ [] = drop_of_length-le (drop at p) short in
    let all : take (length p - at) (drop at p) ≡ drop at p = take_all (length p - at) (drop at p) short in
    let a : n ≡ top - (at + gone) = omega arith in
    let b : at + (length r + n) ≡ at + length r + (top - (at + gone)) = omega arith in
    (λ i. take at p ++ (e i ++ none i))
    ∙ ap (λ (l : List ℕ). take at p ++ l) (append-nil _)
    ∙ ap (λ (q : List ℕ). take at p ++ spliced q 0 gone (top - at) r) all
    ∙ ap (λ (l : List ℕ). take at p ++ l) (sym (front-spliced (drop at p) r gone (top - at)))
    ∙ (λ i. take at p ++ (r ++ (take (a i) (drop-drop gone at p i) ++ drop-drop (length r + n) at p i)))
    ∙ ap (λ (m : ℕ). take at p ++ (r ++ (take (top - (at + gone)) (drop (at + gone) p) ++ drop m p))) b
