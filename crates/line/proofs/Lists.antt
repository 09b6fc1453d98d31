-- What a caller learns of the first member of a text, and a list by its first member. Assumes nothing.
use Rattle.std.specs.Prelude.{if◌then◌else◌}
use Rattle.std.specs.Prelude.{Option as Opt, Some, None, Result, Ok, Err, is_ok}
use Rattle.std.specs.Option.{unwrap_or}
use Rattle.std.specs.Result.{result_ok}
use Rattle.reader.specs.declared.Unread.{Unread}
use Rattle.reader.specs.declared.Unread.TheVariants as unread
use Prim.Native.Nat.{ℕ, zero, suc, ◌+◌, ◌-◌, ◌≤◌, ◌<◌}
use mathlib.Core.Path.{◌≡◌, refl, sym, ap, ◌∙◌}
use mathlib.Core.Bool.{Bool, true, false, ◌||◌, false≢true}
use mathlib.Core.List.{List, [], ◌∷◌}
use mathlib.Core.Option.{Option, none, some}
use native.Mathlib.Omega.{arith}
use borrow.Author.Tests.{leb-true, le-leb}
use lib.ListN.{length, take, drop, replicate, length-drop}
use lib.Seq.{take_all, drop-drop}
use lib.Dec.{leb, eqb}
use Rattle.nibl.specs.Tree.{Member}
use Rattle.nibl.specs.found.Read.{Found, nothing, found, or_else, unread, cons_some, member, reading}
use Rattle.nibl.specs.Page.{ends_from, ends_of, is_among}
use Rattle.nibl.proofs.Words.{and_left, and_right}
use Rattle.nibl.proofs.Over.{word_over}
use Rattle.nibl.proofs.Rules.{it, ok-found}
use Rattle.nibl.proofs.Statements.{statement-left, left-short}
use Rattle.nibl.proofs.Lines.{AMember, at_end, at_colon, member-same, from, reading-eq}
use Rattle.nibl.proofs.Ends.{member-rest}
use Rattle.reader.specs.Code.{compile}
use Rattle.reader.specs.Answers.{has_room, zeros, member_of}
use Rattle.line.specs.Answers.{list_of, members_of}

-- Room
pub room_for : (text ops : List ℕ) → has_room text ops ≡ true → (length text ≤ length ops) × (length text ≤ 65535)
room_for text ops h =
    let a = leb (length text) (length ops) in
    let b = leb (length text) 65535 in
    (leb-true (length text) (length ops) (and_left a b h), leb-true (length text) 65535 (and_right a b h))

-- no more is needed for a shorter text, and as long a list does
pub room-less : (text ops s ops' : List ℕ) → has_room text ops ≡ true → length s ≤ length text → length ops' ≡ length ops → has_room s ops' ≡ true
room-less text ops s ops' h l e =
    let r = room_for text ops h in rw (le-leb (length s) (length ops') (omega arith), le-leb (length s) 65535 (omega arith))

-- an answer where there is none, and where there is
module _ {A : Type 0} {b : Bool} where
  pub shut : (x : A) {y : A} → b ≡ false → y ≡ (if b then x else y)
  shut x e = rw e refl

  pub opened : {r x : A} (y : A) → b ≡ true → r ≡ x → r ≡ (if b then x else y)
  opened y e h = rw e h

pub zeros-as : (a b : List ℕ) {w : List ℕ} → w ≡ zeros a → length a ≡ length b → w ≡ zeros b
zeros-as a b e l = e ∙ ap (λ (n : ℕ). replicate n 0) l

-- The first member
pub record First (s : List ℕ) (n left : ℕ) : Type 0 where
  pub one : Member
  pub rest : List ℕ
  pub reads : member s ≡ found one rest
  pub count : length (compile one.statement) ≡ n
  pub ends : one.left ≡ left

none_of : (f : Found Member) (r : Result (ℕ × ℕ) Unread) → r ≡ member_of f → is_ok r ≡ false → f ≡ nothing
none_of nothing r e k = refl
none_of (found m t) r e k = absurd (false≢true (sym k ∙ ap is_ok e))

first_of : (s : List ℕ) (f : Found Member) {n left : ℕ} → member s ≡ f → Ok (n, left) ≡ member_of f → First s n left
first_of s nothing e h = let z : ◌≡◌ {A = ℕ} 0 1 = cc in absurd (omega arith)
first_of s (found m t) {n} {left} e h =
    let q : ◌≡◌ {A = ℕ × ℕ} (n, left) (length (compile m.statement), m.left) = cc in
    record { one = m; rest = t; reads = e; count = sym (ap (λ (p : ℕ × ℕ). p.0) q); ends = sym (ap (λ (p : ℕ × ℕ). p.1) q) }

-- an answer by what `ok` makes of it
pub was-ok : {p : ℕ × ℕ} {o : Opt (ℕ × ℕ)} (r : Result (ℕ × ℕ) Unread) → o ≡ result_ok r → o ≡ Some p → r ≡ Ok p
was-ok {p} (Ok q) e f = let d : ◌≡◌ {A = ℕ × ℕ} q p = cc in ap Ok d
was-ok (Err u) e f = let z : ◌≡◌ {A = ℕ} 0 1 = cc in absurd (omega arith)

-- what the promise of `read_member` says of its answer
abbrev Answered : List ℕ → List ℕ → Result (ℕ × ℕ) Unread → Type 0
Answered s ops r = r ≡ (if has_room s ops then member_of (member s) else (Err unread.NoRoom))

module _ (s ops : List ℕ) (r : Result (ℕ × ℕ) Unread) (h : has_room s ops ≡ true) (e : Answered s ops r) where
  answered : r ≡ member_of (member s)
  answered = e ∙ rw h refl

  pub no-first : is_ok r ≡ false → member s ≡ nothing
  no-first k = none_of (member s) r answered k

  pub first : {n left : ℕ} → r ≡ Ok (n, left) → First s n left
  first d = first_of s (member s) refl (sym d ∙ answered)

-- of a part of a text, the rest of it
abbrev part : List ℕ → ℕ → List ℕ
part text at = take (length text - at) (drop at text)

pub part-rest : (text : List ℕ) (at : ℕ) → part text at ≡ drop at text
part-rest text at = take_all (length text - at) (drop at text) (omega (arith, length-drop at text))

module _ (text ops ops₀ : List ℕ) (at : ℕ) (r : Result (ℕ × ℕ) Unread) (h : has_room text ops₀ ≡ true) (l : length ops ≡ length ops₀) (e : Answered (part text at) ops r) where
  there : Answered (drop at text) ops r
  there = rw (part-rest text at) at e

  room : has_room (drop at text) ops ≡ true
  room = room-less text ops₀ (drop at text) ops h (omega (arith, length-drop at text)) l

  pub no-first-at : is_ok r ≡ false → member (drop at text) ≡ nothing
  no-first-at = no-first (drop at text) ops r room there

  pub first-at : {n left : ℕ} → r ≡ Ok (n, left) → First (drop at text) n left
  first-at = first (drop at text) ops r room there

-- where it ends: with the text, or before a ":" and the rest
data Sized (s t : List ℕ) (m : Member) : Type 0 where
  last : m.left ≡ 0 → Sized s t m
  more : m.left ≡ suc (length t) → length t < length s → Sized s t m

sized_of : {s t : List ℕ} {m : Member} → AMember s m t → Sized s t m
sized_of (at_end p a) = last refl
sized_of (at_colon p k) = more refl (omega (arith, left-short (statement-left p), (word_over k).short))

sized : (s t : List ℕ) (m : Member) → member s ≡ found m t → Sized s t m
sized s t m e = sized_of (ok-found (rw e at (it (member-same s))))

fits-of : {s t : List ℕ} {m : Member} → Sized s t m → m.left ≤ length s
fits-of (last e) = omega arith
fits-of (more e l) = omega arith

pub left-fits : {s : List ℕ} {n left : ℕ} → First s n left → left ≤ length s
left-fits {s} f = let g = fits-of (sized s f.rest f.one f.reads) in let e = f.ends in omega arith

-- The list
pub list-none : (met : Bool) (n p : ℕ) (s : List ℕ) → member s ≡ nothing → members_of met n p (reading s) ≡ None
list-none met n p s e = ap (members_of met n p) (reading-eq s ∙ ap (λ (f : Found Member). or_else f (from reading) unread s) e)

or_assoc : (a b d : Bool) → (a || (b || d)) ≡ ((a || b) || d)
or_assoc true b d = refl
or_assoc false b d = refl

or-false : (a : Bool) → (a || false) ≡ a
or-false true = refl
or-false false = refl

met-more : (met : Bool) (n p : ℕ) (m : Member) (o : Option (List Member))
    → members_of met n p (cons_some m o) ≡ members_of (met || eqb p (0 + (n - m.left))) n p o
met-more met n p m none = refl
met-more met n p m (some ms) = ap Some (or_assoc met (eqb p (0 + (n - m.left))) (is_among (ends_from 0 n ms) p))

one_more : {s : List ℕ} {k left : ℕ} (f : First s k left) (t : List ℕ) → Sized s t f.one → (left ≡ 0 → ⊥) → f.one.left ≡ suc (length t)
one_more f t (last e) z = absurd (z (sym f.ends ∙ e))
one_more f t (more e l) z = e

module _ (met : Bool) (n p : ℕ) {s : List ℕ} {k left : ℕ} (f : First s k left) where
  by_first : {l : ℕ} → f.one.left ≡ l → reading s ≡ elim l [ zero ↦ some (f.one ∷ []) | suc n ↦ cons_some f.one (reading f.rest) ]
  by_first e = reading-eq s ∙ ap (λ (g : Found Member). or_else g (from reading) unread s) f.reads
      ∙ ap (λ (l : ℕ). elim l [ zero ↦ some (f.one ∷ []) | suc n ↦ cons_some f.one (reading f.rest) ]) e

  list-last : left ≡ 0 → members_of met n p (reading s) ≡ Some (met || eqb p (0 + (n - left)))
  list-last z =
      ap (members_of met n p) (by_first (f.ends ∙ z)) ∙ ap (λ (b : Bool). Some (met || b)) (or-false (eqb p (0 + (n - f.one.left))))
      ∙ ap (λ (l : ℕ). Some (met || eqb p (0 + (n - l)))) f.ends

  list-more : (left ≡ 0 → ⊥) → members_of met n p (reading s) ≡ members_of (met || eqb p (0 + (n - left))) n p (reading f.rest)
  list-more z =
      ap (members_of met n p) (by_first (one_more f f.rest (sized s f.rest f.one f.reads) z)) ∙ met-more met n p f.one (reading f.rest)
      ∙ ap (λ (l : ℕ). members_of (met || eqb p (0 + (n - l))) n p (reading f.rest)) f.ends

-- whether its end is the one asked for
pub met-now : (met : Bool) (n p left : ℕ) → (met || eqb p (0 + (n - left))) ≡ (met || eqb p (n - left))
met-now met n p left = ap (λ (j : ℕ). met || eqb p j) (omega arith)

-- The turns of the loop over the members, each in the rest of the text
module _ (text : List ℕ) (at p : ℕ) (met met' : Bool) {k left : ℕ} (f : First (drop at text) k left) (hit : (met || eqb p (0 + (length text - left))) ≡ met') where
  pub list-ends : left ≡ 0 → members_of met (length text) p (reading (drop at text)) ≡ Some met'
  list-ends z = list-last met (length text) p f z ∙ ap Some hit

  -- what follows the ":"
  rest_at : at ≤ length text → (left ≡ 0 → ⊥) → f.rest ≡ drop (length text - left + 1) text
  rest_at h z =
      let s = drop at text in
      let t = f.rest in
      let a = one_more f t (sized s t f.one f.reads) z in
      let b = left-fits f in
      let d = f.ends in
      let l = length-drop at text in
      let i : at + (length s - length t) ≡ length text - left + 1 = omega arith in
      sym (member-rest s t f.one f.reads) ∙ drop-drop (length s - length t) at text ∙ ap (λ (j : ℕ). drop j text) i

  pub list_on : at ≤ length text → (left ≡ 0 → ⊥)
      → members_of met (length text) p (reading (drop at text)) ≡ members_of met' (length text) p (reading (drop (length text - left + 1) text))
  list_on h z =
      list-more met (length text) p f z ∙ ap (λ (b : Bool). members_of b (length text) p (reading f.rest)) hit
      ∙ ap (λ (t : List ℕ). members_of met' (length text) p (reading t)) (rest_at h z)

-- What the loop's answer says of the list
module _ (n p : ℕ) where
  pub list-reads : (o : Option (List Member)) {b : Bool} → Some b ≡ members_of false n p o → Ok tt ≡ list_of o
  list-reads none e = let z : ◌≡◌ {A = ℕ} 0 1 = cc in absurd (omega arith)
  list-reads (some ms) e = refl

  pub list-fails : (o : Option (List Member)) → None ≡ members_of false n p o → (Err unread.NoReading) ≡ list_of o
  list-fails none e = refl
  list-fails (some ms) e = let z : ◌≡◌ {A = ℕ} 0 1 = cc in absurd (omega arith)

  pub among-ends : (o : Option (List Member)) {m : Opt Bool} → m ≡ members_of false n p o → unwrap_or m false ≡ is_among (ends_of 0 n o) p
  among-ends none e = rw e refl
  among-ends (some ms) e = rw e refl

-- of a part
module _ (text : List ℕ) (at : ℕ) where
  pub part_room : (ops : List ℕ) → has_room text ops ≡ true → has_room (part text at) ops ≡ true
  part_room ops h = room-less text ops (part text at) ops h (omega (arith, ap length (part-rest text at), length-drop at text)) refl

  part_same : list_of (reading (part text at)) ≡ list_of (reading (drop at text))
  part_same = ap (λ (s : List ℕ). list_of (reading s)) (part-rest text at)

  pub part-reads : {b : Bool} → Some b ≡ members_of false (length (part text at)) 0 (reading (part text at)) → Ok tt ≡ list_of (reading (drop at text))
  part-reads e = list-reads (length (part text at)) 0 (reading (part text at)) e ∙ part_same

  pub part-fails : None ≡ members_of false (length (part text at)) 0 (reading (part text at)) → (Err unread.NoReading) ≡ list_of (reading (drop at text))
  part-fails e = list-fails (length (part text at)) 0 (reading (part text at)) e ∙ part_same
