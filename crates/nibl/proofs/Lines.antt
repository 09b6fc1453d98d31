-- Statement lists, replies and typed lines: what the readers find is a reading, and no bound matters. Assumes nothing.
use Prim.Native.Nat.{ℕ, zero, suc, ◌<◌}
use mathlib.Core.Path.{◌≡◌, refl}
use mathlib.Core.Bool.{Bool, true, false, ◌||◌, false≢true}
use mathlib.Core.List.{List, [], ◌∷◌}
use mathlib.Core.Option.{Option, some}
use native.Mathlib.Omega.{arith}
use lib.ListN.{length}
use Rattle.nibl.specs.Bytes.{is_space, All, all}
use Rattle.nibl.specs.Words.{Token, decimal, sign, commands, Word}
use Rattle.nibl.specs.Grammar.{Key, Relation, Statement, Members, last_member, more_members, Reply, last_reply, enough, more_reply, Line, a_blank, a_delete, a_store, a_new, a_clear, a_run, a_list, a_list_from, an_immediate}
use Rattle.nibl.specs.Tree.{Expr, Stmt, Member, Typed, blank, new, clear, run, delete, list, immediate}
use Rattle.nibl.specs.found.Read.{Found, found, give, ◌>>=◌, on_step, step_in, key, or_else, is_found, sign_of, relation, read, statement, member, unread, cons_some, members_n, reading, replied, alone, storing, numbered, alone_statement, command_cases, unnumbered, typed, a_decimal}
use Rattle.nibl.specs.found.Read.{last_reply as last_replied}
use Rattle.nibl.proofs.Words.{if-split, or_cases, true-all}
use Rattle.nibl.proofs.Over.{word_over}
use Rattle.nibl.proofs.Rules.{Alike, alike, it, same, Ok, nil, one, OkSome, W, Same, gives, by-step, kinds, or-else, or_ok, and-then, ok-found, ok-some, Cases, no_more, ◌and◌, chosen, decimal-same, by_key}
use Rattle.nibl.proofs.Sound.{read_same}
use Rattle.nibl.proofs.Statements.{statement-left, left-short, statement-same}

abbrev pub C : List ℕ → Token → List ℕ → Type 0
C = Word commands

-- a statement and its end
pub data AMember (s : List ℕ) : Member → List ℕ → Type 0 where
  at_end : {q : Stmt} {t : List ℕ} → Statement W s q t → All is_space t → AMember s (record { statement = q; left = 0 }) []
  at_colon : {q : Stmt} {t u : List ℕ} → Statement W s q t → Key W ":" t u → AMember s (record { statement = q; left = suc (length u) }) u

pub member-same : (s : List ℕ) → Same (AMember s) (member s) (member s)
unfolding member ◌>>=◌
member-same s =
    and-then (statement-same s) (λ q t h.
    if-split (λ f. Same (AMember s) f f) (all is_space t) (λ e. gives (at_end h (true-all is_space t e))) (λ _. by_key ":" t (λ u k. gives (at_colon h k))))

-- the members from a member on, by a reader of the rest
abbrev pub from : (List ℕ → Option (List Member)) → Member → List ℕ → Option (List Member)
from r m t = elim m.left [ zero ↦ some (m ∷ []) | suc n ↦ cons_some m (r t) ]

module _ (r r' : List ℕ → Option (List Member)) (s : List ℕ) (h : (u : List ℕ) → length u < length s → Alike (OkSome (Members W u)) (r u) (r' u)) where
  more_same : {q : Stmt} {t u : List ℕ} {o o' : Option (List Member)} → Statement W s q t → Key W ":" t u → Alike (OkSome (Members W u)) o o'
      → Alike (OkSome (Members W s)) (cons_some (record { statement = q; left = suc (length u) }) o) (cons_some (record { statement = q; left = suc (length u) }) o')
  more_same p k (alike nil) = alike nil
  more_same p k (alike (one ms)) = alike (one (more_members p k ms))

  from-same : (m : Member) (t : List ℕ) → AMember s m t → Alike (OkSome (Members W s)) (from r m t) (from r' m t)
  from-same m t (at_end p a) = alike (one (last_member p a))
  from-same m t (at_colon {u} p k) = more_same p k (h u (omega (arith, left-short (statement-left p), (word_over k).short)))

  members-by : Alike (OkSome (Members W s)) (or_else (member s) (from r) unread s) (or_else (member s) (from r') unread s)
  members-by = or-else unread unread s (member-same s) from-same (alike nil)

members_n-same : (k k' : ℕ) (s : List ℕ) → length s < k → length s < k' → Alike (OkSome (Members W s)) (members_n k s) (members_n k' s)
unfolding members_n
members_n-same zero k' s h h' = absurd (omega arith)
members_n-same (suc k) zero s h h' = absurd (omega arith)
members_n-same (suc k) (suc k') s h h' = members-by (members_n k) (members_n k') s (λ u l. members_n-same k k' u (omega arith) (omega arith))

pub reading-same : (s : List ℕ) → Alike (OkSome (Members W s)) (reading s) (reading s)
unfolding reading
reading-same s = members_n-same (suc (length s)) (suc (length s)) s (omega arith) (omega arith)

pub members_n-eq : (k : ℕ) (s : List ℕ) → length s < k → members_n k s ≡ reading s
unfolding reading
members_n-eq k s h = same (members_n-same k (suc (length s)) s h (omega arith))

-- The reader of a statement list without a bound
pub reading-eq : (s : List ℕ) → reading s ≡ or_else (member s) (from reading) unread s
unfolding reading members_n
reading-eq s = same (members-by (members_n (length s)) reading s (λ u l. members_n-same (length s) (suc (length u)) u l (omega arith)))

-- Replies
pub replied-one : (s : List ℕ) → replied 1 s ≡ or_else (read relation s) last_replied unread s
unfolding replied
replied-one s = refl

pub replied-more : (n : ℕ) (s : List ℕ)
    → replied (suc (suc n)) s ≡ or_else ((read relation >>= (λ a. key "," (give a))) s) (λ a t. cons_some a (replied (suc n) t)) unread s
unfolding replied
replied-more n s = refl

found-one : {A : Type 0} {P : A → List ℕ → Type 0} {B : Type 0} {f : Found A} → Ok P f → is_found f ≡ true → ((a : A) (t : List ℕ) → P a t → B) → B
found-one nil e g = absurd (false≢true e)
found-one (one {a} {s = t} p) e g = g a t p

last-reply : (s : List ℕ) (a : Expr) (t : List ℕ) → Relation W s a t → OkSome (Reply W 1 s) (last_replied a t)
last-reply s a t r =
    let k : Same (λ b u. Key W "," t u) (key "," (give a) t) (key "," (give a) t) = by_key "," t (λ u c. gives c) in
    if-split (OkSome (Reply W 1 s)) (all is_space t || is_found (key "," (give a) t))
    (λ e. or_cases (all is_space t) (is_found (key "," (give a) t)) e (λ i. one (last_reply r (true-all is_space t i)))
    (λ i. found-one (it k) i (λ b u c. one (enough r c)))) (λ _. nil)

more-reply : (n : ℕ) (s t u : List ℕ) (a : Expr) {o : Option (List Expr)} → Relation W s a t → Key W "," t u → OkSome (Reply W (suc n) u) o → OkSome (Reply W (suc (suc n)) s) (cons_some a o)
more-reply n s t u a r k nil = nil
more-reply n s t u a r k (one es) = one (more_reply r k es)

-- a relation and a comma
record WithComma (s : List ℕ) (a : Expr) (u : List ℕ) : Type 0 where
  before : List ℕ
  reads : Relation W s a before
  comma : Key W "," before u

pub replied-ok : (n : ℕ) (s : List ℕ) → OkSome (Reply W n s) (replied n s)
unfolding replied ◌>>=◌
replied-ok zero s = nil
replied-ok (suc zero) s = or_ok unread s (read_same relation s) (last-reply s) nil
replied-ok (suc (suc n)) s =
    or_ok unread s
    (and-then {Q = WithComma s} (read_same relation s) (λ a t r. by_key "," t (λ u k. gives (record { before = t; reads = r; comma = k }))))
    (λ a u h. more-reply n s h.before u a h.reads h.comma (replied-ok (suc n) u)) nil

-- Typed lines
pub typed-blank : (s : List ℕ) → all is_space s ≡ true → typed s ≡ some blank
unfolding typed
typed-blank s e = rw (e, typed)

pub typed-other : (s : List ℕ) → all is_space s ≡ false → typed s ≡ or_else (a_decimal s) numbered unnumbered s
unfolding typed
typed-other s e = rw (e, typed)

abbrev Reads : List ℕ → Option Typed → Type 0
Reads s = OkSome (Line W C s)

alone-ok : (s t : List ℕ) (y : Typed) → (All is_space t → Line W C s y) → Reads s (alone y t)
alone-ok s t y f = if-split (Reads s) (all is_space t) (λ e. one (f (true-all is_space t e))) (λ _. nil)

immediate-ok : (s : List ℕ) → Reads s (alone_statement s)
immediate-ok s = or_ok unread s (statement-same s) (λ q t h. alone-ok s t (immediate q) (an_immediate h)) nil

storing-ok : (s t : List ℕ) (n : ℕ) {o : Option (List Member)} → W s (decimal n) t → OkSome (Members W t) o → Reads s (storing n t o)
storing-ok s t n w nil = nil
storing-ok s t n w (one ms) = one (a_store w ms)

numbered-ok : (s : List ℕ) (n : ℕ) (t : List ℕ) → W s (decimal n) t → Reads s (numbered n t)
numbered-ok s n t w = go (all is_space t) refl
  where
    go : (b : Bool) → all is_space t ≡ b → Reads s (elim b [ true ↦ some (delete n) | false ↦ storing n t (reading t) ])
    go true e = one (a_delete w (true-all is_space t e))
    go false e = storing-ok s t n w (it (reading-same t))

pub command-same : (s : List ℕ) → Same (λ k t. C s (sign k) t) (on_step (step_in commands s) sign_of) (on_step (step_in commands s) sign_of)
command-same s = by-step commands s (λ w t h. (kinds C s w t h).3)

-- what follows the command of a number
abbrev Command : List ℕ → List ℕ → ℕ → (List ℕ → Option Typed) → (List ℕ → Option Typed) → Type 0
Command s t n r r' = C s (sign n) t → Reads s (r t)

command-cases : (s t : List ℕ) → Cases (Command s t) command_cases command_cases
command-cases s t =
    (λ k. alone-ok s t new (a_new k)) and (λ k. alone-ok s t clear (a_clear k))
    and (λ k. or_ok (alone (list 0)) t (decimal-same t) (λ n u w. alone-ok s u (list n) (a_list_from k w)) (alone-ok s t (list 0) (a_list k)))
    and (λ k. alone-ok s t run (a_run k)) and no_more

unnumbered-ok : (s : List ℕ) → Reads s (unnumbered s)
unnumbered-ok s =
    or_ok alone_statement s (command-same s) (λ k t h. chosen {Q = Command s t} {r = λ t. alone_statement s} {r' = λ t. alone_statement s} k (command-cases s t) (λ _. immediate-ok s) h)
    (immediate-ok s)

pub typed-ok : (s : List ℕ) → Reads s (typed s)
unfolding typed
typed-ok s = go (all is_space s) refl
  where
    go : (b : Bool) → all is_space s ≡ b → Reads s (elim b [ true ↦ some blank | false ↦ or_else (a_decimal s) numbered unnumbered s ])
    go true e = one (a_blank (true-all is_space s e))
    go false e = or_ok unnumbered s (decimal-same s) (numbered-ok s) (unnumbered-ok s)

-- Sound
pub statement-sound : (s s' : List ℕ) (q : Stmt) → statement s ≡ found q s' → Statement W s q s'
statement-sound s s' q e = ok-found (rw e at (it (statement-same s)))

pub relation-sound : (s s' : List ℕ) (a : Expr) → read relation s ≡ found a s' → Relation W s a s'
relation-sound s s' a e = ok-found (rw e at (it (read_same relation s)))

pub reading-sound : (s : List ℕ) (ms : List Member) → reading s ≡ some ms → Members W s ms
reading-sound s ms e = ok-some (rw e at (it (reading-same s)))

pub replied-sound : (n : ℕ) (s : List ℕ) (es : List Expr) → replied n s ≡ some es → Reply W n s es
replied-sound n s es e = ok-some (rw e at (replied-ok n s))

pub typed-sound : (s : List ℕ) (y : Typed) → typed s ≡ some y → Line W C s y
typed-sound s y e = ok-some (rw e at (typed-ok s))
