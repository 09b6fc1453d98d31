-- Replies: one law for each answer. Assumes nothing.
use Rattle.std.specs.Prelude.{if◌then◌else◌}
use Rattle.std.specs.Prelude.{Ok, Err, Some, None}
use Rattle.std.specs.Option.{ok_or}
use Rattle.std.specs.Result.{result_ok}
use Rattle.reader.specs.declared.Unread.TheVariants as unread
use Prim.Native.Nat.{ℕ, zero, suc, ◌-◌, ◌≤◌, ◌<◌}
use mathlib.Core.Path.{◌≡◌, refl, sym, ap, subst, ◌∙◌}
use mathlib.Core.Bool.{Bool, true, false, ◌||◌}
use mathlib.Core.List.{List, [], ◌∷◌}
use mathlib.Core.Option.{Option, none, some}
use native.Mathlib.Omega.{arith}
use borrow.Author.Tests.{leb-true, leb-false}
use lib.ListN.{length, drop, length-drop, drop_of_length-le}
use lib.Dec.{leb}
use Rattle.nibl.specs.Bytes.{is_space, all}
use Rattle.nibl.specs.Tree.{Expr}
use Rattle.nibl.specs.Words.{number}
use Rattle.nibl.specs.found.Read.{Found, nothing, found, Reader, give, fail, key, may, if_key, or_else, is_found, ◌>>=◌, read, relation, unread, cons_some, last_reply, replied}
use Rattle.nibl.proofs.Sound.{relation-over}
use Rattle.nibl.proofs.Lines.{replied-one, replied-more, relation-sound}
use Rattle.word.specs.declared.Cursor.{Cursor}
use Rattle.relation.specs.Code.{values}
use Rattle.relation.specs.Makes.{Makes, KeyIs, refused, there, stood}
use Rattle.relation.specs.Made.{Made}
use Rattle.relation.proofs.Answers.{got}
use Rattle.relation.proofs.Answers.{none as unmade}
use Rattle.relation.proofs.Signs.{stood-over}
use Rattle.relation.proofs.Readers.{then_found, then-nothing, if-there, if-other}
use Rattle.line.specs.Answers.{list_of, replying, relation_of, relation_ops}

-- The comma behind a relation
pub key-told : {text : List ℕ} {r r' s s' : Made} → r ≡ r' → s ≡ s' → KeyIs (number ",") text r s → KeyIs (number ",") text r' s'
key-told {text} {r} {s' = s'} e d k = subst (λ (q : Made). KeyIs (number ",") text q s') e (subst (λ (q : Made). KeyIs (number ",") text r q) d k)

module _ {text : List ℕ} {c : Cursor} {o : ℕ} where
  pub comma-there : {d : Cursor} {n : ℕ} → KeyIs (number ",") text (Some (c, o)) (Some (d, n)) → (a : Expr) (q : Reader Expr) → if_key "," (give a) q (drop c.at text) ≡ found a (drop d.at text)
  comma-there (there (stood e l h)) a q = if-there "," (give a) q _ e

  pub comma-within : {d : Cursor} {n : ℕ} → KeyIs (number ",") text (Some (c, o)) (Some (d, n)) → d.at ≤ length text
  comma-within (there (stood e l h)) = h

  pub comma-none : KeyIs (number ",") text (Some (c, o)) None → (a : Expr) (q : Reader Expr) → if_key "," (give a) q (drop c.at text) ≡ q (drop c.at text)
  comma-none (refused h) a q = if-other "," (give a) q _ h
  comma-none (there x) a q = elim x [ ]

-- The last relation
module _ (s : List ℕ) where
  last_of : {f : Found Expr} → read relation s ≡ f → replied 1 s ≡ or_else f last_reply unread s
  last_of e = replied-one s ∙ ap (λ (f : Found Expr). or_else f last_reply unread s) e

  pub last_none : read relation s ≡ nothing → (Err unread.NoReading) ≡ list_of (replied 1 s)
  last_none e = sym (ap list_of (last_of e))

  module _ {a : Expr} {t : List ℕ} (e : read relation s ≡ found a t) where
    by_last : {p q : Bool} → all is_space t ≡ p → is_found (key "," (give a) t) ≡ q → list_of (replied 1 s) ≡ list_of (if p || q then some (a ∷ []) else none)
    by_last d f = ap list_of (last_of e) ∙ rw (d, f) refl

    pub last-spaces : all is_space t ≡ true → Ok tt ≡ list_of (replied 1 s)
    last-spaces d = sym (by_last d refl)

    pub last-comma : {b : Expr} {u : List ℕ} → all is_space t ≡ false → key "," (give a) t ≡ found b u → Ok tt ≡ list_of (replied 1 s)
    last-comma d f = sym (by_last d (ap is_found f))

    pub last-other : all is_space t ≡ false → key "," (give a) t ≡ nothing → (Err unread.NoReading) ≡ list_of (replied 1 s)
    last-other d f = sym (by_last d (ap is_found f))

-- A relation and its comma
abbrev commaed : Reader Expr
commaed = read relation >>= (λ a. key "," (give a))

module _ (s : List ℕ) where
  more_of : (k : ℕ) {f : Found Expr} → commaed s ≡ f → 1 < k
      → list_of (replied k s) ≡ list_of (or_else f (λ a t. cons_some a (replied (k - 1) t)) (unread {A = List Expr}) s)
  more_of zero e h = absurd (omega arith)
  more_of (suc zero) e h = absurd (omega arith)
  more_of (suc (suc n)) {f} e h =
      let d : suc n ≡ suc (suc n) - 1 = omega arith in
      ap list_of (replied-more n s ∙ ap (λ (g : Found Expr). or_else g (λ a t. cons_some a (replied (suc n) t)) unread s) e)
      ∙ ap (λ (m : ℕ). list_of (or_else f (λ a t. cons_some a (replied m t)) (unread {A = List Expr}) s)) d

  pub more-none : (k : ℕ) → 1 < k → commaed s ≡ nothing → (Err unread.NoReading) ≡ list_of (replied k s)
  more-none k h e = sym (more_of k e h)

  cons-list : (a : Expr) (o : Option (List Expr)) → list_of (cons_some a o) ≡ list_of o
  cons-list a none = refl
  cons-list a (some l) = refl

  pub more-on : (k : ℕ) {a : Expr} {t : List ℕ} → 1 < k → commaed s ≡ found a t → list_of (replied k s) ≡ list_of (replied (k - 1) t)
  more-on k {a} {t} h e = more_of k e h ∙ cons-list a (replied (k - 1) t)

pub no-reply : (k : ℕ) (s : List ℕ) → k ≡ 0 → (Err unread.NoReading) ≡ list_of (replied k s)
unfolding replied
no-reply k s e = rw e refl

-- whether it is one, and why not
pub list-told : {A : Type 0} (o : Option A) → ok_or (result_ok (list_of o)) unread.NoReading ≡ list_of o
list-told none = refl
list-told (some a) = refl

-- read by the readers, one after the other
pub record Paired (text : List ℕ) (at p : ℕ) : Type 0 where
  pub tree : Expr
  pub reads : commaed (drop at text) ≡ found tree (drop p text)

module _ {text ops ops' : List ℕ} {c : Cursor} where
  pub pair-none : (r : Made) → Makes (read relation) values text ops (Some (c, 0)) ops' r → KeyIs (number ",") text r None → commaed (drop c.at text) ≡ nothing
  pair-none None y k = then-nothing (read relation) (λ a. key "," (give a)) _ (unmade y)
  pair-none (Some (d, n)) y k = let g = got y in then_found (read relation) (λ a. key "," (give a)) _ g.reads ∙ comma-none k g.tree fail

  pub pair_found : (r : Made) {d : Cursor} {n : ℕ} → Makes (read relation) values text ops (Some (c, 0)) ops' r → KeyIs (number ",") text r (Some (d, n)) → Paired text c.at d.at
  pair_found None y (there k) = absurd (omega (arith, (stood-over k).low))
  pair_found (Some (e, n)) y k =
      let g = got y in record { tree = g.tree; reads = then_found (read relation) (λ a. key "," (give a)) _ g.reads ∙ comma-there k g.tree fail }

-- One relation, and the comma if it is there
empty : {a : Expr} {t : List ℕ} → read relation [] ≡ found a t → ⊥
empty {a} {t} e = omega (arith, (relation-over (relation-sound [] t a e)).short)

-- a relation is found within the text only
inside : (text : List ℕ) (at : ℕ) {a : Expr} {t : List ℕ} → read relation (drop at text) ≡ found a t → at ≤ length text
inside text at e = go (leb at (length text)) refl
  where
    go : (b : Bool) → leb at (length text) ≡ b → at ≤ length text
    go true h = leb-true at (length text) h
    go false h = let l = leb-false at (length text) h in absurd (empty (rw (drop_of_length-le text {i = at} (omega arith)) at e))

back : (text : List ℕ) (p : ℕ) → p ≤ length text → p ≡ length text - length (drop p text)
back text p h = omega (arith, length-drop p text)

module _ {text ops ops' : List ℕ} {c d : Cursor} {n : ℕ} (y : Makes (read relation) values text ops (Some (c, 0)) ops' (Some (d, n))) where
  -- as it was read, up to a position of the text
  replied-at : {p : Cursor} → ((a : Expr) → may "," (give a) (drop d.at text) ≡ found a (drop p.at text)) → p.at ≤ length text
      → (Ok (n, p) ≡ relation_of (length text) (replying (drop c.at text))) × (ops' ≡ relation_ops ops (replying (drop c.at text)))
  replied-at {p} k h =
      let g = got y in
      let e : replying (drop c.at text) ≡ found g.tree (drop p.at text) = then_found (read relation) (λ a. may "," (give a)) _ g.reads ∙ k g.tree in
      let m : n ≡ length (values g.tree) = g.wrote.pos ∙ omega arith in (
        ap (λ (q : ℕ). Ok (q, p)) m ∙ ap (λ (q : ℕ). Ok ((length (values g.tree)), (record { at = q }))) (back text p.at h) ∙ sym (ap (relation_of (length text)) e),
        g.wrote.buf ∙ sym (ap (relation_ops ops) e),
      )

  pub relation-comma : {p : Cursor} {m : ℕ} → KeyIs (number ",") text (Some (d, n)) (Some (p, m))
      → (Ok (n, p) ≡ relation_of (length text) (replying (drop c.at text))) × (ops' ≡ relation_ops ops (replying (drop c.at text)))
  relation-comma k = replied-at (λ a. comma-there k a (give a)) (comma-within k)

  pub relation-bare : KeyIs (number ",") text (Some (d, n)) None
      → (Ok (n, d) ≡ relation_of (length text) (replying (drop c.at text))) × (ops' ≡ relation_ops ops (replying (drop c.at text)))
  relation-bare k = let g = got y in replied-at (λ a. comma-none k a (give a)) (g.high (inside text c.at g.reads))

pub relation-none : (text : List ℕ) (c : Cursor) {ops ops' : List ℕ} → Makes (read relation) values text ops (Some (c, 0)) ops' None → replying (drop c.at text) ≡ nothing
relation-none text c y = then-nothing (read relation) (λ a. may "," (give a)) _ (unmade y)
