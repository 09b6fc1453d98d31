-- A reply's relations in turn: the first of them is what one reading gives, and the rest of the text holds the others. Assumes nothing.
use Rattle.std.specs.Prelude.{if◌then◌else◌}
use Rattle.std.specs.Prelude.{Result, Ok, Err, is_ok}
use Rattle.reader.specs.declared.Unread.{Unread}
use Rattle.reader.specs.declared.Unread.TheVariants as unread
use Prim.Native.Nat.{ℕ, zero, suc, ◌+◌, ◌-◌, ◌≤◌}
use mathlib.Core.Path.{◌≡◌, refl, sym, ap, ◌∙◌}
use mathlib.Core.Bool.{true, false, false≢true}
use mathlib.Core.List.{List, []}
use mathlib.Core.Option.{Option, none, some}
use native.Mathlib.Omega.{arith}
use lib.ListN.{length, take, drop, length-drop}
use lib.Seq.{drop-drop}
use Rattle.nibl.specs.Tree.{Expr}
use Rattle.nibl.specs.Grammar.{Key, Relation, Reply, last_reply, enough, more_reply}
use Rattle.nibl.specs.found.Read.{found, give, may, read, relation, cons_some, replied}
use Rattle.nibl.proofs.Over.{Over, ◌⨾◌, word_over, outside-passed, passed-rest}
use Rattle.nibl.proofs.Rules.{W}
use Rattle.nibl.proofs.Sound.{relation-over}
use Rattle.nibl.proofs.Next.{is_key, next-at, next-spaces, key-at, key-not, then_at}
use Rattle.nibl.proofs.Complete.{goes_on, relation-complete}
use Rattle.nibl.proofs.Lines.{replied-sound}
use Rattle.nibl.proofs.Whole.{replied-complete}
use Rattle.word.specs.declared.Cursor.{Cursor}
use Rattle.relation.specs.Code.{values}
use Rattle.reader.specs.Answers.{has_room}
use Rattle.line.specs.Answers.{list_of, replying, relation_of, relation_ops}
use Rattle.line.proofs.Codes.{written-front}
use Rattle.line.proofs.Lists.{room_for}
use Rattle.line.proofs.Short.{relation-short}

-- the relations that a text holds for k more variables
unfoldable pub left_of : ℕ → List ℕ → Option (List Expr)
left_of zero s = some []
left_of (suc k) s = replied (suc k) s

pub none_left : (s : List ℕ) → left_of 0 s ≡ some []
unfolding left_of
none_left s = refl

-- at first they are the reply's
pub all_left : (n : ℕ) (s : List ℕ) → list_of (replied n s) ≡ Ok tt → left_of n s ≡ replied n s
unfolding left_of replied
all_left zero s h = let z : ◌≡◌ {A = ℕ} 0 1 = cc in absurd (omega arith)
all_left (suc k) s h = refl

-- the first of them, and what follows it and its comma
record First (k : ℕ) (s : List ℕ) : Type 0 where
  tree : Expr
  rest : List ℕ
  reads : replying s ≡ found tree rest
  over : Over s rest
  few : length (values tree) ≤ length s
  goes : left_of (suc k) s ≡ cons_some tree (left_of k rest)

comma-reads : {s t u : List ℕ} {a : Expr} → Relation W s a t → Key W "," t u → replying s ≡ found a u
comma-reads r k = then_at (read relation) (λ b. may "," (give b)) _ (relation-complete r (next-at goes_on k)) ∙ key-at "," _ _ k

first_of : {k : ℕ} {s : List ℕ} {es : List Expr} → Reply W (suc k) s es → First k s
unfolding left_of
first_of (last_reply {s} {t} {a} r b) =
    record {
      tree = a;
      rest = t;
      reads = then_at (read relation) (λ b. may "," (give b)) s (relation-complete r (next-spaces goes_on b)) ∙ key-not "," _ _ t (next-spaces (is_key ",") b);
      over = relation-over r;
      few = omega (arith, relation-short r);
      goes = replied-complete (last_reply r b);
    }
first_of (enough {u} {a} r k) =
    record { tree = a; rest = u; reads = comma-reads r k; over = relation-over r ⨾ word_over k; few = omega (arith, relation-short r); goes = replied-complete (enough r k) }
first_of (more_reply {u} {a} r k es) =
    record {
      tree = a;
      rest = u;
      reads = comma-reads r k;
      over = relation-over r ⨾ word_over k;
      few = omega (arith, relation-short r);
      goes = replied-complete (more_reply r k es) ∙ sym (ap (cons_some a) (replied-complete es));
    }

first-left : (k : ℕ) (s : List ℕ) (o : Option (List Expr)) → replied (suc k) s ≡ o → list_of o ≡ Ok tt → First k s
first-left k s none e h = let z : ◌≡◌ {A = ℕ} 0 1 = cc in absurd (omega arith)
first-left k s (some es) e h = first_of (replied-sound (suc k) s es e)

-- The operations of one stand in a list, and what follows it begins at a cursor
pub record InTurn (k : ℕ) (text : List ℕ) (at : ℕ) (ops : List ℕ) (n : ℕ) (c : Cursor) : Type 0 where
  pub tree : Expr
  pub few : n ≤ length text
  pub wrote : take n ops ≡ values tree
  pub goes : left_of (suc k) (drop at text) ≡ cons_some tree (left_of k (drop c.at text))

-- What the promise of `reply_relation` says where relations are left
module _ (text ops : List ℕ) (at k : ℕ) (r : Result (ℕ × Cursor) Unread) (h : has_room text ops ≡ true) (left : list_of (left_of (suc k) (drop at text)) ≡ Ok tt)
    (e : r ≡ (if has_room text ops then relation_of (length text) (replying (drop at text)) else (Err unread.NoRoom))) where
  first : First k (drop at text)
  unfolding left_of
  first = first-left k (drop at text) (replied (suc k) (drop at text)) refl left

  answered : r ≡ Ok ((length (values first.tree)), (record { at = length text - length first.rest }))
  answered = e ∙ rw h (ap (relation_of (length text)) first.reads)

  -- one is read
  pub one-read : is_ok r ≡ false → ⊥
  one-read t = false≢true (sym t ∙ ap is_ok answered)

  rest_at : first.rest ≡ drop (length text - length first.rest) text
  rest_at =
      let s = drop at text in
      let t = first.rest in
      let o = first.over in
      let l = length-drop at text in
      let i : at + (length s - length t) ≡ length text - length t = omega arith in
      sym (passed-rest (outside-passed o.out)) ∙ drop-drop (length s - length t) at text ∙ ap (λ (j : ℕ). drop j text) i

  pub in-turn : {ops' : List ℕ} {n : ℕ} {c : Cursor} → ops' ≡ (if has_room text ops then relation_ops ops (replying (drop at text)) else ops)
      → r ≡ Ok (n, c) → InTurn k text at ops' n c
  in-turn {ops'} {n} {c} w d =
      let f = first in
      let q : ◌≡◌ {A = ℕ × Cursor} (length (values f.tree), record { at = length text - length f.rest }) (n, c) = cc answered in
      let m : length (values f.tree) ≡ n = ap (λ (x : ℕ × Cursor). x.0) q in
      let p : length text - length f.rest ≡ c.at = ap (λ (x : ℕ × Cursor). x.1.at) q in
      let b = f.few in
      let l = length-drop at text in
      let room = room_for text ops h in
      record {
        tree = f.tree;
        few = omega arith;
        wrote = ap (take n) (w ∙ rw h (ap (relation_ops ops) f.reads)) ∙ written-front ops (values f.tree) n m (omega arith);
        goes = f.goes ∙ ap (λ (t : List ℕ). cons_some f.tree (left_of k t)) (rest_at ∙ ap (λ (j : ℕ). drop j text) p);
      }
