-- A run of a box is the same whatever stands in the bytes that it may not read. Assumes nothing.
use Prim.Native.Nat.{ℕ, suc}
use Rattle.std.specs.Prelude.{Option as Opt, Some, None}
use Rattle.nibl.specs.declared.Place.{Place}
use mathlib.Core.Path.{◌≡◌, refl, ap, subst}
use mathlib.Core.List.{List, [], ◌∷◌}
use mathlib.Core.Option.{Option, none, some}
use mathlib.Core.Logic.{inl}
use lib.Dec.{eqb}
use Rattle.nibl.specs.Tree.{Expr, Item, text, stored, value}
use Rattle.nibl.specs.Tree.{Stmt, let_var, let_stat, let_byte, let_text, let_copy, goto, gosub, return, print, if_then, do_loop, until, for, next, input, input_text, remark, end}
use Rattle.nibl.specs.Stack.{push_of, pop_of, push_for, pop_for}
use Rattle.nibl.specs.Record.{place, mark}
use Rattle.nibl.specs.Page.{find}
use Rattle.nibl.specs.Meaning.{World, Env, byte_of, string_at, store_at}
use Rattle.nibl.specs.Runs.{Fetched, fetch, run_from}
use Rattle.nibl.specs.Runs as runs
use Rattle.nibl.specs.declared.PlaceStack.{PlaceStack}
use Rattle.nibl.specs.declared.ForEntry.{ForEntry}
use Rattle.nibl.specs.declared.ForStack.{ForStack}
use Rattle.changes.specs.Alike.{Likeness, TopsAlike, ForTopsAlike, EntriesAlike, ResultsAlike, OptionsAlike, nothing, something, Each, no_more, one_more, FineItem, FineStmt, WorldsAlike, EnvsAlike, FetchedAlike, past, unread, here, RunsAlike}
use Rattle.changes.specs.Alike as A
use Rattle.changes.specs.Boxes.{Sees, Printed}
use Rattle.changes.proofs.Seen.{byte-seen, strings-seen, stores-seen, item-printed}
use Rattle.changes.proofs.AlikeRuns.{run-alike}

-- every expression will do
pub data Any : Expr → Type 0 where
  any : {a : Expr} → Any a

pub all_any : (es : List Expr) → Each Any es
all_any [] = no_more
all_any (a ∷ es) = one_more any (all_any es)

items-any : (items : List Item) → Each (FineItem Any) items
items-any [] = no_more
items-any (text bs ∷ items) = one_more A.a_text (items-any items)
items-any (stored a ∷ items) = one_more (A.a_stored any) (items-any items)
items-any (value a ∷ items) = one_more (A.a_value any) (items-any items)

pub any-stmt : (q : Stmt) → FineStmt Any q
any-stmt (let_var v a) = A.a_let_var any
any-stmt (let_stat a) = A.a_let_stat any
any-stmt (let_byte a b) = A.a_let_byte any any
any-stmt (let_text a bs) = A.a_let_text any
any-stmt (let_copy a b) = A.a_let_copy any any
any-stmt (goto a) = A.a_goto any
any-stmt (gosub a) = A.a_gosub any
any-stmt return = A.a_return
any-stmt (print items b) = A.a_print (items-any items)
any-stmt (if_then a q) = A.an_if any (any-stmt q)
any-stmt do_loop = A.a_do
any-stmt (until a) = A.an_until any
any-stmt (for v a b c) = A.a_for any any any
any-stmt (next v) = A.a_next
any-stmt (input vs) = A.an_input
any-stmt (input_text a) = A.an_input_text any
any-stmt remark = A.a_remark
any-stmt end = A.an_end

-- equal stacks are alike
pub tops-same : (t : Opt Place) → TopsAlike (λ (p q : ℕ). p ≡ q) t t
tops-same None = A.empty
tops-same (Some p) = A.places refl

pub for-tops-same : (t : Opt ForEntry) → ForTopsAlike (λ (p q : ℕ). p ≡ q) t t
for-tops-same None = A.empty
for-tops-same (Some f) = A.entries (record { var = refl; limit = refl; step = refl; place = refl })

pub same-entry : {f g : ForEntry} → EntriesAlike (λ (p q : ℕ). p ≡ q) f g → f ≡ g
same-entry h = λ i. record { var = h.var i; limit = h.limit i; step = h.step i; place = place (h.place i) }

pub found-same : (o : Option ℕ) → OptionsAlike (λ (p q : ℕ). p ≡ q) o o
found-same none = nothing
found-same (some q) = something refl

-- on one page, with one record: memories by M, and outputs in which the same is written from a on
module _ (M : List ℕ → List ℕ → Type 0) (a : ℕ) (lent lent' : List ℕ) where
  abbrev pub one_page : Likeness
  one_page =
      record {
        P = λ (p q : ℕ). p ≡ q;
        H = λ (p q : ℕ). p ≡ q;
        G = λ (s t : PlaceStack). s ≡ t;
        F = λ (s t : ForStack). s ≡ t;
        M = M;
        O = Printed a lent lent';
        Fine = Any;
        after = λ p q e. ap suc e;
        marks = λ p q e. ap (λ (n : ℕ). eqb n mark) e;
        push_ok = λ s t p q e h. λ i. (push_of (e i) (place (h i))).ok;
        push = λ s t p q e h. λ i. (push_of (e i) (place (h i))).stack;
        pop_top = λ s t e. subst (λ (u : PlaceStack). TopsAlike (λ (p q : ℕ). p ≡ q) (pop_of s).top (pop_of u).top) e (tops-same (pop_of s).top);
        pop = λ s t e. λ i. (pop_of (e i)).stack;
        push_for_ok = λ s t f g e h. λ i. (push_for (e i) (same-entry h i)).ok;
        push_fors = λ s t f g e h. λ i. (push_for (e i) (same-entry h i)).stack;
        pop_for_top = λ s t e. subst (λ (u : ForStack). ForTopsAlike (λ (p q : ℕ). p ≡ q) (pop_for s).top (pop_for u).top) e (for-tops-same (pop_for s).top);
        pop_fors = λ s t e. λ i. (pop_for (e i)).stack;
        out_long = λ p o o' h. h.long;
        out_put = λ p o o' bs h. item-printed a lent lent' p bs o o' h;
        of_byte = λ b h. any;
        of_not = λ b h. any;
        of_minus = λ b h. any;
        of_mod = λ b c h. (any, any);
        of_two = λ o b c h. (any, any);
      }

  fetched-same : (f : Fetched) → FetchedAlike one_page f f
  fetched-same runs.past = past
  fetched-same (runs.unread b) = unread refl
  fetched-same (runs.here x) = here (record { statement = refl; fine = any-stmt x.statement; line = refl; place = refl; cr = refl })

  pub fetches-same : (page : List ℕ) (q q' : ℕ) → q ≡ q' → FetchedAlike one_page (fetch page q) (fetch page q')
  fetches-same page q q' p = subst (λ (z : ℕ). FetchedAlike one_page (fetch page q) (fetch page z)) p (fetched-same (fetch page q))

  -- one environment, where M is kept by reads and stores
  pub same-page : (e : Env) → ((m m' : List ℕ) → M m m' → (p : ℕ) → byte_of e.sight.access m p ≡ byte_of e.sight.access m' p)
      → ((m m' : List ℕ) → M m m' → (p : ℕ) → string_at e.sight.access m p ≡ string_at e.sight.access m' p)
      → ((m m' : List ℕ) → M m m' → (p : ℕ) (bs : List ℕ) → ResultsAlike M (store_at e.sight.access m p bs) (store_at e.sight.access m' p bs))
      → EnvsAlike one_page (λ i. ⊥) e e
  same-page e f g h =
      record {
        sense = refl;
        gathers = λ i. inl refl;
        longs = λ i n. absurd n;
        replies = λ i n g es p q. all_any es;
        finds = λ n. found-same (find e.page n);
        tops = λ t. refl;
        bytes = f;
        strings = g;
        stores = h;
        here = refl;
      }

-- two memories that the box sees alike
module _ (a : ℕ) (lent lent' : List ℕ) (e : Env) where
  abbrev pub seen_by : Likeness
  seen_by = one_page (Sees e.sight.access) a lent lent'

  pub seen : EnvsAlike seen_by (λ i. ⊥) e e
  seen = same-page (Sees e.sight.access) a lent lent' e (byte-seen e.sight.access) (strings-seen e.sight.access) (stores-seen e.sight.access)

  -- "What a box answers, prints and keeps may depend on .. its own range and the shared range, and on nothing else", of a run
  pub run-of-a-box : (k i q : ℕ) (w w' : World) → WorldsAlike seen_by i w w' → RunsAlike seen_by (λ j. ⊥) e i (run_from k e q w) (run_from k e q w')
  run-of-a-box k i q w w' r = run-alike seen_by (λ j. ⊥) e e seen (fetches-same (Sees e.sight.access) a lent lent' e.page) k i q q w w' refl r
