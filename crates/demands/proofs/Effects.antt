-- A statement does nothing but what the list of effects has. Assumes nothing.
use Rattle.std.specs.Prelude.{if◌then◌else◌}
use Rattle.std.specs.Prelude.{Option as Opt, Some, None}
use Rattle.nibl.specs.declared.ForEntry.{ForEntry}
use Rattle.nibl.specs.declared.Place.{Place}
use Prim.Native.Nat.{ℕ, suc, ◌+◌, ◌≤◌}
use mathlib.Core.Path.{◌≡◌, refl, ap}
use mathlib.Core.Bool.{Bool, true, false, not, ◌||◌}
use mathlib.Core.List.{List, [], ◌∷◌, ◌++◌}
use mathlib.Core.Option.{Option, none, some}
use native.Mathlib.Omega.{arith}
use lib.ListN.{length, get_or, drop}
use lib.Seq.{sets, length-sets}
use lib.Dec.{ltb, leb, eqb}
use borrow.Author.Tests.{leb-true, eq-eqb, eqb-true}
use Rattle.nibl.specs.Bytes.{bytes}
use Rattle.nibl.specs.Tree.{Op, times, divided_by, and_bits, plus, minus, or_bits, equal, less, greater, at_most, at_least, unequal}
use Rattle.nibl.specs.Tree.{Expr, var, const, stat, top, byte_at, invert, negate, modulo, two}
use Rattle.nibl.specs.Tree.{Item, text, stored, value}
use Rattle.nibl.specs.Tree.{Stmt, let_var, let_stat, let_byte, let_copy, let_text, goto, gosub, until, return, do_loop, remark, end, print, if_then, for, next, input, input_text}
use Rattle.nibl.specs.found.Read.{replied}
use Rattle.nibl.specs.Values.{Result, is, no, Value, apply, mod16, quotient16, remainder16, printed}
use Rattle.nibl.specs.Stack.{push_of, pop_of, push_for, pop_for}
use Rattle.nibl.specs.Typing.{Gathered, gather}
use Rattle.nibl.specs.Page.{Stored, is_among, find}
use Rattle.nibl.specs.Meaning.{World, Env, on, skip, go, stop, Done, done, with_session, with_inpos, with_output, bind, given, went, byte_of, string_from, string_at, store_at, eval, put, put_item, put_items, put_end, keep_in, line_there, gosub_to, return_by, do_here, until_by, for_here, goes_on, next_by, gathered, asked, assign, assign_reply, exec}
use Rattle.nibl.specs.Record.{with_var, place}
use Rattle.nibl.specs.Access.{may_read, may_write}
use Rattle.nibl.specs.declared.access.Access.{Access}
use Rattle.nibl.specs.Calls.{listed, list_from}
use Rattle.demands.specs.Items.{In, first, further, item_bytes, ItemOf, of_print, end_of_print, of_input, of_input_text, of_if, ListItem, of_record}
use Rattle.record.specs.Fors.{for_vars}
use Rattle.demands.proofs.Does.{refusals, GivesVariables, gave, refused, gives, Does, writes, takes, refuses, passes, skips, assigns, assigns_flags, stores, goes_to, saves, returns, loops, repeats, leaves, begins, again, finishes, inputs}

abbrev pub all_in : List ℕ → List ℕ → Bool
all_in [] ns = true
all_in (m ∷ ms) ns = elim (is_among ns m) [ true ↦ all_in ms ns | false ↦ false ]

-- a number of one list is one of another that holds all of it
pub widen : (ms ns : List ℕ) → all_in ms ns ≡ true → (n : ℕ) → is_among ms n ≡ true → is_among ns n ≡ true
widen [] ns h n g = let z : ◌≡◌ {A = ℕ} 0 1 = cc in absurd (omega arith)
widen (m ∷ ms) ns h n g = by (λ h g. widen ms ns h n g) (is_among ns m) refl h (eqb n m) refl g where
  by : (all_in ms ns ≡ true → is_among ms n ≡ true → is_among ns n ≡ true) → (b : Bool) → is_among ns m ≡ b → (elim b [ true ↦ all_in ms ns | false ↦ false ]) ≡ true
      → (c : Bool) → eqb n m ≡ c → (c || is_among ms n) ≡ true → is_among ns n ≡ true
  by f true i h true e g = rw (eqb-true n m e) i
  by f true i h false e g = f h g
  by f false i h c e g = let z : ◌≡◌ {A = ℕ} 0 1 = cc in absurd (omega arith)

-- what a value, a line, a byte or a string that was asked for may be refused with
abbrev pub value_refusals : List ℕ
value_refusals = 8 ∷ 13 ∷ 16 ∷ 21 ∷ []

pub data GivesOrRefuses {A : Type 0} : Result A → Type 0 where
  given' : {a : A} → GivesOrRefuses (is a)
  refused' : {n : ℕ} → is_among value_refusals n ≡ true → GivesOrRefuses (no n)

value-refusal : (n : ℕ) → is_among value_refusals n ≡ true → is_among refusals n ≡ true
value-refusal n h = widen value_refusals refusals refl n h

module _ {A B : Type 0} where
  pub bind-known : (r : Result A) (k : A → Result B) → GivesOrRefuses r → ((a : A) → GivesOrRefuses (k a)) → GivesOrRefuses (bind r k)
  bind-known (is a) k h f = f a
  bind-known (no n) k (refused' h) f = refused' h

module _ {A : Type 0} where
  choice-known : (b : Bool) (r q : Result A) → GivesOrRefuses r → GivesOrRefuses q → GivesOrRefuses (if b then r else q)
  choice-known true r q h g = h
  choice-known false r q h g = g

apply-known : (o : Op) (a b : ℕ) → GivesOrRefuses (apply o a b)
unfolding apply
apply-known times a b = given'
apply-known divided_by a b = choice-known (eqb b 0) (no 13) (is (quotient16 a b)) (refused' refl) given'
apply-known and_bits a b = given'
apply-known plus a b = given'
apply-known minus a b = given'
apply-known or_bits a b = given'
apply-known equal a b = given'
apply-known less a b = given'
apply-known greater a b = given'
apply-known at_most a b = given'
apply-known at_least a b = given'
apply-known unequal a b = given'

mod-known : (a b : ℕ) → GivesOrRefuses (mod16 a b)
unfolding mod16
mod-known a b = choice-known (eqb b 0) (no 13) (is (remainder16 a b)) (refused' refl) given'

byte-known : (x : Access) (m : List ℕ) (a : ℕ) → GivesOrRefuses (byte_of x m a)
unfolding byte_of
byte-known x m a = choice-known (not (ltb a (length m))) (no 16) _ (refused' refl) (choice-known (may_read x a) (is (get_or m a 0)) (no 21) given' (refused' refl))

string-from-known : (x : Access) (a : ℕ) (s : List ℕ) → GivesOrRefuses (string_from x a s)
unfolding string_from
string-from-known x a [] = refused' refl
string-from-known x a (b ∷ s) =
    choice-known (not (may_read x a)) (no 21) _ (refused' refl)
    (choice-known (eqb b 13) (is []) _ given' (bind-known (string_from x (suc a) s) _ (string-from-known x (suc a) s) (λ bs. given')))

pub string-known : (x : Access) (m : List ℕ) (a : ℕ) → GivesOrRefuses (string_at x m a)
unfolding string_at
string-known x m a = string-from-known x a (drop a m)

pub eval-known : (e : Env) (w : World) (a : Expr) → GivesOrRefuses (eval e w a)
unfolding eval
eval-known e w (var v) = given'
eval-known e w (const n) = given'
eval-known e w stat = given'
eval-known e w top = given'
eval-known e w (byte_at a) = bind-known (eval e w a) _ (eval-known e w a) (byte-known e.sight.access w.memory)
eval-known e w (invert a) = bind-known (eval e w a) _ (eval-known e w a) (λ x. given')
eval-known e w (negate a) = bind-known (eval e w a) _ (eval-known e w a) (λ x. given')
eval-known e w (modulo a b) = bind-known (eval e w a) _ (eval-known e w a) (λ x. bind-known (eval e w b) _ (eval-known e w b) (mod-known x))
eval-known e w (two o a b) = bind-known (eval e w a) _ (eval-known e w a) (λ x. bind-known (eval e w b) _ (eval-known e w b) (apply-known o x))

pub went-went : (d : Done) (k j : World → Done) → went (went d k) j ≡ went d (λ w. went (k w) j)
went-went (done on w) k j = refl
went-went (done skip w) k j = refl
went-went (done (go q) w) k j = refl
went-went (done (stop n) w) k j = refl

pub given-went : {A : Type 0} (r : Result A) (w : World) (k : A → Done) (j : World → Done) → went (given r w k) j ≡ given r w (λ a. went (k a) j)
given-went (is a) w k j = refl
given-went (no n) w k j = refl

pub store-known : (x : Access) (m : List ℕ) (a : ℕ) (bs : List ℕ) → GivesOrRefuses (store_at x m a bs)
unfolding store_at
store-known x m a bs = choice-known (not (leb (a + length bs) (length m))) (no 16) _ (refused' refl) (choice-known (may_write x a (length bs)) (is _) (no 21) given' (refused' refl))

pub line_known : (o : Option ℕ) → GivesOrRefuses (line_there o)
line_known none = refused' refl
line_known (some q) = given'

module _ (e : Env) (vs : List ℕ) (W : List ℕ → Type 0) where
  module _ {A : Type 0} where
    -- what follows a value that is there
    given-does : (r : Result A) (w : World) (k : A → Done) → GivesOrRefuses r → ((a : A) → r ≡ is a → Does e vs W w (k a)) → Does e vs W w (given r w k)
    given-does (is a) w k h f = f a refl
    given-does (no n) w k (refused' h) f = refuses (value-refusal n h)

  -- an item, and what follows it
  put-does : (bs : List ℕ) → W bs → (w : World) (k : World → Done) → ((u : World) → Does e vs W u (k u)) → Does e vs W w (went (put bs w) k)
  unfolding put
  put-does bs i w k f = go (leb (w.outpos + length bs) (length w.output)) refl where
    u : World
    u = with_output w (sets w.output w.outpos bs) (w.outpos + length bs)

    go : (b : Bool) → leb (w.outpos + length bs) (length w.output) ≡ b → Does e vs W w (went (if b then done on u else done (stop 17) w) k)
    go true h = writes bs i (leb-true _ _ h) (f u)
    go false h = refuses refl

  put_last : (bs : List ℕ) → W bs → (w : World) → Does e vs W w (put bs w)
  unfolding put
  put_last bs i w = go (leb (w.outpos + length bs) (length w.output)) refl where
    u : World
    u = with_output w (sets w.output w.outpos bs) (w.outpos + length bs)

    go : (b : Bool) → leb (w.outpos + length bs) (length w.output) ≡ b → Does e vs W w (if b then done on u else done (stop 17) w)
    go true h = writes bs i (leb-true _ _ h) passes
    go false h = refuses refl

  item-does : (i : Item) (w : World) → ((bs : List ℕ) → item_bytes e w i ≡ is bs → W bs) → (k : World → Done) → ((u : World) → Does e vs W u (k u)) → Does e vs W w (went (put_item e i w) k)
  unfolding put_item
  item-does (text bs) w n k f = put-does bs (n bs refl) w k f
  item-does (stored a) w n k f =
      rw (given-went (bind (eval e w a) (string_at e.sight.access w.memory)) w (λ bs. put bs w) k)
      (given-does _ w _ (bind-known (eval e w a) _ (eval-known e w a) (string-known e.sight.access w.memory)) (λ bs h. put-does bs (n bs h) w k f))
  item-does (value a) w n k f = rw (given-went (eval e w a) w (λ x. put (printed x) w) k) (given-does _ w _ (eval-known e w a) (λ x h. put-does (printed x) (n (printed x) (ap (λ r. bind r (λ y. is (printed y))) h)) w k f))

  items-do : (is' : List Item) → ((i : Item) → In i is' → (u : World) (bs : List ℕ) → item_bytes e u i ≡ is bs → W bs) → (w : World) (k : World → Done) → ((u : World) → Does e vs W u (k u)) → Does e vs W w (went (put_items e is' w) k)
  unfolding put_items
  items-do [] n w k f = f w
  items-do (i ∷ is') n w k f = rw (went-went (put_item e i w) (put_items e is') k) (item-does i w (n i first w) (λ u. went (put_items e is' u) k) (λ u. items-do is' (λ j m. n j (further m)) u k f))

  end-does : (b : Bool) → (b ≡ false → W (13 ∷ 10 ∷ [])) → (w : World) → Does e vs W w (put_end b w)
  end-does true n w = passes
  end-does false n w = put_last (13 ∷ 10 ∷ []) (n refl) w

  keep-does : (w : World) (r : Result (List ℕ)) → GivesOrRefuses r → ((m : List ℕ) → r ≡ is m → length m ≡ length w.memory) → Does e vs W w (keep_in w r)
  unfolding keep_in
  keep-does w r h f = given-does r w _ h (λ m g. stores m (f m g))

  kept-length : (x : Access) (m : List ℕ) (a : ℕ) (bs : List ℕ) (l : List ℕ) → store_at x m a bs ≡ is l → length l ≡ length m
  unfolding store_at
  kept-length x m a bs l = go (leb (a + length bs) (length m)) (may_write x a (length bs)) where
    go : (b c : Bool) → (if not b then no 16 else if c then is (sets m a bs) else no 21) ≡ is l → length l ≡ length m
    go true true h = let g : l ≡ sets m a bs = cc in rw g (length-sets m a bs)
    go true false h = let z : ◌≡◌ {A = ℕ} 0 1 = cc in absurd (omega arith)
    go false c h = let z : ◌≡◌ {A = ℕ} 0 1 = cc in absurd (omega arith)

  copy-length : (x : Access) (m : List ℕ) (r : Result (List ℕ)) (a : ℕ) (l : List ℕ) → bind r (λ bs. store_at x m a (bs ++ (13 ∷ []))) ≡ is l → length l ≡ length m
  copy-length x m (is bs) a l h = kept-length x m a (bs ++ (13 ∷ [])) l h
  copy-length x m (no n) a l h = let z : ◌≡◌ {A = ℕ} 0 1 = cc in absurd (omega arith)

  line-there : (o : Option ℕ) (q : ℕ) → line_there o ≡ is q → o ≡ some q
  line-there none q h = let z : ◌≡◌ {A = ℕ} 0 1 = cc in absurd (omega arith)
  line-there (some p) q h = let g : p ≡ q = cc in ap some g

  -- to a line that is there
  to-line : (r : Value) (w : World) (k : ℕ → Done) → GivesOrRefuses r → ((n q : ℕ) → find e.page n ≡ some q → Does e vs W w (k q))
      → Does e vs W w (given (bind r (λ n. line_there (find e.page n))) w k)
  to-line (is n) w k h f = given-does _ w k (line_known (find e.page n)) (λ q g. f n q (line-there (find e.page n) q g))
  to-line (no n) w k (refused' h) f = refuses (value-refusal n h)

  choice-does : (b : Bool) (w : World) (d f : Done) → (b ≡ true → Does e vs W w d) → (b ≡ false → Does e vs W w f) → Does e vs W w (if b then d else f)
  choice-does true w d f h g = h refl
  choice-does false w d f h g = g refl

  gosub-does : (w : World) (n q : ℕ) → find e.page n ≡ some q → Does e vs W w (gosub_to e w q)
  unfolding gosub_to
  gosub-does w n q h = choice-does (push_of w.session.gosubs (place e.here)).ok w _ _ (saves n h) (λ g. refuses refl)

  return-does : (w : World) (t : Opt Place) → (pop_of w.session.gosubs).top ≡ t → Does e vs W w (return_by w t)
  unfolding return_by
  return-does w None h = refuses refl
  return-does w (Some p) h = returns p h

  do-does : (w : World) → Does e vs W w (do_here e w)
  unfolding do_here
  do-does w = choice-does (push_of w.session.dos (place e.here)).ok w _ _ loops (λ g. refuses refl)

  until-does : (w : World) (x : ℕ) (t : Opt Place) → (pop_of w.session.dos).top ≡ t → Does e vs W w (until_by w x t)
  unfolding until_by
  until-does w x None h = refuses refl
  until-does w x (Some p) h = choice-does (eqb x 0) w _ _ (λ g. repeats p h) (λ g. leaves p h)

  for-does : (w : World) (v x y z : ℕ) → is_among vs v ≡ true → Does e vs W w (for_here e w v x y z)
  unfolding for_here
  for-does w v x y z l =
      choice-does (push_for w.session.fors (record { var = v; limit = y; step = z; place = place e.here })).ok w _ _ (begins v x y z l) (λ g. refuses refl)

  next-does : (w : World) (v : ℕ) (t : Opt ForEntry) → (pop_for w.session.fors).top ≡ t → Does e vs W w (next_by w v t)
  unfolding next_by
  next-does w v None h = refuses refl
  next-does w v (Some f) h =
      choice-does (not (eqb f.var v)) w _ _ (λ g. refuses refl) (λ g. choice-does (goes_on f.step _ f.limit) w _ _ (again v f h) (finishes v f h))

  -- a line is asked for, and taken unless there is none
  gathered-does : (w : World) (o : Option Gathered) (k : World → List ℕ → Done) → gather e.lim (drop w.inpos e.input) ≡ o
      → ((u : World) (bs : List ℕ) → Does e vs W u (k u bs)) → Does e vs W w (gathered w o k)
  unfolding gathered
  gathered-does w none k h f = refuses refl
  gathered-does w (some g) k h f = takes g h (by g.line.long) where
    u : World
    u = with_inpos w (w.inpos + g.taken)

    by : (b : Bool) → Does e vs W u (elim b [ true ↦ done (stop 6) u | false ↦ k u g.line.bytes ])
    by true = refuses refl
    by false = f u g.line.bytes

  asked-does : W (bytes "?") → (w : World) (k : World → List ℕ → Done) → ((u : World) (bs : List ℕ) → Does e vs W u (k u bs)) → Does e vs W w (asked e w k)
  unfolding asked
  asked-does n w k f = put-does (bytes "?") n w _ (λ u. gathered-does u (gather e.lim (drop u.inpos e.input)) k refl f)

  assign-gives : (us : List ℕ) (es : List Expr) (w : World) → GivesVariables w (assign e us es w)
  unfolding assign
  assign-gives [] es w = gave
  assign-gives (v ∷ us) [] w = gave
  assign-gives (v ∷ us) (a ∷ es) w = by (λ u. assign-gives us es u) (eval e w a) (eval-known e w a) where
    by : ((u : World) → GivesVariables u (assign e us es u)) → (r : Value) → GivesOrRefuses r
        → GivesVariables w (given r w (λ x. assign e us es (with_session w (with_var w.session v x))))
    by f (is x) h = gives v x (f _)
    by f (no n) (refused' h) = refused (value-refusal n h)

  reply-does : (us : List ℕ) (w : World) (o : Option (List Expr)) → Does e vs W w (assign_reply e us w o)
  reply-does us w none = refuses refl
  reply-does us w (some es) = inputs (assign-gives us es w)

  among : (v : ℕ) → v ∷ [] ≡ vs → is_among vs v ≡ true
  among v h = rw (← h) (rw (eq-eqb v v refl) refl)

  exec_in : (q : Stmt) → for_vars q ≡ vs → ((bs : List ℕ) → ItemOf e q bs → W bs) → (w : World) → Does e vs W w (exec e q w)
  unfolding exec
  exec_in (let_var v a) l n w = given-does (eval e w a) w _ (eval-known e w a) (λ x h. assigns v x)
  exec_in (let_stat a) l n w = given-does (eval e w a) w _ (eval-known e w a) (λ x h. assigns_flags x)
  exec_in (let_byte a b) l n w =
      given-does (eval e w a) w _ (eval-known e w a) (λ p h. given-does (eval e w b) w _ (eval-known e w b) (λ x g.
      keep-does w _ (store-known e.sight.access w.memory p _) (kept-length e.sight.access w.memory p _)))
  exec_in (let_copy a b) l n w =
      given-does (eval e w a) w _ (eval-known e w a) (λ p h. given-does (eval e w b) w _ (eval-known e w b) (λ q g.
      keep-does w _ (bind-known (string_at e.sight.access w.memory q) _ (string-known e.sight.access w.memory q) (λ bs. store-known e.sight.access w.memory p _)) (copy-length e.sight.access w.memory (string_at e.sight.access w.memory q) p)))
  exec_in (let_text a bs) l n w =
      given-does (eval e w a) w _ (eval-known e w a) (λ p h. keep-does w _ (store-known e.sight.access w.memory p _) (kept-length e.sight.access w.memory p _))
  exec_in (goto a) l n w = to-line (eval e w a) w _ (eval-known e w a) (λ n q h. goes_to n h)
  exec_in (gosub a) l n w = to-line (eval e w a) w _ (eval-known e w a) (gosub-does w)
  exec_in (until a) l n w = given-does (eval e w a) w _ (eval-known e w a) (λ x h. until-does w x _ refl)
  exec_in return l n w = return-does w _ refl
  exec_in do_loop l n w = do-does w
  exec_in remark l n w = passes
  exec_in end l n w = refuses refl
  exec_in (print is' b) l n w = items-do is' (λ i m u bs h. n bs (of_print i u m h)) w _ (end-does b (λ h. n _ (end_of_print h)))
  exec_in (if_then a q) l n w = given-does (eval e w a) w _ (eval-known e w a) (λ x h. by (exec_in q l (λ bs m. n bs (of_if m)) w) (eqb x 0)) where
    by : Does e vs W w (exec e q w) → (b : Bool) → Does e vs W w (elim b [ true ↦ done skip w | false ↦ exec e q w ])
    by f true = skips
    by f false = f
  exec_in (for v a b c) l n w =
      given-does (eval e w a) w _ (eval-known e w a) (λ x h. given-does (eval e w b) w _ (eval-known e w b) (λ y g.
      given-does (eval e w c) w _ (eval-known e w c) (λ z f. for-does w v x y z (among v l))))
  exec_in (next v) l n w = next-does w v _ refl
  exec_in (input us) l n w = asked-does (n _ of_input) w _ (λ u bs. reply-does us u (replied (length us) bs))
  exec_in (input_text a) l n w =
      given-does (eval e w a) w _ (eval-known e w a) (λ p h. asked-does (n _ of_input_text) w _ (λ u bs. keep-does u _ (store-known e.sight.access u.memory p _) (kept-length e.sight.access u.memory p _)))

-- LIST writes its lines
list-in : (e : Env) (vs : List ℕ) (W : List ℕ → Type 0) (n : ℕ) (rs : List Stored) → ((r : Stored) → In r rs → n ≤ r.line → W (listed r)) → (w : World) → Does e vs W w (list_from n rs w)
unfolding list_from
list-in e vs W n [] m w = passes
list-in e vs W n (r ∷ rs) m w = by (λ u. list-in e vs W n rs (λ q i. m q (further i)) u) (leb n r.line) refl where
  by : ((u : World) → Does e vs W u (list_from n rs u)) → (b : Bool) → leb n r.line ≡ b
      → Does e vs W w (elim b [ true ↦ went (put (listed r) w) (list_from n rs) | false ↦ list_from n rs w ])
  by f true h = put-does e vs W (listed r) (m r first (leb-true _ _ h)) w (list_from n rs) f
  by f false h = f w

pub list-does : (e : Env) (vs : List ℕ) (n : ℕ) (rs : List Stored) (w : World) → Does e vs (ListItem n rs) w (list_from n rs w)
list-does e vs n rs w = list-in e vs (ListItem n rs) n rs (λ r i h. of_record r i h) w

-- with the variable that its FOR names, and the items that it may write
pub exec-does : (e : Env) (q : Stmt) (w : World) → Does e (for_vars q) (ItemOf e q) w (exec e q w)
exec-does e q w = exec_in e (for_vars q) (ItemOf e q) q refl (λ bs i. i) w
