-- What a refusing statement leaves of the variables, and what it may be refused with. Assumes nothing.
use Rattle.std.specs.Prelude.{if◌then◌else◌}
use Rattle.std.specs.Prelude.{Option as Opt, Some, None}
use Rattle.nibl.specs.declared.ForEntry.{ForEntry}
use Rattle.nibl.specs.declared.Place.{Place}
use Prim.Native.Nat.{ℕ, suc, ◌+◌}
use mathlib.Core.Path.{◌≡◌, refl, sym, ◌∙◌}
use mathlib.Core.Bool.{Bool, true, false, not, true≢false}
use mathlib.Core.List.{List, [], ◌∷◌}
use mathlib.Core.Option.{Option, none, some}
use lib.ListN.{length, drop, set}
use lib.Seq.{sets}
use lib.Dec.{leb, eqb}
use Rattle.nibl.specs.Bytes.{bytes}
use Rattle.nibl.specs.Tree.{Expr, Item, text, stored, value}
use Rattle.nibl.specs.Tree.{Role, anywhere, in_loop, counts, asks_for, role_of}
use Rattle.nibl.specs.Tree.{Stmt, let_var, let_stat, let_byte, let_copy, let_text, goto, gosub, until, return, do_loop, remark, end, print, if_then, for, next, input, input_text}
use Rattle.nibl.specs.found.Read.{replied}
use Rattle.nibl.specs.Values.{Result, is, no, printed}
use Rattle.nibl.specs.Stack.{push_of, push_for}
use Rattle.nibl.specs.Typing.{Gathered, gather}
use Rattle.nibl.specs.Page.{Stored, is_among, find}
use Rattle.nibl.specs.Meaning.{World, Env, on, skip, go, stop, Done, done, with_session, with_inpos, with_output, bind, given, went, string_at, eval, put, put_item, put_items, put_end, keep_in, line_there, gosub_to, return_by, do_here, until_by, for_here, goes_on, next_by, gathered, asked, assign, assign_reply, exec}
use Rattle.nibl.specs.Record.{mark, with_var, place, position}
use Rattle.nibl.specs.Calls.{needs_program, listed, list_from}
use Rattle.demands.proofs.Does.{refusals}
use Rattle.demands.specs.Asks.{asks, input_vars, GivenIn, stay, give}
use Rattle.demands.proofs.Effects.{value_refusals, widen, GivesOrRefuses, refused', bind-known, string-known, store-known, line_known, eval-known, went-went, given-went}

-- 6 and 7 are INPUT's
abbrev pub quiet : List ℕ
quiet = 8 ∷ 9 ∷ 10 ∷ 11 ∷ 12 ∷ 13 ∷ 15 ∷ 16 ∷ 17 ∷ 20 ∷ 21 ∷ []

abbrev pub refusals_of : Bool → List ℕ
refusals_of true = refusals
refusals_of false = quiet

-- us are the variables that its INPUT names, b whether it has one, vars the variables before it
pub data Refusing (us : List ℕ) (b : Bool) (vars : List ℕ) : Done → Type 0 where
  goes : {w : World} → Refusing us b vars (done on w)
  skips : {w : World} → Refusing us b vars (done skip w)
  jumps : {w : World} {q : ℕ} → Refusing us b vars (done (go q) w)
  ends : {w : World} → Refusing us b vars (done (stop 0) w)
  refuses : {w : World} {n : ℕ} → is_among (refusals_of b) n ≡ true → GivenIn us vars w.session.vars → Refusing us b vars (done (stop n) w)

of_either : (b : Bool) (n : ℕ) → is_among quiet n ≡ true → is_among (refusals_of b) n ≡ true
of_either true n h = widen quiet refusals refl n h
of_either false n h = h

module _ (us : List ℕ) (b : Bool) where
  abbrev R : List ℕ → Done → Type 0
  R vars d = Refusing us b vars d

  -- refused before any variable is given
  refuse : (n : ℕ) (w : World) → is_among quiet n ≡ true → R w.session.vars (done (stop n) w)
  refuse n w h = refuses (of_either b n h) stay

  given-refuses : {A : Type 0} (r : Result A) (w : World) (k : A → Done) → GivesOrRefuses r → ((a : A) → R w.session.vars (k a)) → R w.session.vars (given r w k)
  given-refuses (is a) w k h f = f a
  given-refuses (no n) w k (refused' h) f = refuse n w (widen value_refusals quiet refl n h)

  choice : (c : Bool) (vars : List ℕ) (d f : Done) → R vars d → R vars f → R vars (if c then d else f)
  choice true vars d f h g = h
  choice false vars d f h g = g

  -- what follows an item
  put-refuses : (bs : List ℕ) (w : World) (k : World → Done) → ((u : World) → u.session ≡ w.session → R w.session.vars (k u)) → R w.session.vars (went (put bs w) k)
  unfolding put
  put-refuses bs w k f = by (leb (w.outpos + length bs) (length w.output)) where
    u : World
    u = with_output w (sets w.output w.outpos bs) (w.outpos + length bs)

    by : (c : Bool) → R w.session.vars (went (if c then done on u else done (stop 17) w) k)
    by true = f u refl
    by false = refuse 17 w refl

  again : (w u : World) (d : Done) → u.session ≡ w.session → R u.session.vars d → R w.session.vars d
  again w u d e h = rw (← e) h

  item-refuses : (e : Env) (i : Item) (w : World) (k : World → Done) → ((u : World) → u.session ≡ w.session → R w.session.vars (k u)) → R w.session.vars (went (put_item e i w) k)
  unfolding put_item
  item-refuses e (text bs) w k f = put-refuses bs w k f
  item-refuses e (stored a) w k f =
      rw (given-went (bind (eval e w a) (string_at e.sight.access w.memory)) w (λ bs. put bs w) k)
      (given-refuses _ w _ (bind-known (eval e w a) _ (eval-known e w a) (string-known e.sight.access w.memory)) (λ bs. put-refuses bs w k f))
  item-refuses e (value a) w k f =
      rw (given-went (eval e w a) w (λ x. put (printed x) w) k) (given-refuses _ w _ (eval-known e w a) (λ x. put-refuses (printed x) w k f))

  items-refuse : (e : Env) (is' : List Item) (w : World) (k : World → Done) → ((u : World) → u.session ≡ w.session → R w.session.vars (k u)) → R w.session.vars (went (put_items e is' w) k)
  unfolding put_items
  items-refuse e [] w k f = f w refl
  items-refuse e (i ∷ is') w k f =
      rw (went-went (put_item e i w) (put_items e is') k)
      (item-refuses e i w (λ u. went (put_items e is' u) k) (λ u h. again w u _ h (items-refuse e is' u k (λ v g. again u w _ (sym h) (f v (g ∙ h))))))

  went_on : (d : Done) → went d (λ w. done on w) ≡ d
  went_on (done on w) = refl
  went_on (done skip w) = refl
  went_on (done (go q) w) = refl
  went_on (done (stop n) w) = refl

  end-refuses : (c : Bool) (w : World) → R w.session.vars (put_end c w)
  end-refuses true w = goes
  end-refuses false w = rw (← (went_on (put (13 ∷ 10 ∷ []) w))) (put-refuses (13 ∷ 10 ∷ []) w (λ w. done on w) (λ u h. goes))

  keep-refuses : (w : World) (r : Result (List ℕ)) → GivesOrRefuses r → R w.session.vars (keep_in w r)
  unfolding keep_in
  keep-refuses w r h = given-refuses r w _ h (λ m. goes)

  line-refuses : (e : Env) (a : Expr) (w : World) (k : ℕ → Done) → ((q : ℕ) → R w.session.vars (k q))
      → R w.session.vars (given (bind (eval e w a) (λ n. line_there (find e.page n))) w k)
  line-refuses e a w k f = given-refuses _ w k (bind-known (eval e w a) _ (eval-known e w a) (λ n. line_known (find e.page n))) f

  gosub-refuses : (e : Env) (w : World) (q : ℕ) → R w.session.vars (gosub_to e w q)
  unfolding gosub_to
  gosub-refuses e w q = choice (push_of w.session.gosubs (place e.here)).ok _ _ _ jumps (refuse 10 w refl)

  after-refuses : (c : Bool) (q : ℕ) (u : World) (vars : List ℕ) → R vars (done (if c then stop 0 else go q) u)
  after-refuses true q u vars = ends
  after-refuses false q u vars = jumps

  return-refuses : (w : World) (t : Opt Place) → R w.session.vars (return_by w t)
  unfolding return_by
  return-refuses w None = refuse 9 w refl
  return-refuses w (Some p) = after-refuses (eqb (position p) mark) (suc (position p)) _ _

  do-refuses : (e : Env) (w : World) → R w.session.vars (do_here e w)
  unfolding do_here
  do-refuses e w = choice (push_of w.session.dos (place e.here)).ok _ _ _ goes (refuse 10 w refl)

  until-refuses : (w : World) (x : ℕ) (t : Opt Place) → R w.session.vars (until_by w x t)
  unfolding until_by
  until-refuses w x None = refuse 15 w refl
  until-refuses w x (Some p) = choice (eqb x 0) _ _ _ jumps goes

  for-refuses : (e : Env) (w : World) (v x y z : ℕ) → R w.session.vars (for_here e w v x y z)
  unfolding for_here
  for-refuses e w v x y z =
      choice (push_for w.session.fors (record { var = v; limit = y; step = z; place = place e.here })).ok _ _ _ goes (refuse 10 w refl)

  next-refuses : (w : World) (v : ℕ) (t : Opt ForEntry) → R w.session.vars (next_by w v t)
  unfolding next_by
  next-refuses w v None = refuse 11 w refl
  next-refuses w v (Some f) = choice (not (eqb f.var v)) _ _ _ (refuse 12 w refl) (choice (goes_on f.step _ f.limit) _ _ _ jumps goes)

  module _ (six : is_among (refusals_of b) 6 ≡ true) (seven : is_among (refusals_of b) 7 ≡ true) where
    gathered-refuses : (w : World) (o : Option Gathered) (k : World → List ℕ → Done)
        → ((u : World) (bs : List ℕ) → u.session ≡ w.session → R w.session.vars (k u bs)) → R w.session.vars (gathered w o k)
    unfolding gathered
    gathered-refuses w none k f = refuses seven stay
    gathered-refuses w (some g) k f = by g.line.long where
      u : World
      u = with_inpos w (w.inpos + g.taken)

      by : (c : Bool) → R w.session.vars (elim c [ true ↦ done (stop 6) u | false ↦ k u g.line.bytes ])
      by true = refuses six stay
      by false = f u g.line.bytes refl

    asked-refuses : (e : Env) (w : World) (k : World → List ℕ → Done)
        → ((u : World) (bs : List ℕ) → u.session ≡ w.session → R w.session.vars (k u bs)) → R w.session.vars (asked e w k)
    unfolding asked
    asked-refuses e w k f =
        put-refuses (bytes "?") w _ (λ u h. again w u _ h (gathered-refuses u (gather e.lim (drop u.inpos e.input)) k
        (λ v bs g. again u w _ (sym h) (f v bs (g ∙ h)))))

-- INPUT's variables
given-first : {u : ℕ} {us : List ℕ} {b : Bool} {vars : List ℕ} {d : Done} (x : ℕ) → Refusing us b (set vars u x) d → Refusing (u ∷ us) b vars d
given-first x goes = goes
given-first x skips = skips
given-first x jumps = jumps
given-first x ends = ends
given-first x (refuses h g) = refuses h (give x g)

assign-refuses : (b : Bool) (e : Env) (vs : List ℕ) (es : List Expr) (w : World) → Refusing vs b w.session.vars (assign e vs es w)
unfolding assign
assign-refuses b e [] es w = goes
assign-refuses b e (v ∷ vs) [] w = goes
assign-refuses b e (v ∷ vs) (a ∷ es) w =
    given-refuses (v ∷ vs) b (eval e w a) w _ (eval-known e w a) (λ x. given-first x (assign-refuses b e vs es (with_session w (with_var w.session v x))))

reply-refuses : (b : Bool) → is_among (refusals_of b) 6 ≡ true → (e : Env) (vs : List ℕ) (w : World) (o : Option (List Expr)) → Refusing vs b w.session.vars (assign_reply e vs w o)
reply-refuses b h e vs w none = refuses h stay
reply-refuses b h e vs w (some es) = assign-refuses b e vs es w

pub exec-refuses : (e : Env) (q : Stmt) (w : World) → Refusing (input_vars q) (asks q) w.session.vars (exec e q w)
unfolding exec
exec-refuses e (let_var v a) w = given-refuses [] false (eval e w a) w _ (eval-known e w a) (λ x. goes)
exec-refuses e (let_stat a) w = given-refuses [] false (eval e w a) w _ (eval-known e w a) (λ x. goes)
exec-refuses e (let_byte a b) w =
    given-refuses [] false (eval e w a) w _ (eval-known e w a) (λ p. given-refuses [] false (eval e w b) w _ (eval-known e w b) (λ x.
    keep-refuses [] false w _ (store-known e.sight.access w.memory p _)))
exec-refuses e (let_copy a b) w =
    given-refuses [] false (eval e w a) w _ (eval-known e w a) (λ p. given-refuses [] false (eval e w b) w _ (eval-known e w b) (λ q.
    keep-refuses [] false w _ (bind-known (string_at e.sight.access w.memory q) _ (string-known e.sight.access w.memory q) (λ bs. store-known e.sight.access w.memory p _))))
exec-refuses e (let_text a bs) w = given-refuses [] false (eval e w a) w _ (eval-known e w a) (λ p. keep-refuses [] false w _ (store-known e.sight.access w.memory p _))
exec-refuses e (goto a) w = line-refuses [] false e a w _ (λ q. jumps)
exec-refuses e (gosub a) w = line-refuses [] false e a w _ (gosub-refuses [] false e w)
exec-refuses e (until a) w = given-refuses [] false (eval e w a) w _ (eval-known e w a) (λ x. until-refuses [] false w x _)
exec-refuses e return w = return-refuses [] false w _
exec-refuses e do_loop w = do-refuses [] false e w
exec-refuses e remark w = goes
exec-refuses e end w = refuse [] false 20 w refl
exec-refuses e (print is' c) w = items-refuse [] false e is' w _ (λ u h. again [] false w u _ h (end-refuses [] false c u))
exec-refuses e (if_then a q) w = given-refuses (input_vars q) (asks q) (eval e w a) w _ (eval-known e w a) (λ x. by (exec-refuses e q w) (eqb x 0)) where
  by : Refusing (input_vars q) (asks q) w.session.vars (exec e q w) → (c : Bool)
      → Refusing (input_vars q) (asks q) w.session.vars (elim c [ true ↦ done skip w | false ↦ exec e q w ])
  by f true = skips
  by f false = f
exec-refuses e (for v a b c) w =
    given-refuses [] false (eval e w a) w _ (eval-known e w a) (λ x. given-refuses [] false (eval e w b) w _ (eval-known e w b) (λ y.
    given-refuses [] false (eval e w c) w _ (eval-known e w c) (λ z. for-refuses [] false e w v x y z)))
exec-refuses e (next v) w = next-refuses [] false w v _
exec-refuses e (input us) w =
    asked-refuses us true refl refl e w _ (λ u bs h. again us true w u _ h (reply-refuses true refl e us u (replied (length us) bs)))
exec-refuses e (input_text a) w =
    given-refuses [] true (eval e w a) w _ (eval-known e w a) (λ p. asked-refuses [] true refl refl e w _ (λ u bs h.
    again [] true w u _ h (keep-refuses [] true u _ (store-known e.sight.access u.memory p _))))

-- LIST
pub list-refuses : (us : List ℕ) (b : Bool) (n : ℕ) (rs : List Stored) (w : World) → Refusing us b w.session.vars (list_from n rs w)
unfolding list_from
list-refuses us b n [] w = goes
list-refuses us b n (r ∷ rs) w = by (λ u. list-refuses us b n rs u) (leb n r.line) where
  by : ((u : World) → Refusing us b u.session.vars (list_from n rs u)) → (c : Bool)
      → Refusing us b w.session.vars (elim c [ true ↦ went (put (listed r) w) (list_from n rs) | false ↦ list_from n rs w ])
  by f true = put-refuses us b (listed r) w (list_from n rs) (λ u h. again us b w u _ h (f u))
  by f false = f w

-- 7 is never an immediate statement's, and it gives no variables by INPUT
pub needs-asks : (q : Stmt) → needs_program q ≡ false → (asks q ≡ false) × (input_vars q ≡ [])
needs-asks q h = by (role_of q) h
  where
    by : (r : Role) → elim r as (λ _. Bool) [ anywhere ↦ false | in_loop ↦ true | counts v ↦ true | asks_for vs ↦ true ] ≡ false
        → (elim r as (λ _. Bool) [ anywhere ↦ false | in_loop ↦ false | counts v ↦ false | asks_for vs ↦ true ] ≡ false)
        × ◌≡◌ {A = List ℕ} (elim r [ anywhere ↦ [] | in_loop ↦ [] | counts v ↦ [] | asks_for vs ↦ vs ]) []
    by anywhere h = (refl, refl)
    by in_loop h = absurd (true≢false h)
    by (counts v) h = absurd (true≢false h)
    by (asks_for vs) h = absurd (true≢false h)
