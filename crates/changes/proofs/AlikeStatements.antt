-- A statement does alike in surroundings that are alike. Assumes nothing.
use Rattle.std.specs.Prelude.{if◌then◌else◌}
use Rattle.std.specs.Prelude.{Option as Opt}
use Rattle.nibl.specs.declared.ForEntry.{ForEntry}
use Prim.Native.Nat.{ℕ, suc, ◌+◌, ◌%◌}
use mathlib.Core.Path.{◌≡◌, refl, sym, ap, ◌∙◌, subst}
use mathlib.Core.Bool.{Bool, true, false, not}
use mathlib.Core.List.{List, [], ◌∷◌, ◌++◌}
use mathlib.Core.Option.{Option, none, some}
use mathlib.Core.Logic.{◌⊎◌, inl, inr}
use lib.ListN.{length, get_or, drop, set}
use lib.Seq.{sets}
use lib.Dec.{leb, eqb}
use Rattle.nibl.specs.Bytes.{bytes, byte_cr, byte_lf}
use Rattle.nibl.specs.Tree.{Expr, var, const, stat, top, byte_at, invert, negate, modulo, two}
use Rattle.nibl.specs.Tree.{Item, text, stored, value}
use Rattle.nibl.specs.Tree.{Stmt, let_var, let_stat, let_byte, let_text, let_copy, goto, gosub, return, print, if_then, do_loop, until, for, next, input, input_text, remark, end}
use Rattle.nibl.specs.found.Read.{replied}
use Rattle.nibl.specs.Values.{Result, is, no, Value, add16, printed}
use Rattle.nibl.specs.Stack.{pop_for}
use Rattle.nibl.specs.Typing.{Gathered, gather}
use Rattle.nibl.specs.Record.{place, position, mark, with_var, with_flags, with_gosubs, with_dos, with_fors}
use Rattle.nibl.specs.Page.{find}
use Rattle.nibl.specs.Meaning.{World, Env, with_session, with_memory, with_inpos, on, skip, go, stop, Done, done, bind, given, went, eval, put, put_item, put_items, put_end, keep_in, line_there, after, gosub_to, return_by, do_here, until_by, for_here, goes_on, next_by, gathered, asked, assign, assign_reply, exec, string_at, store_at, stat_of}
use Rattle.nibl.specs.declared.Session.{Session}
use Rattle.nibl.specs.declared.Place.{Place}
use Rattle.nibl.specs.declared.PlaceStack.{PlaceStack}
use Rattle.nibl.specs.declared.ForStack.{ForStack}
use Rattle.changes.specs.Alike.{Likeness, TopsAlike, ForTopsAlike, EntriesAlike, ResultsAlike, OptionsAlike, nothing, something, Each, FineItem, FineStmt, SessionsAlike, WorldsAlike, NextAlike, go_on, skips, goes, stops, Both, both, EnvsAlike, Alike, alike, heard, parted}
use Rattle.changes.specs.Alike as A

module _ (L : Likeness) (N : ℕ → Type 0) (e e' : Env) (s : EnvsAlike L N e e') where
  -- The same value
  bind-same : {A B : Type 0} {v v' : Result A} {k k' : A → Result B} → v ≡ v' → ((x : A) → k x ≡ k' x) → bind v k ≡ bind v' k'
  bind-same {A} {B} {v} {v'} {k} {k'} h f = subst (λ (z : Result A). bind v k ≡ bind z k') h (by v) where
    by : (z : Result A) → bind z k ≡ bind z k'
    by (is x) = f x
    by (no n) = refl

  eval-same : {i : ℕ} {w w' : World} → WorldsAlike L i w w' → (a : Expr) → L.Fine a → eval e w a ≡ eval e' w' a
  unfolding eval
  eval-same r (var v) h = ap (λ (l : List ℕ). is (get_or l v 0)) r.session.vars
  eval-same r (const n) h = refl
  eval-same r stat h = λ j. is (stat_of (s.sense j) (r.session.flags j))
  eval-same r top h = ap is (s.tops h)
  eval-same {w = w} {w' = w'} r (byte_at a) h = bind-same (eval-same r a (L.of_byte a h)) (λ x. s.bytes w.memory w'.memory r.memory x)
  eval-same r (invert a) h = rw (eval-same r a (L.of_not a h))
  eval-same r (negate a) h = rw (eval-same r a (L.of_minus a h))
  eval-same r (modulo a b) h = rw (eval-same r a (L.of_mod a b h).0, eval-same r b (L.of_mod a b h).1)
  eval-same r (two o a b) h = rw (eval-same r a (L.of_two o a b h).0, eval-same r b (L.of_two o a b h).1)

  -- Records with a part changed
  module _ {t t' : Session} (r : SessionsAlike L t t') where
    with-var : (v x : ℕ) → SessionsAlike L (with_var t v x) (with_var t' v x)
    with-var v x = record { vars = ap (λ (l : List ℕ). set l v x) r.vars; flags = r.flags; gosubs = r.gosubs; dos = r.dos; fors = r.fors; paused = r.paused }

    with-flags : (x : ℕ) → SessionsAlike L (with_flags t x) (with_flags t' x)
    with-flags x = record { vars = r.vars; flags = refl; gosubs = r.gosubs; dos = r.dos; fors = r.fors; paused = r.paused }

    with-gosubs : {g g' : PlaceStack} → L.G g g' → SessionsAlike L (with_gosubs t g) (with_gosubs t' g')
    with-gosubs h = record { vars = r.vars; flags = r.flags; gosubs = h; dos = r.dos; fors = r.fors; paused = r.paused }

    with-dos : {g g' : PlaceStack} → L.G g g' → SessionsAlike L (with_dos t g) (with_dos t' g')
    with-dos h = record { vars = r.vars; flags = r.flags; gosubs = r.gosubs; dos = h; fors = r.fors; paused = r.paused }

    with-fors : {f f' : ForStack} → L.F f f' → SessionsAlike L (with_fors t f) (with_fors t' f')
    with-fors h = record { vars = r.vars; flags = r.flags; gosubs = r.gosubs; dos = r.dos; fors = h; paused = r.paused }

  -- Worlds with a part changed
  module _ {i : ℕ} {w w' : World} (r : WorldsAlike L i w w') where
    with-session : {t t' : Session} → SessionsAlike L t t' → WorldsAlike L i (with_session w t) (with_session w' t')
    with-session h = record { session = h; memory = r.memory; output = r.output; outpos = r.outpos; here = r.here; there = r.there }

    with-memory : {m m' : List ℕ} → L.M m m' → WorldsAlike L i (with_memory w m) (with_memory w' m')
    with-memory h = record { session = r.session; memory = h; output = r.output; outpos = r.outpos; here = r.here; there = r.there }

    var-given : (v x : ℕ) → WorldsAlike L i (with_session w (with_var w.session v x)) (with_session w' (with_var w'.session v x))
    var-given v x = with-session (with-var r.session v x)

  -- What was asked for, and then
  module _ {A : Type 0} (Q : Done → Done → Type 0) {w w' : World} where
    given-same : {r r' : Result A} {k k' : A → Done} → r ≡ r' → ((n : ℕ) → Q (done (stop n) w) (done (stop n) w')) → ((a : A) → Q (k a) (k' a)) → Q (given r w k) (given r' w' k')
    given-same {r} {r'} {k} {k'} h f g = subst (λ (x : Result A). Q (given r w k) (given x w' k')) h (by r) where
      by : (x : Result A) → Q (given x w k) (given x w' k')
      by (is a) = g a
      by (no n) = f n

  pub went-both : {i : ℕ} {d d' : Done} {k k' : World → Done} → Both L i d d' → ((u u' : World) → WorldsAlike L i u u' → Both L i (k u) (k' u')) → Both L i (went d k) (went d' k')
  went-both (both go_on r) f = f _ _ r
  went-both (both skips r) f = both skips r
  went-both (both (goes p) r) f = both (goes p) r
  went-both (both stops r) f = both stops r

  went-alike : {i : ℕ} {d d' : Done} {k k' : World → Done} → Both L i d d' → ((u u' : World) → WorldsAlike L i u u' → Alike L N e i (k u) (k' u')) → Alike L N e i (went d k) (went d' k')
  went-alike (both go_on r) f = f _ _ r
  went-alike (both skips r) f = alike (both skips r)
  went-alike (both (goes p) r) f = alike (both (goes p) r)
  went-alike (both stops r) f = alike (both stops r)

  -- the same choice
  choice : (Q : Done → Done → Type 0) (b b' : Bool) {c d c' d' : Done} → b ≡ b' → Q c c' → Q d d' → Q (if b then c else d) (if b' then c' else d')
  choice Q b b' {c} {d} {c'} {d'} h f g = subst (λ (x : Bool). Q (if b then c else d) (if x then c' else d')) h (by b) where
    by : (x : Bool) → Q (if x then c else d) (if x then c' else d')
    by true = f
    by false = g

  -- Output
  pub put_both : {i : ℕ} {w w' : World} (bs : List ℕ) → WorldsAlike L i w w' → Both L i (put bs w) (put bs w')
  unfolding put
  put_both {i} {w} {w'} bs r =
      choice (Both L i) (leb (w.outpos + length bs) (length w.output)) (leb (w'.outpos + length bs) (length w'.output))
      (λ j. leb (r.outpos j + length bs) (L.out_long _ _ _ r.output j))
      (both go_on (record {
        session = r.session;
        memory = r.memory;
        output = subst (λ (p : ℕ). L.O (w.outpos + length bs) (sets w.output w.outpos bs) (sets w'.output p bs)) r.outpos (L.out_put w.outpos w.output w'.output bs r.output);
        outpos = λ j. r.outpos j + length bs;
        here = r.here;
        there = r.there;
      }))
      (both stops r)

  item-both : {i : ℕ} {w w' : World} (a : Item) → FineItem L.Fine a → WorldsAlike L i w w' → Both L i (put_item e a w) (put_item e' a w')
  unfolding put_item
  item-both (text bs) h r = put_both bs r
  item-both {i} {w} {w'} (stored a) (A.a_stored h) r =
      given-same (Both L i) (bind-same (eval-same r a h) (λ p. s.strings w.memory w'.memory r.memory p)) (λ n. both stops r) (λ bs. put_both bs r)
  item-both {i} (value a) (A.a_value h) r = given-same (Both L i) (eval-same r a h) (λ n. both stops r) (λ x. put_both (printed x) r)

  items-both : {i : ℕ} {w w' : World} (items : List Item) → Each (FineItem L.Fine) items → WorldsAlike L i w w' → Both L i (put_items e items w) (put_items e' items w')
  unfolding put_items
  items-both [] h r = both go_on r
  items-both (a ∷ items) (A.one_more h hs) r = went-both (item-both a h r) (λ u u' q. items-both items hs q)

  end-both : {i : ℕ} {w w' : World} (b : Bool) → WorldsAlike L i w w' → Both L i (put_end b w) (put_end b w')
  end-both true r = both go_on r
  end-both false r = put_both (byte_cr ∷ byte_lf ∷ []) r

  -- Stores
  keep-both : {i : ℕ} {w w' : World} {x x' : Result (List ℕ)} → WorldsAlike L i w w' → ResultsAlike L.M x x' → Both L i (keep_in w x) (keep_in w' x')
  unfolding keep_in
  keep-both r (A.given h) = both go_on (with-memory r h)
  keep-both r A.refused = both stops r

  copied-alike : (m m' : List ℕ) → L.M m m' → (p q : ℕ)
      → ResultsAlike L.M (bind (string_at e.sight.access m q) (λ bs. store_at e.sight.access m p (bs ++ (byte_cr ∷ []))))
      (bind (string_at e'.sight.access m' q) (λ bs. store_at e'.sight.access m' p (bs ++ (byte_cr ∷ []))))
  copied-alike m m' h p q =
      subst (λ (x : Result (List ℕ)). ResultsAlike L.M (bind (string_at e.sight.access m q) (λ bs. store_at e.sight.access m p (bs ++ (byte_cr ∷ []))))
      (bind x (λ bs. store_at e'.sight.access m' p (bs ++ (byte_cr ∷ []))))) (s.strings m m' h q) (by (string_at e.sight.access m q))
    where
      by : (x : Result (List ℕ)) → ResultsAlike L.M (bind x (λ bs. store_at e.sight.access m p (bs ++ (byte_cr ∷ [])))) (bind x (λ bs. store_at e'.sight.access m' p (bs ++ (byte_cr ∷ []))))
      by (is bs) = s.stores m m' h p (bs ++ (byte_cr ∷ []))
      by (no n) = A.refused

  -- Lines
  line-alike : (a : Expr) {i : ℕ} {w w' : World} → L.Fine a → WorldsAlike L i w w'
      → ResultsAlike L.P (bind (eval e w a) (λ n. line_there (find e.page n))) (bind (eval e' w' a) (λ n. line_there (find e'.page n)))
  line-alike a {w = w} {w' = w'} h r =
      subst (λ (z : Value). ResultsAlike L.P (bind (eval e w a) (λ n. line_there (find e.page n))) (bind z (λ n. line_there (find e'.page n)))) (eval-same r a h) (by (eval e w a))
    where
      there : {x x' : Option ℕ} → OptionsAlike L.P x x' → ResultsAlike L.P (line_there x) (line_there x')
      there nothing = A.refused
      there (something p) = A.given p

      by : (z : Value) → ResultsAlike L.P (bind z (λ n. line_there (find e.page n))) (bind z (λ n. line_there (find e'.page n)))
      by (is n) = there (s.finds n)
      by (no n) = A.refused

  given-alike : {R : ℕ → ℕ → Type 0} (Q : Done → Done → Type 0) {w w' : World} {x x' : Result ℕ} {k k' : ℕ → Done} → ResultsAlike R x x' → ((n : ℕ) → Q (done (stop n) w) (done (stop n) w'))
      → ((a b : ℕ) → R a b → Q (k a) (k' b)) → Q (given x w k) (given x' w' k')
  given-alike Q (A.given h) f g = g _ _ h
  given-alike Q A.refused f g = f _

  -- Stacks
  module _ {i : ℕ} {w w' : World} (r : WorldsAlike L i w w') where
    gosub-both : (q q' : ℕ) → L.P q q' → Both L i (gosub_to e w q) (gosub_to e' w' q')
    unfolding gosub_to
    gosub-both q q' p =
        choice (Both L i) _ _ (L.push_ok _ _ _ _ r.session.gosubs s.here)
        (both (goes p) (with-session r (with-gosubs r.session (L.push _ _ _ _ r.session.gosubs s.here)))) (both stops r)

    after-alike : (p p' : Place) → L.H (position p) (position p') → NextAlike L (after p) (after p')
    after-alike p p' h = subst (λ (x : Bool). NextAlike L (after p) (if x then stop 0 else go (suc (position p')))) (L.marks _ _ h) (by (eqb (position p) mark)) where
      by : (x : Bool) → NextAlike L (if x then stop 0 else go (suc (position p))) (if x then stop 0 else go (suc (position p')))
      by true = stops
      by false = goes (L.after _ _ h)

    return-both : {t t' : (Opt Place)} → TopsAlike L.H t t' → Both L i (return_by w t) (return_by w' t')
    unfolding return_by
    return-both A.empty = both stops r
    return-both (A.places {p} {p'} h) = both (after-alike p p' h) (with-session r (with-gosubs r.session (L.pop _ _ r.session.gosubs)))

    do-both : Both L i (do_here e w) (do_here e' w')
    unfolding do_here
    do-both =
        choice (Both L i) _ _ (L.push_ok _ _ _ _ r.session.dos s.here)
        (both go_on (with-session r (with-dos r.session (L.push _ _ _ _ r.session.dos s.here)))) (both stops r)

    until-both : (x : ℕ) {t t' : (Opt Place)} → TopsAlike L.H t t' → Both L i (until_by w x t) (until_by w' x t')
    unfolding until_by
    until-both x A.empty = both stops r
    until-both x (A.places h) =
        choice (Both L i) (eqb x 0) (eqb x 0) refl (both (goes (L.after _ _ h)) r) (both go_on (with-session r (with-dos r.session (L.pop _ _ r.session.dos))))

    for-both : (v x y z : ℕ) → Both L i (for_here e w v x y z) (for_here e' w' v x y z)
    unfolding for_here
    for-both v x y z =
        let f : EntriesAlike L.H (record { var = v; limit = y; step = z; place = place e.here }) (record { var = v; limit = y; step = z; place = place e'.here }) =
        record { var = refl; limit = refl; step = refl; place = s.here } in
        choice (Both L i) _ _ (L.push_for_ok _ _ _ _ r.session.fors f)
        (both go_on (with-session r (with-var (with-fors r.session (L.push_fors _ _ _ _ r.session.fors f)) v x))) (both stops r)

    next_both : (v : ℕ) {t t' : (Opt ForEntry)} → ForTopsAlike L.H t t' → Both L i (next_by w v t) (next_by w' v t')
    unfolding next_by
    next_both v A.empty = both stops r
    next_both v (A.entries {f} {f'} h) =
        let x : ℕ = add16 (get_or w.session.vars v 0) f.step in
        let x' : ℕ = add16 (get_or w'.session.vars v 0) f'.step in
        let e-x : x ≡ x' = λ j. add16 (get_or (r.session.vars j) v 0) (h.step j) in
        choice (Both L i) _ _ (λ j. not (eqb (h.var j) v)) (both stops r)
        (choice (Both L i) _ _ (λ j. goes_on (h.step j) (e-x j) (h.limit j))
        (subst (λ (y : ℕ). Both L i (done (go (suc (position f.place))) (with_session w (with_var w.session v x))) (done (go (suc (position f'.place))) (with_session w' (with_var w'.session v y)))) e-x
        (both (goes (L.after _ _ h.place)) (var-given r v x)))
        (subst (λ (y : ℕ). Both L i (done on (with_session w (with_fors (with_var w.session v x) (pop_for w.session.fors).stack))) (done on (with_session w' (with_fors (with_var w'.session v y) (pop_for w'.session.fors).stack)))) e-x
        (both go_on (with-session r (with-var (with-fors r.session (L.pop_fors _ _ r.session.fors)) v x)))))

  -- INPUT
  assign-both : {i : ℕ} {w w' : World} (vs : List ℕ) (es : List Expr) → Each L.Fine es → WorldsAlike L i w w' → Both L i (assign e vs es w) (assign e' vs es w')
  unfolding assign
  assign-both [] es h r = both go_on r
  assign-both (v ∷ vs) [] h r = both go_on r
  assign-both {i} (v ∷ vs) (a ∷ es) (A.one_more h hs) r = given-same (Both L i) (eval-same r a h) (λ n. both stops r) (λ x. assign-both vs es hs (var-given r v x))

  reply-both : {i : ℕ} {w w' : World} (vs : List ℕ) (o : Option (List Expr)) → ((es : List Expr) → o ≡ some es → Each L.Fine es) → WorldsAlike L i w w'
      → Both L i (assign_reply e vs w o) (assign_reply e' vs w' o)
  reply-both vs none f r = both stops r
  reply-both vs (some es) f r = assign-both vs es (f es refl) r

  -- what is done with a line that both gather
  module _ {w w' : World} (i : ℕ) (r : WorldsAlike L i w w') (k k' : World → List ℕ → Done)
      (f : (g : Gathered) → gather e.lim (drop i e.input) ≡ some g → (u u' : World) → WorldsAlike L (i + g.taken) u u' → Both L (i + g.taken) (k u g.line.bytes) (k' u' g.line.bytes)) where
    taken-alike : (g : Gathered) → gather e.lim (drop i e.input) ≡ some g → Alike L N e i (gathered w (some g) k) (gathered w' (some g) k')
    unfolding gathered
    taken-alike g h = by g.line.long where
      moved : WorldsAlike L (i + g.taken) (with_inpos w (w.inpos + g.taken)) (with_inpos w' (w'.inpos + g.taken))
      moved = record { session = r.session; memory = r.memory; output = r.output; outpos = r.outpos; here = λ j. r.here j + g.taken; there = λ j. r.there j + g.taken }

      by : (b : Bool) → Alike L N e i (elim b [ true ↦ done (stop 6) (with_inpos w (w.inpos + g.taken)) | false ↦ k (with_inpos w (w.inpos + g.taken)) g.line.bytes ])
          (elim b [ true ↦ done (stop 6) (with_inpos w' (w'.inpos + g.taken)) | false ↦ k' (with_inpos w' (w'.inpos + g.taken)) g.line.bytes ])
      by true = heard g h (both stops moved)
      by false = heard g h (f g h _ _ moved)

    gathered-alike : (o o' : Option Gathered) → gather e.lim (drop i e.input) ≡ o → (o ≡ o') ⊎ N i → Alike L N e i (gathered w o k) (gathered w' o' k')
    unfolding gathered
    gathered-alike o o' h (inl p) = subst (λ (x : Option Gathered). Alike L N e i (gathered w o k) (gathered w' x k')) p (by o h) where
      by : (x : Option Gathered) → gather e.lim (drop i e.input) ≡ x → Alike L N e i (gathered w x k) (gathered w' x k')
      by none q = alike (both stops r)
      by (some g) q = taken-alike g q
    gathered-alike o o' h (inr n) =
        let l = s.longs i n in
        subst (λ (x : Option Gathered). Alike L N e i (gathered w x k) (gathered w' o' k')) (sym l.is ∙ h)
        (rw l.long (parted n l (λ j. r.here j + l.gathered.taken)))

  asked-alike : {i : ℕ} {w w' : World} → WorldsAlike L i w w' → (k k' : World → List ℕ → Done)
      → ((g : Gathered) → gather e.lim (drop i e.input) ≡ some g → (u u' : World) → WorldsAlike L (i + g.taken) u u' → Both L (i + g.taken) (k u g.line.bytes) (k' u' g.line.bytes))
      → Alike L N e i (asked e w k) (asked e' w' k')
  unfolding asked
  asked-alike {i} {w} {w'} r k k' f =
      went-alike (put_both (bytes "?") r)
      (λ u u' q.
      gathered-alike i q k k' f (gather e.lim (drop u.inpos e.input)) (gather e'.lim (drop u'.inpos e'.input))
      (ap (λ (j : ℕ). gather e.lim (drop j e.input)) (sym q.here))
      (agrees u u' q))
    where
      agrees : (u u' : World) → WorldsAlike L i u u' → (gather e.lim (drop u.inpos e.input) ≡ gather e'.lim (drop u'.inpos e'.input)) ⊎ N i
      agrees u u' q = by (s.gathers i) where
        by : (gather e.lim (drop i e.input) ≡ gather e'.lim (drop i e'.input)) ⊎ N i → (gather e.lim (drop u.inpos e.input) ≡ gather e'.lim (drop u'.inpos e'.input)) ⊎ N i
        by (inl p) = inl (ap (λ (j : ℕ). gather e.lim (drop j e.input)) q.here ∙ p ∙ ap (λ (j : ℕ). gather e'.lim (drop j e'.input)) (sym q.there))
        by (inr n) = inr n

  -- Statements
  pub exec-alike : {i : ℕ} {w w' : World} (q : Stmt) → FineStmt L.Fine q → WorldsAlike L i w w' → Alike L N e i (exec e q w) (exec e' q w')
  unfolding exec
  exec-alike {i} (let_var v a) (A.a_let_var h) r = given-same (Alike L N e i) (eval-same r a h) (λ n. alike (both stops r)) (λ x. alike (both go_on (var-given r v x)))
  exec-alike {i} (let_stat a) (A.a_let_stat h) r =
      given-same (Alike L N e i) (eval-same r a h) (λ n. alike (both stops r)) (λ x. alike (both go_on (with-session r (with-flags r.session (x % 8)))))
  exec-alike {i} {w} {w'} (let_byte a b) (A.a_let_byte h k) r =
      given-same (Alike L N e i) (eval-same r a h) (λ n. alike (both stops r))
      (λ p. given-same (Alike L N e i) (eval-same r b k) (λ n. alike (both stops r)) (λ x. alike (keep-both r (s.stores w.memory w'.memory r.memory p (x % 256 ∷ [])))))
  exec-alike {i} {w} {w'} (let_text a bs) (A.a_let_text h) r =
      given-same (Alike L N e i) (eval-same r a h) (λ n. alike (both stops r)) (λ p. alike (keep-both r (s.stores w.memory w'.memory r.memory p (bs ++ (byte_cr ∷ [])))))
  exec-alike {i} {w} {w'} (let_copy a b) (A.a_let_copy h k) r =
      given-same (Alike L N e i) (eval-same r a h) (λ n. alike (both stops r))
      (λ p. given-same (Alike L N e i) (eval-same r b k) (λ n. alike (both stops r)) (λ q. alike (keep-both r (copied-alike w.memory w'.memory r.memory p q))))
  exec-alike {i} (goto a) (A.a_goto h) r = given-alike (Alike L N e i) (line-alike a h r) (λ n. alike (both stops r)) (λ q q' p. alike (both (goes p) r))
  exec-alike {i} (gosub a) (A.a_gosub h) r = given-alike (Alike L N e i) (line-alike a h r) (λ n. alike (both stops r)) (λ q q' p. alike (gosub-both r q q' p))
  exec-alike return h r = alike (return-both r (L.pop_top _ _ r.session.gosubs))
  exec-alike (print items b) (A.a_print h) r = alike (went-both (items-both items h r) (λ u u' q. end-both b q))
  exec-alike {i} {w} {w'} (if_then a q) (A.an_if h k) r =
      given-same (Alike L N e i) (eval-same r a h) (λ n. alike (both stops r)) (λ x. by (eqb x 0) (exec-alike q k r))
    where
      by : (b : Bool) → Alike L N e i (exec e q w) (exec e' q w') → Alike L N e i (elim b [ true ↦ done skip w | false ↦ exec e q w ]) (elim b [ true ↦ done skip w' | false ↦ exec e' q w' ])
      by true d = alike (both skips r)
      by false d = d
  exec-alike do_loop h r = alike (do-both r)
  exec-alike {i} (until a) (A.an_until h) r = given-same (Alike L N e i) (eval-same r a h) (λ n. alike (both stops r)) (λ x. alike (until-both r x (L.pop_top _ _ r.session.dos)))
  exec-alike {i} (for v a b c) (A.a_for h k l) r =
      given-same (Alike L N e i) (eval-same r a h) (λ n. alike (both stops r))
      (λ x. given-same (Alike L N e i) (eval-same r b k) (λ n. alike (both stops r))
      (λ y. given-same (Alike L N e i) (eval-same r c l) (λ n. alike (both stops r)) (λ z. alike (for-both r v x y z))))
  exec-alike (next v) h r = alike (next_both r v (L.pop_for_top _ _ r.session.fors))
  exec-alike {i} (input vs) h r = asked-alike r _ _ (λ g p u u' q. reply-both vs (replied (length vs) g.line.bytes) (λ es o. s.replies i (length vs) g es p o) q)
  exec-alike {i} (input_text a) (A.an_input_text h) r =
      given-same (Alike L N e i) (eval-same r a h) (λ n. alike (both stops r))
      (λ p. asked-alike r _ _ (λ g l u u' q. keep-both q (s.stores u.memory u'.memory q.memory p (g.line.bytes ++ (byte_cr ∷ [])))))
  exec-alike remark h r = alike (both go_on r)
  exec-alike end h r = alike (both stops r)
