-- A statement that runs with a record that fits places leaves one that fits them, and goes on only to where a run may stand, if the lines
-- that its page has are such positions; and so does LIST. Assumes nothing.
use Rattle.std.specs.Prelude.{if◌then◌else◌}
use Rattle.std.specs.Prelude.{Option as Opt, Some, None}
use Rattle.nibl.specs.declared.Place.{Place}
use Prim.Native.Nat.{ℕ, suc, ◌+◌}
use mathlib.Core.Path.{◌≡◌, refl, sym, ◌∙◌}
use mathlib.Core.Bool.{Bool, true, false, not, true≢false}
use mathlib.Core.List.{List, [], ◌∷◌}
use mathlib.Core.Option.{Option, none, some}
use lib.ListN.{length, drop}
use lib.Dec.{leb, eqb}
use borrow.Author.Tests.{eq-eqb, lt-ltb}
use Rattle.nibl.specs.Bytes.{bytes}
use Rattle.nibl.specs.Tree.{Expr, Item, text, stored, value}
use Rattle.nibl.specs.Tree.{Member, Stmt, let_var, let_stat, let_byte, let_copy, let_text, goto, gosub, until, return, do_loop, remark, end, print, if_then, for, next, input, input_text}
use Rattle.nibl.specs.found.Read.{found, member, replied}
use Rattle.nibl.specs.Values.{Result, is, no, Value, printed}
use Rattle.nibl.specs.Typing.{Gathered, gather}
use Rattle.nibl.specs.Stack.{push_of, pop_of, push_for, pop_for}
use Rattle.nibl.specs.Page.{Stored, is_among, find}
use Rattle.nibl.specs.Meaning.{World, Env, on, skip, go, stop, Done, done, with_session, with_inpos, bind, given, went, eval, string_at, line_there, put, put_item, put_items, put_end, keep_in, gosub_to, return_by, do_here, until_by, for_here, goes_on, next_by, gathered, asked, assign, assign_reply, exec}
use Rattle.nibl.specs.Record.{mark, with_gosubs, place, position}
use Rattle.nibl.specs.Runs.{env_at}
use Rattle.nibl.specs.Calls.{needs_program, listed, list_from}
use Rattle.nibl.specs.declared.ForEntry.{ForEntry}
use Rattle.nibl.proofs.Words.{if-split}
use Rattle.page.specs.Standing.{Stands}
use Rattle.page.proofs.Walk.{or_right}
use Rattle.record.specs.Fits.{is_saved}
use Rattle.record.specs.Fors.{for_vars}
use Rattle.record.specs.Fit.{Fit, Goes, to_next, to_record, to_place, to_end}
use Rattle.record.proofs.Fitted.{return-stands, until-stands, next_known, fit-var, fit-flags, fit-gosub, fit-return, fit-do, fit-until, fit-for, fit_next}
use Rattle.record.proofs.Lettered.{Lettered, found-lettered}

module _ (ps : List ℕ) where
  abbrev Fits : World → Type 0
  Fits w = Fit ps w.session

  module _ {A : Type 0} where
    given-goes : (r : Result A) (w : World) (k : A → Done) → Fits w → ((a : A) → Goes ps (k a)) → Goes ps (given r w k)
    given-goes (is a) w k h f = f a
    given-goes (no n) w k h f = to_end h

  went-goes : (d : Done) (k : World → Done) → Goes ps d → ((w : World) → Fits w → Goes ps (k w)) → Goes ps (went d k)
  went-goes (done on w) k (to_next h) f = f w h
  went-goes (done skip w) k g f = g
  went-goes (done (go q) w) k g f = g
  went-goes (done (stop n) w) k g f = g

  put-goes : (bs : List ℕ) (w : World) → Fits w → Goes ps (put bs w)
  unfolding put
  put-goes bs w h = if-split (Goes ps) (leb (w.outpos + length bs) (length w.output)) (λ e. to_next h) (λ e. to_end h)

  keep-goes : (w : World) (r : Result (List ℕ)) → Fits w → Goes ps (keep_in w r)
  unfolding keep_in
  keep-goes w r h = given-goes r w _ h (λ m. to_next h)

  return-goes : (w : World) (t : Opt Place) → (pop_of w.session.gosubs).top ≡ t → Fits w → Goes ps (return_by w t)
  unfolding return_by
  return-goes w None e h = to_end h
  return-goes w (Some p) e h = by (eqb (position p) mark) refl
    where
      by : (b : Bool) → eqb (position p) mark ≡ b
          → Goes ps (done (if b then stop 0 else go (suc (position p))) (with_session w (with_gosubs w.session (pop_of w.session.gosubs).stack)))
      by true i = to_end (fit-return h)
      by false i = to_place (return-stands ps w.session h p e i) (fit-return h)

  until-goes : (w : World) (x : ℕ) (t : Opt Place) → (pop_of w.session.dos).top ≡ t → Fits w → Goes ps (until_by w x t)
  unfolding until_by
  until-goes w x None e h = to_end h
  until-goes w x (Some p) e h = if-split (Goes ps) (eqb x 0) (λ i. to_place (until-stands ps w.session h p e) h) (λ i. to_next (fit-until h))

  next-goes : (w : World) (v : ℕ) (t : Opt ForEntry) → (pop_for w.session.fors).top ≡ t → Fits w → Goes ps (next_by w v t)
  unfolding next_by
  next-goes w v None e h = to_end h
  next-goes w v (Some f) e h =
      if-split (Goes ps) (not (eqb f.var v)) (λ i. to_end h) (λ i. if-split (Goes ps) (goes_on f.step _ f.limit)
      (λ j. to_place (next_known ps w.session h f e).1 (fit-var h v _)) (λ j. to_next (fit_next (fit-var h v _))))

  -- LIST
  pub list-goes : (n : ℕ) (rs : List Stored) (w : World) → Fit ps w.session → Goes ps (list_from n rs w)
  unfolding list_from
  list-goes n [] w h = to_next h
  list-goes n (r ∷ rs) w h = by (leb n r.line) (list-goes n rs)
    where
      by : (b : Bool) → ((u : World) → Fits u → Goes ps (list_from n rs u)) → Goes ps (elim b [ true ↦ went (put (listed r) w) (list_from n rs) | false ↦ list_from n rs w ])
      by true f = went-goes (put (listed r) w) (list_from n rs) (put-goes (listed r) w h) f
      by false f = f w h

module _ (e : Env) (ps : List ℕ) where
  item-goes : (i : Item) (w : World) → Fits ps w → Goes ps (put_item e i w)
  unfolding put_item
  item-goes (text bs) w h = put-goes ps bs w h
  item-goes (stored a) w h = given-goes ps (bind (eval e w a) (string_at e.sight.access w.memory)) w _ h (λ bs. put-goes ps bs w h)
  item-goes (value a) w h = given-goes ps (eval e w a) w _ h (λ x. put-goes ps (printed x) w h)

  items-go : (items : List Item) (w : World) → Fits ps w → Goes ps (put_items e items w)
  unfolding put_items
  items-go [] w h = to_next h
  items-go (i ∷ items) w h = went-goes ps (put_item e i w) (put_items e items) (item-goes i w h) (items-go items)

  end_goes : (b : Bool) (w : World) → Fits ps w → Goes ps (put_end b w)
  end_goes true w h = to_next h
  end_goes false w h = put-goes ps _ w h

  gathered-goes : (w : World) (o : Option Gathered) (k : World → List ℕ → Done) → Fits ps w → ((u : World) (bs : List ℕ) → Fits ps u → Goes ps (k u bs))
      → Goes ps (gathered w o k)
  unfolding gathered
  gathered-goes w none k h f = to_end h
  gathered-goes w (some g) k h f = by g.line.long
    where
      u : World
      u = with_inpos w (w.inpos + g.taken)

      by : (b : Bool) → Goes ps (elim b [ true ↦ done (stop 6) u | false ↦ k u g.line.bytes ])
      by true = to_end h
      by false = f u g.line.bytes h

  asked-goes : (w : World) (k : World → List ℕ → Done) → Fits ps w → ((u : World) (bs : List ℕ) → Fits ps u → Goes ps (k u bs)) → Goes ps (asked e w k)
  unfolding asked
  asked-goes w k h f =
      went-goes ps (put (bytes "?") w) _ (put-goes ps (bytes "?") w h) (λ u i. gathered-goes u (gather e.lim (drop u.inpos e.input)) k i f)

  assign-goes : (us : List ℕ) (es : List Expr) (w : World) → Fits ps w → Goes ps (assign e us es w)
  unfolding assign
  assign-goes [] es w h = to_next h
  assign-goes (v ∷ us) [] w h = to_next h
  assign-goes (v ∷ us) (a ∷ es) w h = given-goes ps (eval e w a) w _ h (λ x. assign-goes us es _ (fit-var h v x))

  reply-goes : (us : List ℕ) (w : World) (o : Option (List Expr)) → Fits ps w → Goes ps (assign_reply e us w o)
  reply-goes us w none h = to_end h
  reply-goes us w (some es) h = assign-goes us es w h

  do-goes : (w : World) → is_among ps e.here ≡ true → Fits ps w → Goes ps (do_here e w)
  unfolding do_here
  do-goes w i h =
      if-split (Goes ps) (push_of w.session.dos (place e.here)).ok (λ _. to_next (fit-do h (place e.here) i)) (λ _. to_end h)

  for-goes : (w : World) (v x y z : ℕ) → (is_among ps e.here ≡ true) × Lettered (v ∷ []) → Fits ps w → Goes ps (for_here e w v x y z)
  unfolding for_here
  for-goes w v x y z i h =
      let n : ForEntry = record { var = v; limit = y; step = z; place = place e.here } in
      let small = lt-ltb v 26 (i.1 v (rw (eq-eqb v v refl))) in
      if-split (Goes ps) (push_for w.session.fors n).ok (λ _. to_next (fit-var (fit-for h n (rw small i.0)) v x)) (λ _. to_end h)

  module _ (lines : (n q : ℕ) → find e.page n ≡ some q → Stands ps q) where
    -- to a line that is there
    line-goes : (r : Value) (w : World) (k : ℕ → Done) → Fits ps w → ((q : ℕ) → Stands ps q → Goes ps (k q))
        → Goes ps (given (bind r (λ n. line_there (find e.page n))) w k)
    line-goes (is n) w k h f = by (find e.page n) refl
      where
        by : (o : Option ℕ) → find e.page n ≡ o → Goes ps (given (line_there o) w k)
        by none i = to_end h
        by (some q) i = f q (lines n q i)
    line-goes (no n) w k h f = to_end h

    gosub-goes : (w : World) (q : ℕ) → is_saved ps true (place e.here) ≡ true → Stands ps q → Fits ps w → Goes ps (gosub_to e w q)
    unfolding gosub_to
    gosub-goes w q i s h =
        if-split (Goes ps) (push_of w.session.gosubs (place e.here)).ok (λ _. to_place s (fit-gosub h (place e.here) i)) (λ _. to_end h)

    -- what a statement saves is a place or the mark; where it needs a program it is a place, and its FOR names a variable
    exec_goes : (q : Stmt) (w : World) → is_saved ps true (place e.here) ≡ true → (needs_program q ≡ true → (is_among ps e.here ≡ true) × Lettered (for_vars q))
        → Fits ps w → Goes ps (exec e q w)
    unfolding exec
    exec_goes (let_var v a) w i p h = given-goes ps (eval e w a) w _ h (λ x. to_next (fit-var h v x))
    exec_goes (let_stat a) w i p h = given-goes ps (eval e w a) w _ h (λ x. to_next (fit-flags h x))
    exec_goes (let_byte a b) w i p h = given-goes ps (eval e w a) w _ h (λ q. given-goes ps (eval e w b) w _ h (λ x. keep-goes ps w _ h))
    exec_goes (let_copy a b) w i p h = given-goes ps (eval e w a) w _ h (λ q. given-goes ps (eval e w b) w _ h (λ r. keep-goes ps w _ h))
    exec_goes (let_text a bs) w i p h = given-goes ps (eval e w a) w _ h (λ q. keep-goes ps w _ h)
    exec_goes (goto a) w i p h = line-goes (eval e w a) w _ h (λ q s. to_place s h)
    exec_goes (gosub a) w i p h = line-goes (eval e w a) w _ h (λ q s. gosub-goes w q i s h)
    exec_goes (until a) w i p h = given-goes ps (eval e w a) w _ h (λ x. until-goes ps w x _ refl h)
    exec_goes return w i p h = return-goes ps w _ refl h
    exec_goes do_loop w i p h = do-goes w (p refl).0 h
    exec_goes remark w i p h = to_next h
    exec_goes end w i p h = to_end h
    exec_goes (print items b) w i p h = went-goes ps (put_items e items w) (put_end b) (items-go items w h) (end_goes b)
    exec_goes (if_then a q) w i p h = given-goes ps (eval e w a) w _ h (λ x. by (eqb x 0) (exec_goes q w i p h))
      where
        by : (b : Bool) → Goes ps (exec e q w) → Goes ps (elim b [ true ↦ done skip w | false ↦ exec e q w ])
        by true g = to_record h
        by false g = g
    exec_goes (for v a b c) w i p h =
        given-goes ps (eval e w a) w _ h (λ x. given-goes ps (eval e w b) w _ h (λ y. given-goes ps (eval e w c) w _ h (λ z. for-goes w v x y z (p refl) h)))
    exec_goes (next v) w i p h = next-goes ps w v _ refl h
    exec_goes (input vs) w i p h = asked-goes w _ h (λ u bs j. reply-goes vs u (replied (length vs) bs) j)
    exec_goes (input_text a) w i p h = given-goes ps (eval e w a) w _ h (λ q. asked-goes w _ h (λ u bs j. keep-goes ps u _ j))

    -- an immediate statement
    pub immediate-goes : (q : Stmt) (w : World) → e.here ≡ mark → needs_program q ≡ false → Fit ps w.session → Goes ps (exec e q w)
    immediate-goes q w m n h = exec_goes q w (rw m (or_right (is_among ps mark) true refl)) (λ y. absurd (true≢false (sym y ∙ n))) h

-- a member of the program, which a place ends
pub member-goes : (e : Env) (ps : List ℕ) → ((n q : ℕ) → find e.page n ≡ some q → Stands ps q) → (p : ℕ) (s t : List ℕ) (m : Member) (w : World)
    → is_among ps p ≡ true → member s ≡ found m t → Fit ps w.session → Goes ps (exec (env_at e p) m.statement w)
member-goes e ps lines p s t m w i f h = exec_goes (env_at e p) ps lines m.statement w (rw i) (λ _. (i, found-lettered s t m f)) h
