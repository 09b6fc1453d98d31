-- A statement does what document 01's rules say, and nothing else: the definition and the rules are one. Assumes nothing.
use Rattle.std.specs.Prelude.{if◌then◌else◌}
use Rattle.std.specs.Prelude.{Option as Opt, Some, None}
use Prim.Native.Nat.{ℕ, suc, ◌+◌, ◌-◌, ◌%◌, ◌≤◌}
use mathlib.Core.Path.{◌≡◌, refl, sym, ap, subst, ◌∙◌}
use mathlib.Core.Bool.{Bool, true, false, true≢false, false≢true}
use mathlib.Core.List.{List, [], ◌∷◌}
use mathlib.Core.Logic.{◌↔◌}
use mathlib.Core.Option.{Option, none, some}
use native.Mathlib.Omega.{arith}
use lib.ListN.{length, get_or, drop, length-append}
use lib.Seq.{sets}
use lib.Dec.{ltb, leb, eqb}
use borrow.Author.Tests.{ltb-true, ltb-false, leb-true, leb-false, lt-ltb, le-ltb, le-leb, lt-leb, eqb-true, eqb-false, eq-eqb, ne_eqb}
use Rattle.nibl.specs.Bytes.{bytes}
use Rattle.nibl.specs.Tree.{Expr, Item, Stmt, let_var, let_stat, let_byte, let_copy, let_text, goto, gosub, until, return, do_loop, remark, end, print, if_then, for, next, input, input_text}
use Rattle.nibl.specs.found.Read.{replied}
use Rattle.nibl.specs.Readings.{ReplyReading}
use Rattle.nibl.specs.Grammar.{last_reply, enough, more_reply}
use Rattle.nibl.specs.Values.{Result, is, no, Value}
use Rattle.nibl.specs.Stack.{no_place, no_entry, on_top, top_of, top_for}
use Rattle.nibl.specs.Typing.{Gathered, gather}
use Rattle.nibl.specs.Page.{Stored, records_of, size, position_in, find}
use Rattle.nibl.specs.Record.{position, mark}
use Rattle.nibl.specs.Access.{may_write}
use Rattle.nibl.specs.Meaning.{World, Env, on, skip, stop, Done, done, with_memory, bind, given, went, store_at, eval, put, put_item, put_items, put_end, keep_in, line_there, gosub_to, return_by, do_here, until_by, for_here, goes_on, next_by, gathered, asked, assign, assign_reply, exec}
use Rattle.nibl.specs.declared.access.Access.{Access}
use Rattle.nibl.specs.declared.Place.{Place}
use Rattle.nibl.specs.declared.PlaceStack.{PlaceStack}
use Rattle.nibl.specs.declared.ForEntry.{ForEntry}
use Rattle.nibl.specs.declared.ForStack.{ForStack}
use Rattle.nibl.proofs.Words.{if-split}
use Rattle.nibl.proofs.Lines.{replied-sound}
use Rattle.nibl.proofs.Whole.{replied-complete}
use Rattle.letter.proofs.Typed.{no-cr, no-cr-left}
use Rattle.page.proofs.Walk.{by_cases}
use Rattle.demands.specs.Items.{In, first, further, item_bytes, wrote_item, HasRoom, NoRoom}
use Rattle.demands.specs.Whose.{AllOwn, StoreRefused, outlying, not_all_own}
use Rattle.demands.specs.Valued.{order, ValueOf, FirstRefused, at_first, at_later, NoCR, ItemBytes}
use Rattle.demands.specs.Work.{values_of, LineAt, this_line, later_line, NoLine, Bare, empty, misfit, TopPlace, TopEntry, step_added, Within, upward, downward, Past, above, below, with_cr, UpTo, this_item, later_item, AllOut, none_left, one_out, Replied, after_reply, gave, GivenUpTo, this_value, later_value, AllGiven, no_more, one_given, Asking, for_variables, for_string, Unread, of_statement, of_item, of_reply, byte_not_stored, text_not_stored, no_source, copy_not_stored, reply_not_stored, RefusedWith, by_value, by_memory, no_line_to_go, no_line_to_sub, full_of_gosubs, full_of_dos, full_of_fors, no_gosub, no_do, no_for, other_for, no_room_for_item, no_room_for_end, no_room_to_ask, no_reply, reply_too_long, reply_unread, at_end, Performs, refuses, remarks, false_if, assigns, assigns_flags, stores_byte, stores_text, copies, goes_to_line, calls_line, begins, counts, returns, returns_to_mark, repeats, leaves, counts_on, finishes, prints, prints_end, inputs, inputs_string, Reaches, itself, through_if, Works}
use Rattle.demands.proofs.Whose.{own_of, own-one, foreign-of, foreign-one}
use Rattle.demands.proofs.Valued.{value_of, value-one, string-of, string-one, string-none, item_of, item-one}
use Rattle.demands.proofs.Effects.{went-went}
use Rattle.demands.proofs.Printing.{put-split, went_on, item-put}

-- a string's store writes its CR at least
some_bytes : (bs : List ℕ) → 1 ≤ length (with_cr bs)
some_bytes bs = omega (arith, length-append bs (13 ∷ []))

none_in : {r : Stored} {rs : List Stored} → In r rs → rs ≡ [] → ⊥
none_in first e = let z : ◌≡◌ {A = ℕ} 0 1 = cc in omega arith
none_in (further i) e = let z : ◌≡◌ {A = ℕ} 0 1 = cc in omega arith

-- Lines
line-at : (P : Option ℕ → Type 0) (n at : ℕ) (rs : List Stored) → ((q : ℕ) → LineAt n at rs q → P (some q)) → (NoLine n rs → P none)
    → P (position_in n at rs)
line-at P n at [] f g = g (λ r i e. none_in i refl)
line-at P n at (r ∷ rs) f g =
    if-split P (eqb r.line n) (λ h. f at (this_line (eqb-true r.line n h)))
    (λ h. line-at P n (at + size r) rs (λ q l. f q (later_line (eqb-false r.line n h) l)) (λ l. g (λ q i. by h l i)))
  where
    by : eqb r.line n ≡ false → NoLine n rs → {q : Stored} → In q (r ∷ rs) → q.line ≡ n → ⊥
    by h l first e = eqb-false r.line n h e
    by h l {q} (further i) e = l q i e

line-one : {n at q : ℕ} {rs : List Stored} → LineAt n at rs q → position_in n at rs ≡ some q
line-one {n} (this_line {r = r} h) = rw (eq-eqb r.line n h)
line-one {n} (later_line {r = r} h l) = rw (ne_eqb r.line n h) (line-one l)

line-none : (n at : ℕ) (rs : List Stored) → NoLine n rs → position_in n at rs ≡ none
line-none n at [] h = refl
line-none n at (r ∷ rs) h = rw (ne_eqb r.line n (h r first)) (line-none n (at + size r) rs (λ q i. h q (further i)))

-- Stacks
top-of : (s : PlaceStack) (P : Opt Place → Type 0) → (Bare 8 s.depth → P None) → ((p : Place) → TopPlace s p → P (Some p)) → P (top_of s)
top-of s P f g =
    if-split P (ltb s.depth 1) (λ h. f (empty (omega (arith, ltb-true s.depth 1 h))))
    (λ h. if-split P (ltb 8 s.depth) (λ l. f (misfit (ltb-true 8 s.depth l)))
    (λ l. g _ (record { some = ltb-false s.depth 1 h; within = ltb-false 8 s.depth l; top = refl })))

topfor-of : (s : ForStack) (P : Opt ForEntry → Type 0) → (Bare 4 s.depth → P None) → ((f : ForEntry) → TopEntry s f → P (Some f)) → P (top_for s)
topfor-of s P f g =
    if-split P (ltb s.depth 1) (λ h. f (empty (omega (arith, ltb-true s.depth 1 h))))
    (λ h. if-split P (ltb 4 s.depth) (λ l. f (misfit (ltb-true 4 s.depth l)))
    (λ l. g _ (record { some = ltb-false s.depth 1 h; within = ltb-false 4 s.depth l; top = refl })))

-- nothing is on top of a bare stack; else the depth is one less after a pop
bare-top : {A : Type 0} {room depth : ℕ} (e s : A) → Bare room depth → on_top room depth e s ≡ e
bare-top {depth = depth} e s (empty h) = rw (lt-ltb depth 1 (omega arith))
bare-top {room = room} {depth = depth} e s (misfit h) = by (ltb depth 1) where
  by : (b : Bool) → (if b then e else if ltb room depth then e else s) ≡ e
  by true = refl
  by false = rw (lt-ltb room depth h)

some-top : {A : Type 0} (room depth : ℕ) (e s : A) → 1 ≤ depth → depth ≤ room → on_top room depth e s ≡ s
some-top room depth e s h l = rw (le-ltb depth 1 h, le-ltb room depth l)

-- what follows a value that is there, and its refusal
module _ (e : Env) (w : World) where
  given-of : (P : Done → Type 0) (a : Expr) (k : ℕ → Done) → ((x : ℕ) → ValueOf e w a (is x) → P (k x))
      → ((n : ℕ) → ValueOf e w a (no n) → P (done (stop n) w))
      → P (given (eval e w a) w k)
  given-of P a k f g = by (eval e w a) (value_of e w a) where
    by : (r : Value) → ValueOf e w a r → P (given r w k)
    by (is x) h = f x h
    by (no n) h = g n h

  store_of : (P : Done → Type 0) (m : List ℕ) (p : ℕ) (bs : List ℕ) → 1 ≤ length bs
      → (p + length bs ≤ length m → AllOwn e.sight.access p (length bs) → P (done on (with_memory w (sets m p bs))))
      → ((n : ℕ) → StoreRefused e.sight.access (length m) p (length bs) n → P (done (stop n) w))
      → P (keep_in w (store_at e.sight.access m p bs))
  unfolding keep_in store_at
  store_of P m p bs l f g =
      by_cases (leb (p + length bs) (length m))
      (λ h. by_cases (may_write e.sight.access p (length bs))
      (λ o. rw (h, o) (f (leb-true _ _ h) (own_of e.sight.access p (length bs) o))) (λ o. rw (h, o) (g 21 (not_all_own (leb-true _ _ h) (foreign-of e.sight.access p (length bs) l o)))))
      (λ h. rw h (g 16 (outlying (leb-false _ _ h))))

  alone : {q : Stmt} {d : Done} → Performs e w q d → Works e q w d
  alone p = record { statement = _; reached = itself; performed = p }

  abbrev P : Stmt → Done → Type 0
  P q d = Performs e w q d

  let_var-works : (v : ℕ) (a : Expr) → P (let_var v a) (exec e (let_var v a) w)
  unfolding exec
  let_var-works v a = given-of (P (let_var v a)) a _ (λ x h. assigns h) (λ n h. refuses (by_value (of_statement (at_first h))))

  let_stat-works : (a : Expr) → P (let_stat a) (exec e (let_stat a) w)
  unfolding exec
  let_stat-works a = given-of (P (let_stat a)) a _ (λ x h. assigns_flags h) (λ n h. refuses (by_value (of_statement (at_first h))))

  let_byte-works : (a b : Expr) → P (let_byte a b) (exec e (let_byte a b) w)
  unfolding exec
  let_byte-works a b =
      given-of (P (let_byte a b)) a _ (λ p h. given-of (P (let_byte a b)) b _ (λ x g.
      store_of (P (let_byte a b)) w.memory p (x % 256 ∷ []) (omega arith) (λ l o. stores_byte h g (record { there = l; own = o })) (λ n l. refuses (by_memory (byte_not_stored h g l))))
      (λ n g. refuses (by_value (of_statement (at_later h (at_first g)))))) (λ n h. refuses (by_value (of_statement (at_first h))))

  let_text-works : (a : Expr) (bs : List ℕ) → P (let_text a bs) (exec e (let_text a bs) w)
  unfolding exec
  let_text-works a bs =
      given-of (P (let_text a bs)) a _ (λ p h.
      store_of (P (let_text a bs)) w.memory p (with_cr bs) (some_bytes bs) (λ l o. stores_text h (record { there = l; own = o })) (λ n l. refuses (by_memory (text_not_stored h l))))
      (λ n h. refuses (by_value (of_statement (at_first h))))

  let_copy-works : (a b : Expr) → P (let_copy a b) (exec e (let_copy a b) w)
  unfolding exec keep_in
  let_copy-works a b =
      given-of (P (let_copy a b)) a _ (λ p h. given-of (P (let_copy a b)) b _ (λ q g.
      string-of e.sight.access w.memory q (λ r. P (let_copy a b) (keep_in w (bind r (λ bs. store_at e.sight.access w.memory p (with_cr bs)))))
      (λ bs s. store_of (P (let_copy a b)) w.memory p (with_cr bs) (some_bytes bs) (λ l o. copies h g s (record { there = l; own = o })) (λ n l. refuses (by_memory (copy_not_stored h g s l))))
      (λ n s. refuses (by_memory (no_source h g s))))
      (λ n g. refuses (by_value (of_statement (at_later h (at_first g)))))) (λ n h. refuses (by_value (of_statement (at_first h))))

  -- to the line of a value
  to-line : (D : Done → Type 0) (a : Expr) (k : ℕ → Done) → ((n q : ℕ) → ValueOf e w a (is n) → LineAt n 0 (records_of e.page) q → D (k q))
      → ((n : ℕ) → ValueOf e w a (is n) → NoLine n (records_of e.page) → D (done (stop 8) w)) → ((n : ℕ) → ValueOf e w a (no n) → D (done (stop n) w))
      → D (given (bind (eval e w a) (λ n. line_there (find e.page n))) w k)
  unfolding find
  to-line D a k f g h = by (eval e w a) (value_of e w a) where
    by : (r : Value) → ValueOf e w a r → D (given (bind r (λ n. line_there (find e.page n))) w k)
    by (is n) v = line-at (λ o. D (given (line_there o) w k)) n 0 (records_of e.page) (λ q l. f n q v l) (λ l. g n v l)
    by (no n) v = h n v

  goto-works : (a : Expr) → P (goto a) (exec e (goto a) w)
  unfolding exec
  goto-works a = to-line (P (goto a)) a _ (λ n q h l. goes_to_line h l) (λ n h l. refuses (no_line_to_go h l)) (λ n h. refuses (by_value (of_statement (at_first h))))

  gosub-works : (a : Expr) → P (gosub a) (exec e (gosub a) w)
  unfolding exec gosub_to
  gosub-works a = to-line (P (gosub a)) a (gosub_to e w) to (λ n h l. refuses (no_line_to_sub h l)) (λ n h. refuses (by_value (of_statement (at_first h)))) where
    to : (n q : ℕ) → ValueOf e w a (is n) → LineAt n 0 (records_of e.page) q → P (gosub a) (gosub_to e w q)
    to n q h l = by_cases (ltb w.session.gosubs.depth 8) (λ b. rw b (calls_line h l (ltb-true _ _ b))) (λ b. rw b (refuses (full_of_gosubs h l (ltb-false _ _ b))))

  do-works : P do_loop (exec e do_loop w)
  unfolding exec do_here
  do-works = by_cases (ltb w.session.dos.depth 8) (λ b. rw b (begins (ltb-true _ _ b))) (λ b. rw b (refuses (full_of_dos (ltb-false _ _ b))))

  return-works : P return (exec e return w)
  unfolding exec return_by
  return-works = top-of w.session.gosubs (λ t. P return (return_by w t)) (λ b. refuses (no_gosub b)) to where
    to : (p : Place) → TopPlace w.session.gosubs p → P return (return_by w (Some p))
    to p t =
        rw (some-top 8 w.session.gosubs.depth w.session.gosubs.depth (w.session.gosubs.depth - 1) t.some t.within)
        (by_cases (eqb (position p) mark) (λ b. rw b (returns_to_mark t (eqb-true _ _ b))) (λ b. rw b (returns t (eqb-false _ _ b))))

  until-works : (a : Expr) → P (until a) (exec e (until a) w)
  unfolding exec until_by
  until-works a =
      given-of (P (until a)) a _ (λ x h. top-of w.session.dos (λ t. P (until a) (until_by w x t)) (λ b. refuses (no_do h b)) (to x h)) (λ n h. refuses (by_value (of_statement (at_first h))))
    where
      to : (x : ℕ) → ValueOf e w a (is x) → (p : Place) → TopPlace w.session.dos p → P (until a) (until_by w x (Some p))
      to x h p t =
          rw (some-top 8 w.session.dos.depth w.session.dos.depth (w.session.dos.depth - 1) t.some t.within)
          (by_cases (eqb x 0) (λ b. rw b (repeats (subst (λ (y : ℕ). ValueOf e w a (is y)) (eqb-true x 0 b) h) t)) (λ b. rw b (leaves h (eqb-false x 0 b) t)))

  for-works : (v : ℕ) (a b c : Expr) → P (for v a b c) (exec e (for v a b c) w)
  unfolding exec for_here
  for-works v a b c =
      given-of (P (for v a b c)) a _ (λ x h. given-of (P (for v a b c)) b _ (λ y g. given-of (P (for v a b c)) c _ (λ z f.
      by_cases (ltb w.session.fors.depth 4) (λ l. rw l (counts h g f (ltb-true _ _ l))) (λ l. rw l (refuses (full_of_fors h g f (ltb-false _ _ l)))))
      (λ n f. refuses (by_value (of_statement (at_later h (at_later g (at_first f)))))))
      (λ n g. refuses (by_value (of_statement (at_later h (at_first g)))))) (λ n h. refuses (by_value (of_statement (at_first h))))

  -- NEXT's test
  goes_on_lem : (D : Bool → Type 0) (f : ForEntry) (x : ℕ) → (Within f x → D true) → (Past f x → D false) → D (goes_on f.step x f.limit)
  goes_on_lem D f x g h =
      by_cases (ltb f.step 32768)
      (λ s. rw s (by_cases (ltb (order f.limit) (order x)) (λ l. rw l (h (above (ltb-true _ _ s) (ltb-true _ _ l)))) (λ l. rw l (g (upward (ltb-true _ _ s) (ltb-false _ _ l))))))
      (λ s. rw s (by_cases (ltb (order x) (order f.limit)) (λ l. rw l (h (below (ltb-false _ _ s) (ltb-true _ _ l)))) (λ l. rw l (g (downward (ltb-false _ _ s) (ltb-false _ _ l))))))

  within_of : (f : ForEntry) (x : ℕ) → goes_on f.step x f.limit ≡ true → Within f x
  within_of f x = goes_on_lem (λ b. b ≡ true → Within f x) f x (λ i h. i) (λ i h. absurd (false≢true h))

  past_of : (f : ForEntry) (x : ℕ) → goes_on f.step x f.limit ≡ false → Past f x
  past_of f x = goes_on_lem (λ b. b ≡ false → Past f x) f x (λ i h. absurd (true≢false h)) (λ i h. i)

  next-works : (v : ℕ) → P (next v) (exec e (next v) w)
  unfolding exec next_by
  next-works v = topfor-of w.session.fors (λ t. P (next v) (next_by w v t)) (λ b. refuses (no_for b)) to where
    to : (f : ForEntry) → TopEntry w.session.fors f → P (next v) (next_by w v (Some f))
    to f t =
        rw (some-top 4 w.session.fors.depth w.session.fors.depth (w.session.fors.depth - 1) t.some t.within)
        (by_cases (eqb f.var v)
        (λ b. rw b (by_cases (goes_on f.step (step_added w v f) f.limit)
        (λ c. rw c (counts_on t (eqb-true _ _ b) (within_of f (step_added w v f) c))) (λ c. rw c (finishes t (eqb-true _ _ b) (past_of f (step_added w v f) c)))))
        (λ b. rw b (refuses (other_for t (eqb-false _ _ b)))))

-- PRINT: what has been written, one item after the other
module _ (e : Env) (w : World) (items : List Item) (b : Bool) where
  end-works : {u : World} (c : Bool) → b ≡ c → AllOut e items w u → Performs e w (print items b) (put_end c u)
  end-works true h a = rw h (prints a)
  end-works {u} false h a =
      rw (h, ← went_on (put (13 ∷ 10 ∷ []) u)) (put-split (Performs e w (print items false)) (13 ∷ 10 ∷ []) u (λ v. done on v) (λ r. prints_end a r) (λ r. refuses (no_room_for_end a r)))

  -- the items from here on: what is behind them is out
  items-work : (more : List Item) (u : World) → ((i : Item) (v : World) → UpTo e more u i v → UpTo e items w i v)
      → ((v : World) → AllOut e more u v → AllOut e items w v)
      → Performs e w (print items b) (went (put_items e more u) (put_end b))
  unfolding put_items
  items-work [] u f g = end-works b refl (g u none_left)
  items-work (i ∷ more) u f g =
      rw (went-went (put_item e i u) (put_items e more) (put_end b), item-put e i u)
      (by (λ bs j r. items-work more (wrote_item u bs) (λ k v l. f k v (later_item j r l)) (λ v l. g v (one_out j r l))) (item_bytes e u i) (item_of e u i))
    where
      by : ((bs : List ℕ) → ItemBytes e u i (is bs) → HasRoom u bs → Performs e w (print items b) (went (put_items e more (wrote_item u bs)) (put_end b))) → (r : Result (List ℕ)) → ItemBytes e u i r
          → Performs e w (print items b) (went (given r u (λ bs. put bs u)) (λ v. went (put_items e more v) (put_end b)))
      by h (is bs) j =
          put-split (Performs e w (print items b)) bs u (λ v. went (put_items e more v) (put_end b)) (λ r. h bs j r) (λ r. refuses (no_room_for_item b (f i u this_item) j r))
      by h (no n) j = refuses (by_value (of_item b (f i u this_item) j))

  print-works : Performs e w (print items b) (exec e (print items b) w)
  unfolding exec
  print-works = items-work items w (λ i v l. l) (λ v l. l)

-- INPUT
reply-length : {n : ℕ} {s : List ℕ} {es : List Expr} → ReplyReading n s es → length es ≡ n
reply-length (last_reply r a) = refl
reply-length (enough r k) = refl
reply-length (more_reply r k m) = ap suc (reply-length m)

none_read : {n : ℕ} {s : List ℕ} {es : List Expr} → replied n s ≡ none → ReplyReading n s es → ⊥
none_read h l = let i = replied-complete l in let z : ◌≡◌ {A = ℕ} 0 1 = cc in omega arith

module _ (e : Env) (w : World) where
  asked_of : (D : Done → Type 0) (q : Stmt) (k : World → List ℕ → Done) → (NoRoom w (bytes "?") → D (done (stop 17) w))
      → (HasRoom w (bytes "?") → NoCR e.input w.inpos → D (done (stop 7) (wrote_item w (bytes "?"))))
      → ((g : Gathered) → Replied e w g → g.line.long ≡ true → D (done (stop 6) (after_reply w g)))
      → ((g : Gathered) → Replied e w g → g.line.long ≡ false → D (k (after_reply w g) g.line.bytes)) → D (asked e w k)
  unfolding asked gathered
  asked_of D q k no_room no_line too_long f =
      put-split D (bytes "?") w (λ u. gathered u (gather e.lim (drop u.inpos e.input)) k) (λ r. line r (gather e.lim (drop w.inpos e.input)) refl) no_room
    where
      long : (g : Gathered) → Replied e w g → (b : Bool) → g.line.long ≡ b
          → D (elim b [ true ↦ done (stop 6) (after_reply w g) | false ↦ k (after_reply w g) g.line.bytes ])
      long g r true h = too_long g r h
      long g r false h = f g r h

      line : HasRoom w (bytes "?") → (o : Option Gathered) → gather e.lim (drop w.inpos e.input) ≡ o → D (gathered (wrote_item w (bytes "?")) o k)
      line r none h = no_line r (no-cr-left e.lim (drop w.inpos e.input) h)
      line r (some g) h = long g (record { room = r; line = h }) g.line.long refl

  module _ (vs : List ℕ) where
    abbrev I : Done → Type 0
    I d = Performs e w (input vs) d

    -- the variables from here on, and their relations: what is before them is given
    assign-works : (g : Gathered) (es : List Expr) → Replied e w g → g.line.long ≡ false → ReplyReading (length vs) g.line.bytes es
        → (us : List ℕ) (as' : List Expr) (u : World) → length as' ≡ length us → ((a : Expr) (v : World) → GivenUpTo e us as' u a v → GivenUpTo e vs es (after_reply w g) a v)
        → ((v : World) → AllGiven e us as' u v → AllGiven e vs es (after_reply w g) v) → I (assign e us as' u)
    unfolding assign
    assign-works g es r s l [] [] u n f h = inputs r s l (h u no_more)
    assign-works g es r s l [] (a ∷ as') u n f h = absurd (omega arith)
    assign-works g es r s l (v ∷ us) [] u n f h = absurd (omega arith)
    assign-works g es r s l (v ∷ us) (a ∷ as') u n f h =
        given-of e u I a _ (λ x i. assign-works g es r s l us as' (gave u v x) (omega arith) (λ b z j. f b z (later_value i j)) (λ z j. h z (one_given i j)))
        (λ m i. refuses (by_value (of_reply r s l (f a u this_value) i)))

    reply-works : (g : Gathered) → Replied e w g → g.line.long ≡ false → (o : Option (List Expr)) → replied (length vs) g.line.bytes ≡ o
        → I (assign_reply e vs (after_reply w g) o)
    reply-works g r s none h = refuses (reply_unread r s (λ es l. none_read h l))
    reply-works g r s (some es) h =
        let l = replied-sound (length vs) g.line.bytes es h in
        assign-works g es r s l vs es (after_reply w g) (reply-length l) (λ a v j. j) (λ v j. j)

    input-works : I (exec e (input vs) w)
    unfolding exec
    input-works =
        asked_of I (input vs) _ (λ h. refuses (no_room_to_ask for_variables h)) (λ h l. refuses (no_reply for_variables h l)) (λ g r h. refuses (reply_too_long for_variables r h))
        (λ g r h. reply-works g r h (replied (length vs) g.line.bytes) refl)

  string-works : (a : Expr) → Performs e w (input_text a) (exec e (input_text a) w)
  unfolding exec
  string-works a =
      given-of e w T a _ (λ p h. asked_of T (input_text a) _ (λ l. refuses (no_room_to_ask (for_string h) l)) (λ l g. refuses (no_reply (for_string h) l g))
      (λ g r l. refuses (reply_too_long (for_string h) r l))
      (λ g r l. store_of e (after_reply w g) T w.memory p (with_cr g.line.bytes) (some_bytes g.line.bytes)
      (λ i o. inputs_string h r l (record { there = i; own = o })) (λ n i. refuses (by_memory (reply_not_stored h r l i)))))
      (λ n h. refuses (by_value (of_statement (at_first h))))
    where
      T : Done → Type 0
      T d = Performs e w (input_text a) d

-- Every statement keeps to the rules
pub works : (e : Env) (s : Stmt) (w : World) → Works e s w (exec e s w)
unfolding exec
works e (let_var v a) w = alone e w (let_var-works e w v a)
works e (let_stat a) w = alone e w (let_stat-works e w a)
works e (let_byte a b) w = alone e w (let_byte-works e w a b)
works e (let_copy a b) w = alone e w (let_copy-works e w a b)
works e (let_text a bs) w = alone e w (let_text-works e w a bs)
works e (goto a) w = alone e w (goto-works e w a)
works e (gosub a) w = alone e w (gosub-works e w a)
works e (until a) w = alone e w (until-works e w a)
works e return w = alone e w (return-works e w)
works e do_loop w = alone e w (do-works e w)
works e remark w = alone e w remarks
works e end w = alone e w (refuses at_end)
works e (print items b) w = alone e w (print-works e w items b)
works e (if_then a q) w = given-of e w (Works e (if_then a q) w) a _ (λ x h. by (works e q w) x h (eqb x 0) refl) (λ n h. alone e w (refuses (by_value (of_statement (at_first h))))) where
  by : Works e q w (exec e q w) → (x : ℕ) → ValueOf e w a (is x) → (c : Bool) → eqb x 0 ≡ c
      → Works e (if_then a q) w (elim c [ true ↦ done skip w | false ↦ exec e q w ])
  by f x h true c = alone e w (false_if (subst (λ (y : ℕ). ValueOf e w a (is y)) (eqb-true x 0 c) h))
  by f x h false c = record { statement = f.statement; reached = through_if h (eqb-false x 0 c) f.reached; performed = f.performed }
works e (for v a b c) w = alone e w (for-works e w v a b c)
works e (next v) w = alone e w (next-works e w v)
works e (input vs) w = alone e w (input-works e w vs)
works e (input_text a) w = alone e w (string-works e w a)

-- And the rules leave no choice: what one of them gives is what the definition gives
module _ (e : Env) (w : World) where
  -- the first value of one, two or three that is refused
  one-refused : {a : Expr} {n : ℕ} (k : ℕ → Done) → FirstRefused e w (a ∷ []) n → given (eval e w a) w k ≡ done (stop n) w
  one-refused k (at_first h) = rw (value-one e w h)
  one-refused k (at_later _ h) = elim h [ ]

  two-refused : {a b : Expr} {n : ℕ} (k : ℕ → ℕ → Done) → FirstRefused e w (a ∷ b ∷ []) n
      → given (eval e w a) w (λ x. given (eval e w b) w (k x)) ≡ done (stop n) w
  two-refused k (at_first h) = rw (value-one e w h)
  two-refused k (at_later {x = x} h g) = rw (value-one e w h) (one-refused (k x) g)

  three-refused : {a b c : Expr} {n : ℕ} (k : ℕ → ℕ → ℕ → Done) → FirstRefused e w (a ∷ b ∷ c ∷ []) n
      → given (eval e w a) w (λ x. given (eval e w b) w (λ y. given (eval e w c) w (k x y))) ≡ done (stop n) w
  three-refused k (at_first h) = rw (value-one e w h)
  three-refused k (at_later {x = x} h g) = rw (value-one e w h) (two-refused (k x) g)

  line_refused : {a : Expr} {n : ℕ} (k : ℕ → Done) → FirstRefused e w (a ∷ []) n
      → given (bind (eval e w a) (λ m. line_there (find e.page m))) w k ≡ done (stop n) w
  line_refused k (at_first h) = rw (value-one e w h)
  line_refused k (at_later _ h) = elim h [ ]

  no-values : {as' : List Expr} {n : ℕ} → as' ≡ [] → FirstRefused e w as' n → ⊥
  no-values h (at_first v) = let z : ◌≡◌ {A = ℕ} 0 1 = cc in omega arith
  no-values h (at_later v f) = let z : ◌≡◌ {A = ℕ} 0 1 = cc in omega arith

  value-refused : (q : Stmt) {n : ℕ} → FirstRefused e w (values_of q) n → exec e q w ≡ done (stop n) w
  unfolding exec
  value-refused (let_var v a) h = one-refused _ h
  value-refused (let_stat a) h = one-refused _ h
  value-refused (let_byte a b) h = two-refused _ h
  value-refused (let_copy a b) h = two-refused _ h
  value-refused (let_text a bs) h = one-refused _ h
  value-refused (goto a) h = line_refused _ h
  value-refused (gosub a) h = line_refused _ h
  value-refused (until a) h = one-refused _ h
  value-refused return h = absurd (no-values refl h)
  value-refused do_loop h = absurd (no-values refl h)
  value-refused remark h = absurd (no-values refl h)
  value-refused end h = absurd (no-values refl h)
  value-refused (print items b) h = absurd (no-values refl h)
  value-refused (if_then a q) h = one-refused _ h
  value-refused (for v a b c) h = three-refused _ h
  value-refused (next v) h = absurd (no-values refl h)
  value-refused (input vs) h = absurd (no-values refl h)
  value-refused (input_text a) h = one-refused _ h

-- an item that fits, or not, and what follows it
pub put-fits : (bs : List ℕ) (w : World) (k : World → Done) → HasRoom w bs → went (put bs w) k ≡ k (wrote_item w bs)
unfolding put
put-fits bs w k h = rw (le-leb (w.outpos + length bs) (length w.output) h)

pub put_full : (bs : List ℕ) (w : World) (k : World → Done) → NoRoom w bs → went (put bs w) k ≡ done (stop 17) w
unfolding put
put_full bs w k h = rw (lt-leb (w.outpos + length bs) (length w.output) h)

item-fits : (e : Env) (i : Item) (w : World) (k : World → Done) {bs : List ℕ} → ItemBytes e w i (is bs) → HasRoom w bs
    → went (put_item e i w) k ≡ k (wrote_item w bs)
item-fits e i w k {bs} j h = rw (item-put e i w, item-one e w j) (put-fits bs w k h)

item-full : (e : Env) (i : Item) (w : World) (k : World → Done) {bs : List ℕ} → ItemBytes e w i (is bs) → NoRoom w bs
    → went (put_item e i w) k ≡ done (stop 17) w
item-full e i w k {bs} j h = rw (item-put e i w, item-one e w j) (put_full bs w k h)

item_refused : (e : Env) (i : Item) (w : World) (k : World → Done) {n : ℕ} → ItemBytes e w i (no n) → went (put_item e i w) k ≡ done (stop n) w
item_refused e i w k j = rw (item-put e i w, item-one e w j)

module _ (e : Env) (k : World → Done) where
  all-out : {items : List Item} {w u : World} → AllOut e items w u → went (put_items e items w) k ≡ k u
  unfolding put_items
  all-out none_left = refl
  all-out (one_out {i = i} {items = items} {w = w} j h m) = went-went (put_item e i w) (put_items e items) k ∙ item-fits e i w (λ v. went (put_items e items v) k) j h ∙ all-out m

  -- up to an item at which all ends
  up_to : {items : List Item} {i : Item} {w u : World} {d : Done} → UpTo e items w i u
      → ((more : List Item) → went (put_item e i u) (λ v. went (put_items e more v) k) ≡ d)
      → went (put_items e items w) k ≡ d
  unfolding put_items
  up_to (this_item {i = i} {items = items} {w = w}) f = went-went (put_item e i w) (put_items e items) k ∙ f items
  up_to (later_item {j = j} {items = items} {w = w} l h m) f = went-went (put_item e j w) (put_items e items) k ∙ item-fits e j w (λ v. went (put_items e items v) k) l h ∙ up_to m f

-- INPUT
module _ (e : Env) (w : World) where
  reply-there : (g : Gathered) (k : World → List ℕ → Done) → Replied e w g → g.line.long ≡ false → asked e w k ≡ k (after_reply w g) g.line.bytes
  unfolding asked gathered
  reply-there g k r s = put-fits (bytes "?") w _ r.room ∙ rw (r.line, s)

  reply-long : (g : Gathered) (k : World → List ℕ → Done) → Replied e w g → g.line.long ≡ true → asked e w k ≡ done (stop 6) (after_reply w g)
  unfolding asked gathered
  reply-long g k r s = put-fits (bytes "?") w _ r.room ∙ rw (r.line, s)

  reply-none : (k : World → List ℕ → Done) → HasRoom w (bytes "?") → NoCR e.input w.inpos → asked e w k ≡ done (stop 7) (wrote_item w (bytes "?"))
  unfolding asked gathered
  reply-none k h l = put-fits (bytes "?") w _ h ∙ rw (no-cr e.lim (drop w.inpos e.input) l)

  reply-unasked : (k : World → List ℕ → Done) → NoRoom w (bytes "?") → asked e w k ≡ done (stop 17) w
  unfolding asked
  reply-unasked k h = put_full (bytes "?") w _ h

  -- of either INPUT
  asking-one : {q : Stmt} {d : Done} → Asking e w q → ((k : World → List ℕ → Done) → asked e w k ≡ d) → exec e q w ≡ d
  unfolding exec
  asking-one for_variables f = f _
  asking-one (for_string h) f = rw (value-one e w h) (f _)

all-given : (e : Env) {vs : List ℕ} {es : List Expr} {w u : World} → AllGiven e vs es w u → assign e vs es w ≡ done on u
unfolding assign
all-given e no_more = refl
all-given e (one_given {w = w} h m) = rw (value-one e w h) (all-given e m)

given-up-to : (e : Env) {vs : List ℕ} {es : List Expr} {a : Expr} {n : ℕ} {w u : World} → GivenUpTo e vs es w a u → ValueOf e u a (no n)
    → assign e vs es w ≡ done (stop n) u
unfolding assign
given-up-to e (this_value {w = w}) v = rw (value-one e w v)
given-up-to e (later_value {w = w} h m) v = rw (value-one e w h) (given-up-to e m v)

none-replied : (n : ℕ) (s : List ℕ) → Unread n s → (o : Option (List Expr)) → replied n s ≡ o → o ≡ none
none-replied n s f none h = refl
none-replied n s f (some es) h = absurd (f es (replied-sound n s es h))

module _ (x : Access) (w : World) (m : List ℕ) (p : ℕ) (bs : List ℕ) where
  store-fits : 1 ≤ length bs → p + length bs ≤ length m → AllOwn x p (length bs) → keep_in w (store_at x m p bs) ≡ done on (with_memory w (sets m p bs))
  unfolding keep_in store_at
  store-fits l h o = rw (le-leb (p + length bs) (length m) h, own-one x p (length bs) l o)

  store-lacks : {n : ℕ} → StoreRefused x (length m) p (length bs) n → keep_in w (store_at x m p bs) ≡ done (stop n) w
  unfolding keep_in store_at
  store-lacks (outlying h) = rw (lt-leb (p + length bs) (length m) h)
  store-lacks (not_all_own h f) = rw (le-leb (p + length bs) (length m) h, foreign-one x p (length bs) f)

top_one : {s : PlaceStack} {p : Place} → TopPlace s p → top_of s ≡ Some p
top_one {s} t = some-top 8 s.depth None (Some (get_or s.places (s.depth - 1) no_place)) t.some t.within ∙ ap Some t.top

topfor-one : {s : ForStack} {f : ForEntry} → TopEntry s f → top_for s ≡ Some f
topfor-one {s} t = some-top 4 s.depth None (Some (get_or s.entries (s.depth - 1) no_entry)) t.some t.within ∙ ap Some t.top

-- what a pop leaves of a depth
depth-one : (room depth : ℕ) → 1 ≤ depth → depth ≤ room → on_top room depth depth (depth - 1) ≡ depth - 1
depth-one room depth h l = some-top room depth depth (depth - 1) h l

module _ (e : Env) (w : World) where
  -- to a line that is there, or not
  line-there : {a : Expr} {n q : ℕ} (k : ℕ → Done) → ValueOf e w a (is n) → LineAt n 0 (records_of e.page) q
      → given (bind (eval e w a) (λ m. line_there (find e.page m))) w k ≡ k q
  unfolding find
  line-there k h l = rw (value-one e w h, line-one l)

  line-missing : {a : Expr} {n : ℕ} (k : ℕ → Done) → ValueOf e w a (is n) → NoLine n (records_of e.page)
      → given (bind (eval e w a) (λ m. line_there (find e.page m))) w k ≡ done (stop 8) w
  unfolding find
  line-missing {n = n} k h l = rw (value-one e w h, line-none n 0 (records_of e.page) l)

  refused-one : {q : Stmt} {n : ℕ} {u : World} → RefusedWith e w q n u → exec e q w ≡ done (stop n) u
  unfolding exec gosub_to return_by do_here until_by for_here next_by keep_in
  refused-one (by_value {q = q} (of_statement h)) = value-refused e w q h
  refused-one (by_value (of_item {i = i} {u = u} b m j)) = up_to e (put_end b) m (λ more. item_refused e i u _ j)
  refused-one (by_value (of_reply {vs = vs} {g = g} r s l m v)) = reply-there e w g _ r s ∙ ap (assign_reply e vs (after_reply w g)) (replied-complete l) ∙ given-up-to e m v
  refused-one (no_line_to_go h l) = line-missing _ h l
  refused-one (no_line_to_sub h l) = line-missing _ h l
  refused-one (full_of_gosubs h l f) = line-there (gosub_to e w) h l ∙ rw (le-ltb w.session.gosubs.depth 8 f)
  refused-one (full_of_dos f) = rw (le-ltb w.session.dos.depth 8 f)
  refused-one (full_of_fors h g f l) = rw (value-one e w h, value-one e w g, value-one e w f) (rw (le-ltb w.session.fors.depth 4 l))
  refused-one (no_gosub b) = rw (bare-top None (Some (get_or w.session.gosubs.places (w.session.gosubs.depth - 1) no_place)) b)
  refused-one (no_do h b) = rw (value-one e w h) (rw (bare-top None (Some (get_or w.session.dos.places (w.session.dos.depth - 1) no_place)) b))
  refused-one (no_for b) = rw (bare-top None (Some (get_or w.session.fors.entries (w.session.fors.depth - 1) no_entry)) b)
  refused-one (other_for {v = v} {f = f} t h) = ap (next_by w v) (topfor-one t) ∙ rw (ne_eqb f.var v h)
  refused-one (by_memory (byte_not_stored {p = p} {x = x} h g l)) = rw (value-one e w h, value-one e w g) (store-lacks e.sight.access w w.memory p (x % 256 ∷ []) l)
  refused-one (by_memory (text_not_stored {p = p} {bs = bs} h l)) = rw (value-one e w h) (store-lacks e.sight.access w w.memory p (with_cr bs) l)
  refused-one (by_memory (no_source {q = q} h g s)) = rw (value-one e w h, value-one e w g, string-none e.sight.access w.memory q s)
  refused-one (by_memory (copy_not_stored {p = p} {q = q} {bs = bs} h g s l)) =
      rw (value-one e w h, value-one e w g, string-one e.sight.access w.memory q s) (store-lacks e.sight.access w w.memory p (with_cr bs) l)
  refused-one (no_room_for_item {i = i} {u = u} b m j r) = up_to e (put_end b) m (λ more. item-full e i u _ j r)
  refused-one (no_room_for_end {u = u} m r) = all-out e (put_end false) m ∙ sym (went_on (put (13 ∷ 10 ∷ []) u)) ∙ put_full (13 ∷ 10 ∷ []) u (λ v. done on v) r
  refused-one (no_room_to_ask a h) = asking-one e w a (λ k. reply-unasked e w k h)
  refused-one (no_reply a h l) = asking-one e w a (λ k. reply-none e w k h l)
  refused-one (reply_too_long {g = g} a r h) = asking-one e w a (λ k. reply-long e w g k r h)
  refused-one (reply_unread {vs = vs} {g = g} r s f) =
      reply-there e w g _ r s ∙ ap (assign_reply e vs (after_reply w g)) (none-replied (length vs) g.line.bytes f (replied (length vs) g.line.bytes) refl)
  refused-one (by_memory (reply_not_stored {p = p} {g = g} h r s l)) =
      rw (value-one e w h) (reply-there e w g _ r s ∙ store-lacks e.sight.access (after_reply w g) w.memory p (with_cr g.line.bytes) l)
  refused-one at_end = refl

  within-one : (f : ForEntry) (x : ℕ) → Within f x → goes_on f.step x f.limit ≡ true
  within-one f x (upward s l) = rw (lt-ltb f.step 32768 s, le-ltb (order f.limit) (order x) l)
  within-one f x (downward s l) = rw (le-ltb f.step 32768 s, le-ltb (order x) (order f.limit) l)

  past_one : (f : ForEntry) (x : ℕ) → Past f x → goes_on f.step x f.limit ≡ false
  past_one f x (above s l) = rw (lt-ltb f.step 32768 s, lt-ltb (order f.limit) (order x) l)
  past_one f x (below s l) = rw (le-ltb f.step 32768 s, lt-ltb (order x) (order f.limit) l)

  performs-one : {q : Stmt} {d : Done} → Performs e w q d → exec e q w ≡ d
  unfolding exec gosub_to return_by do_here until_by for_here next_by keep_in
  performs-one (refuses r) = refused-one r
  performs-one remarks = refl
  performs-one (false_if h) = rw (value-one e w h)
  performs-one (assigns h) = rw (value-one e w h)
  performs-one (assigns_flags h) = rw (value-one e w h)
  performs-one (stores_byte {p = p} {x = x} h g l) = rw (value-one e w h, value-one e w g) (store-fits e.sight.access w w.memory p (x % 256 ∷ []) (omega arith) l.there l.own)
  performs-one (stores_text {p = p} {bs = bs} h l) = rw (value-one e w h) (store-fits e.sight.access w w.memory p (with_cr bs) (some_bytes bs) l.there l.own)
  performs-one (copies {p = p} {q = q} {bs = bs} h g s l) =
      rw (value-one e w h, value-one e w g, string-one e.sight.access w.memory q s) (store-fits e.sight.access w w.memory p (with_cr bs) (some_bytes bs) l.there l.own)
  performs-one (goes_to_line h l) = line-there _ h l
  performs-one (calls_line h l f) = line-there (gosub_to e w) h l ∙ rw (lt-ltb w.session.gosubs.depth 8 f)
  performs-one (begins f) = rw (lt-ltb w.session.dos.depth 8 f)
  performs-one (counts h g f l) = rw (value-one e w h, value-one e w g, value-one e w f) (rw (lt-ltb w.session.fors.depth 4 l))
  performs-one (returns {p = p} t h) =
      ap (return_by w) (top_one t) ∙ rw (ne_eqb (position p) mark h, depth-one 8 w.session.gosubs.depth t.some t.within)
  performs-one (returns_to_mark {p = p} t h) =
      ap (return_by w) (top_one t) ∙ rw (eq-eqb (position p) mark h, depth-one 8 w.session.gosubs.depth t.some t.within)
  performs-one (repeats h t) = rw (value-one e w h) (ap (until_by w 0) (top_one t))
  performs-one (leaves {x = x} h n t) =
      rw (value-one e w h) (ap (until_by w x) (top_one t) ∙ rw (ne_eqb x 0 n, depth-one 8 w.session.dos.depth t.some t.within))
  performs-one (counts_on {v = v} {f = f} t h i) = ap (next_by w v) (topfor-one t) ∙ rw (eq-eqb f.var v h, within-one f (step_added w v f) i)
  performs-one (finishes {v = v} {f = f} t h i) =
      ap (next_by w v) (topfor-one t) ∙ rw (eq-eqb f.var v h, past_one f (step_added w v f) i, depth-one 4 w.session.fors.depth t.some t.within)
  performs-one (prints m) = all-out e (put_end true) m
  performs-one (prints_end {u = u} m r) = all-out e (put_end false) m ∙ sym (went_on (put (13 ∷ 10 ∷ []) u)) ∙ put-fits (13 ∷ 10 ∷ []) u (λ v. done on v) r
  performs-one (inputs {vs = vs} {g = g} r s l m) = reply-there e w g _ r s ∙ ap (assign_reply e vs (after_reply w g)) (replied-complete l) ∙ all-given e m
  performs-one (inputs_string {p = p} {g = g} h r s l) =
      rw (value-one e w h) (reply-there e w g _ r s
      ∙ store-fits e.sight.access (after_reply w g) w.memory p (with_cr g.line.bytes) (some_bytes g.line.bytes) l.there l.own)

  pub reached-one : {s q : Stmt} → Reaches e w s q → exec e s w ≡ exec e q w
  unfolding exec
  reached-one itself = refl
  reached-one (through_if {q = q} {x = x} h z r) =
      ap (λ (v : Value). given v w (λ y. elim (eqb y 0) [ true ↦ done skip w | false ↦ exec e q w ])) (value-one e w h)
      ∙ ap (λ (c : Bool). elim c [ true ↦ done skip w | false ↦ exec e q w ]) (ne_eqb x 0 z) ∙ reached-one r

  pub works-one : {s : Stmt} {d : Done} → Works e s w d → exec e s w ≡ d
  works-one r = reached-one r.reached ∙ performs-one r.performed

  -- the definition and the rules are one
  pub works-exactly : (s : Stmt) (d : Done) → (exec e s w ≡ d) ↔ Works e s w d
  works-exactly s d = (λ h. rw h at (works e s w), works-one)

  -- and no two outcomes are in the rules
  pub works-unique : {s : Stmt} {d d' : Done} → Works e s w d → Works e s w d' → d ≡ d'
  works-unique p q = sym (works-one p) ∙ works-one q
