-- To run the operations of a statement is to do what the statement says. Assumes nothing.
use Rattle.std.specs.Prelude.{if◌then◌else◌}
use Prim.Native.Nat.{ℕ, suc, ◌+◌, ◌%◌, ◌≤◌, ◌<◌}
use mathlib.Core.Path.{◌≡◌, refl, sym, ap, ◌∙◌}
use mathlib.Core.Bool.{Bool, true, false, not, ◌&&◌}
use mathlib.Core.List.{List, [], ◌∷◌, ◌++◌, append_assoc}
use native.Mathlib.Omega.{arith}
use native.Mathlib.Numerals.{add-one}
use borrow.Author.Tests.{ltb-true, leb-true, le-leb, not-true}
use lib.Dec.{ltb, leb, eqb}
use lib.ListN.{length, get_or, set, length-set}
use lib.Seq.{sets}
use Rattle.nibl.specs.Bytes.{is_text, is_quotable, All, none as no_byte, each as each_byte}
use Rattle.nibl.specs.Tree.{Expr, Item, Stmt}
use Rattle.nibl.specs.Values.{Result, is, no}
use Rattle.nibl.specs.found.Read.{replied}
use Rattle.nibl.specs.Page.{find}
use Rattle.nibl.specs.Meaning.{World, Env, on, skip, go, stop, Done, done, with_output, bind, given, went, string_at, line_there, eval, put, store_at, keep_in, put_item, put_items, put_end, assign_reply, asked, gosub_to, exec}
use Rattle.nibl.proofs.Words.{and_left, and_right}
use Rattle.relation.specs.Code.{values}
use Rattle.codes.specs.Codes.{op, codes, effects, code_in, argument_in}
use Rattle.codes.specs.Codes.{code_set_variable, code_set_stat, code_set_byte, code_store_string, code_string_byte, code_copy_string, code_goto, code_gosub, code_return, code_print_room, code_print_byte, code_print_string, code_print_number, code_print_end, code_if, code_do, code_until, code_for, code_next, code_input, code_input_variable, code_input_string, code_end}
use Rattle.reader.specs.Code.{texts, item_code, items_code, end_code, compile}
use Rattle.operation.specs.Operations.{effect_by, variables_of, last_by, is_last, run_ops}
use Rattle.world.specs.Stores.{args_of}
use Rattle.operation.specs.Fine.{FineExpr, Every, no_more, each, FineItem, a_text, a_stored, a_value}
use Rattle.operation.specs.Fine.{FineStmt, a_let_var, a_let_stat, a_let_byte, a_let_copy, a_let_text, a_goto, a_gosub, an_until, a_return, a_do, a_remark, an_end, a_print, an_if, a_for, a_next, an_input, an_input_text}
use Rattle.operation.proofs.Values.{code_of, arg-of, values-run}

-- What a result and an end hand on
module _ {A : Type 0} where
  given-same : (r : Result A) (w : World) (f g : A → Done) → ((a : A) → f a ≡ g a) → given r w f ≡ given r w g
  given-same (is a) w f g h = h a
  given-same (no n) w f g h = refl

  given-bind : {B : Type 0} (r : Result A) (k : A → Result B) (w : World) (f : B → Done) → given r w (λ a. given (k a) w f) ≡ given (bind r k) w f
  given-bind (is a) k w f = refl
  given-bind (no n) k w f = refl

  went-given : (r : Result A) (w : World) (f : A → Done) (g : World → Done) → went (given r w f) g ≡ given r w (λ a. went (f a) g)
  went-given (is a) w f g = refl
  went-given (no n) w f g = refl

went-same : (d : Done) (f g : World → Done) → ((u : World) → f u ≡ g u) → went d f ≡ went d g
went-same (done on w) f g h = h w
went-same (done skip w) f g h = refl
went-same (done (go q) w) f g h = refl
went-same (done (stop n) w) f g h = refl

went-went : (d : Done) (f g : World → Done) → went (went d f) g ≡ went d (λ u. went (f u) g)
went-went (done on w) f g = refl
went-went (done skip w) f g = refl
went-went (done (go q) w) f g = refl
went-went (done (stop n) w) f g = refl

went-last : (d : Done) → went d (λ u. done on u) ≡ d
went-last (done on w) = refl
went-last (done skip w) = refl
went-last (done (go q) w) = refl
went-last (done (stop n) w) = refl

-- A string's bytes, as arguments
quotable-byte : (b : ℕ) → is_quotable b ≡ true → b % 256 ≡ b
quotable-byte b e =
    let h = leb-true b 126 (and_right (leb 32 b) (leb b 126) (and_left (leb 32 b && leb b 126) (not (eqb b 95)) (and_left (is_text b) (not (eqb b 34)) e))) in
    omega arith

args-texts : (c : ℕ) (bs rest : List ℕ) → c < codes → All is_quotable bs → args_of (texts c bs ++ rest) ≡ bs ++ args_of rest
args-texts c bs rest h no_byte = refl
args-texts c bs rest h (each_byte {b} {s} e a) = rw (arg-of c b h, quotable-byte b e) (ap (λ l. b ∷ l) (args-texts c s rest h a))

variables-texts : (c : ℕ) (vs : List ℕ) → c < codes → variables_of (texts c vs) ≡ vs
variables-texts c [] h = refl
variables-texts c (v ∷ vs) h = rw (arg-of c v h) (ap (λ l. v ∷ l) (variables-texts c vs h))

-- what is written, where it fits
abbrev written : List ℕ → World → World
written bs w = with_output w (sets w.output w.outpos bs) (w.outpos + length bs)

put-fits : (bs : List ℕ) (w : World) → w.outpos + length bs ≤ length w.output → put bs w ≡ done on (written bs w)
unfolding put
put-fits bs w h = rw (le-leb (w.outpos + length bs) (length w.output) h) refl

written_one : (b : ℕ) (bs : List ℕ) (w : World) → written bs (written (b ∷ []) w) ≡ written (b ∷ bs) w
written_one b bs w =
    let i : w.outpos + 1 ≡ suc w.outpos = add-one w.outpos in
    let n : suc w.outpos + length bs ≡ w.outpos + suc (length bs) = omega arith in
    rw (i, n) refl

-- One operation. Two take the rest of the list; the others that change the world leave it to run
abbrev is_effect : ℕ → Bool
is_effect c = ltb c codes && not (ltb c effects) && not (is_last c)

module _ (e : Env) where
  effect-way : (o : ℕ) (w : World) (vs rest : List ℕ) → ltb (code_in o) effects ≡ false → is_last (code_in o) ≡ false
      → run_ops e (o ∷ rest) w vs ≡ went (effect_by e (code_in o) (argument_in o) (get_or vs 0 0) (get_or vs 1 0) (get_or vs 2 0) w) (λ u. run_ops e rest u [])
  unfolding run_ops
  effect-way o w vs rest f g = rw (f, run_ops) (rw (g, run_ops) refl)

  last-way : (o : ℕ) (w : World) (vs rest : List ℕ) → ltb (code_in o) effects ≡ false → is_last (code_in o) ≡ true → run_ops e (o ∷ rest) w vs ≡ last_by e o (get_or vs 0 0) rest w
  unfolding run_ops
  last-way o w vs rest f g = rw (f, run_ops) (rw (g, run_ops) refl)

  run_on : (c arg : ℕ) (w : World) (vs rest : List ℕ) → is_effect c ≡ true
      → run_ops e (op c arg ∷ rest) w vs ≡ went (effect_by e c arg (get_or vs 0 0) (get_or vs 1 0) (get_or vs 2 0) w) (λ u. run_ops e rest u [])
  run_on c arg w vs rest h =
      let i = and_left (ltb c codes && not (ltb c effects)) (not (is_last c)) h in
      let l = ltb-true c codes (and_left (ltb c codes) (not (ltb c effects)) i) in
      effect-way (op c arg) w vs rest
      (rw (code_of c arg l) (not-true (ltb c effects) (and_right (ltb c codes) (not (ltb c effects)) i)))
      (rw (code_of c arg l) (not-true (is_last c) (and_right (ltb c codes && not (ltb c effects)) (not (is_last c)) h)))
      ∙ rw (code_of c arg l, arg-of c arg l) refl

  run_end : (c arg : ℕ) (w : World) (vs : List ℕ) → is_effect c ≡ true
      → run_ops e (op c arg ∷ []) w vs ≡ effect_by e c arg (get_or vs 0 0) (get_or vs 1 0) (get_or vs 2 0) w
  unfolding run_ops
  run_end c arg w vs h = run_on c arg w vs [] h ∙ went-last (effect_by e c arg (get_or vs 0 0) (get_or vs 1 0) (get_or vs 2 0) w)

  -- PRINT's items: a string asks for its room once, then each byte finds it
  bytes_run : (bs : List ℕ) (w : World) (rest : List ℕ) → All is_quotable bs → w.outpos + length bs ≤ length w.output
      → run_ops e (texts code_print_byte bs ++ rest) w [] ≡ run_ops e rest (written bs w) []
  unfolding effect_by
  bytes_run bs w rest no_byte h = let i : w.outpos + 0 ≡ w.outpos = omega arith in rw i refl
  bytes_run bs w rest (each_byte {b} {s} q a) h =
      let k : w.outpos + 1 + length s ≤ length (set w.output w.outpos b) = omega (arith, length-set w.output w.outpos b) in
      run_on code_print_byte b w [] (texts code_print_byte s ++ rest) refl
      ∙ rw (quotable-byte b q, put-fits (b ∷ []) w (omega arith)) (bytes_run s (written (b ∷ []) w) rest a k)
      ∙ ap (λ u. run_ops e rest u []) (written_one b s w)

  text-run : (bs : List ℕ) (w : World) (rest : List ℕ) → All is_quotable bs
      → run_ops e (op code_print_room (length bs) ∷ (texts code_print_byte bs ++ rest)) w [] ≡ went (put bs w) (λ u. run_ops e rest u [])
  unfolding effect_by put
  text-run bs w rest a = run_on code_print_room (length bs) w [] (texts code_print_byte bs ++ rest) refl ∙ by (leb (w.outpos + length bs) (length w.output)) refl where
    by : (t : Bool) → leb (w.outpos + length bs) (length w.output) ≡ t
        → went (if t then done on w else done (stop code_set_stat) w) (λ u. run_ops e (texts code_print_byte bs ++ rest) u [])
        ≡ went (if t then done on (written bs w) else done (stop code_set_stat) w) (λ u. run_ops e rest u [])
    by true h = bytes_run bs w rest a (leb-true _ _ h)
    by false h = refl

  -- a value, one operation on it, and what follows
  value-run : (a : Expr) → FineExpr a → (c : ℕ) (w : World) (rest : List ℕ) → is_effect c ≡ true
      → run_ops e ((values a ++ (op c 0 ∷ [])) ++ rest) w [] ≡ went (given (eval e w a) w (λ x. effect_by e c 0 x 0 0 w)) (λ u. run_ops e rest u [])
  value-run a f c w rest h =
      rw (append_assoc (values a) (op c 0 ∷ []) rest)
      (values-run e w a f [] (op c 0 ∷ rest)
      ∙ given-same (eval e w a) w _ (λ x. went (effect_by e c 0 x 0 0 w) (λ u. run_ops e rest u [])) (λ x. run_on c 0 w (x ∷ []) rest h)
      ∙ sym (went-given (eval e w a) w (λ x. effect_by e c 0 x 0 0 w) (λ u. run_ops e rest u [])))

  item-run : (i : Item) → FineItem i → (w : World) (rest : List ℕ) → run_ops e (item_code i ++ rest) w [] ≡ went (put_item e i w) (λ u. run_ops e rest u [])
  unfolding item_code put_item effect_by
  item-run i (a_text {bs} a) w rest = text-run bs w rest a
  item-run i (a_stored {a} f) w rest =
      value-run a f code_print_string w rest refl
      ∙ ap (λ d. went d (λ u. run_ops e rest u [])) (given-bind (eval e w a) (string_at e.sight.access w.memory) w (λ bs. put bs w))
  item-run i (a_value {a} f) w rest = value-run a f code_print_number w rest refl

  items-run : (items : List Item) → Every FineItem items → (w : World) (rest : List ℕ)
      → run_ops e (items_code items ++ rest) w [] ≡ went (put_items e items w) (λ u. run_ops e rest u [])
  unfolding items_code put_items
  items-run items no_more w rest = refl
  items-run items (each {a = i} {l = items'} f g) w rest =
      rw (append_assoc (item_code i) (items_code items') rest)
      (item-run i f w (items_code items' ++ rest)
      ∙ went-same (put_item e i w) _ (λ u. went (put_items e items' u) (λ v. run_ops e rest v [])) (λ u. items-run items' g u rest)
      ∙ sym (went-went (put_item e i w) (put_items e items') (λ u. run_ops e rest u [])))

  end-run : (b : Bool) (w : World) → run_ops e (end_code b) w [] ≡ put_end b w
  unfolding run_ops effect_by
  end-run true w = refl
  end-run false w = run_end code_print_end 0 w [] refl

  -- one value or two, and one operation on them
  one : (a : Expr) → FineExpr a → (c arg : ℕ) (w : World) → is_effect c ≡ true
      → run_ops e (values a ++ (op c arg ∷ [])) w [] ≡ given (eval e w a) w (λ x. effect_by e c arg x 0 0 w)
  one a f c arg w h = values-run e w a f [] (op c arg ∷ []) ∙ given-same (eval e w a) w _ _ (λ x. run_end c arg w (x ∷ []) h)

  two : (a b : Expr) → FineExpr a → FineExpr b → (c : ℕ) (w : World) → is_effect c ≡ true
      → run_ops e (values a ++ (values b ++ (op c 0 ∷ []))) w [] ≡ given (eval e w a) w (λ x. given (eval e w b) w (λ y. effect_by e c 0 y x 0 w))
  two a b f g c w h =
      values-run e w a f [] (values b ++ (op c 0 ∷ []))
      ∙ given-same (eval e w a) w _ _ (λ x. values-run e w b g (x ∷ []) (op c 0 ∷ []) ∙ given-same (eval e w b) w _ _ (λ y. run_end c 0 w (y ∷ x ∷ []) h))

  -- IF goes on, or skips what is left
  skips : (q : Stmt) (w : World) (x : ℕ) → run_ops e (compile q) w [] ≡ exec e q w
      → went (if eqb x 0 then done skip w else done on w) (λ u. run_ops e (compile q) u []) ≡ elim (eqb x 0) [ true ↦ done skip w | false ↦ exec e q w ]
  skips q w x h = by (eqb x 0) where
    by : (t : Bool) → went (if t then done skip w else done on w) (λ u. run_ops e (compile q) u []) ≡ elim t [ true ↦ done skip w | false ↦ exec e q w ]
    by true = refl
    by false = h

  -- what takes the rest of the list
  store-run : (bs : List ℕ) (x : ℕ) (w : World) → All is_quotable bs
      → run_ops e (op code_store_string (length bs + 1) ∷ (texts code_string_byte bs ++ (op code_string_byte 13 ∷ []))) w (x ∷ []) ≡ keep_in w (store_at e.sight.access w.memory x (bs ++ (13 ∷ [])))
  unfolding last_by
  store-run bs x w h =
      let c = code_of code_store_string (length bs + 1) (omega arith) in
      last-way (op code_store_string (length bs + 1)) w (x ∷ []) (texts code_string_byte bs ++ (op code_string_byte 13 ∷ [])) (rw c refl) (rw c refl)
      ∙ rw (c, args-texts code_string_byte bs (op code_string_byte 13 ∷ []) (omega arith) h) refl

  reply-run : (vs : List ℕ) (w : World)
      → run_ops e (op code_input (length vs) ∷ texts code_input_variable vs) w [] ≡ asked e w (λ u bs. assign_reply e vs u (replied (length vs) bs))
  unfolding last_by
  reply-run vs w =
      let c = code_of code_input (length vs) (omega arith) in
      last-way (op code_input (length vs)) w [] (texts code_input_variable vs) (rw c refl) (rw c refl)
      ∙ rw (c, arg-of code_input (length vs) (omega arith), variables-texts code_input_variable vs (omega arith)) refl

  pub compiled : (q : Stmt) (w : World) → FineStmt q → run_ops e (compile q) w [] ≡ exec e q w
  unfolding compile exec effect_by run_ops
  compiled q w (a_let_var {v} {a} f) = one a f code_set_variable v w refl
  compiled q w (a_let_stat {a} f) = one a f code_set_stat 0 w refl
  compiled q w (a_let_byte {a} {b} f g) = two a b f g code_set_byte w refl
  compiled q w (a_let_copy {a} {b} f g) = two a b f g code_copy_string w refl
  compiled q w (a_let_text {a} {bs} f s) =
      values-run e w a f [] (op code_store_string (length bs + 1) ∷ (texts code_string_byte bs ++ (op code_string_byte 13 ∷ []))) ∙ given-same (eval e w a) w _ _ (λ x. store-run bs x w s)
  compiled q w (a_goto {a} f) = one a f code_goto 0 w refl ∙ given-bind (eval e w a) (λ n. line_there (find e.page n)) w (λ p. done (go p) w)
  compiled q w (a_gosub {a} f) = one a f code_gosub 0 w refl ∙ given-bind (eval e w a) (λ n. line_there (find e.page n)) w (gosub_to e w)
  compiled q w (an_until {a} f) = one a f code_until 0 w refl
  compiled q w a_return = run_end code_return 0 w [] refl
  compiled q w a_do = run_end code_do 0 w [] refl
  compiled q w a_remark = refl
  compiled q w an_end = run_end code_end 0 w [] refl
  compiled q w (a_print {is} {b} f) = items-run is f w (end_code b) ∙ went-same (put_items e is w) _ (put_end b) (end-run b)
  compiled q w (an_if {a} {q = p} f g) =
      values-run e w a f [] (op code_if 0 ∷ compile p)
      ∙ given-same (eval e w a) w _ _ (λ x. run_on code_if 0 w (x ∷ []) (compile p) refl ∙ skips p w x (compiled p w g))
  compiled q w (a_for {v} {a} {b} {c} l f g h) =
      let i : v % 256 ≡ v = omega arith in
      values-run e w a f [] (values b ++ (values c ++ (op code_for v ∷ [])))
      ∙ given-same (eval e w a) w _ _ (λ x. values-run e w b g (x ∷ []) (values c ++ (op code_for v ∷ []))
      ∙ given-same (eval e w b) w _ _ (λ y. values-run e w c h (y ∷ x ∷ []) (op code_for v ∷ [])
      ∙ given-same (eval e w c) w _ _ (λ z. run_end code_for v w (z ∷ y ∷ x ∷ []) refl ∙ rw i refl)))
  compiled q w (a_next {v} l) = let i : v % 256 ≡ v = omega arith in run_end code_next v w [] refl ∙ rw i refl
  compiled q w (an_input {vs}) = reply-run vs w
  compiled q w (an_input_text {a} f) = one a f code_input_string 0 w refl
