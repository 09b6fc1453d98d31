-- What a statement writes: whole items, in the world in which it begins. Assumes nothing.
use Prim.Native.Nat.{ℕ}
use mathlib.Core.Path.{◌≡◌, refl, sym, subst, ◌∙◌}
use mathlib.Core.Bool.{Bool, true, false, true≢false}
use mathlib.Core.List.{List}
use lib.Dec.{eqb}
use borrow.Author.Tests.{eqb-false}
use Rattle.nibl.specs.Tree.{Expr, var, const, stat, top, byte_at, invert, negate, modulo, two}
use Rattle.nibl.specs.Tree.{Item, text, stored, value}
use Rattle.nibl.specs.Tree.{Stmt, let_var, let_stat, let_byte, let_copy, let_text, goto, gosub, until, return, do_loop, remark, end, print, if_then, for, next, input, input_text}
use Rattle.nibl.specs.Values.{is, no, Value, not16, sub16, mod16, apply, printed}
use Rattle.nibl.specs.Meaning.{World, Env, skip, stop, Done, done, with_output, bind, byte_of, string_at, eval, exec}
use Rattle.demands.specs.Items.{In, first, further, item_bytes, ItemOf, Prints, writes, refused, no_room, no_end, no_room_for_end}
use Rattle.demands.specs.Items as items
use Rattle.demands.specs.Asks.{input_vars}
use Rattle.demands.specs.Leaves.{no_item, item, none_taken, Refused, world_after}
use Rattle.demands.specs.ItemsIn.{ItemIn, of_print, end_of_print, of_input, of_input_text, of_if, StatementWrote}
use Rattle.demands.proofs.Effects.{exec-does}
use Rattle.demands.proofs.Held.{items_as, refusing-statement}
use Rattle.demands.proofs.Printing.{print-works-item-by-item}
use Rattle.demands.proofs.Written.{Grew, nothing-new, does-grew}

-- no expression reads the output
module _ (e : Env) (w : World) (out : List ℕ) (at : ℕ) where
  eval-same : (a : Expr) → eval e (with_output w out at) a ≡ eval e w a
  unfolding eval
  eval-same (var v) = refl
  eval-same (const n) = refl
  eval-same stat = refl
  eval-same top = refl
  eval-same (byte_at a) = λ i. bind (eval-same a i) (λ x. byte_of e.sight.access w.memory x)
  eval-same (invert a) = λ i. bind (eval-same a i) (λ x. is (not16 x))
  eval-same (negate a) = λ i. bind (eval-same a i) (λ x. is (sub16 0 x))
  eval-same (modulo a b) = λ i. bind (eval-same a i) (λ x. bind (eval-same b i) (λ y. mod16 x y))
  eval-same (two o a b) = λ i. bind (eval-same a i) (λ x. bind (eval-same b i) (λ y. apply o x y))

  item-same : (i : Item) → item_bytes e (with_output w out at) i ≡ item_bytes e w i
  item-same (text bs) = refl
  item-same (stored a) = λ i. bind (eval-same a i) (string_at e.sight.access w.memory)
  item-same (value a) = λ i. bind (eval-same a i) (λ x. is (printed x))

-- PRINT: all is some of its items, w is a world that differs from v in its output alone
module _ (e : Env) (v : World) (b : Bool) (all : List Item) where
  abbrev WroteItems : World → World → Type 0
  WroteItems w u = Grew (ItemIn e v (print all b)) e.lim e.input w u

  prints-wrote : {some : List Item} {w : World} {d : Done} → ((i : Item) → In i some → In i all) → ((i : Item) → item_bytes e w i ≡ item_bytes e v i) → Prints e b some w d
      → WroteItems w (world_after d)
  prints-wrote {w = w} f s (writes {i = i} bs h r p) =
      let more = prints-wrote (λ j k. f j (further k)) (λ j. item-same e w _ _ j ∙ s j) p in
      record { items = item bs (of_print i (f i first) (sym (s i) ∙ h)) r more.items; lines = more.lines }
  prints-wrote f s (refused h) = nothing-new (ItemIn e v (print all b)) e.lim e.input
  prints-wrote f s (no_room bs h r) = nothing-new (ItemIn e v (print all b)) e.lim e.input
  prints-wrote f s (no_end h) = nothing-new (ItemIn e v (print all b)) e.lim e.input
  prints-wrote f s (items.end h r) = record { items = item _ (end_of_print h) r no_item; lines = none_taken }
  prints-wrote f s (no_room_for_end h r) = nothing-new (ItemIn e v (print all b)) e.lim e.input

-- statements that write nothing
abbrev speaks : Stmt → Bool
speaks (let_var v a) = false
speaks (let_stat a) = false
speaks (let_byte a b) = false
speaks (let_copy a b) = false
speaks (let_text a bs) = false
speaks (goto a) = false
speaks (gosub a) = false
speaks (until a) = false
speaks return = false
speaks do_loop = false
speaks remark = false
speaks end = false
speaks (print is' b) = true
speaks (if_then a q) = true
speaks (for v a b c) = false
speaks (next v) = false
speaks (input vs) = true
speaks (input_text a) = true

silent : {A : Type 0} {e : Env} {q : Stmt} {bs : List ℕ} → ItemOf e q bs → speaks q ≡ false → A
silent (items.of_print i w j h) z = absurd (true≢false z)
silent (items.end_of_print h) z = absurd (true≢false z)
silent items.of_input z = absurd (true≢false z)
silent items.of_input_text z = absurd (true≢false z)
silent (items.of_if i) z = absurd (true≢false z)

module _ (e : Env) (w : World) where
  -- a statement whose items are known by its list of effects
  wrote_by : (q : Stmt) → ((bs : List ℕ) → ItemOf e q bs → ItemIn e w q bs) → StatementWrote e q w (world_after (exec e q w))
  wrote_by q f = does-grew (ItemIn e w q) e.lim e.input f refl refl (exec-does e q w)

  quiet : (q : Stmt) → speaks q ≡ false → StatementWrote e q w (world_after (exec e q w))
  quiet q z = wrote_by q (λ bs i. silent i z)

  asks : (vs : List ℕ) {bs : List ℕ} → ItemOf e (input vs) bs → ItemIn e w (input vs) bs
  asks vs items.of_input = of_input

  asks-text : (a : Expr) (p : ℕ) → eval e w a ≡ is p → {bs : List ℕ} → ItemOf e (input_text a) bs → ItemIn e w (input_text a) bs
  asks-text a p h items.of_input_text = of_input_text p h

  behind-if : (a : Expr) (q : Stmt) (u : World) (v : ℕ) → eval e w a ≡ is v → (v ≡ 0 → ⊥) → StatementWrote e q w u → StatementWrote e (if_then a q) w u
  behind-if a q u v h z s = record { items = items_as (λ bs i. of_if v h z i) s.items; lines = s.lines }

  nothing : (q : Stmt) → StatementWrote e q w w
  nothing q = nothing-new (ItemIn e w q) e.lim e.input

by_value : {P : Type 0} (r : Value) → ((x : ℕ) → r ≡ is x → P) → ((n : ℕ) → r ≡ no n → P) → P
by_value (is x) f g = f x refl
by_value (no n) f g = g n refl

pub a-statement-writes : (e : Env) (q : Stmt) (w : World) → StatementWrote e q w (world_after (exec e q w))
unfolding exec
a-statement-writes e (let_var v a) w = quiet e w (let_var v a) refl
a-statement-writes e (let_stat a) w = quiet e w (let_stat a) refl
a-statement-writes e (let_byte a b) w = quiet e w (let_byte a b) refl
a-statement-writes e (let_copy a b) w = quiet e w (let_copy a b) refl
a-statement-writes e (let_text a bs) w = quiet e w (let_text a bs) refl
a-statement-writes e (goto a) w = quiet e w (goto a) refl
a-statement-writes e (gosub a) w = quiet e w (gosub a) refl
a-statement-writes e (until a) w = quiet e w (until a) refl
a-statement-writes e return w = quiet e w return refl
a-statement-writes e do_loop w = quiet e w do_loop refl
a-statement-writes e remark w = quiet e w remark refl
a-statement-writes e end w = quiet e w end refl
a-statement-writes e (print is' b) w = prints-wrote e w b is' (λ i j. j) (λ i. refl) (print-works-item-by-item e is' b w)
a-statement-writes e (if_then a q) w =
    by_value (eval e w a) (λ x h. rw (h, exec) (by x h (eqb x 0) refl (a-statement-writes e q w))) (λ n h. rw (h, exec) (nothing e w (if_then a q)))
  where
    by : (x : ℕ) → eval e w a ≡ is x → (b : Bool) → eqb x 0 ≡ b → StatementWrote e q w (world_after (exec e q w))
        → StatementWrote e (if_then a q) w (world_after (elim b [ true ↦ done skip w | false ↦ exec e q w ]))
    by x h true z s = nothing e w (if_then a q)
    by x h false z s = behind-if e w a q (world_after (exec e q w)) x h (eqb-false x 0 z) s
a-statement-writes e (for v a b c) w = quiet e w (for v a b c) refl
a-statement-writes e (next v) w = quiet e w (next v) refl
a-statement-writes e (input vs) w = wrote_by e w (input vs) (λ bs i. asks e w vs i)
a-statement-writes e (input_text a) w =
    by_value (eval e w a) (λ p h. wrote_by e w (input_text a) (λ bs i. asks-text e w a p h i)) (λ n h. rw (h, exec) (nothing e w (input_text a)))

-- so a refusing statement leaves whole items of its world
pub a-refusing-statement : (e : Env) (q : Stmt) (w u : World) (n : ℕ) → exec e q w ≡ done (stop n) u → (n ≡ 0 → ⊥) → Refused e (input_vars q) (ItemIn e w q) w u
a-refusing-statement e q w u n h z =
    let r = refusing-statement e q w u n h z in
    let s : StatementWrote e q w u = subst (λ d. StatementWrote e q w (world_after d)) h (a-statement-writes e q w) in
    record { given = r.given; rest = r.rest; memory = r.memory; items = s.items; lines = s.lines }
