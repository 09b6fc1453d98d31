-- An immediate statement takes no input, and nor does LIST. Assumes nothing.
use Prim.Native.Nat.{ℕ, ◌+◌}
use Rattle.std.specs.Prelude.{Option, Some, None}
use Rattle.nibl.specs.declared.Place.{Place}
use mathlib.Core.Path.{◌≡◌, refl, ◌∙◌}
use mathlib.Core.Bool.{Bool, true, false, true≢false}
use mathlib.Core.List.{List, [], ◌∷◌}
use lib.ListN.{length}
use lib.Dec.{leb, eqb}
use Rattle.nibl.specs.Tree.{Item, text, stored, value}
use Rattle.nibl.specs.Tree.{Stmt, let_var, let_stat, let_byte, let_copy, let_text, goto, gosub, until, return, do_loop, remark, end, print, if_then, for, next, input, input_text}
use Rattle.nibl.specs.Values.{Result, is, no, printed}
use Rattle.nibl.specs.Stack.{push_of}
use Rattle.nibl.specs.Page.{Stored, find}
use Rattle.nibl.specs.Meaning.{World, Env, on, skip, go, stop, Done, done, bind, given, went, eval, string_at, line_there, put, put_item, put_items, put_end, keep_in, gosub_to, return_by, exec}
use Rattle.nibl.specs.Record.{place}
use Rattle.nibl.specs.Calls.{needs_program, listed, list_from}
use Rattle.nibl.proofs.Words.{if-split}
use Rattle.demands.specs.Leaves.{world_after}

pub record Keeps (w : World) (d : Done) : Type 0 where
  pub same : (world_after d).inpos ≡ w.inpos

kept : {w : World} {d : Done} → (world_after d).inpos ≡ w.inpos → Keeps w d
kept e = record { same = e }

module _ {A : Type 0} where
  given-keeps : (r : Result A) (w : World) (k : A → Done) → ((a : A) → Keeps w (k a)) → Keeps w (given r w k)
  given-keeps (is a) w k f = f a
  given-keeps (no n) w k f = kept refl

went-keeps : (w : World) (d : Done) (k : World → Done) → Keeps w d → ((u : World) → Keeps u (k u)) → Keeps w (went d k)
went-keeps w (done on u) k h f = kept ((f u).same ∙ h.same)
went-keeps w (done skip u) k h f = kept h.same
went-keeps w (done (go q) u) k h f = kept h.same
went-keeps w (done (stop n) u) k h f = kept h.same

put_keeps : (bs : List ℕ) (w : World) → Keeps w (put bs w)
unfolding put
put_keeps bs w = if-split (Keeps w) (leb (w.outpos + length bs) (length w.output)) (λ _. kept refl) (λ _. kept refl)

item-keeps : (e : Env) (i : Item) (w : World) → Keeps w (put_item e i w)
unfolding put_item
item-keeps e (text bs) w = put_keeps bs w
item-keeps e (stored a) w = given-keeps (bind (eval e w a) (string_at e.sight.access w.memory)) w _ (λ bs. put_keeps bs w)
item-keeps e (value a) w = given-keeps (eval e w a) w _ (λ x. put_keeps (printed x) w)

items_keep : (e : Env) (items : List Item) (w : World) → Keeps w (put_items e items w)
unfolding put_items
items_keep e [] w = kept refl
items_keep e (i ∷ items) w = went-keeps w (put_item e i w) (put_items e items) (item-keeps e i w) (items_keep e items)

end-keeps : (b : Bool) (w : World) → Keeps w (put_end b w)
end-keeps true w = kept refl
end-keeps false w = put_keeps _ w

memory-keeps : (w : World) (r : Result (List ℕ)) → Keeps w (keep_in w r)
unfolding keep_in
memory-keeps w r = given-keeps r w _ (λ m. kept refl)

gosub-keeps : (e : Env) (w : World) (q : ℕ) → Keeps w (gosub_to e w q)
unfolding gosub_to
gosub-keeps e w q = if-split (Keeps w) (push_of w.session.gosubs (place e.here)).ok (λ _. kept refl) (λ _. kept refl)

return-keeps : (w : World) (t : Option Place) → Keeps w (return_by w t)
unfolding return_by
return-keeps w None = kept refl
return-keeps w (Some p) = kept refl

pub exec_keeps : (e : Env) (q : Stmt) (w : World) → needs_program q ≡ false → Keeps w (exec e q w)
unfolding exec
exec_keeps e (let_var v a) w h = given-keeps (eval e w a) w _ (λ x. kept refl)
exec_keeps e (let_stat a) w h = given-keeps (eval e w a) w _ (λ x. kept refl)
exec_keeps e (let_byte a b) w h = given-keeps (eval e w a) w _ (λ p. given-keeps (eval e w b) w _ (λ x. memory-keeps w _))
exec_keeps e (let_copy a b) w h = given-keeps (eval e w a) w _ (λ p. given-keeps (eval e w b) w _ (λ q. memory-keeps w _))
exec_keeps e (let_text a bs) w h = given-keeps (eval e w a) w _ (λ p. memory-keeps w _)
exec_keeps e (goto a) w h = given-keeps (bind (eval e w a) (λ n. line_there (find e.page n))) w _ (λ q. kept refl)
exec_keeps e (gosub a) w h = given-keeps (bind (eval e w a) (λ n. line_there (find e.page n))) w _ (gosub-keeps e w)
exec_keeps e (until a) w h = absurd (true≢false h)
exec_keeps e return w h = return-keeps w _
exec_keeps e do_loop w h = absurd (true≢false h)
exec_keeps e remark w h = kept refl
exec_keeps e end w h = kept refl
exec_keeps e (print items b) w h = went-keeps w (put_items e items w) (put_end b) (items_keep e items w) (end-keeps b)
exec_keeps e (if_then a q) w h = given-keeps (eval e w a) w _ (λ x. by (exec e q w) (eqb x 0) (exec_keeps e q w h)) where
  by : (d : Done) (b : Bool) → Keeps w d → Keeps w (elim b [ true ↦ done skip w | false ↦ d ])
  by d true k = kept refl
  by d false k = k
exec_keeps e (for v a b c) w h = absurd (true≢false h)
exec_keeps e (next v) w h = absurd (true≢false h)
exec_keeps e (input vs) w h = absurd (true≢false h)
exec_keeps e (input_text a) w h = absurd (true≢false h)

pub list-keeps : (n : ℕ) (rs : List Stored) (w : World) → Keeps w (list_from n rs w)
unfolding list_from
list-keeps n [] w = kept refl
list-keeps n (r ∷ rs) w = by (leb n r.line) (list-keeps n rs) where
  by : (b : Bool) → ((u : World) → Keeps u (list_from n rs u)) → Keeps w (elim b [ true ↦ went (put (listed r) w) (list_from n rs) | false ↦ list_from n rs w ])
  by true f = went-keeps w (put (listed r) w) (list_from n rs) (put_keeps (listed r) w) f
  by false f = f w
