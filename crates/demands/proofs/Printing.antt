-- PRINT works item by item and LIST line by line: a 17 leaves exactly what came before the item that does not fit. Assumes nothing.
use Rattle.std.specs.Prelude.{if◌then◌else◌}
use Prim.Native.Nat.{ℕ, ◌+◌}
use mathlib.Core.Path.{◌≡◌, refl}
use mathlib.Core.Bool.{Bool, true, false}
use mathlib.Core.List.{List, [], ◌∷◌}
use lib.ListN.{length}
use lib.Dec.{leb}
use borrow.Author.Tests.{leb-true, leb-false}
use Rattle.nibl.specs.Tree.{Item, text, stored, value, print}
use Rattle.nibl.specs.Values.{Result, is, no, Value, printed}
use Rattle.nibl.specs.Page.{Stored}
use Rattle.nibl.specs.Meaning.{World, Env, on, skip, go, stop, Done, done, bind, given, went, eval, put, put_item, put_items, put_end, exec}
use Rattle.nibl.specs.Calls.{listed, list_from}
use Rattle.demands.specs.Items.{item_bytes, wrote_item, HasRoom, NoRoom, Prints, writes, refused, no_room, no_end, end, no_room_for_end, ListsLines, over, below, lists_line, no_room_for_line}
use Rattle.demands.proofs.Effects.{went-went}

-- an item, and what follows it
pub put-split : (P : Done → Type 0) (bs : List ℕ) (w : World) (k : World → Done) → (HasRoom w bs → P (k (wrote_item w bs))) → (NoRoom w bs → P (done (stop 17) w)) → P (went (put bs w) k)
unfolding put
put-split P bs w k f g = by (leb (w.outpos + length bs) (length w.output)) refl where
  by : (b : Bool) → leb (w.outpos + length bs) (length w.output) ≡ b → P (went (if b then done on (wrote_item w bs) else done (stop 17) w) k)
  by true h = f (leb-true _ _ h)
  by false h = g (leb-false _ _ h)

pub went_on : (d : Done) → went d (λ w. done on w) ≡ d
went_on (done on w) = refl
went_on (done skip w) = refl
went_on (done (go q) w) = refl
went_on (done (stop n) w) = refl

pub item-put : (e : Env) (i : Item) (w : World) → put_item e i w ≡ given (item_bytes e w i) w (λ bs. put bs w)
unfolding put_item
item-put e (text bs) w = refl
item-put e (stored a) w = refl
item-put e (value a) w = by (eval e w a) where
  by : (r : Value) → given r w (λ x. put (printed x) w) ≡ given (bind r (λ x. is (printed x))) w (λ bs. put bs w)
  by (is x) = refl
  by (no n) = refl

module _ (e : Env) (b : Bool) where
  end-prints : (c : Bool) → b ≡ c → (w : World) → Prints e b [] w (put_end c w)
  end-prints true h w = no_end h
  end-prints false h w =
      rw (← went_on (put (13 ∷ 10 ∷ []) w)) (put-split (Prints e b [] w) (13 ∷ 10 ∷ []) w (λ u. done on u) (λ r. end h r) (λ r. no_room_for_end h r))

  items-print : (items : List Item) (w : World) → Prints e b items w (went (put_items e items w) (put_end b))
  unfolding put_items
  items-print [] w = end-prints b refl w
  items-print (i ∷ items) w =
      rw (went-went (put_item e i w) (put_items e items) (put_end b), item-put e i w) (by (λ u. items-print items u) (item_bytes e w i) refl)
    where
      by : ((u : World) → Prints e b items u (went (put_items e items u) (put_end b))) → (r : Result (List ℕ)) → item_bytes e w i ≡ r
          → Prints e b (i ∷ items) w (went (given r w (λ bs. put bs w)) (λ u. went (put_items e items u) (put_end b)))
      by f (is bs) h = put-split (Prints e b (i ∷ items) w) bs w (λ u. went (put_items e items u) (put_end b)) (λ r. writes bs h r (f (wrote_item w bs))) (λ r. no_room bs h r)
      by f (no n) h = refused h

pub print-works-item-by-item : (e : Env) (items : List Item) (b : Bool) (w : World) → Prints e b items w (exec e (print items b) w)
unfolding exec
print-works-item-by-item e items b w = items-print e b items w

pub list-works-line-by-line : (n : ℕ) (rs : List Stored) (w : World) → ListsLines n rs w (list_from n rs w)
unfolding list_from
list-works-line-by-line n [] w = over
list-works-line-by-line n (r ∷ rs) w = by (λ u. list-works-line-by-line n rs u) (leb n r.line) refl where
  by : ((u : World) → ListsLines n rs u (list_from n rs u)) → (b : Bool) → leb n r.line ≡ b
      → ListsLines n (r ∷ rs) w (elim b [ true ↦ went (put (listed r) w) (list_from n rs) | false ↦ list_from n rs w ])
  by f true h =
      put-split (ListsLines n (r ∷ rs) w) (listed r) w (list_from n rs) (λ i. lists_line (leb-true _ _ h) i (f (wrote_item w (listed r)))) (λ i. no_room_for_line (leb-true _ _ h) i)
  by f false h = below (leb-false _ _ h) (f w)
