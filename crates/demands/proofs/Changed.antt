-- What assignments, stores, PRINT and INPUT change, with their values; and that they change nothing else. Assumes nothing.
use Prim.Native.Nat.{ℕ, ◌+◌, ◌%◌, ◌≤◌}
use mathlib.Core.Path.{◌≡◌, refl, sym, ap, subst, ◌∙◌}
use mathlib.Core.Bool.{Bool, true, false}
use mathlib.Core.List.{List, [], ◌∷◌, ◌++◌, append-nil}
use mathlib.Core.Logic.{◌↔◌}
use native.Mathlib.Nat.{add-zero}
use native.Mathlib.Omega.{arith}
use lib.ListN.{length, length-append}
use lib.Seq.{sets, sets-eq, length-sets, get_or-set_same, get_or-set_other}
use Rattle.nibl.specs.Tree.{Expr, Item, Stmt, let_var, let_byte, let_text, let_copy, print, input}
use Rattle.nibl.specs.Values.{Result}
use Rattle.nibl.specs.Record.{with_var}
use Rattle.nibl.specs.Meaning.{World, Env, on, done, with_session, with_memory, with_output, exec}
use Rattle.demands.specs.Items.{wrote_item, HasRoom}
use Rattle.demands.specs.Valued.{ValueOf, of_variable, of_constant, of_stat, of_top, of_byte, no_byte, of_not, of_minus, of_mod, of_two, in_byte, in_not, in_minus, left_of_mod, right_of_mod, left_of_two, right_of_two, ItemBytes, of_text, of_string, of_number, no_string, no_address, no_number}
use Rattle.demands.specs.Work.{with_cr, AllOut, none_left, one_out, Performs, assigns, stores_byte, stores_text, copies, prints, prints_end, inputs, Reaches, itself}
use Rattle.demands.specs.Changed.{OnlyVariable, OnlyBytes, OnlyOutput, Assigns, StoresByte, StoresText, Copies, ItemsBytes, no_items, next_item, WritesItems, Hears}
use Rattle.demands.proofs.Listing.{wrote-more}
use Rattle.demands.proofs.Work.{works, works-one}

only-variable : (w : World) (v x : ℕ) → OnlyVariable w v x (with_session w (with_var w.session v x))
only-variable w v x =
    record {
      given = λ h. get_or-set_same w.session.vars v x 0 h;
      others = λ i h. get_or-set_other w.session.vars v i x 0 h;
      rest = record { flags = refl; gosubs = refl; dos = refl; fors = refl; paused = refl };
      around = record { memory = refl; output = refl; outpos = refl; inpos = refl };
    }

only-bytes : (w : World) (p : ℕ) (bs : List ℕ) → p + length bs ≤ length w.memory → OnlyBytes w p bs (with_memory w (sets w.memory p bs))
only-bytes w p bs h = record { session = refl; room = h; memory = sets-eq bs w.memory p h; output = refl; outpos = refl; inpos = refl }

-- what is written changes no value, and no item
module _ (e : Env) (w : World) (out : List ℕ) where
  value_before : {a : Expr} {r : Result ℕ} → ValueOf e (wrote_item w out) a r → ValueOf e w a r
  value_before of_variable = of_variable
  value_before of_constant = of_constant
  value_before of_stat = of_stat
  value_before of_top = of_top
  value_before (of_byte h l m) = of_byte (value_before h) l m
  value_before (no_byte h l) = no_byte (value_before h) l
  value_before (of_not h) = of_not (value_before h)
  value_before (of_minus h) = of_minus (value_before h)
  value_before (of_mod h g r) = of_mod (value_before h) (value_before g) r
  value_before (of_two h g r) = of_two (value_before h) (value_before g) r
  value_before (in_byte h) = in_byte (value_before h)
  value_before (in_not h) = in_not (value_before h)
  value_before (in_minus h) = in_minus (value_before h)
  value_before (left_of_mod h) = left_of_mod (value_before h)
  value_before (right_of_mod h g) = right_of_mod (value_before h) (value_before g)
  value_before (left_of_two h) = left_of_two (value_before h)
  value_before (right_of_two h g) = right_of_two (value_before h) (value_before g)

  item-before : {i : Item} {r : Result (List ℕ)} → ItemBytes e (wrote_item w out) i r → ItemBytes e w i r
  item-before of_text = of_text
  item-before (of_string h s) = of_string (value_before h) s
  item-before (of_number h s) = of_number (value_before h) s
  item-before (no_string h s) = no_string (value_before h) s
  item-before (no_address h) = no_address (value_before h)
  item-before (no_number h) = no_number (value_before h)

  items-before : {items : List Item} {bs : List ℕ} → ItemsBytes e (wrote_item w out) items bs → ItemsBytes e w items bs
  items-before no_items = no_items
  items-before (next_item j m) = next_item (item-before j) (items-before m)

-- all items out, as one
record Out (e : Env) (w : World) (items : List Item) (u : World) : Type 0 where
  bytes : List ℕ
  shown : ItemsBytes e w items bytes
  room : w.outpos ≤ length w.output → HasRoom w bytes
  left : u ≡ wrote_item w bytes

all-out : {e : Env} {items : List Item} {w u : World} → AllOut e items w u → Out e w items u
all-out (none_left {w = w}) = record { bytes = []; shown = no_items; room = λ h. omega arith; left = ap (with_output w w.output) (sym (add-zero w.outpos)) }
all-out {e} (one_out {w = w} {bs = bs} j h m) =
    let o = all-out m in
    record {
      bytes = bs ++ o.bytes;
      shown = next_item j (items-before e w bs o.shown);
      room = λ l. let k = o.room (omega (arith, length-sets w.output w.outpos bs)) in omega (arith, length-append bs o.bytes, length-sets w.output w.outpos bs);
      left = o.left ∙ wrote-more w bs o.bytes;
    }

only-output : (w : World) (bs : List ℕ) → HasRoom w bs → OnlyOutput w bs (wrote_item w bs)
only-output w bs h = record { session = refl; memory = refl; room = h; output = sets-eq bs w.output w.outpos h; outpos = refl; inpos = refl }

out-alone : {e : Env} (w : World) {items : List Item} {u : World} → w.outpos ≤ length w.output → Out e w items u → WritesItems e w items true u
out-alone w room o =
    let f = only-output w o.bytes (o.room room) in
    record { bytes = o.bytes; shown = o.shown; only = subst (OnlyOutput w (o.bytes ++ [])) (sym o.left) (rw (append-nil o.bytes) f) }

out-ended : {e : Env} (w : World) {items : List Item} {u : World} → Out e w items u → HasRoom u (13 ∷ 10 ∷ [])
    → WritesItems e w items false (wrote_item u (13 ∷ 10 ∷ []))
out-ended w {u = u} o r =
    let end : List ℕ = 13 ∷ 10 ∷ [] in
    let a = ap (λ (z : World). z.outpos) o.left in
    let b = ap (λ (z : World). length z.output) o.left in
    let k : HasRoom w (o.bytes ++ end) = omega (arith, length-append o.bytes end, a, b, length-sets w.output w.outpos o.bytes) in
    let left : wrote_item u end ≡ wrote_item w (o.bytes ++ end) = ap (λ (z : World). wrote_item z end) o.left ∙ wrote-more w o.bytes end in
    record { bytes = o.bytes; shown = o.shown; only = subst (OnlyOutput w (o.bytes ++ end)) (sym left) (only-output w (o.bytes ++ end) k) }

module _ (e : Env) (w u : World) where
  -- "an assignment" gives its variable the value, and changes no other
  pub an-assignment-changes-one-variable : (v : ℕ) (a : Expr) → exec e (let_var v a) w ≡ done on u → Assigns e w v a u
  an-assignment-changes-one-variable v a h = let r = rw h at (works e (let_var v a) w) in by r.reached r.performed where
    by : {q : Stmt} {u : World} → Reaches e w (let_var v a) q → Performs e w q (done on u) → Assigns e w v a u
    by itself (assigns {x = x} i) = record { value = x; worth = i; only = only-variable w v x }

  -- "A store writes the low byte only"
  pub a-byte-store-changes-one-byte : (a b : Expr) → exec e (let_byte a b) w ≡ done on u → StoresByte e w a b u
  a-byte-store-changes-one-byte a b h = let r = rw h at (works e (let_byte a b) w) in by r.reached r.performed where
    by : {q : Stmt} {u : World} → Reaches e w (let_byte a b) q → Performs e w q (done on u) → StoresByte e w a b u
    by itself (stores_byte {p = p} {x = x} i j l) = record { address = p; value = x; at = i; worth = j; only = only-bytes w p (x % 256 ∷ []) l.there }

  -- "a store writes its CR too"
  pub a-string-store-changes-its-bytes : (a : Expr) (bs : List ℕ) → exec e (let_text a bs) w ≡ done on u → StoresText e w a bs u
  a-string-store-changes-its-bytes a bs h = let r = rw h at (works e (let_text a bs) w) in by r.reached r.performed where
    by : {q : Stmt} {u : World} → Reaches e w (let_text a bs) q → Performs e w q (done on u) → StoresText e w a bs u
    by itself (stores_text {p = p} i l) = record { address = p; at = i; only = only-bytes w p (with_cr bs) l.there }

  -- "copies behave as if the source were taken whole first"
  pub a-copy-changes-its-bytes : (a b : Expr) → exec e (let_copy a b) w ≡ done on u → Copies e w a b u
  a-copy-changes-its-bytes a b h = let r = rw h at (works e (let_copy a b) w) in by r.reached r.performed where
    by : {q : Stmt} {u : World} → Reaches e w (let_copy a b) q → Performs e w q (done on u) → Copies e w a b u
    by itself (copies {p = p} {q = q} {bs = bs} i j s l) =
        record { source = q; from = j; string = bs; stands = s; stored = record { address = p; at = i; only = only-bytes w p (with_cr bs) l.there } }

  -- PRINT writes its items one behind the other, each by what was before the statement, and its end
  pub a-print-writes-its-items : (items : List Item) (b : Bool) → w.outpos ≤ length w.output → exec e (print items b) w ≡ done on u
      → WritesItems e w items b u
  a-print-writes-its-items items b room h = let r = rw h at (works e (print items b) w) in by r.reached r.performed where
    by : {q : Stmt} {u : World} {b : Bool} → Reaches e w (print items b) q → Performs e w q (done on u) → WritesItems e w items b u
    by itself (prints m) = out-alone w room (all-out m)
    by itself (prints_end m r) = out-ended w (all-out m) r

  -- INPUT gives its variables the values of the reply's reading, each after the earlier assignments
  pub a-reply-gives-its-values : (vs : List ℕ) → (exec e (input vs) w ≡ done on u) ↔ Hears e w vs u
  a-reply-gives-its-values vs = (λ h. let r = rw h at (works e (input vs) w) in by r.reached r.performed, back) where
    by : {q : Stmt} {u : World} → Reaches e w (input vs) q → Performs e w q (done on u) → Hears e w vs u
    by itself (inputs {g = g} {es = es} r s l m) = record { reply = g; replied = r; short = s; relations = es; reading = l; given = m }

    back : Hears e w vs u → exec e (input vs) w ≡ done on u
    back r = works-one e w (record { statement = input vs; reached = itself; performed = inputs r.replied r.short r.reading r.given })
