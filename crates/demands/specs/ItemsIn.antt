-- The items of a statement in the world in which it begins, and those of a typed line of its own.
use Rattle.std.specs.Prelude.{ℕ, ◌≡◌, Bool, false, List, [], ◌∷◌}
use Rattle.nibl.specs.Bytes.{bytes, byte_cr, byte_lf}
use Rattle.nibl.specs.Tree.{Expr, Item, Stmt, print, if_then, input, input_text, Typed, list, immediate}
use Rattle.nibl.specs.Values.{is}
use Rattle.nibl.specs.Page.{records_of}
use Rattle.nibl.specs.Meaning.{World, Env, eval}
use Rattle.demands.specs.Items.{In, item_bytes, ListItem}
use Rattle.demands.specs.Leaves.{WroteItems}

-- an item that a statement writes which begins in the world w. No expression reads the output, so the items of one PRINT are all those of one world
pub data ItemIn (e : Env) (w : World) : Stmt → List ℕ → Type 0 where
  of_print : {items : List Item} {b : Bool} {bs : List ℕ} (i : Item) → In i items → item_bytes e w i ≡ is bs → ItemIn e w (print items b) bs
  -- "unless ';'"
  end_of_print : {items : List Item} {b : Bool} → b ≡ false → ItemIn e w (print items b) (byte_cr ∷ byte_lf ∷ [])
  -- "INPUT writes '?'", after its address value
  of_input : {vs : List ℕ} → ItemIn e w (input vs) (bytes "?")
  of_input_text : {a : Expr} (p : ℕ) → eval e w a ≡ is p → ItemIn e w (input_text a) (bytes "?")
  -- behind an IF that is not false
  of_if : {a : Expr} {q : Stmt} {bs : List ℕ} (v : ℕ) → eval e w a ≡ is v → (v ≡ 0 → ⊥) → ItemIn e w q bs → ItemIn e w (if_then a q) bs

-- whole items of a statement that begins in w, and whole input lines, up to the world u
abbrev pub StatementWrote : Env → Stmt → World → World → Type 0
StatementWrote e s w u = WroteItems (ItemIn e w s) e.lim e.input w.output w.outpos w.inpos u.output u.outpos u.inpos

-- an item that a typed line writes of its own, in the world that it begins in
pub data OwnItem (e : Env) (w : World) : Typed → List ℕ → Type 0 where
  of_list : {n : ℕ} {bs : List ℕ} → ListItem n (records_of e.page) bs → OwnItem e w (list n) bs
  of_statement : {s : Stmt} {bs : List ℕ} → ItemIn e w s bs → OwnItem e w (immediate s) bs
