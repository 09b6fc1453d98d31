-- What one output item is: "PRINT works item by item"; "PRINT's CR LF, the '?' and a LIST line with CR LF are each one item".
use Rattle.std.specs.Prelude.{ℕ, ◌+◌, ◌≤◌, ◌<◌, ◌≡◌, Bool, true, false, List, [], ◌∷◌, length}
use Rattle.std.proofs.lemmas.List.Edits.{sets}
use Rattle.nibl.specs.Bytes.{bytes, byte_cr, byte_lf}
use Rattle.nibl.specs.Tree.{Expr, Item, text, stored, value, Stmt, print, if_then, input, input_text}
use Rattle.nibl.specs.Values.{Result, is, no, printed}
use Rattle.nibl.specs.Page.{Stored}
use Rattle.nibl.specs.Meaning.{World, Env, on, stop, Done, done, with_output, bind, eval, string_at}
use Rattle.nibl.specs.Calls.{listed}

pub data In {A : Type 0} (x : A) : List A → Type 0 where
  first : {l : List A} → In x (x ∷ l)
  further : {y : A} {l : List A} → In x l → In x (y ∷ l)

-- the bytes of one of PRINT's items, or its refusal: a string, a string in memory, "a space or '-', digits, a space"
abbrev pub item_bytes : Env → World → Item → Result (List ℕ)
item_bytes e w (text bs) = is bs
item_bytes e w (stored a) = bind (eval e w a) (string_at e.sight.access w.memory)
item_bytes e w (value a) = bind (eval e w a) (λ x. is (printed x))

-- an item that a statement may write
pub data ItemOf (e : Env) : Stmt → List ℕ → Type 0 where
  of_print : {items : List Item} {b : Bool} {bs : List ℕ} (i : Item) (w : World) → In i items → item_bytes e w i ≡ is bs → ItemOf e (print items b) bs
  -- "unless ';'"
  end_of_print : {items : List Item} {b : Bool} → b ≡ false → ItemOf e (print items b) (byte_cr ∷ byte_lf ∷ [])
  of_input : {vs : List ℕ} → ItemOf e (input vs) (bytes "?")
  of_input_text : {a : Expr} → ItemOf e (input_text a) (bytes "?")
  of_if : {a : Expr} {q : Stmt} {bs : List ℕ} → ItemOf e q bs → ItemOf e (if_then a q) bs

-- a line of LIST
pub data ListItem (n : ℕ) (rs : List Stored) : List ℕ → Type 0 where
  of_record : (r : Stored) → In r rs → n ≤ r.line → ListItem n rs (listed r)

-- a world with one item more written
abbrev pub wrote_item : World → List ℕ → World
wrote_item w bs = with_output w (sets w.output w.outpos bs) (w.outpos + length bs)

-- it fits whole, or not
abbrev pub HasRoom : World → List ℕ → Type 0
HasRoom w bs = w.outpos + length bs ≤ length w.output

abbrev pub NoRoom : World → List ℕ → Type 0
NoRoom w bs = length w.output < w.outpos + length bs

-- "PRINT works item by item, 16 before 17", and "ends with CR LF unless ';'": each item is written whole, in the world that the ones before it left, up to the
-- first that is refused or does not fit
pub data Prints (e : Env) (semicolon : Bool) : List Item → World → Done → Type 0 where
  writes : {i : Item} {items : List Item} {w : World} {d : Done} (bs : List ℕ) → item_bytes e w i ≡ is bs → HasRoom w bs → Prints e semicolon items (wrote_item w bs) d
      → Prints e semicolon (i ∷ items) w d
  refused : {i : Item} {items : List Item} {w : World} {n : ℕ} → item_bytes e w i ≡ no n → Prints e semicolon (i ∷ items) w (done (stop n) w)
  no_room : {i : Item} {items : List Item} {w : World} (bs : List ℕ) → item_bytes e w i ≡ is bs → NoRoom w bs → Prints e semicolon (i ∷ items) w (done (stop 17) w)
  no_end : {w : World} → semicolon ≡ true → Prints e semicolon [] w (done on w)
  end : {w : World} → semicolon ≡ false → HasRoom w (byte_cr ∷ byte_lf ∷ []) → Prints e semicolon [] w (done on (wrote_item w (byte_cr ∷ byte_lf ∷ [])))
  no_room_for_end : {w : World} → semicolon ≡ false → NoRoom w (byte_cr ∷ byte_lf ∷ []) → Prints e semicolon [] w (done (stop 17) w)

-- LIST line by line: "each line from that number on", up to the first that does not fit
pub data ListsLines (n : ℕ) : List Stored → World → Done → Type 0 where
  over : {w : World} → ListsLines n [] w (done on w)
  below : {r : Stored} {rs : List Stored} {w : World} {d : Done} → r.line < n → ListsLines n rs w d → ListsLines n (r ∷ rs) w d
  lists_line : {r : Stored} {rs : List Stored} {w : World} {d : Done} → n ≤ r.line → HasRoom w (listed r) → ListsLines n rs (wrote_item w (listed r)) d → ListsLines n (r ∷ rs) w d
  no_room_for_line : {r : Stored} {rs : List Stored} {w : World} → n ≤ r.line → NoRoom w (listed r) → ListsLines n (r ∷ rs) w (done (stop 17) w)
