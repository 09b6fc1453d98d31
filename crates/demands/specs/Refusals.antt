-- When a statement is refused, number by number. Nothing here runs a statement; that each number comes exactly then is proved (proofs/Refusals.antt).
use Rattle.std.specs.Prelude.{ℕ, ◌≤◌, ◌≡◌, Bool, true, false, List, [], ◌∷◌, length}
use Rattle.nibl.specs.Bytes.{bytes, byte_cr, byte_lf}
use Rattle.nibl.specs.Tree.{Expr, Item, Stmt, goto, gosub, until, return, do_loop, print, for, next, input}
use Rattle.nibl.specs.Values.{is}
use Rattle.nibl.specs.Typing.{Gathered}
use Rattle.nibl.specs.Page.{records_of}
use Rattle.nibl.specs.Meaning.{World, Env}
use Rattle.nibl.specs.declared.ForEntry.{ForEntry}
use Rattle.demands.specs.Items.{wrote_item, HasRoom, NoRoom}
use Rattle.demands.specs.Valued.{ValueOf, NoCR, ItemBytes}
use Rattle.demands.specs.Work.{LineAt, NoLine, Bare, TopEntry, UpTo, AllOut, Replied, after_reply, Asking, Unread, RefusesValue, RefusesMemory, RefusedWith, Reaches}

-- the statement comes, through its true IFs, to one of which P holds
pub record ComesTo (e : Env) (s : Stmt) (w : World) (P : Stmt → Type 0) : Type 0 where
  pub statement : Stmt
  pub reached : Reaches e w s statement
  pub holds : P statement

-- 6: "reply over-long or not in its form"; the "?" is out, and the reply taken
pub data Unheard (e : Env) (w u : World) : Stmt → Type 0 where
  over_long : {q : Stmt} {g : Gathered} → Asking e w q → Replied e w g → g.line.long ≡ true → u ≡ after_reply w g → Unheard e w u q
  not_in_form : {vs : List ℕ} {g : Gathered} → Replied e w g → g.line.long ≡ false → Unread (length vs) g.line.bytes → u ≡ after_reply w g
      → Unheard e w u (input vs)

-- 7: "no CR left in the input; no byte is taken", and the "?" is out
pub record NoReplyLeft (e : Env) (w u : World) (q : Stmt) : Type 0 where
  pub asking : Asking e w q
  pub room : HasRoom w (bytes "?")
  pub no_cr : NoCR e.input w.inpos
  pub leaves : u ≡ wrote_item w (bytes "?")

-- 8: "GOTO or GOSUB to a line not there"
pub data MissesLine (e : Env) (w : World) : Stmt → Type 0 where
  by_goto : {a : Expr} {n : ℕ} → ValueOf e w a (is n) → NoLine n (records_of e.page) → MissesLine e w (goto a)
  by_gosub : {a : Expr} {n : ℕ} → ValueOf e w a (is n) → NoLine n (records_of e.page) → MissesLine e w (gosub a)

-- 9, 15: "RETURN, UNTIL with its stack empty"
pub data ReturnsFromNothing (w : World) : Stmt → Type 0 where
  a_return : Bare 8 w.session.gosubs.depth → ReturnsFromNothing w return

pub data RepeatsNothing (e : Env) (w : World) : Stmt → Type 0 where
  an_until : {a : Expr} {x : ℕ} → ValueOf e w a (is x) → Bare 8 w.session.dos.depth → RepeatsNothing e w (until a)

-- 10: "past 8 GOSUBs, 8 DOs or 4 FORs"
pub data FullStack (e : Env) (w : World) : Stmt → Type 0 where
  of_gosubs : {a : Expr} {n q : ℕ} → ValueOf e w a (is n) → LineAt n 0 (records_of e.page) q → 8 ≤ w.session.gosubs.depth → FullStack e w (gosub a)
  of_dos : 8 ≤ w.session.dos.depth → FullStack e w do_loop
  of_fors : {a b c : Expr} {v x y z : ℕ} → ValueOf e w a (is x) → ValueOf e w b (is y) → ValueOf e w c (is z) → 4 ≤ w.session.fors.depth
      → FullStack e w (for v a b c)

-- 11, 12: "NEXT with no FOR; with another variable"
pub data NextOfNothing (w : World) : Stmt → Type 0 where
  none_to_count : {v : ℕ} → Bare 4 w.session.fors.depth → NextOfNothing w (next v)

pub data NextOfAnother (w : World) : Stmt → Type 0 where
  another_counts : {v : ℕ} {f : ForEntry} → TopEntry w.session.fors f → (f.var ≡ v → ⊥) → NextOfAnother w (next v)

-- 16 and 21, by the byte that is refused: of "@" and "$" in a value or an item; of a store, or of a copy's source
pub data MemoryRefused (n : ℕ) (e : Env) (w u : World) (q : Stmt) : Type 0 where
  in_value : RefusesValue e w n u q → MemoryRefused n e w u q
  in_memory : RefusesMemory e w n u q → MemoryRefused n e w u q

-- 16: "a memory byte needed is not there, or no CR found"; 21: "a byte not this box's to read or write"
abbrev pub LacksMemory : Env → World → World → Stmt → Type 0
LacksMemory = MemoryRefused 16

abbrev pub NotItsOwn : Env → World → World → Stmt → Type 0
NotItsOwn = MemoryRefused 21

-- 17: "an output item does not fit whole; PRINT's CR LF, the '?' .. are each one item"
pub data LacksOutput (e : Env) (w u : World) : Stmt → Type 0 where
  for_item : {items : List Item} {i : Item} {bs : List ℕ} (b : Bool) → UpTo e items w i u → ItemBytes e u i (is bs) → NoRoom u bs
      → LacksOutput e w u (print items b)
  for_end : {items : List Item} → AllOut e items w u → NoRoom u (byte_cr ∷ byte_lf ∷ []) → LacksOutput e w u (print items false)
  for_question : {q : Stmt} → Asking e w q → NoRoom w (bytes "?") → u ≡ w → LacksOutput e w u q

-- a refusal of any number
abbrev pub Refusal : Env → Stmt → World → ℕ → World → Type 0
Refusal e s w n u = ComesTo e s w (λ q. RefusedWith e w q n u)
