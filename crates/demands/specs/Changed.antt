-- What a statement changes, and that it changes nothing else.
use Rattle.std.specs.Prelude.{ℕ, ◌+◌, ◌%◌, ◌≤◌, ◌<◌, ◌≡◌, Bool, true, false, List, [], ◌∷◌, ◌++◌, length, get_or, take, drop}
use Rattle.nibl.specs.Bytes.{byte_cr, byte_lf}
use Rattle.nibl.specs.Tree.{Expr, Item}
use Rattle.nibl.specs.Values.{is}
use Rattle.nibl.specs.Typing.{Gathered}
use Rattle.nibl.specs.Readings.{ReplyReading}
use Rattle.nibl.specs.Meaning.{World, Env}
use Rattle.demands.specs.Leaves.{SameButVars}
use Rattle.demands.specs.Items.{HasRoom}
use Rattle.demands.specs.Valued.{ValueOf, StringAt, ItemBytes}
use Rattle.demands.specs.Work.{with_cr, Replied, after_reply, AllGiven}

-- memory, output and both positions
pub record SameAround (w u : World) : Type 0 where
  pub memory : u.memory ≡ w.memory
  pub output : u.output ≡ w.output
  pub outpos : u.outpos ≡ w.outpos
  pub inpos : u.inpos ≡ w.inpos

-- the variable v is x, and nothing else has changed
pub record OnlyVariable (w : World) (v x : ℕ) (u : World) : Type 0 where
  pub given : v < length w.session.vars → get_or u.session.vars v 0 ≡ x
  pub others : (i : ℕ) → (i ≡ v → ⊥) → get_or u.session.vars i 0 ≡ get_or w.session.vars i 0
  pub rest : SameButVars w.session u.session
  pub around : SameAround w u

-- a list with some of its bytes, from a position on, in the place of others
abbrev pub replaced : List ℕ → ℕ → List ℕ → List ℕ
replaced l p bs = take p l ++ bs ++ drop (p + length bs) l

-- these bytes stand in memory from p on, and nothing else has changed
pub record OnlyBytes (w : World) (p : ℕ) (bs : List ℕ) (u : World) : Type 0 where
  pub session : u.session ≡ w.session
  pub room : p + length bs ≤ length w.memory
  pub memory : u.memory ≡ replaced w.memory p bs
  pub output : u.output ≡ w.output
  pub outpos : u.outpos ≡ w.outpos
  pub inpos : u.inpos ≡ w.inpos

-- these bytes are written, whole, and nothing else has changed
pub record OnlyOutput (w : World) (bs : List ℕ) (u : World) : Type 0 where
  pub session : u.session ≡ w.session
  pub memory : u.memory ≡ w.memory
  pub room : HasRoom w bs
  pub output : u.output ≡ replaced w.output w.outpos bs
  pub outpos : u.outpos ≡ w.outpos + length bs
  pub inpos : u.inpos ≡ w.inpos

-- Assignments and stores, with their values
pub record Assigns (e : Env) (w : World) (v : ℕ) (a : Expr) (u : World) : Type 0 where
  pub value : ℕ
  pub worth : ValueOf e w a (is value)
  pub only : OnlyVariable w v value u

pub record StoresByte (e : Env) (w : World) (a b : Expr) (u : World) : Type 0 where
  pub address : ℕ
  pub value : ℕ
  pub at : ValueOf e w a (is address)
  pub worth : ValueOf e w b (is value)
  pub only : OnlyBytes w address (value % 256 ∷ []) u

pub record StoresText (e : Env) (w : World) (a : Expr) (bs : List ℕ) (u : World) : Type 0 where
  pub address : ℕ
  pub at : ValueOf e w a (is address)
  pub only : OnlyBytes w address (with_cr bs) u

pub record Copies (e : Env) (w : World) (a b : Expr) (u : World) : Type 0 where
  pub source : ℕ
  pub from : ValueOf e w b (is source)
  pub string : List ℕ
  pub stands : StringAt e.sight.access w.memory source string
  pub stored : StoresText e w a string u

-- PRINT's items one behind the other, each by what was before the first
pub data ItemsBytes (e : Env) (w : World) : List Item → List ℕ → Type 0 where
  no_items : ItemsBytes e w [] []
  next_item : {i : Item} {items : List Item} {bs more : List ℕ} → ItemBytes e w i (is bs) → ItemsBytes e w items more
      → ItemsBytes e w (i ∷ items) (bs ++ more)

-- "PRINT ends with CR LF unless ';'"
abbrev pub line_end : Bool → List ℕ
line_end true = []
line_end false = byte_cr ∷ byte_lf ∷ []

pub record WritesItems (e : Env) (w : World) (items : List Item) (b : Bool) (u : World) : Type 0 where
  pub bytes : List ℕ
  pub shown : ItemsBytes e w items bytes
  pub only : OnlyOutput w (bytes ++ line_end b) u

-- INPUT: the reply's reading gives the values
pub record Hears (e : Env) (w : World) (vs : List ℕ) (u : World) : Type 0 where
  pub reply : Gathered
  pub replied : Replied e w reply
  pub short : reply.line.long ≡ false
  pub relations : List Expr
  pub reading : ReplyReading (length vs) reply.line.bytes relations
  pub given : AllGiven e vs relations (after_reply w reply) u
