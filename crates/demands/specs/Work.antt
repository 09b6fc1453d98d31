-- What one statement does, in document 01's words: a rule for each way in which it can end, with its values, its effect and the order of its refusals.
-- Nothing here runs a statement: that the definition keeps to these rules, and to no others, is proved (proofs/Work.antt).
use Rattle.std.specs.Prelude.{ℕ, suc, ◌+◌, ◌-◌, ◌%◌, ◌≤◌, ◌<◌, ◌≡◌, Bool, true, false, List, [], ◌∷◌, ◌++◌, length, get_or, drop, set}
use Rattle.std.proofs.Math.Option.{some}
use Rattle.std.proofs.lemmas.List.Edits.{sets}
use Rattle.nibl.specs.Bytes.{bytes, byte_cr, byte_lf}
use Rattle.nibl.specs.Tree.{Expr, Item, Stmt, let_var, let_stat, let_byte, let_copy, let_text, goto, gosub, until, return, do_loop, remark, end, print, if_then, for, next, input, input_text}
use Rattle.nibl.specs.Values.{is, no}
use Rattle.nibl.specs.Stack.{no_place, no_entry}
use Rattle.nibl.specs.Typing.{Gathered, gather}
use Rattle.nibl.specs.Readings.{ReplyReading}
use Rattle.nibl.specs.Page.{Stored, records_of, size}
use Rattle.nibl.specs.Record.{place, position, mark, with_var, with_flags, with_gosubs, with_dos, with_fors}
use Rattle.nibl.specs.Meaning.{World, Env, on, skip, go, stop, Done, done, with_session, with_memory, with_inpos}
use Rattle.nibl.specs.declared.Place.{Place}
use Rattle.nibl.specs.declared.PlaceStack.{PlaceStack}
use Rattle.nibl.specs.declared.ForEntry.{ForEntry}
use Rattle.nibl.specs.declared.ForStack.{ForStack}
use Rattle.demands.specs.Items.{In, wrote_item, HasRoom, NoRoom}
use Rattle.demands.specs.Whose.{AllOwn, StoreRefused}
use Rattle.demands.specs.Valued.{order, ValueOf, FirstRefused, StringAt, StopsShort, NoCR, ItemBytes}

-- "values first": what a statement asks for before it does anything. PRINT and a reply go value by value
abbrev pub values_of : Stmt → List Expr
values_of (let_var v a) = a ∷ []
values_of (let_stat a) = a ∷ []
values_of (let_byte a b) = a ∷ b ∷ []
values_of (let_copy a b) = a ∷ b ∷ []
values_of (let_text a bs) = a ∷ []
values_of (goto a) = a ∷ []
values_of (gosub a) = a ∷ []
values_of (until a) = a ∷ []
values_of return = []
values_of do_loop = []
values_of remark = []
values_of end = []
values_of (print items b) = []
values_of (if_then a q) = a ∷ []
values_of (for v a b c) = a ∷ b ∷ c ∷ []
values_of (next v) = []
values_of (input vs) = []
values_of (input_text a) = a ∷ []

-- Lines: where the record of a number stands, the records of the page one behind the other; and that there is none
pub data LineAt (n : ℕ) : ℕ → List Stored → ℕ → Type 0 where
  this_line : {at : ℕ} {r : Stored} {rs : List Stored} → r.line ≡ n → LineAt n at (r ∷ rs) at
  later_line : {at q : ℕ} {r : Stored} {rs : List Stored} → (r.line ≡ n → ⊥) → LineAt n (at + size r) rs q → LineAt n at (r ∷ rs) q

abbrev pub NoLine : ℕ → List Stored → Type 0
NoLine n rs = (r : Stored) → In r rs → r.line ≡ n → ⊥

-- Stacks: nothing is on one of depth 0, nor on one whose depth is none of such a stack, which no record that fits has
pub data Bare (room depth : ℕ) : Type 0 where
  empty : depth ≡ 0 → Bare room depth
  misfit : room < depth → Bare room depth

pub record TopPlace (s : PlaceStack) (p : Place) : Type 0 where
  pub some : 1 ≤ s.depth
  pub within : s.depth ≤ 8
  pub top : get_or s.places (s.depth - 1) no_place ≡ p

pub record TopEntry (s : ForStack) (f : ForEntry) : Type 0 where
  pub some : 1 ≤ s.depth
  pub within : s.depth ≤ 4
  pub top : get_or s.entries (s.depth - 1) no_entry ≡ f

abbrev pub pushed : PlaceStack → ℕ → PlaceStack
pushed s p = record { depth = s.depth + 1; places = set s.places s.depth (place p) }

abbrev pub popped : PlaceStack → PlaceStack
popped s = record { depth = s.depth - 1; places = s.places }

abbrev pub pushed_for : ForStack → ForEntry → ForStack
pushed_for s f = record { depth = s.depth + 1; entries = set s.entries s.depth f }

abbrev pub popped_for : ForStack → ForStack
popped_for s = record { depth = s.depth - 1; entries = s.entries }

-- "NEXT adds the step"
abbrev pub step_added : World → ℕ → ForEntry → ℕ
step_added w v f = (get_or w.session.vars v 0 + f.step) % 65536

-- "while the variable is at most the limit (step 0 or more) or at least it (step below 0)"; and past it
pub data Within (f : ForEntry) (x : ℕ) : Type 0 where
  upward : f.step < 32768 → order x ≤ order f.limit → Within f x
  downward : 32768 ≤ f.step → order f.limit ≤ order x → Within f x

pub data Past (f : ForEntry) (x : ℕ) : Type 0 where
  above : f.step < 32768 → order f.limit < order x → Past f x
  below : 32768 ≤ f.step → order x < order f.limit → Past f x

-- "a store writes its CR too"
abbrev pub with_cr : List ℕ → List ℕ
with_cr bs = bs ++ (byte_cr ∷ [])

-- bytes that may be stored from p on; and those that may not, with what they are refused
pub record MayStore (e : Env) (w : World) (p : ℕ) (bs : List ℕ) : Type 0 where
  pub there : p + length bs ≤ length w.memory
  pub own : AllOwn e.sight.access p (length bs)

abbrev pub NotStored : Env → World → ℕ → List ℕ → ℕ → Type 0
NotStored e w p bs n = StoreRefused e.sight.access (length w.memory) p (length bs) n

-- PRINT: the items before one, or all of them, are written whole, each by what the ones before it left
pub data UpTo (e : Env) : List Item → World → Item → World → Type 0 where
  this_item : {i : Item} {items : List Item} {w : World} → UpTo e (i ∷ items) w i w
  later_item : {i j : Item} {items : List Item} {w u : World} {bs : List ℕ} → ItemBytes e w j (is bs) → HasRoom w bs
      → UpTo e items (wrote_item w bs) i u → UpTo e (j ∷ items) w i u

pub data AllOut (e : Env) : List Item → World → World → Type 0 where
  none_left : {w : World} → AllOut e [] w w
  one_out : {i : Item} {items : List Item} {w u : World} {bs : List ℕ} → ItemBytes e w i (is bs) → HasRoom w bs → AllOut e items (wrote_item w bs) u
      → AllOut e (i ∷ items) w u

-- INPUT: "writes '?', gathers a line"; what that leaves
pub record Replied (e : Env) (w : World) (g : Gathered) : Type 0 where
  pub room : HasRoom w (bytes "?")
  pub line : gather e.lim (drop w.inpos e.input) ≡ some g

abbrev pub after_reply : World → Gathered → World
after_reply w g = with_inpos (wrote_item w (bytes "?")) (w.inpos + g.taken)

-- "evaluates its relations in turn after the earlier assignments": up to one, or all of them
abbrev pub gave : World → ℕ → ℕ → World
gave w v x = with_session w (with_var w.session v x)

pub data GivenUpTo (e : Env) : List ℕ → List Expr → World → Expr → World → Type 0 where
  this_value : {v : ℕ} {vs : List ℕ} {a : Expr} {es : List Expr} {w : World} → GivenUpTo e (v ∷ vs) (a ∷ es) w a w
  later_value : {v x : ℕ} {vs : List ℕ} {a b : Expr} {es : List Expr} {w u : World} → ValueOf e w b (is x) → GivenUpTo e vs es (gave w v x) a u
      → GivenUpTo e (v ∷ vs) (b ∷ es) w a u

pub data AllGiven (e : Env) : List ℕ → List Expr → World → World → Type 0 where
  no_more : {w : World} → AllGiven e [] [] w w
  one_given : {v x : ℕ} {vs : List ℕ} {a : Expr} {es : List Expr} {w u : World} → ValueOf e w a (is x) → AllGiven e vs es (gave w v x) u
      → AllGiven e (v ∷ vs) (a ∷ es) w u

-- an INPUT that is come to its "?": of "$" the address value is there
pub data Asking (e : Env) (w : World) : Stmt → Type 0 where
  for_variables : {vs : List ℕ} → Asking e w (input vs)
  for_string : {a : Expr} {p : ℕ} → ValueOf e w a (is p) → Asking e w (input_text a)

-- "no reading" of a reply for so many variables
abbrev pub Unread : ℕ → List ℕ → Type 0
Unread n bs = (es : List Expr) → ReplyReading n bs es → ⊥

-- a value that the statement comes to is refused with n: the first of those that it asks for, one of an item of PRINT, one of a reply
pub data RefusesValue (e : Env) (w : World) (n : ℕ) : World → Stmt → Type 0 where
  of_statement : {q : Stmt} → FirstRefused e w (values_of q) n → RefusesValue e w n w q
  of_item : {items : List Item} {i : Item} {u : World} (b : Bool) → UpTo e items w i u → ItemBytes e u i (no n) → RefusesValue e w n u (print items b)
  of_reply : {vs : List ℕ} {g : Gathered} {es : List Expr} {a : Expr} {u : World} → Replied e w g → g.line.long ≡ false
      → ReplyReading (length vs) g.line.bytes es → GivenUpTo e vs es (after_reply w g) a u → ValueOf e u a (no n) → RefusesValue e w n u (input vs)

-- its values are there, and memory is refused with n: a source that is no string, or a store. "'@' and string stores check addresses last"
pub data RefusesMemory (e : Env) (w : World) (n : ℕ) : World → Stmt → Type 0 where
  byte_not_stored : {a b : Expr} {p x : ℕ} → ValueOf e w a (is p) → ValueOf e w b (is x) → NotStored e w p (x % 256 ∷ []) n → RefusesMemory e w n w (let_byte a b)
  text_not_stored : {a : Expr} {p : ℕ} {bs : List ℕ} → ValueOf e w a (is p) → NotStored e w p (with_cr bs) n → RefusesMemory e w n w (let_text a bs)
  no_source : {a b : Expr} {p q : ℕ} → ValueOf e w a (is p) → ValueOf e w b (is q) → StopsShort e.sight.access w.memory q n → RefusesMemory e w n w (let_copy a b)
  copy_not_stored : {a b : Expr} {p q : ℕ} {bs : List ℕ} → ValueOf e w a (is p) → ValueOf e w b (is q) → StringAt e.sight.access w.memory q bs
      → NotStored e w p (with_cr bs) n → RefusesMemory e w n w (let_copy a b)
  reply_not_stored : {a : Expr} {p : ℕ} {g : Gathered} → ValueOf e w a (is p) → Replied e w g → g.line.long ≡ false
      → NotStored e w p (with_cr g.line.bytes) n → RefusesMemory e w n (after_reply w g) (input_text a)

-- Refusals: the statement, the number, and the world that is left
pub data RefusedWith (e : Env) (w : World) : Stmt → ℕ → World → Type 0 where
  -- "values first"; "16 before 17"
  by_value : {q : Stmt} {n : ℕ} {u : World} → RefusesValue e w n u q → RefusedWith e w q n u
  -- "GOTO or GOSUB to a line not there"
  no_line_to_go : {a : Expr} {n : ℕ} → ValueOf e w a (is n) → NoLine n (records_of e.page) → RefusedWith e w (goto a) 8 w
  no_line_to_sub : {a : Expr} {n : ℕ} → ValueOf e w a (is n) → NoLine n (records_of e.page) → RefusedWith e w (gosub a) 8 w
  -- "past 8 GOSUBs, 8 DOs or 4 FORs"; "8 before 10"
  full_of_gosubs : {a : Expr} {n q : ℕ} → ValueOf e w a (is n) → LineAt n 0 (records_of e.page) q → 8 ≤ w.session.gosubs.depth
      → RefusedWith e w (gosub a) 10 w
  full_of_dos : 8 ≤ w.session.dos.depth → RefusedWith e w do_loop 10 w
  full_of_fors : {a b c : Expr} {v x y z : ℕ} → ValueOf e w a (is x) → ValueOf e w b (is y) → ValueOf e w c (is z) → 4 ≤ w.session.fors.depth
      → RefusedWith e w (for v a b c) 10 w
  -- "RETURN, UNTIL with its stack empty"
  no_gosub : Bare 8 w.session.gosubs.depth → RefusedWith e w return 9 w
  no_do : {a : Expr} {x : ℕ} → ValueOf e w a (is x) → Bare 8 w.session.dos.depth → RefusedWith e w (until a) 15 w
  -- "NEXT with no FOR; with another variable"
  no_for : {v : ℕ} → Bare 4 w.session.fors.depth → RefusedWith e w (next v) 11 w
  other_for : {v : ℕ} {f : ForEntry} → TopEntry w.session.fors f → (f.var ≡ v → ⊥) → RefusedWith e w (next v) 12 w
  -- "a memory byte needed is not there, or no CR found" is 16, and 21 stands "beside 16"
  by_memory : {q : Stmt} {n : ℕ} {u : World} → RefusesMemory e w n u q → RefusedWith e w q n u
  -- "PRINT works item by item, 16 before 17"; "PRINT items already out stay"
  no_room_for_item : {items : List Item} {i : Item} {bs : List ℕ} {u : World} (b : Bool) → UpTo e items w i u → ItemBytes e u i (is bs) → NoRoom u bs
      → RefusedWith e w (print items b) 17 u
  no_room_for_end : {items : List Item} {u : World} → AllOut e items w u → NoRoom u (byte_cr ∷ byte_lf ∷ []) → RefusedWith e w (print items false) 17 u
  -- "INPUT: address value, 17, 7, 6, values, 16"; "the '?' stays, a gathered reply is taken, and variables already given stay given"
  no_room_to_ask : {q : Stmt} → Asking e w q → NoRoom w (bytes "?") → RefusedWith e w q 17 w
  no_reply : {q : Stmt} → Asking e w q → HasRoom w (bytes "?") → NoCR e.input w.inpos → RefusedWith e w q 7 (wrote_item w (bytes "?"))
  reply_too_long : {q : Stmt} {g : Gathered} → Asking e w q → Replied e w g → g.line.long ≡ true → RefusedWith e w q 6 (after_reply w g)
  reply_unread : {vs : List ℕ} {g : Gathered} → Replied e w g → g.line.long ≡ false → Unread (length vs) g.line.bytes
      → RefusedWith e w (input vs) 6 (after_reply w g)
  -- END
  at_end : RefusedWith e w end 20 w

-- How a statement ends that is no true IF
pub data Performs (e : Env) (w : World) : Stmt → Done → Type 0 where
  refuses : {q : Stmt} {n : ℕ} {u : World} → RefusedWith e w q n u → Performs e w q (done (stop n) u)
  remarks : Performs e w remark (done on w)
  -- "A false IF (value 0) goes to the next record, or ends an immediate line"
  false_if : {a : Expr} {q : Stmt} → ValueOf e w a (is 0) → Performs e w (if_then a q) (done skip w)
  assigns : {v x : ℕ} {a : Expr} → ValueOf e w a (is x) → Performs e w (let_var v a) (done on (with_session w (with_var w.session v x)))
  -- STAT: "assigning keeps bits 0 to 2"
  assigns_flags : {x : ℕ} {a : Expr} → ValueOf e w a (is x) → Performs e w (let_stat a) (done on (with_session w (with_flags w.session (x % 8))))
  -- "A store writes the low byte only"; "copies behave as if the source were taken whole first"
  stores_byte : {a b : Expr} {p x : ℕ} → ValueOf e w a (is p) → ValueOf e w b (is x) → MayStore e w p (x % 256 ∷ [])
      → Performs e w (let_byte a b) (done on (with_memory w (set w.memory p (x % 256))))
  stores_text : {a : Expr} {p : ℕ} {bs : List ℕ} → ValueOf e w a (is p) → MayStore e w p (with_cr bs)
      → Performs e w (let_text a bs) (done on (with_memory w (sets w.memory p (with_cr bs))))
  copies : {a b : Expr} {p q : ℕ} {bs : List ℕ} → ValueOf e w a (is p) → ValueOf e w b (is q) → StringAt e.sight.access w.memory q bs → MayStore e w p (with_cr bs)
      → Performs e w (let_copy a b) (done on (with_memory w (sets w.memory p (with_cr bs))))
  goes_to_line : {a : Expr} {n q : ℕ} → ValueOf e w a (is n) → LineAt n 0 (records_of e.page) q → Performs e w (goto a) (done (go q) w)
  -- "DO, FOR and GOSUB save the place that ends them"
  calls_line : {a : Expr} {n q : ℕ} → ValueOf e w a (is n) → LineAt n 0 (records_of e.page) q → w.session.gosubs.depth < 8
      → Performs e w (gosub a) (done (go q) (with_session w (with_gosubs w.session (pushed w.session.gosubs e.here))))
  begins : w.session.dos.depth < 8 → Performs e w do_loop (done on (with_session w (with_dos w.session (pushed w.session.dos e.here))))
  -- "FOR always pushes"
  counts : {a b c : Expr} {v x y z : ℕ} → ValueOf e w a (is x) → ValueOf e w b (is y) → ValueOf e w c (is z) → w.session.fors.depth < 4
      → Performs e w (for v a b c) (done on (with_session w (with_var (with_fors w.session
      (pushed_for w.session.fors (record { var = v; limit = y; step = z; place = place e.here }))) v x)))
  -- back to the saved place; "RETURN to the immediate mark" is 0
  returns : {p : Place} → TopPlace w.session.gosubs p → (position p ≡ mark → ⊥)
      → Performs e w return (done (go (suc (position p))) (with_session w (with_gosubs w.session (popped w.session.gosubs))))
  returns_to_mark : {p : Place} → TopPlace w.session.gosubs p → position p ≡ mark
      → Performs e w return (done (stop 0) (with_session w (with_gosubs w.session (popped w.session.gosubs))))
  -- "UNTIL returns to its DO's place on 0 and pops otherwise"
  repeats : {a : Expr} {p : Place} → ValueOf e w a (is 0) → TopPlace w.session.dos p → Performs e w (until a) (done (go (suc (position p))) w)
  leaves : {a : Expr} {x : ℕ} {p : Place} → ValueOf e w a (is x) → (x ≡ 0 → ⊥) → TopPlace w.session.dos p
      → Performs e w (until a) (done on (with_session w (with_dos w.session (popped w.session.dos))))
  -- "NEXT adds the step, then returns to the saved place while ..; otherwise it pops and runs on"
  counts_on : {v : ℕ} {f : ForEntry} → TopEntry w.session.fors f → f.var ≡ v → Within f (step_added w v f)
      → Performs e w (next v) (done (go (suc (position f.place))) (with_session w (with_var w.session v (step_added w v f))))
  finishes : {v : ℕ} {f : ForEntry} → TopEntry w.session.fors f → f.var ≡ v → Past f (step_added w v f)
      → Performs e w (next v) (done on (with_session w (with_fors (with_var w.session v (step_added w v f)) (popped_for w.session.fors))))
  -- "PRINT ends with CR LF unless ';'"
  prints : {items : List Item} {u : World} → AllOut e items w u → Performs e w (print items true) (done on u)
  prints_end : {items : List Item} {u : World} → AllOut e items w u → HasRoom u (byte_cr ∷ byte_lf ∷ [])
      → Performs e w (print items false) (done on (wrote_item u (byte_cr ∷ byte_lf ∷ [])))
  inputs : {vs : List ℕ} {g : Gathered} {es : List Expr} {u : World} → Replied e w g → g.line.long ≡ false → ReplyReading (length vs) g.line.bytes es
      → AllGiven e vs es (after_reply w g) u → Performs e w (input vs) (done on u)
  -- "INPUT '$' stores the gathered line, any kept bytes, and CR"
  inputs_string : {a : Expr} {p : ℕ} {g : Gathered} → ValueOf e w a (is p) → Replied e w g → g.line.long ≡ false → MayStore e w p (with_cr g.line.bytes)
      → Performs e w (input_text a) (done on (with_memory (after_reply w g) (sets w.memory p (with_cr g.line.bytes))))

-- the statement that one comes to through its true IFs
pub data Reaches (e : Env) (w : World) : Stmt → Stmt → Type 0 where
  itself : {q : Stmt} → Reaches e w q q
  through_if : {a : Expr} {q r : Stmt} {x : ℕ} → ValueOf e w a (is x) → (x ≡ 0 → ⊥) → Reaches e w q r → Reaches e w (if_then a q) r

-- "One step is one member of a statement list, with all the IFs in it"
pub record Works (e : Env) (s : Stmt) (w : World) (d : Done) : Type 0 where
  pub statement : Stmt
  pub reached : Reaches e w s statement
  pub performed : Performs e w statement d
