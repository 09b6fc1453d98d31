-- What a statement does to the world, by its reading.
use Rattle.std.specs.Prelude.{ℕ, suc, ◌+◌, ◌*◌, ◌/◌, ◌%◌, Bool, true, false, not, List, [], ◌∷◌, ◌++◌, length, get_or, drop, ltb, leb, eqb, if◌then◌else◌}
use Rattle.std.specs.Prelude.{Option as Opt, Some, None}
use Rattle.nibl.specs.declared.ForEntry.{ForEntry}
use Rattle.std.proofs.Math.Option.{Option, none, some}
use Rattle.std.proofs.lemmas.List.Edits.{sets}
use Rattle.nibl.specs.Bytes.{bytes, byte_cr, byte_lf}
use Rattle.nibl.specs.Tree.{Expr, var, const, stat, top, byte_at, invert, negate, modulo, two}
use Rattle.nibl.specs.Tree.{Item, text, stored, value}
use Rattle.nibl.specs.Tree.{Stmt, let_var, let_stat, let_byte, let_copy, let_text, goto, gosub, until, return, do_loop, remark, end, print, if_then, for, next, input, input_text}
use Rattle.nibl.specs.found.Read.{replied}
use Rattle.nibl.specs.Values.{Result, is, no, Value, add16, sub16, not16, mod16, apply, is_negative, less16, printed}
use Rattle.nibl.specs.Stack.{push_of, pop_of, push_for, pop_for}
use Rattle.nibl.specs.Typing.{Gathered, gather}
use Rattle.nibl.specs.Record.{place, position, mark, with_var, with_flags, with_gosubs, with_dos, with_fors}
use Rattle.nibl.specs.Page.{find, used}
use Rattle.nibl.specs.Access.{may_read, may_write}
use Rattle.nibl.specs.declared.Place.{Place}
use Rattle.nibl.specs.declared.Session.{Session}
use Rattle.nibl.specs.declared.access.Access.{Access}
use Rattle.nibl.specs.declared.access.Sight.{Sight}

-- what a statement can change
pub record World : Type 0 where
  pub session : Session
  pub memory : List ℕ
  pub output : List ℕ
  pub outpos : ℕ
  pub inpos : ℕ

-- what it sees besides: the limit of a line's bytes, the page, the input, the sense byte and whose the memory's bytes are, and the
-- place that ends it
pub record Env : Type 0 where
  pub lim : ℕ
  pub page : List ℕ
  pub input : List ℕ
  pub sight : Sight
  pub here : ℕ

-- the world with a part changed
abbrev pub with_session : World → Session → World
with_session w s = record { session = s; memory = w.memory; output = w.output; outpos = w.outpos; inpos = w.inpos }

abbrev pub with_memory : World → List ℕ → World
with_memory w m = record { session = w.session; memory = m; output = w.output; outpos = w.outpos; inpos = w.inpos }

abbrev pub with_output : World → List ℕ → ℕ → World
with_output w o p = record { session = w.session; memory = w.memory; output = o; outpos = p; inpos = w.inpos }

abbrev pub with_inpos : World → ℕ → World
with_inpos w p = record { session = w.session; memory = w.memory; output = w.output; outpos = w.outpos; inpos = p }

-- how a statement ends: on to the next one, to the next record, to what stands at a position of the page, or with a stop
pub data Next : Type 0 where
  on skip : Next
  go stop : ℕ → Next

pub data Done : Type 0 where
  done : Next → World → Done

module _ {A B : Type 0} where
  -- what was asked for, or its refusal, and then k
  abbrev pub bind : Result A → (A → Result B) → Result B
  bind (is a) k = k a
  bind (no n) k = no n

module _ {A : Type 0} where
  -- what was asked for, or the statement's refusal with the world as it was
  abbrev pub given : Result A → World → (A → Done) → Done
  given (is a) w k = k a
  given (no n) w k = done (stop n) w

abbrev pub went : Done → (World → Done) → Done
went (done on w) k = k w
went (done skip w) k = done skip w
went (done (go q) w) k = done (go q) w
went (done (stop n) w) k = done (stop n) w

-- "'@' reads one byte, 0 to 255, at the value read as 0 to 65,535"; "21, a byte not this box's to read .., beside 16"
unfoldable pub byte_of : Access → List ℕ → ℕ → Value
byte_of x mem a =
    if not (ltb a (length mem)) then no 16
    else if may_read x a then is (get_or mem a 0)
    else no 21

-- "A string in memory runs to its first CR"; "A string read stops at the first byte it may not read, and that byte decides the
-- refusal": s is the memory from the address a on
unfoldable pub string_from : Access → ℕ → List ℕ → Result (List ℕ)
string_from x a [] = no 16
string_from x a (b ∷ s) =
    if not (may_read x a) then no 21
    else if eqb b byte_cr then is []
    else bind (string_from x (suc a) s) (λ bs. is (b ∷ bs))

unfoldable pub string_at : Access → List ℕ → ℕ → Result (List ℕ)
string_at x mem a = string_from x a (drop a mem)

-- "the outlying byte first for a store"
unfoldable pub store_at : Access → List ℕ → ℕ → List ℕ → Result (List ℕ)
store_at x mem a bs =
    if not (leb (a + length bs) (length mem)) then no 16
    else if may_write x a (length bs) then is (sets mem a bs)
    else no 21

-- "STAT reads bits 4 and 5 of the sense byte plus the flags"
abbrev pub stat_of : ℕ → ℕ → ℕ
stat_of sense flags = sense / 16 % 4 * 16 + flags

-- "Operands are evaluated left to right, the first refusal counts"
unfoldable pub eval : Env → World → Expr → Value
eval e w (var v) = is (get_or w.session.vars v 0)
eval e w (const n) = is n
eval e w stat = is (stat_of e.sight.sense w.session.flags)
eval e w top = is (used e.page)
eval e w (byte_at a) = bind (eval e w a) (λ x. byte_of e.sight.access w.memory x)
eval e w (invert a) = bind (eval e w a) (λ x. is (not16 x))
eval e w (negate a) = bind (eval e w a) (λ x. is (sub16 0 x))
eval e w (modulo a b) = bind (eval e w a) (λ x. bind (eval e w b) (λ y. mod16 x y))
eval e w (two o a b) = bind (eval e w a) (λ x. bind (eval e w b) (λ y. apply o x y))

-- "an output item does not fit whole"
unfoldable pub put : List ℕ → World → Done
put bs w =
    if leb (w.outpos + length bs) (length w.output) then done on (with_output w (sets w.output w.outpos bs) (w.outpos + length bs))
    else done (stop 17) w

-- "PRINT works item by item, 16 before 17"
unfoldable pub put_item : Env → Item → World → Done
put_item e (text bs) w = put bs w
put_item e (stored a) w = given (bind (eval e w a) (string_at e.sight.access w.memory)) w (λ bs. put bs w)
put_item e (value a) w = given (eval e w a) w (λ x. put (printed x) w)

unfoldable pub put_items : Env → List Item → World → Done
put_items e [] w = done on w
put_items e (i ∷ is') w = went (put_item e i w) (put_items e is')

-- "PRINT ends with CR LF unless ';'"
abbrev pub put_end : Bool → World → Done
put_end true w = done on w
put_end false w = put (byte_cr ∷ byte_lf ∷ []) w

-- a store into memory
unfoldable pub keep_in : World → Result (List ℕ) → Done
keep_in w r = given r w (λ m. done on (with_memory w m))

-- to the record of a line
abbrev pub line_there : Option ℕ → Result ℕ
line_there none = no 8
line_there (some q) = is q

-- "RETURN to the immediate mark" is 0; else the run goes on after the place
abbrev pub after : Place → Next
after p = if eqb (position p) mark then stop 0 else go (suc (position p))

unfoldable pub gosub_to : Env → World → ℕ → Done
gosub_to e w q =
    let g = push_of w.session.gosubs (place e.here) in
    if g.ok then done (go q) (with_session w (with_gosubs w.session g.stack)) else done (stop 10) w

unfoldable pub return_by : World → Opt Place → Done
return_by w None = done (stop 9) w
return_by w (Some p) = done (after p) (with_session w (with_gosubs w.session (pop_of w.session.gosubs).stack))

unfoldable pub do_here : Env → World → Done
do_here e w =
    let d = push_of w.session.dos (place e.here) in
    if d.ok then done on (with_session w (with_dos w.session d.stack)) else done (stop 10) w

-- "UNTIL returns to its DO's place on 0 and pops otherwise"
unfoldable pub until_by : World → ℕ → Opt Place → Done
until_by w x None = done (stop 15) w
until_by w x (Some p) =
    if eqb x 0 then done (go (suc (position p))) w else done on (with_session w (with_dos w.session (pop_of w.session.dos).stack))

unfoldable pub for_here : Env → World → ℕ → ℕ → ℕ → ℕ → Done
for_here e w v first limit step =
    let f = push_for w.session.fors (record { var = v; limit = limit; step = step; place = place e.here }) in
    if f.ok then done on (with_session w (with_var (with_fors w.session f.stack) v first)) else done (stop 10) w

-- "while the variable is at most the limit (step 0 or more) or at least it (step below 0)"
abbrev pub goes_on : ℕ → ℕ → ℕ → Bool
goes_on step x limit = if is_negative step then not (less16 x limit) else not (less16 limit x)

-- "NEXT adds the step, then returns"; otherwise "it pops and runs on"
unfoldable pub next_by : World → ℕ → Opt ForEntry → Done
next_by w v None = done (stop 11) w
next_by w v (Some f) =
    let x = add16 (get_or w.session.vars v 0) f.step in
    let s = with_var w.session v x in
    if not (eqb f.var v) then done (stop 12) w
    else if goes_on f.step x f.limit then done (go (suc (position f.place))) (with_session w s)
    else done on (with_session w (with_fors s (pop_for w.session.fors).stack))

-- "INPUT writes '?', gathers a line": what is done with the line, if it is not over-long
unfoldable pub gathered : World → Option Gathered → (World → List ℕ → Done) → Done
gathered w none k = done (stop 7) w
gathered w (some g) k =
    let u = with_inpos w (w.inpos + g.taken) in
    elim g.line.long [ true ↦ done (stop 6) u | false ↦ k u g.line.bytes ]

unfoldable pub asked : Env → World → (World → List ℕ → Done) → Done
asked e w k = went (put (bytes "?") w) (λ u. gathered u (gather e.lim (drop u.inpos e.input)) k)

-- "evaluates its relations in turn after the earlier assignments"
unfoldable pub assign : Env → List ℕ → List Expr → World → Done
assign e [] es w = done on w
assign e (v ∷ vs) [] w = done on w
assign e (v ∷ vs) (a ∷ es) w = given (eval e w a) w (λ x. assign e vs es (with_session w (with_var w.session v x)))

abbrev pub assign_reply : Env → List ℕ → World → Option (List Expr) → Done
assign_reply e vs w none = done (stop 6) w
assign_reply e vs w (some es) = assign e vs es w

unfoldable pub exec : Env → Stmt → World → Done
exec e (let_var v a) w = given (eval e w a) w (λ x. done on (with_session w (with_var w.session v x)))
exec e (let_stat a) w = given (eval e w a) w (λ x. done on (with_session w (with_flags w.session (x % 8))))
exec e (let_byte a b) w = given (eval e w a) w (λ p. given (eval e w b) w (λ x. keep_in w (store_at e.sight.access w.memory p (x % 256 ∷ []))))
exec e (let_text a bs) w = given (eval e w a) w (λ p. keep_in w (store_at e.sight.access w.memory p (bs ++ (byte_cr ∷ []))))
exec e (let_copy a b) w =
    given (eval e w a) w (λ p. given (eval e w b) w (λ q.
    keep_in w (bind (string_at e.sight.access w.memory q) (λ bs. store_at e.sight.access w.memory p (bs ++ (byte_cr ∷ []))))))
exec e (goto a) w = given (bind (eval e w a) (λ n. line_there (find e.page n))) w (λ q. done (go q) w)
exec e (gosub a) w = given (bind (eval e w a) (λ n. line_there (find e.page n))) w (gosub_to e w)
exec e return w = return_by w (pop_of w.session.gosubs).top
exec e (print is' b) w = went (put_items e is' w) (put_end b)
exec e (if_then a q) w = given (eval e w a) w (λ x. elim (eqb x 0) [ true ↦ done skip w | false ↦ exec e q w ])
exec e do_loop w = do_here e w
exec e (until a) w = given (eval e w a) w (λ x. until_by w x (pop_of w.session.dos).top)
exec e (for v a b c) w = given (eval e w a) w (λ x. given (eval e w b) w (λ y. given (eval e w c) w (λ z. for_here e w v x y z)))
exec e (next v) w = next_by w v (pop_for w.session.fors).top
exec e (input vs) w = asked e w (λ u bs. assign_reply e vs u (replied (length vs) bs))
exec e (input_text a) w = given (eval e w a) w (λ p. asked e w (λ u bs. keep_in u (store_at e.sight.access u.memory p (bs ++ (byte_cr ∷ [])))))
exec e remark w = done on w
exec e end w = done (stop 20) w
