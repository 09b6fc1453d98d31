-- Two runs alike, in surroundings that differ in a harmless way: one law for all that document 02's items want shown of that.
use Rattle.std.specs.Prelude.{ℕ, suc, ◌+◌, ◌≡◌, Bool, true, List, [], ◌∷◌, ◌⊎◌, length, drop, eqb}
use Rattle.std.specs.Prelude.{Option as Opt, Some, None}
use Rattle.std.proofs.Math.Option.{Option, none, some}
use Rattle.std.proofs.lemmas.List.Edits.{sets}
use Rattle.nibl.specs.Tree.{Op, Expr, top, byte_at, invert, negate, modulo, two}
use Rattle.nibl.specs.Tree.{Item, text, stored, value}
use Rattle.nibl.specs.Tree.{Stmt, let_var, let_stat, let_byte, let_text, let_copy, goto, gosub, return, print, if_then, do_loop, until, for, next, input, input_text, remark, end}
use Rattle.nibl.specs.found.Read.{replied}
use Rattle.nibl.specs.Values.{Result, is, no}
use Rattle.nibl.specs.Stack.{push_of, pop_of, push_for, pop_for}
use Rattle.nibl.specs.Typing.{Gathered, gather}
use Rattle.nibl.specs.Record.{place, position, mark}
use Rattle.nibl.specs.Page.{find, used}
use Rattle.nibl.specs.Meaning.{World, Env, Next, on, skip, go, stop, Done, done, byte_of, string_at, store_at}
use Rattle.nibl.specs.Runs.{Ran, Standing, Fetched}
use Rattle.nibl.specs.Runs as runs
use Rattle.nibl.specs.declared.Session.{Session}
use Rattle.nibl.specs.declared.Place.{Place}
use Rattle.nibl.specs.declared.PlaceStack.{PlaceStack}
use Rattle.nibl.specs.declared.ForEntry.{ForEntry}
use Rattle.nibl.specs.declared.ForStack.{ForStack}
use Rattle.demands.specs.Leaves.{WholeLines}

-- the tops of two stacks, whose places are alike by H
pub data TopsAlike (H : ℕ → ℕ → Type 0) : Opt Place → Opt Place → Type 0 where
  empty : TopsAlike H None None
  places : {p p' : Place} → H (position p) (position p') → TopsAlike H (Some p) (Some p')

pub record EntriesAlike (H : ℕ → ℕ → Type 0) (f f' : ForEntry) : Type 0 where
  pub var : f.var ≡ f'.var
  pub limit : f.limit ≡ f'.limit
  pub step : f.step ≡ f'.step
  pub place : H (position f.place) (position f'.place)

pub data ForTopsAlike (H : ℕ → ℕ → Type 0) : Opt ForEntry → Opt ForEntry → Type 0 where
  empty : ForTopsAlike H None None
  entries : {f f' : ForEntry} → EntriesAlike H f f' → ForTopsAlike H (Some f) (Some f')

-- what was asked for is alike, or the refusal is the same
pub data ResultsAlike {A B : Type 0} (R : A → B → Type 0) : Result A → Result B → Type 0 where
  given : {a : A} {b : B} → R a b → ResultsAlike R (is a) (is b)
  refused : {n : ℕ} → ResultsAlike R (no n) (no n)

pub data OptionsAlike {A B : Type 0} (R : A → B → Type 0) : Option A → Option B → Type 0 where
  nothing : OptionsAlike R none none
  something : {a : A} {b : B} → R a b → OptionsAlike R (some a) (some b)

-- What is alike of two runs: P where they go on, H the places that they save, G and F their stacks, M their memories, O their
-- outputs as far as a position; and Fine, what their expressions keep to. The laws are those that a statement needs.
pub record Likeness : Type 1 where
  pub P : ℕ → ℕ → Type 0
  pub H : ℕ → ℕ → Type 0
  pub G : PlaceStack → PlaceStack → Type 0
  pub F : ForStack → ForStack → Type 0
  pub M : List ℕ → List ℕ → Type 0
  pub O : ℕ → List ℕ → List ℕ → Type 0
  pub Fine : Expr → Type 0
  pub after : (p p' : ℕ) → H p p' → P (suc p) (suc p')
  pub marks : (p p' : ℕ) → H p p' → eqb p mark ≡ eqb p' mark
  pub push_ok : (s s' : PlaceStack) (p p' : ℕ) → G s s' → H p p' → (push_of s (place p)).ok ≡ (push_of s' (place p')).ok
  pub push : (s s' : PlaceStack) (p p' : ℕ) → G s s' → H p p' → G (push_of s (place p)).stack (push_of s' (place p')).stack
  pub pop_top : (s s' : PlaceStack) → G s s' → TopsAlike H (pop_of s).top (pop_of s').top
  pub pop : (s s' : PlaceStack) → G s s' → G (pop_of s).stack (pop_of s').stack
  pub push_for_ok : (s s' : ForStack) (f f' : ForEntry) → F s s' → EntriesAlike H f f' → (push_for s f).ok ≡ (push_for s' f').ok
  pub push_fors : (s s' : ForStack) (f f' : ForEntry) → F s s' → EntriesAlike H f f' → F (push_for s f).stack (push_for s' f').stack
  pub pop_for_top : (s s' : ForStack) → F s s' → ForTopsAlike H (pop_for s).top (pop_for s').top
  pub pop_fors : (s s' : ForStack) → F s s' → F (pop_for s).stack (pop_for s').stack
  pub out_long : (p : ℕ) (o o' : List ℕ) → O p o o' → length o ≡ length o'
  pub out_put : (p : ℕ) (o o' bs : List ℕ) → O p o o' → O (p + length bs) (sets o p bs) (sets o' p bs)
  pub of_byte : (a : Expr) → Fine (byte_at a) → Fine a
  pub of_not : (a : Expr) → Fine (invert a) → Fine a
  pub of_minus : (a : Expr) → Fine (negate a) → Fine a
  pub of_mod : (a b : Expr) → Fine (modulo a b) → Fine a × Fine b
  pub of_two : (o : Op) (a b : Expr) → Fine (two o a b) → Fine a × Fine b

-- each expression of a statement keeps to it
pub data Each {A : Type 0} (Q : A → Type 0) : List A → Type 0 where
  no_more : Each Q []
  one_more : {a : A} {l : List A} → Q a → Each Q l → Each Q (a ∷ l)

pub data FineItem (Q : Expr → Type 0) : Item → Type 0 where
  a_text : {bs : List ℕ} → FineItem Q (text bs)
  a_stored : {a : Expr} → Q a → FineItem Q (stored a)
  a_value : {a : Expr} → Q a → FineItem Q (value a)

pub data FineStmt (Q : Expr → Type 0) : Stmt → Type 0 where
  a_let_var : {v : ℕ} {a : Expr} → Q a → FineStmt Q (let_var v a)
  a_let_stat : {a : Expr} → Q a → FineStmt Q (let_stat a)
  a_let_byte : {a b : Expr} → Q a → Q b → FineStmt Q (let_byte a b)
  a_let_text : {a : Expr} {bs : List ℕ} → Q a → FineStmt Q (let_text a bs)
  a_let_copy : {a b : Expr} → Q a → Q b → FineStmt Q (let_copy a b)
  a_goto : {a : Expr} → Q a → FineStmt Q (goto a)
  a_gosub : {a : Expr} → Q a → FineStmt Q (gosub a)
  a_return : FineStmt Q return
  a_print : {items : List Item} {b : Bool} → Each (FineItem Q) items → FineStmt Q (print items b)
  an_if : {a : Expr} {q : Stmt} → Q a → FineStmt Q q → FineStmt Q (if_then a q)
  a_do : FineStmt Q do_loop
  an_until : {a : Expr} → Q a → FineStmt Q (until a)
  a_for : {v : ℕ} {a b c : Expr} → Q a → Q b → Q c → FineStmt Q (for v a b c)
  a_next : {v : ℕ} → FineStmt Q (next v)
  an_input : {vs : List ℕ} → FineStmt Q (input vs)
  an_input_text : {a : Expr} → Q a → FineStmt Q (input_text a)
  a_remark : FineStmt Q remark
  an_end : FineStmt Q end

-- an over-long line is gathered
pub record LongLine (lim : ℕ) (s : List ℕ) : Type 0 where
  pub gathered : Gathered
  pub is : gather lim s ≡ some gathered
  pub long : gathered.line.long ≡ true

module _ (L : Likeness) where
  pub record SessionsAlike (s s' : Session) : Type 0 where
    pub vars : s.vars ≡ s'.vars
    pub flags : s.flags ≡ s'.flags
    pub gosubs : L.G s.gosubs s'.gosubs
    pub dos : L.G s.dos s'.dos
    pub fors : L.F s.fors s'.fors
    pub paused : s.paused ≡ s'.paused

  -- two worlds alike, at the input position i
  pub record WorldsAlike (i : ℕ) (w w' : World) : Type 0 where
    pub session : SessionsAlike w.session w'.session
    pub memory : L.M w.memory w'.memory
    pub output : L.O w.outpos w.output w'.output
    pub outpos : w.outpos ≡ w'.outpos
    pub here : w.inpos ≡ i
    pub there : w'.inpos ≡ i

  pub data NextAlike : Next → Next → Type 0 where
    go_on : NextAlike on on
    skips : NextAlike skip skip
    goes : {q q' : ℕ} → L.P q q' → NextAlike (go q) (go q')
    stops : {n : ℕ} → NextAlike (stop n) (stop n)

  pub data Both (i : ℕ) : Done → Done → Type 0 where
    both : {n n' : Next} {w w' : World} → NextAlike n n' → WorldsAlike i w w' → Both i (done n w) (done n' w')

  -- two surroundings alike; N where they gather another line
  pub record EnvsAlike (N : ℕ → Type 0) (e e' : Env) : Type 0 where
    pub sense : e.sight.sense ≡ e'.sight.sense
    pub gathers : (i : ℕ) → (gather e.lim (drop i e.input) ≡ gather e'.lim (drop i e'.input)) ⊎ N i
    pub longs : (i : ℕ) → N i → LongLine e.lim (drop i e.input)
    pub replies : (i n : ℕ) (g : Gathered) (es : List Expr) → gather e.lim (drop i e.input) ≡ some g → replied n g.line.bytes ≡ some es → Each L.Fine es
    pub finds : (n : ℕ) → OptionsAlike L.P (find e.page n) (find e'.page n)
    pub tops : L.Fine top → used e.page ≡ used e'.page
    pub bytes : (m m' : List ℕ) → L.M m m' → (a : ℕ) → byte_of e.sight.access m a ≡ byte_of e'.sight.access m' a
    pub strings : (m m' : List ℕ) → L.M m m' → (a : ℕ) → string_at e.sight.access m a ≡ string_at e'.sight.access m' a
    pub stores : (m m' : List ℕ) → L.M m m' → (a : ℕ) (bs : List ℕ) → ResultsAlike L.M (store_at e.sight.access m a bs) (store_at e'.sight.access m' a bs)
    pub here : L.H e.here e'.here

  -- A statement ended alike in both, at the same input position or behind the line that both took there; or the first was stopped
  -- with 6 at a line that is over-long for it, and that the second takes
  pub data Alike (N : ℕ → Type 0) (e : Env) (i : ℕ) : Done → Done → Type 0 where
    alike : {d d' : Done} → Both i d d' → Alike N e i d d'
    heard : {d d' : Done} (g : Gathered) → gather e.lim (drop i e.input) ≡ some g → Both (i + g.taken) d d' → Alike N e i d d'
    parted : {u : World} {d' : Done} → N i → (l : LongLine e.lim (drop i e.input)) → u.inpos ≡ i + l.gathered.taken → Alike N e i (done (stop 6) u) d'

  -- what is next at two positions, each of its own page
  pub record StandsAlike (x x' : Standing) : Type 0 where
    pub statement : x.statement ≡ x'.statement
    pub fine : FineStmt L.Fine x.statement
    pub line : x.line ≡ x'.line
    pub place : L.H x.place x'.place
    pub cr : L.P (suc x.cr) (suc x'.cr)

  pub data FetchedAlike : Fetched → Fetched → Type 0 where
    past : FetchedAlike runs.past runs.past
    unread : {a a' : ℕ} → L.P a a' → FetchedAlike (runs.unread a) (runs.unread a')
    here : {x x' : Standing} → StandsAlike x x' → FetchedAlike (runs.here x) (runs.here x')

  -- Two runs ended alike, where a run would go on or at a statement's place; or the first was stopped with 6 at a line that is
  -- over-long for it. The lines of input that both took before are whole
  pub data RunsAlike (N : ℕ → Type 0) (e : Env) (i : ℕ) (r r' : Ran) : Type 0 where
    together : {j : ℕ} → WholeLines e.lim e.input i j → r.stop ≡ r'.stop → r.lines ≡ r'.lines → L.P r.at r'.at ⊎ L.H r.at r'.at → WorldsAlike j r.world r'.world
        → RunsAlike N e i r r'
    apart : {j : ℕ} → WholeLines e.lim e.input i j → N j → (l : LongLine e.lim (drop j e.input)) → r.stop ≡ 6 → r.world.inpos ≡ j + l.gathered.taken → RunsAlike N e i r r'
