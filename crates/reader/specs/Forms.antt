-- What the contracts of the readers of statements say. Like those of a relation they go from a state to a state.
use Rattle.std.specs.Prelude.{ℕ, suc, ◌+◌, ◌-◌, ◌≤◌, ◌<◌, ◌≡◌, true, false, List, ◌∷◌, length, drop, set}
use Rattle.std.specs.Prelude.{Option, Some, None}
use Rattle.std.proofs.lemmas.List.Edits.{sets}
use Rattle.std.proofs.Math.Seq.{slice}
use Rattle.nibl.specs.Words.{Token, variable, decimal, hex, string, sign, keywords, number}
use Rattle.nibl.specs.Tree.{Expr, const, Item, Stmt, let_var, let_text, let_copy, goto, gosub, print, if_then}
use Rattle.nibl.specs.found.Read.{FrontWord, at_end, wrong, got, step_in, nothing, found, Reader, a_string, a_sign, choose, fail, give, if_key, key, may, or_else, ◌>>=◌, read, factor, relation, a_relation, assigned, let_cases, remarking, statement_cases, statement, ends_member}
use Rattle.word.specs.declared.Cursor.{Cursor}
use Rattle.codes.specs.Codes.{op, code_set_variable, code_input, code_input_variable}
use Rattle.relation.specs.Makes.{ahead, need, Gives, Leads, only, bare, Over, Stood, Absent, Otherwise}
use Rattle.relation.specs.Made.{Made}
use Rattle.reader.specs.Code.{texts, compile}
use Rattle.reader.specs.declared.Kind.{Kind}
use Rattle.reader.specs.declared.Kind.TheVariants as kind
use Rattle.reader.specs.declared.StatementFront.{StatementFront}
use Rattle.reader.specs.declared.StatementFront.TheVariants as front

-- the room for an operation to each byte ahead and for k more; and a text whose counts fit into an operation
pub record Room (k : ℕ) (text ops : List ℕ) (r : Made) : Type 0 where
  pub fits : need k text r ≤ length ops
  pub small : length text ≤ 65535

module _ {X A : Type 0} where
  -- as `Reads`, but j operations more may be written than bytes are read
  pub record Spends (j : ℕ) (R : X → Reader A) (pre : X → List ℕ) (code : A → List ℕ) (text ops : List ℕ) (r : Made) (ops' : List ℕ) (s : Made) : Type 0 where
    pub low : ahead text s ≤ ahead text r
    pub few : (k : ℕ) → need k text s ≤ need (j + k) text r
    pub gives : Gives R pre code text ops ops' r s

-- The word that stands next: w, and s is the state past it
pub data Heads (w : Token) (text : List ℕ) : Made → Made → Type 0 where
  heads : {c d : Cursor} {o : ℕ} → step_in keywords (drop c.at text) ≡ got w (drop d.at text) → c.at < d.at → d.at ≤ length text
      → Heads w text (Some (c, o)) (Some (d, o))

-- no variable, string or sign
pub data Unkind : FrontWord → Type 0 where
  text_end : Unkind at_end
  no_word : Unkind wrong
  a_decimal : {n : ℕ} {s : List ℕ} → Unkind (got (decimal n) s)
  a_hex : {n : ℕ} {s : List ℕ} → Unkind (got (hex n) s)

pub data Headless (text : List ℕ) : Made → Type 0 where
  halted : Headless text None
  headless : {c : Cursor} {o : ℕ} → Unkind (step_in keywords (drop c.at text)) → Headless text (Some (c, o))

abbrev pub KindIs : List ℕ → Made → Kind → Type 0
KindIs text r (kind.Variable v m) = Heads (variable v) text r m
KindIs text r (kind.Text i j m) = Heads (string (slice i j text)) text r m × (i ≤ j) × (j ≤ length text)
KindIs text r (kind.Sign k m) = Heads (sign k) text r m
KindIs text r kind.Other = Headless text r

-- another sign than k, or none, stands next
pub data Unless (k : ℕ) (text : List ℕ) : Made → Type 0 where
  halted : Unless k text None
  unless : {c : Cursor} {o : ℕ} → Otherwise k (a_sign (drop c.at text)) → Unless k text (Some (c, o))

-- past the sign k, where it stands next
pub data MayIs (k : ℕ) (text : List ℕ) (r : Made) : Made → Type 0 where
  gone : {s : Made} → Stood a_sign k text r s → MayIs k text r s
  kept : Unless k text r → MayIs k text r r

-- so many operations past those there are
abbrev pub filled_by : ℕ → Made → ℕ
filled_by n None = 0
filled_by n (Some (c, o)) = o + n

-- the operations w were written
pub data Puts (w : List ℕ) (ops : List ℕ) : Made → List ℕ → Made → Type 0 where
  halted : Puts w ops None ops None
  puts : {c : Cursor} {o : ℕ} → Puts w ops (Some (c, o)) (sets ops o w) (Some (c, (o + length w)))

-- the operation at r asks for as many variables as stand behind it
pub data Counted (ops : List ℕ) : Made → Made → List ℕ → Made → Type 0 where
  halted : {s : Made} → Counted ops None s ops None
  refused : {r : Made} → Counted ops r None ops None
  counted : {c d : Cursor} {o n : ℕ} → Counted ops (Some (c, o)) (Some (d, n)) (set ops o (op code_input (n - suc o))) (Some (d, n))

-- where the count fits
abbrev pub Countable : List ℕ → Made → Made → Type 0
Countable ops None s = Unit {0}
Countable ops (Some (c, o)) None = Unit {0}
Countable ops (Some (c, o)) (Some (d, n)) = (o < n) × (n ≤ length ops) × (n - suc o ≤ 65535)

-- a word of two bytes or more was passed over
pub record Long (text : List ℕ) (r s : Made) : Type 0 where
  pub low : ahead text s < ahead text r
  pub spare : (k : ℕ) → need (suc (suc k)) text s ≤ need k text r

-- The parts of statements
-- what is stored at the address a
abbrev pub copying : Expr → Reader Stmt
copying a s = or_else (a_string s) (λ bs. give (let_text a bs)) (key "$" (read factor >>= (λ b. give (let_copy a b)))) s

abbrev pub going : Reader Stmt
going = if_key "TO" (a_relation goto) (key "SUB" (a_relation gosub))

abbrev pub ending : List Item → Reader Stmt
ending is = if_key ";" (give (print is true)) (give (print is false))

abbrev pub stepping : Reader Expr
stepping = if_key "STEP" (read relation) (give (const 1))

abbrev pub variables_into : List ℕ → List ℕ
variables_into vs = op code_input (length vs) ∷ texts code_input_variable vs

-- what follows IF
abbrev pub iffing : Reader Stmt
iffing = read relation >>= (λ a. may "THEN" (statement >>= (λ q. give (if_then a q))))

-- REM writes nothing
abbrev pub RemarkIs : List ℕ → Made → Made → Type 0
RemarkIs text r s = (ops : List ℕ) → Spends 0 (only remarking) bare compile text ops r ops s

-- how a statement begins
pub data FrontIs (text : List ℕ) (r : Made) : StatementFront → Type 0 where
  assigns : {v : ℕ} {m : Made} (n : ℕ) → v ≡ op code_set_variable n → Leads (only statement) (only (assigned (let_var n))) text r m → Over text r m
      → FrontIs text r (front.Assigns v m)
  symbol : {k : ℕ} {m : Made} → Leads (only statement) (only (choose let_cases fail k)) text r m → Over text r m → FrontIs text r (front.Symbol k m)
  when : {m : Made} → Leads (only statement) (only iffing) text r m → Over text r m → FrontIs text r (front.If m)
  keyword : {k : ℕ} {m : Made} → (k ≡ number "IF" → ⊥) → Leads (only statement) (only (choose (statement_cases statement) fail k)) text r m → Long text r m
      → FrontIs text r (front.Keyword k m)
  other : Absent statement text r → FrontIs text r front.Other

-- how a member ends behind its statement, whatever that is
pub data EndsIs (text : List ℕ) : Made → Option (ℕ × ℕ) → Type 0 where
  halted : EndsIs text None None
  refused : {c : Cursor} {n : ℕ} → ((q : Stmt) → ends_member q (drop c.at text) ≡ nothing) → EndsIs text (Some (c, n)) None
  ends : {c : Cursor} {n : ℕ} (left : ℕ) (t : List ℕ) → ((q : Stmt) → ends_member q (drop c.at text) ≡ found (record { statement = q; left = left }) t)
      → EndsIs text (Some (c, n)) (Some (n, left))
