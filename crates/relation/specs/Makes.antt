-- What the contracts of the readers say. A reader goes from a state to a state: a cursor and the number of operations so far, or no reading.
use Rattle.std.specs.Prelude.{ℕ, suc, Option, None, Some, ◌+◌, ◌-◌, ◌≤◌, ◌<◌, ◌≡◌, Bool, true, false, List, [], ◌++◌, length, drop, set, eqb}
use Rattle.std.proofs.lemmas.List.Edits.{sets}
use Rattle.nibl.specs.Bytes.{is_space, starts}
use Rattle.nibl.specs.Words.{variable, decimal, hex, string, sign, keywords}
use Rattle.nibl.specs.Grammar.{Joints}
use Rattle.nibl.specs.Tree.{Op, Expr, negate, modulo}
use Rattle.nibl.specs.found.Read.{FrontWord, at_end, wrong, got, step_in, Found, nothing, found, Reader, a_sign, a_joint, choose, fail, give, key, ◌>>=◌, factor_cases, Part, read, factor, term, sum, relation, terms}
use Rattle.word.specs.declared.Cursor.{Cursor}
use Rattle.word.specs.Found.{spelt}
use Rattle.codes.specs.Codes.{op, code_negate, code_operator}
use Rattle.codes.specs.Operators.{op_number}
use Rattle.relation.specs.Code.{values}
use Rattle.relation.specs.Made.{Made}

-- how much of the text lies ahead: more than none while there is a reading
abbrev pub ahead : List ℕ → Made → ℕ
ahead text None = 0
ahead text (Some (c, o)) = suc (length text - c.at)

-- the room for an operation to each byte ahead, past those there are, and for k more
abbrev pub need : ℕ → List ℕ → Made → ℕ
need k text None = 0
need k text (Some (c, o)) = o + (length text - c.at) + k

-- the room for one operation
abbrev pub filled : Made → ℕ
filled None = 0
filled (Some (c, o)) = suc o

-- w was written from o on, and n is the index past it
pub record WroteOps (ops : List ℕ) (o : ℕ) (w ops' : List ℕ) (n : ℕ) : Type 0 where
  pub pos : n ≡ o + length w
  pub buf : ops' ≡ sets ops o w

pub data Written (v : ℕ) (ops : List ℕ) : Made → List ℕ → Made → Type 0 where
  stopped : Written v ops None ops None
  written : {c : Cursor} {o : ℕ} → Written v ops (Some (c, o)) (set ops o v) (Some (c, (o + 1)))

module _ {X A : Type 0} where
  -- From state to state the reader R x reads, whatever x was read before. pre x are x's operations, which are written already, and
  -- code those of what R x reads: what is written is the difference.
  pub data Gives (R : X → Reader A) (pre : X → List ℕ) (code : A → List ℕ) (text ops ops' : List ℕ) : Made → Made → Type 0 where
    stopped : Gives R pre code text ops ops' None None
    refused : {c : Cursor} {o : ℕ} → ((x : X) → R x (drop c.at text) ≡ nothing) → Gives R pre code text ops ops' (Some (c, o)) None
    given : {c d : Cursor} {o n : ℕ} (grow : X → A) (tail : List ℕ) → ((x : X) → R x (drop c.at text) ≡ found (grow x) (drop d.at text))
        → ((x : X) → code (grow x) ≡ pre x ++ tail) → (c.at ≤ length text → d.at ≤ length text) → WroteOps ops o tail ops' n
        → Gives R pre code text ops ops' (Some (c, o)) (Some (d, n))

  pub record Reads (R : X → Reader A) (pre : X → List ℕ) (code : A → List ℕ) (text ops : List ℕ) (r : Made) (ops' : List ℕ) (s : Made) : Type 0 where
    pub low : ahead text s ≤ ahead text r
    pub few : (k : ℕ) → need k text s ≤ need k text r
    pub gives : Gives R pre code text ops ops' r s

  -- to read by R from one state on is to read by S from another on, and nothing is written between them
  pub data Leads (R S : X → Reader A) (text : List ℕ) : Made → Made → Type 0 where
    stopped : Leads R S text None None
    refused : {c : Cursor} {o : ℕ} → ((x : X) → R x (drop c.at text) ≡ nothing) → Leads R S text (Some (c, o)) None
    onto : {c d : Cursor} {o : ℕ} → ((x : X) → R x (drop c.at text) ≡ S x (drop d.at text)) → (c.at ≤ length text → d.at ≤ length text)
        → Leads R S text (Some (c, o)) (Some (d, o))

-- a reader that does not look at what was read before
abbrev pub only : {A : Type 0} → Reader A → Unit {0} → Reader A
only R x = R

abbrev pub bare : Unit {0} → List ℕ
bare x = []

abbrev pub Makes : {A : Type 0} → Reader A → (A → List ℕ) → List ℕ → List ℕ → Made → List ℕ → Made → Type 0
Makes R code = Reads (only R) bare code

-- a byte or more was passed over, and may be spent on an operation
pub record Over (text : List ℕ) (r s : Made) : Type 0 where
  pub low : ahead text s < ahead text r
  pub spare : (k : ℕ) → need (suc k) text s ≤ need k text r

module _ {A : Type 0} where
  -- the reader F, of one word, finds a next, and s is the state past it
  pub data Stood (F : Reader A) (a : A) (text : List ℕ) : Made → Made → Type 0 where
    stood : {c d : Cursor} {o : ℕ} → F (drop c.at text) ≡ found a (drop d.at text) → c.at < d.at → d.at ≤ length text
        → Stood F a text (Some (c, o)) (Some (d, o))

  -- it finds nothing
  pub data Absent (F : Reader A) (text : List ℕ) : Made → Type 0 where
    stopped : Absent F text None
    absent : {c : Cursor} {o : ℕ} → F (drop c.at text) ≡ nothing → Absent F text (Some (c, o))

-- the sign that stands next
abbrev pub SignIs : List ℕ → Made → Option (ℕ × Made) → Type 0
SignIs text r (Some (k, m)) = Stood a_sign k text r m
SignIs text r None = Absent a_sign text r

-- another sign than k, or none
pub data Otherwise (k : ℕ) : Found ℕ → Type 0 where
  nowhere : Otherwise k nothing
  another : {j : ℕ} {s : List ℕ} → eqb j k ≡ false → Otherwise k (found j s)

-- past the sign k, which must stand next
pub data KeyIs (k : ℕ) (text : List ℕ) : Made → Made → Type 0 where
  stopped : KeyIs k text None None
  refused : {c : Cursor} {o : ℕ} → Otherwise k (a_sign (drop c.at text)) → KeyIs k text (Some (c, o)) None
  there : {r s : Made} → Stood a_sign k text r s → KeyIs k text r s

-- A state at a position with so many operations; and past what was read, if anything was
abbrev pub standing : ℕ → ℕ → Made
standing at n = Some ((record { at = at }), n)

abbrev pub made_of : Option ℕ → ℕ → Made
made_of None n = None
made_of (Some at) n = standing at n

-- from a position on, with o operations, the part p is read to the position r, with n operations, or there is none
abbrev pub MakesAt : Part → List ℕ → List ℕ → ℕ → ℕ → List ℕ → Option ℕ → ℕ → Type 0
MakesAt p text ops at o ops' r n = Makes (read p) values text ops (standing at o) ops' (made_of r n)

-- how many operations wait for their last operand; and the operations once they have it
abbrev pub waiting : Option ℕ → ℕ
waiting None = 0
waiting (Some v) = 1

abbrev pub settled : Option ℕ → List ℕ → ℕ → List ℕ
settled None ops o = ops
settled (Some v) ops o = set ops o v

pub data Settles (ops : List ℕ) : Option ℕ → Made → List ℕ → Made → Type 0 where
  stopped : {w : Option ℕ} → Settles ops w None ops None
  nothing_waits : {c : Cursor} {o : ℕ} → Settles ops None (Some (c, o)) ops (Some (c, o))
  last_came : {v : ℕ} {c : Cursor} {o : ℕ} → Settles ops (Some v) (Some (c, o)) (set ops o v) (Some (c, (o + 1)))

-- the operator of a list that stands next, by the position past it and its operation
pub data JointIs (js : Joints) (text : List ℕ) (at : ℕ) : Option (ℕ × ℕ) → Type 0 where
  joint : {r v : ℕ} (q : Op) → v ≡ op code_operator (op_number q) → ((o : ℕ) → Stood (a_joint js) q text (standing at o) (standing r o)) → JointIs js text at (Some (r, v))
  alone : a_joint js (drop at text) ≡ nothing → JointIs js text at None

-- a sum by its first term, or by a minus and its first term
abbrev pub plainly : Reader Expr
plainly = read term >>= (λ a. read (terms a))

abbrev pub negated : Reader Expr
negated = read term >>= (λ a. read (terms (negate a)))

-- where the first term begins, and the operation that waits for it
pub data LeadIs (text : List ℕ) (at : ℕ) : ℕ → Option ℕ → Type 0 where
  minus : {r : ℕ} → ((o : ℕ) → Leads (only (read sum)) (only negated) text (standing at o) (standing r o) × Over text (standing at o) (standing r o))
      → LeadIs text at r (Some (op code_negate 0))
  plain : {r : ℕ} → ((o : ℕ) → Leads (only (read sum)) (only plainly) text (standing at o) (standing r o)) → at ≤ r → LeadIs text at r None

-- The parts of a factor
abbrev pub bracketing : Reader Expr
bracketing = read relation >>= (λ a. key ")" (give a))

-- the second relation of MOD, once the first is read as a
abbrev pub seconding : Expr → Reader Expr
seconding a = read relation >>= (λ b. key ")" (give (modulo a b)))

abbrev pub pairing : Reader Expr
pairing = key "(" (read relation >>= (λ a. key "," (seconding a)))

-- a factor, and an operation that waits for it
pub record Followed (w : Option ℕ) (text ops : List ℕ) (r : Made) (ops' : List ℕ) (s : Made) : Type 0 where
  pub between : List ℕ
  pub state : Made
  pub reads : Makes (read factor) values text ops r between state
  pub settles : Settles between w state ops' s

-- a relation, and a symbol behind it
pub record Closed (k : ℕ) (text ops : List ℕ) (r : Made) (ops' : List ℕ) (s : Made) : Type 0 where
  pub state : Made
  pub reads : Makes (read relation) values text ops r ops' state
  pub closes : KeyIs k text state s

-- whether a word is a variable or a decimal constant
abbrev pub is_operand : FrontWord → Bool
is_operand at_end = false
is_operand wrong = false
is_operand (got (variable v) t) = true
is_operand (got (decimal n) t) = true
is_operand (got (hex n) t) = false
is_operand (got (string bs) t) = false
is_operand (got (sign k) t) = false

-- one of them is read at a position, or none stands there and nothing is written
pub data OperandIs (text ops : List ℕ) (at o : ℕ) : List ℕ → Option ℕ → ℕ → Type 0 where
  operand : {ops' : List ℕ} {d n : ℕ} → MakesAt factor text ops at o ops' (Some d) n → OperandIs text ops at o ops' (Some d) n
  no_operand : is_operand (step_in keywords (drop at text)) ≡ false → OperandIs text ops at o ops None o

-- neither a space nor one of them stands at a position
pub record Rest (text : List ℕ) (at : ℕ) : Type 0 where
  pub unspaced : starts is_space (drop at text) ≡ false
  pub other : is_operand (step_in keywords (drop at text)) ≡ false

-- the sign that stands at a position, with which a factor begins; or none of them stands there
pub data FormIs (text : List ℕ) (at : ℕ) : Option ℕ → Type 0 where
  form : {k : ℕ} → step_in keywords (drop at text) ≡ got (sign k) (drop (at + length (spelt k)) text) → at + length (spelt k) ≤ length text → FormIs text at (Some k)
  no_form : ((k : ℕ) (t : List ℕ) → step_in keywords (drop at text) ≡ got (sign k) t → choose (factor_cases read) fail k ≡ fail) → FormIs text at None
