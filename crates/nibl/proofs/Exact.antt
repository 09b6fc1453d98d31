-- The grammar is exact, and no line has two readings. Assumes nothing.
use Prim.Native.Nat.{ℕ}
use mathlib.Core.Path.{◌≡◌}
use mathlib.Core.Bool.{false}
use mathlib.Core.List.{List}
use mathlib.Core.Logic.{◌↔◌}
use mathlib.Core.Option.{some}
use Rattle.nibl.specs.Bytes.{is_space, All}
use Rattle.nibl.specs.Words.{Token, Word}
use Rattle.nibl.specs.Grammar.{Relation, Statement}
use Rattle.nibl.specs.Readings.{ListReading, ReplyReading, LineReading}
use Rattle.nibl.specs.Tree.{Expr, Stmt, Member, Typed}
use Rattle.nibl.specs.found.Read.{at_end, got, step_in, found, relation, read, statement, reading, replied, typed}
use Rattle.nibl.proofs.Words.{word_sound, ended-sound, word-complete, ended-complete}
use Rattle.nibl.proofs.Rules.{W}
use Rattle.nibl.proofs.Lines.{relation-sound, statement-sound, reading-sound, replied-sound, typed-sound}
use Rattle.nibl.proofs.Next.{next_is}
use Rattle.nibl.proofs.Complete.{goes_on, relation-complete}
use Rattle.nibl.proofs.Whole.{continues, statement-complete, reading-complete, replied-complete, typed-complete}

-- The functions find exactly what the grammar gives
pub word-exact : (table : List (List ℕ)) (s s' : List ℕ) (w : Token) → (step_in table s ≡ got w s') ↔ Word table s w s'
word-exact table s s' w = (word_sound table s s' w, word-complete table)

pub ended-exact : (table : List (List ℕ)) (s : List ℕ) → (step_in table s ≡ at_end) ↔ All is_space s
ended-exact table s = (ended-sound table s, ended-complete table)

-- where no word follows that would go on
pub relation-exact : (s s' : List ℕ) (a : Expr) → next_is goes_on s' ≡ false → (read relation s ≡ found a s') ↔ Relation W s a s'
relation-exact s s' a h = (relation-sound s s' a, λ r. relation-complete r h)

pub statement-exact : (s s' : List ℕ) (q : Stmt) → next_is continues s' ≡ false → (statement s ≡ found q s') ↔ Statement W s q s'
statement-exact s s' q h = (statement-sound s s' q, λ p. statement-complete p h)

pub reading-exact : (s : List ℕ) (ms : List Member) → (reading s ≡ some ms) ↔ ListReading s ms
reading-exact s ms = (reading-sound s ms, reading-complete)

pub replied-exact : (n : ℕ) (s : List ℕ) (es : List Expr) → (replied n s ≡ some es) ↔ ReplyReading n s es
replied-exact n s es = (replied-sound n s es, replied-complete)

pub typed-exact : (s : List ℕ) (y : Typed) → (typed s ≡ some y) ↔ LineReading s y
typed-exact s y = (typed-sound s y, typed-complete)

-- No line has two readings
pub line-unique : {s : List ℕ} {y z : Typed} → LineReading s y → LineReading s z → y ≡ z
line-unique p q = let e = typed-complete p in let f = typed-complete q in cc

pub members-unique : {s : List ℕ} {ms ns : List Member} → ListReading s ms → ListReading s ns → ms ≡ ns
members-unique p q = let e = reading-complete p in let f = reading-complete q in cc

pub reply-unique : {n : ℕ} {s : List ℕ} {es fs : List Expr} → ReplyReading n s es → ReplyReading n s fs → es ≡ fs
reply-unique p q = let e = replied-complete p in let f = replied-complete q in cc

pub statement-unique : {s t u : List ℕ} {p q : Stmt} → Statement W s p t → Statement W s q u → next_is continues t ≡ false → next_is continues u ≡ false → (p ≡ q) × (t ≡ u)
statement-unique x y h i = let e = statement-complete x h in let f = statement-complete y i in (cc, cc)

pub relation-unique : {s t u : List ℕ} {a b : Expr} → Relation W s a t → Relation W s b u → next_is goes_on t ≡ false → next_is goes_on u ≡ false → (a ≡ b) × (t ≡ u)
relation-unique x y h i = let e = relation-complete x h in let f = relation-complete y i in (cc, cc)
