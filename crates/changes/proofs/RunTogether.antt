-- Document 02, item 1: "Every line that had a reading keeps it". A word by the one-word rule is the word by the longest keyword, so
-- lines, stored texts and replies are read as they were, good pages stay good with the lines they had, and fitting records fit.
-- The lines that the item names are gained. Assumes nothing.
use Prim.Native.Nat.{ℕ, ◌≤◌}
use mathlib.Core.Path.{◌≡◌, refl, sym, ap, ◌∙◌}
use mathlib.Core.Bool.{true, false, false≢true}
use mathlib.Core.List.{List, [], ◌∷◌, ◌++◌}
use mathlib.Core.Option.{none}
use native.Mathlib.Omega.{arith}
use lib.ListN.{length}
use Rattle.nibl.specs.Bytes.{bytes, is_capital, is_digit, starts, front}
use Rattle.nibl.specs.Words.{Token, keywords, commands, index_in, Word, spaced, keyword, letter, decimal_digits, hex_digits, quoted, pair, symbol}
use Rattle.nibl.specs.Tree.{Expr, var, two, greater, value, print, if_then, goto, remark, Member, Typed, immediate}
use Rattle.nibl.specs.Readings.{ListReading, ReplyReading, LineReading}
use Rattle.nibl.specs.found.Read.{letters_step, word_step, step_in, ◌>>=◌, a_variable, a_decimal, a_string, a_sign, if_key, a_joint, part, read_n, read, an_item, joined_n, joined, a_statement, statement_n, statement, typed}
use Rattle.nibl.specs.declared.Session.{Session}
use Rattle.nibl.proofs.Keywords.{first_of, over-all}
use Rattle.nibl.proofs.Words.{no_symbol, of-pairs, capital-other, digit-other, front-run}
use Rattle.nibl.proofs.Lines.{typed-sound}
use Rattle.nibl.proofs.Exact.{members-unique}
use Rattle.demands.specs.Good.{GoodPageBy, GoodPage, FitsBy, Fits}
use Rattle.changes.specs.Kept.{KeepsWords, KeepsLists, lines_in}
use Rattle.changes.specs.OneWord.{OneWord, OneListReading, OneReplyReading, OneLineReading, Gained}
use Rattle.changes.specs.OneWord as one
use Rattle.changes.proofs.GrammarKept.{keep-members, keep-reply, grammar-kept}
use Rattle.changes.proofs.PageKept.{keep-good, same_lines, keep-fits}
use Rattle.changes.proofs.Unread.{unread}

pub word_kept : {table : List (List ℕ)} {s s' : List ℕ} {w : Token} → OneWord table s w s' → Word table s w s'
word_kept (one.spaced w) = spaced (word_kept w)
word_kept (one.letter r) = letter r
word_kept {table = table} (one.letters {c} {d} {k} {cs} {s} r e) =
    keyword {s = s} (record { each = r.each; spelled = e; longest = rw (front-run r.each s r.longest) (over-all table (c ∷ d ∷ cs)) })
word_kept (one.decimal_digits r l) = decimal_digits r l
word_kept (one.hex_digits r) = hex_digits r
word_kept (one.quoted a) = quoted a
word_kept (one.pair e) = pair e
word_kept (one.symbol e n) = symbol e n

-- and the one-word rule had every word that no letter follows
pub word-was : {table : List (List ℕ)} {s s' : List ℕ} {w : Token} → Word table s w s' → starts is_capital s' ≡ false → OneWord table s w s'
word-was (spaced w) e = one.spaced (word-was w e)
word-was (keyword {s = s} r) e = one.letters {s = s} (record { some = first_of r.each; each = r.each; longest = e }) r.spelled
word-was (letter r) e = one.letter r
word-was (decimal_digits r l) e = one.decimal_digits r l
word-was (hex_digits r) e = one.hex_digits r
word-was (quoted a) e = one.quoted a
word-was (pair h) e = one.pair h
word-was (symbol h n) e = one.symbol h n

words-kept : (table : List (List ℕ)) → KeepsWords (OneWord table) (Word table)
words-kept table s w s' k = word_kept k

-- "Every line that had a reading keeps it", and it has no other (`line-unique` of crate nibl)
pub line_kept : {s : List ℕ} {y : Typed} → OneLineReading s y → LineReading s y
line_kept = grammar-kept (words-kept keywords) (words-kept commands)

pub members_kept : {s : List ℕ} {ms : List Member} → OneListReading s ms → ListReading s ms
members_kept = keep-members (words-kept keywords)

lists-kept : KeepsLists OneListReading ListReading
lists-kept t ms = members_kept

pub reply-kept : {n : ℕ} {s : List ℕ} {es : List Expr} → OneReplyReading n s es → ReplyReading n s es
reply-kept = keep-reply (words-kept keywords)

-- a good page stays good, and its lines are read as they were
pub page-kept : {lim : ℕ} {page : List ℕ} → GoodPageBy OneListReading lim page → GoodPage lim page
page-kept = keep-good lists-kept

pub lines-kept : {lim : ℕ} {page : List ℕ} (g : GoodPageBy OneListReading lim page) (h : GoodPage lim page) → lines_in g ≡ lines_in h
lines-kept = same_lines (λ t ms ns p q. members-unique (members_kept p) q) refl

pub fits_kept : {page : List ℕ} {s : Session} → FitsBy OneListReading page s → Fits page s
fits_kept = keep-fits lists-kept

-- Before, a line that begins with a run of letters that is no word had no reading
digits-first : (ds s : List ℕ) → starts is_digit ds ≡ true → starts is_capital (ds ++ s) ≡ false
digits-first [] s e = absurd (false≢true e)
digits-first (d ∷ ds) s e = (digit-other d e).1

module _ {table : List (List ℕ)} where
  unworded : {s s' : List ℕ} {w : Token} → starts is_capital s ≡ true → 2 ≤ length (front is_capital s) → index_in table (front is_capital s) ≡ none
      → OneWord table s w s' → ⊥
  unworded c l n (one.spaced w) = false≢true c
  unworded c l n (one.letter {s} r) = omega (arith, l, ap length (front-run r.each s r.longest))
  unworded c l n (one.letters {s = s} r e) = let f = front-run r.each s r.longest in let z : ◌≡◌ {A = ℕ} 0 1 = cc in omega arith
  unworded c l n (one.decimal_digits {ds} {s} r m) = false≢true (sym (digits-first ds s r.some) ∙ c)
  unworded c l n (one.hex_digits r) = false≢true c
  unworded c l n (one.quoted a) = false≢true c
  unworded c l n (one.pair {a} {b} {k} e) = false≢true (sym (of-pairs (λ x y m. is_capital x ≡ false) a b k refl refl refl e) ∙ c)
  unworded c l n (one.symbol {b} e m) = false≢true (sym (no_symbol is_capital b refl e) ∙ c)

pub had-none : (s : List ℕ) → starts is_capital s ≡ true → 2 ≤ length (front is_capital s) → index_in keywords (front is_capital s) ≡ none
    → index_in commands (front is_capital s) ≡ none → (y : Typed) → OneLineReading s y → ⊥
had-none (b ∷ s) c l k n = unread (λ w s'. unworded c l k) (λ w s'. unworded c l n) (rw (capital-other b c).0)
had-none [] c l k n = absurd (false≢true c)

-- and the lines that the item names are of these
pub gains : Gained (bytes "IFA>B GOTOX") (immediate (if_then (two greater (var 0) (var 1)) (goto (var 23))))
    × Gained (bytes "PRINTA") (immediate (print (value (var 0) ∷ []) false)) × Gained (bytes "REMARK") (immediate remark)
unfolding letters_step word_step step_in ◌>>=◌ a_variable a_decimal a_string a_sign if_key a_joint part read_n read an_item joined_n joined a_statement statement_n statement typed
gains = (
  (typed-sound (bytes "IFA>B GOTOX") _ refl, had-none (bytes "IFA>B GOTOX") refl (omega arith) refl refl),
  (typed-sound (bytes "PRINTA") _ refl, had-none (bytes "PRINTA") refl (omega arith) refl refl),
  (typed-sound (bytes "REMARK") _ refl, had-none (bytes "REMARK") refl (omega arith) refl refl),
)
