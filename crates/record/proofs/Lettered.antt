-- A FOR that was read names one of the 26 variables. Assumes nothing.
use Prim.Native.Nat.{ℕ, ◌-◌, ◌<◌}
use mathlib.Core.Path.{◌≡◌, refl}
use mathlib.Core.Bool.{true, false, false≢true}
use mathlib.Core.List.{List, []}
use native.Mathlib.Omega.{arith}
use lib.Dec.{leb, eqb}
use borrow.Author.Tests.{eqb-true, leb-true}
use Rattle.nibl.specs.Words.{Token, variable, Word, spaced, keyword, letter, decimal_digits, hex_digits, quoted, pair, symbol}
use Rattle.nibl.specs.Grammar.{Statement, a_let_var, a_let_stat, a_let_byte, a_let_text, a_let_copy, a_goto, a_gosub, a_return, a_print, an_if, a_do, an_until, a_for, a_next, an_input, an_input_text, a_remark, an_end}
use Rattle.nibl.specs.Tree.{Stmt, Member}
use Rattle.nibl.specs.found.Read.{found, member}
use Rattle.nibl.specs.Page.{is_among}
use Rattle.nibl.proofs.Words.{or_cases}
use Rattle.nibl.proofs.Rules.{W, it, ok-found}
use Rattle.nibl.proofs.Lines.{AMember, at_end, at_colon, member-same}
use Rattle.page.proofs.Program.{both}
use Rattle.record.specs.Fors.{for_vars}

word-variable : {table : List (List ℕ)} {s s' : List ℕ} {w : Token} (v : ℕ) → Word table s w s' → w ≡ variable v → v < 26
word-variable v (spaced x) e = word-variable v x e
word-variable v (letter {c = c} r) e =
    let i : c - 65 ≡ v = cc in
    let b = both (leb 65 c) (leb c 90) r.some in
    let l = leb-true c 90 b.1 in
    omega arith
word-variable v (keyword r) e = let z : ◌≡◌ {A = ℕ} 0 1 = cc in absurd (omega arith)
word-variable v (decimal_digits r l) e = let z : ◌≡◌ {A = ℕ} 0 1 = cc in absurd (omega arith)
word-variable v (hex_digits r) e = let z : ◌≡◌ {A = ℕ} 0 1 = cc in absurd (omega arith)
word-variable v (quoted a) e = let z : ◌≡◌ {A = ℕ} 0 1 = cc in absurd (omega arith)
word-variable v (pair p) e = let z : ◌≡◌ {A = ℕ} 0 1 = cc in absurd (omega arith)
word-variable v (symbol p n) e = let z : ◌≡◌ {A = ℕ} 0 1 = cc in absurd (omega arith)

abbrev pub Lettered : List ℕ → Type 0
Lettered vs = (v : ℕ) → is_among vs v ≡ true → v < 26

nothing-among : Lettered []
nothing-among v h = absurd (false≢true h)

pub statement-lettered : {s s' : List ℕ} {q : Stmt} → Statement W s q s' → Lettered (for_vars q)
statement-lettered (a_let_var m w k r) = nothing-among
statement-lettered (a_let_stat m w k r) = nothing-among
statement-lettered (a_let_byte m w f k r) = nothing-among
statement-lettered (a_let_text m w f k b) = nothing-among
statement-lettered (a_let_copy m w f k j g) = nothing-among
statement-lettered (a_goto e r) = nothing-among
statement-lettered (a_gosub e r) = nothing-among
statement-lettered (a_return k) = nothing-among
statement-lettered (a_print p items b) = nothing-among
statement-lettered (an_if k r m q) = statement-lettered q
statement-lettered (a_do k) = nothing-among
statement-lettered (an_until k r) = nothing-among
statement-lettered (a_for {v = v} k w j a t b c) = λ u h.
    or_cases (eqb u v) false h (λ i. let z : u ≡ v = eqb-true u v i in rw z (word-variable v w refl)) (λ i. absurd (false≢true i))
statement-lettered (a_next k w) = nothing-among
statement-lettered (an_input k vs) = nothing-among
statement-lettered (an_input_text k j f) = nothing-among
statement-lettered (a_remark k a) = nothing-among
statement-lettered (an_end k) = nothing-among

member-lettered : {s t : List ℕ} {m : Member} → AMember s m t → Lettered (for_vars m.statement)
member-lettered (at_end p a) = statement-lettered p
member-lettered (at_colon p k) = statement-lettered p

pub found-lettered : (s t : List ℕ) (m : Member) → member s ≡ found m t → Lettered (for_vars m.statement)
found-lettered s t m e = member-lettered (ok-found (rw e at (it (member-same s))))
