-- `left_at` meets its contract, by the code of the operation. Assumes nothing.
-- two codes that follow one another are one test; the one operation that is left is the one there
use Prim.Native.Nat.{ℕ, ◌+◌, ◌-◌, ◌≤◌, ◌<◌}
use mathlib.Core.Logic.{◌⊎◌, inl, inr}
use mathlib.Core.List.{List}
use mathlib.Core.Path.{◌≡◌, ap, ◌∙◌}
use native.Mathlib.Omega.{arith}
use borrow.Author.Tests.{eqb-true, eqb-false}
use lib.Dec.{eqb}
use lib.ListN.{length, take, drop, get_or, length-drop}
use Rattle.std.proofs.lemmas.List.{get_or-drop}
use Rattle.line.proofs.Lists.{part-rest}
use Rattle.page.proofs.Walk.{by_cases}
use Rattle.codes.specs.Codes.{code_in, code_gosub, code_do, code_for}
use Rattle.statement.proofs.Plainly.{left-calls, left-loops, left-counts}
use Rattle.statement.proofs.left_at.Goals as goal

there : (ops : List ℕ) (at : ℕ) → get_or (take (length ops - at) (drop at ops)) 0 0 ≡ get_or ops at 0
there ops at = ap (λ (l : List ℕ). get_or l 0 0) (part-rest ops at) ∙ get_or-drop at ops 0 0 ∙ ap (λ (n : ℕ). get_or ops n 0) (omega arith)

alone : (ops : List ℕ) (at : ℕ) → length (take (length ops - at) (drop at ops)) < 2 → length ops ≤ at + 1
alone ops at h = omega (arith, ap length (part-rest ops at), length-drop at ops)

one_of_two : (n : ℕ) {m k : ℕ} → m ≡ k → n ≤ m → m < n + 2 → (k ≡ n) ⊎ (k ≡ n + 1)
one_of_two n {m} {k} e a b = by_cases (eqb k n) (λ h. inl (eqb-true k n h)) (λ h. let d = eqb-false k n h in inr (omega arith))

pub returns-in-23 : goal.returns-in-23
returns-in-23 c =
    rw (there c.args.ops.now c.args.at, c.nth-x.ensures)
    (left-calls c.args.ops.now c.args.values.now c.args.at c.args.height c.requires.0 (alone c.args.ops.now c.args.at c.in-len1.len_below)
    (one_of_two code_gosub (ap code_in (there c.args.ops.now c.args.at)) c.in-23.if-code-lt23-own.false c.in-23.if-code-lt25-own.true))

pub returns-in-31 : goal.returns-in-31
returns-in-31 c =
    rw (there c.args.ops.now c.args.at, c.nth-x.ensures)
    (left-loops c.args.ops.now c.args.values.now c.args.at c.args.height c.requires.0 (alone c.args.ops.now c.args.at c.in-len1.len_below)
    (one_of_two code_do (ap code_in (there c.args.ops.now c.args.at)) c.in-31.if-code-lt31-own.false c.in-31.if-code-lt33-own.true))

pub returns-in-33 : goal.returns-in-33
returns-in-33 c =
    rw (there c.args.ops.now c.args.at, c.nth-x.ensures, c.nth-y.ensures, c.nth-z.ensures)
    (left-counts c.args.ops.now c.args.values.now c.args.at c.args.height c.requires.0 (alone c.args.ops.now c.args.at c.in-len1.len_below)
    (one_of_two code_for (ap code_in (there c.args.ops.now c.args.at)) c.in-33.if-code-lt33-own.false c.in-33.if-code-lt35-own.true))
