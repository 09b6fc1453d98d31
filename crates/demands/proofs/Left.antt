-- What the code leaves. A call of the gate promises `left_all a s p m o t ≡ leaves take_line (lent_all ..)`, or `leaves continue_run`: the
-- answer, the record, the page, the memory, the output and the table that it leaves are what the definition leaves of all that it
-- was lent. So every theorem about that is one about what was left (`carried`); three of the demands' sentences are written out.
-- Assumes nothing.
use Prim.Native.Nat.{ℕ}
use mathlib.Core.Bool.{true}
use mathlib.Core.List.{List}
use mathlib.Core.Option.{some}
use mathlib.Core.Path.{◌≡◌, sym, subst}
use mathlib.Core.Logic.{◌⊎◌, ◌↔◌}
use Rattle.nibl.specs.Tree.{Typed}
use Rattle.nibl.specs.Typing.{Gathered}
use Rattle.nibl.specs.Readings.{LineReading}
use Rattle.nibl.specs.Lent.{Lent, Left, lent_all, left_all}
use Rattle.nibl.specs.Typing.{limit}
use Rattle.nibl.specs.Calls.{take_line, continue_run, leaves}
use Rattle.nibl.specs.declared.Session.{Session}
use Rattle.nibl.specs.declared.Call.{Call}
use Rattle.nibl.specs.declared.Answer.{Answer}
use Rattle.record.specs.Sound.{Sized}
use Rattle.demands.specs.Lent.{Numbered, gathered_line}
use Rattle.demands.specs.Good.{Unrefused}
use Rattle.demands.proofs.Numbers.{every-reply-is-numbered}
use Rattle.demands.proofs.ByGrammar.{exactly-5-by-grammar}

module _ (rec : Session) (page memory input output : List ℕ) (call : Call) (table : List ℕ) (a : Answer) (s : Session) (p m o t : List ℕ) where
  abbrev lent : Lent
  lent = lent_all rec page memory input output call table

  abbrev left : Left
  left = left_all a s p m o t

  -- any sentence P on what is lent and what is left, of any call
  pub carried : (F : Lent → Left) (P : Lent → Left → Type 0) → left ≡ F lent → P lent (F lent) → P lent left
  carried F P e h = subst (P lent) (sym e) h

  -- "each refusal has its number"
  pub left-numbered : left ≡ leaves take_line lent → Numbered left.outcome
  left-numbered e = carried (leaves take_line) (λ x u. Numbered u.outcome) e (every-reply-is-numbered lent).0

  pub continued-numbered : left ≡ leaves continue_run lent → Numbered left.outcome
  continued-numbered e = carried (leaves continue_run) (λ x u. Numbered u.outcome) e (every-reply-is-numbered lent).1

  -- "refused as bad grammar exactly when the written grammar gives it no reading", and where it is over-long
  pub left-exactly-5 : left ≡ leaves take_line lent → (g : Gathered) → Sized rec → Unrefused limit lent → gathered_line limit lent ≡ some g
      → (a.stop ≡ 5) ↔ ((g.line.long ≡ true) ⊎ ((y : Typed) → LineReading g.line.bytes y → ⊥))
  left-exactly-5 e g z f h =
      carried (leaves take_line) (λ x u. (u.outcome.answer.stop ≡ 5) ↔ ((g.line.long ≡ true) ⊎ ((y : Typed) → LineReading g.line.bytes y → ⊥))) e (exactly-5-by-grammar lent g z f h)
