-- One outcome: two ends of a call that meet its promise for the same lent things are equal, with all lent bytes. The promises are
-- those of `take_line` and `continue_run` themselves. Assumes nothing.
use Prim.Native.Nat.{ℕ}
use mathlib.Core.List.{List}
use mathlib.Core.Path.{◌≡◌, sym, ap, ◌∙◌}
use Rattle.nibl.specs.Lent.{Left, lent_all, left_all}
use Rattle.nibl.specs.Calls.{leaves, take_line, continue_run}
use Rattle.nibl.specs.declared.Session.{Session}
use Rattle.nibl.specs.declared.Call.{Call}
use Rattle.outcome.specs.declared.Ended.{Ended}
use Rattle.outcome.proofs.Determined.{end-determined}

module _ (rec : Session) (page memory input output : List ℕ) (call : Call) (table : List ℕ) (a b : Ended) (p p' m m' o o' t t' : List ℕ) where
  left-determined : (l : Left) → left_all a.answer a.session p m o t ≡ l → left_all b.answer b.session p' m' o' t' ≡ l
      → ((a ≡ b) × ((p ≡ p') × ((m ≡ m') × (o ≡ o')))) × (t ≡ t')
  left-determined l u v =
      (end-determined l.outcome a b p p' m m' o o' (ap (λ (k : Left). k.outcome) u) (ap (λ (k : Left). k.outcome) v), ap (λ (k : Left). k.table) (u ∙ sym v))

  pub take-determined : left_all a.answer a.session p m o t ≡ leaves take_line (lent_all rec page memory input output call table)
      → left_all b.answer b.session p' m' o' t' ≡ leaves take_line (lent_all rec page memory input output call table)
      → ((a ≡ b) × ((p ≡ p') × ((m ≡ m') × (o ≡ o')))) × (t ≡ t')
  take-determined u v = left-determined (leaves take_line (lent_all rec page memory input output call table)) u v

  pub continue-determined : left_all a.answer a.session p m o t ≡ leaves continue_run (lent_all rec page memory input output call table)
      → left_all b.answer b.session p' m' o' t' ≡ leaves continue_run (lent_all rec page memory input output call table)
      → ((a ≡ b) × ((p ≡ p') × ((m ≡ m') × (o ≡ o')))) × (t ≡ t')
  continue-determined u v = left-determined (leaves continue_run (lent_all rec page memory input output call table)) u v
